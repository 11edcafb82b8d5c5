-- A key that was found is taken out, and another was not there.
use Rattle.std.proofs.Common.{◌∙◌, sym, ap, subst}
use Rattle.std.specs.List.{remove}
use Rattle.std.specs.List.Sorted.{IsStrictlySortedBy}
use Rattle.std.specs.BTreeMap.{is_at}
use Rattle.std.specs.Map.{keys_of}
use Rattle.sled_store.proofs.Sorted.SortedLemmas.{sorted_remove, missing_any}
use Rattle.sled_store.proofs.Sorted.EntryLemmas.{found_taken, missing_taken, keys_removed}
use Rattle.sled_store.proofs.segment.sorted.map.SortedMap.remove.Goals as goal

pub returns-in-Ok-clause-entries : goal.returns-in-Ok-clause-entries
returns-in-Ok-clause-entries g c =
    c.remove.ensures.items
    ∙ ap (λ s. remove s.0 c.in-Ok.at) c.self.view_is
    ∙ found_taken g.met.K.Ord.total c.args.key c.args.self.now.0 c.in-Ok.at c.find.ensures.ascending c.in-Ok.ensures.within c.in-Ok.ensures.found

pub returns-in-Err-clause-entries : goal.returns-in-Err-clause-entries
returns-in-Err-clause-entries g c =
    sym (missing_taken (is_at (g.K.Ord.cmp c.args.key)) c.args.self.now.0
    (missing_any g.met.K.Ord.total c.args.key (keys_of c.args.self.now.0) c.in-Err.field-0 c.in-Err.ensures.missing))

pub invariant_of-self : goal.invariant_of-self
invariant_of-self g c =
    let test = is_at (g.K.Ord.cmp c.args.key) in
    subst (IsStrictlySortedBy g.K.Ord.cmp) (sym (ap (λ es. keys_of es) (returns-in-Ok-clause-entries g c) ∙ keys_removed test c.args.self.now.0))
    (sorted_remove g.met.K.Ord.total c.args.key test (keys_of c.args.self.now.0) c.find.ensures.ascending)
