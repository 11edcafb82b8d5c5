-- A key that was found is taken out, and another was not there.
use Rattle.std.proofs.Common.{◌∙◌, sym, ap, subst}
use Rattle.std.specs.List.{remove}
use Rattle.std.specs.List.Sorted.{IsStrictlySortedBy}
use Rattle.std.specs.BTreeMap.{is_at}
use Rattle.sled_store.proofs.Sorted.SortedLemmas.{sorted_remove, found_remove, missing_any, missing_remove}
use Rattle.sled_store.proofs.segment.sorted.set.SortedSet.remove.Goals as goal

pub returns-in-Ok-clause-keys : goal.returns-in-Ok-clause-keys
returns-in-Ok-clause-keys g c =
    c.remove.ensures.items
    ∙ ap (λ s. remove s.0 c.in-Ok.at) c.self.view_is
    ∙ found_remove g.met.K.Ord.total c.args.key c.args.self.now.0 c.in-Ok.at c.find.ensures.ascending c.in-Ok.ensures.within c.in-Ok.ensures.found

pub returns-in-Err-clause-keys : goal.returns-in-Err-clause-keys
returns-in-Err-clause-keys g c =
    sym (missing_remove g.met.K.Ord.total c.args.key c.args.self.now.0 (missing_any g.met.K.Ord.total c.args.key c.args.self.now.0 c.in-Err.field-0 c.in-Err.ensures.missing))

pub invariant_of-self : goal.invariant_of-self
invariant_of-self g c =
    subst (IsStrictlySortedBy g.K.Ord.cmp) (sym (returns-in-Ok-clause-keys g c)) (sorted_remove g.met.K.Ord.total c.args.key (is_at (g.K.Ord.cmp c.args.key)) c.args.self.now.0 c.find.ensures.ascending)
