-- The search finds a key exactly where it is there.
use Rattle.std.proofs.Common.{◌≡◌, ◌∙◌, Some, get_or, sym, ap, subst}
use Rattle.std.specs.BTreeMap.{is_at}
use Rattle.std.specs.Map.{keys_of}
use Rattle.sled_store.proofs.Sorted.SortedLemmas.{missing_any}
use Rattle.sled_store.proofs.Sorted.EntryLemmas.{found_value, missing_value}
use Rattle.sled_store.proofs.segment.sorted.map.SortedMap.get.Goals as goal

pub returns-in-Ok : goal.returns-in-Ok
returns-in-Ok g c =
    let e = c.index-entries-at.result in
    let at : e ≡ get_or c.args.self.now.0 c.in-Ok.at e = subst (λ l. e ≡ get_or l c.in-Ok.at e) c.entries.ensures.entries c.index-entries-at.is in
    ap (λ p. Some p.1) (sym c.index-entries-at.is)
    ∙ found_value g.met.K.Ord.total c.args.key c.args.self.now.0 c.in-Ok.at e c.find.ensures.ascending c.in-Ok.ensures.within c.in-Ok.ensures.found at

pub returns-in-Err : goal.returns-in-Err
returns-in-Err g c =
    missing_value (is_at (g.K.Ord.cmp c.args.key)) c.args.self.now.0
    (missing_any g.met.K.Ord.total c.args.key (keys_of c.args.self.now.0) _ c.in-Err.ensures.missing)
