-- A key that was found takes the value, and another goes where the search ended.
use Rattle.std.proofs.Common.{◌≡◌, ◌∙◌, ◌<◌, get_or, set, length, sym, ap, subst}
use Rattle.std.specs.List.{insert}
use Rattle.std.specs.List.Sorted.{IsStrictlySortedBy}
use Rattle.std.specs.Map.{keys_of}
use Rattle.sled_store.proofs.Sorted.SortedLemmas.{sorted_insert, missing_any, room_left}
use Rattle.sled_store.proofs.Sorted.EntryLemmas.{found_set, missing_put, keys_inserted}
use Rattle.sled_store.proofs.segment.sorted.map.SortedMap.insert.Goals as goal

pub insert-requires-clause-room : goal.insert-requires-clause-room
insert-requires-clause-room g c =
    let lacks = missing_any g.met.K.Ord.total c.args.key (keys_of c.args.self.now.0) c.in-Err.at c.in-Err.ensures.missing in
    subst (λ s. length s.0 < s.1) (sym c.self.view_is) (room_left _ _ _ c.requires lacks)

pub returns-in-Ok-clause-entries : goal.returns-in-Ok-clause-entries
returns-in-Ok-clause-entries g c =
    let e = c.index-as_slice-at.result in
    let i = c.in-Ok.at in
    let at : e ≡ get_or c.args.self.now.0 i e = subst (λ l. e ≡ get_or l i e) (c.as_slice.ensures ∙ ap (λ s. s.0) c.self.view_is) c.index-as_slice-at.is in
    c.set.ensures.items
    ∙ ap (λ p. set c.self.inside.entries.0 i (p.0, c.args.value)) (sym c.index-as_slice-at.is)
    ∙ ap (λ s. set s.0 i (e.0, c.args.value)) c.self.view_is
    ∙ found_set g.met.K.Ord.total c.args.key c.args.self.now.0 i e c.args.value c.find.ensures.ascending c.in-Ok.ensures.within c.in-Ok.ensures.found at

pub returns-in-Err-clause-entries : goal.returns-in-Err-clause-entries
returns-in-Err-clause-entries g c =
    c.insert.ensures.items
    ∙ ap (λ s. insert s.0 c.in-Err.at (c.args.key, c.args.value)) c.self.view_is
    ∙ missing_put g.met.K.Ord.total c.args.key c.args.self.now.0 c.in-Err.at c.args.value c.in-Err.ensures.within c.in-Err.ensures.missing

pub invariant_of-self-in-Err : goal.invariant_of-self-in-Err
invariant_of-self-in-Err g c =
    subst (IsStrictlySortedBy g.K.Ord.cmp) (sym (ap (λ es. keys_of es) (returns-in-Err-clause-entries g c) ∙ keys_inserted g.K.Ord.cmp c.args.key c.args.value c.args.self.now.0))
    (sorted_insert g.met.K.Ord.total c.args.key (keys_of c.args.self.now.0) c.find.ensures.ascending)

pub invariant_of-self : goal.invariant_of-self
invariant_of-self g c =
    subst (IsStrictlySortedBy g.K.Ord.cmp) (sym (ap (λ es. keys_of es) (returns-in-Ok-clause-entries g c) ∙ keys_inserted g.K.Ord.cmp c.args.key c.args.value c.args.self.now.0))
    (sorted_insert g.met.K.Ord.total c.args.key (keys_of c.args.self.now.0) c.find.ensures.ascending)
