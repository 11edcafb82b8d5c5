-- A key that was found changes nothing, and another goes where the search ended.
use Rattle.std.proofs.Common.{◌∙◌, ◌<◌, length, sym, ap, subst}
use Rattle.std.specs.List.{insert}
use Rattle.std.specs.List.Sorted.{IsStrictlySortedBy}
use Rattle.sled_store.proofs.Sorted.SortedLemmas.{sorted_insert, found_insert, missing_any, missing_insert, room_left}
use Rattle.sled_store.proofs.segment.sorted.set.SortedSet.insert.Goals as goal

pub returns-in-Ok-clause-keys : goal.returns-in-Ok-clause-keys
returns-in-Ok-clause-keys g c =
    sym (found_insert g.met.K.Ord.total c.args.key c.args.self.now.0 c.in-Ok.field-0 c.find.ensures.ascending c.in-Ok.ensures.within c.in-Ok.ensures.found)

pub insert-requires-clause-room : goal.insert-requires-clause-room
insert-requires-clause-room g c =
    let lacks = missing_any g.met.K.Ord.total c.args.key c.args.self.now.0 c.in-Err.at c.in-Err.ensures.missing in
    subst (λ s. length s.0 < s.1) (sym c.self.view_is) (room_left _ _ _ c.requires lacks)

pub returns-in-Err-clause-keys : goal.returns-in-Err-clause-keys
returns-in-Err-clause-keys g c =
    c.insert.ensures.items
    ∙ ap (λ s. insert s.0 c.in-Err.at c.args.key) c.self.view_is
    ∙ missing_insert g.met.K.Ord.total c.args.key c.args.self.now.0 c.in-Err.at c.in-Err.ensures.within c.in-Err.ensures.missing

pub invariant_of-self : goal.invariant_of-self
invariant_of-self g c =
    subst (IsStrictlySortedBy g.K.Ord.cmp) (sym (returns-in-Err-clause-keys g c)) (sorted_insert g.met.K.Ord.total c.args.key c.args.self.now.0 c.find.ensures.ascending)
