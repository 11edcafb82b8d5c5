use Rattle.std.proofs.Common.{sym, subst}
use Rattle.std.specs.List.Sorted.{IsStrictlySortedBy}
use Rattle.sled_store.proofs.Sorted.SortedLemmas.{sorted_rest}
use Rattle.sled_store.proofs.segment.sorted.set.SortedSet.take_first.Goals as goal

pub invariant_of-self : goal.invariant_of-self
invariant_of-self g c =
    subst (IsStrictlySortedBy g.K.Ord.cmp) (sym c.remove.ensures.items) (sorted_rest g.K.Ord.cmp c.self.inside.items.0 c.self.invariant)
