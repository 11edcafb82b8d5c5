use Rattle.std.proofs.Common.{subst, sym}
use Rattle.std.specs.List.Sorted.{IsStrictlySortedBy}
use Rattle.sled_store.proofs.Sorted.SortedLemmas.{sorted_nil}
use Rattle.sled_store.proofs.segment.sorted.set.SortedSet.clear.Goals as goal

pub invariant_of-self : goal.invariant_of-self
invariant_of-self g c = subst (IsStrictlySortedBy g.K.Ord.cmp) (sym c.clear.ensures.items) (sorted_nil g.K.Ord.cmp)
