use Rattle.std.proofs.Common.{subst, sym}
use Rattle.std.specs.List.Sorted.{IsStrictlySortedBy}
use Rattle.sled_store.proofs.Sorted.SortedLemmas.{sorted_nil}
use Rattle.sled_store.proofs.segment.sorted.set.SortedSet.new.Goals as goal

pub invariant_of-result : goal.invariant_of-result
invariant_of-result g c = subst (IsStrictlySortedBy g.K.Ord.cmp) (sym c.new.ensures.items) (sorted_nil g.K.Ord.cmp)
