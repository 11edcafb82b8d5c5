use Rattle.std.proofs.Common.{subst, sym}
use Rattle.std.specs.List.Sorted.{IsStrictlySortedBy}
use Rattle.std.specs.Map.{keys_of}
use Rattle.sled_store.proofs.Sorted.SortedLemmas.{sorted_nil}
use Rattle.sled_store.proofs.segment.sorted.map.SortedMap.new.Goals as goal

pub invariant_of-result : goal.invariant_of-result
invariant_of-result g c = subst (λ es. IsStrictlySortedBy g.K.Ord.cmp (keys_of es)) (sym c.new.ensures.items) (sorted_nil g.K.Ord.cmp)
