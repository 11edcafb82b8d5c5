-- No slot is being drained.
use Rattle.std.proofs.Common.{◌<◌, ◌*◌, ◌^◌, length, sym, subst, arith}
use Rattle.std.specs.List.{All}
use Rattle.std.specs.List.Sorted.{IsStrictlySortedBy}
use Rattle.std.specs.Ordering.{nat_cmp}
use Rattle.sled_store.proofs.Sorted.SortedLemmas.{sorted_nil}
use Rattle.sled_store.proofs.segment.cleaner.SegmentCleaner.new.Goals as goal

pub invariant_of-result : goal.invariant_of-result
invariant_of-result c = record {
  ascending = subst (IsStrictlySortedBy nat_cmp) (sym c.new.ensures) (sorted_nil nat_cmp);
  within = subst (All (λ k. k < length c.new-2.result.items)) (sym c.new.ensures) (λ k d lt. absurd (omega arith));
  in_reach = subst (All (λ k. k * c.args.size < 2 ^ 63)) (sym c.new.ensures) (λ k d lt. absurd (omega arith));
}
