use Rattle.std.proofs.Common.{rules, ℤ, int_le}
use Rattle.std.proofs.lemmas.List.Sorted.{IsPartitionPoint-from_clause}
use Rattle.sled_core.proofs.Stable.Waiting.{parted, int_le-true, int_le-false}
use Rattle.sled_core.proofs.iobuf.intervals.ended_by.Goals as goal

pub returns-clause-below : goal.returns-clause-below
returns-clause-below c ord k d low high =
    let point = IsPartitionPoint-from_clause (λ (b : ℤ × ℤ). int_le b.1 c.args.place) _ _ c.partition_point.ensures.partitioned (parted c.args.place _ ord) (λ a r q k. search rules) in
    int_le-true _ _ (point.0 k d low high)

pub returns-clause-above : goal.returns-clause-above
returns-clause-above c ord k d low high =
    let point = IsPartitionPoint-from_clause (λ (b : ℤ × ℤ). int_le b.1 c.args.place) _ _ c.partition_point.ensures.partitioned (parted c.args.place _ ord) (λ a r q k. search rules) in
    int_le-false _ _ (point.1 k d low high)
