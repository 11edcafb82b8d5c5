use Rattle.std.proofs.Common.{◌<◌, ◌≤◌, ltb, ltb-true, ltb-false, arith, rules, List}
use Rattle.std.proofs.lemmas.List.Sorted.{IsPartitionPoint-from_clause, IsPartitionedBy-ltb}
use Rattle.sled_core.specs.declared.iterator.Segment.{Segment}
use Rattle.sled_log.proofs.Passes.Ascending.{sorted_by_place, all_taken, all_dropped}
use Rattle.sled_log.proofs.snapshot.tail.count_below.Goals as goal

pub returns-clause-below : goal.returns-clause-below
returns-clause-below c =
    let ss : List Segment = c.args.segments.now in
    let parted = IsPartitionedBy-ltb (λ (s : Segment). s.place) ss c.args.begin (sorted_by_place ss c.requires) in
    let point = IsPartitionPoint-from_clause (λ (s : Segment). ltb s.place c.args.begin) _ _ c.partition_point.ensures.partitioned parted (λ a r q k. search rules) in
    all_taken (λ (s : Segment). s.place < c.args.begin) ss c.partition_point.result (λ k d h lt. ltb-true _ _ (point.0 k d (omega arith) h))

pub returns-clause-above : goal.returns-clause-above
returns-clause-above c =
    let ss : List Segment = c.args.segments.now in
    let parted = IsPartitionedBy-ltb (λ (s : Segment). s.place) ss c.args.begin (sorted_by_place ss c.requires) in
    let point = IsPartitionPoint-from_clause (λ (s : Segment). ltb s.place c.args.begin) _ _ c.partition_point.ensures.partitioned parted (λ a r q k. search rules) in
    all_dropped (λ (s : Segment). c.args.begin ≤ s.place) ss c.partition_point.result (λ k d h lt. ltb-false _ _ (point.1 k d h lt))
