use Rattle.std.proofs.Common.{◌≡◌, ◌<◌, ◌≤◌, map, rules, subst, sym}
use Rattle.std.specs.List.Sorted.{IsPartitionPoint}
use Rattle.std.proofs.lemmas.Bool.{ltb-false}
use Rattle.std.proofs.lemmas.List.Sorted.{IsPartitionPoint-from_clause, IsPartitionedBy-ltb}
use borrow.Author.Tests.{ltb-true}
use lib.Dec.{ltb}
use Rattle.sled_core.specs.declared.logger.batches.NotedBatch.{NotedBatch}
use Rattle.sled_core.specs.inside.OpenBatches.{AreByPlace}
use Rattle.sled_core.specs.OpenBatches.{batch_of}
use Rattle.sled_core.proofs.Reached.Searched.{lows_rise}
use Rattle.sled_core.proofs.logger.batches.PendingBatches.begun_before.Goals as goal

pub returns-clause-point : goal.returns-clause-point
returns-clause-point c =
    let xs = c.deref.result.now in
    let same : xs ≡ c.args.self.now.noted.items = c.deref.ensures.value in
    let point = IsPartitionPoint-from_clause (λ (b : NotedBatch). ltb b.low c.args.place) xs _ c.partition_point.ensures.partitioned
    (IsPartitionedBy-ltb (λ (b : NotedBatch). b.low) xs c.args.place (lows_rise 0 xs (subst (λ l. AreByPlace 0 (map batch_of l)) (sym same) c.args.self.now.by_place))) (λ a r q k. search rules) in
    subst (λ l. IsPartitionPoint (λ (b : NotedBatch). b.low < c.args.place) (λ (b : NotedBatch). c.args.place ≤ b.low) l c.partition_point.result) same
    (λ k d low high. ltb-true _ _ (point.0 k d low high), λ k d low high. ltb-false _ _ (point.1 k d low high))
