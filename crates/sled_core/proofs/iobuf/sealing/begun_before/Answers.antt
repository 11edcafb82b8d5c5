use Rattle.std.proofs.Common.{rules}
use Rattle.std.proofs.lemmas.Bool.{ltb-false}
use Rattle.std.proofs.lemmas.List.Sorted.{IsPartitionPoint-from_clause, IsPartitionedBy-ltb}
use borrow.Author.Tests.{ltb-true}
use lib.Dec.{ltb}
use Rattle.sled_core.specs.declared.iobuf.Reserved.{Reserved}
use Rattle.sled_core.proofs.iobuf.sealing.begun_before.Goals as goal

pub returns-clause-point : goal.returns-clause-point
returns-clause-point c ordered =
    let point = IsPartitionPoint-from_clause (λ (r : Reserved). ltb r.from c.args.from) c.args.reserved.now.items _ c.partition_point.ensures.partitioned
    (IsPartitionedBy-ltb (λ (r : Reserved). r.from) c.args.reserved.now.items c.args.from ordered) (λ a r q k. search rules) in
    (λ k d low high. ltb-true _ _ (point.0 k d low high), λ k d low high. ltb-false _ _ (point.1 k d low high))
