use Rattle.std.proofs.Common.{rules}
use Rattle.std.proofs.lemmas.Bool.{leb-false}
use Rattle.std.proofs.lemmas.List.Sorted.{IsPartitionPoint-from_clause, IsPartitionedBy-leb}
use borrow.Author.Tests.{leb-true}
use lib.Dec.{leb}
use Rattle.sled_core.specs.declared.iobuf.Sealed.{Sealed}
use Rattle.sled_core.proofs.iobuf.sealing.ended_before.Goals as goal

pub returns : goal.returns
returns c ordered =
    let point = IsPartitionPoint-from_clause (λ (b : Sealed). leb b.end c.args.from) c.args.sealed.now.items _ c.partition_point.ensures.partitioned
    (IsPartitionedBy-leb (λ (b : Sealed). b.end) c.args.sealed.now.items c.args.from ordered) (λ a r q k. search rules) in
    (λ k d low high. leb-true _ _ (point.0 k d low high), λ k d low high. leb-false _ _ (point.1 k d low high))
