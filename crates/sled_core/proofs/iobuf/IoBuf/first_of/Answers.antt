use Rattle.std.proofs.Common.{◌<◌, ◌≤◌, subst, arith, List, length, drop, max}
use Rattle.std.specs.List.{All}
use Rattle.std.specs.List.Sorted.{IsPartitionPoint}
use Rattle.sled_core.specs.declared.iobuf.Reserved.{Reserved}
use Rattle.sled_core.specs.declared.iobuf.Sealed.{Sealed}
use Rattle.sled_core.specs.inside.Buffers.{IsChain}
use Rattle.sled_core.specs.SealedBuffers.{sealed_count}
use Rattle.sled_core.proofs.Sealed.Around.{count_within, first_index, from_in_order, whole_chain}
use Rattle.sled_core.proofs.iobuf.IoBuf.first_of.Goals as goal

pub returns : goal.returns
returns c =
    let b = c.args.self.now in
    let rs : List Reserved = b.reserved.items in
    let bs : List Sealed = b.sealed.items in
    let at = b.begins in
    let before = b.before in
    let parted = b.parted in
    let few = count_within bs c.args.k in
    let current : IsChain (max 20 b.begin) (drop b.first rs) (length b.bytes.items) = b.chain in
    let chain = whole_chain b.written_len rs bs (length b.bytes.items) b.are (subst (λ n. IsChain (max 20 n) (drop (sealed_count bs) rs) (length b.bytes.items)) at (subst (λ n. IsChain (max 20 b.begin) (drop n rs) (length b.bytes.items)) before current)) in
    let long : All (λ r. 0 < r.len) rs = λ k d lt. (b.headed k d lt).0 in
    let point = c.begun_before.ensures.point (from_in_order (max 20 b.written_len) (length b.bytes.items) rs chain) in
    first_index b.written_len rs bs c.args.k c.begun_before.result (length b.bytes.items) b.are chain long (omega (arith, few, before, parted)) c.begun_before.ensures.bound
    (subst (λ n. IsPartitionPoint (λ (r : Reserved). r.from < n) (λ (r : Reserved). n ≤ r.from) rs c.begun_before.result) c.span-from.ensures.from point)
