-- The first buffer that ends behind where the reservation begins has it, and waits for it.
use Rattle.std.proofs.Common.{◌≡◌, ◌≤◌, ◌<◌, ◌∙◌, ap, rules, arith, ℕ, List, set}
use Rattle.std.specs.List.Sorted.{IsNonDecreasingBy, IsPartitionPoint}
use Rattle.std.proofs.lemmas.Option.{slice_get_within}
use Rattle.sled_core.specs.declared.iobuf.Reserved.{Reserved}
use Rattle.sled_core.specs.declared.iobuf.Sealed.{Sealed}
use Rattle.sled_core.specs.inside.SealedBuffers.{HasOpenAt, one_fewer}
use Rattle.sled_core.proofs.Reserve.Parts.{get_there}
use Rattle.sled_core.proofs.Sealed.InBuffer.{Waits, ends_in_order, waits_first}
use Rattle.sled_core.proofs.iobuf.sealing.end_sealed.Goals as goal

waits : (at index from : ℕ) (rs : List Reserved) (bs : List Sealed) (k : ℕ) → HasOpenAt at rs index from bs
    → (IsNonDecreasingBy (λ (b : Sealed). b.end) bs → IsPartitionPoint (λ (b : Sealed). b.end ≤ from) (λ (b : Sealed). from < b.end) bs k) → Waits bs k index
waits at index from rs bs k has point = waits_first at rs index from bs k has (point (ends_in_order at rs bs has.are))

pub index_mut-requires : goal.index_mut-requires
index_mut-requires c =
    let some = c.requires.some in
    let at = waits some.0 some.1 c.args.from some.2 c.args.sealed.now.items c.ended_before-k.result some.3 c.ended_before-k.ensures in
    let within = slice_get_within c.args.sealed.now.items c.ended_before-k.result at.buffer at.there in
    search (rules, within)

pub overflow_sub-index_mut : goal.overflow_sub-index_mut
overflow_sub-index_mut c =
    let some = c.requires.some in
    let at = waits some.0 some.1 c.args.from some.2 c.args.sealed.now.items c.ended_before-k.result some.3 c.ended_before-k.ensures in
    let same : c.index_mut.result.now ≡ at.buffer = c.index_mut.ensures.value ∙ get_there c.args.sealed.now.items c.ended_before-k.result at.buffer c.index_mut.result.now at.there in
    let count = ap (λ (b : Sealed). b.open_count) same in
    let waiting = at.some in
    omega (arith, count, waiting)

pub returns : goal.returns
returns c at index rs has =
    let bs : List Sealed = c.args.sealed.now.items in
    let its = waits at index c.args.from rs bs c.ended_before-k.result has c.ended_before-k.ensures in
    let same : c.index_mut.result.now ≡ its.buffer = c.index_mut.ensures.value ∙ get_there bs c.ended_before-k.result its.buffer c.index_mut.result.now its.there in
    ap (λ (b : Sealed). set bs c.ended_before-k.result (one_fewer b)) same ∙ its.fewer
