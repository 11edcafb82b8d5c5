-- All batches of a history with one more are placed, where those that were are, the new one begins where a record can, and each of the others ends in front of it or begins behind it; and an open reservation begins where a record can.
use Rattle.std.proofs.Common.{◌≡◌, ◌⊎◌, ◌≤◌, ◌<◌, ◌+◌, ◌/◌, ◌%◌, ℕ, max, List, length, Option, Some, sym, ap, subst, arith, inl, inr}
use Rattle.std.specs.List.{Contains, slice_get}
use Rattle.std.specs.declared.io.Error.{Error as IoError}
use Rattle.sled_codec.specs.History.{AddsBatch, Batch, History, Message}
use Rattle.sled_store.specs.Device.{State}
use Rattle.sled_core.specs.declared.iobuf.ReservationState.TheVariants.{Open}
use Rattle.sled_core.specs.declared.iobuf.Reserved.{Reserved}
use Rattle.sled_core.specs.declared.iobuf.Sealed.{Sealed}
use Rattle.sled_core.specs.declared.iobuf.SegmentPosition.{SegmentPosition}
use Rattle.sled_core.specs.inside.Buffers.{Stands}
use Rattle.sled_core.specs.inside.Fits.{HoldsSegment, log_parts}
use Rattle.sled_core.specs.inside.Recoverable.{BeginsInSegment, IsPlacedBatch}
use Rattle.sled_core.proofs.Reached.AddedBatch.{was_or_batch}
use Rattle.sled_core.proofs.Read.ScanLemmas.{aligned_offset}
use Rattle.sled_core.proofs.Reserve.Entries.{open_plain, reserved_in}
use Rattle.sled_core.proofs.Reserve.Ranges.{at_there, chain_within}

module _ (size : ℕ) (H H' : History) (b : Batch) (adds : AddsBatch H b H') (placed : (c : Batch) → Contains H.batches c → IsPlacedBatch size H c) (begins : BeginsInSegment size b.low)
    (alone : (c : Batch) → Contains H.batches c → c.low ≡ b.low → ⊥) (apart : (c : Batch) → Contains H.batches c → (c.peg < b.low) ⊎ (b.peg < c.low)) where
  -- the new one
  this_placed : IsPlacedBatch size H' b
  this_placed = record {
    begins = begins;
    alone = λ d there same. elim (was_or_batch H H' b adds d there) [ inl was ↦ absurd (alone d was same) | inr own ↦ sym own ];
    nested = λ d there above within. elim (was_or_batch H H' b adds d there) [
      | inl was ↦ elim (apart d was) [ inl before ↦ (let later = adds.pegged in omega (arith, before, later)) | inr behind ↦ absurd (omega (arith, behind, within)) ]
      | inr own ↦ absurd (omega (arith, ap (λ (x : Batch). x.low) own, above))
    ];
  }

  -- one of those that were
  other_placed : (c : Batch) → Contains H.batches c → IsPlacedBatch size H' c
  other_placed c among = record {
    begins = (placed c among).begins;
    alone = λ d there same. elim (was_or_batch H H' b adds d there) [ inl was ↦ (placed c among).alone d was same | inr own ↦ absurd (alone c among (let low = ap (λ (x : Batch). x.low) own in omega (arith, low, same))) ];
    nested = λ d there above within. elim (was_or_batch H H' b adds d there) [
      | inl was ↦ (placed c among).nested d was above within
      | inr own ↦ (
          let low = ap (λ (x : Batch). x.low) own in
          let later = adds.pegged in
          elim (apart c among) [ inl before ↦ absurd (omega (arith, before, low, within)) | inr behind ↦ absurd (omega (arith, behind, low, above, later)) ])
    ];
  }

  pub placed-with : (c : Batch) → Contains H'.batches c → IsPlacedBatch size H' c
  placed-with c there = elim (was_or_batch H H' b adds c there) [ inl was ↦ other_placed c was | inr own ↦ subst (λ (x : Batch). IsPlacedBatch size H' x) own this_placed ]

-- A record can begin where an open reservation of a segment does.
pub begins_there : (sum : List ℕ → ℕ) (size : ℕ) (site : SegmentPosition) (device : State) (fault : Option IoError) (bytes : List ℕ) (from : ℕ) (bs : List Sealed) (rs : List Reserved) (H : History) {stays : Message → Type 0}
    → HoldsSegment sum (log_parts size site device fault bytes from bs rs) stays H → (i : ℕ) (r : Reserved) → slice_get rs i ≡ Some r → r.state ≡ Open → BeginsInSegment size (site.place + r.from)
begins_there sum size site device fault bytes from bs rs H holds i r there is_open =
    let lies = at_there (λ z. (max 20 from ≤ z.from) × (z.from + z.len ≤ length bytes)) rs i r there (chain_within (max 20 from) (length bytes) rs holds.records.chain) in
    let room = (reserved_in sum size (site.place / size) bytes r (open_plain r.state is_open) (at_there (Stands sum size (site.place / size) bytes) rs i r there holds.records.stand)).room in
    let offset : (site.place + r.from) % size ≡ r.from = aligned_offset site.place r.from size holds.records.place_begins (omega (arith, room)) in
    record { behind = omega (arith, offset, lies.0); room = omega (arith, offset, room) }
