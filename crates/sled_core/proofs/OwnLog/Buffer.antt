-- A sealed buffer in which all reservations have ended, once it is written: a reader reads its records, from the first one to its end, unless it fills the segment.
use Rattle.std.proofs.Common.{◌≡◌, ◌∙◌, ◌≤◌, ◌<◌, ◌+◌, ◌/◌, ◌%◌, ◌^◌, ℕ, max, true, List, [], ◌∷◌, ◌++◌, length, take, drop, nat_eq, sym, subst, arith}
use Rattle.std.specs.List.{All}
use Rattle.std.proofs.lemmas.Bool.Decides.{nat_tests}
use Rattle.std.proofs.lemmas.List.Elements.{All-cons, All-drop, All-head, All-tail, All-take}
use Rattle.sled_codec.specs.Places.{part}
use Rattle.sled_store.specs.Device.{overwritten}
use Rattle.sled_store.specs.Readers.{ReadsTo}
use Rattle.sled_core.specs.declared.iobuf.ReservationState.{ReservationState}
use Rattle.sled_core.specs.declared.iobuf.Reserved.{Reserved}
use Rattle.sled_core.specs.declared.iobuf.Sealed.{Sealed}
use Rattle.sled_core.specs.declared.iobuf.SegmentPosition.{SegmentPosition}
use Rattle.sled_core.specs.inside.Buffers.{IsChain, NoPadding, Stands, StandsBy}
use Rattle.sled_core.specs.Buffers.{none_open, open_in}
use Rattle.sled_core.specs.inside.SealedBuffers.{AreSealed, IsSealed}
use Rattle.sled_core.specs.SealedBuffers.{bytes_between, sealed_count, sealed_end}
use Rattle.sled_core.proofs.OwnLog.Paths.{path_reads}
use Rattle.sled_core.proofs.Reached.BufferPath.{path_to}
use Rattle.sled_core.proofs.Reached.BufferStands.{met_in}
use Rattle.sled_core.proofs.Reserve.OpenCounts.{ended_is}
use Rattle.sled_core.proofs.Reserve.Ranges.{chain_grows}
use Rattle.sled_core.proofs.Sealed.LaidLemmas.{EndsRise}
use Rattle.sled_core.proofs.Sealed.OneWritten.{has_written, sealed_at}

-- In a buffer that ends within its segment nothing fills that.
no_padding : (sum : List ℕ → ℕ) (size number : ℕ) (bytes : List ℕ) (at end : ℕ) (rs : List Reserved) → end < size → IsChain at rs end → All (Stands sum size number bytes) rs → All NoPadding rs
no_padding sum size number bytes at end [] low chain stand = λ j d lt. absurd (omega (arith, lt))
no_padding sum size number bytes at end (r ∷ rs) low chain stand =
    All-cons NoPadding r rs
    (λ filled.
    let fills = subst (λ (s : ReservationState). StandsBy s sum size number bytes r) filled (All-head (Stands sum size number bytes) r rs stand) in
    let to_end = fills.to_end in
    let up = chain_grows (at + r.len) end rs chain.1 in
    let here = chain.0 in
    absurd (omega (arith, to_end, up, here, low)))
    (no_padding sum size number bytes (at + r.len) end rs low chain.1 (All-tail (Stands sum size number bytes) r rs stand))

module _ (sum : List ℕ → ℕ) (size : ℕ) (site : SegmentPosition) (log bytes : List ℕ) (from : ℕ) (rs : List Reserved) (front : List Sealed) (b : Sealed) (rest : List Sealed)
    (place_begins : site.place % size ≡ 0) (slot_begins : site.slot % size ≡ 0) (place_small : site.place + size < 2 ^ 63) (slot_small : site.slot + size < 2 ^ 63)
    (are : AreSealed from rs (front ++ b ∷ rest)) (rise : EndsRise from (front ++ b ∷ rest) size) (inside : b.end ≤ length bytes) (closed : b.open_count ≡ 0) (stand : All (Stands sum size (site.place / size) bytes) rs) where
  -- where it begins, and its bytes
  abbrev pub at : ℕ
  at = sealed_end from front

  abbrev pub asked : List ℕ
  asked = bytes_between bytes at b.end

  abbrev new : List ℕ
  new = overwritten log (site.slot + at) asked

  -- its reservations
  abbrev own : List Reserved
  own = take b.count (drop (sealed_count front) rs)

  sealed_so : IsSealed at own b
  sealed_so = sealed_at from rs front b rest are

  own_stand : All (Stands sum size (site.place / size) bytes) own
  own_stand = All-take (Stands sum size (site.place / size) bytes) b.count (drop (sealed_count front) rs) (All-drop (Stands sum size (site.place / size) bytes) (sealed_count front) rs stand)

  own_closed : none_open own ≡ true
  own_closed =
      let none : open_in own ≡ 0 = sym sealed_so.still_open ∙ closed in
      let zero_is : nat_eq (open_in own) 0 ≡ true = grind (arith, nat_tests, none) in
      sym (ended_is own) ∙ zero_is

  pub behind_header : max 20 at ≤ b.end
  behind_header = chain_grows (max 20 at) b.end own sealed_so.chain

  pub reads_all : b.end < size → ReadsTo sum size (site.place / size) (part new site.slot size) (max 20 at) b.end
  reads_all low =
      path_reads sum size new site.slot site.place (max 20 at) (met_in site bytes own) b.end slot_begins
      (path_to sum size site new bytes at b.end (has_written log site.slot bytes from front b rest size rise inside) (omega (arith, low)) place_begins slot_begins place_small slot_small own sealed_so.chain own_stand
      (no_padding sum size (site.place / size) bytes (max 20 at) b.end own low sealed_so.chain own_stand) own_closed)
