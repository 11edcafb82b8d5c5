-- A log goes on fitting its history at the mark of a batch whose manifest lies in the first segment: it fits the history with the batch.
use Rattle.std.proofs.Common.{◌≡◌, ◌∙◌, ◌≤◌, ◌<◌, ◌+◌, ℕ, List, length, map, Option, None, arith}
use Rattle.std.specs.List.{All, Contains}
use Rattle.std.specs.declared.io.Error.{Error as IoError}
use Rattle.sled_codec.specs.History.{AddsBatch, Batch, History, Message}
use Rattle.sled_codec.specs.Snapshots.{SnapshotModel}
use Rattle.sled_store.specs.Device.{State}
use Rattle.sled_core.specs.declared.iobuf.Reserved.{Reserved}
use Rattle.sled_core.specs.declared.iobuf.Sealed.{Sealed}
use Rattle.sled_core.specs.declared.iobuf.SegmentPosition.{SegmentPosition}
use Rattle.sled_core.specs.Begun.{SegmentParts}
use Rattle.sled_core.specs.inside.Fits.{HoldsIn, begun_segment, log_parts}
use Rattle.sled_core.specs.inside.LogFile.{StaysBelow, padded}
use Rattle.sled_core.specs.Logged.{logged}
use Rattle.sled_core.specs.inside.Reached.{BegunSegment, StandsAmong}
use Rattle.sled_core.specs.inside.Recoverable.{IsPlacedBatch}
use Rattle.sled_core.specs.Recoverable.{NoHeaderOfZeros}
use Rattle.sled_core.specs.inside.Running.{FitsIn}
use Rattle.sled_core.specs.inside.SealedBuffers.{AreSealed, FirstUnwritten}
use Rattle.sled_core.specs.SealedBuffers.{AreZeros}
use Rattle.sled_core.specs.declared.logger.joined_marks.JoinedMarks.{JoinedMarks}
use Rattle.sled_core.proofs.Holds.FitsGrown.{fits-noted}
use Rattle.sled_core.proofs.Sealed.Padded.{padded_get}
use Rattle.sled_core.proofs.Holds.PegLemmas.{IsOff, LiesBesideFilling, behind_beside, beside_padded}
use Rattle.sled_core.proofs.Holds.StandsBatch.{alone-marks}
use Rattle.sled_core.proofs.Logged.Messages.{batch_logged}
use Rattle.sled_core.proofs.Sealed.Zeros.{begin_zeros}
use Rattle.sled_core.specs.Fits.{held_of}
use Rattle.sled_core.specs.inside.LogSegments.{held_since}

module _ (sum : List ℕ → ℕ) (size : ℕ) (site : SegmentPosition) (device : State) (fault : Option IoError) (bytes : List ℕ) (from : ℕ) (bs : List Sealed) (rs : List Reserved) (pins : ℕ) (H : History) (A f : ℕ) (U : List Message)
    {behind : List SegmentParts} {reach : ℕ} {marks : JoinedMarks} (fits : FitsIn sum marks (log_parts size site device fault bytes from bs rs) behind reach pins H A f U)
    (bytes' : List ℕ) (bs' : List Sealed) (rs' : List Reserved) (H' : History) (b : Batch) (least : 256 ≤ size) (in_segment : length bytes' ≤ size) (ok : fault ≡ None)
    (holds : HoldsIn sum marks (log_parts size site device fault bytes' from bs' rs') behind (logged H')) (adds : AddsBatch H b H') (placing : ((c : Batch) → Contains H.batches c → IsPlacedBatch size (logged H) c) → (c : Batch) → Contains H'.batches c
    → IsPlacedBatch size (logged H') c) (later : b.low < b.peg) (offs : All (IsOff size b.peg) behind)
    (above : site.place + from ≤ b.low) (inside : b.low < site.place + size) (fresh : FirstUnwritten bs) (are : AreSealed from rs bs) where
  abbrev first : SnapshotModel
  first = fits.holds.begun.first

  abbrev others : List BegunSegment
  others = map begun_segment behind

  -- where the peg lies of the segments behind it
  beside : (x : BegunSegment) → Contains others x → LiesBesideFilling size device.log.bytes b.peg x
  beside = behind_beside sum size least device fault ok b.peg (site.place + size) behind (StaysBelow (logged H) (held_of fits.holds.begun) site.place) H.batches fits.holds.later fits.holds.others offs

  -- where nothing was written of the segment, the beginning of its slot has zeros
  clean : from ≡ 0 → AreZeros device.log.bytes site.slot (site.slot + 20)
  clean none = begin_zeros device.log.bytes site.slot bytes from bs rs size fresh are (omega (arith, least)) (fits.holds.own.laid ok) none

  stands : NoHeaderOfZeros sum → (log : List ℕ) → (from ≡ 0 → AreZeros log site.slot (site.slot + 20)) → ((x : BegunSegment) → Contains others x → LiesBesideFilling size log b.peg x)
      → StandsAmong sum (held_since size marks first) size log site from others reach (logged H) first → StandsAmong sum (held_since size marks first) size log site from others reach (logged H') first
  stands none log zeros lies among = alone-marks sum size log site from reach (logged H) (logged H') first least none holds.own.records.place_begins zeros b (batch_logged H b H' adds) above inside
      (placing among.stands.batched) later lies among

  -- It fits the history with the batch, with no other message to be marked.
  pub fits-marked : FitsIn sum marks (log_parts size site device fault bytes' from bs' rs') behind reach pins H' A f U
  fits-marked = fits-noted sum size site device fault bytes from bs rs pins H A f U fits bytes' bs' rs' behind H' holds b least in_segment ok adds above
      (λ none. stands none device.log.bytes clean beside (fits.among ok none))
      (λ to far none. stands none (padded to device.log.bytes) (λ first_one i low high. padded_get to device.log.bytes i ∙ clean first_one i low high) (λ x known. beside_padded size to device.log.bytes b.peg x (beside x known))
      (fits.beyond to far ok none))
