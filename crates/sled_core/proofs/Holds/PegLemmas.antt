-- Where the peg of a batch lies of the segments that a log has: in front of where the records of each end, or behind it. So it lies in nothing that fills a segment, and a reading of one that leads on has come past it.
use Rattle.std.proofs.Common.{◌≡◌, ◌∙◌, ◌⊎◌, ◌≤◌, ◌<◌, ◌+◌, ◌/◌, ℕ, max, List, [], ◌∷◌, length, map, Option, None, subst, arith, inl, inr}
use Rattle.std.specs.List.{All, Contains}
use Rattle.std.specs.declared.io.Error.{Error as IoError}
use Rattle.std.proofs.lemmas.List.Elements.{All-tail}
use Rattle.sled_codec.specs.History.{Batch, Message}
use Rattle.sled_store.specs.Device.{State}
use Rattle.sled_store.proofs.Segments.Elements.{in_cases, in_nothing}
use Rattle.sled_core.specs.declared.iobuf.Reserved.{Reserved}
use Rattle.sled_core.specs.declared.iobuf.SegmentPosition.{SegmentPosition}
use Rattle.sled_core.specs.Begun.{SegmentParts, records_to}
use Rattle.sled_core.specs.inside.Buffers.{records_end}
use Rattle.sled_core.specs.inside.Fits.{HoldBehind, HoldsNext, begun_segment}
use Rattle.sled_core.specs.inside.LogFile.{padded}
use Rattle.sled_core.specs.inside.Reached.{BegunSegment}
use Rattle.sled_core.specs.SealedBuffers.{AreZeros}
use Rattle.sled_core.specs.inside.SealedBuffers.{FirstUnwritten}
use Rattle.sled_core.proofs.Sealed.Padded.{padded_get}
use Rattle.sled_core.proofs.Sealed.RecordsEnd.{covered_behind}
use Rattle.sled_core.proofs.Sealed.Zeros.{begin_zeros}

-- a place lies in front of where the records of a segment end, or behind the segment
abbrev pub LiesOff : ℕ → SegmentPosition → List Reserved → List ℕ → ℕ → Type 0
LiesOff size site rs bytes place = (place < site.place + records_end rs (length bytes)) ⊎ (site.place + size ≤ place)

-- So it does of what a log has of the segment, by its entries and by where it was filled; and its first sealed buffer isn't written.
pub record IsOff (size place : ℕ) (s : SegmentParts) : Type 0 where
  pub off : LiesOff size s.site s.reserved s.bytes place
  pub filled : (place < s.site.place + records_to s.filled size) ⊎ (s.site.place + size ≤ place)
  pub fresh : FirstUnwritten s.sealed

-- So it does of a segment on the device: of one that is full; of one where no header has room behind what is written; and where nothing is written, no header is there.
pub record LiesBesideFilling (size : ℕ) (log : List ℕ) (place : ℕ) (x : BegunSegment) : Type 0 where
  pub filled : (place < x.site.place + records_to x.filled size) ⊎ (x.site.place + size ≤ place)
  pub short : size < x.from + 32 → (place < x.site.place + x.from) ⊎ (x.site.place + size ≤ place)
  pub clean : x.from ≡ 0 → AreZeros log x.site.slot (x.site.slot + 20)

-- with zeros behind the end of the file too
pub beside_padded : (size to : ℕ) (log : List ℕ) (place : ℕ) (x : BegunSegment) → LiesBesideFilling size log place x → LiesBesideFilling size (padded to log) place x
beside_padded size to log place x its = record { filled = its.filled; short = its.short; clean = λ none i low high. padded_get to log i ∙ its.clean none i low high }

module _ (sum : List ℕ → ℕ) (size : ℕ) (some : 256 ≤ size) (device : State) (fault : Option IoError) (whole : fault ≡ None) (peg : ℕ) where
  next_beside : (place : ℕ) (s : SegmentParts) (stays : Message → Type 0) (batches : List Batch) (own : List Message) → HoldsNext sum size device fault place s stays batches own → IsOff size peg s → LiesBesideFilling size device.log.bytes peg (begun_segment s)
  next_beside place s stays batches own here off = record { filled = off.filled; short = short; clean = clean } where
    short : size < s.written_len + 32 → (peg < s.site.place + s.written_len) ⊎ (s.site.place + size ≤ peg)
    short full =
        let low = covered_behind sum size (s.site.place / size) s.bytes s.reserved (max 20 s.written_len) (length s.bytes) here.segment.records.chain here.segment.records.stand (omega (arith, full)) in
        elim off.off [ inl front ↦ inl (omega (arith, front, low, full, some)) | inr far ↦ inr far ]

    clean : s.written_len ≡ 0 → AreZeros device.log.bytes s.site.slot (s.site.slot + 20)
    clean none = begin_zeros device.log.bytes s.site.slot s.bytes s.written_len s.sealed s.reserved size off.fresh here.are (omega (arith, some)) (here.segment.laid whole) none

  pub behind_beside : (place : ℕ) (ss : List SegmentParts) (stays : Message → Type 0) (batches : List Batch) (ms : List Message) → HoldBehind sum size device fault place ss stays batches ms → All (IsOff size peg) ss
      → (x : BegunSegment) → Contains (map begun_segment ss) x → LiesBesideFilling size device.log.bytes peg x
  behind_beside place [] stays batches ms holds offs x among = absurd (in_nothing x among)
  behind_beside place (s ∷ ss) stays batches ms (own, later, all, here, rest) offs x among = elim (in_cases (begun_segment s) x (map begun_segment ss) among) [
    | inl same ↦ subst (λ (y : BegunSegment). LiesBesideFilling size device.log.bytes peg y) same (next_beside place s stays batches own here (offs 0 s (omega arith)))
    | inr behind ↦ behind_beside (place + size) ss stays batches later rest (All-tail (IsOff size peg) s ss offs) x behind
  ]
