-- What is the log's own of a log file while a log runs: in the slot of a segment that isn't wholly on the device all that is written of it, also behind a
-- gap; in each other slot what a reader reads there.
use Rattle.std.specs.Prelude.{◌≡◌, ◌≢◌, ◌≤◌, ◌<◌, ◌+◌, ◌*◌, ◌/◌, ℕ, ℤ, pos, true, List, [], ◌∷◌, length, All, Contains}
use Rattle.sled_codec.specs.Places.{part}
use Rattle.sled_codec.specs.Record.{IsHeader}
use Rattle.sled_store.specs.Device.{State}
use Rattle.sled_store.specs.Foreign.{HeaderWasPlaced, RecordWasPlaced}
use Rattle.sled_store.specs.Readers.{Reads, IsOwnRange}
use Rattle.sled_core.specs.Begun.{SegmentView}
use Rattle.sled_core.specs.declared.iobuf.Sealed.{Sealed}
use Rattle.sled_core.specs.declared.iobuf.SegmentPosition.{SegmentPosition}
use Rattle.sled_core.specs.inside.LogFile.{padded}

-- Each of these sealed buffers that is written is such a range of its segment.
abbrev pub AreWritten : (ℕ → ℕ → Type 0) → ℕ → List Sealed → Type 0
AreWritten Range from [] = Unit {0}
AreWritten Range from (b ∷ bs) = (b.is_written ≡ true → Range from b.end) × AreWritten Range b.end bs

-- A header at an offset of the file is own, and a record of a number, as these say.
module _ (sum : List ℕ → ℕ) (size : ℕ) (Header : ℕ → List ℕ → Type 0) (Own : ℕ → ℕ → List ℕ → Type 0) where
  -- what is written of a segment up to an offset, and each sealed buffer behind that which is written
  pub record IsOwnSegment (log : List ℕ) (site : SegmentPosition) (from : ℕ) (bs : List Sealed) : Type 0 where
    pub front : 0 < from → IsOwnRange sum size Header Own (site.place / size) site.slot (part log site.slot size) 0 from
    pub behind : AreWritten (IsOwnRange sum size Header Own (site.place / size) site.slot (part log site.slot size)) from bs

  -- In a slot the header that stands there, and each record that a reader reads. With zeros behind the file's end, as a write past it makes them, no others do.
  pub record HasOwnSlot (log : List ℕ) (slot : ℕ) : Type 0 where
    pub header : (to : ℕ) (lsn mark : ℤ) → IsHeader sum (part (padded to log) (slot * size) 20) lsn mark
        → (slot * size + 20 ≤ length log) × Header (slot * size) (part log (slot * size) 20)
    pub records : (to lsn : ℕ) (mark : ℤ) (at len : ℕ) → IsHeader sum (part log (slot * size) 20) (pos lsn) mark
        → Reads sum size (lsn / size) (part (padded to log) (slot * size) size) 20 at len
        → (slot * size + at + len ≤ length log) × Own (lsn / size) (slot * size + at) (part log (slot * size + at) len)

  -- So it is with all slots of a log that has these segments.
  pub record IsOwnFile (log : List ℕ) (line : List SegmentView) : Type 0 where
    pub segments : All (λ v. IsOwnSegment log v.parts.site v.parts.written_len v.parts.sealed) line
    pub others : (slot : ℕ) → ((v : SegmentView) → Contains line v → v.parts.site.slot ≢ slot * size) → HasOwnSlot log slot

  -- In a slot of the file as it is the header that stands there, and each record that a reader reads.
  pub record ReadsOwn (log : List ℕ) (slot : ℕ) : Type 0 where
    pub header : (lsn mark : ℤ) → IsHeader sum (part log (slot * size) 20) lsn mark → Header (slot * size) (part log (slot * size) 20)
    pub records : (lsn : ℕ) (mark : ℤ) (at len : ℕ) → IsHeader sum (part log (slot * size) 20) (pos lsn) mark
        → Reads sum size (lsn / size) (part log (slot * size) size) 20 at len → Own (lsn / size) (slot * size + at) (part log (slot * size + at) len)

-- So it is with what was placed on a device, in each slot of its file as it is read,
abbrev pub ReadsPlaced : (List ℕ → ℕ) → ℕ → State → Type 0
ReadsPlaced sum size s = (slot : ℕ) → ReadsOwn sum size (HeaderWasPlaced s.placed) (RecordWasPlaced sum size s.placed) s.log.bytes slot

-- and with all slots of a log that has these segments.
abbrev pub HasPlacedFile : (List ℕ → ℕ) → ℕ → State → List SegmentView → Type 0
HasPlacedFile sum size s line = IsOwnFile sum size (HeaderWasPlaced s.placed) (RecordWasPlaced sum size s.placed) s.log.bytes line
