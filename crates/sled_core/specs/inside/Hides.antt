-- What the log file has besides what is shown of it. The log's own of a segment that a slot has lies in its slot, and is shown; a header that isn't shown is
-- that of a segment that is gone.
use Rattle.std.specs.Prelude.{◌≡◌, ◌⊎◌, ◌+◌, ◌*◌, ◌/◌, ◌%◌, ◌≤◌, ◌<◌, ℕ, ℤ, pos, false, List, length, Contains}
use Rattle.sled_codec.specs.declared.serialization.message.MessageKind.{MessageKind}
use Rattle.sled_codec.specs.History.{History}
use Rattle.sled_codec.specs.Places.{part}
use Rattle.sled_codec.specs.Record.{IsHeader, IsRecord}
use Rattle.sled_codec.specs.Snapshots.{SnapshotModel}
use Rattle.sled_store.specs.Device.{State}
use Rattle.sled_store.specs.Foreign.{HeaderWasPlaced, RecordWasPlaced}
use Rattle.sled_store.specs.SegmentStates.{Machine, is_free, slot_at}
use Rattle.sled_store.specs.Readers.{Reads}
use Rattle.sled_store.specs.SnapshotFiles.{BeginsFrom}
use Rattle.sled_core.specs.declared.iterator.Segment.{Segment}
use Rattle.sled_core.specs.declared.iterator.scan.ScannedRecord.{ScannedRecord}
use Rattle.sled_core.specs.Begun.{SegmentView}
use Rattle.sled_core.specs.Tail.{IsScanned, Scanned, least_place}
use Rattle.sled_core.specs.inside.Begun.{line_end}
use Rattle.sled_core.specs.inside.Cleared.{cleared}
use Rattle.sled_core.specs.inside.Recoverable.{IsMarkOf, IsOfHistory, NothingBehind}
use Rattle.sled_core.specs.inside.Slots.{marked_at}

-- What is met in a segment, all of it of the history. Behind a Cap nothing of that begins in the segment.
pub record IsTrueReading (sum : List ℕ → ℕ) (size : ℕ) (log : List ℕ) (H : History) (s : Segment) : Type 0 where
  pub scan : Scanned
  pub segment : scan.segment ≡ s
  pub read : IsScanned sum size log scan
  pub truth : (x : ScannedRecord) → Contains scan.met x → IsOfHistory sum size log H x
  pub caps : NothingBehind size H scan.segment.place scan.stop scan.why

-- A segment that no slot has any more: it ends at a place or below it, its mark is one of the history's, and so is all that is read of it.
pub record IsGoneSegment (sum : List ℕ → ℕ) (size : ℕ) (log : List ℕ) (H : History) (base : ℕ) (s : Segment) : Type 0 where
  pub below : s.place + size ≤ base
  pub is_mark : IsMarkOf H s
  pub reading : IsTrueReading sum size log H s

-- a record of a number at an offset of the file is the log's own: it was placed there, and has stood since
pub record IsOwnRecord (sum : List ℕ → ℕ) (size : ℕ) (s : State) (number at : ℕ) (text : List ℕ) : Type 0 where
  pub kind : MessageKind
  pub page : ℕ
  pub body : List ℕ
  pub is : IsRecord sum text kind page number body
  pub placed : RecordWasPlaced sum size s.placed number at text

-- and so is the header of a segment at the beginning of a slot
pub record IsOwnHeader (sum : List ℕ → ℕ) (size : ℕ) (s : State) (k place : ℕ) (mark : ℤ) : Type 0 where
  pub text : List ℕ
  pub is : IsHeader sum text (pos place) mark
  pub placed : HeaderWasPlaced s.placed (k * size) text

-- a text at an offset of the file lies in a slot
abbrev pub LiesInSlot : ℕ → ℕ → ℕ → List ℕ → Type 0
LiesInSlot size k at text = (k * size ≤ at) × (at + length text ≤ k * size + size)

-- a slot has the segment at a place
abbrev pub HasSegment : Machine → ℕ → Type 0
HasSegment m place = (j : ℕ) × (is_free (slot_at m j).state ≡ false) × ((slot_at m j).lsn ≡ place)

-- In a slot of a file each record of a number that a reader reads is the log's own.
abbrev pub ReadsOwnIn : (List ℕ → ℕ) → ℕ → State → ℕ → ℕ → List ℕ → Type 0
ReadsOwnIn sum size s k number log =
    (at len : ℕ) → Reads sum size number (part log (k * size) size) 20 at len
    → IsOwnRecord sum size s number (k * size + at) (part log (k * size + at) len)

-- No slot has the segment with this header any more, it began where one can, and what is read of it is of the history: in each file in which a reader reads
-- nothing of it but what is the log's own. (The file itself may be another one. Where the slot was handed out again, and a buffer was written of the segment
-- that has it now, but not yet the one with its header, a reader of the old segment may read on in bytes of an item.)
pub record IsGone (sum : List ℕ → ℕ) (size : ℕ) (s : State) (m : Machine) (base : ℕ) (H : History) (k place : ℕ) (mark : ℤ) : Type 0 where
  pub no_slot : HasSegment m place → ⊥
  pub aligned : place % size ≡ 0
  pub below : place + size ≤ base
  pub is_mark : IsMarkOf H (marked_at (k * size) place mark)
  pub reading : (log : List ℕ) → ReadsOwnIn sum size s k (place / size) log → IsTrueReading sum size log H (marked_at (k * size) place mark)

-- What the log file has besides what is shown of it, at rest. Of headers it is said from a place on, that of the snapshot's segment: recovery passes over those
-- below, and of their segments less is known.
pub record Hides (sum : List ℕ → ℕ) (size : ℕ) (s : State) (m : Machine) (line : List SegmentView) (least base : ℕ) (H : History) : Type 0 where
  -- nothing of a number to come is the log's own
  pub to_come : (number at : ℕ) (text : List ℕ) → IsOwnRecord sum size s number at text → number * size < line_end size line
  -- in the slot of a segment nothing of a greater number is, and what is of its number is shown
  pub taken : (k number at : ℕ) (text : List ℕ) → is_free (slot_at m k).state ≡ false → LiesInSlot size k at text → IsOwnRecord sum size s number at text
      → (number ≤ (slot_at m k).lsn / size)
      × (number ≡ (slot_at m k).lsn / size → part (cleared size m line s.log.bytes) at (length text) ≡ text)
  -- what is of a segment that a slot has lies in no other one, so in no free one
  pub free : (k number at : ℕ) (text : List ℕ) → LiesInSlot size k at text → IsOwnRecord sum size s number at text
      → (j : ℕ) → is_free (slot_at m j).state ≡ false → number ≡ (slot_at m j).lsn / size → j ≡ k
  -- a header that isn't shown is that of a segment that is gone
  pub headers : (k place : ℕ) (mark : ℤ) → least ≤ place → IsOwnHeader sum size s k place mark
      → IsHeader sum (part (cleared size m line s.log.bytes) (k * size) 20) (pos place) mark ⊎ IsGone sum size s m base H k place mark
  -- no two slots have headers of one segment
  pub alone : (j k place : ℕ) (mark other : ℤ) → least ≤ place → IsOwnHeader sum size s j place mark → IsOwnHeader sum size s k place other → j ≡ k

-- So it is from the snapshot on with which a log began.
abbrev pub HidesFrom : (List ℕ → ℕ) → ℕ → ℕ → State → Machine → List SegmentView → History → Type 0
HidesFrom sum size base s m line H =
    (first : SnapshotModel) → BeginsFrom sum s.snapshots.file first → Hides sum size s m line (least_place size first) base H

-- What is shown of a log file is read of bytes that count: a header that is shown is that of the segment that its slot has, and stands in the file, and so does
-- each record that a reader of the segment reads.
pub record ReadsShown (sum : List ℕ → ℕ) (size : ℕ) (m : Machine) (shown log : List ℕ) : Type 0 where
  pub slots : (k place : ℕ) (mark : ℤ) → IsHeader sum (part shown (k * size) 20) (pos place) mark
      → (is_free (slot_at m k).state ≡ false) × ((slot_at m k).lsn ≡ place)
  pub headers : (k place : ℕ) (mark : ℤ) → IsHeader sum (part shown (k * size) 20) (pos place) mark → part log (k * size) 20 ≡ part shown (k * size) 20
  pub records : (k place : ℕ) (mark : ℤ) (at len : ℕ) → IsHeader sum (part shown (k * size) 20) (pos place) mark
      → Reads sum size (place / size) (part shown (k * size) size) 20 at len → part log (k * size + at) len ≡ part shown (k * size + at) len
