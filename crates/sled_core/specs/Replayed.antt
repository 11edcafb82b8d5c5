-- A segment as a pass over a log file reads it: its records up to a batch that is open, with the blobs that they name.
use Rattle.std.specs.Prelude.{◌≡◌, ◌≢◌, ◌+◌, ◌/◌, ◌%◌, ◌^◌, ◌≤◌, ◌<◌, ℕ, ℤ, if◌then◌else◌, List, length, Option, None, IfNone, is_some}
use Rattle.sled_codec.specs.declared.serialization.message.MessageKind.TheVariants.{Corrupted}
use Rattle.sled_codec.specs.declared.result.DiskPtr.{DiskPtr}
use Rattle.sled_codec.specs.declared.result.DiskPtr.TheVariants.{Blob}
use Rattle.sled_codec.specs.Kinds.{log_kind_of}
use Rattle.sled_store.specs.Blobs.{IsDamagedFor, NamesBlobAt}
use Rattle.sled_core.specs.declared.iterator.scan.ScannedRecord.{ScannedRecord}
use Rattle.sled_core.specs.declared.iterator.scan.RecordContent.{RecordContent}
use Rattle.sled_core.specs.declared.iterator.scan.RecordContent.TheVariants.{Gives, NamesBlob, Skipped, BatchStart}
use Rattle.sled_core.specs.declared.iterator.scan.SegmentScan.{SegmentScan}
use Rattle.sled_core.specs.declared.iterator.Segment.{Segment}
use Rattle.sled_core.specs.Reading.{IsMalformed}
use Rattle.sled_core.specs.Scan.{IsEnd, IsPath}
use Rattle.sled_core.specs.Tail.{Scanned, open_at}

-- The records.

-- A segment can be read: its slot is one of the file, and its ends are places and offsets.
pub record CanBeRead (size : ℕ) (log : List ℕ) (s : Segment) : Type 0 where
  pub aligned : s.slot % size ≡ 0
  pub inside : s.slot ≤ length log
  pub slot : s.slot + size < 2 ^ 63
  pub place : s.place + size < 2 ^ 63

-- a segment as code has it, and what is met in it
abbrev pub scanned_of : Segment → SegmentScan → Scanned
scanned_of segment scan = record { segment = segment; met = scan.met.items; stop = scan.stop; why = scan.ending }

-- A segment as the pass reads it: to its end, or to any place behind a batch that is open. What stands behind that batch is neither asked for nor looked at.
abbrev pub IsReplayed : (List ℕ → ℕ) → ℕ → List ℕ → ℕ → Scanned → Type 0
IsReplayed sum size log end s =
    IsPath sum size log s.segment.slot s.segment.place 20 s.met s.stop
    × IfNone (open_at end s.met) (IsEnd sum size log s.segment.slot s.segment.place s.stop s.why)

-- A damaged record is met in a segment of the pass, before a batch that is open.
pub record IsDamagedBefore (sum : List ℕ → ℕ) (size : ℕ) (log : List ℕ) (end : ℕ) (segment : Segment) : Type 0 where
  pub met : List ScannedRecord
  pub next : ℕ
  pub path : IsPath sum size log segment.slot segment.place 20 met next
  pub not_open : open_at end met ≡ None
  pub room : next + 32 ≤ size
  pub damaged : IsMalformed sum size log (segment.slot + next) (segment.place / size)

-- The blobs.

-- a record that names a blob is of a kind that is known
abbrev pub NamesKind : RecordContent → Type 0
NamesKind (Gives kind page pointer) = Unit {0}
NamesKind (NamesBlob kind page lid place) = kind ≢ Corrupted
NamesKind Skipped = Unit {0}
NamesKind (BatchStart peg) = Unit {0}

-- the blob that a record names is there and doesn't pass for it
abbrev pub HasBadBlob : (List ℕ → ℕ) → (ℤ → Option (List ℕ)) → RecordContent → Type 0
HasBadBlob sum blobs (Gives kind page pointer) = ⊥
HasBadBlob sum blobs (NamesBlob kind page lid place) = IsDamagedFor sum kind (blobs place)
HasBadBlob sum blobs Skipped = ⊥
HasBadBlob sum blobs (BatchStart peg) = ⊥

-- what damage of the blob that a record names is called
abbrev pub NamesBlobOf : (List ℕ → ℕ) → (ℤ → Option (List ℕ)) → RecordContent → Option DiskPtr → Type 0
NamesBlobOf sum blobs (Gives kind page pointer) at = ⊥
NamesBlobOf sum blobs (NamesBlob kind page lid place) at = NamesBlobAt sum blobs place at
NamesBlobOf sum blobs Skipped at = ⊥
NamesBlobOf sum blobs (BatchStart peg) at = ⊥

-- A record that names a blob is a message where the blob is there, and else was given up.
abbrev pub with_blob : (ℤ → Option (List ℕ)) → RecordContent → RecordContent
with_blob blobs (Gives kind page pointer) = Gives kind page pointer
with_blob blobs (NamesBlob kind page lid place) = if is_some (blobs place) then Gives (log_kind_of kind) page (Blob lid place) else Skipped
with_blob blobs Skipped = Skipped
with_blob blobs (BatchStart peg) = BatchStart peg

abbrev pub resolved : (ℤ → Option (List ℕ)) → ScannedRecord → ScannedRecord
resolved blobs m = record { place = m.place; len = m.len; what = with_blob blobs m.what }
