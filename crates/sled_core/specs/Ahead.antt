-- What the code of an iterator keeps of the segments that it reads, and what is ahead of it.
use Rattle.std.specs.Prelude.{◌≡◌, ◌≢◌, ◌+◌, ◌^◌, ◌%◌, ◌<◌, ℕ, ℤ}
use Rattle.std.specs.List.{All}
use Rattle.sled_codec.specs.declared.serialization.message.MessageKind.{MessageKind}
use Rattle.sled_codec.specs.declared.serialization.message.MessageKind.TheVariants.{Corrupted}
use Rattle.sled_core.specs.declared.iterator.scan.ScannedRecord.{ScannedRecord}
use Rattle.sled_core.specs.declared.iterator.scan.RecordContent.{RecordContent}
use Rattle.sled_core.specs.declared.iterator.scan.RecordContent.TheVariants.{NamesBlob}
use Rattle.sled_core.specs.declared.iterator.Segment.{Segment}
use Rattle.sled_core.specs.declared.iterator.rest.Rest.{Rest}

-- a segment lies in a slot, and its ends are places and offsets
abbrev pub HasEnds : ℕ → Segment → Type 0
HasEnds size s = (s.slot % size ≡ 0) × (s.slot + size < 2 ^ 63) × (s.place + size < 2 ^ 63)

-- a record that names a blob is of a kind that is known
abbrev pub KnowsKind : RecordContent → Type 0
KnowsKind what = (kind : MessageKind) (page lid : ℕ) (place : ℤ) → what ≡ NamesBlob kind page lid place → kind ≢ Corrupted

-- A record is at a place, and of a kind that is known.
abbrev pub CanBeGiven : ScannedRecord → Type 0
CanBeGiven m = (m.place < 2 ^ 63) × KnowsKind m.what

-- What is left can be read and given.
abbrev pub CanGoOn : ℕ → Rest → Type 0
CanGoOn size r = (r.end < 2 ^ 63) × All (HasEnds size) r.segments.items × All CanBeGiven r.met.items
