-- What a reader of a log file meets: the segments that are found there, and the records of each from its header on.
-- Stated for any number of segments and for all kinds of messages.
use Rattle.std.specs.Prelude.{◌≡◌, ◌≢◌, ◌⊎◌, ◌+◌, ◌/◌, ◌%◌, ◌^◌, ◌≤◌, ◌<◌, ℕ, pos, true, List, [], ◌∷◌}
use Rattle.sled_codec.specs.declared.serialization.message.MessageHeader.{MessageHeader}
use Rattle.sled_codec.specs.declared.serialization.message.MessageKind.TheVariants as kind
use Rattle.sled_codec.specs.declared.result.DiskPtr.TheVariants as ptr
use Rattle.sled_codec.specs.Kinds.{log_kind_of}
use Rattle.sled_codec.specs.Places.{part}
use Rattle.sled_codec.specs.Record.{IsHeader}
use Rattle.sled_codec.specs.Spelling.{SpellsSigned}
use Rattle.sled_core.specs.declared.iterator.scan.ScannedRecord.{ScannedRecord}
use Rattle.sled_core.specs.declared.iterator.scan.RecordContent.{RecordContent}
use Rattle.sled_core.specs.declared.iterator.scan.RecordContent.TheVariants.{Gives, NamesBlob, Skipped, BatchStart}
use Rattle.sled_core.specs.declared.iterator.scan.ScanEnd.{ScanEnd}
use Rattle.sled_core.specs.declared.iterator.scan.ScanEnd.TheVariants.{Full, Capped, Broken}
use Rattle.sled_core.specs.declared.iterator.Segment.{Segment}
use Rattle.sled_core.specs.declared.iterator.scan.Step.{Step}
use Rattle.sled_core.specs.declared.iterator.scan.Step.TheVariants.{Meets, Ends}
use Rattle.sled_core.specs.Reading.{StandsAt, IsMalformed, is_inline, is_blob}

-- a segment begins at a slot of the file, with a header that passes, at this place or above it
pub record IsFoundSegment (sum : List ℕ → ℕ) (size : ℕ) (log : List ℕ) (least : ℕ) (s : Segment) : Type 0 where
  pub slot : s.slot % size ≡ 0
  pub header : IsHeader sum (part log s.slot 20) (pos s.place) s.mark
  pub not_below : least ≤ s.place

-- it begins where no segment can begin
abbrev pub IsMisplaced : ℕ → Segment → Type 0
IsMisplaced size s = (s.place % size ≢ 0) ⊎ (2 ^ 63 ≤ s.place + size)

-- What a record of this header and this body is that begins at an offset of the file. Whether a blob is there isn't asked. A Cap is none of these.
abbrev pub Says : MessageHeader → List ℕ → ℕ → RecordContent → Type 0
Says h body lid (Gives does page pointer) = (does ≡ log_kind_of h.kind) × (page ≡ h.pid) × (is_inline h.kind ≡ true) × (pointer ≡ ptr.Inline lid)
Says h body lid (NamesBlob k page at place) = (k ≡ h.kind) × (page ≡ h.pid) × (at ≡ lid) × (is_blob h.kind ≡ true) × SpellsSigned body place
Says h body lid Skipped = h.kind ≡ kind.Canceled
Says h body lid (BatchStart peg) = (h.kind ≡ kind.BatchManifest) × SpellsSigned body peg

-- a record of a segment is met at an offset
unfoldable pub IsMet : (List ℕ → ℕ) → ℕ → List ℕ → ℕ → ℕ → ScannedRecord → Type 0
IsMet sum size log lid number m = (h : MessageHeader) × (body : List ℕ) × StandsAt sum size log lid number h body m.len × Says h body lid m.what

-- why the reading ends there, but for want of room
unfoldable pub EndsThere : (List ℕ → ℕ) → ℕ → List ℕ → ℕ → ℕ → ScanEnd → Type 0
EndsThere sum size log lid number Full = ⊥
EndsThere sum size log lid number Capped = (h : MessageHeader) × (body : List ℕ) × (len : ℕ) × StandsAt sum size log lid number h body len × (h.kind ≡ kind.Cap)
EndsThere sum size log lid number Broken = (h : MessageHeader) (body : List ℕ) (len : ℕ) → StandsAt sum size log lid number h body len → ⊥

-- what is found at an offset, for a place in the log
abbrev pub IsStep : (List ℕ → ℕ) → ℕ → List ℕ → ℕ → ℕ → ℕ → Step → Type 0
IsStep sum size log lid place number (Meets m) = (m.place ≡ place) × IsMet sum size log lid number m
IsStep sum size log lid place number (Ends why) = EndsThere sum size log lid number why

-- The records that are met in a segment from one offset in it to another. The segment begins in the file at `slot`, and in the log at `place`.
abbrev pub IsPath : (List ℕ → ℕ) → ℕ → List ℕ → ℕ → ℕ → ℕ → List ScannedRecord → ℕ → Type 0
IsPath sum size log slot place at [] next = next ≡ at
IsPath sum size log slot place at (m ∷ ms) next =
    (at + 32 ≤ size) × (m.place ≡ place + at) × IsMet sum size log (slot + at) (place / size) m × IsPath sum size log slot place (at + m.len) ms next

-- the reading ends at an offset
abbrev pub IsEnd : (List ℕ → ℕ) → ℕ → List ℕ → ℕ → ℕ → ℕ → ScanEnd → Type 0
IsEnd sum size log slot place at Full = size < at + 32
IsEnd sum size log slot place at Capped = (at + 32 ≤ size) × EndsThere sum size log (slot + at) (place / size) Capped
IsEnd sum size log slot place at Broken = (at + 32 ≤ size) × EndsThere sum size log (slot + at) (place / size) Broken

-- All that is met in a segment, where the reading ends, and why.
unfoldable pub IsScan : (List ℕ → ℕ) → ℕ → List ℕ → ℕ → ℕ → List ScannedRecord → ℕ → ScanEnd → Type 0
IsScan sum size log slot place ms stop why = IsPath sum size log slot place 20 ms stop × IsEnd sum size log slot place stop why

-- A damaged record is met in a segment.
unfoldable pub IsDamagedIn : (List ℕ → ℕ) → ℕ → List ℕ → ℕ → ℕ → Type 0
IsDamagedIn sum size log slot place =
    (ms : List ScannedRecord) × (next : ℕ) × IsPath sum size log slot place 20 ms next × (next + 32 ≤ size)
    × IsMalformed sum size log (slot + next) (place / size)
