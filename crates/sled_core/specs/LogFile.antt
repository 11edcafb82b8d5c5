-- What stands in a log file of the messages that were written: those of the segment that is being filled, and those of earlier ones that are still needed.
use Rattle.std.specs.Prelude.{◌≡◌, ◌⊎◌, ◌+◌, ◌/◌, ◌≤◌, ◌<◌, ℕ, ℤ, pos, false, List, Some, Contains}
use Rattle.sled_codec.specs.declared.result.DiskPtr.TheVariants.{Inline}
use Rattle.sled_codec.specs.declared.serialization.message.MessageHeader.{MessageHeader}
use Rattle.sled_codec.specs.Kinds.{kind_written}
use Rattle.sled_codec.specs.Places.{MayBegin, part}
use Rattle.sled_codec.specs.Record.{IsHeader, short_record}
use Rattle.sled_codec.specs.History.{Message, History, table}
use Rattle.sled_core.specs.declared.iobuf.SegmentPosition.{SegmentPosition}
use Rattle.sled_core.specs.Reading.{StandsAt}

-- the record of a message stands at an offset of the file, in a segment of this number
pub record MessageStands (sum : List ℕ → ℕ) (size : ℕ) (log : List ℕ) (lid number : ℕ) (m : Message) : Type 0 where
  pub header : MessageHeader
  pub stands : StandsAt sum size log lid number header m.bytes m.size
  pub known : kind_written m.kind m.page false ≡ Some header.kind
  -- as it is written, in the shortest spelling
  pub short : part log lid m.size ≡ short_record sum header.kind m.page number m.bytes
  pub page : header.pid ≡ m.page

-- The record of a message stands in the current segment, below an offset, where its pointer says.
pub record StandsHere (sum : List ℕ → ℕ) (size : ℕ) (log : List ℕ) (site : SegmentPosition) (from lid : ℕ) (m : Message) : Type 0 where
  pub at : ℕ
  pub place : m.place ≡ site.place + at
  pub offset : lid ≡ site.slot + at
  pub begins : MayBegin size lid
  pub stands : MessageStands sum size log lid (m.place / size) m
  pub inside : at + m.size ≤ from

-- The record of a message of an earlier segment stands where its pointer says, in a slot that isn't the one of this segment.
pub record StandsElsewhere (sum : List ℕ → ℕ) (size : ℕ) (log : List ℕ) (site : SegmentPosition) (lid : ℕ) (m : Message) : Type 0 where
  pub begins : MayBegin size lid
  pub stands : MessageStands sum size log lid (m.place / size) m
  pub apart : (lid + m.size ≤ site.slot) ⊎ (site.slot + size ≤ lid)

-- The messages that stay on the device of a log that began at a place: the entries of the table below it, and all from there on.
abbrev pub StaysFrom : History → ℕ → Message → Type 0
StaysFrom H place m = Contains (table H place m.page) m ⊎ ((place ≤ m.place) × Contains H.messages m)

-- the header of a segment stands at the beginning of its slot, with a mark below it
pub record HasHeader (sum : List ℕ → ℕ) (log : List ℕ) (site : SegmentPosition) : Type 0 where
  pub mark : ℤ
  pub header : IsHeader sum (part log site.slot 20) (pos site.place) mark
  pub below : (n : ℕ) → mark ≡ pos n → n < site.place

-- What stands in the log file: behind the header of the current segment, up to an offset, those of its messages that have no blob; in other slots those
-- messages of earlier segments that stay and have none.
pub record IsLogFile (sum : List ℕ → ℕ) (size : ℕ) (log : List ℕ) (site : SegmentPosition) (from : ℕ) (messages : List Message)
    (stays : Message → Type 0) : Type 0 where
  pub own : (m : Message) → Contains messages m → site.place ≤ m.place → (lid : ℕ) → m.pointer ≡ Inline lid → StandsHere sum size log site from lid m
  pub elsewhere : (m : Message) → stays m → m.place < site.place → (lid : ℕ) → m.pointer ≡ Inline lid → StandsElsewhere sum size log site lid m
  pub begun : 0 < from → 20 ≤ from
  pub header : 0 < from → HasHeader sum log site
