-- What proofs, and functions that no user calls, need beside `specs/Fits.antt`. No public contract names it.
use Rattle.std.specs.Prelude.{◌≡◌, ◌⊎◌, ◌+◌, ◌/◌, ◌%◌, ◌≤◌, ◌<◌, ◌<ℤ◌, ℕ, ℤ, pos, max, List, [], ◌++◌, ◌∷◌, length, map, take, All, Option, None, Contains}
use Rattle.std.specs.declared.io.Error.{Error as IoError}
use Rattle.sled_codec.specs.Record.{IsHeader, short_header}
use Rattle.sled_codec.specs.History.{Message, Batch, History}
use Rattle.sled_codec.specs.WellFormed.{LieApart}
use Rattle.sled_store.specs.Device.{State}
use Rattle.sled_store.specs.SegmentStates.{Machine}
use Rattle.sled_core.specs.declared.iobuf.Reserved.{Reserved}
use Rattle.sled_core.specs.declared.iobuf.Sealed.{Sealed}
use Rattle.sled_core.specs.declared.iobuf.SegmentPosition.{SegmentPosition}
use Rattle.sled_core.specs.declared.logger.Log.{Log}
use Rattle.sled_core.specs.declared.logger.joined_marks.JoinedMarks.{JoinedMarks}
use Rattle.sled_core.specs.Begun.{SegmentParts, SegmentView}
use Rattle.sled_core.specs.inside.Begun.{line_end}
use Rattle.sled_core.specs.inside.Buffers.{Stands, IsChain, batches_in, completed_in, records_end}
use Rattle.sled_core.specs.inside.FreeSlots.{HasSlots}
use Rattle.sled_core.specs.inside.LogFile.{StaysBelow}
use Rattle.sled_core.specs.LogFile.{StaysFrom}
use Rattle.sled_core.specs.inside.OpenBatches.{AreApart}
use Rattle.sled_core.specs.inside.Reached.{BegunSegment, FollowApart}
use Rattle.sled_core.specs.inside.Recoverable.{IsMarkOf, NoBatchEnds}
use Rattle.sled_core.specs.inside.SealedBuffers.{AreSealed, Laid}
use Rattle.sled_core.specs.inside.Shown.{RestsWhole, shown}
use Rattle.sled_core.specs.SealedBuffers.{sealed_end}
use Rattle.sled_core.specs.Waiting.{BufferAt}
use Rattle.sled_core.specs.Fits.{held_of, reserved_end, IsOnDevice, IsBegunFrom, EndBelow, CloseBelow, buffers_of}

-- What a log has of its current segment over its device: the size of segments, where this one lies, what is on the device, the failure that the log keeps,
-- the bytes, how many of them were written, the buffers that were sealed since, and the reservations since.
pub record LogParts : Type 0 where
  pub size : ℕ
  pub site : SegmentPosition
  pub device : State
  pub fault : Option IoError
  pub bytes : List ℕ
  pub written_len : ℕ
  pub sealed : List Sealed
  pub reserved : List Reserved

-- the view with these parts
abbrev pub log_parts : ℕ → SegmentPosition → State → Option IoError → List ℕ → ℕ → List Sealed → List Reserved → LogParts
log_parts size site device fault bytes written_len sealed reserved = record {
  size = size;
  site = site;
  device = device;
  fault = fault;
  bytes = bytes;
  written_len = written_len;
  sealed = sealed;
  reserved = reserved;
}

-- what a log has of a segment, but for how many reservations have gone
abbrev pub parts_in : SegmentView → SegmentParts
parts_in v = v.parts

-- Of the batches of a history these begin behind what is written of a segment that lies there, and no others.
pub record HasBatches (size : ℕ) (site : SegmentPosition) (from : ℕ) (own bs : List Batch) : Type 0 where
  pub noted : (b : Batch) → Contains own b → Contains bs b
  pub begun : (b : Batch) → Contains bs b → Contains own b ⊎ (b.low < site.place + from) ⊎ (site.place + size ≤ b.low)

-- The bytes of a segment begin with its header. Its mark lies below the segment, and in no batch of the history.
pub record HasMark (sum : List ℕ → ℕ) (site : SegmentPosition) (bytes : List ℕ) (H : History) : Type 0 where
  pub mark : ℤ
  pub is : take 20 bytes ≡ short_header sum (pos site.place) mark
  pub of_history : IsMarkOf H (record { place = site.place; slot = site.slot; mark = mark })

-- A history, and the bytes and reservations of a segment: the messages that were written, and those that were completed since, which stand in the buffer.
-- Nothing of it is about the device.
pub record HoldsRecords (sum : List ℕ → ℕ) (size : ℕ) (site : SegmentPosition) (bytes : List ℕ) (written_len : ℕ) (reserved : List Reserved) (H : History)
    : Type 0 where
  -- the messages that were written
  pub earlier : List Message
  pub messages : H.messages ≡ earlier ++ completed_in site bytes reserved
  pub below : EndBelow (site.place + written_len) earlier
  pub apart : LieApart earlier
  pub batched : HasBatches size site written_len (batches_in site bytes reserved) H.batches
  -- none ends in what fills the segment, and none behind what is reserved of it
  pub no_end : NoBatchEnds H (site.place + records_end reserved (length bytes)) (site.place + size)
  pub place_begins : site.place % size ≡ 0
  pub slot_begins : site.slot % size ≡ 0
  pub header : written_len ≡ 0 → HasMark sum site bytes H
  pub chain : IsChain (max 20 written_len) reserved (length bytes)
  pub stand : All (Stands sum size (site.place / size) bytes) reserved

-- The same over a device: what was written is settled there, with those messages of earlier segments that stay.
pub record HoldsSegment (sum : List ℕ → ℕ) (parts : LogParts) (stays : Message → Type 0) (H : History) : Type 0 where
  pub records : HoldsRecords sum parts.size parts.site parts.bytes parts.written_len parts.reserved H
  pub written : parts.fault ≡ None → IsOnDevice sum parts.size parts.device.log parts.site parts.written_len records.earlier stays
  -- what the log file has of the sealed buffers, and zeros behind them
  pub laid : parts.fault ≡ None → Laid parts.device.log.bytes parts.site.slot parts.bytes parts.written_len parts.sealed parts.size

-- where it lies, how much of it is written, and where what fills it begins
abbrev pub begun_segment : SegmentParts → BegunSegment
begun_segment s = record { site = s.site; from = s.written_len; filled = s.filled }

-- A segment that begins at a place holds these messages.
pub record HoldsNext (sum : List ℕ → ℕ) (size : ℕ) (device : State) (fault : Option IoError) (place : ℕ) (s : SegmentParts) (stays : Message → Type 0)
    (batches : List Batch) (own : List Message) : Type 0 where
  pub next : s.site.place ≡ place
  pub inside : length s.bytes ≤ size
  pub are : AreSealed s.written_len s.reserved s.sealed
  pub held : sealed_end s.written_len s.sealed ≤ length s.bytes
  pub behind : s.written_len ≤ length s.bytes
  pub segment : HoldsSegment sum (log_parts size s.site device fault s.bytes s.written_len s.sealed s.reserved) stays (record {
    messages = own;
    batches = batches;
  })
  -- behind its header
  pub above : All (λ m. place + 20 ≤ m.place) own

-- Segments that begin one behind another at a place hold these messages.
abbrev pub HoldBehind : (List ℕ → ℕ) → ℕ → State → Option IoError → ℕ → List SegmentParts → (Message → Type 0) → List Batch → List Message → Type 0
HoldBehind sum size device fault place [] stays batches ms = ms ≡ []
HoldBehind sum size device fault place (s ∷ ss) stays batches ms =
    (own later : List Message) × (ms ≡ own ++ later) × HoldsNext sum size device fault place s stays batches own
    × HoldBehind sum size device fault (place + size) ss stays batches later

-- The same of a log: its first segment that isn't wholly on the device holds these messages and all before them, and the segments that were begun behind it
-- hold the later ones. The newest snapshot is that with which the log began.
pub record HoldsIn (sum : List ℕ → ℕ) (marks : JoinedMarks) (parts : LogParts) (behind : List SegmentParts) (H : History) : Type 0 where
  pub begun : IsBegunFrom sum marks.joined marks.durable parts.size parts.device.snapshots.file parts.site parts.written_len H
  pub head : List Message
  pub later : List Message
  pub messages : H.messages ≡ head ++ later
  pub own : HoldsSegment sum parts (StaysFrom H (held_of begun)) (record { messages = head; batches = H.batches })
  pub others : HoldBehind sum parts.size parts.device parts.fault (parts.site.place + parts.size) behind
      (StaysBelow H (held_of begun) parts.site.place) H.batches later
  pub apart : FollowApart parts.site (map begun_segment behind)
  -- the header of a segment behind of which nothing is written has a mark below the stable end
  pub marked : (s : SegmentParts) → Contains behind s → s.written_len ≡ 0 → (mark : ℤ) → IsHeader sum (take 20 s.bytes) (pos s.site.place) mark
      → mark <ℤ pos (parts.site.place + parts.written_len)

-- Segments one behind another hold a history, over a device.
abbrev pub HoldsLine : (List ℕ → ℕ) → JoinedMarks → ℕ → State → Option IoError → List SegmentView → History → Type 0
HoldsLine sum marks size device fault [] H = ⊥
HoldsLine sum marks size device fault (v ∷ vs) H =
    HoldsIn sum marks (log_parts size v.parts.site device fault v.parts.bytes v.parts.written_len v.parts.sealed v.parts.reserved) (map parts_in vs) H

-- how far the first one of segments is written
abbrev pub written_to : List SegmentView → ℕ
written_to [] = 0
written_to (v ∷ vs) = v.parts.site.place + v.parts.written_len

-- The batches of a history of which all up to one place is written, and which has places below another one. Those that aren't wholly written are noted.
-- Each of these has no place in common with another one, and no message that begins in front of it ends in it.
pub record FitsBatches (end last : ℕ) (noted : List Batch) (H : History) : Type 0 where
  pub known : (b : Batch) → Contains noted b → Contains H.batches b
  pub all : (b : Batch) → Contains H.batches b → end ≤ b.peg → Contains noted b
  pub within : CloseBelow last H.batches
  pub apart : AreApart end H.batches
  pub before : (m : Message) → Contains H.messages m → (b : Batch) → Contains H.batches b → end ≤ b.peg → m.place < b.low → m.place + m.size ≤ b.low
  -- where it ends before that place it begins there, too
  pub rising : (b : Batch) → Contains H.batches b → (b.low ≤ b.peg) ⊎ (b.low < end)

-- So do those of a log that has noted these batches and whose slots are these: theirs are taken, and the free ones have zeros.
pub record HoldsWith (sum : List ℕ → ℕ) (marks : JoinedMarks) (noted : List Batch) (size : ℕ) (device : State) (fault : Option IoError)
    (line : List SegmentView) (m : Machine) (H : History) : Type 0 where
  pub holds : HoldsLine sum marks size device fault line H
  pub batches : FitsBatches (written_to line) (line_end size line) noted H
  pub slots : HasSlots size line device.log.bytes fault m

-- So they do over a device of which so much is shown.
pub record HoldsShown (sum : List ℕ → ℕ) (marks : JoinedMarks) (noted : List Batch) (size : ℕ) (device : State) (fault : Option IoError)
    (line : List SegmentView) (m : Machine) (H : History) : Type 0 where
  pub shows : HoldsWith sum marks noted size (shown size fault m line device) fault line m H
  pub rests : RestsWhole fault device.log

-- The buffers of a log are those that they were, and behind them at most those that begin at or behind all that was reserved: the header of a segment that
-- was begun is one.
pub record AddsBuffers {D C : Type 0} (sum : List ℕ → ℕ) (old new : Log D C) : Type 0 where
  pub more : List BufferAt
  pub is : buffers_of sum new ≡ buffers_of sum old ++ more
  pub behind : All (λ (b : BufferAt). reserved_end old ≤ b.place) more
