-- What a log has to do with the history of what was completed, and with its device. Its segments lie one behind another; the first one isn't wholly on the
-- device, and the last one is being filled.
use Rattle.std.specs.Prelude.{◌≡◌, ◌⊎◌, ◌+◌, ◌-◌, ◌*◌, ◌/◌, ◌%◌, ◌^◌, ◌≤◌, ◌<◌, ◌≤ℤ◌, if◌then◌else◌, nat_le, nat_lt, Bool, ℕ, ℤ, pos, true, List, [], ◌∷◌}
use Rattle.std.specs.Prelude.{length}
use Rattle.std.specs.Prelude.{map, drop, take, All, Option, None, Some, slice_get, Contains}
use Rattle.std.specs.declared.io.Error.{Error as IoError}
use Rattle.sled_codec.specs.declared.result.DiskPtr.TheVariants.{Blob}
use Rattle.sled_codec.specs.declared.serialization.message.LogKind.{LogKind}
use Rattle.sled_codec.specs.declared.serialization.message.LogKind.TheVariants.{Replace}
use Rattle.sled_codec.specs.History.{Message, Batch, History, CutFits, table}
use Rattle.sled_codec.specs.WellFormed.{LieApart}
use Rattle.sled_codec.specs.Snapshots.{SnapshotModel, stable_place}
use Rattle.sled_codec.specs.PageTables.{IsTable}
use Rattle.sled_store.specs.Accounts.{MayHandOut, machine_of}
use Rattle.sled_store.specs.Device.{Event, Trace, LogState, State, state_of, at_rest}
use Rattle.sled_store.specs.SegmentStates.{Machine, next_slot}
use Rattle.sled_store.specs.SnapshotFiles.{BeginsFrom}
use Rattle.sled_core.specs.declared.iobuf.Reserved.{Reserved}
use Rattle.sled_core.specs.declared.iobuf.SegmentPosition.{SegmentPosition}
use Rattle.sled_core.specs.declared.reservation.Reservation.{Reservation}
use Rattle.sled_core.specs.declared.logger.Log.{Log}
use Rattle.sled_store.specs.declared.config.RunningConfig.{RunningConfig}
use Rattle.sled_core.specs.Account.{account_of}
use Rattle.sled_core.specs.Begun.{SegmentView, begin_of, line_in, segment_view}
use Rattle.sled_core.specs.Buffers.{pointer_as, message_in, none_open, open_in, first_open_in}
use Rattle.sled_core.specs.Among.{AreAmong}
use Rattle.sled_core.specs.Fillings.{FillingAt, fillings_along}
use Rattle.sled_core.specs.Freeing.{Ledger}
use Rattle.sled_core.specs.GivenUp.{given_up_along}
use Rattle.sled_core.specs.Heads.{HeadAt, heads_along}
use Rattle.sled_core.specs.LogFile.{IsLogFile, StaysFrom}
use Rattle.sled_core.specs.Ledger.{writings}
use Rattle.sled_core.specs.LogSegments.{begins_from, held_from}
use Rattle.sled_core.specs.Logged.{in_log, logged}
use Rattle.sled_core.specs.OpenBatches.{batch_of, not_whole, stable_below}
use Rattle.sled_core.specs.OpenPlaces.{open_places_along}
use Rattle.sled_core.specs.Pool.{count_unwritten}
use Rattle.sled_core.specs.Positions.{Position, behind_record, is_short, placed_at, lid_at, position_in, size_at}
use Rattle.sled_core.specs.SealedBuffers.{sealed_count}
use Rattle.sled_core.specs.Tickets.{index_of, IsFor}
use Rattle.sled_core.specs.Waiting.{BufferAt, BufferStart, at_last, buffers_in, closed_now, free_below, held_below, last_of, one_pending, pending_in, spans}
use Rattle.sled_core.specs.Waiting.{start_in, unwritten}

-- What a caller sees of a log.

-- the failure of the device that it keeps
abbrev pub fault_of : {D C : Type 0} → Log D C → Option IoError
fault_of log = log.fault.kept

-- its segments, by place: the first one that isn't wholly on the device, and those begun behind it
abbrev pub line_of : {D C : Type 0} → Log D C → List SegmentView
line_of log = line_in log.segments

-- the one that is being filled
abbrev pub current_of : {D C : Type 0} → Log D C → SegmentView
current_of log = last_of (segment_view log.segments.first) (map segment_view log.segments.behind.items)

-- what runs on behind them: the slots of the log file
abbrev pub machine_at : {D C : Type 0} → Log D C → Machine
machine_at log = machine_of log.accountant

-- they and its marks
abbrev pub ledger_of : {D C : Type 0} → Log D C → Ledger
ledger_of log = record { machine = machine_at log; account = account_of log }

-- the reservations of the current buffer
abbrev pub current_reserved_in : SegmentView → List Reserved
current_reserved_in v = drop (sealed_count v.parts.sealed) v.parts.reserved

-- how many of them are open or abandoned
abbrev pub open_of : {D C : Type 0} → Log D C → ℕ
open_of log = open_in (current_reserved_in (current_of log))

-- this is the least place of an open one of these
abbrev pub IsLeastOpen : {D C : Type 0} → Log D C → ℤ → Type 0
IsLeastOpen log place =
    (from : ℕ) × (first_open_in (current_reserved_in (current_of log)) ≡ Some from) × (place ≡ pos ((current_of log).parts.site.place + from))

-- the size of the log's segments
abbrev pub segment_size_of : {D C : Type 0} → Log D C → ℕ
segment_size_of log = log.config.config.segment_size

-- Where the next record may begin.
abbrev pub position_of : {D C : Type 0} → Log D C → Position
position_of log = position_in log.config.config.segment_size (current_of log) (machine_of log.accountant)

-- where it may begin with slots left as this machine has them
abbrev pub position_with : {D C : Type 0} → Log D C → Machine → Position
position_with log m = position_in (segment_size_of log) (current_of log) m

abbrev pub next_place : {D C : Type 0} → Log D C → ℕ
next_place log = (position_of log).place

-- the place behind all that is on the device without a gap
abbrev pub synced_end : {D C : Type 0} → Log D C → ℕ
synced_end log = log.segments.first.site.place + log.segments.first.buffer.written_len

-- the batches that were noted and aren't wholly on the device, by place
abbrev pub noted_in : {D C : Type 0} → Log D C → List Batch
noted_in log = not_whole (synced_end log) (map batch_of log.batches.noted.items)

-- how many batches a log keeps in memory: those, and those that are wholly on the device and weren't left out yet
abbrev pub kept_batches : {D C : Type 0} → Log D C → ℕ
kept_batches log = length log.batches.noted.items

-- the place behind the stable end: behind all that is on the device without a gap, or where the lowest batch begins that goes on behind that
abbrev pub stable_end : {D C : Type 0} → Log D C → ℕ
stable_end log = stable_below (synced_end log) (noted_in log)

-- the place behind the greatest record that was reserved; before the first reservation that is the place behind the stable end with which the log began
abbrev pub reserved_end : {D C : Type 0} → Log D C → ℕ
reserved_end log = log.reserved_to

-- how many buffers of segments that were written a log keeps for further ones
abbrev pub pooled_of : {D C : Type 0} → Log D C → ℕ
pooled_of log = log.pool.count

-- how many of its segments aren't wholly on the device
abbrev pub unwritten_segments : {D C : Type 0} → Log D C → ℕ
unwritten_segments log = count_unwritten (segment_size_of log) (line_of log)

-- how many pins are out
abbrev pub pins_of : {D C : Type 0} → Log D C → ℕ
pins_of log = log.pins

-- the sealed buffers that aren't on the device, by place
abbrev pub waiting_of : {D C : Type 0} → Log D C → List BufferAt
waiting_of log = unwritten (line_of log)

-- no buffer is sealed that isn't written
abbrev pub NoneSealed : {D C : Type 0} → Log D C → Type 0
NoneSealed log = waiting_of log ≡ []

-- All before a place is on the device, and what begins there isn't: the first of these buffers, or the current one, which begins there.
abbrev pub FirstWaits : ℕ → ℕ → List BufferAt → Type 0
FirstWaits stable begin [] = stable ≡ begin
FirstWaits stable begin (b ∷ bs) = stable ≡ b.place

-- where the record is put of a page's message with an item of n bytes
abbrev pub target_of : {D C : Type 0} → Log D C → ℕ → ℕ → Position
target_of log page n = placed_at (segment_size_of log) (position_of log) page n

-- how long that record is
abbrev pub size_for : {D C : Type 0} → Log D C → ℕ → ℕ → ℕ
size_for log page n = size_at (segment_size_of log) (position_of log) page n

-- a message with an item of n bytes has that in a blob: it takes more than a quarter of a segment
abbrev pub in_blob : ℕ → ℕ → Bool
in_blob size n = nat_lt (size / 4 - 20) (32 + n)

-- whether one of a log has
abbrev pub in_blob_of : {D C : Type 0} → Log D C → ℕ → Bool
in_blob_of log n = in_blob (segment_size_of log) n

-- how long the body of its record is then: it is the item, or the blob's place
abbrev pub body_length : {D C : Type 0} → Log D C → ℕ → ℕ
body_length log n = if in_blob_of log n then 8 else n

-- the blob of a message whose record stands at a place, where it has one: it has that place for its name
abbrev pub blob_at : Bool → ℕ → Option ℤ
blob_at has place = if has then Some (pos place) else None

-- the message that is reserved next for an item of these bytes, which goes to a blob or not, with a body of n bytes in its record
abbrev pub message_as : {D C : Type 0} → Log D C → LogKind → ℕ → Bool → ℕ → List ℕ → Message
message_as log kind page blob n item =
    let q = target_of log page n in
    record { kind = kind; page = page; place = q.place; pointer = pointer_as (blob_at blob q.place) (lid_at q); size = size_for log page n; bytes = item }

-- by how long the item is
abbrev pub message_for : {D C : Type 0} → Log D C → LogKind → ℕ → List ℕ → Message
message_for log kind page item = message_as log kind page (in_blob_of log (length item)) (body_length log (length item)) item

-- that of a page whose item stays in an old blob, at this place
abbrev pub message_rewriting : {D C : Type 0} → Log D C → ℕ → ℤ → List ℕ → Message
message_rewriting log page blob item =
    let q = target_of log page 8 in
    record { kind = Replace; page = page; place = q.place; pointer = Blob (lid_at q) blob; size = size_for log page 8; bytes = item }

-- where the next record may begin behind that one
abbrev pub position_behind : {D C : Type 0} → Log D C → ℕ → ℕ → Position
position_behind log page n = behind_record (segment_size_of log) (target_of log page n) (size_for log page n)

-- a message with an item of n bytes has it inline
abbrev pub FitsInline : ℕ → ℕ → Type 0
FitsInline size n = 32 + n ≤ size / 4 - 20

-- no further segment ends in reach, in the log and in the file
abbrev pub NoFurther : {D C : Type 0} → Log D C → Type 0
NoFurther log = MayHandOut log.config.config.segment_size ((current_of log).parts.site.place + log.config.config.segment_size) (machine_of log.accountant) → ⊥

-- a record needs a further segment
abbrev pub is_moved : {D C : Type 0} → Log D C → ℕ → ℕ → Bool
is_moved log page n = nat_le ((current_of log).parts.site.place + segment_size_of log) (target_of log page n).place

-- It does, and there is none in reach.
abbrev pub IsUsedUpFor : {D C : Type 0} → Log D C → ℕ → ℕ → Type 0
IsUsedUpFor log page n = (is_moved log page n ≡ true) × NoFurther log

-- how many reservations are open or abandoned of the buffer that the record would be of
abbrev pub open_for : {D C : Type 0} → Log D C → ℕ → ℕ → ℕ
open_for log page n = if is_moved log page n then 0 else open_of log

-- the sealed buffers that aren't on the device behind that reservation: where it needs a further segment, the current one with what fills its segment is
-- among them
abbrev pub waiting_behind : {D C : Type 0} → (List ℕ → ℕ) → Log D C → ℕ → ℕ → List BufferAt
waiting_behind sum log page n = if is_moved log page n then unwritten (at_last (closed_now sum (segment_size_of log)) (line_of log)) else waiting_of log

-- where the current buffer begins
abbrev pub current_begin : {D C : Type 0} → Log D C → ℕ
current_begin log = (current_of log).parts.site.place + begin_of (current_of log)

abbrev pub start_of : {D C : Type 0} → Log D C → BufferStart
start_of log = start_in (current_of log)

-- Once the current buffer is sealed, with its segment, where no further record has room there, the next record begins where it would have begun.
abbrev pub position_sealed : {D C : Type 0} → Log D C → Machine → Position
position_sealed log m = record (position_of log) { machine = m }

-- the slots are those that are left behind that one
abbrev pub ledger_sealed : {D C : Type 0} → Log D C → Ledger
ledger_sealed log = record { machine = (position_of log).machine; account = account_of log }

-- so they are before a call writes up to a place, which seals that buffer where it begins below that
abbrev pub ledger_for : {D C : Type 0} → ℕ → Log D C → Ledger
ledger_for to log = if nat_lt (current_begin log) to then ledger_sealed log else ledger_of log

-- where it begins behind a reservation: with the next segment, where the record needs one
abbrev pub start_behind : {D C : Type 0} → Log D C → ℕ → ℕ → BufferStart
start_behind log page n =
    if is_moved log page n
    then record { place = (current_of log).parts.site.place + segment_size_of log; lid = next_slot (machine_of log.accountant) * segment_size_of log }
    else start_of log

-- and which slots there are then: where it needs one, that one's is handed out
abbrev pub machine_behind : {D C : Type 0} → Log D C → ℕ → ℕ → Machine
machine_behind log page n = if is_moved log page n then (target_of log page n).machine else machine_at log

-- how many buffers of segments it keeps then: where it needs one, that takes one of them
abbrev pub pooled_behind : {D C : Type 0} → Log D C → ℕ → ℕ → ℕ
pooled_behind log page n = if is_moved log page n then pooled_of log - 1 else pooled_of log

-- To seal the current buffer takes a further segment, since no further record has room in its own, and there is none in reach.
abbrev pub IsUsedUp : {D C : Type 0} → Log D C → Type 0
IsUsedUp log = (is_short log.config.config.segment_size (length (current_of log).parts.bytes) ≡ true) × NoFurther log

-- so it is with a call that seals it where it begins below a place, where it has that place, or where it holds anything
abbrev pub IsUsedUpBelow : {D C : Type 0} → Log D C → ℕ → Type 0
IsUsedUpBelow log to = (current_begin log < to) × IsUsedUp log

-- A ticket is for an open reservation of the log, which keeps the place of this message, as the log has it.
pub record AwaitsIn (line : List SegmentView) (ticket : Reservation) (m : Message) : Type 0 where
  -- which segment it is of, and which of its reservations
  pub number : ℕ
  pub segment : SegmentView
  pub among : slice_get line number ≡ Some segment
  pub reserved : Reserved
  pub numbered : segment.gone ≤ index_of ticket
  pub there : slice_get segment.parts.reserved (index_of ticket - segment.gone) ≡ Some reserved
  pub own : IsFor segment.parts.site reserved ticket
  pub message : m ≡ message_in segment.parts.site segment.parts.bytes reserved

abbrev pub Awaits : {D C : Type 0} → Log D C → Reservation → Message → Type 0
Awaits log ticket m = AwaitsIn (line_of log) ticket (in_log m)

-- a ticket is for an open reservation of the log
abbrev pub IsOpen : {D C : Type 0} → Log D C → Reservation → Type 0
IsOpen log ticket = (m : Message) × Awaits log ticket m

-- no reservation of these segments is open or abandoned
abbrev pub NoneOpenIn : List SegmentView → Type 0
NoneOpenIn line = (n : ℕ) (v : SegmentView) → slice_get line n ≡ Some v → none_open v.parts.reserved ≡ true

-- no reservation of the log is open or abandoned
abbrev pub NoneOpen : {D C : Type 0} → Log D C → Type 0
NoneOpen log = NoneOpenIn (line_of log)

-- the places of all that are
abbrev pub open_places : {D C : Type 0} → Log D C → List ℕ
open_places log = open_places_along (line_of log)

-- the messages that were given up, as the log has them, of those whose reservations it has in memory
abbrev pub given_up_of : {D C : Type 0} → Log D C → List Message
given_up_of log = given_up_along (line_of log)

-- the headers of its segments that aren't on the device yet
abbrev pub heads_of : {D C : Type 0} → Log D C → List HeadAt
heads_of log = heads_along (line_of log)

-- where what fills its segments begins, of what isn't on the device yet
abbrev pub fillings_of : {D C : Type 0} → Log D C → List FillingAt
fillings_of log = fillings_along (line_of log)

-- The log file has these messages, and those that stay of earlier segments, and all of it is settled, so that a crash leaves just that.
pub record IsOnDevice (sum : List ℕ → ℕ) (size : ℕ) (device : LogState) (site : SegmentPosition) (from : ℕ) (messages : List Message)
    (stays : Message → Type 0) : Type 0 where
  pub log : List ℕ
  pub settled : device ≡ at_rest log
  pub file : IsLogFile sum size log site from messages stays

-- The newest snapshot on the device is the table of the history below its own place, which is where the segment at this site begins, or in it, or in an
-- earlier one.
pub record IsBegunFrom (sum : List ℕ → ℕ) (mark durable : ℤ) (size : ℕ) (snapshots : ℤ → Option (List ℕ)) (site : SegmentPosition) (from : ℕ)
    (H : History) : Type 0 where
  pub first : SnapshotModel
  pub begins : BeginsFrom sum snapshots first
  pub table : IsTable first.pages H (stable_place first.stable)
  pub fits : CutFits H (stable_place first.stable)
  pub least : stable_place first.stable / size * size ≤ site.place
  pub reached : stable_place first.stable ≤ site.place + from
  -- the mark that joined isn't below it; the greatest one on the device isn't above what is written, nor is its segment above this one
  pub joined : pos (stable_place first.stable) ≤ℤ mark
  pub written : durable ≤ℤ pos (site.place + from)
  pub marked : begins_from size durable ≤ site.place

-- from where a log has what was written
abbrev pub held_of : {sum : List ℕ → ℕ} {mark durable : ℤ} {size : ℕ} {snapshots : ℤ → Option (List ℕ)} {site : SegmentPosition} {from : ℕ} {H : History}
    → IsBegunFrom sum mark durable size snapshots site from H → ℕ
held_of {mark = mark} {size = size} begun = held_from size (stable_place begun.first.stable) mark

-- messages lie below a place, and end there at most
abbrev pub EndBelow : ℕ → List Message → Type 0
EndBelow place = All (λ m. (m.place < place) × (m.place + m.size ≤ place))

-- batches begin and end below a place
abbrev pub CloseBelow : ℕ → List Batch → Type 0
CloseBelow place = All (λ b. (b.low < place) × (b.peg < place))

-- A log has the record of a message: it is of a segment that isn't wholly on the device, or an entry of a table from the mark on that joined, or of the
-- table of all that was written, or of more. (Where the log holds a history, the mark isn't above what is written, so the latter are among the former.)
abbrev pub HasRecordOf : {D C : Type 0} → Log D C → History → Message → Type 0
HasRecordOf log H m =
    (log.segments.first.site.place ≤ m.place)
    ⊎ ((cut : ℕ) × ((log.marks.joined ≤ℤ pos cut) ⊎ (synced_end log ≤ cut)) × Contains (table H cut m.page) m)

-- All of a history is on the device and settled: the log file has the messages of the current segment and those that stay: the entries of the table at the
-- beginning of the mark's segment, or at the place where the log began, where that is greater, and all messages from there on.
pub record IsKept (sum : List ℕ → ℕ) (mark durable : ℤ) (size : ℕ) (site : SegmentPosition) (from : ℕ) (device : State) (H : History) : Type 0 where
  pub below : EndBelow (site.place + from) H.messages
  pub apart : LieApart H.messages
  pub batches : CloseBelow (site.place + from) H.batches
  pub place_begins : site.place % size ≡ 0
  pub slot_begins : site.slot % size ≡ 0
  pub in_reach : site.place + size < 2 ^ 63
  pub inside : from ≤ size
  pub begun : IsBegunFrom sum mark durable size device.snapshots.file site from H
  pub on_device : IsOnDevice sum size device.log site from H.messages (StaysFrom H (held_of begun))

-- all that a log holds is on its device, and settled: the history as the log has it
abbrev pub IsWritten : {D C : Type 0} → (D → Trace) → (List ℕ → ℕ) → Log D C → History → Type 0
IsWritten trace sum log H =
    IsKept sum log.marks.joined log.marks.durable log.config.config.segment_size log.segments.first.site log.segments.first.buffer.written_len
    (state_of (trace log.config.device)) (logged H)

-- all buffers that aren't on the device, by place, with the current one as it would be sealed
abbrev pub buffers_of : {D C : Type 0} → (List ℕ → ℕ) → Log D C → List BufferAt
buffers_of sum log = buffers_in sum log.config.config.segment_size (line_of log)

-- The calls that write those that begin below a place, and settle each, up to the first that has an open reservation, with the accountant's behind each.
abbrev pub writing_below : {D C : Type 0} → (List ℕ → ℕ) → Log D C → ℕ → List Event
writing_below sum log to = writings (segment_size_of log) (free_below to (buffers_of sum log)) (ledger_for to log)

-- those of them for so many buffers at the front
abbrev pub writing_some : {D C : Type 0} → ℕ → (List ℕ → ℕ) → Log D C → ℕ → List Event
writing_some count sum log to = writings (segment_size_of log) (take count (free_below to (buffers_of sum log))) (ledger_for to log)

-- the same for all that was reserved
abbrev pub flushing : {D C : Type 0} → (List ℕ → ℕ) → Log D C → List Event
flushing sum log = writing_below sum log (reserved_end log)

-- the least place of the open reservations of those that begin below a place
abbrev pub holding_below : {D C : Type 0} → (List ℕ → ℕ) → Log D C → ℕ → Option ℕ
holding_below sum log to = held_below to (buffers_of sum log)

-- how many sealed buffers can be written
abbrev pub pending_of : {D C : Type 0} → Log D C → ℕ
pending_of log = pending_in (waiting_of log)

-- the calls that write the i-th of these and settle it, with the accountant's
abbrev pub writing_pending : {D C : Type 0} → Log D C → ℕ → List Event
writing_pending log i = writings (segment_size_of log) (one_pending i (waiting_of log)) (ledger_of log)

-- how many bytes the current buffer has; the header of its segment counts
abbrev pub held_len : {D C : Type 0} → Log D C → ℕ
held_len log = length (current_of log).parts.bytes - begin_of (current_of log)

-- where the current buffer ends once it is sealed: where no further record has room behind it, with its segment
abbrev pub sealing_end : {D C : Type 0} → Log D C → ℕ
sealing_end log = (current_of log).parts.site.place
    + (if is_short log.config.config.segment_size (length (current_of log).parts.bytes) then log.config.config.segment_size
    else length (current_of log).parts.bytes)

-- tickets are for what they were for, the same reservations are open, and what counts as given up was given up before
pub record KeepsTickets {D C : Type 0} (old new : Log D C) : Type 0 where
  pub awaits : (ticket : Reservation) (m : Message) → Awaits old ticket m → Awaits new ticket m
  pub opens : open_places new ≡ open_places old
  pub given_up : AreAmong (given_up_of new) (given_up_of old)

-- nothing that a caller sees of the log is another
pub record IsUnchanged {D C : Type 0} (old new : Log D C) : Type 0 where
  pub line : line_of new ≡ line_of old
  pub reserved : new.reserved_to ≡ old.reserved_to
  pub fault : new.fault.kept ≡ old.fault.kept
  pub pins : new.pins ≡ old.pins
  pub marks : new.marks ≡ old.marks
  pub machine : machine_at new ≡ machine_at old
  pub noted : noted_in new ≡ noted_in old
  pub kept : kept_batches new ≤ kept_batches old
  pub config : new.config ≡ old.config
  pub pooled : pooled_of new ≡ pooled_of old

-- what the log runs on
abbrev pub config_of : {D C : Type 0} → Log D C → RunningConfig D C
config_of log = log.config

-- the device of a log
abbrev pub device_of : {D C : Type 0} → Log D C → D
device_of log = log.config.device

-- what runs the log, what is written of it, its failure and its pins stay
pub record KeepsAll {D C : Type 0} (old new : Log D C) : Type 0 where
  pub config : config_of new ≡ config_of old
  pub synced : synced_end new ≡ synced_end old
  pub noted : noted_in new ≡ noted_in old
  -- of those that are wholly on the device no more are kept in memory
  pub kept : kept_batches new ≤ kept_batches old
  pub fault : fault_of new ≡ fault_of old
  pub pins : pins_of new ≡ pins_of old
  pub account : account_of new ≡ account_of old

-- the sealed buffers that aren't on the device lie where they lay, and the current one begins where it did
pub record KeepsBuffers {D C : Type 0} (old new : Log D C) : Type 0 where
  pub waiting : spans (waiting_of new) ≡ spans (waiting_of old)
  pub start : start_of new ≡ start_of old
