-- Where a run of commands stands between two commands.
use Rattle.std.specs.Prelude.{◌≡◌, ◌≤◌, ◌<◌, ◌+◌, ◌-◌, ◌-ℤ◌, ◌%◌, ◌^◌, ◌==◌, ◌∷◌, nat_lt, not, zero, suc, if◌then◌else◌, ℕ, ℤ, pos}
use Rattle.std.specs.Prelude.{Bool, true, false}
use Rattle.std.specs.Prelude.{List, [], length, slice_get, Option, None, Some, Contains}
use Rattle.std.specs.declared.io.Error.{Error as IoError}
use Rattle.sled_codec.specs.declared.result.DiskPtr.{DiskPtr}
use Rattle.sled_codec.specs.declared.result.DiskPtr.TheVariants.{Inline, Blob}
use Rattle.sled_codec.specs.declared.serialization.message.LogKind.{LogKind}
use Rattle.sled_codec.specs.declared.serialization.message.LogKind.TheVariants.{Replace}
use Rattle.sled_codec.specs.Snapshots.{SnapshotModel, stable_place}
use Rattle.sled_codec.specs.History.{Batch, Message, History, no_history, below, is_replace, table}
use Rattle.sled_store.specs.Device.{Trace, state_of}
use Rattle.sled_store.specs.declared.segment.slot.CacheInfo.{CacheInfo}
use Rattle.sled_core.specs.Buffers.{pointer_as}
use Rattle.sled_core.specs.Fits.{blob_at, in_blob}
use Rattle.sled_core.specs.FreeSlots.{begun_machine}
use Rattle.sled_core.specs.Manifests.{manifest_page}
use Rattle.sled_core.specs.LogStatus.{LogStatus, failing, readied, stable_in}
use Rattle.sled_core.specs.Spans.{count_unheld}
use Rattle.sled_core.specs.Positions.{Position, lid_at, placed_at, size_at}
use Rattle.sled_core.specs.Starts.{position_from, start_from}
use Rattle.sled_core.specs.Waiting.{BufferStart}

-- What is seen of a device between two commands.
pub record DeviceView : Type 0 where
  -- what was asked of it
  pub trace : Trace
  -- how many of its calls failed
  pub failures : ℕ
  -- a call was stopped within, and no crash came since
  pub is_stopped : Bool

-- how long its log file is
abbrev pub length_of : DeviceView → ℕ
length_of device = length (state_of device.trace).log.bytes

-- Where a buffer was begun, and should it begin its segment: the mark in the header of that, and where what fills the segment in front of it begins, which is
-- the place behind the greatest record that was reserved then.
pub record MarkAt : Type 0 where
  pub place : ℕ
  pub mark : ℤ
  pub end : ℕ

-- What is seen of a log that is open.
pub record LogView : Type 0 where
  -- where it stands
  pub status : LogStatus
  -- how many pages are begun
  pub begun : ℕ
  -- the messages of the reservations that have a ticket, by number: each of them, but for a ticket that was spent while the log kept a failure
  pub tickets : List (Option Message)
  -- the messages that were given up since the log was started, as the log has them, the last one first
  pub given_up : List Message
  -- where a buffer was begun since the log was started, the last one first
  pub heads : List MarkAt

-- What was begun, once the current buffer begins there. A segment that begins with it has the last stable place for its mark, and what fills the one in front
-- of it begins where what was reserved ends.
abbrev pub heads_at : LogView → BufferStart → List MarkAt
heads_at l start =
    if nat_lt l.status.start.place start.place
    then record { place = start.place; mark = pos (stable_in l.status) -ℤ pos 1; end = l.status.reserved } ∷ l.heads
    else l.heads

-- it stands there now
abbrev pub with_status : LogView → LogStatus → LogView
with_status l s = record l { status = s; heads = heads_at l s.start }

-- A mark of a completed message, of this page and known to the log by this, in place of these: all that the page was, or none, where it is a Link.
pub record DueMark : Type 0 where
  pub kind : LogKind
  pub page : ℕ
  pub old : List CacheInfo
  pub new : CacheInfo

-- Where a run stands: its device, the completed messages, the end of what was acknowledged, the cut of the last recovery, the log, where one is open, and the
-- mark that is due of it, where memory for that was refused.
pub record RunState : Type 0 where
  pub device : DeviceView
  pub history : History
  pub acknowledged : ℕ
  pub floor : ℕ
  pub log : Option LogView
  pub due : Option DueMark

-- a run that begins on a device
abbrev pub begins_on : DeviceView → RunState
begins_on device = record { device = device; history = no_history; acknowledged = 0; floor = 0; log = None; due = None }

-- the same run, with a device as it is now and with this log
abbrev pub with_log : RunState → DeviceView → Option LogView → RunState
with_log a now log = record a { device = now; log = log }

-- the same with no log open, and so no mark due
abbrev pub closed : RunState → DeviceView → RunState
closed a now = record a { device = now; log = None; due = None }

-- the run behind a recovery: what lies past the cut is forgotten, and the cut is the floor
abbrev pub recovered : RunState → DeviceView → SnapshotModel → Option LogView → RunState
recovered a now s log = record a { device = now; history = below a.history (stable_place s.stable); floor = stable_place s.stable; log = log; due = None }

-- The log.

-- where it begins its first buffer, with the header of a new segment or behind one
abbrev pub heads_on : ℕ → ℕ → SnapshotModel → List MarkAt
heads_on size len s =
    record { place = (start_from size len s).place; mark = pos (stable_place s.stable) -ℤ pos 1; end = stable_place s.stable } ∷ []

-- a log that was started on a snapshot, where its log file had this length: no pin is out, and its marks begin as the snapshot's place
abbrev pub started_on : ℕ → ℕ → SnapshotModel → LogView
started_on size len s = record {
  status = record {
    position = position_from size len s;
    machine = begun_machine size len s;
    reserved = stable_place s.stable;
    synced = stable_place s.stable;
    noted = [];
    waiting = [];
    start = start_from size len s;
    opens = [];
    fault = None;
    pins = 0;
    account = record { mark = pos (stable_place s.stable); durable = pos (stable_place s.stable); pinned = false };
  };
  begun = length s.pages;
  tickets = [];
  given_up = [];
  heads = heads_on size len s;
}

-- how long the body of the record of an item of n bytes is: it is the item, or the place of its blob
abbrev pub body_length_in : ℕ → ℕ → ℕ
body_length_in size n = if in_blob size n then 8 else n

-- where the record of a page with a body of n bytes is put
abbrev pub target_in : ℕ → LogView → ℕ → ℕ → Position
target_in size l page n = placed_at size l.status.position page n

-- the message of a page with these bytes that is reserved next, in its record or in a blob under its place
abbrev pub message_at : ℕ → LogView → LogKind → ℕ → List ℕ → Message
message_at size l kind page bytes =
    let n = body_length_in size (length bytes) in
    let q = target_in size l page n in
    record {
      kind = kind;
      page = page;
      place = q.place;
      pointer = pointer_as (blob_at (in_blob size (length bytes)) q.place) (lid_at q);
      size = size_at size l.status.position page n;
      bytes = bytes;
    }

-- that of a page with these bytes whose item stays in an old blob, at this place
abbrev pub rewriting_at : ℕ → LogView → ℕ → ℤ → List ℕ → Message
rewriting_at size l page blob bytes =
    let q = target_in size l page 8 in
    record { kind = Replace; page = page; place = q.place; pointer = Blob (lid_at q) blob; size = size_at size l.status.position page 8; bytes = bytes }

-- The segment of a position ends in reach, in the log and in the file.
pub record EndsInReach (size : ℕ) (q : Position) : Type 0 where
  pub place : q.begins + size < 2 ^ 63
  pub slot : q.slot + size < 2 ^ 63

-- The log ready for a record that begins at a position, which it has none of, with the failure that it keeps: behind what fills the current segment, where
-- the record begins a further one. What was reserved ends where it did.
abbrev pub made_ready : LogView → Position → Option IoError → LogView
made_ready l q fault = with_status l (failing fault (readied q l.status))

-- The active segment that a snapshot shows: none where its place is the end of a segment, else a slot, and its place lies where a record can begin.
abbrev pub ShowsActive : ℕ → ℕ → Option ℕ → Type 0
ShowsActive size place None = place % size ≡ 0
ShowsActive size place (Some slot) = (slot % size ≡ 0) × (20 ≤ place % size) × (place % size + 32 ≤ size)

-- Tickets.

-- the messages of those that are open
abbrev pub open_messages : List (Option Message) → List Message
open_messages [] = []
open_messages (None ∷ ts) = open_messages ts
open_messages (Some m ∷ ts) = m ∷ open_messages ts

-- the places of the others, once one of them is ended
abbrev pub places_without : ℕ → List ℕ → List ℕ
places_without place [] = []
places_without place (p ∷ ps) = if p == place then ps else p ∷ places_without place ps

-- one of them is of a page
abbrev pub has_message_for : ℕ → List Message → Bool
has_message_for page [] = false
has_message_for page (m ∷ ms) = if m.page == page then true else has_message_for page ms

-- a ticket is open
abbrev pub is_some : Option Message → Bool
is_some None = false
is_some (Some m) = true

abbrev pub has_ticket : ℕ → List (Option Message) → Bool
has_ticket n [] = false
has_ticket zero (t ∷ ts) = is_some t
has_ticket (suc n) (t ∷ ts) = has_ticket n ts

-- a message changes a page: it isn't the manifest of a batch
abbrev pub is_message : Option Message → Bool
is_message None = false
is_message (Some m) = not (m.page == manifest_page)

-- a ticket is open, and for such a message
abbrev pub has_message : ℕ → List (Option Message) → Bool
has_message n [] = false
has_message zero (t ∷ ts) = is_message t
has_message (suc n) (t ∷ ts) = has_message n ts

-- the messages of the tickets of the log that is open, by number
abbrev pub tickets_in : Option LogView → List (Option Message)
tickets_in None = []
tickets_in (Some l) = l.tickets

abbrev pub tickets_of : RunState → List (Option Message)
tickets_of a = tickets_in a.log

-- A batch has all that was completed, and the messages of all open tickets.
pub record HasAll (a : RunState) (b : Batch) : Type 0 where
  pub completed : (x : Message) → Contains a.history.messages x → x.place + x.size ≤ b.peg + 1
  pub reserved : (n : ℕ) (x : Message) → slice_get (tickets_of a) n ≡ Some (Some x) → x.place + x.size ≤ b.peg + 1

-- a batch is begun: its manifest has an open ticket
abbrev pub in_batch : List (Option Message) → Bool
in_batch tickets = has_message_for manifest_page (open_messages tickets)

-- how many of its sealed buffers can be written
abbrev pub pending_in_view : LogView → ℕ
pending_in_view l = count_unheld l.status.opens l.status.waiting

-- Pages.

-- the blob that a pointer names
abbrev pub blob_in : DiskPtr → Option ℤ
blob_in (Inline lid) = None
blob_in (Blob lid place) = Some place

-- above all places
abbrev pub top : ℕ
top = 2 ^ 63

-- what a page is: its last Replace or Free, and behind a Replace the Links on it
abbrev pub page_now : History → ℕ → List Message
page_now H page = table H top page

-- it is present
abbrev pub is_present : List Message → Bool
is_present [] = false
is_present (m ∷ ms) = is_replace m.kind

-- the blob of a page that is one Replace with its item in it
abbrev pub one_blob : List Message → Option ℤ
one_blob (m ∷ []) = if is_replace m.kind then blob_in m.pointer else None
one_blob _ = None
