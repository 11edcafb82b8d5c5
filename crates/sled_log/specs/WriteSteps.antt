-- What the commands come to that write: a flush, a write up to a place, and that of one buffer; and why a log fails.
use Rattle.std.specs.Prelude.{◌≡◌, ◌≢◌, ◌⊎◌, ◌+◌, ◌≤◌, ◌≤ℤ◌, ◌<ℤ◌, ◌<◌, ◌-◌, ◌%◌, ◌^◌, ◌∷◌, ℕ, ℤ, pos, max, IsTrue, List, [], drop, map, take, Option, None}
use Rattle.std.specs.Prelude.{Some, Err}
use Rattle.std.specs.List.{All}
use Rattle.std.specs.declared.io.Error.{Error as IoError}
use Rattle.sled_codec.specs.declared.result.Error.{Error}
use Rattle.sled_codec.specs.declared.result.Error.TheVariants.{Held, Io, NotReserved, OutOfMemory, PlacesUsedUp}
use Rattle.sled_store.specs.Device.{Trace, state_of}
use Rattle.sled_store.specs.Answers.{is_fault}
use Rattle.sled_store.specs.SegmentStates.{Machine, stabilized}
use Rattle.sled_store.specs.Stabilizing.{MovesSlots}
use Rattle.sled_store.specs.Script.{Performs, after_all}
use Rattle.sled_codec.specs.Record.{short_header}
use Rattle.sled_core.specs.Account.{Account, account_behind}
use Rattle.sled_core.specs.Fillings.{FillingAt}
use Rattle.sled_core.specs.Heads.{HeadAt}
use Rattle.sled_core.specs.declared.iobuf.SegmentPosition.{SegmentPosition}
use Rattle.sled_core.specs.Fits.{IsKept}
use Rattle.sled_core.specs.Freeing.{Ledger}
use Rattle.sled_core.specs.Fronts.{synced_writes}
use Rattle.sled_core.specs.Ledger.{ledger_behind, writings}
use Rattle.sled_core.specs.Logged.{logged}
use Rattle.sled_core.specs.OpenBatches.{behind_batch, not_whole, stable_below}
use Rattle.sled_core.specs.Stable.{behind_place}
use Rattle.sled_core.specs.Waiting.{BufferAt, HasLength, Span, free_below, front_below, one_pending, spans}
use Rattle.sled_core.specs.WholeBuffers.{IsWholeBuffer}
use Rattle.sled_core.specs.Running.{end_below}
use Rattle.sled_core.specs.LogStatus.{LogStatus, current_span, failing, ledger_below, ledger_in, sealed_below, stable_in, start_below, wrote_below}
use Rattle.sled_core.specs.LogStatus.{wrote_front, wrote_one}
use Rattle.sled_core.specs.Spans.{first_waiting, held, held_among, spans_below, spans_from}
use Rattle.sled_log.specs.declared.session.command.Reply.{Reply}
use Rattle.sled_log.specs.declared.session.command.Reply.TheVariants as reply
use Rattle.sled_log.specs.RunStates.{DeviceView, EndsInReach, LogView, MarkAt, RunState, with_status}
use Rattle.sled_log.specs.RunStates.{with_log}

-- Failures.

-- A log that keeps a failure answers it, and does nothing.
abbrev pub KeepsFailing : RunState → LogView → Error → DeviceView → RunState → Type 0
KeepsFailing a l (Io e) new b = (l.status.fault ≡ Some e) × (new ≡ a.device) × (b ≡ a)
KeepsFailing a l _ new b = ⊥

-- Why a log that keeps none fails, and the one that it keeps then: the device failed, which is counted; or a further segment is needed, and there is none in
-- reach; or else memory was refused, or the buffers were held up by a reservation that is open.
abbrev pub IsWhy : Error → Option ℕ → Type 0 → Option IoError → ℕ → ℕ → Type 0
IsWhy (Io e) held used fault before after = (fault ≡ Some e) × IsTrue (is_fault e) × (after ≡ (before + 1) % 2 ^ 64)
IsWhy OutOfMemory held used fault before after = (used → ⊥) × (fault ≡ None) × (after ≡ before)
IsWhy (Held at) held used fault before after = ((place : ℕ) × (held ≡ Some place) × (at ≡ pos place)) × (used → ⊥) × (fault ≡ None) × (after ≡ before)
IsWhy PlacesUsedUp held used fault before after = used × (fault ≡ None) × (after ≡ before)
IsWhy _ held used fault before after = ⊥

-- It failed so, and this came of it.
pub record Fails (l : LogView) (e : Error) (held : Option ℕ) (used : Type 0) (old new : DeviceView) (Came : Option IoError → Type 0) : Type 0 where
  pub sound : l.status.fault ≡ None
  pub fault : Option IoError
  pub why : IsWhy e held used fault old.failures new.failures
  pub came : Came fault

-- so it is where buffers were held up
abbrev pub IfHeld : Error → Type 0 → Type 0
IfHeld (Held at) P = P
IfHeld _ P = Unit {0}

-- Writing.

-- the header of a segment that begins there
abbrev pub headed : (List ℕ → ℕ) → MarkAt → HeadAt
headed sum m = record { place = m.place; bytes = short_header sum (pos m.place) m.mark }

-- what fills the segment in front of one that begins there
abbrev pub filled_by : MarkAt → FillingAt
filled_by m = record { next = m.place; from = m.end }

-- What fills the segments of a log, with the current one as it would be sealed: to where that ends then, from where what was reserved ends.
abbrev pub fillings_seen : LogView → List FillingAt
fillings_seen l = record { next = (current_span l.status l.status.position).end; from = l.status.reserved } ∷ map filled_by l.heads

-- These buffers of a log are seen so: each as a whole, and which of its open reservations holds it up. What isn't held up is whole records,
-- each with its sum and of a kind that a reader knows; of these one that every reader passes over is of one of the messages that were given up; none ends its
-- segment but in what fills it, which is one text, from where what was reserved ended; and where it begins its segment, the segment's header is in front of
-- them, with the mark that it was begun with, which is the buffer's. So all of them are met by who reads the segment, and but for what is of the history there
-- is no choice in what is written.
pub record ShowsBuffers (sum : List ℕ → ℕ) (size : ℕ) (l : LogView) (ss : List Span) (bs : List BufferAt) : Type 0 where
  pub are : spans bs ≡ ss
  pub long : All HasLength bs
  pub held : All (λ b. b.held ≡ held l.status.opens (record { place = b.place; end = b.end; lid = b.lid })) bs
  pub whole : All (λ b. b.held ≡ None → IsWholeBuffer sum size l.given_up (map (headed sum) l.heads) (fillings_seen l) b) bs

-- Buffers that are seen so were written, those that are chosen of them: with a write and a sync for each, and behind it what the accountant's step comes to,
-- from these slots and marks on.
pub record Writes (sum : List ℕ → ℕ) (size : ℕ) (l : LogView) (ss : List Span) (chosen : List BufferAt → List BufferAt) (from : Ledger)
    (old new : DeviceView) : Type 0 where
  pub buffers : List BufferAt
  pub shown : ShowsBuffers sum size l ss buffers
  pub made : new.trace ≡ after_all (writings size (chosen buffers) from) old.trace

-- The calls were made up to one that failed: so many buffers were written, as many as were synced at once. Unless the device failed each of these is whole, and
-- no other call was made; and where they were held up, all were made that are in front of that.
pub record WritesSome (sum : List ℕ → ℕ) (size : ℕ) (l : LogView) (ss : List Span) (chosen : List BufferAt → List BufferAt) (from : Ledger) (count : ℕ)
    (e : Error) (fault : Option IoError) (old new : DeviceView) : Type 0 where
  pub buffers : List BufferAt
  pub shown : ShowsBuffers sum size l ss buffers
  pub made : Performs (writings size (chosen buffers) from) old.trace new.trace
  pub written : synced_writes new.trace ≡ count + synced_writes old.trace
  pub whole : fault ≡ None → new.trace ≡ after_all (writings size (take count (chosen buffers)) from) old.trace
  pub held : IfHeld e (new.trace ≡ after_all (writings size (chosen buffers) from) old.trace)

-- The accountant's step failed, behind the write of a buffer: no pin is out, and the device failed in a call that was due from these slots for the mark that
-- joined. Some moves of the step were made, or its calls in part, and these slots are left.
pub record StepFailed (size : ℕ) (l : LogView) (mark : ℤ) (from left : Machine) (fault : Option IoError) (after : Trace) : Type 0 where
  pub unpinned : l.status.pins ≡ 0
  pub failure : IoError
  pub kept : fault ≡ Some failure
  pub before : Trace
  pub moved : MovesSlots {T = Unit {0}} size mark (Err (Io failure)) from left before after
  pub due : (stabilized size mark from).calls ≢ []

-- the run goes on with a log that stands there
abbrev pub LeavesLogAt : RunState → LogView → DeviceView → RunState → LogStatus → Type 0
LeavesLogAt a l new b s = b ≡ with_log a new (Some (with_status l s))

-- the buffers that begin below a place, those that are left behind them, and the least place of an open reservation that holds the first ones up
abbrev pub written_below : ℕ → LogView → List Span
written_below to l = spans_below to (sealed_below to l.status)

abbrev pub left_from : ℕ → LogView → List Span
left_from to l = spans_from to (sealed_below to l.status)

abbrev pub holding : ℕ → LogView → Option ℕ
holding to l = held_among l.status.opens (written_below to l)

-- once those are written, all before this is on the device, and the stable end lies before this
abbrev pub synced_from : ℕ → LogView → ℕ
synced_from to l = first_waiting (left_from to l) (start_below to l.status)

abbrev pub stable_from : ℕ → LogView → ℕ
stable_from to l = stable_below (synced_from to l) (not_whole (synced_from to l) l.status.noted)

-- All that begins below a place is written and synced. Each completed message of what is stable then is acknowledged, and what is answered is by how much the
-- stable end grew.
pub record HasWrittenTo (sum : List ℕ → ℕ) (size : ℕ) (a : RunState) (l : LogView) (to n : ℕ) (new : DeviceView) (b : RunState) : Type 0 where
  pub sound : l.status.fault ≡ None
  pub in_reach : l.status.start.place < to → EndsInReach size l.status.position
  pub free : holding to l ≡ None
  pub writes : Writes sum size l (sealed_below to l.status) (free_below to) (ledger_below to l.status) a.device new
  pub failures : new.failures ≡ a.device.failures
  pub growth : stable_in l.status + n ≡ stable_from to l
  pub reaches : to ≤ synced_from to l
  pub more : a.acknowledged ≤ stable_from to l
  pub leads : b ≡ record a {
    device = new;
    acknowledged = max a.acknowledged (end_below (stable_from to l) a.history);
    log =
        Some (with_status l (failing None (wrote_below size to (ledger_behind size (front_below to writes.buffers) (ledger_below to l.status)) l.status)));
  }

-- slots and marks behind the writes of the first of these buffers
abbrev pub ledger_after : ℕ → ℕ → LogView → List BufferAt → ℕ → Ledger
ledger_after size to l bs count = ledger_behind size (take count bs) (ledger_below to l.status)

-- That failed: those that begin below the place are sealed, and so many at the front are written, but not all; or so many, perhaps all, and the accountant's
-- step behind the last of them failed; or it wasn't held up, and none was sealed, nor written, though the current one begins below the place: the device was
-- asked for nothing then, and didn't fail.
abbrev pub FailsTo : (List ℕ → ℕ) → ℕ → RunState → LogView → ℕ → Error → DeviceView → RunState → Type 0
FailsTo sum size a l to e new b =
    Fails l e (holding to l) ((l.status.start.place < to) × (EndsInReach size l.status.position → ⊥)) a.device new (λ fault.
    (count : ℕ) × (some : WritesSome sum size l (sealed_below to l.status) (free_below to) (ledger_below to l.status) count e fault a.device new)
    × ((LeavesLogAt a l new b (failing fault (wrote_front size to count (ledger_after size to l some.buffers count) l.status))
    × (first_waiting (drop count (sealed_below to l.status)) (start_below to l.status) < to))
    ⊎ ((0 < count) × (account : Account) × (account ≡ (ledger_after size to l some.buffers count).account)
    × (left : Machine) × StepFailed size l account.mark (ledger_after size to l some.buffers (count - 1)).machine left fault new.trace
    × LeavesLogAt a l new b (failing fault (wrote_front size to count (record { machine = left; account = account }) l.status)))
    ⊎ ((count ≡ 0) × (l.status.start.place < to) × IfHeld e ⊥ × (b ≡ with_log a new (Some l)) × (fault ≡ None))))

-- All that was reserved is written. From the segment of the mark that joined on all completed messages are on the device, and of those in front of it what the
-- table needs: their records are, as the log has them, without the items that blobs have.
pub record HasFlushed (sum : List ℕ → ℕ) (size : ℕ) (a : RunState) (l : LogView) (n : ℕ) (new : DeviceView) (b : RunState) : Type 0 where
  pub written : HasWrittenTo sum size a l l.status.reserved n new b
  pub all : All (λ m. m.place + m.size ≤ stable_from l.status.reserved l) a.history.messages
  -- the segment in which the stable end lies, and how much of it is written
  pub site : SegmentPosition
  pub from : ℕ
  pub at : site.place + from ≡ stable_from l.status.reserved l
  -- the mark that joined, and the greatest one on the device, which are those of the log then
  pub mark : ℤ
  pub durable : ℤ
  pub marks : (v : LogView) → b.log ≡ Some v → (v.status.account.mark ≡ mark) × (v.status.account.durable ≡ durable)
  pub kept : IsKept sum mark durable size site from (state_of new.trace) (logged a.history)

abbrev pub FlushStep : (List ℕ → ℕ) → ℕ → RunState → LogView → Reply → DeviceView → RunState → Type 0
FlushStep sum size a l (reply.Flushed n) new b = HasFlushed sum size a l n new b
FlushStep sum size a l (reply.Failed e) new b = KeepsFailing a l e new b ⊎ FailsTo sum size a l l.status.reserved e new b
FlushStep sum size a l _ new b = ⊥

-- a place is stable, or was reserved
abbrev pub IsKnownPlace : LogView → ℤ → Type 0
IsKnownPlace l place = (place <ℤ pos (stable_in l.status)) ⊎ (place <ℤ pos l.status.reserved)

-- up to where has to be written for a place to be stable: behind it, and behind the peg of a batch that has it
abbrev pub target_by : LogView → ℤ → ℕ
target_by l place = behind_batch (behind_place place) l.status.noted

abbrev pub StableStep : (List ℕ → ℕ) → ℕ → RunState → LogView → ℤ → Reply → DeviceView → RunState → Type 0
StableStep sum size a l place (reply.Flushed n) new b =
    IsKnownPlace l place × HasWrittenTo sum size a l (target_by l place) n new b × (place <ℤ pos (stable_from (target_by l place) l))
StableStep sum size a l place (reply.Failed (NotReserved at)) new b =
    (at ≡ place) × (pos (stable_in l.status) ≤ℤ place) × (pos l.status.reserved ≤ℤ place) × (l.status.fault ≡ None) × (new ≡ a.device) × (b ≡ a)
StableStep sum size a l place (reply.Failed e) new b =
    KeepsFailing a l e new b ⊎ ((pos (stable_in l.status) ≤ℤ place) × (place <ℤ pos l.status.reserved) × FailsTo sum size a l (target_by l place) e new b)
StableStep sum size a l place _ new b = ⊥

-- One sealed buffer is written, the i-th of those that nothing holds up. That failed: it isn't, or it is, and the accountant's step behind it failed.
abbrev pub WriteStep : (List ℕ → ℕ) → ℕ → RunState → LogView → ℕ → Reply → DeviceView → RunState → Type 0
WriteStep sum size a l i reply.Written new b =
    (l.status.fault ≡ None) × (writes : Writes sum size l l.status.waiting (one_pending i) (ledger_in l.status) a.device new)
    × (new.failures ≡ a.device.failures)
    × LeavesLogAt a l new b (failing None (wrote_one size i (ledger_behind size (one_pending i writes.buffers) (ledger_in l.status)) l.status))
WriteStep sum size a l i (reply.Failed e) new b =
    KeepsFailing a l e new b
    ⊎ Fails l e None ⊥ a.device new (λ fault.
    (WritesSome sum size l l.status.waiting (one_pending i) (ledger_in l.status) 0 e fault a.device new × LeavesLogAt a l new b (failing fault l.status))
    ⊎ ((some : WritesSome sum size l l.status.waiting (one_pending i) (ledger_in l.status) 1 e fault a.device new)
    × (account : Account) × (account ≡ account_behind (one_pending i some.buffers) l.status.account)
    × (left : Machine) × StepFailed size l account.mark l.status.machine left fault new.trace
    × LeavesLogAt a l new b (failing fault (wrote_one size i (record { machine = left; account = account }) l.status))))
WriteStep sum size a l i _ new b = ⊥
