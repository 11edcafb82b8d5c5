-- Where a log stands between two calls, and what its calls make of that. The bytes of its buffers aren't part of it; they are told beside it. What a client
-- keeps in mind of its log is this, too.
use Rattle.std.specs.Prelude.{◌≡◌, ◌+◌, ◌-◌, ◌*◌, ◌∷◌, ◌++◌, [], nat_le, nat_lt, if◌then◌else◌, ℕ, Bool, true, List, drop, Option}
use Rattle.std.specs.declared.io.Error.{Error as IoError}
use Rattle.sled_codec.specs.History.{Batch}
use Rattle.sled_store.specs.SegmentStates.{Machine, handed_out, next_slot}
use Rattle.sled_core.specs.Account.{Account, account_of}
use Rattle.sled_core.specs.declared.logger.Log.{Log}
use Rattle.sled_core.specs.Fits.{current_of, fault_of, ledger_of, machine_at, noted_in, open_places, pins_of, position_of, reserved_end}
use Rattle.sled_core.specs.Fits.{segment_size_of, start_of, synced_end, waiting_of}
use Rattle.sled_core.specs.Freeing.{Ledger}
use Rattle.sled_core.specs.Keeps.{sealed_for}
use Rattle.sled_core.specs.Ledger.{ledger_behind}
use Rattle.sled_core.specs.OpenBatches.{not_whole, stable_below, with_batch}
use Rattle.sled_core.specs.Positions.{Position, behind_record}
use Rattle.sled_core.specs.Spans.{first_waiting, spans_from, spans_without, without_unheld}
use Rattle.sled_core.specs.Waiting.{BufferAt, BufferStart, Span, front_below, holds_any, not_below, one_pending, spans}

-- Where a log stands.
pub record LogStatus : Type 0 where
  -- where the next record may begin, and which slots are left behind that
  pub position : Position
  -- the slots of the segments, as they are now
  pub machine : Machine
  -- the place behind the greatest record that was reserved
  pub reserved : ℕ
  -- the place behind all that is on the device without a gap
  pub synced : ℕ
  -- the batches that were noted and aren't wholly on the device, by place
  pub noted : List Batch
  -- the sealed buffers that aren't on the device, by place, and where the current one begins
  pub waiting : List Span
  pub start : BufferStart
  -- the places of the reservations that are open
  pub opens : List ℕ
  -- the failure of the device that it keeps
  pub fault : Option IoError
  -- how many pins are out
  pub pins : ℕ
  -- which marks of its segments count
  pub account : Account

abbrev pub status_of : {D C : Type 0} → Log D C → LogStatus
status_of log = record {
  position = position_of log;
  machine = machine_at log;
  reserved = reserved_end log;
  synced = synced_end log;
  noted = noted_in log;
  waiting = spans (waiting_of log);
  start = start_of log;
  opens = open_places log;
  fault = fault_of log;
  pins = pins_of log;
  account = account_of log;
}

-- A log stands there, and these are its sealed buffers that aren't on the device.
abbrev pub HasStatus : {D C : Type 0} → List BufferAt → LogStatus → Log D C → Type 0
HasStatus bs s log = (waiting_of log ≡ bs) × (status_of log ≡ s)

-- the place behind the stable end, which lies in front of a batch that goes on behind what is on the device
abbrev pub stable_in : LogStatus → ℕ
stable_in s = stable_below s.synced s.noted

-- slots and marks
abbrev pub ledger_in : LogStatus → Ledger
ledger_in s = record { machine = s.machine; account = s.account }

-- The current buffer.

-- a position lies in a later segment than it does
abbrev pub is_behind : LogStatus → Position → Bool
is_behind s q = nat_lt s.start.place q.begins

-- it, up to the end of its segment, or as far as it is filled, and where the next one begins then
abbrev pub current_span : LogStatus → Position → Span
current_span s q = record { place = s.start.place; end = if is_behind s q then q.begins else q.place; lid = s.start.lid }

abbrev pub next_start : LogStatus → Position → BufferStart
next_start s q =
    if is_behind s q then record { place = q.begins; lid = q.slot }
    else record { place = q.place; lid = s.start.lid + (q.place - s.start.place) }

-- Where the next record may begin, with slots left as a machine has them: where no record has room behind the current buffer, in a further segment, which takes
-- the next slot that is free.
abbrev pub position_over : ℕ → LogStatus → Machine → Position
position_over size s m =
    if is_behind s s.position
    then record { place = s.position.place; begins = s.position.begins; slot = next_slot m * size; machine = handed_out s.position.begins m }
    else record s.position { machine = m }

-- Sealing.

-- The current buffer is sealed: where no further record has room in its segment, the next one has its slot then.
abbrev pub status_sealed : LogStatus → LogStatus
status_sealed s = record s {
  machine = s.position.machine;
  waiting = s.waiting ++ current_span s s.position ∷ [];
  start = next_start s s.position;
}

abbrev pub ledger_sealed_in : LogStatus → Ledger
ledger_sealed_in s = record { machine = s.position.machine; account = s.account }

abbrev pub position_sealed_in : LogStatus → Machine → Position
position_sealed_in s m = record s.position { machine = m }

-- So it is where that buffer begins below a place: the sealed buffers, where the current one begins, slots and marks, and where the next record may begin.
abbrev pub sealed_below : ℕ → LogStatus → List Span
sealed_below to s = if nat_lt s.start.place to then s.waiting ++ current_span s s.position ∷ [] else s.waiting

abbrev pub start_below : ℕ → LogStatus → BufferStart
start_below to s = if nat_lt s.start.place to then next_start s s.position else s.start

abbrev pub ledger_below : ℕ → LogStatus → Ledger
ledger_below to s = if nat_lt s.start.place to then ledger_sealed_in s else ledger_in s

abbrev pub position_below : ℕ → ℕ → LogStatus → Machine → Position
position_below size to s m = if nat_lt s.start.place to then position_sealed_in s m else position_over size s m

-- And where it has a place.
abbrev pub sealed_around : ℕ → LogStatus → List Span
sealed_around at s = if nat_le s.start.place at then s.waiting ++ current_span s s.position ∷ [] else s.waiting

abbrev pub start_around : ℕ → LogStatus → BufferStart
start_around at s = if nat_le s.start.place at then next_start s s.position else s.start

abbrev pub ledger_around : ℕ → LogStatus → Ledger
ledger_around at s = if nat_le s.start.place at then ledger_sealed_in s else ledger_in s

abbrev pub position_around : ℕ → ℕ → LogStatus → Machine → Position
position_around size at s m = if nat_le s.start.place at then position_sealed_in s m else position_over size s m

-- Writing.

-- Some of the sealed buffers are written, and these are left: all before the first of those is on the device, or before the current one, which begins there.
-- Slots and marks are these then, and the next record may begin there, by which slots are left. (Transitions that write take slots and marks, since these come
-- of the buffers' bytes, and of how far the accountant's step came.)
abbrev pub wrote : List Span → BufferStart → Ledger → (Machine → Position) → LogStatus → LogStatus
wrote left start l position s = record s {
  position = position l.machine;
  machine = l.machine;
  synced = first_waiting left start;
  noted = not_whole (first_waiting left start) s.noted;
  waiting = left;
  start = start;
  account = l.account;
}

-- All that begins below a place is sealed and written, which leaves these slots and marks.
abbrev pub wrote_below : ℕ → ℕ → Ledger → LogStatus → LogStatus
wrote_below size to l s = wrote (spans_from to (sealed_below to s)) (start_below to s) l (position_below size to s) s

-- That is sealed, and so many at the front are written.
abbrev pub wrote_front : ℕ → ℕ → ℕ → Ledger → LogStatus → LogStatus
wrote_front size to count l s = wrote (drop count (sealed_below to s)) (start_below to s) l (position_below size to s) s

-- The i-th of the sealed buffers is written that can be.
abbrev pub wrote_one : ℕ → ℕ → Ledger → LogStatus → LogStatus
wrote_one size i l s = wrote (without_unheld s.opens i s.waiting) s.start l (position_over size s) s

-- The current buffer is sealed where it has a place.
abbrev pub seal_around : ℕ → ℕ → LogStatus → LogStatus
seal_around size at s = wrote (sealed_around at s) (start_around at s) (ledger_around at s) (position_around size at s) s

-- And the one that has the place is written.
abbrev pub wrote_around : ℕ → ℕ → Ledger → LogStatus → LogStatus
wrote_around size at l s = wrote (spans_without at (sealed_around at s)) (start_around at s) l (position_around size at s) s

-- A reservation.

-- Behind one at a position: where that lies in a further segment, the current buffer was sealed, with what fills its own, and the further one has its slot.
abbrev pub waiting_with : LogStatus → Position → List Span
waiting_with s q = if is_behind s q then s.waiting ++ current_span s q ∷ [] else s.waiting

abbrev pub start_with : LogStatus → Position → BufferStart
start_with s q = if is_behind s q then next_start s q else s.start

abbrev pub machine_with : LogStatus → Position → Machine
machine_with s q = if is_behind s q then q.machine else s.machine

-- A log is ready for a record that begins there, which it has none of. What was reserved ends where it did.
abbrev pub readied : Position → LogStatus → LogStatus
readied q s = record s { position = q; machine = machine_with s q; waiting = waiting_with s q; start = start_with s q }

-- a record of this length is reserved at a place, for one that begins at that position
abbrev pub reserving_at : ℕ → Position → ℕ → ℕ → LogStatus → LogStatus
reserving_at size q place len s =
    record (readied q s) { position = behind_record size q len; reserved = place + len; opens = s.opens ++ place ∷ [] }

-- What else a call changes.

-- the slots are these, as the accountant leaves them where a message is marked
abbrev pub with_slots : ℕ → Machine → LogStatus → LogStatus
with_slots size m s = record s { position = position_over size s m; machine = m }

-- a pin more is out, and one less
abbrev pub pinned : LogStatus → LogStatus
pinned s = record s { pins = s.pins + 1; account = record s.account { pinned = true } }

abbrev pub unpinned : LogStatus → LogStatus
unpinned s = record s { pins = s.pins - 1; account = record s.account { pinned = nat_lt 0 (s.pins - 1) } }

-- a batch is noted
abbrev pub noted_too : Batch → LogStatus → LogStatus
noted_too b s = record s { noted = with_batch b s.noted }

-- it keeps this failure, or none
abbrev pub failing : Option IoError → LogStatus → LogStatus
failing fault s = record s { fault = fault }

-- A log has these sealed buffers left, and stands there, with the failure that it keeps.
abbrev pub LeavesStatus : {D C : Type 0} → List BufferAt → LogStatus → Log D C → Type 0
LeavesStatus bs s log = HasStatus bs (failing (fault_of log) s) log

-- Of a log.

-- where it stands once its current buffer is sealed, where that holds anything
abbrev pub status_rolled : {D C : Type 0} → Log D C → LogStatus
status_rolled log = if holds_any (current_of log) then status_sealed (status_of log) else status_of log

-- once all that begins below a place is sealed and written, and the buffers that are left then
abbrev pub left_above : {D C : Type 0} → (List ℕ → ℕ) → ℕ → Log D C → List BufferAt
left_above sum to log = not_below to (sealed_for sum to log)

abbrev pub status_below : {D C : Type 0} → (List ℕ → ℕ) → ℕ → Log D C → LogStatus
status_below sum to log =
    let size : ℕ = segment_size_of log in
    wrote_below size to (ledger_behind size (front_below to (sealed_for sum to log)) (ledger_below to (status_of log))) (status_of log)

-- once the i-th of the buffers is written that can be
abbrev pub status_behind : {D C : Type 0} → ℕ → Log D C → LogStatus
status_behind i log =
    let size : ℕ = segment_size_of log in
    wrote_one size i (ledger_behind size (one_pending i (waiting_of log)) (ledger_of log)) (status_of log)
