-- What a call keeps of a log, and of what it runs on, said once for all of them.
use Rattle.std.specs.Prelude.{◌≡◌, ◌≢◌, ◌⊎◌, ◌≤◌, ◌<◌, ◌+◌, ◌*◌, nat_lt, if◌then◌else◌, ℕ, ℤ, List, length, drop, None, Some, Result, OnErr, OnOk}
use Rattle.std.specs.Prelude.{Contains}
use Rattle.std.specs.declared.io.Error.{Error as IoError}
use Rattle.sled_codec.specs.declared.result.Error.{Error}
use Rattle.sled_core.specs.Causes.{IsHeld}
use Rattle.sled_codec.specs.History.{Message, History}
use Rattle.sled_store.specs.declared.config.RunningConfig.{RunningConfig}
use Rattle.sled_store.specs.Device.{Trace}
use Rattle.sled_store.specs.Moments.{IsLater, LeavesOnly}
use Rattle.sled_core.specs.Account.{account_of}
use Rattle.sled_core.specs.declared.logger.Log.{Log}
use Rattle.sled_core.specs.declared.reservation.Reservation.{Reservation}
use Rattle.sled_core.specs.Fits.{KeepsTickets, Awaits, NoneSealed, buffers_of, config_of, current_begin, current_of, device_of, fault_of, kept_batches}
use Rattle.sled_core.specs.Fits.{line_of, machine_at, pooled_of}
use Rattle.sled_core.specs.Fits.{next_place, noted_in, pins_of, position_of, position_sealed, position_with, reserved_end}
use Rattle.sled_core.specs.Fits.{segment_size_of, start_of, synced_end, waiting_of}
use Rattle.sled_core.specs.invariants.Fits.{Holds}
use Rattle.sled_store.specs.Outdated.{NamesBlob}
use Rattle.sled_store.specs.SegmentStates.{Machine, next_slot, slot_at}
use Rattle.sled_core.specs.Marked.{BeginsMarked}
use Rattle.sled_core.specs.Positions.{Position, is_short}
use Rattle.sled_core.specs.Tickets.{place_of}
use Rattle.sled_core.specs.Waiting.{BufferAt, BufferStart}
use Rattle.sled_core.specs.Recoverable.{RecoverableIfOwn}
use Rattle.sled_core.specs.OpenBatches.{not_whole}
use Rattle.sled_core.specs.invariants.Running.{Fits}
use Rattle.sled_core.specs.Running.{IsStored}

-- It has the same sizes and the same checksum.
pub record ConfigKept {D C : Type 0} (old new : RunningConfig D C) : Type 0 where
  pub config : new.config ≡ old.config
  pub checksum : new.checksum ≡ old.checksum

-- It has the same sizes and the same checksum, and its device was only read.
pub record OnlyReads {D C : Type 0} (trace : D → Trace) (old new : RunningConfig D C) : Type 0 where
  pub config : new.config ≡ old.config
  pub checksum : new.checksum ≡ old.checksum
  pub unwritten : trace new.device ≡ trace old.device

-- The log goes on from what it was: its device's trace goes on from the old one, what is on its device without a gap doesn't get less, at each moment
-- between them a crash leaves what can be recovered, and what blobs hold of such messages stays.
pub record GoesOnFor {D C : Type 0} (Spared : Message → Type 0) (trace : D → Trace) (sum : List ℕ → ℕ) (old new : Log D C) : Type 0 where
  pub config : ConfigKept (config_of old) (config_of new)
  pub later : IsLater (trace (device_of old)) (trace (device_of new))
  pub stable : synced_end old ≤ synced_end new
  pub crash : (H : History) (A f : ℕ) (U : List Message) → Fits trace sum old H A f U
      → LeavesOnly (RecoverableIfOwn sum (segment_size_of old) H A f) (trace (device_of old)) (trace (device_of new))
  -- a log that keeps no failure kept none before
  pub sound : fault_of new ≡ None → fault_of old ≡ None
  -- and the items of these messages that were safe from a crash are safe still
  pub items : fault_of new ≡ None → (m : Message) → Spared m → IsStored trace sum old m → IsStored trace sum new m

-- So it goes on in a call that removes no blob: what all of them hold stays.
abbrev pub GoesOn : {D C : Type 0} → (D → Trace) → (List ℕ → ℕ) → Log D C → Log D C → Type 0
GoesOn trace sum old new = GoesOnFor (λ m. Unit {0}) trace sum old new

-- The log goes on, and it still holds such histories, and what it fitted it still fits.
pub record PreservesFor {D C : Type 0} (Held : History → Type 0) (Spared : Message → Type 0) (trace : D → Trace) (sum : List ℕ → ℕ)
    (old new : Log D C) : Type 0 where
  pub goes_on : GoesOnFor Spared trace sum old new
  pub history : (H : History) → Held H → Holds trace sum new H
  pub fits : (H : History) (A f : ℕ) (U : List Message) → Fits trace sum old H A f U → Fits trace sum new H A f U
  -- no batch is noted, and those that were are kept until they are wholly on the device
  pub noted : noted_in new ≡ not_whole (synced_end new) (noted_in old)
  -- in memory no more are kept than were
  pub kept : kept_batches new ≤ kept_batches old

-- It is so for all that the log held, where no segment is freed.
abbrev pub Preserves : {D C : Type 0} → (D → Trace) → (List ℕ → ℕ) → Log D C → Log D C → Type 0
Preserves trace sum old new = PreservesFor (Holds trace sum old) (λ m. Unit {0}) trace sum old new

-- A log holds a history, and goes on holding it whatever comes free: a pin is out, so that nothing does; or it fits the history, so that it was told truly
-- which messages are marked.
abbrev pub HoldsFast : {D C : Type 0} → (D → Trace) → (List ℕ → ℕ) → Log D C → History → Type 0
HoldsFast trace sum log H = ((0 < pins_of log) × Holds trace sum log H) ⊎ ((A : ℕ) × (f : ℕ) × (U : List Message) × Fits trace sum log H A f U)

-- No write removes the blob with the item of a message: a pin is out, or the message names no blob that goes with a segment.
abbrev pub IsSpared : {D C : Type 0} → Log D C → Message → Type 0
IsSpared log m = (0 < pins_of log) ⊎ ((k : ℕ) (blob : ℤ) → Contains (slot_at (machine_at log) k).blobs blob → NamesBlob m blob → ⊥)

-- It is so with a call that writes buffers, behind which segments may come free and blobs go.
abbrev pub PreservesWriting : {D C : Type 0} → (D → Trace) → (List ℕ → ℕ) → Log D C → Log D C → Type 0
PreservesWriting trace sum old new = PreservesFor (HoldsFast trace sum old) (IsSpared old) trace sum old new

-- What is seen of a log whose device failed in the accountant's step behind the write of a buffer: no pin was out, since while one is no step is made, and the
-- log keeps a failure that is new. (That slots are on the way of a step is said beside it, `IsOnTheWay`.)
pub record FailedStep {D C : Type 0} (old new : Log D C) : Type 0 where
  pub unpinned : pins_of old ≡ 0
  pub sound : fault_of old ≡ None
  pub fault : IoError
  pub kept : fault_of new ≡ Some fault

-- Where a log holds a history, the tickets of other places than this one's await what they awaited.
abbrev pub KeepsOthers : {D C : Type 0} → (D → Trace) → (List ℕ → ℕ) → Reservation → Log D C → Log D C → Type 0
KeepsOthers trace sum ticket old new =
    (H : History) (other : Reservation) (m : Message) → Holds trace sum old H → Awaits old other m → place_of other ≢ place_of ticket → Awaits new other m

-- What a call that writes up to a place seals: what begins below it, where it is held, and nothing where it succeeds and no reservation is open. Where no
-- buffer was sealed, nothing is written by one that fails, but where the step behind the last one failed.
pub record SealsBelow {T D C : Type 0} (result : Result T Error) (to : ℕ) (old new : Log D C) : Type 0 where
  pub held : IsHeld result → to ≤ current_begin new
  pub none : NoneSealed old → OnOk result (NoneSealed new)
  pub err : NoneSealed old → OnErr result (FailedStep old new ⊎ (synced_end new ≡ synced_end old))

-- What is durable of the log is what was, with the batches that are noted, and as many pins are out.
pub record KeepsSeen {D C : Type 0} (old new : Log D C) : Type 0 where
  pub synced : synced_end new ≡ synced_end old
  pub noted : noted_in new ≡ noted_in old
  pub pins : pins_of new ≡ pins_of old
  pub account : account_of new ≡ account_of old

-- The next record begins where it would have begun, what was reserved ends where it did, as many pins are out, and no mark joins.
pub record SamePosition {D C : Type 0} (old new : Log D C) : Type 0 where
  pub position : position_of new ≡ position_of old
  pub reserved : reserved_end new ≡ reserved_end old
  pub pins : pins_of new ≡ pins_of old
  pub joined : (account_of new).mark ≡ (account_of old).mark
  pub size : segment_size_of new ≡ segment_size_of old

-- So it is with a call that writes buffers, but that a mark may join by it, and slots come free, and a segment that isn't begun yet gets one of those. While a
-- pin is out no mark joins, and no slot comes free: so who took one goes on reading what was in the table then, call by call, until it goes back (law
-- `what_was_in_a_table_keeps_its_record`).
pub record SamePlace {D C : Type 0} (old new : Log D C) : Type 0 where
  pub place : next_place new ≡ next_place old
  pub pinned : 0 < pins_of old → position_of new ≡ position_of old
  pub reserved : reserved_end new ≡ reserved_end old
  pub pins : pins_of new ≡ pins_of old
  pub joined : 0 < pins_of old → (account_of new).mark ≡ (account_of old).mark
  pub size : segment_size_of new ≡ segment_size_of old

-- What a call keeps that makes no reservation, ends none and frees nothing: what the log holds and goes on fitting, its open reservations with their tickets,
-- and where the next record begins.
pub record KeepsLog {D C : Type 0} (trace : D → Trace) (sum : List ℕ → ℕ) (old new : Log D C) : Type 0 where
  pub preserves : Preserves trace sum old new
  pub tickets : KeepsTickets old new
  pub position : SamePosition old new

-- So it is with a call that writes, but for what comes free by it.
pub record KeepsWriting {D C : Type 0} (trace : D → Trace) (sum : List ℕ → ℕ) (old new : Log D C) : Type 0 where
  pub preserves : PreservesWriting trace sum old new
  pub tickets : KeepsTickets old new
  pub position : SamePlace old new
  -- what no write removes none removes later
  pub spared : (m : Message) → IsSpared old m → IsSpared new m

-- Nothing that a caller sees of the log is another, but for its device.
pub record IsUnchangedOver {D C : Type 0} (old new : Log D C) : Type 0 where
  pub line : line_of new ≡ line_of old
  pub waiting : waiting_of new ≡ waiting_of old
  pub start : start_of new ≡ start_of old
  pub synced : synced_end new ≡ synced_end old
  pub noted : noted_in new ≡ noted_in old
  pub reserved : reserved_end new ≡ reserved_end old
  pub fault : fault_of new ≡ fault_of old
  pub pins : pins_of new ≡ pins_of old
  pub account : account_of new ≡ account_of old
  pub machine : machine_at new ≡ machine_at old
  pub config : ConfigKept (config_of old) (config_of new)
  pub pooled : pooled_of new ≡ pooled_of old

-- where the current buffer begins once it is sealed: behind itself, or with the next segment, where no further record has room in its own
abbrev pub start_sealed : {D C : Type 0} → Log D C → BufferStart
start_sealed log =
    if is_short (segment_size_of log) (length (current_of log).parts.bytes)
    then record { place = (current_of log).parts.site.place + segment_size_of log; lid = next_slot (machine_at log) * segment_size_of log }
    else record {
      place = (current_of log).parts.site.place + length (current_of log).parts.bytes;
      lid = (current_of log).parts.site.slot + length (current_of log).parts.bytes;
    }

-- the sealed buffers, once those that begin below a place are sealed
abbrev pub sealed_for : {D C : Type 0} → (List ℕ → ℕ) → ℕ → Log D C → List BufferAt
sealed_for sum to log = if nat_lt (current_begin log) to then buffers_of sum log else waiting_of log

-- and where the current one begins then
abbrev pub start_for : {D C : Type 0} → ℕ → Log D C → BufferStart
start_for to log = if nat_lt (current_begin log) to then start_sealed log else start_of log

-- and where the next record may begin, with slots left as this machine has them
abbrev pub position_for : {D C : Type 0} → ℕ → Log D C → Machine → Position
position_for to log m = if nat_lt (current_begin log) to then position_sealed log m else position_with log m

-- It failed: nothing was sealed and written, or those that begin below the place are sealed, and so many at the front are written.
abbrev pub LeavesSome : {D C : Type 0} → (List ℕ → ℕ) → ℕ → Log D C → Log D C → Type 0
LeavesSome sum to old new =
    ((waiting_of new ≡ waiting_of old) × (start_of new ≡ start_of old))
    ⊎ ((n : ℕ) × (waiting_of new ≡ drop n (sealed_for sum to old)) × (start_of new ≡ start_for to old))

-- What a call that writes up to a place seals and writes.
pub record WritesBelow {T D C : Type 0} (sum : List ℕ → ℕ) (result : Result T Error) (to : ℕ) (old new : Log D C) : Type 0 where
  pub seals : SealsBelow result to old new
  pub some : OnErr result (LeavesSome sum to old new)
  -- a segment that was begun has the last stable place for its mark
  pub marked : BeginsMarked sum old new
