-- What makes a place durable, and why that fails.
use Rattle.std.specs.Prelude.{◌≡◌, ◌⊎◌, ◌≤◌, ◌≤ℤ◌, ◌<ℤ◌, ◌+◌, ◌%◌, ◌^◌, ℕ, ℤ, pos, negsuc, int_lt, if◌then◌else◌, List, [], ◌∷◌, Option, None, Some, IsTrue}
use Rattle.std.specs.Prelude.{Result, Ok, Err}
use Rattle.std.specs.declared.io.Error.{Error as IoError}
use Rattle.sled_codec.specs.declared.result.Error.{Error}
use Rattle.sled_codec.specs.declared.result.Error.TheVariants.{Io, OutOfMemory, Held, NotReserved, PlacesUsedUp}
use Rattle.sled_store.specs.Answers.{is_fault}
use Rattle.sled_store.specs.Device.{Event}
use Rattle.sled_core.specs.declared.logger.Log.{Log}
use Rattle.sled_core.specs.Causes.{HeldAnswers, IsFault}
use Rattle.sled_core.specs.Fits.{device_of, fault_of, holding_below, noted_in, reserved_end, stable_end, synced_end, writing_below}
use Rattle.sled_core.specs.Keeps.{sealed_for, start_for}
use Rattle.sled_core.specs.OpenBatches.{behind_batch}
use Rattle.sled_core.specs.Waiting.{BufferAt, BufferStart, not_below}

-- the place behind one
abbrev pub behind_place : ℤ → ℕ
behind_place (pos n) = n + 1
behind_place (negsuc n) = 0

-- up to where has to be written for a place to be durable: behind it, and behind the peg of a batch that has it
abbrev pub target_for : {D C : Type 0} → Log D C → ℤ → ℕ
target_for log lsn = behind_batch (behind_place lsn) (noted_in log)

-- the calls that make a place durable: those that write the buffers that begin below that, and none where it is durable already
abbrev pub stabilizing : {D C : Type 0} → (List ℕ → ℕ) → Log D C → ℤ → List Event
stabilizing sum log lsn = if int_lt lsn (pos (stable_end log)) then [] else writing_below sum log (target_for log lsn)

-- the least place of the open reservations that hold that up
abbrev pub held_for : {D C : Type 0} → (List ℕ → ℕ) → Log D C → ℤ → Option ℕ
held_for sum log lsn = if int_lt lsn (pos (stable_end log)) then None else holding_below sum log (target_for log lsn)

-- the place was not reserved
abbrev pub IsNotReserved : {T : Type 0} → Result T Error → Type 0
IsNotReserved (Err (NotReserved at)) = Unit {0}
IsNotReserved _ = ⊥

-- A call that makes a place durable, where what was reserved ends before this one: as each that may touch the device. That the place was not reserved it
-- answers exactly where that lies behind it and behind the stable end, and no failure is kept. The device fails in it, and memory is refused, only where
-- the place was reserved and isn't stable.
abbrev pub StableAnswers : {T : Type 0} → Result T Error → ℤ → ℕ → ℕ → Option ℕ → Type 0 → Option IoError → Option IoError → ℕ → ℕ → Type 0
StableAnswers (Err (NotReserved at)) lsn stable end held used old new before after =
    (at ≡ lsn) × (pos stable ≤ℤ lsn) × (pos end ≤ℤ lsn) × (old ≡ None) × (new ≡ None) × (after ≡ before)
StableAnswers (Ok n) lsn stable end held used old new before after =
    ((lsn <ℤ pos stable) ⊎ (lsn <ℤ pos end)) × HeldAnswers (Ok n) held used old new before after
StableAnswers (Err OutOfMemory) lsn stable end held used old new before after =
    (pos stable ≤ℤ lsn) × (lsn <ℤ pos end) × (used → ⊥) × (old ≡ None) × (new ≡ None) × (after ≡ before)
StableAnswers (Err (Held at)) lsn stable end held used old new before after =
    (pos stable ≤ℤ lsn) × (lsn <ℤ pos end) × HeldAnswers {T = ℕ} (Err (Held at)) held used old new before after
StableAnswers (Err PlacesUsedUp) lsn stable end held used old new before after =
    (pos stable ≤ℤ lsn) × (lsn <ℤ pos end) × HeldAnswers {T = ℕ} (Err PlacesUsedUp) held used old new before after
StableAnswers (Err (Io e)) lsn stable end held used old new before after =
    (old ≡ None → (pos stable ≤ℤ lsn) × (lsn <ℤ pos end)) × IsFault e old new before after
StableAnswers (Err _) lsn stable end held used old new before after = ⊥

-- What a call that makes these calls of the device spares: it does nothing where the log keeps a failure, and where there is nothing to do the device has none.
pub record SparesDevice {D C : Type 0} (faults : D → ℕ) (es : List Event) (old new : Log D C) : Type 0 where
  pub faulty : (e : IoError) → fault_of old ≡ Some e → new ≡ old
  pub idle : es ≡ [] → faults (device_of new) ≡ faults (device_of old)

-- All that was reserved is durable.
pub record SyncsAll {D C : Type 0} (old new : Log D C) : Type 0 where
  -- it is on the device without a gap
  pub whole : reserved_end old ≤ synced_end new
  -- and no batch holds the stable end up
  pub stable : stable_end new ≡ synced_end new

-- The last flush of a log, of which a reservation may be open: it failed for the failure that the log kept, for one of this call, which is counted, for
-- want of memory or of a further segment, or was held.
abbrev pub CloseAnswers : {T : Type 0} → Result T Error → Option ℕ → Type 0 → Option IoError → ℕ → ℕ → Type 0
CloseAnswers (Ok _) held used fault before after = (held ≡ None) × (used → ⊥) × (fault ≡ None) × (after ≡ before)
CloseAnswers (Err (Io e)) held used fault before after =
    ((fault ≡ Some e) × (after ≡ before)) ⊎ ((fault ≡ None) × (after ≡ (before + 1) % 2 ^ 64) × IsTrue (is_fault e))
CloseAnswers (Err OutOfMemory) held used fault before after = (used → ⊥) × (fault ≡ None) × (after ≡ before)
CloseAnswers (Err PlacesUsedUp) held used fault before after = used × (fault ≡ None) × (after ≡ before)
CloseAnswers (Err (Held at)) held used fault before after =
    ((place : ℕ) × (held ≡ Some place) × (at ≡ pos place)) × (used → ⊥) × (fault ≡ None) × (after ≡ before)
CloseAnswers (Err _) held used fault before after = ⊥

-- where the first of these buffers begins, or else the current one
abbrev pub first_begin : List BufferAt → BufferStart → ℕ
first_begin [] start = start.place
first_begin (b ∷ bs) start = b.place

-- the place behind the stable end, once the buffers that begin below a place are written: there the first one begins that is left
abbrev pub stable_behind : {D C : Type 0} → (List ℕ → ℕ) → ℕ → Log D C → ℕ
stable_behind sum to log = first_begin (not_below to (sealed_for sum to log)) (start_for to log)
