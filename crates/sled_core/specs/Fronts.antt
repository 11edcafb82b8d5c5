-- How far a call came that seals and writes buffers, and fails: as many buffers are gone as it wrote and synced.
use Rattle.std.specs.Prelude.{◌≡◌, ◌≢◌, ◌⊎◌, ◌+◌, ◌-◌, ◌*◌, ◌<◌, ◌≤ℤ◌, ℕ, ℤ, suc, pos, unsigned_abs, if◌then◌else◌, Bool, true, false, List, [], ◌∷◌, take}
use Rattle.std.specs.Prelude.{drop, None}
use Rattle.std.specs.Prelude.{Result, Err}
use Rattle.std.specs.declared.io.Error.{Error as IoError}
use Rattle.sled_codec.specs.declared.result.Error.{Error}
use Rattle.sled_codec.specs.declared.result.Error.TheVariants.{Io}
use Rattle.sled_store.specs.Device.{Event, Trace, Synced, Wrote}
use Rattle.sled_store.specs.SegmentStates.{Machine, stabilized}
use Rattle.sled_store.specs.Script.{after_all}
use Rattle.sled_store.specs.Stabilizing.{MovesSlots}
use Rattle.sled_core.specs.Account.{account_behind, account_of}
use Rattle.sled_core.specs.declared.logger.Log.{Log}
use Rattle.sled_core.specs.Fits.{current_begin, device_of, fault_of, ledger_for, ledger_of, machine_at, pins_of, reserved_end, segment_size_of}
use Rattle.sled_core.specs.Fits.{synced_end, waiting_of, writing_some}
use Rattle.sled_core.specs.Keeps.{FailedStep, sealed_for, start_for}
use Rattle.sled_core.specs.Freeing.{Ledger}
use Rattle.sled_core.specs.Ledger.{ledger_behind}
use Rattle.sled_core.specs.LogStatus.{LeavesStatus, HasStatus, status_of, wrote_front}
use Rattle.sled_core.specs.Stable.{first_begin}
use Rattle.sled_core.specs.Waiting.{BufferAt}
use Rattle.sled_core.specs.ReadBuffer.{LeavesFailing, LeavesSealed, LeavesUnsealed, LeavesWritten, held_at, ledger_at, settling}

-- how many times the log file was synced
abbrev pub syncs : Trace → ℕ
syncs [] = 0
syncs (Synced ∷ es) = suc (syncs es)
syncs (_ ∷ es) = syncs es

-- the last call wrote to the log file
abbrev pub was_written : Trace → Bool
was_written [] = false
was_written (Wrote at asked now ∷ es) = true
was_written (_ ∷ es) = false

-- how many writes of it were synced at once: as many as buffers were written, since the accountant writes nothing
abbrev pub synced_writes : Trace → ℕ
synced_writes [] = 0
synced_writes (Synced ∷ es) = if was_written es then suc (synced_writes es) else synced_writes es
synced_writes (_ ∷ es) = synced_writes es

-- These calls that write buffers, one write and one sync for each, were made for so many at the front, whole, and no other call was. So it is with a log that
-- has a pin out.
abbrev pub WritesWhole : ℕ → List Event → Trace → Trace → Type 0
WritesWhole count es old new = new ≡ after_all (take (2 * count) es) old

-- No buffer was written: nothing was synced, and unless the device failed nothing was asked of it.
pub record WroteNone {D C : Type 0} (trace : D → Trace) (old new : Log D C) : Type 0 where
  pub synced : syncs (trace (device_of new)) ≡ syncs (trace (device_of old))
  pub written : synced_writes (trace (device_of new)) ≡ synced_writes (trace (device_of old))
  pub still : fault_of new ≡ None → trace (device_of new) ≡ trace (device_of old)
  pub account : account_of new ≡ account_of old

-- The accountant's step failed that began with these slots: it had a call to make for the mark that joined. Single moves for it were made, each with its calls,
-- and one more may have begun.
pub record IsOnTheWay {D C : Type 0} (trace : D → Trace) (new : Log D C) (slots : Machine) : Type 0 where
  pub before : Trace
  pub fault : IoError
  pub moved : MovesSlots {T = Unit {0}} (segment_size_of new) (account_of new).mark (Err (Io fault)) slots (machine_at new) before (trace (device_of new))
  pub due : (stabilized (segment_size_of new) (account_of new).mark slots).calls ≢ []

-- Of those that begin below a place so many at the front were written, and the step behind the last of these failed, that began with the slots as they are
-- behind the others.
abbrev pub FailedFront : {D C : Type 0} → (D → Trace) → (List ℕ → ℕ) → ℕ → ℕ → Log D C → Log D C → Type 0
FailedFront trace sum to count old new =
    FailedStep old new × (0 < count)
    × IsOnTheWay trace new (ledger_behind (segment_size_of old) (take (count - 1) (sealed_for sum to old)) (ledger_for to old)).machine

-- Those that begin below a place are sealed, and so many at the front were written; unless the device failed no other call was made.
pub record WroteFront {D C : Type 0} (trace : D → Trace) (sum : List ℕ → ℕ) (to : ℕ) (old new : Log D C) : Type 0 where
  pub count : ℕ
  pub stands : LeavesStatus (drop count (sealed_for sum to old)) (wrote_front (segment_size_of old) to count (ledger_of new) (status_of old)) new
  -- the marks of all that were written count; and slots are as behind these, and not all is written that begins below the place: or the step behind the last
  -- one failed
  pub ledger : (account_of new ≡ (ledger_behind (segment_size_of old) (take count (sealed_for sum to old)) (ledger_for to old)).account)
      × (((machine_at new ≡ (ledger_behind (segment_size_of old) (take count (sealed_for sum to old)) (ledger_for to old)).machine) × (synced_end new < to))
      ⊎ FailedFront trace sum to count old new)
  pub written : synced_writes (trace (device_of new)) ≡ count + synced_writes (trace (device_of old))
  pub whole : fault_of new ≡ None → trace (device_of new) ≡ after_all (writing_some count sum old to) (trace (device_of old))

-- One of these buffers was written, and the accountant's step behind it failed.
pub record WroteThenFailed {D C : Type 0} (trace : D → Trace) (bs left : List BufferAt) (old new : Log D C) : Type 0 where
  pub failed : FailedStep old new
  pub waiting : waiting_of new ≡ left
  pub account : account_of new ≡ account_behind bs (account_of old)
  pub written : synced_writes (trace (device_of new)) ≡ suc (synced_writes (trace (device_of old)))
  pub way : IsOnTheWay trace new (machine_at old)

-- Nothing was done, and no failure is new, though the current buffer was to be sealed, or the log keeps a failure.
pub record SealedNone {D C : Type 0} (trace : D → Trace) (to : ℕ) (old new : Log D C) : Type 0 where
  pub stands : HasStatus (waiting_of old) (status_of old) new
  pub still : trace (device_of new) ≡ trace (device_of old)
  pub due : fault_of old ≡ None → current_begin old < to

-- How far a call came that writes up to a place.
abbrev pub CameTo : {D C : Type 0} → (D → Trace) → (List ℕ → ℕ) → ℕ → Log D C → Log D C → Type 0
CameTo trace sum to old new = SealedNone trace to old new ⊎ WroteFront trace sum to old new

-- How far a read of a place came: the buffer that has it was not sealed, and if it was to be, no failure is new; or sealed, and not written; or written too,
-- as nothing held it up: whole, or the step behind it failed.
abbrev pub CameAround : {D C : Type 0} → (D → Trace) → (List ℕ → ℕ) → ℤ → Log D C → Log D C → Type 0
CameAround trace sum lsn old new =
    let at : ℕ = unsigned_abs lsn in
    (LeavesUnsealed old new × (trace (device_of new) ≡ trace (device_of old)) × (pos (current_begin old) ≤ℤ lsn → fault_of new ≡ fault_of old))
    ⊎ (LeavesSealed sum at old new × WroteNone trace old new)
    ⊎ (LeavesWritten sum at old new × (trace (device_of new) ≡ after_all (settling sum old (pos at)) (trace (device_of old)))
    × (held_at sum old (pos at) ≡ None))
    ⊎ (LeavesFailing sum at old new × (held_at sum old (pos at) ≡ None)
    × (synced_writes (trace (device_of new)) ≡ suc (synced_writes (trace (device_of old)))) × IsOnTheWay trace new (ledger_at at old).machine)

-- the device failed
abbrev pub IsIo : {T : Type 0} → Result T Error → Type 0
IsIo (Err (Io e)) = Unit {0}
IsIo _ = ⊥

-- it did not
abbrev pub UnlessIo : {T : Type 0} → Result T Error → Type 0 → Type 0
UnlessIo (Err (Io e)) P = Unit {0}
UnlessIo _ P = P

-- The step behind the last of so many of those has a call to make, for the mark that joined.
abbrev pub IsStepDue : {D C : Type 0} → (List ℕ → ℕ) → ℕ → ℕ → Log D C → Type 0
IsStepDue sum to count log =
    let behind : ℕ → Ledger = λ n. ledger_behind (segment_size_of log) (take n (sealed_for sum to log)) (ledger_for to log) in
    (stabilized (segment_size_of log) (behind count).account.mark (behind (count - 1)).machine).calls ≢ []

-- A log was given up with this answer, and so many buffers at the front were written: what was reserved isn't all among them, or the device failed behind
-- the last of them, in the accountant's step, which had a call to make, and isn't where the log kept a failure.
pub record ClosedFront {T D C : Type 0} (trace : D → Trace) (sum : List ℕ → ℕ) (result : Result T Error) (log : Log D C) (after : Trace) : Type 0 where
  pub count : ℕ
  pub written : synced_writes after ≡ count + synced_writes (trace (device_of log))
  pub whole : UnlessIo result (after ≡ after_all (writing_some count sum log (reserved_end log)) (trace (device_of log)))
  pub short : (IsIo result × (fault_of log ≡ None) × (pins_of log ≡ 0) × (0 < count) × IsStepDue sum (reserved_end log) count log)
      ⊎ (first_begin (drop count (sealed_for sum (reserved_end log) log)) (start_for (reserved_end log) log) < reserved_end log)

-- How far the last flush of a log came that failed: nothing was asked of the device, so it didn't fail, though the current buffer was to be sealed, or the log
-- keeps a failure; or not all was written.
abbrev pub ClosedAt : {T D C : Type 0} → (D → Trace) → (List ℕ → ℕ) → Result T Error → Log D C → Trace → Type 0
ClosedAt trace sum result log after =
    ((after ≡ trace (device_of log)) × (fault_of log ≡ None → (current_begin log < reserved_end log) × (IsIo result → ⊥)))
    ⊎ ClosedFront trace sum result log after
