-- What a restart does, and why it fails.
use Rattle.std.specs.Prelude.{◌≡◌, ◌⊎◌, ◌≤ℤ◌, ◌+◌, ◌%◌, ◌^◌, ℕ, ℤ, pos, List, Option, None, Some, IsSome, IsTrue, Result, Ok, Err}
use Rattle.std.specs.declared.io.Error.{Error as IoError}
use Rattle.sled_codec.specs.declared.result.Error.{Error}
use Rattle.sled_codec.specs.declared.serialization.snapshot.Snapshot.{Snapshot}
use Rattle.sled_codec.specs.declared.result.Error.TheVariants.{Io, OutOfMemory, PlacesUsedUp}
use Rattle.sled_codec.specs.History.{Message, History}
use Rattle.sled_store.specs.Answers.{is_fault}
use Rattle.sled_store.specs.Blobs.{ItemAnswers}
use Rattle.sled_store.specs.Device.{Event, State, Trace, state_of}
use Rattle.sled_store.specs.Moments.{LeavesOnly}
use Rattle.sled_store.specs.Script.{Performs, after_all}
use Rattle.sled_core.specs.declared.logger.Log.{Log}
use Rattle.sled_core.specs.Fits.{device_of, fault_of, flushing, ledger_for, reserved_end, segment_size_of}
use Rattle.sled_core.specs.Keeps.{sealed_for}
use Rattle.sled_core.specs.Ledger.{ledger_behind}
use Rattle.sled_core.specs.LogStatus.{status_below}
use Rattle.sled_core.specs.Stale.{NothingStaleAt}
use Rattle.sled_core.specs.Recoverable.{NoHeaderOfZeros, ReadsOnlyOwn, RecoverableIfOwn}
use Rattle.sled_core.specs.Waiting.{front_below}
use Rattle.sled_core.specs.invariants.Running.{Fits}
use Rattle.sled_log.specs.Orderly.{IsOrderly}
use Rattle.sled_log.specs.Restores.{ComesOf}

-- the mark that has joined once a flush has written all that was reserved
abbrev pub mark_flushed : {D C : Type 0} → (List ℕ → ℕ) → Log D C → ℤ
mark_flushed sum log =
    let to = reserved_end log in (ledger_behind (segment_size_of log) (front_below to (sealed_for sum to log)) (ledger_for to log)).account.mark

-- what its device has then
abbrev pub state_flushed : {D C : Type 0} → (D → Trace) → (List ℕ → ℕ) → Log D C → State
state_flushed trace sum log = state_of (after_all (flushing sum log) (trace (device_of log)))

-- So nothing stale stands in its file then.
abbrev pub NothingStaleFlushed : {D C : Type 0} → (D → Trace) → (List ℕ → ℕ) → Log D C → Type 0
NothingStaleFlushed trace sum log =
    NothingStaleAt (segment_size_of log) (status_below sum (reserved_end log) log) (state_flushed trace sum log).log.bytes

-- Only what the log itself wrote passes as its own in what a recovery reads, behind all that the flush writes: so it is where zeros pass as no header, as long
-- as no mark joins that is above the floor, or nothing stale stands in the file. (Once a slot is used a second time, behind the end of what was written an item
-- of an older segment may stand that looks like a record of the log's.)
abbrev pub ReadsOwnFlushed : {D C : Type 0} → (D → Trace) → (List ℕ → ℕ) → Log D C → ℕ → Type 0
ReadsOwnFlushed trace sum log f =
    (NoHeaderOfZeros sum × ((mark_flushed sum log ≤ℤ pos f) ⊎ NothingStaleFlushed trace sum log))
    ⊎ ReadsOnlyOwn sum (segment_size_of log) (state_flushed trace sum log)

-- A log fits an orderly history, and what is read behind its flush is its own.
pub record CanRestart {D C : Type 0} (trace : D → Trace) (sum : List ℕ → ℕ) (log : Log D C) (H : History) (A f : ℕ) (U : List Message) : Type 0 where
  pub fits : Fits trace sum log H A f U
  pub orderly : IsOrderly H
  pub own : fault_of log ≡ None → ReadsOwnFlushed trace sum log f

-- a flush failed: for the failure that the log kept, for one of this call, which is counted, for want of a further segment, where it needs one that isn't
-- in reach, or else for want of memory
abbrev pub FlushFails : {T : Type 0} → Result T Error → Type 0 → Option IoError → ℕ → ℕ → Type 0
FlushFails (Err (Io e)) used fault before after =
    ((fault ≡ Some e) × (after ≡ before)) ⊎ ((fault ≡ None) × (after ≡ (before + 1) % 2 ^ 64) × IsTrue (is_fault e))
FlushFails (Err OutOfMemory) used fault before after = (used → ⊥) × (fault ≡ None) × (after ≡ before)
FlushFails (Err PlacesUsedUp) used fault before after = used × (fault ≡ None) × (after ≡ before)
FlushFails (Err _) used fault before after = ⊥
FlushFails (Ok _) used fault before after = ⊥

-- Up to some moment within a restart the calls of the flush alone were made, all of them or up to one that failed, and then nothing comes behind that. Up to
-- there a crash leaves what can be recovered for a log that fits, whatever its device has; and from there on where what is read is the log's own, too.
pub record LeavesInTwo {D C : Type 0} (trace : D → Trace) (sum : List ℕ → ℕ) (log : Log D C) (old new : Trace) : Type 0 where
  pub mid : Trace
  pub performed : Performs (flushing sum log) old mid
  pub is : (new ≡ mid) ⊎ (mid ≡ after_all (flushing sum log) old)
  pub first : (H : History) (A f : ℕ) (U : List Message) → Fits trace sum log H A f U → LeavesOnly (RecoverableIfOwn sum (segment_size_of log) H A f) old mid
  pub then : (H : History) (A f : ℕ) (U : List Message) → CanRestart trace sum log H A f U
      → LeavesOnly (RecoverableIfOwn sum (segment_size_of log) H A f) mid new

-- All was written, and what is answered came of a recovery of that.
pub record HasRestarted (sum : List ℕ → ℕ) (size : ℕ) (flushed new : Trace) (result : Result Snapshot Error) (before after : ℕ) : Type 0 where
  pub comes : ComesOf sum size flushed new result
  pub answers : ItemAnswers sum (state_of flushed).blobs.file result before after

-- The flush failed, and nothing was done but its calls, up to one that failed, or none where the log kept a failure. Or all was written, and recovered.
abbrev pub Restarts : (List ℕ → ℕ) → ℕ → List Event → Type 0 → Option IoError → Result Snapshot Error → (old new : Trace) (before after : ℕ) → Type 0
Restarts sum size flushes used fault result old new before after =
    (Performs flushes old new × (IsSome fault → new ≡ old) × FlushFails result used fault before after)
    ⊎ ((fault ≡ None) × (used → ⊥) × HasRestarted sum size (after_all flushes old) new result before after)
