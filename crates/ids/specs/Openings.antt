-- What an opening does to a device, whatever that has, and why it fails.
use Rattle.std.specs.Prelude.{◌≡◌, ◌⊎◌, ℕ, List, length, Result, Ok, Err}
use Rattle.sled_codec.specs.declared.result.Error.{Error}
use Rattle.sled_codec.specs.declared.serialization.snapshot.Snapshot.{Snapshot}
use Rattle.sled_codec.specs.Errors.{IsCorrupt}
use Rattle.sled_codec.specs.Snapshots.{SnapshotModel}
use Rattle.sled_store.specs.Begin.{IsInReach, IsStartable}
use Rattle.sled_store.specs.Blobs.{ItemAnswers}
use Rattle.sled_store.specs.StartCauses.{StartRefuses}
use Rattle.sled_store.specs.Device.{Trace, state_of}
use Rattle.sled_core.specs.Fits.{position_of}
use Rattle.sled_core.specs.Positions.{Position}
use Rattle.sled_core.specs.Starts.{HasMadeStart, StartCalls, position_from}
use Rattle.sled_log.specs.Restores.{ComesOf, Restores}
use Rattle.ids.specs.declared.generator.IdGenerator.{IdGenerator}
use Rattle.ids.specs.Generators.{log_of, next_of}
use Rattle.ids.specs.Readings.{CountsError, IsBoundRead, IsReadError}

-- The recovery failed: its calls were made up to one that failed, and where it met damage nothing was written.
pub record RecoveryFailed (sum : List ℕ → ℕ) (size : ℕ) (e : Error) (old new : Trace) (before after : ℕ) : Type 0 where
  pub comes : ComesOf sum size old new (Err e)
  pub answers : ItemAnswers {T = Snapshot} sum (state_of old).blobs.file (Err e) before after

-- A recovery was made, and no log could be started on what it gave: where that is damaged, or no further segment is in reach, nothing was written for the
-- start.
pub record StartFailed (sum : List ℕ → ℕ) (size : ℕ) (e : Error) (old new : Trace) (before after : ℕ) : Type 0 where
  pub snapshot : SnapshotModel
  pub mid : Trace
  pub recovers : Restores sum size old mid snapshot
  pub calls : StartCalls size snapshot mid new
  pub cause : StartRefuses e (IsStartable size (length (state_of mid).log.bytes) snapshot) (IsInReach size (length (state_of mid).log.bytes) snapshot) (new
      ≡ mid) before after

-- A recovery was made and a log started on what it gave, and nothing else was asked of the device that changes it.
pub record HasStarted (sum : List ℕ → ℕ) (size : ℕ) (old new : Trace) : Type 0 where
  pub snapshot : SnapshotModel
  pub mid : Trace
  pub recovers : Restores sum size old mid snapshot
  pub startable : IsStartable size (length (state_of mid).log.bytes) snapshot
  pub in_reach : IsInReach size (length (state_of mid).log.bytes) snapshot
  pub made : HasMadeStart size snapshot mid new

-- So it was, this number is the bound that stands in the log file then, and the log goes on where it begins on what was recovered: nothing was put into it.
pub record HasOpened (sum : List ℕ → ℕ) (size n : ℕ) (position : Position) (old new : Trace) : Type 0 where
  pub started : HasStarted sum size old new
  pub bound : IsBoundRead sum size (state_of new).log.bytes started.snapshot.pages n
  pub goes_on : position ≡ position_from size (length (state_of started.mid).log.bytes) started.snapshot

-- A log was started so, and the bound could not be read; damage is answered only where none stands there.
pub record ReadFailed (sum : List ℕ → ℕ) (size : ℕ) (e : Error) (old new : Trace) (before after : ℕ) : Type 0 where
  pub started : HasStarted sum size old new
  pub known : IsReadError e
  pub damaged : IsCorrupt e → (n : ℕ) → IsBoundRead sum size (state_of new).log.bytes started.snapshot.pages n → ⊥
  pub counts : CountsError e before after

-- Why no generator was opened, and what was asked of the device until then.
abbrev pub OpenFails : (List ℕ → ℕ) → ℕ → Error → (old new : Trace) (before after : ℕ) → Type 0
OpenFails sum size e old new before after =
    RecoveryFailed sum size e old new before after ⊎ StartFailed sum size e old new before after ⊎ ReadFailed sum size e old new before after

-- A generator was opened by the calls of a recovery and of a start, and begins with the bound that stands there, over a log that only began; or none was.
abbrev pub OpenActs : {D C R : Type 0} → (List ℕ → ℕ) → ℕ → Result (IdGenerator D C) (Error × R) → (old new : Trace) (before after : ℕ) → Type 0
OpenActs sum size (Ok g) old new before after = HasOpened sum size (next_of g) (position_of (log_of g)) old new × (after ≡ before)
OpenActs sum size (Err e) old new before after = OpenFails sum size e.0 old new before after
