-- What an opening comes to: a recovery, and the start of a log on what it shows.
use Rattle.std.specs.Prelude.{◌≡◌, ◌⊎◌, ◌+◌, ◌%◌, ◌^◌, ◌∷◌, ℕ, ℤ, IsTrue, List, length, Option, None, Some}
use Rattle.sled_codec.specs.declared.result.Error.{Error}
use Rattle.sled_codec.specs.declared.result.Error.TheVariants.{Corruption, Io, OutOfMemory, PlacesUsedUp}
use Rattle.sled_codec.specs.Snapshots.{SnapshotModel, stable_place}
use Rattle.sled_store.specs.Device.{Event, Trace, Synced, NamesSynced, state_of, content_of}
use Rattle.sled_store.specs.Answers.{is_fault}
use Rattle.sled_store.specs.Blobs.{NamesDamage}
use Rattle.sled_store.specs.Script.{Performs, after_all}
use Rattle.sled_store.specs.Begin.{IsStartable, IsInReach}
use Rattle.sled_store.specs.Started.{started}
use Rattle.sled_store.specs.StartCauses.{StartRefuses}
use Rattle.sled_core.specs.Good.{IsGood}
use Rattle.sled_core.specs.Recoverable.{ReadsOnlyOwn}
use Rattle.sled_log.specs.declared.session.command.Reply.{Reply}
use Rattle.sled_log.specs.declared.session.command.Reply.TheVariants as reply
use Rattle.sled_log.specs.Recovery.{RecoveryResult, Recovered, Recovers}
use Rattle.sled_log.specs.Restores.{MeetsDamage, RecoveryCalls}
use Rattle.sled_log.specs.RunStates.{DeviceView, LogView, RunState, ShowsActive, length_of, recovered, started_on, closed}
use Rattle.sled_log.specs.WritesBack.{HasWrittenBack}

-- why a recovery of what the log itself wrote fails: a failure of the device is counted, and nothing else is
abbrev pub IsCause : Error → ℕ → ℕ → Type 0
IsCause (Io e) before after = IsTrue (is_fault e) × (after ≡ (before + 1) % 2 ^ 64)
IsCause OutOfMemory before after = after ≡ before
IsCause _ before after = ⊥

-- the same of a start, which is refused too where no further segment is in reach
abbrev pub IsStartCause : Error → ℕ → ℕ → Type 0
IsStartCause PlacesUsedUp before after = after ≡ before
IsStartCause e before after = IsCause e before after

-- Why a recovery fails, whatever the device has: at damage, which is named as it was met, it only synced the device, and else there is such a cause, and its
-- calls were made up to one that failed.
abbrev pub RecoveryFails : (List ℕ → ℕ) → ℕ → Error → DeviceView → DeviceView → Type 0
RecoveryFails sum size (Corruption at) old new =
    MeetsDamage sum size (content_of (state_of old.trace)) at × NamesDamage sum (state_of old.trace).blobs.file at
    × (new.trace ≡ NamesSynced ∷ Synced ∷ old.trace) × (new.failures ≡ old.failures)
RecoveryFails sum size e old new = IsCause e old.failures new.failures × RecoveryCalls sum size old.trace new.trace

-- what an opening shows of a snapshot
pub record IsShown (stable : Option ℤ) (active : Option ℕ) (pages : ℕ) (s : SnapshotModel) : Type 0 where
  pub stable_is : stable ≡ s.stable
  pub active_is : active ≡ s.active
  pub pages_are : pages ≡ length s.pages

-- the calls that the start of a log makes: the slots of the file that the snapshot doesn't use are filled with zeros, and free ones at its end cut off but one
abbrev pub starting : ℕ → Trace → SnapshotModel → List Event
starting size trace s = (started size (length (state_of trace).log.bytes) s).calls

-- A log was started on what was recovered: one can begin on that, and a further segment is in reach. Or none was: the calls for it were made up to one that
-- failed, or none where it is refused.
abbrev pub HasStarted : ℕ → Reply → DeviceView → SnapshotModel → DeviceView → Type 0
HasStarted size (reply.Opened stable active pages) old s new =
    IsShown stable active pages s × IsStartable size (length_of old) s × IsInReach size (length_of old) s
    × (new.trace ≡ after_all (starting size old.trace s) old.trace) × (new.failures ≡ old.failures)
HasStarted size (reply.Failed e) old s new =
    StartRefuses e (IsStartable size (length_of old) s) (IsInReach size (length_of old) s) (new.trace ≡ old.trace) old.failures new.failures
    × Performs (starting size old.trace s) old.trace new.trace
HasStarted size _ old s new = ⊥

-- the log that is open then, on a snapshot and a log file of this length
abbrev pub log_opened : ℕ → ℕ → SnapshotModel → Reply → Option LogView
log_opened size len s (reply.Opened stable active pages) = Some (started_on size len s)
log_opened size len s _ = None

-- why none is
abbrev pub SaysWhy : Reply → ℕ → ℕ → Type 0
SaysWhy (reply.Failed e) before after = IsStartCause e before after
SaysWhy _ before after = Unit {0}

module _ (sum : List ℕ → ℕ) (size : ℕ) where
  -- A recovery was made that shows this: the device was settled, and what the newest snapshot and the log file come to was written back.
  pub record HasRecovered (old new : DeviceView) (s : SnapshotModel) : Type 0 where
    pub conclusion : RecoveryResult
    pub recovers : Recovers sum size (content_of (state_of old.trace)) (Recovered conclusion)
    pub shown : s ≡ conclusion.model
    pub written : HasWrittenBack sum size conclusion (NamesSynced ∷ Synced ∷ old.trace) new.trace
    pub failures : new.failures ≡ old.failures

  -- A recovery was made that shows what a log can begin on, and one was started on it, or wasn't: so the start met no damage.
  pub record RecoversAndStarts (old : DeviceView) (r : Reply) (new : DeviceView) : Type 0 where
    pub snapshot : SnapshotModel
    pub mid : DeviceView
    pub recovers : HasRecovered old mid snapshot
    pub begins : IsStartable size (length_of mid) snapshot
    pub starts : HasStarted size r mid snapshot new

  -- What an opening does to the device, whatever that has: that, or the recovery failed.
  abbrev pub OpenActs : DeviceView → Reply → DeviceView → Type 0
  OpenActs old (reply.Failed e) new = RecoveryFails sum size e old new ⊎ RecoversAndStarts old (reply.Failed e) new
  OpenActs old r new = RecoversAndStarts old r new

  -- The snapshot is good for the run on what is left, shows the segment in which a log goes on, and the run goes on from it; a start that fails has a cause.
  pub record GoesOnFrom (a : RunState) (mid : DeviceView) (s : SnapshotModel) (r : Reply) (new : DeviceView) (b : RunState) : Type 0 where
    pub good : IsGood sum size (content_of (state_of new.trace)) a.history a.acknowledged a.floor s
    pub active : ShowsActive size (stable_place s.stable) s.active
    pub why : SaysWhy r a.device.failures new.failures
    pub leads : b ≡ recovered a new s (log_opened size (length_of mid) s r)

  -- What was recovered is good for the run, which goes on from that.
  pub record HasOpened (a : RunState) (r : Reply) (new : DeviceView) (b : RunState) : Type 0 where
    pub opens : RecoversAndStarts a.device r new
    pub good : ReadsOnlyOwn sum size (state_of a.device.trace) → GoesOnFrom a opens.mid opens.snapshot r new b

  -- Or the recovery failed.
  pub record FailsToRecover (a : RunState) (e : Error) (new : DeviceView) (b : RunState) : Type 0 where
    pub fails : RecoveryFails sum size e a.device new
    pub cause : ReadsOnlyOwn sum size (state_of a.device.trace) → IsCause e a.device.failures new.failures
    pub leads : b ≡ closed a new

  abbrev pub OpenStep : RunState → Reply → DeviceView → RunState → Type 0
  OpenStep a (reply.Failed e) new b = FailsToRecover a e new b ⊎ HasOpened a (reply.Failed e) new b
  OpenStep a r new b = HasOpened a r new b
