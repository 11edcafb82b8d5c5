-- What the start of a log comes to in a session.
use Rattle.std.specs.Prelude.{◌≡◌, ℕ, List, [], None}
use Rattle.sled_codec.specs.History.{History}
use Rattle.sled_codec.specs.Snapshots.{SnapshotModel}
use Rattle.sled_store.specs.declared.config.RunningConfig.{RunningConfig}
use Rattle.sled_store.specs.Moments.{LeavesOnly}
use Rattle.sled_core.specs.Recoverable.{RecoverableIfOwn}
use Rattle.sled_log.specs.declared.session.Phase.{Phase}
use Rattle.sled_log.specs.declared.session.command.Reply.{Reply}
use Rattle.sled_log.specs.RunPhases.{IsAt, IsRecoveredAt, Unstored, device_in, due_in, log_in, traces}
use Rattle.sled_log.specs.RunStates.{DeviceView, length_of, MarkAt, heads_on}
use Rattle.sled_log.specs.OpenSteps.{SaysWhy, log_opened}

-- nothing is reserved, nor was given up, and these buffers were begun
abbrev pub unreserved : History → ℕ → ℕ → List MarkAt → Unstored
unreserved H A f heads = record { history = H; acknowledged = A; floor = f; tickets = []; given_up = []; heads = heads }

-- What a start makes of a table that was recovered.
pub record HasStartedAt {D C : Type 0} (view : D → DeviceView) (sum : List ℕ → ℕ) (config : RunningConfig D C) (s : SnapshotModel) (result : Phase D C × Reply)
    (k : Unstored) : Type 0 where
  pub log : log_in result.0 [] [] k.heads ≡ log_opened config.config.segment_size (length_of (view config.device)) s result.1
  pub due : due_in result.0 ≡ None
  pub at : IsAt (traces view) sum result.0 k
  pub crash : LeavesOnly (RecoverableIfOwn sum config.config.segment_size k.history k.acknowledged k.floor) (view config.device).trace
      (device_in view result.0).trace
  pub why : SaysWhy result.1 (view config.device).failures (device_in view result.0).failures

abbrev pub Starts : {D C : Type 0} → (D → DeviceView) → (List ℕ → ℕ) → RunningConfig D C → SnapshotModel → Phase D C × Reply → Type 0
Starts view sum config s result =
    (H : History) (A f : ℕ)
    → let k = unreserved H A f (heads_on config.config.segment_size (length_of (view config.device)) s) in
    IsRecoveredAt (traces view) sum config s k → HasStartedAt view sum config s result k
