-- What recovery asks of a history that a log's users make, and of the device, and what it gives then.
use Rattle.std.specs.Prelude.{◌≤◌, ℕ, List, length, Result, IfOk}
use Rattle.sled_codec.specs.declared.result.Error.{Error}
use Rattle.sled_codec.specs.declared.serialization.snapshot.Snapshot.{Snapshot}
use Rattle.sled_codec.specs.Errors.{IsCorruption}
use Rattle.sled_codec.specs.History.{History, below, table}
use Rattle.sled_codec.specs.WellFormed.{IsWellFormed}
use Rattle.sled_codec.specs.Snapshots.{model_of, stable_place}
use Rattle.sled_store.specs.Device.{Content, State, Trace, state_of, content_of}
use Rattle.sled_store.specs.Moments.{LeavesOnly}
use Rattle.sled_core.specs.Good.{IsGood}
use Rattle.sled_core.specs.Recoverable.{ReadsOnlyOwn, LeavesRecoverable, RecoverableIfOwn}
use Rattle.sled_core.specs.invariants.Running.{Ready}

-- It is one that a log's users make, and no page has more than 254 Links on its Replace.
pub record IsOrderly (H : History) : Type 0 where
  pub formed : IsWellFormed H
  pub few : (cut page : ℕ) → length (table H cut page) ≤ 255

-- Each content that a crash leaves of the device can be recovered for an orderly history, and what is read is the log's own.
pub record CanRecover (sum : List ℕ → ℕ) (size : ℕ) (device : State) (H : History) (A f : ℕ) : Type 0 where
  pub orderly : IsOrderly H
  pub left : LeavesRecoverable sum size H A f device
  pub own : ReadsOnlyOwn sum size device

-- What was recovered is read well: no damage was met, and the snapshot is good for it.
abbrev pub IsReadWell : (List ℕ → ℕ) → ℕ → Content → History → ℕ → ℕ → Result Snapshot Error → Type 0
IsReadWell sum size content H A f result = (IsCorruption result → ⊥) × IfOk result (λ s. IsGood sum size content H A f (model_of s))

-- What a recovery gives of such a device: at each moment within it a crash leaves what can be recovered; it meets no damage; and its snapshot is good for
-- what is left, which can be recovered for what lies below its place, and from which a log can go on.
pub record RecoversFor (sum : List ℕ → ℕ) (size : ℕ) (H : History) (A f : ℕ) (old new : Trace) (result : Result Snapshot Error) : Type 0 where
  pub throughout : LeavesOnly (RecoverableIfOwn sum size H A f) old new
  pub undamaged : IsCorruption result → ⊥
  pub good : IfOk result (λ s. IsGood sum size (content_of (state_of new)) H A f (model_of s))
  pub kept : IfOk result (λ s. let cut = stable_place s.stable_lsn in LeavesRecoverable sum size (below H cut) A cut (state_of new))
  pub ready : IfOk result (λ s. let cut = stable_place s.stable_lsn in Ready sum size (state_of new) (model_of s) (below H cut) A cut)
