-- What a caller carries from call to call, and needn't read: see `specs/Running.antt`.
use Rattle.std.specs.Prelude.{ℕ, List}
use Rattle.sled_codec.specs.History.{Message, History}
use Rattle.sled_codec.specs.Snapshots.{SnapshotModel}
use Rattle.sled_store.specs.Accounts.{machine_of}
use Rattle.sled_store.specs.Device.{Trace, State, state_of}
use Rattle.sled_core.specs.declared.logger.Log.{Log}
use Rattle.sled_core.specs.Fits.{line_of, noted_in}
use Rattle.sled_core.specs.inside.Running.{FitsShown, IsReadyFor}

-- The log fits this history, the end of what was acknowledged, the floor and the messages that were not marked yet.
unfoldable pub Fits : {D C : Type 0} → (D → Trace) → (List ℕ → ℕ) → Log D C → History → ℕ → ℕ → List Message → Type 0
Fits trace sum log H A f U =
    FitsShown sum log.marks (noted_in log) log.config.config.segment_size (state_of (trace log.config.device)) log.fault.kept (line_of log)
    (machine_of log.accountant) log.pins H A f U

unfoldable pub Ready : (List ℕ → ℕ) → ℕ → State → SnapshotModel → History → ℕ → ℕ → Type 0
Ready sum size device s H A f = IsReadyFor sum size device s H A f
