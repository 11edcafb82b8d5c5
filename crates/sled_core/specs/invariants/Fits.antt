-- What a caller carries from call to call, and needn't read: see `specs/Fits.antt`.
use Rattle.std.specs.Prelude.{ℕ, List}
use Rattle.sled_codec.specs.History.{History}
use Rattle.sled_store.specs.Accounts.{machine_of}
use Rattle.sled_store.specs.Device.{Trace, state_of}
use Rattle.sled_core.specs.declared.logger.Log.{Log}
use Rattle.sled_core.specs.Logged.{logged}
use Rattle.sled_core.specs.Fits.{line_of, noted_in}
use Rattle.sled_core.specs.inside.Fits.{HoldsShown}

-- The log holds this history: what it shows of its log file has the records of the history as a log has it, without the items that blobs have.
unfoldable pub Holds : {D C : Type 0} → (D → Trace) → (List ℕ → ℕ) → Log D C → History → Type 0
Holds trace sum log H =
    HoldsShown sum log.marks (noted_in log) log.config.config.segment_size (state_of (trace log.config.device)) log.fault.kept (line_of log)
    (machine_of log.accountant) (logged H)
