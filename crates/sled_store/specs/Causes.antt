-- Why a call that uses a device failed.
use Rattle.std.specs.Prelude.{◌≡◌, ◌+◌, ◌%◌, ◌^◌, ℕ, None, Result, Ok, Err, IsTrue}
use Rattle.sled_codec.specs.declared.result.Error.{Error}
use Rattle.sled_codec.specs.declared.result.Error.TheVariants.{Io, OutOfMemory, Corruption}
use Rattle.sled_store.specs.Answers.{is_fault}

-- A call that reads: a failure of the device is counted, and nothing else is.
abbrev pub DeviceAnswers : {T : Type 0} → Result T Error → ℕ → ℕ → Type 0
DeviceAnswers (Ok _) before after = after ≡ before
DeviceAnswers (Err (Io e)) before after = IsTrue (is_fault e) × (after ≡ (before + 1) % 2 ^ 64)
DeviceAnswers (Err OutOfMemory) before after = after ≡ before
DeviceAnswers (Err (Corruption at)) before after = (after ≡ before) × (at ≡ None)
DeviceAnswers (Err _) before after = ⊥
