-- Items of tickets that no crash takes: as long as the log keeps no failure they stay so, whatever it does.
use Rattle.std.proofs.Common.{ℕ, List}
use Rattle.sled_codec.specs.History.{Message}
use Rattle.sled_store.specs.Device.{Trace}
use Rattle.sled_core.specs.declared.logger.Log.{Log}
use Rattle.sled_core.specs.Keeps.{GoesOn}
use Rattle.sled_log.specs.RunPhases.{IsSafe}

pub safe_on : {D C : Type 0} (trace : D → Trace) (sum : List ℕ → ℕ) (old new : Log D C) (m : Message) → GoesOn trace sum old new → IsSafe trace sum old m → IsSafe trace sum new m
safe_on trace sum old new m goes_on safe = λ none. goes_on.items none m tt (safe (goes_on.sound none))
