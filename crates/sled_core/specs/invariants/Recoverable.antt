-- What a caller carries from call to call, and needn't read: see `specs/Recoverable.antt`.
use Rattle.std.specs.Prelude.{ℕ, List}
use Rattle.sled_codec.specs.History.{History}
use Rattle.sled_store.specs.Device.{Content}
use Rattle.sled_core.specs.inside.Recoverable.{IsRecoverable}

unfoldable pub Recoverable : (List ℕ → ℕ) → ℕ → Content → History → ℕ → ℕ → Type 0
Recoverable sum size content H A f = IsRecoverable sum size content H A f
