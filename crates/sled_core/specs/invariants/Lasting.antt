-- What a caller carries from call to call, and needn't read: see `specs/Recoverable.antt`.
use Rattle.std.specs.Prelude.{ℕ, List}
use Rattle.sled_codec.specs.History.{History}
use Rattle.sled_store.specs.Device.{State}
use Rattle.sled_core.specs.inside.Lasting.{IsLasting}

unfoldable pub Lasts : (List ℕ → ℕ) → ℕ → State → History → ℕ → ℕ → Type 0
Lasts sum size s H A f = IsLasting sum size s H A f
