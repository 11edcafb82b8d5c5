-- What proofs, and functions that no user calls, need beside `specs/ReadBuffer.antt`. No public contract names it.
use Rattle.std.specs.Prelude.{◌≡◌, ◌⊎◌, ◌≤ℤ◌, ◌<ℤ◌, ℕ, ℤ, pos, Option, None, Result, Err}
use Rattle.std.specs.declared.io.Error.{Error as IoError}
use Rattle.sled_codec.specs.declared.result.Error.{Error}
use Rattle.sled_codec.specs.declared.result.Error.TheVariants.{NotReserved}
use Rattle.sled_core.specs.Causes.{HeldAnswers}

-- A place is settled, where all is stable before the one place and what was reserved ends before the other: as each call that writes buffers, and not
-- reserved exactly where that is so.
abbrev pub SettleAnswers : {T : Type 0} → Result T Error → ℤ → ℕ → ℕ → Option ℕ → Type 0 → Option IoError → ℕ → ℕ → Type 0
SettleAnswers (Err (NotReserved at)) lsn stable end held used new before after =
    (at ≡ lsn) × (pos stable ≤ℤ lsn) × (pos end ≤ℤ lsn) × (new ≡ None) × (after ≡ before)
SettleAnswers result lsn stable end held used new before after = ((lsn <ℤ pos stable) ⊎ (lsn <ℤ pos end)) × HeldAnswers result held used None new before after
