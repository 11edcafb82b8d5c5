-- What proofs, and functions that no user calls, need beside `specs/Stops.antt`. No public contract names it.
use Rattle.std.specs.Prelude.{◌-◌, ℕ, Option, Some, None}

-- one call fewer is to be done
abbrev pub one_fewer : Option ℕ → Option ℕ
one_fewer None = None
one_fewer (Some n) = Some (n - 1)
