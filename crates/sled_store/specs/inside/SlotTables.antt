-- What proofs, and functions that no user calls, need beside `specs/SlotTables.antt`. No public contract names it.
use Rattle.std.specs.Prelude.{◌==◌, ℕ, Bool, true, false, if◌then◌else◌, Option, Some, None}

-- what the entries in a slot sum up to, by what is known of the slot and of a segment, unless that segment can't lie there
abbrev pub sum_in : Option (ℕ × ℕ) → Bool → ℕ → Option ℕ
sum_in (Some v) known number = if v.0 == number then Some v.1 else None
sum_in None true number = None
sum_in None false number = Some 0
