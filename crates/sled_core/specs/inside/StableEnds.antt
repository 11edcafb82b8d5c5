-- What proofs, and functions that no user calls, need beside `specs/StableEnds.antt`. No public contract names it.
use Rattle.std.specs.Prelude.{ℤ}
use Rattle.std.specs.declared.cmp.Reverse.{Reverse}
use Rattle.std.specs.declared.cmp.Ordering.{Ordering}
use Rattle.std.specs.Ordering.{ordering_then, int_cmp}

-- the order in which the interval that begins lowest is the greatest
abbrev pub lowest_first : Reverse (ℤ × ℤ) → Reverse (ℤ × ℤ) → Ordering
lowest_first x y = ordering_then (int_cmp y.0.0 x.0.0) (int_cmp y.0.1 x.0.1)
