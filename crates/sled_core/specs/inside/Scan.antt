-- What proofs, and functions that no user calls, need beside `specs/Scan.antt`, which has what is passed on here. No public contract names it.
use Rattle.std.specs.Prelude.{◌+◌, ◌≤◌, ℕ}
use Rattle.sled_core.specs.declared.iterator.scan.Step.{Step}
use Rattle.sled_core.specs.declared.iterator.scan.Step.TheVariants.{Meets, Ends}
pub use Rattle.sled_core.specs.Scan.{IsFoundSegment, IsMisplaced}

-- a record that is met at an offset of a segment lies in it
abbrev pub HasPlace : ℕ → ℕ → Step → Type 0
HasPlace size at (Meets m) = (8 ≤ m.len) × (at + m.len ≤ size)
HasPlace size at (Ends why) = Unit {0}
