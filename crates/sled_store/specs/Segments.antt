-- Segment sizes.
use Rattle.std.specs.Prelude.{◌≡◌, ◌≤◌, ℕ, true}
use Rattle.std.specs.Int.{is_power_of_two}

-- a power of two from 256 to 2^23, so that each offset in a segment fits 24 bits
pub record IsSegmentSize (size : ℕ) : Type 0 where
  pub least : 256 ≤ size
  pub most : size ≤ 8388608
  pub power : is_power_of_two size ≡ true
