-- What contracts see of the bytes of a segment.
use Rattle.std.specs.Prelude.{ℕ, List}

-- What they are, or were when they were given away, and for how many there is room, none then.
pub record LaidBytes : Type 0 where
  pub items : List ℕ
  pub room : ℕ
