-- The bytes of a segment as contracts see them, also where they were given away.
use Rattle.std.specs.Prelude.{◌+◌, ◌<◌, ◌≤◌, ◌^◌, ℕ, List, length}
use native.Mathlib.Bridge.{le_prop}
use Rattle.sled_core.specs.declared.iobuf.Reserved.{Reserved}
use Rattle.sled_core.specs.declared.iobuf.Sealed.{Sealed}
use Rattle.sled_core.specs.inside.LaidBytes.{LaidBytes}

-- They have room behind them for what is summed behind a record, as long as they are there; and they are, as long as there is a reservation or a sealed buffer.
pub record IsLaid (bytes : LaidBytes) (reserved : List Reserved) (sealed : List Sealed) : Type 0 where
  pub small : length bytes.items < 2 ^ 63
  pub roomy : 0 < bytes.room → length bytes.items + 32 ≤ bytes.room
  pub there : 0 < length reserved + length sealed → 0 < bytes.room

-- A segment keeps that as a proposition: there is one proof of it at most.
pub IsLaid-prop : (bytes : LaidBytes) (reserved : List Reserved) (sealed : List Sealed) → IsProp (IsLaid bytes reserved sealed)
IsLaid-prop bytes reserved sealed = λ p q i. record {
  small = le_prop p.small q.small i;
  roomy = λ some. le_prop (p.roomy some) (q.roomy some) i;
  there = λ some. le_prop (p.there some) (q.there some) i;
}
