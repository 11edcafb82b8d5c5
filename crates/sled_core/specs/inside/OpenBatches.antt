-- What proofs, and functions that no user calls, need beside `specs/OpenBatches.antt`. No public contract names it.
use Rattle.std.specs.Prelude.{◌≡◌, ◌+◌, ◌≤◌, ◌<◌, ◌⊎◌, ℕ, List, [], ◌∷◌, refl}
use Rattle.std.specs.List.{Contains}
use native.Mathlib.Bridge.{le_prop}
use Rattle.sled_codec.specs.History.{Batch}

-- A batch that is open at a place.
abbrev pub IsOpenBatch : ℕ → Batch → Type 0
IsOpenBatch reach b = (b.low < reach) × (reach ≤ b.peg)

-- Where a batch isn't wholly read, it has no place in common with another one.
pub record AreApart (reach : ℕ) (bs : List Batch) : Type 0 where
  pub apart : (b c : Batch) → Contains bs b → Contains bs c → reach ≤ c.peg → (b ≡ c) ⊎ (b.peg < c.low) ⊎ (c.peg < b.low)

-- They lie one behind another from a place on: none ends in front of where it begins, and each ends in front of where the next one begins.
abbrev pub AreByPlace : ℕ → List Batch → Type 0
AreByPlace from [] = Unit {0}
AreByPlace from (b ∷ bs) = (from ≤ b.low) × (b.low ≤ b.peg) × AreByPlace (b.peg + 1) bs

-- A log keeps that as a proposition: there is one proof of it at most.
pub AreByPlace-prop : (from : ℕ) (bs : List Batch) → IsProp (AreByPlace from bs)
AreByPlace-prop from [] = λ p q. refl
AreByPlace-prop from (b ∷ bs) = λ p q i. (le_prop p.0 q.0 i, le_prop p.1 q.1 i, AreByPlace-prop (b.peg + 1) bs p.2 q.2 i)
