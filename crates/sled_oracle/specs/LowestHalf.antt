-- What a slow search for the stable end is made of.
use Rattle.std.specs.Prelude.{◌≤ℤ◌, ℤ, List, All, Contains, Option, Some, None}
use Rattle.sled_core.specs.StableEnds.{IsHalfSynced}

-- the lowest of the batches that are half synced at e, if one is
abbrev pub IsLowestHalf : ℤ → List (ℤ × ℤ) → Option (ℤ × ℤ) → Type 0
IsLowestHalf e bs None = All (λ b. IsHalfSynced e b → ⊥) bs
IsLowestHalf e bs (Some lowest) = Contains bs lowest × IsHalfSynced e lowest × All (λ b. IsHalfSynced e b → lowest.0 ≤ℤ b.0) bs
