-- Sums over bytes.
use Rattle.std.specs.Prelude.{◌+◌, ◌-◌, ◌*◌, ◌%◌, ◌^◌, ℕ, List, [], ◌∷◌}

-- a sum with all its 32 bits flipped
abbrev pub flipped : ℕ → ℕ
flipped sum = (2 ^ 32 - 1) - sum

-- each byte times its place, counted from this one on
abbrev pub weighed : ℕ → List ℕ → ℕ
weighed place [] = 0
weighed place (b ∷ bytes) = place * b + weighed (place + 1) bytes

-- the sum for tests
unfoldable pub place_sum : List ℕ → ℕ
place_sum bytes = weighed 1 bytes % 2 ^ 32
