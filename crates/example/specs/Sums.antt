-- A sum over bytes.
use Rattle.std.specs.Prelude.{◌+◌, ◌*◌, ◌%◌, ◌^◌, ℕ, List, [], ◌∷◌}

-- for each byte the sum so far is multiplied by 31 and the byte added, modulo 2^32
abbrev pub times_31 : ℕ → List ℕ → ℕ
times_31 sum [] = sum
times_31 sum (byte ∷ bytes) = times_31 ((sum * 31 + byte) % 2 ^ 32) bytes
