-- Bytes as text: two hexadecimal digits each, in lower case, and a dash for none.
use Rattle.std.specs.Prelude.{ℕ, ◌+◌, ◌/◌, ◌%◌, nat_lt, if◌then◌else◌, List, [], ◌∷◌}

-- the code of a digit, '0' to '9' and then 'a' to 'f'
abbrev pub digit_of : ℕ → ℕ
digit_of n = if nat_lt n 10 then 48 + n else 87 + n

-- two digits for each byte, the high one first
abbrev pub digits_of : List ℕ → List ℕ
digits_of [] = []
digits_of (b ∷ bytes) = digit_of (b / 16) ∷ digit_of (b % 16) ∷ digits_of bytes

-- how bytes are written
abbrev pub hex_of : List ℕ → List ℕ
hex_of [] = 45 ∷ []
hex_of (b ∷ bytes) = digits_of (b ∷ bytes)
