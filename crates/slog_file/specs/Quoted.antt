-- A text as JSON has it.
use Rattle.std.specs.Prelude.{ℕ, ◌/◌, ◌%◌, ◌==◌, ◌||◌, nat_lt, if◌then◌else◌, List, [], ◌∷◌, ◌++◌}
use Rattle.slog_lines.specs.Hex.{digit_of}

-- A control character is written by four digits, and a quotation mark and a backslash behind a backslash.
abbrev pub escaped_byte : ℕ → List ℕ
escaped_byte b =
    if nat_lt b 32 then 92 ∷ 117 ∷ 48 ∷ 48 ∷ digit_of (b / 16) ∷ digit_of (b % 16) ∷ []
    else if (b == 34 || b == 92) then 92 ∷ b ∷ [] else b ∷ []

abbrev pub escaped : List ℕ → List ℕ
escaped [] = []
escaped (b ∷ bytes) = escaped_byte b ++ escaped bytes

-- between quotation marks
abbrev pub quoted : List ℕ → List ℕ
quoted text = 34 ∷ escaped text ++ 34 ∷ []
