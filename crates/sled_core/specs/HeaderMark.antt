-- The mark that the header of a segment has, as it is read off the segment's bytes.
use Rattle.std.specs.Prelude.{int_lt, ◌==◌, ◌-◌, ◌^◌, if◌then◌else◌, ℕ, ℤ, List, Option, None, Some, take, drop}
use Rattle.std.specs.Int.{w64, cast_signed, from_le_bytes}
use Rattle.std.specs.Int.Bits.{bit_xor}

-- that of the header with which these bytes begin
unfoldable pub mark_in : List ℕ → ℤ
mark_in bytes = cast_signed w64 (bit_xor (from_le_bytes w64 (take 8 (drop 12 bytes))) (2 ^ 63 - 1))

-- that of a buffer with these bytes, which begins at an offset of its segment: the segment's, where it begins with the header
unfoldable pub mark_at : ℕ → List ℕ → Option ℤ
mark_at from bytes = if from == 0 then Some (mark_in bytes) else None

-- the greater one of a place and a mark, where there is one
abbrev pub greater_mark : Option ℤ → ℤ → ℤ
greater_mark None place = place
greater_mark (Some mark) place = if int_lt place mark then mark else place
