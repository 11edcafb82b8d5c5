-- The mark that is read off the bytes of a segment is that of the header with which they begin.
use Rattle.std.proofs.Common.{◌≡◌, ◌∙◌, ◌<◌, ◌-◌, ◌^◌, ◌++◌, ℕ, ℤ, List, Some, sym, ap, take, drop, bit_xor, FitsSigned, lit<}
use Rattle.std.specs.Int.{w64, cast_signed, cast_unsigned, from_le_bytes}
use Rattle.std.specs.Int.Bits.{xor_assoc, xor_self, xor_zero_r}
use Rattle.std.proofs.lemmas.Int.{to_z-of_z}
use Rattle.std.proofs.lemmas.List.{drop-drop, drop-take}
use Rattle.std.proofs.lemmas.Nat.{from_le_bytes-to_le_bytes_8, xor_lt}
use Rattle.sled_codec.specs.Record.{IsHeader, header_places, masked, short_header}
use Rattle.sled_codec.specs.Spelling.{low_bytes}
use Rattle.sled_codec.specs.SpellingLaws.{unsigned_small}
use Rattle.sled_core.specs.HeaderMark.{mark_at, mark_in}

-- the mark that eight bytes of the masked place stand for
masked_back : (mark : ℤ) → FitsSigned w64 mark → cast_signed w64 (bit_xor (masked mark) (2 ^ 63 - 1)) ≡ mark
masked_back mark fits =
    ap (cast_signed w64) (
    xor_assoc (cast_unsigned w64 mark) (2 ^ 63 - 1) (2 ^ 63 - 1)
    ∙ ap (bit_xor (cast_unsigned w64 mark)) (xor_self (2 ^ 63 - 1))
    ∙ xor_zero_r (cast_unsigned w64 mark)
    )
    ∙ to_z-of_z w64 mark fits

-- So it is the mark of places that stand behind the first four bytes, whether or not these are their sum.
pub places_mark : (bytes : List ℕ) (lsn mark : ℤ) → FitsSigned w64 mark → drop 4 (take 20 bytes) ≡ header_places lsn mark → mark_in bytes ≡ mark
unfolding mark_in header_places
places_mark bytes lsn mark fits places =
    let small : masked mark < 2 ^ 64 = xor_lt 64 (cast_unsigned w64 mark) (2 ^ 63 - 1) (unsigned_small mark fits) (lit< tt) in
    let there : take 8 (drop 12 bytes) ≡ low_bytes 8 (masked mark) =
    sym (drop-take 12 8 bytes) ∙ sym (drop-drop 8 4 (take 20 bytes)) ∙ ap (drop 8) places in
    ap (λ (l : List ℕ). cast_signed w64 (bit_xor (from_le_bytes w64 l) (2 ^ 63 - 1))) there
    ∙ ap (λ n. cast_signed w64 (bit_xor n (2 ^ 63 - 1))) (from_le_bytes-to_le_bytes_8 (masked mark) small)
    ∙ masked_back mark fits

pub header_mark : (sum : List ℕ → ℕ) (bytes rest : List ℕ) (lsn mark : ℤ) → IsHeader sum bytes lsn mark → mark_at 0 (bytes ++ rest) ≡ Some mark
unfolding mark_at short_header header_places
header_mark sum bytes rest lsn mark header =
    ap Some (places_mark (bytes ++ rest) lsn mark header.mark_fits (ap (λ (l : List ℕ). drop 4 (take 20 (l ++ rest))) header.is))
