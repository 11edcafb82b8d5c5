-- A header of zeros is that of the greatest place.
use Rattle.std.proofs.Common.{◌≡◌, ◌<◌, ◌-◌, ◌^◌, ◌∙◌, ℕ, ℤ, pos, List, take, drop, replicate, sym, ap, arith, lit<, bit_xor}
use Rattle.std.specs.Int.{w64, cast_unsigned}
use Rattle.std.specs.Int.Bits.{xor_assoc, xor_self, xor_zero_l, xor_zero_r}
use Rattle.std.proofs.lemmas.Int.{ints}
use Rattle.std.proofs.lemmas.Nat.{xor_lt}
use Rattle.sled_codec.specs.Record.{IsHeader, header_places, masked, short_header}
use Rattle.sled_codec.specs.Spelling.{low_bytes, low_first}
use Rattle.sled_codec.specs.SpellingLaws.{low_first-low_bytes, unsigned_small}

-- it is that of the greatest place
pub zero_header : (sum : List ℕ → ℕ) (place : ℕ) (mark : ℤ) (bytes : List ℕ) → bytes ≡ replicate 20 0 → IsHeader sum bytes (pos place) mark → place ≡ 2 ^ 63 - 1
unfolding header_places short_header
zero_header sum place mark bytes zeros h =
    let tail : drop 4 bytes ≡ header_places (pos place) mark = ap (drop 4) h.is in
    let low : low_bytes 8 (masked (pos place)) ≡ replicate 8 0 = ap (take 8) (sym tail ∙ ap (drop 4) zeros) in
    let u : ℕ = cast_unsigned w64 (pos place) in
    let small : masked (pos place) < 256 ^ 8 = xor_lt 64 u (2 ^ 63 - 1) (unsigned_small (pos place) h.place_fits) (lit< tt) in
    let none : masked (pos place) ≡ 0 = sym (low_first-low_bytes 8 (masked (pos place)) (omega arith) small) ∙ ap low_first low in
    let back : u ≡ 2 ^ 63 - 1 =
    sym (xor_zero_r u) ∙ sym (ap (bit_xor u) (xor_self (2 ^ 63 - 1))) ∙ sym (xor_assoc u (2 ^ 63 - 1) (2 ^ 63 - 1)) ∙ ap (λ n. bit_xor n (2 ^ 63 - 1)) none ∙ xor_zero_l (2 ^ 63 - 1) in
    let fits = h.place_fits in
    let is : u ≡ place = omega (arith, ints, fits) in
    sym is ∙ back
