-- Whether zeros pass as a header is decided: the header would be that of the greatest place, with the greatest mark.
use Rattle.std.proofs.Common.{◌≡◌, ◌<◌, ◌-◌, ◌^◌, ◌∙◌, ◌⊎◌, FitsSigned, ℕ, ℤ, pos, Bool, true, false, List, take, drop, replicate, refl, sym, ap, arith, lit<, bit_xor, inl, inr}
use Rattle.std.specs.Bool.{Decides}
use Rattle.std.specs.Int.{w64, cast_unsigned}
use Rattle.std.specs.Int.Bits.{xor_assoc, xor_self, xor_zero_l, xor_zero_r}
use Rattle.std.proofs.lemmas.Int.{ints}
use Rattle.std.proofs.lemmas.Nat.{xor_lt}
use Rattle.std.proofs.lemmas.Slice.Eq.{bytes_eq-Decides}
use Rattle.sled_codec.specs.Record.{IsHeader, header_places, masked, short_header}
use Rattle.sled_codec.specs.Spelling.{low_bytes, low_first}
use Rattle.sled_codec.specs.SpellingLaws.{low_first-low_bytes, unsigned_small}
use Rattle.sled_core.specs.Recoverable.{NoHeaderOfZeros}

-- the greatest place
abbrev greatest : ℤ
greatest = pos (2 ^ 63 - 1)

-- a place whose bytes are zeros is the greatest
zero_place : (z : ℤ) → FitsSigned w64 z → low_bytes 8 (masked z) ≡ replicate 8 0 → z ≡ greatest
zero_place z fits low =
    let u : ℕ = cast_unsigned w64 z in
    let small : masked z < 256 ^ 8 = xor_lt 64 u (2 ^ 63 - 1) (unsigned_small z fits) (lit< tt) in
    let none : masked z ≡ 0 = sym (low_first-low_bytes 8 (masked z) (omega arith) small) ∙ ap low_first low in
    let back : u ≡ 2 ^ 63 - 1 =
    sym (xor_zero_r u) ∙ sym (ap (bit_xor u) (xor_self (2 ^ 63 - 1))) ∙ sym (xor_assoc u (2 ^ 63 - 1) (2 ^ 63 - 1)) ∙ ap (λ n. bit_xor n (2 ^ 63 - 1)) none ∙ xor_zero_l (2 ^ 63 - 1) in
    omega (arith, ints, fits, back)

-- zeros that pass as a header are that one
zero_is : (sum : List ℕ → ℕ) (lsn mark : ℤ) → IsHeader sum (replicate 20 0) lsn mark → replicate 20 0 ≡ short_header sum greatest greatest
unfolding header_places short_header
zero_is sum lsn mark h =
    let tail : drop 4 (replicate 20 0) ≡ header_places lsn mark = ap (drop 4) h.is in
    let at : lsn ≡ greatest = zero_place lsn h.place_fits (ap (take 8) (sym tail)) in
    let with : mark ≡ greatest = zero_place mark h.mark_fits (ap (drop 8) (sym tail)) in
    h.is ∙ (λ i. short_header sum (at i) (with i))

pub zeros_or_not : (sum : List ℕ → ℕ) → NoHeaderOfZeros sum ⊎ (NoHeaderOfZeros sum → ⊥)
zeros_or_not sum = by _ (bytes_eq-Decides (replicate 20 0) (short_header sum greatest greatest)) refl where
  by : (r : Bool) → Decides r (replicate 20 0 ≡ short_header sum greatest greatest) → {t : Bool} → r ≡ t → NoHeaderOfZeros sum ⊎ (NoHeaderOfZeros sum → ⊥)
  by true d same = inr (λ none. none greatest greatest (record { is = d.0 refl; place_fits = omega arith; mark_fits = omega arith }))
  by false d same = inl (λ lsn mark h. let never : false ≡ true = d.1 (zero_is sum lsn mark h) in cc)
