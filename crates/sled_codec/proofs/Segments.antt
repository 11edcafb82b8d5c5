-- The header of a segment: its places come back from their bytes, and its sum is told apart from every other.
use Rattle.std.proofs.Common.{◌≡◌, ◌∙◌, sym, ap, ℕ, ◌-◌, ◌^◌, ◌<◌, List, ◌++◌, length, get_or, take, drop, refl, arith, ℤ, FitsSigned, lit<, take-append-drop, length-drop, bit_xor}
use Rattle.std.specs.Int.{w64, cast_signed, cast_unsigned, from_le_bytes}
use Rattle.std.specs.Int.Bits.{xor_assoc, xor_self, xor_zero_r}
use Rattle.std.proofs.lemmas.Int.{of_z-to_z, to_z-of_z}
use Rattle.std.proofs.lemmas.Nat.{xor_lt, le_bytes_8}
use Rattle.std.proofs.lemmas.List.{drop-drop, take_all}
use Rattle.sled_codec.specs.Spelling.{low_bytes, low_first}
use Rattle.sled_codec.specs.SpellingLaws.{low_first-low_bytes, unsigned_small}
use Rattle.sled_codec.specs.Record.{IsHeader, header_places, masked, short_header}
use Rattle.sled_codec.specs.Sums.{flipped}

-- a place that was masked twice
pub masked-unmasked : (n : ℕ) → n < 2 ^ 64 → masked (cast_signed w64 (bit_xor n (2 ^ 63 - 1))) ≡ n
masked-unmasked n small =
    ap (λ k. bit_xor k (2 ^ 63 - 1)) (of_z-to_z w64 (bit_xor n (2 ^ 63 - 1)) (xor_lt 64 n (2 ^ 63 - 1) small (lit< tt)))
    ∙ xor_assoc n (2 ^ 63 - 1) (2 ^ 63 - 1)
    ∙ ap (bit_xor n) (xor_self (2 ^ 63 - 1))
    ∙ xor_zero_r n

pub bytes_of_place : (bytes : List ℕ) (n : ℕ) (z : ℤ) → length bytes ≡ 8 → ((i : ℕ) → get_or bytes i 0 < 256) → n ≡ from_le_bytes w64 bytes → n < 2 ^ 64 → z ≡ cast_signed w64 (bit_xor n (2 ^ 63 - 1)) → low_bytes 8 (masked z) ≡ bytes
bytes_of_place bytes n z long each is small place =
    ap (λ (p : ℤ). low_bytes 8 (masked p)) place ∙ ap (low_bytes 8) (masked-unmasked n small) ∙ le_bytes_8 bytes n long each is

-- the places stand behind the sum
pub places_of : (bytes : List ℕ) (lsn mark : ℤ) → length bytes ≡ 20 → low_bytes 8 (masked lsn) ≡ take 8 (drop 4 bytes) → low_bytes 8 (masked mark) ≡ take 8 (drop 12 bytes) → drop 4 bytes ≡ header_places lsn mark
unfolding header_places
places_of bytes lsn mark long is_lsn is_mark =
    sym (take-append-drop 8 (drop 4 bytes))
    ∙ ap (λ (l : List ℕ). take 8 (drop 4 bytes) ++ l) (drop-drop 8 4 bytes ∙ sym (take_all 8 (drop 12 bytes) (omega (arith, length-drop 12 bytes))))
    ∙ ap (λ (l : List ℕ). l ++ take 8 (drop 12 bytes)) (sym is_lsn)
    ∙ ap (λ (l : List ℕ). low_bytes 8 (masked lsn) ++ l) (sym is_mark)

-- the sum fits where the bytes are a header

module _ (sum : List ℕ → ℕ) (bytes : List ℕ) (s r : ℕ) (lsn mark : ℤ) (places : drop 4 bytes ≡ header_places lsn mark) (is_s : s ≡ flipped (sum (drop 4 bytes))) (is_r : low_bytes 4 r ≡ take 4 bytes) where
  value : s ≡ flipped (sum (header_places lsn mark))
  value = is_s ∙ ap (λ (l : List ℕ). flipped (sum l)) places

  pub header_by_sum : FitsSigned w64 lsn → FitsSigned w64 mark → s ≡ r → IsHeader sum bytes lsn mark
  unfolding short_header
  header_by_sum lsn_fits mark_fits same = record {
    is = sym (take-append-drop 4 bytes) ∙ ap (λ (l : List ℕ). l ++ drop 4 bytes) (sym is_r ∙ ap (low_bytes 4) (sym same ∙ value)) ∙ ap (λ (l : List ℕ). low_bytes 4 (flipped (sum (header_places lsn mark))) ++ l) places;
    place_fits = lsn_fits;
    mark_fits = mark_fits;
  }

  pub sum_by_header : r < 2 ^ 32 → IsHeader sum bytes lsn mark → s ≡ r
  unfolding short_header
  sum_by_header small h =
      let f : ℕ = flipped (sum (header_places lsn mark)) in
      let front : low_bytes 4 r ≡ low_bytes 4 f = is_r ∙ ap (take 4) h.is in
      value ∙ sym (low_first-low_bytes 4 f (omega arith) (omega arith)) ∙ ap low_first (sym front) ∙ low_first-low_bytes 4 r (omega arith) small

-- the header that is written is as long as the one that is read
pub length-short_header : (sum : List ℕ → ℕ) (lsn mark : ℤ) → length (short_header sum lsn mark) ≡ 20
unfolding short_header header_places
length-short_header sum lsn mark = refl

-- a masked place is masked back
unmasked : (z : ℤ) → FitsSigned w64 z → cast_signed w64 (bit_xor (masked z) (2 ^ 63 - 1)) ≡ z
unmasked z fits =
    ap (cast_signed w64) (xor_assoc (cast_unsigned w64 z) (2 ^ 63 - 1) (2 ^ 63 - 1) ∙ ap (bit_xor (cast_unsigned w64 z)) (xor_self (2 ^ 63 - 1)) ∙ xor_zero_r (cast_unsigned w64 z))
    ∙ to_z-of_z w64 z fits

masked_small : (z : ℤ) → FitsSigned w64 z → masked z < 2 ^ 64
masked_small z fits = xor_lt 64 (cast_unsigned w64 z) (2 ^ 63 - 1) (unsigned_small z fits) (lit< tt)

one_masked : (x y : ℤ) → FitsSigned w64 x → FitsSigned w64 y → low_bytes 8 (masked x) ≡ low_bytes 8 (masked y) → x ≡ y
one_masked x y fits_x fits_y is =
    let same : masked x ≡ masked y = sym (low_first-low_bytes 8 (masked x) (omega arith) (masked_small x fits_x)) ∙ ap low_first is ∙ low_first-low_bytes 8 (masked y) (omega arith) (masked_small y fits_y) in
    sym (unmasked x fits_x) ∙ ap (λ n. cast_signed w64 (bit_xor n (2 ^ 63 - 1))) same ∙ unmasked y fits_y

one_places : (lsn mark lsn' mark' : ℤ) → FitsSigned w64 lsn → FitsSigned w64 mark → FitsSigned w64 lsn' → FitsSigned w64 mark' → header_places lsn mark ≡ header_places lsn' mark' → (lsn ≡ lsn') × (mark ≡ mark')
unfolding header_places
one_places lsn mark lsn' mark' fits_lsn fits_mark fits_lsn' fits_mark' is =
    (one_masked lsn lsn' fits_lsn fits_lsn' (ap (take 8) is), one_masked mark mark' fits_mark fits_mark' (ap (drop 8) is))

header_tail : (sum : List ℕ → ℕ) (bytes : List ℕ) (lsn mark : ℤ) → IsHeader sum bytes lsn mark → drop 4 bytes ≡ header_places lsn mark
unfolding short_header
header_tail sum bytes lsn mark h = ap (drop 4) h.is

-- bytes are the header of one place and one mark at most
pub one_header : (sum : List ℕ → ℕ) (bytes : List ℕ) (lsn mark lsn' mark' : ℤ) → IsHeader sum bytes lsn mark → IsHeader sum bytes lsn' mark' → (lsn ≡ lsn') × (mark ≡ mark')
one_header sum bytes lsn mark lsn' mark' a b =
    one_places lsn mark lsn' mark' a.place_fits a.mark_fits b.place_fits b.mark_fits (sym (header_tail sum bytes lsn mark a) ∙ header_tail sum bytes lsn' mark' b)

-- the places that are read off bytes are those of the header that they are
pub header_is : (sum : List ℕ → ℕ) (bytes : List ℕ) (lsn mark lsn' mark' : ℤ) → IsHeader sum bytes lsn mark → FitsSigned w64 lsn' → FitsSigned w64 mark' → drop 4 bytes ≡ header_places lsn' mark' → (lsn ≡ lsn') × (mark ≡ mark')
header_is sum bytes lsn mark lsn' mark' h fits_lsn' fits_mark' places =
    one_places lsn mark lsn' mark' h.place_fits h.mark_fits fits_lsn' fits_mark' (sym (header_tail sum bytes lsn mark h) ∙ places)
