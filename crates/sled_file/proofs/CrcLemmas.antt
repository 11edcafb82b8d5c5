-- The check by tables is the one bit by bit: shifting out is linear, and a byte that is shifted out leaves its entry of a table.
use Rattle.std.proofs.Common.{◌≡◌, ◌∙◌, ◌<◌, ◌≤◌, ◌+◌, ◌-◌, ◌*◌, ◌/◌, ◌%◌, ◌^◌, ◌==◌, ap, sym, refl, arith, ℕ, zero, suc, if◌then◌else◌, List, [], ◌∷◌, length, get_or, take, drop, bit_xor, w64}
use Rattle.std.proofs.lemmas.Nat.{xor_comm, xor_shr, xor_mod, shr_split, shr-shr}
use Rattle.std.proofs.lemmas.List.{take_all}
use Rattle.std.specs.Int.{from_le_bytes}
use Rattle.std.specs.Int.Bits.{xor_assoc, xor_self, xor_zero_r, xor_shifted}
use Rattle.sled_file.specs.Crc.{one_out, shifted_out, with_byte, crc_from}

abbrev polynomial : ℕ
polynomial = 0xedb88320

-- what is left of a half, by the bit that went out
abbrev out : ℕ → ℕ → ℕ
out half bit = if bit == 1 then bit_xor half polynomial else half

twice : (h k p : ℕ) → bit_xor h k ≡ bit_xor (bit_xor h p) (bit_xor k p)
twice h k p =
    let gone : bit_xor p (bit_xor k p) ≡ k = ap (bit_xor p) (xor_comm k p) ∙ sym (xor_assoc p p k) ∙ ap (λ (n : ℕ). bit_xor n k) (xor_self p) in
    sym (xor_assoc h p (bit_xor k p) ∙ ap (bit_xor h) gone)

left : (h k p : ℕ) → bit_xor (bit_xor h k) p ≡ bit_xor (bit_xor h p) k
left h k p = xor_assoc h k p ∙ ap (bit_xor h) (xor_comm k p) ∙ sym (xor_assoc h p k)

out-xor : (h k p q : ℕ) → p < 2 → q < 2 → out (bit_xor h k) (bit_xor p q) ≡ bit_xor (out h p) (out k q)
out-xor h k zero zero _ _ = refl
out-xor h k zero (suc zero) _ _ = xor_assoc h k polynomial
out-xor h k (suc zero) zero _ _ = left h k polynomial
out-xor h k (suc zero) (suc zero) _ _ = twice h k polynomial
out-xor h k zero (suc (suc q)) _ low = absurd (omega arith)
out-xor h k (suc zero) (suc (suc q)) _ low = absurd (omega arith)
out-xor h k (suc (suc p)) q low _ = absurd (omega arith)

one_out-xor : (a b : ℕ) → one_out (bit_xor a b) ≡ bit_xor (one_out a) (one_out b)
unfolding one_out
one_out-xor a b =
    let half : bit_xor a b / 2 ≡ bit_xor (a / 2) (b / 2) = xor_shr a b 1 in
    let bit : bit_xor a b % 2 ≡ bit_xor (a % 2) (b % 2) = xor_mod a b 1 in
    ap (λ (h : ℕ). out h (bit_xor a b % 2)) half ∙ ap (out (bit_xor (a / 2) (b / 2))) bit ∙ out-xor (a / 2) (b / 2) (a % 2) (b % 2) (omega arith) (omega arith)

pub shifted_out-xor : (n a b : ℕ) → shifted_out n (bit_xor a b) ≡ bit_xor (shifted_out n a) (shifted_out n b)
unfolding shifted_out
shifted_out-xor zero a b = refl
shifted_out-xor (suc n) a b = ap (shifted_out n) (one_out-xor a b) ∙ shifted_out-xor n (one_out a) (one_out b)

halved : (h x : ℕ) → x ≡ h * 2 → one_out x ≡ h
unfolding one_out
halved h x is =
    let even : x % 2 ≡ 0 = omega arith in
    let half : x / 2 ≡ h = omega arith in
    ap (out (x / 2)) even ∙ half

-- eight bits that are 0
zeros_out : (a : ℕ) → shifted_out 8 (a * 256) ≡ a
unfolding shifted_out
zeros_out a =
    ap (shifted_out 7) (halved (a * 128) (a * 256) (omega arith))
    ∙ ap (shifted_out 6) (halved (a * 64) (a * 128) (omega arith))
    ∙ ap (shifted_out 5) (halved (a * 32) (a * 64) (omega arith))
    ∙ ap (shifted_out 4) (halved (a * 16) (a * 32) (omega arith))
    ∙ ap (shifted_out 3) (halved (a * 8) (a * 16) (omega arith))
    ∙ ap (shifted_out 2) (halved (a * 4) (a * 8) (omega arith))
    ∙ ap (shifted_out 1) (halved (a * 2) (a * 4) (omega arith))
    ∙ halved a (a * 2) refl

-- A byte that is shifted out leaves what it leaves alone, and all that was above it.
pub byte_out : (x : ℕ) → shifted_out 8 x ≡ bit_xor (shifted_out 8 (x % 256)) (x / 256)
byte_out x =
    let low : x % 256 < 2 ^ 8 = omega arith in
    let parts : bit_xor (x / 256 * 256) (x % 256) ≡ x = xor_shifted (x / 256) 8 (x % 256) low ∙ shr_split x 8 in
    ap (shifted_out 8) (sym parts) ∙ shifted_out-xor 8 (x / 256 * 256) (x % 256) ∙ ap (λ (n : ℕ). bit_xor n (shifted_out 8 (x % 256))) (zeros_out (x / 256))
    ∙ xor_comm (x / 256) (shifted_out 8 (x % 256))

-- the same with further bits behind it
byte_of : (n x : ℕ) → shifted_out n (shifted_out 8 x) ≡ bit_xor (shifted_out n (shifted_out 8 (x % 256))) (shifted_out n (x / 256))
byte_of n x = ap (shifted_out n) (byte_out x) ∙ shifted_out-xor n (shifted_out 8 (x % 256)) (x / 256)

abbrev Byte : ℕ → ℕ → ℕ → Type 0
Byte n rest x = shifted_out n x ≡ bit_xor (shifted_out n (x % 256)) (shifted_out rest (x / 256))

first_64 : (x : ℕ) → Byte 64 56 x
unfolding shifted_out
first_64 x = byte_of 56 x

first_56 : (x : ℕ) → Byte 56 48 x
unfolding shifted_out
first_56 x = byte_of 48 x

first_48 : (x : ℕ) → Byte 48 40 x
unfolding shifted_out
first_48 x = byte_of 40 x

first_40 : (x : ℕ) → Byte 40 32 x
unfolding shifted_out
first_40 x = byte_of 32 x

first_32 : (x : ℕ) → Byte 32 24 x
unfolding shifted_out
first_32 x = byte_of 24 x

first_24 : (x : ℕ) → Byte 24 16 x
unfolding shifted_out
first_24 x = byte_of 16 x

first_16 : (x : ℕ) → Byte 16 8 x
unfolding shifted_out
first_16 x = byte_of 8 x

to_left : (a b c d e f g h : ℕ) → bit_xor a (bit_xor b (bit_xor c (bit_xor d (bit_xor e (bit_xor f (bit_xor g h))))))
    ≡ bit_xor (bit_xor (bit_xor (bit_xor (bit_xor (bit_xor (bit_xor a b) c) d) e) f) g) h
to_left a b c d e f g h =
    sym (xor_assoc a b (bit_xor c (bit_xor d (bit_xor e (bit_xor f (bit_xor g h))))))
    ∙ sym (xor_assoc (bit_xor a b) c (bit_xor d (bit_xor e (bit_xor f (bit_xor g h)))))
    ∙ sym (xor_assoc (bit_xor (bit_xor a b) c) d (bit_xor e (bit_xor f (bit_xor g h))))
    ∙ sym (xor_assoc (bit_xor (bit_xor (bit_xor a b) c) d) e (bit_xor f (bit_xor g h)))
    ∙ sym (xor_assoc (bit_xor (bit_xor (bit_xor (bit_xor a b) c) d) e) f (bit_xor g h))
    ∙ sym (xor_assoc (bit_xor (bit_xor (bit_xor (bit_xor (bit_xor a b) c) d) e) f) g h)

last_8 : (w : ℕ) → w < 256 → shifted_out 8 w ≡ shifted_out 8 (w % 256)
last_8 w low = let whole : w ≡ w % 256 = omega arith in ap (shifted_out 8) whole

-- what eight bytes leave together
pub eight_out : (x : ℕ) → x < 2 ^ 64 → shifted_out 64 x
    ≡ bit_xor (bit_xor (bit_xor (bit_xor (bit_xor (bit_xor (bit_xor (shifted_out 64 (x % 256)) (shifted_out 56 (x / 2 ^ 8 % 256))) (shifted_out 48 (x / 2 ^ 16 % 256))) (shifted_out 40 (x / 2 ^ 24 % 256)))
    (shifted_out 32 (x / 2 ^ 32 % 256))) (shifted_out 24 (x / 2 ^ 40 % 256))) (shifted_out 16 (x / 2 ^ 48 % 256))) (shifted_out 8 (x / 2 ^ 56 % 256))
eight_out x fits =
    let low : x / 2 ^ 56 < 256 = omega arith in
    first_64 x
    ∙ ap (bit_xor (shifted_out 64 (x % 256))) (first_56 (x / 2 ^ 8)
    ∙ ap (bit_xor (shifted_out 56 (x / 2 ^ 8 % 256))) (ap (shifted_out 48) (shr-shr x 8 8) ∙ first_48 (x / 2 ^ 16)
    ∙ ap (bit_xor (shifted_out 48 (x / 2 ^ 16 % 256))) (ap (shifted_out 40) (shr-shr x 16 8) ∙ first_40 (x / 2 ^ 24)
    ∙ ap (bit_xor (shifted_out 40 (x / 2 ^ 24 % 256))) (ap (shifted_out 32) (shr-shr x 24 8) ∙ first_32 (x / 2 ^ 32)
    ∙ ap (bit_xor (shifted_out 32 (x / 2 ^ 32 % 256))) (ap (shifted_out 24) (shr-shr x 32 8) ∙ first_24 (x / 2 ^ 40)
    ∙ ap (bit_xor (shifted_out 24 (x / 2 ^ 40 % 256))) (ap (shifted_out 16) (shr-shr x 40 8) ∙ first_16 (x / 2 ^ 48)
    ∙ ap (bit_xor (shifted_out 16 (x / 2 ^ 48 % 256))) (ap (shifted_out 8) (shr-shr x 48 8) ∙ last_8 (x / 2 ^ 56) low)))))))
    ∙ to_left (shifted_out 64 (x % 256)) (shifted_out 56 (x / 2 ^ 8 % 256)) (shifted_out 48 (x / 2 ^ 16 % 256)) (shifted_out 40 (x / 2 ^ 24 % 256))
    (shifted_out 32 (x / 2 ^ 32 % 256)) (shifted_out 24 (x / 2 ^ 40 % 256)) (shifted_out 16 (x / 2 ^ 48 % 256)) (shifted_out 8 (x / 2 ^ 56 % 256))

-- Bytes that come in one by one are their number that comes in at once.

-- the lowest byte first
abbrev number_of : List ℕ → ℕ
number_of [] = 0
number_of (b ∷ bytes) = b + number_of bytes * 256

abbrev out_by : List ℕ → ℕ → ℕ
out_by [] x = x
out_by (b ∷ bytes) x = out_by bytes (shifted_out 8 x)

abbrev AreBytes : List ℕ → Type 0
AreBytes [] = Unit {0}
AreBytes (b ∷ bytes) = (b < 256) × AreBytes bytes

byte_in : (s b n : ℕ) → b < 256 → shifted_out 8 (bit_xor s (b + n * 256)) ≡ bit_xor (shifted_out 8 (bit_xor s b)) n
byte_in s b n low =
    let whole : b + n * 256 ≡ bit_xor (n * 256) b = omega (arith, xor_shifted n 8 b low) in
    ap (λ (k : ℕ). shifted_out 8 (bit_xor s k)) (whole ∙ xor_comm (n * 256) b)
    ∙ ap (shifted_out 8) (sym (xor_assoc s b (n * 256)))
    ∙ shifted_out-xor 8 (bit_xor s b) (n * 256)
    ∙ ap (bit_xor (shifted_out 8 (bit_xor s b))) (zeros_out n)

crc_from-number : (s : ℕ) (bytes : List ℕ) → AreBytes bytes → crc_from s bytes ≡ out_by bytes (bit_xor s (number_of bytes))
unfolding with_byte
crc_from-number s [] are = sym (xor_zero_r s)
crc_from-number s (b ∷ bytes) are = crc_from-number (shifted_out 8 (bit_xor s b)) bytes are.1 ∙ ap (out_by bytes) (sym (byte_in s b (number_of bytes) are.0))

crc_from-eight : (s a b c d e f g h n : ℕ) → a < 256 → b < 256 → c < 256 → d < 256 → e < 256 → f < 256 → g < 256 → h < 256
    → n ≡ a + b * 256 ^ 1 + c * 256 ^ 2 + d * 256 ^ 3 + e * 256 ^ 4 + f * 256 ^ 5 + g * 256 ^ 6 + h * 256 ^ 7
    → shifted_out 64 (bit_xor s n) ≡ crc_from s (a ∷ b ∷ c ∷ d ∷ e ∷ f ∷ g ∷ h ∷ [])
unfolding shifted_out
crc_from-eight s a b c d e f g h n la lb lc ld le lf lg lh is =
    let bytes : List ℕ = a ∷ b ∷ c ∷ d ∷ e ∷ f ∷ g ∷ h ∷ [] in
    let number : n ≡ number_of bytes = omega (arith, is) in
    ap (λ (k : ℕ). shifted_out 64 (bit_xor s k)) number ∙ sym (crc_from-number s bytes (la, (lb, (lc, (ld, (le, (lf, (lg, (lh, tt)))))))))

-- eight bytes that come in at once
pub eight_in : (t s n : ℕ) (bytes : List ℕ) → length bytes ≡ 8 → ((i : ℕ) → get_or bytes i 0 < 256) → n ≡ from_le_bytes w64 bytes
    → t ≡ shifted_out 64 (bit_xor s n) → t ≡ crc_from s bytes
eight_in t s n [] long fit is leaves = absurd (omega (arith, long))
eight_in t s n (a ∷ []) long fit is leaves = absurd (omega (arith, long))
eight_in t s n (a ∷ b ∷ []) long fit is leaves = absurd (omega (arith, long))
eight_in t s n (a ∷ b ∷ c ∷ []) long fit is leaves = absurd (omega (arith, long))
eight_in t s n (a ∷ b ∷ c ∷ d ∷ []) long fit is leaves = absurd (omega (arith, long))
eight_in t s n (a ∷ b ∷ c ∷ d ∷ e ∷ []) long fit is leaves = absurd (omega (arith, long))
eight_in t s n (a ∷ b ∷ c ∷ d ∷ e ∷ f ∷ []) long fit is leaves = absurd (omega (arith, long))
eight_in t s n (a ∷ b ∷ c ∷ d ∷ e ∷ f ∷ g ∷ []) long fit is leaves = absurd (omega (arith, long))
eight_in t s n (a ∷ b ∷ c ∷ d ∷ e ∷ f ∷ g ∷ h ∷ []) long fit is leaves =
    leaves ∙ crc_from-eight s a b c d e f g h n (fit 0) (fit 1) (fit 2) (fit 3) (fit 4) (fit 5) (fit 6) (fit 7) is
eight_in t s n (a ∷ b ∷ c ∷ d ∷ e ∷ f ∷ g ∷ h ∷ i ∷ bytes) long fit is leaves = absurd (omega (arith, long))

-- the first eight bytes, and then those behind them
pub eight_first : (t s : ℕ) (bytes : List ℕ) (m : ℕ) → 8 ≤ length bytes → length bytes - 8 ≤ m
    → t ≡ crc_from s (get_or bytes 0 0 ∷ get_or bytes 1 0 ∷ get_or bytes 2 0 ∷ get_or bytes 3 0 ∷ get_or bytes 4 0 ∷ get_or bytes 5 0 ∷ get_or bytes 6 0 ∷ get_or bytes 7 0 ∷ [])
    → crc_from t (take m (drop 8 bytes)) ≡ crc_from s bytes
eight_first t s [] m long behind is = absurd (omega (arith, long))
eight_first t s (a ∷ []) m long behind is = absurd (omega (arith, long))
eight_first t s (a ∷ b ∷ []) m long behind is = absurd (omega (arith, long))
eight_first t s (a ∷ b ∷ c ∷ []) m long behind is = absurd (omega (arith, long))
eight_first t s (a ∷ b ∷ c ∷ d ∷ []) m long behind is = absurd (omega (arith, long))
eight_first t s (a ∷ b ∷ c ∷ d ∷ e ∷ []) m long behind is = absurd (omega (arith, long))
eight_first t s (a ∷ b ∷ c ∷ d ∷ e ∷ f ∷ []) m long behind is = absurd (omega (arith, long))
eight_first t s (a ∷ b ∷ c ∷ d ∷ e ∷ f ∷ g ∷ []) m long behind is = absurd (omega (arith, long))
eight_first t s (a ∷ b ∷ c ∷ d ∷ e ∷ f ∷ g ∷ h ∷ bytes) m long behind is =
    let few : length bytes ≤ m = omega (arith, behind) in
    ap (crc_from t) (take_all m bytes few) ∙ ap (λ (k : ℕ). crc_from k bytes) is
