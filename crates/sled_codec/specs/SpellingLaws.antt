-- The laws that the codecs owe: what is written is a spelling, a spelling stands for one value, and none is a proper beginning of another.
use Rattle.std.specs.Prelude.{◌≡◌, ◌+◌, ◌-◌, ◌/◌, ◌%◌, ◌^◌, ◌<◌, ◌≤◌, ℕ, ℤ, zero, suc, List, [], ◌∷◌, ◌++◌, length, take, FitsSigned, refl}
use Rattle.std.specs.Int.{w64, to_le_bytes, cast_unsigned, cast_signed}
use Rattle.std.proofs.Common.{sym, ◌∙◌, ap, arith, append_assoc, length-append, length-take, ◌⊎◌, inl, inr}
use Rattle.std.proofs.lemmas.List.{take_at, append_cancel_left}
use Rattle.std.proofs.lemmas.Bool.{cases_lt}
use Rattle.std.proofs.lemmas.Int.{ints, to_z-of_z}
use Rattle.std.proofs.lemmas.Bool.Decides.{nat_tests}
use Rattle.sled_codec.specs.Spelling.{low_bytes, low_first, SpellsFixed, SpellsByte, SpellsSigned, short_signed, more_bytes, number_of, SpellsNumber}
use Rattle.sled_codec.specs.Spelling.{byte_count, short_number, SpellsBytes, short_bytes}

-- Fronts.

-- two fronts of one text that are equally long are the same
pub same_fronts : (a b x y : List ℕ) → length a ≡ length b → a ++ x ≡ b ++ y → a ≡ b
same_fronts a b x y long is =
    sym (take_at a x (length a) refl) ∙ ap (take (length a)) is ∙ take_at b y (length a) (sym long)

-- and what follows equal fronts is the same
pub same_rests : (a b x y : List ℕ) → a ≡ b → a ++ x ≡ b ++ y → x ≡ y
same_rests a b x y same is = append_cancel_left a x y (is ∙ ap (λ (l : List ℕ). l ++ y) (sym same))

-- Fixed numbers.

-- bytes that hold a number stand for it
pub low_first-low_bytes : (n v : ℕ) → n ≤ 8 → v < 256 ^ n → low_first (low_bytes n v) ≡ v
low_first-low_bytes zero v most small = omega arith
low_first-low_bytes (suc zero) v most small = omega arith
low_first-low_bytes (suc (suc zero)) v most small = omega arith
low_first-low_bytes (suc (suc (suc zero))) v most small = omega arith
low_first-low_bytes (suc (suc (suc (suc zero)))) v most small = omega arith
low_first-low_bytes (suc (suc (suc (suc (suc zero))))) v most small = omega arith
low_first-low_bytes (suc (suc (suc (suc (suc (suc zero)))))) v most small = omega arith
low_first-low_bytes (suc (suc (suc (suc (suc (suc (suc zero))))))) v most small = omega arith
low_first-low_bytes (suc (suc (suc (suc (suc (suc (suc (suc zero)))))))) v most small = omega arith
low_first-low_bytes (suc (suc (suc (suc (suc (suc (suc (suc (suc k))))))))) v most small = absurd (omega arith)

pub length-low_bytes : (n v : ℕ) → n ≤ 8 → length (low_bytes n v) ≡ n
length-low_bytes n v most = omega (arith, length-take n (to_le_bytes w64 v))

pub short_spells-fixed : (n v : ℕ) → n ≤ 8 → v < 256 ^ n → SpellsFixed n (low_bytes n v) v
short_spells-fixed n v most small = record {
  long = length-low_bytes n v most;
  value = sym (low_first-low_bytes n v most small);
  small = small;
}

pub one_value-fixed : (n : ℕ) (text : List ℕ) (v w : ℕ) → SpellsFixed n text v → SpellsFixed n text w → v ≡ w
one_value-fixed n text v w p q = p.value ∙ sym q.value

pub no_front-fixed : (n : ℕ) (a b x y : List ℕ) (v w : ℕ) → SpellsFixed n a v → SpellsFixed n b w → a ++ x ≡ b ++ y → a ≡ b
no_front-fixed n a b x y v w p q is = same_fronts a b x y (p.long ∙ sym q.long) is

-- eight bytes of a signed number

pub unsigned_small : (z : ℤ) → FitsSigned w64 z → cast_unsigned w64 z < 256 ^ 8
unsigned_small z fits = omega (arith, ints)

pub short_spells-signed : (z : ℤ) → FitsSigned w64 z → SpellsSigned (short_signed z) z
short_spells-signed z fits = record {
  unsigned = short_spells-fixed 8 (cast_unsigned w64 z) (omega arith) (unsigned_small z fits);
  in_range = fits;
}

pub one_value-signed : (text : List ℕ) (v w : ℤ) → SpellsSigned text v → SpellsSigned text w → v ≡ w
one_value-signed text v w p q =
    sym (to_z-of_z w64 v p.in_range)
    ∙ ap (cast_signed w64) (one_value-fixed 8 text _ _ p.unsigned q.unsigned)
    ∙ to_z-of_z w64 w q.in_range

pub no_front-signed : (a b x y : List ℕ) (v w : ℤ) → SpellsSigned a v → SpellsSigned b w → a ++ x ≡ b ++ y → a ≡ b
no_front-signed a b x y v w p q is = no_front-fixed 8 a b x y _ _ p.unsigned q.unsigned is

-- one byte
pub short_spells-byte : (v : ℕ) → v < 2 ^ 8 → SpellsByte (v ∷ []) v
short_spells-byte v small = record { is = refl; small = small }

pub one_value-byte : (text : List ℕ) (v w : ℕ) → SpellsByte text v → SpellsByte text w → v ≡ w
one_value-byte text v w p q = let both : (v ∷ []) ≡ (w ∷ []) = sym p.is ∙ q.is in cc

pub no_front-byte : (a b x y : List ℕ) (v w : ℕ) → SpellsByte a v → SpellsByte b w → a ++ x ≡ b ++ y → a ≡ b
no_front-byte a b x y v w p q is = same_fronts a b x y (ap length p.is ∙ sym (ap length q.is)) is

-- Numbers of one to nine bytes.

-- the written form, case by case

pub short_one : (v : ℕ) → v ≤ 240 → short_number v ≡ v ∷ []
unfolding short_number
short_one v most = grind (arith, nat_tests)

pub short_two : (v : ℕ) → 240 < v → v ≤ 2287 → short_number v ≡ ((v - 240) / 256 + 241) ∷ (v - 240) % 256 ∷ []
unfolding short_number
short_two v least most = grind (arith, nat_tests)

pub short_three : (v : ℕ) → 2287 < v → v ≤ 67823 → short_number v ≡ 249 ∷ (v - 2288) / 256 ∷ (v - 2288) % 256 ∷ []
unfolding short_number
short_three v least most = grind (arith, nat_tests)

pub short_many : (v : ℕ) → 67823 < v → short_number v ≡ (byte_count v + 247) ∷ low_bytes (byte_count v) v
unfolding short_number
short_many v least = grind (arith, nat_tests)

pub ruleset short_cases = (short_one, short_two, short_three, short_many, length-low_bytes)

-- what a lead byte and the bytes behind it spell
pub spells_lead : (lead : ℕ) (more : List ℕ) (v : ℕ) → length more ≡ more_bytes lead → v ≡ number_of lead more → v < 2 ^ 64 → lead < 2 ^ 8
    → SpellsNumber (lead ∷ more) v
unfolding SpellsNumber
spells_lead lead more v long value small byte = (long, value, small, byte)

-- how many bytes hold a number
pub record Holds (v n : ℕ) : Type 0 where
  pub least : 3 ≤ n
  pub most : n ≤ 8
  pub small : v < 256 ^ n

pub Holds-byte_count : (v : ℕ) → v < 2 ^ 64 → Holds v (byte_count v)
Holds-byte_count v small = record {
  least = grind (arith, nat_tests);
  most = grind (arith, nat_tests);
  small = grind (arith, nat_tests);
}

many_more : (n k : ℕ) → k ≡ n → 3 ≤ n → k ≡ more_bytes (n + 247)
many_more n k long least = grind (arith, nat_tests)

many_value : (n : ℕ) (more : List ℕ) (v : ℕ) → low_first more ≡ v → 3 ≤ n → v ≡ number_of (n + 247) more
many_value n more v is least = sym is ∙ grind (arith, nat_tests)

-- that many bytes behind their lead spell it
spells_many : (v n : ℕ) → Holds v n → v < 2 ^ 64 → SpellsNumber ((n + 247) ∷ low_bytes n v) v
spells_many v n holds small =
    let long : length (low_bytes n v) ≡ n = length-low_bytes n v holds.most in
    let least : 3 ≤ n = holds.least in
    let is : low_first (low_bytes n v) ≡ v = low_first-low_bytes n v holds.most holds.small in
    let most : n ≤ 8 = holds.most in
    spells_lead (n + 247) (low_bytes n v) v (many_more n (length (low_bytes n v)) long least) (many_value n (low_bytes n v) v is least) small (omega arith)

-- a number of four bytes
pub short_spells-four : (v : ℕ) → v < 2 ^ 32 → SpellsFixed 4 (low_bytes 4 v) v
short_spells-four v small = short_spells-fixed 4 v (omega arith) small

-- one or two bytes behind their lead

spells_one : (v : ℕ) → v ≤ 240 → SpellsNumber (v ∷ []) v
spells_one v most = spells_lead v [] v (grind (arith, nat_tests)) (grind (arith, nat_tests)) (omega arith) (omega arith)

spells_two : (v q r : ℕ) → 240 < v → v ≤ 2287 → q ≡ (v - 240) / 256 → r ≡ (v - 240) % 256 → SpellsNumber ((q + 241) ∷ r ∷ []) v
spells_two v q r least most high low =
    let lead : q ≤ 7 = omega arith in
    spells_lead (q + 241) (r ∷ []) v (grind (arith, nat_tests)) (grind (arith, nat_tests)) (omega arith) (omega arith)

spells_three : (v q r : ℕ) → 2287 < v → v ≤ 67823 → q ≡ (v - 2288) / 256 → r ≡ (v - 2288) % 256 → SpellsNumber (249 ∷ q ∷ r ∷ []) v
spells_three v q r least most high low = spells_lead 249 (q ∷ r ∷ []) v refl (omega arith) (omega arith) (omega arith)

short_by_cases : (v : ℕ) → v < 2 ^ 64 → (240 < v) ⊎ (v ≤ 240) → (2287 < v) ⊎ (v ≤ 2287) → (67823 < v) ⊎ (v ≤ 67823) → SpellsNumber (short_number v) v
short_by_cases v small (inr most) y z = rw (short_one v most) (spells_one v most)
short_by_cases v small (inl least) (inr most) z = rw (short_two v least most) (spells_two v _ _ least most refl refl)
short_by_cases v small (inl _) (inl least) (inr most) = rw (short_three v least most) (spells_three v _ _ least most refl refl)
short_by_cases v small (inl _) (inl _) (inl least) =
    rw (short_many v least) (spells_many v (byte_count v) (Holds-byte_count v small) small)

pub short_spells-number : (v : ℕ) → v < 2 ^ 64 → SpellsNumber (short_number v) v
short_spells-number v small = short_by_cases v small (cases_lt 240 v) (cases_lt 2287 v) (cases_lt 67823 v)

-- one byte at least and nine at most
length_by_cases : (v : ℕ) → v < 2 ^ 64 → (240 < v) ⊎ (v ≤ 240) → (2287 < v) ⊎ (v ≤ 2287) → (67823 < v) ⊎ (v ≤ 67823)
    → (1 ≤ length (short_number v)) × (length (short_number v) ≤ 9)
length_by_cases v small (inr most) y z = rw (short_one v most) (omega arith, omega arith)
length_by_cases v small (inl least) (inr most) z = rw (short_two v least most) (omega arith, omega arith)
length_by_cases v small (inl _) (inl least) (inr most) = rw (short_three v least most) (omega arith, omega arith)
length_by_cases v small (inl _) (inl _) (inl least) =
    let most : byte_count v ≤ 8 = (Holds-byte_count v small).most in
    rw (short_many v least) (omega (arith, length-low_bytes (byte_count v) v most), omega (arith, length-low_bytes (byte_count v) v most))

pub length-short_number : (v : ℕ) → v < 2 ^ 64 → (1 ≤ length (short_number v)) × (length (short_number v) ≤ 9)
length-short_number v small = length_by_cases v small (cases_lt 240 v) (cases_lt 2287 v) (cases_lt 67823 v)

few_more : (lead : ℕ) → lead < 2 ^ 8 → more_bytes lead ≤ 8
few_more lead byte = grind (arith, nat_tests)

-- any spelling of a number has one byte at least and nine at most
pub length-number : (text : List ℕ) (v : ℕ) → SpellsNumber text v → (1 ≤ length text) × (length text ≤ 9)
unfolding SpellsNumber
length-number [] v p = absurd p
length-number (lead ∷ more) v p = let few = few_more lead p.3 in (omega arith, omega (arith, p.0, few))

-- the number of bytes is told by the first one, and the number by all
pub one_value-number : (text : List ℕ) (v w : ℕ) → SpellsNumber text v → SpellsNumber text w → v ≡ w
unfolding SpellsNumber
one_value-number [] v w p q = absurd p
one_value-number (lead ∷ more) v w p q = p.1 ∙ sym q.1

pub no_front-number : (a b x y : List ℕ) (v w : ℕ) → SpellsNumber a v → SpellsNumber b w → a ++ x ≡ b ++ y → a ≡ b
unfolding SpellsNumber
no_front-number [] b x y v w p q is = absurd p
no_front-number (lead ∷ more) [] x y v w p q is = absurd q
no_front-number (lead ∷ more) (lead' ∷ more') x y v w p q is =
    let same : lead ≡ lead' = cc in
    same_fronts (lead ∷ more) (lead' ∷ more') x y (ap suc (p.0 ∙ ap more_bytes same ∙ sym q.0)) is

-- No bytes.

pub one_value-nothing : (text : List ℕ) (v w : Unit {0}) → text ≡ [] → text ≡ [] → v ≡ w
one_value-nothing text v w p q = refl

pub no_front-nothing : (a b x y : List ℕ) (v w : Unit {0}) → a ≡ [] → b ≡ [] → a ++ x ≡ b ++ y → a ≡ b
no_front-nothing a b x y v w p q is = p ∙ sym q

-- Byte strings.

pub short_spells-bytes : (bytes : List ℕ) → length bytes < 2 ^ 63 → SpellsBytes (short_bytes bytes) bytes
unfolding short_bytes
short_spells-bytes bytes small = record {
  count = short_number (length bytes);
  counted = short_spells-number (length bytes) (omega arith);
  is = refl;
}

pub length-short_bytes : (bytes : List ℕ) → length (short_bytes bytes) ≡ length (short_number (length bytes)) + length bytes
unfolding short_bytes
length-short_bytes bytes = length-append (short_number (length bytes)) bytes

pub ruleset byte_lengths = (length-short_bytes, length-short_number)

-- the counts of two byte strings at the front of one text are the same
same_counts : (a b x y bytes bytes' : List ℕ) (p : SpellsBytes a bytes) (q : SpellsBytes b bytes') → a ++ x ≡ b ++ y → p.count ≡ q.count
same_counts a b x y bytes bytes' p q is =
    no_front-number p.count q.count (bytes ++ x) (bytes' ++ y) _ _ p.counted q.counted
    (sym (append_assoc p.count bytes x) ∙ ap (λ (l : List ℕ). l ++ x) (sym p.is) ∙ is ∙ ap (λ (l : List ℕ). l ++ y) q.is ∙ append_assoc q.count bytes' y)

pub one_value-bytes : (text v w : List ℕ) → SpellsBytes text v → SpellsBytes text w → v ≡ w
one_value-bytes text v w p q =
    same_rests p.count q.count v w (same_counts text text [] [] v w p q refl) (sym p.is ∙ q.is)

pub no_front-bytes : (a b x y v w : List ℕ) → SpellsBytes a v → SpellsBytes b w → a ++ x ≡ b ++ y → a ≡ b
no_front-bytes a b x y v w p q is =
    let counts : p.count ≡ q.count = same_counts a b x y v w p q is in
    let long : length v ≡ length w = one_value-number q.count _ _ (rw counts at p.counted) q.counted in
    let long_a : length a ≡ length p.count + length v = ap length p.is ∙ length-append p.count v in
    let long_b : length b ≡ length q.count + length w = ap length q.is ∙ length-append q.count w in
    same_fronts a b x y (long_a ∙ ap (λ (l : List ℕ). length l + length v) counts ∙ ap (λ n. length q.count + n) long ∙ sym long_b) is
