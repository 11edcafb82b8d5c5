-- What a decoder takes off the front of a text, and what shows that there is nothing to take.
use Rattle.std.proofs.Common.{◌≡◌, ◌∙◌, sym, ap, ℕ, ◌+◌, ◌-◌, ◌^◌, ◌<◌, ◌≤◌, List, [], ◌∷◌, ◌++◌, length, get_or, take, drop, refl, arith, take-append-drop, append_assoc, length-append, length-take, suc, ℤ}
use Rattle.std.proofs.lemmas.List.{take_rest}
use Rattle.std.proofs.lemmas.Int.{of_z-to_z}
use Rattle.std.proofs.Math.Facts.{sfits_to_z}
use Rattle.std.specs.Int.{w64, cast_signed, cast_unsigned}
use Rattle.std.proofs.lemmas.Bool.Decides.{nat_tests}
use Rattle.sled_codec.specs.Spelling.{low_first, SpellsSigned, more_bytes, number_of, SpellsNumber, SpellsBytes}
use Rattle.sled_codec.specs.SpellingLaws.{spells_lead, no_front-number, one_value-number, same_rests}

-- a text is its front and what a slice from there to its end holds
pub front_rest : (text : List ℕ) (n : ℕ) → text ≡ take n text ++ take (length text - n) (drop n text)
front_rest text n = sym (take-append-drop n text) ∙ ap (λ (l : List ℕ). take n text ++ l) (sym (take_rest text n))

-- eight bytes spell the signed number that they are read as
pub spells_read : (front : List ℕ) (n : ℕ) (z : ℤ) → length front ≡ 8 → n ≡ low_first front → n < 2 ^ 64 → z ≡ cast_signed w64 n → SpellsSigned front z
spells_read front n z long is small signed =
    let unsigned : cast_unsigned w64 z ≡ n = ap (cast_unsigned w64) signed ∙ of_z-to_z w64 n small in
    record {
      unsigned = record { long = long; value = unsigned ∙ is; small = omega arith };
      in_range = rw signed (sfits_to_z (record { fits = small }));
    }

none_more : (lead : ℕ) → lead ≤ 240 → 0 ≡ more_bytes lead
none_more lead small = grind (arith, nat_tests)

itself : (lead : ℕ) → lead ≤ 240 → lead ≡ number_of lead []
itself lead small = grind (arith, nat_tests)

-- a text that begins with a number has the bytes that its lead byte tells of
pub has_number : (text front rest : List ℕ) (v : ℕ) → text ≡ front ++ rest → SpellsNumber front v → 1 + more_bytes (get_or text 0 0) ≤ length text
unfolding SpellsNumber
has_number text [] rest v is spelled = absurd spelled
has_number text (lead ∷ more) rest v is spelled =
    let first : get_or text 0 0 ≡ lead = ap (λ (l : List ℕ). get_or l 0 0) is in
    let counts : more_bytes (get_or text 0 0) ≡ more_bytes lead = ap more_bytes first in
    omega (arith, ap length is, length-append more rest, spelled.0)

-- and one that has them begins with a number
pub takes_number : (text : List ℕ) (n v : ℕ) → n ≡ more_bytes (get_or text 0 0) → 1 + n ≤ length text → v ≡ number_of (get_or text 0 0) (take (1 + n - 1) (drop 1 text)) → v < 2 ^ 64 → get_or text 0 0 < 2 ^ 8 → (front : List ℕ) × SpellsNumber front v × (text ≡ front ++ take (length text - (1 + n)) (drop (1 + n) text))
takes_number [] n v counts long value small byte = absurd (omega arith)
takes_number (lead ∷ more) n v counts long value small byte =
    let one : 1 + n ≡ suc n = omega arith in
    let same : 1 + n - 1 ≡ n = omega arith in (
      lead ∷ take n more,
      spells_lead lead (take n more) v (omega (arith, length-take n more)) (rw same at value) small byte,
      front_rest (lead ∷ more) (1 + n) ∙ ap (λ k. take k (lead ∷ more) ++ take (length (lead ∷ more) - (1 + n)) (drop (1 + n) (lead ∷ more))) one,
    )

-- a lead byte that is a number by itself
pub takes_small : (text : List ℕ) (v : ℕ) → 0 < length text → get_or text 0 0 ≤ 240 → v ≡ get_or text 0 0 → (front : List ℕ) × SpellsNumber front v × (text ≡ front ++ take (length text - 1) (drop 1 text))
takes_small text v some small is =
    takes_number text 0 v (none_more (get_or text 0 0) small) (omega arith) (is ∙ itself (get_or text 0 0) small) (omega arith) (omega arith)

-- a text that begins with a byte string has, behind the count that it begins with, the bytes that are counted
pub has_bytes : (text count front rest left v : List ℕ) (n : ℕ) → SpellsNumber count n → text ≡ count ++ left → text ≡ front ++ rest → SpellsBytes front v → n ≤ length left
has_bytes text count front rest left v n counted is_count is_front spelled =
    let text_is : text ≡ spelled.count ++ (v ++ rest) = is_front ∙ ap (λ (l : List ℕ). l ++ rest) spelled.is ∙ append_assoc spelled.count v rest in
    let both : count ++ left ≡ spelled.count ++ (v ++ rest) = sym is_count ∙ text_is in
    let same : count ≡ spelled.count = no_front-number count spelled.count left (v ++ rest) n (length v) counted spelled.counted both in
    let long : n ≡ length v = one_value-number spelled.count n (length v) (rw same at counted) spelled.counted in
    omega (arith, ap length (same_rests count spelled.count left (v ++ rest) same both), length-append v rest)

-- and one that has them begins with a byte string
pub takes_bytes : (text count left bytes : List ℕ) (n : ℕ) → SpellsNumber count n → text ≡ count ++ left → n ≤ length left → bytes ≡ take n left → (front : List ℕ) × SpellsBytes front bytes × (text ≡ front ++ take (length left - n) (drop n left))
takes_bytes text count left bytes n counted is_count long is =
    let size : n ≡ length bytes = omega (arith, ap length is, length-take n left) in (
      count ++ bytes,
      record { count = count; counted = rw (← size) counted; is = refl },
      is_count ∙ ap (λ (l : List ℕ). count ++ l) (front_rest left n) ∙ ap (λ (l : List ℕ). count ++ (l ++ take (length left - n) (drop n left))) (sym is) ∙ sym (append_assoc count bytes _),
    )
