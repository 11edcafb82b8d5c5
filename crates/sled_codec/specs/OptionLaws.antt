-- The laws of flags, and of numbers that may be missing.
use Rattle.std.specs.Prelude.{◌≡◌, ℕ, ℤ, pos, negsuc, Bool, true, false, Option, None, Some, List, [], ◌∷◌, ◌++◌, length, refl, if◌then◌else◌, ◌==◌, ◌+◌}
use Rattle.std.proofs.Common.{sym, ◌∙◌, ap, arith}
use Rattle.sled_codec.specs.Spelling.{SpellsBool, short_bool, SpellsNumber, or_zero, SpellsSigned, or_zero_signed}
use Rattle.sled_codec.specs.SpellingLaws.{same_fronts, one_value-number, one_value-signed}

pub short_spells-bool : (v : Bool) → Unit {0} → SpellsBool (short_bool v) v
short_spells-bool true fits = record { byte = 1; is = refl; small = omega arith; value = refl }
short_spells-bool false fits = record { byte = 0; is = refl; small = omega arith; value = refl }

pub one_value-bool : (text : List ℕ) (v w : Bool) → SpellsBool text v → SpellsBool text w → v ≡ w
one_value-bool text v w p q =
    let both : (p.byte ∷ []) ≡ (q.byte ∷ []) = sym p.is ∙ q.is in
    let bytes : p.byte ≡ q.byte = cc in
    p.value ∙ ap (λ b. if b == 0 then false else true) bytes ∙ sym q.value

pub no_front-bool : (a b x y : List ℕ) (v w : Bool) → SpellsBool a v → SpellsBool b w → a ++ x ≡ b ++ y → a ≡ b
no_front-bool a b x y v w p q is = same_fronts a b x y (ap length p.is ∙ sym (ap length q.is)) is

same_option : (v w : Option ℕ) → or_zero v ≡ or_zero w → v ≡ w
same_option None None is = refl
same_option None (Some w) is = absurd (omega arith)
same_option (Some v) None is = absurd (omega arith)
same_option (Some v) (Some w) is = let same : v ≡ w = omega arith in ap (λ n. Some n) same

pub one_value-option : (text : List ℕ) (v w : Option ℕ) → SpellsNumber text (or_zero v) → SpellsNumber text (or_zero w) → v ≡ w
one_value-option text v w p q = same_option v w (one_value-number text (or_zero v) (or_zero w) p q)

same_option_signed : (v w : Option ℤ) → or_zero_signed v ≡ or_zero_signed w → v ≡ w
same_option_signed None None is = refl
same_option_signed None (Some (pos w)) is = let same : 0 ≡ w + 1 = cc in absurd (omega arith)
same_option_signed None (Some (negsuc w)) is = cc
same_option_signed (Some (pos v)) None is = let same : v + 1 ≡ 0 = cc in absurd (omega arith)
same_option_signed (Some (negsuc v)) None is = cc
same_option_signed (Some (pos v)) (Some (pos w)) is = let sums : v + 1 ≡ w + 1 = cc in let same : v ≡ w = omega arith in ap (λ n. Some (pos n)) same
same_option_signed (Some (pos v)) (Some (negsuc w)) is = cc
same_option_signed (Some (negsuc v)) (Some (pos w)) is = cc
same_option_signed (Some (negsuc v)) (Some (negsuc w)) is = cc

pub one_value-option_signed : (text : List ℕ) (v w : Option ℤ) → SpellsSigned text (or_zero_signed v) → SpellsSigned text (or_zero_signed w) → v ≡ w
one_value-option_signed text v w p q = same_option_signed v w (one_value-signed text (or_zero_signed v) (or_zero_signed w) p q)
