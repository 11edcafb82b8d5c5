-- The laws of pointers.
use Rattle.std.specs.Prelude.{◌≡◌, ℕ, List, ◌∷◌, ◌++◌, refl}
use Rattle.std.proofs.Common.{sym, ◌∙◌, ap}
use Rattle.sled_codec.specs.declared.result.DiskPtr.{DiskPtr}
use Rattle.sled_codec.specs.declared.result.DiskPtr.TheVariants.{Inline, Blob}
use Rattle.sled_codec.specs.Spelling.{SpellsNumber, SpellsSigned, SpellsPointer, FitsPointer, short_pointer, short_number, short_signed}
use Rattle.sled_codec.specs.SpellingLaws.{short_spells-number, one_value-number, no_front-number, short_spells-signed, one_value-signed, no_front-signed}
use Rattle.sled_codec.specs.PairLaws.{no_front-pair, one_first-pair, one_second-pair}

pub short_spells-pointer : (p : DiskPtr) → FitsPointer p → SpellsPointer (short_pointer p) p
short_spells-pointer (Inline lid) fits = record { rest = short_number lid; spelled = short_spells-number lid fits; is = refl }
short_spells-pointer (Blob lid place) fits = record {
  rest = short_number lid ++ short_signed place;
  spelled =
      record {
        first = short_number lid;
        second = short_signed place;
        front = short_spells-number lid fits.0;
        back = short_spells-signed place fits.1;
        is = refl;
      };
  is = refl;
}

-- behind equal texts with a byte each stand equal texts
pub same_behind : (a b x y p q : List ℕ) (c d : ℕ) → a ≡ c ∷ p → b ≡ d ∷ q → a ++ x ≡ b ++ y → c ∷ (p ++ x) ≡ d ∷ (q ++ y)
same_behind a b x y p q c d is_a is_b is =
    ap (λ (l : List ℕ). l ++ x) (sym is_a) ∙ is ∙ ap (λ (l : List ℕ). l ++ y) is_b

pub tail_of : (p q : List ℕ) (c d : ℕ) → c ∷ p ≡ d ∷ q → p ≡ q
tail_of p q c d is = cc

pub no_front-pointer : (a b x y : List ℕ) (v w : DiskPtr) → SpellsPointer a v → SpellsPointer b w → a ++ x ≡ b ++ y → a ≡ b
no_front-pointer a b x y (Inline v) (Inline w) p q is =
    let rests = tail_of _ _ 0 0 (same_behind a b x y p.rest q.rest 0 0 p.is q.is is) in
    p.is ∙ ap (λ (l : List ℕ). 0 ∷ l) (no_front-number p.rest q.rest x y v w p.spelled q.spelled rests) ∙ sym q.is
no_front-pointer a b x y (Blob v i) (Blob w j) p q is =
    let rests = tail_of _ _ 1 1 (same_behind a b x y p.rest q.rest 1 1 p.is q.is is) in
    p.is ∙ ap (λ (l : List ℕ). 1 ∷ l)
    (no_front-pair SpellsNumber SpellsSigned no_front-number no_front-signed p.rest q.rest x y v w i j p.spelled q.spelled rests) ∙ sym q.is
no_front-pointer a b x y (Inline v) (Blob w j) p q is = let both = same_behind a b x y p.rest q.rest 0 1 p.is q.is is in cc
no_front-pointer a b x y (Blob v i) (Inline w) p q is = let both = same_behind a b x y p.rest q.rest 1 0 p.is q.is is in cc

pub one_value-pointer : (text : List ℕ) (v w : DiskPtr) → SpellsPointer text v → SpellsPointer text w → v ≡ w
one_value-pointer text (Inline v) (Inline w) p q =
    let rests = tail_of p.rest q.rest 0 0 (sym p.is ∙ q.is) in
    ap (λ n. Inline n) (one_value-number q.rest v w (rw rests at p.spelled) q.spelled)
one_value-pointer text (Blob v i) (Blob w j) p q =
    let rests = tail_of p.rest q.rest 1 1 (sym p.is ∙ q.is) in
    let spelled = rw rests at p.spelled in
    let lids = one_first-pair SpellsNumber SpellsSigned no_front-number one_value-number q.rest v w i j spelled q.spelled in
    let places = one_second-pair SpellsNumber SpellsSigned no_front-number one_value-signed q.rest v w i j spelled q.spelled in
    λ k. Blob (lids k) (places k)
one_value-pointer text (Inline v) (Blob w j) p q = let both = sym p.is ∙ q.is in cc
one_value-pointer text (Blob v i) (Inline w) p q = let both = sym p.is ∙ q.is in cc
