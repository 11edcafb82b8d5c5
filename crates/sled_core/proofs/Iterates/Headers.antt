-- The header at the beginning of a slot, of the bytes that were read of it and of the file.
use Rattle.std.proofs.Common.{◌≡◌, ◌∙◌, ◌≤◌, ℕ, ℤ, pos, Bool, true, false, List, length, take, drop, refl, ap, sym, subst, arith, length-take, IsTrue}
use Rattle.std.proofs.lemmas.List.{take-take, length-drop}
use Rattle.sled_codec.specs.Places.{part}
use Rattle.sled_codec.specs.Record.{IsHeader}
use Rattle.sled_codec.proofs.Segments.{length-short_header}
use Rattle.sled_core.specs.declared.iterator.Segment.{Segment}
use Rattle.sled_core.specs.Iterates.{HasItsHeader, IsMissing}

module _ (sum : List ℕ → ℕ) (size : ℕ) (some : 20 ≤ size) (log : List ℕ) (s : Segment) (bytes : List ℕ) (is : bytes ≡ part log s.slot size) where
  same_head : take 20 bytes ≡ part log s.slot 20
  same_head = ap (take 20) is ∙ take-take 20 size (drop s.slot log) some

  abbrev Stands : Type 0
  Stands = (mark : ℤ) × IsHeader sum (take 20 bytes) (pos s.place) mark

  pub header_there : Stands → HasItsHeader sum log s
  header_there own = (own.0, subst (λ (l : List ℕ). IsHeader sum l (pos s.place) own.0) same_head own.1)

  pub header_read : HasItsHeader sum log s → Stands
  header_read own = (own.0, subst (λ (l : List ℕ). IsHeader sum l (pos s.place) own.0) (sym same_head) own.1)

  -- where it stands the slot begins in the file
  pub header_inside : HasItsHeader sum log s → s.slot ≤ length log
  header_inside own =
      let long : length (part log s.slot 20) ≡ 20 = ap length own.1.is ∙ length-short_header sum (pos s.place) own.0 in
      omega (arith, long, length-take 20 (drop s.slot log), length-drop s.slot log)

  -- where a strict iterator found none it is missing
  pub none_stands : (strict : Bool) → strict ≡ true → (Stands → ⊥) → IsMissing strict sum log s
  none_stands true is_strict none = λ own. none (header_read own)
  none_stands false is_strict none = absurd (let no : false ≡ true = is_strict in cc)

  -- where it isn't strict, or found one, none is missing
  pub none_missing : (strict : Bool) → (strict ≡ true → Stands) → IsMissing strict sum log s → ⊥
  none_missing true found missing = missing (header_there (found refl))
  none_missing false found missing = missing

  -- and the slot begins in the file
  pub begins_inside : (strict : Bool) → (strict ≡ true → Stands) → (strict ≡ false → s.slot ≤ length log) → s.slot ≤ length log
  begins_inside true found file = header_inside (header_there (found refl))
  begins_inside false found file = file refl

-- where a test failed that is passed by one that isn't strict and by one that found it
pub not_found : (strict : Bool) (There : Type 0) (found : Bool) → found ≡ false → (IsTrue found → strict ≡ true → There) × ((strict ≡ true → There) → IsTrue found) → (strict ≡ true) × (There → ⊥)
not_found true There found shut passes = (refl, λ there. (let yes : true ≡ false = sym (passes.1 (λ is. there)) ∙ shut in cc))
not_found false There found shut passes = absurd (let yes : true ≡ false = sym (passes.1 (λ is. absurd (let so : false ≡ true = is in cc))) ∙ shut in cc)
