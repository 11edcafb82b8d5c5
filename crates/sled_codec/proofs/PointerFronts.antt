-- What a decoder of pointers takes off the front of a text, and what shows that there is nothing to take.
use Rattle.std.proofs.Common.{◌≡◌, ◌∙◌, sym, ap, ℕ, ℤ, List, [], ◌∷◌, ◌++◌, refl, arith}
use Rattle.sled_codec.specs.declared.result.DiskPtr.{DiskPtr}
use Rattle.sled_codec.specs.declared.result.DiskPtr.TheVariants.{Inline, Blob}
use Rattle.sled_codec.specs.Spelling.{SpellsByte, SpellsNumber, SpellsSigned, SpellsPair, SpellsPointer, Tagged}
use Rattle.sled_codec.proofs.HeaderFronts.{Takes}

-- a byte was taken
pub taken_byte : (text t1 : List ℕ) (code : ℕ) → Takes SpellsByte text code t1 → text ≡ code ∷ t1
taken_byte text t1 code (f, spelled, taken) = taken ∙ ap (λ (l : List ℕ). l ++ t1) spelled.is

pub tagged_front : (text front rest tail : List ℕ) (byte : ℕ) → text ≡ front ++ rest → front ≡ byte ∷ tail → text ≡ byte ∷ (tail ++ rest)
tagged_front text front rest tail byte is tagged = is ∙ ap (λ (l : List ℕ). l ++ rest) tagged

-- without a byte there is no pointer
pub no_byte : (text : List ℕ) → ((f r : List ℕ) (n : ℕ) → text ≡ f ++ r → SpellsByte f n → ⊥) → (front rest : List ℕ) (v : DiskPtr) → text ≡ front ++ rest → SpellsPointer front v → ⊥
no_byte text none front rest (Inline lid) is p = none (0 ∷ []) (p.rest ++ rest) 0 (tagged_front text front rest p.rest 0 is p.is) (record { is = refl; small = omega arith })
no_byte text none front rest (Blob lid place) is p = none (1 ∷ []) (p.rest ++ rest) 1 (tagged_front text front rest p.rest 1 is p.is) (record { is = refl; small = omega arith })

-- behind 0 there has to be an offset
pub no_inline : (text t1 : List ℕ) (code : ℕ) → Takes SpellsByte text code t1 → code ≡ 0 → ((f r : List ℕ) (n : ℕ) → t1 ≡ f ++ r → SpellsNumber f n → ⊥) → (front rest : List ℕ) (v : DiskPtr) → text ≡ front ++ rest → SpellsPointer front v → ⊥
no_inline text t1 code byte zero none front rest (Inline lid) is p =
    let both : (code ∷ t1) ≡ (0 ∷ (p.rest ++ rest)) = sym (taken_byte text t1 code byte) ∙ tagged_front text front rest p.rest 0 is p.is in
    let left : t1 ≡ p.rest ++ rest = cc in
    none p.rest rest lid left p.spelled
no_inline text t1 code byte zero none front rest (Blob lid place) is p =
    let both : (code ∷ t1) ≡ (1 ∷ (p.rest ++ rest)) = sym (taken_byte text t1 code byte) ∙ tagged_front text front rest p.rest 1 is p.is in
    cc

-- and behind 1 an offset and a place
pub no_blob : (text t1 : List ℕ) (code : ℕ) → Takes SpellsByte text code t1 → code ≡ 1 → ((f r : List ℕ) (v : ℕ × ℤ) → t1 ≡ f ++ r → SpellsPair SpellsNumber SpellsSigned f v.0 v.1 → ⊥) → (front rest : List ℕ) (v : DiskPtr) → text ≡ front ++ rest → SpellsPointer front v → ⊥
no_blob text t1 code byte one none front rest (Inline lid) is p =
    let both : (code ∷ t1) ≡ (0 ∷ (p.rest ++ rest)) = sym (taken_byte text t1 code byte) ∙ tagged_front text front rest p.rest 0 is p.is in
    cc
no_blob text t1 code byte one none front rest (Blob lid place) is p =
    let both : (code ∷ t1) ≡ (1 ∷ (p.rest ++ rest)) = sym (taken_byte text t1 code byte) ∙ tagged_front text front rest p.rest 1 is p.is in
    let left : t1 ≡ p.rest ++ rest = cc in
    none p.rest rest (lid, place) left p.spelled

-- a byte and what was taken behind it
pub takes_tagged : (Spells : List ℕ → Type 0) (byte : ℕ) (text t1 t2 : List ℕ) (code : ℕ) → Takes SpellsByte text code t1 → code ≡ byte → (f : List ℕ) → Spells f → t1 ≡ f ++ t2 → (front : List ℕ) × Tagged byte Spells front × (text ≡ front ++ t2)
takes_tagged Spells byte text t1 t2 code first is f spelled taken = (
  byte ∷ f,
  record { rest = f; spelled = spelled; is = refl },
  taken_byte text t1 code first ∙ ap (λ c. c ∷ t1) is ∙ ap (λ (l : List ℕ). byte ∷ l) taken,
)
