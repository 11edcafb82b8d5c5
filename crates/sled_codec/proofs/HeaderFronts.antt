-- What a decoder of headers takes off the front of a text, part by part.
use Rattle.std.proofs.Common.{◌≡◌, ◌∙◌, ap, ℕ, List, ◌∷◌, ◌++◌, refl, append_assoc}
use Rattle.sled_codec.specs.declared.serialization.message.MessageHeader.{MessageHeader}
use Rattle.sled_codec.specs.declared.serialization.message.MessageKind.{MessageKind}
use Rattle.sled_codec.specs.Kinds.{kind_of}
use Rattle.sled_codec.specs.Spelling.{SpellsFixed, SpellsByte, SpellsNumber, SpellsMessageHeader}
use Rattle.sled_codec.specs.HeaderLaws.{parted, behind_sum, behind_code, behind_number}

-- a spelling of a value is taken off a text, and this is left
abbrev pub Takes : {V : Type 0} → (List ℕ → V → Type 0) → List ℕ → V → List ℕ → Type 0
Takes Spells text v rest = (front : List ℕ) × Spells front v × (text ≡ front ++ rest)

-- A text begins with a header. What is left behind each part that was taken begins with the next one.
module _ (text a x : List ℕ) (v : MessageHeader) (p : SpellsMessageHeader a v) (is : text ≡ a ++ x) where
  pub behind-sum : (t1 : List ℕ) (sum : ℕ) → Takes (SpellsFixed 4) text sum t1 → t1 ≡ p.code ∷ (p.len ++ (p.number ++ (p.page ++ x)))
  behind-sum t1 sum (f, spelled, taken) = behind_sum text f p.sum t1 _ sum v.crc32 spelled p.summed taken (parted text a x v p is)

  pub behind-code : (t1 t2 : List ℕ) (sum code : ℕ) → Takes (SpellsFixed 4) text sum t1 → Takes SpellsByte t1 code t2 → t2 ≡ p.len ++ (p.number ++ (p.page ++ x))
  behind-code t1 t2 sum code one (f, spelled, taken) = behind_code t1 f t2 _ code p.code spelled taken (behind-sum t1 sum one)

  pub behind-len : (t1 t2 t3 : List ℕ) (sum code len : ℕ) → Takes (SpellsFixed 4) text sum t1 → Takes SpellsByte t1 code t2 → Takes SpellsNumber t2 len t3 → t3 ≡ p.number ++ (p.page ++ x)
  behind-len t1 t2 t3 sum code len one two (f, spelled, taken) = behind_number t2 f p.len t3 _ len v.len spelled p.counted taken (behind-code t1 t2 sum code one two)

  pub behind-number : (t1 t2 t3 t4 : List ℕ) (sum code len number : ℕ) → Takes (SpellsFixed 4) text sum t1 → Takes SpellsByte t1 code t2 → Takes SpellsNumber t2 len t3 → Takes SpellsNumber t3 number t4 → t4 ≡ p.page ++ x
  behind-number t1 t2 t3 t4 sum code len number one two three (f, spelled, taken) = behind_number t3 f p.number t4 _ number v.segment_number.0 spelled p.numbered taken (behind-len t1 t2 t3 sum code len one two three)

-- the parts that were taken one behind another are a header
pub takes_header : (t0 t1 t2 t3 t4 t5 : List ℕ) (sum code len number page : ℕ) (kind : MessageKind) → Takes (SpellsFixed 4) t0 sum t1 → Takes SpellsByte t1 code t2 → Takes SpellsNumber t2 len t3 → Takes SpellsNumber t3 number t4 → Takes SpellsNumber t4 page t5 → kind ≡ kind_of code → Takes SpellsMessageHeader t0 (record { crc32 = sum; kind = kind; segment_number = record { 0 = number }; pid = page; len = len }) t5
takes_header t0 t1 t2 t3 t4 t5 sum code len number page kind (f1, s1, e1) (f2, s2, e2) (f3, s3, e3) (f4, s4, e4) (f5, s5, e5) is = (
  f1 ++ (code ∷ f3) ++ f4 ++ f5,
  record { sum = f1; code = code; len = f3; number = f4; page = f5; summed = s1; kind = is; coded = s2.small; counted = s3; numbered = s4; paged = s5; is = refl },
  e1 ∙ ap (λ (l : List ℕ). f1 ++ l) (e2 ∙ ap (λ (l : List ℕ). l ++ t2) s2.is ∙ ap (λ (l : List ℕ). code ∷ l) (e3 ∙ ap (λ (l : List ℕ). f3 ++ l) (e4 ∙ ap (λ (l : List ℕ). f4 ++ l) e5))) ∙ simp append_assoc,
)
