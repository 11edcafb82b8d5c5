-- The laws of the header of a message, part by part.
use Rattle.std.specs.Prelude.{◌≡◌, ◌+◌, ◌^◌, ◌<◌, ◌≤◌, ℕ, List, [], ◌∷◌, ◌++◌, length, refl}
use Rattle.std.proofs.Common.{sym, ◌∙◌, ap, arith, append_assoc, length-append}
use Rattle.sled_codec.specs.declared.serialization.message.MessageHeader.{MessageHeader}
use Rattle.sled_codec.specs.declared.serialization.message.MessageKind.{MessageKind}
use Rattle.sled_codec.specs.declared.serialization.message.MessageKind.TheVariants.{Corrupted, Canceled, Cap, BatchManifest, Free, Counter, InlineMeta}
use Rattle.sled_codec.specs.declared.serialization.message.MessageKind.TheVariants.{BlobMeta, InlineNode, BlobNode, InlineLink, BlobLink}
use Rattle.sled_codec.specs.Kinds.{code_of, kind_of}
use Rattle.sled_codec.specs.Spelling.{low_bytes, SpellsFixed, SpellsByte, SpellsNumber, short_number, SpellsMessageHeader, short_header_tail}
use Rattle.sled_codec.specs.Spelling.{short_message_header, FitsMessageHeader}
use Rattle.sled_codec.specs.SpellingLaws.{short_spells-four, one_value-fixed, no_front-fixed, short_spells-number, one_value-number, no_front-number}
use Rattle.sled_codec.specs.SpellingLaws.{same_rests, length-low_bytes, length-short_number, length-number}

-- the code of a kind stands for it
pub kind_of-code_of : (kind : MessageKind) → kind_of (code_of kind) ≡ kind
kind_of-code_of Corrupted = refl
kind_of-code_of Canceled = refl
kind_of-code_of Cap = refl
kind_of-code_of BatchManifest = refl
kind_of-code_of Free = refl
kind_of-code_of Counter = refl
kind_of-code_of InlineMeta = refl
kind_of-code_of BlobMeta = refl
kind_of-code_of InlineNode = refl
kind_of-code_of BlobNode = refl
kind_of-code_of InlineLink = refl
kind_of-code_of BlobLink = refl

code_of-small : (kind : MessageKind) → code_of kind < 2 ^ 8
code_of-small Corrupted = omega arith
code_of-small Canceled = omega arith
code_of-small Cap = omega arith
code_of-small BatchManifest = omega arith
code_of-small Free = omega arith
code_of-small Counter = omega arith
code_of-small InlineMeta = omega arith
code_of-small BlobMeta = omega arith
code_of-small InlineNode = omega arith
code_of-small BlobNode = omega arith
code_of-small InlineLink = omega arith
code_of-small BlobLink = omega arith

pub short_spells-header : (h : MessageHeader) → FitsMessageHeader h → SpellsMessageHeader (short_message_header h) h
unfolding short_message_header short_header_tail
short_spells-header h fits = record {
  sum = low_bytes 4 h.crc32;
  code = code_of h.kind;
  len = short_number h.len;
  number = short_number h.segment_number.0;
  page = short_number h.pid;
  summed = short_spells-four h.crc32 fits.sum;
  kind = sym (kind_of-code_of h.kind);
  coded = code_of-small h.kind;
  counted = short_spells-number h.len fits.len;
  numbered = short_spells-number h.segment_number.0 fits.number;
  paged = short_spells-number h.pid fits.page;
  is = refl;
}

-- Parts at the front of one text.

-- two spellings of the same parts
pub record SameParts {a b : List ℕ} {v w : MessageHeader} (p : SpellsMessageHeader a v) (q : SpellsMessageHeader b w) : Type 0 where
  pub sum : p.sum ≡ q.sum
  pub code : p.code ≡ q.code
  pub len : p.len ≡ q.len
  pub number : p.number ≡ q.number
  pub page : p.page ≡ q.page

-- a text with a header at its front, part behind part
pub parted : (text a x : List ℕ) (v : MessageHeader) (p : SpellsMessageHeader a v) → text ≡ a ++ x
    → text ≡ p.sum ++ (p.code ∷ (p.len ++ (p.number ++ (p.page ++ x))))
parted text a x v p is = is ∙ ap (λ (l : List ℕ). l ++ x) p.is ∙ simp append_assoc

pub behind_sum : (text f g t u : List ℕ) (v w : ℕ) → SpellsFixed 4 f v → SpellsFixed 4 g w → text ≡ f ++ t → text ≡ g ++ u → t ≡ u
behind_sum text f g t u v w p q is_f is_g =
    let both : f ++ t ≡ g ++ u = sym is_f ∙ is_g in
    same_rests f g t u (no_front-fixed 4 f g t u v w p q both) both

pub behind_code : (text f t u : List ℕ) (v code : ℕ) → SpellsByte f v → text ≡ f ++ t → text ≡ code ∷ u → t ≡ u
behind_code text f t u v code p is_f is_g =
    let both : (v ∷ t) ≡ (code ∷ u) = ap (λ (l : List ℕ). l ++ t) (sym p.is) ∙ sym is_f ∙ is_g in cc

pub behind_number : (text f g t u : List ℕ) (v w : ℕ) → SpellsNumber f v → SpellsNumber g w → text ≡ f ++ t → text ≡ g ++ u → t ≡ u
behind_number text f g t u v w p q is_f is_g =
    let both : f ++ t ≡ g ++ u = sym is_f ∙ is_g in
    same_rests f g t u (no_front-number f g t u v w p q both) both

same_text : (a : List ℕ) (b : ℕ) (c d e a' : List ℕ) (b' : ℕ) (c' d' e' : List ℕ) → a ≡ a' → b ≡ b' → c ≡ c' → d ≡ d' → e ≡ e'
    → a ++ (b ∷ c) ++ d ++ e ≡ a' ++ (b' ∷ c') ++ d' ++ e'
same_text a b c d e a' b' c' d' e' p q r s t = cc

header_of : ℕ → MessageKind → ℕ → ℕ → ℕ → MessageHeader
header_of sum kind number page len = record { crc32 = sum; kind = kind; segment_number = record { 0 = number }; pid = page; len = len }

same_fields : (a : ℕ) (b : MessageKind) (c d e a' : ℕ) (b' : MessageKind) (c' d' e' : ℕ) → a ≡ a' → b ≡ b' → c ≡ c' → d ≡ d' → e ≡ e'
    → header_of a b c d e ≡ header_of a' b' c' d' e'
same_fields a b c d e a' b' c' d' e' p q r s t = cc

-- headers with the same fields
pub same_header : (v w : MessageHeader) → v.crc32 ≡ w.crc32 → v.kind ≡ w.kind → v.len ≡ w.len → v.segment_number.0 ≡ w.segment_number.0 → v.pid ≡ w.pid → v ≡ w
unfolding header_of
same_header v w p q r s t =
    let both : header_of v.crc32 v.kind v.segment_number.0 v.pid v.len ≡ header_of w.crc32 w.kind w.segment_number.0 w.pid w.len =
    same_fields _ _ _ _ _ _ _ _ _ _ p q s t r in
    both

-- headers at the front of one text have the same parts
pub same_parts : (a b x y : List ℕ) (v w : MessageHeader) (p : SpellsMessageHeader a v) (q : SpellsMessageHeader b w) → a ++ x ≡ b ++ y → SameParts p q
same_parts a b x y v w p q is =
    let t0 = parted (a ++ x) a x v p refl in
    let u0 = parted (a ++ x) b y w q is in
    let t1 = behind_sum (a ++ x) p.sum q.sum _ _ _ _ p.summed q.summed t0 u0 in
    let codes : p.code ≡ q.code = cc in
    let t2 : p.len ++ (p.number ++ (p.page ++ x)) ≡ q.len ++ (q.number ++ (q.page ++ y)) = cc in
    let t3 = behind_number _ p.len q.len _ _ _ _ p.counted q.counted refl t2 in
    let t4 = behind_number _ p.number q.number _ _ _ _ p.numbered q.numbered refl t3 in
    record {
      sum = no_front-fixed 4 p.sum q.sum _ _ _ _ p.summed q.summed (sym t0 ∙ u0);
      code = codes;
      len = no_front-number p.len q.len _ _ _ _ p.counted q.counted t2;
      number = no_front-number p.number q.number _ _ _ _ p.numbered q.numbered t3;
      page = no_front-number p.page q.page _ _ _ _ p.paged q.paged t4;
    }

-- and then they are the same texts, which stand for the same header

pub no_front-header : (a b x y : List ℕ) (v w : MessageHeader) → SpellsMessageHeader a v → SpellsMessageHeader b w → a ++ x ≡ b ++ y → a ≡ b
no_front-header a b x y v w p q is =
    let same = same_parts a b x y v w p q is in
    p.is ∙ same_text p.sum p.code p.len p.number p.page q.sum q.code q.len q.number q.page same.sum same.code same.len same.number same.page ∙ sym q.is

pub one_value-header : (text : List ℕ) (v w : MessageHeader) → SpellsMessageHeader text v → SpellsMessageHeader text w → v ≡ w
one_value-header text v w p q =
    let same = same_parts text text [] [] v w p q refl in
    let sums : v.crc32 ≡ w.crc32 = one_value-fixed 4 q.sum _ _ (rw same.sum at p.summed) q.summed in
    let kinds : v.kind ≡ w.kind = p.kind ∙ ap kind_of same.code ∙ sym q.kind in
    let lens : v.len ≡ w.len = one_value-number q.len _ _ (rw same.len at p.counted) q.counted in
    let numbers : v.segment_number.0 ≡ w.segment_number.0 = one_value-number q.number _ _ (rw same.number at p.numbered) q.numbered in
    let pages : v.pid ≡ w.pid = one_value-number q.page _ _ (rw same.page at p.paged) q.paged in
    same_header v w sums kinds lens numbers pages

-- Lengths.

pub length-short_header_tail : (kind : MessageKind) (len number page : ℕ)
    → length (short_header_tail kind len number page) ≡ 1 + length (short_number len) + length (short_number number) + length (short_number page)
unfolding short_header_tail
length-short_header_tail kind len number page =
    omega (
      arith,
      length-append ((code_of kind ∷ short_number len) ++ short_number number) (short_number page),
      length-append (code_of kind ∷ short_number len) (short_number number),
    )

pub length-short_message_header : (h : MessageHeader) → length (short_message_header h) ≡ 4 + length (short_header_tail h.kind h.len h.segment_number.0 h.pid)
unfolding short_message_header
length-short_message_header h = length-append (low_bytes 4 h.crc32) (short_header_tail h.kind h.len h.segment_number.0 h.pid)

-- any spelling of a header has eight to thirty-two bytes
pub length-message_header : (text : List ℕ) (h : MessageHeader) → SpellsMessageHeader text h → (8 ≤ length text) × (length text ≤ 32)
length-message_header text h s =
    let sum = s.summed.long in
    let len = length-number s.len h.len s.counted in
    let number = length-number s.number h.segment_number.0 s.numbered in
    let page = length-number s.page h.pid s.paged in
    let front : List ℕ = s.sum ++ (s.code ∷ s.len) in
    let whole : length text ≡ 5 + length s.len + length s.number + length s.page =
    ap length s.is ∙ omega (arith, sum, length-append (front ++ s.number) s.page, length-append front s.number, length-append s.sum (s.code ∷ s.len)) in
    (omega (arith, whole, len.0, number.0, page.0), omega (arith, whole, len.1, number.1, page.1))

pub ruleset header_lengths = (length-short_message_header, length-short_header_tail, length-short_number, length-low_bytes)
