-- What is written for a message is its record, and a text begins with one record at most.
use Rattle.std.proofs.Common.{◌≡◌, ◌≢◌, ◌∙◌, sym, ap, ℕ, ◌+◌, ◌^◌, ◌<◌, List, ◌++◌, length, refl, arith, append_assoc, length-append}
use Rattle.sled_codec.specs.declared.serialization.message.MessageHeader.{MessageHeader}
use Rattle.sled_codec.specs.declared.serialization.message.MessageKind.{MessageKind}
use Rattle.sled_codec.specs.declared.serialization.message.MessageKind.TheVariants.{Corrupted}
use Rattle.sled_codec.specs.Spelling.{low_bytes, short_header_tail, short_message_header}
use Rattle.sled_codec.specs.SpellingLaws.{same_fronts, same_rests}
use Rattle.sled_codec.specs.HeaderLaws.{short_spells-header, one_value-header, no_front-header}
use Rattle.sled_codec.specs.Record.{IsRecord, record_sum, short_record}

-- the header of the record that is written
written_header : (List ℕ → ℕ) → MessageKind → ℕ → ℕ → List ℕ → MessageHeader
written_header sum kind page number body = record { crc32 = record_sum sum kind page number body; kind = kind; segment_number = record { 0 = number }; pid = page; len = length body }

record_sum-small : (sum : List ℕ → ℕ) (kind : MessageKind) (page number : ℕ) (body : List ℕ) → record_sum sum kind page number body < 2 ^ 32
unfolding record_sum
record_sum-small sum kind page number body = omega arith

pub short_is_record : (sum : List ℕ → ℕ) (kind : MessageKind) (page number : ℕ) (body : List ℕ) → kind ≢ Corrupted → page < 2 ^ 64 → number < 2 ^ 64 → length body < 2 ^ 64 → IsRecord sum (short_record sum kind page number body) kind page number body
unfolding short_record record_sum short_message_header written_header
short_is_record sum kind page number body valid page_fits number_fits len_fits = record {
  header = short_message_header (written_header sum kind page number body);
  spelled = short_spells-header (written_header sum kind page number body) (record { sum = record_sum-small sum kind page number body; len = len_fits; number = number_fits; page = page_fits });
  is = refl;
  valid = valid;
}

pub length-short_record : (sum : List ℕ → ℕ) (kind : MessageKind) (page number : ℕ) (body : List ℕ) → length (short_record sum kind page number body) ≡ 4 + length (short_header_tail kind (length body) number page) + length body
unfolding short_record
length-short_record sum kind page number body =
    omega (arith, length-append (low_bytes 4 (record_sum sum kind page number body) ++ short_header_tail kind (length body) number page) body, length-append (low_bytes 4 (record_sum sum kind page number body)) (short_header_tail kind (length body) number page))

-- the same message
pub record SameMessage (kind kind' : MessageKind) (page page' number number' : ℕ) (body body' : List ℕ) : Type 0 where
  pub kinds : kind ≡ kind'
  pub pages : page ≡ page'
  pub numbers : number ≡ number'
  pub bodies : body ≡ body'

module _ (sum : List ℕ → ℕ) (a b x y : List ℕ) (kind kind' : MessageKind) (page page' number number' : ℕ) (body body' : List ℕ) (p : IsRecord sum a kind page number body) (q : IsRecord sum b kind' page' number' body') (is : a ++ x ≡ b ++ y) where
  heads : p.header ++ (body ++ x) ≡ q.header ++ (body' ++ y)
  heads = sym (append_assoc p.header body x) ∙ ap (λ (l : List ℕ). l ++ x) (sym p.is) ∙ is ∙ ap (λ (l : List ℕ). l ++ y) q.is ∙ append_assoc q.header body' y

  same_heads : p.header ≡ q.header
  same_heads = no_front-header p.header q.header (body ++ x) (body' ++ y) _ _ p.spelled q.spelled heads

  -- records at the front of one text are records of one message
  pub one_message : SameMessage kind kind' page page' number number' body body'
  one_message =
      let value = one_value-header q.header _ _ (rw same_heads at p.spelled) q.spelled in
      let lens : length body ≡ length body' = ap (λ (h : MessageHeader). h.len) value in
      record {
        kinds = ap (λ (h : MessageHeader). h.kind) value;
        pages = ap (λ (h : MessageHeader). h.pid) value;
        numbers = ap (λ (h : MessageHeader). h.segment_number.0) value;
        bodies = same_fronts body body' x y lens (same_rests p.header q.header _ _ same_heads heads);
      }

  -- and the same texts
  pub one_record : a ≡ b
  one_record = p.is ∙ ap (λ (l : List ℕ). l ++ body) same_heads ∙ ap (λ (l : List ℕ). q.header ++ l) one_message.bodies ∙ sym q.is
