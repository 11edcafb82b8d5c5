-- A text is a record just where the header that was taken off it announces the message, carries its sum, and leaves its body.
use Rattle.std.proofs.Common.{◌≡◌, ◌∙◌, sym, ap, ℕ, ◌≤◌, List, ◌++◌, length, take, drop, ◌-◌, refl, arith, length-append, length-drop}
use Rattle.std.proofs.lemmas.List.{take_at, drop-append-le}
use Rattle.sled_codec.specs.declared.serialization.message.MessageHeader.{MessageHeader}
use Rattle.sled_codec.specs.declared.serialization.message.MessageKind.{MessageKind}
use Rattle.sled_codec.specs.Spelling.{SpellsMessageHeader}
use Rattle.sled_codec.specs.SpellingLaws.{same_rests}
use Rattle.sled_codec.specs.HeaderLaws.{one_value-header, no_front-header, same_header}
use Rattle.sled_codec.specs.Record.{IsRecord}
use Rattle.sled_codec.specs.Sums.{flipped}
use Rattle.sled_oracle.specs.Announced.{Announces}

header_long : (front : List ℕ) (h : MessageHeader) → SpellsMessageHeader front h → 4 ≤ length front
header_long front h spelled = omega (arith, spelled.summed.long, simp length-append at (ap length spelled.is))

-- A header was taken off a text, and this is left.
module _ (sum : List ℕ → ℕ) (text front rest : List ℕ) (h : MessageHeader) (spelled : SpellsMessageHeader front h) (taken : text ≡ front ++ rest) (kind : MessageKind) (page number : ℕ) (body : List ℕ) where
  same_front : (p : IsRecord sum text kind page number body) → front ≡ p.header
  same_front p = no_front-header front p.header rest body _ _ spelled p.spelled (sym taken ∙ p.is)

  -- where the text is a record the body is left
  pub rest_of_record : IsRecord sum text kind page number body → rest ≡ body
  rest_of_record p = same_rests front p.header rest body (same_front p) (sym taken ∙ p.is)

  value_of_record : (p : IsRecord sum text kind page number body) → h ≡ record { crc32 = flipped (sum (body ++ drop 4 p.header)); kind = kind; segment_number = record { 0 = number }; pid = page; len = length body }
  value_of_record p = one_value-header p.header _ _ (rw (same_front p) at spelled) p.spelled

  -- the header announces the message
  pub announced_by_record : IsRecord sum text kind page number body → Announces h kind page number (length body)
  announced_by_record p =
      let value = value_of_record p in
      record {
        valid = p.valid;
        kinds = ap (λ (v : MessageHeader). v.kind) value;
        pages = ap (λ (v : MessageHeader). v.pid) value;
        numbers = ap (λ (v : MessageHeader). v.segment_number.0) value;
        lens = ap (λ (v : MessageHeader). v.len) value;
      }

  -- and carries the sum
  pub sum_of_record : IsRecord sum text kind page number body → h.crc32 ≡ flipped (sum (body ++ drop 4 front))
  sum_of_record p =
      ap (λ (v : MessageHeader). v.crc32) (value_of_record p)
      ∙ ap (λ (l : List ℕ). flipped (sum (body ++ drop 4 l))) (sym (same_front p))

  -- and where all three hold it is a record
  pub is_record_by : Announces h kind page number (length body) → rest ≡ body → h.crc32 ≡ flipped (sum (body ++ drop 4 front)) → IsRecord sum text kind page number body
  is_record_by a is value = record {
    header = front;
    spelled = rw (same_header h _ value a.kinds a.lens a.numbers a.pages) at spelled;
    is = taken ∙ ap (λ (l : List ℕ). front ++ l) is;
    valid = a.valid;
  }

  -- what follows the sum in the header
  pub behind_its_sum : take (length text - length rest - 4) (drop 4 text) ≡ drop 4 front
  behind_its_sum =
      let four : 4 ≤ length front = header_long front h spelled in
      let tail : length text - length rest - 4 ≡ length (drop 4 front) = omega (arith, ap length taken, length-append front rest, length-drop 4 front) in
      ap (λ n. take n (drop 4 text)) tail
      ∙ ap (λ (l : List ℕ). take (length (drop 4 front)) l) (ap (drop 4) taken ∙ drop-append-le 4 front rest four)
      ∙ take_at (drop 4 front) rest (length (drop 4 front)) refl
