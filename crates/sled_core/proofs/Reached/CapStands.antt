-- What fills a segment to its end is as long as its rest, and where it stands in the file a reader ends there.
use Rattle.std.proofs.Common.{◌≡◌, ◌≢◌, ◌≤◌, ◌<◌, ◌+◌, ◌-◌, ◌/◌, ◌%◌, ◌^◌, ◌∙◌, nat_lt, ℕ, true, false, if◌then◌else◌, inl, inr, List, ◌++◌, length, take, drop, replicate, sym, ap, subst, arith, refl, length-append, length-take}
use Rattle.std.proofs.lemmas.Bool.{cases_lt}
use Rattle.std.proofs.lemmas.Bool.Decides.{nat_tests}
use Rattle.std.proofs.lemmas.List.{take_at, take-take, length-replicate}
use Rattle.sled_codec.specs.declared.serialization.message.MessageHeader.{MessageHeader}
use Rattle.sled_codec.specs.declared.serialization.message.MessageKind.TheVariants as kind
use Rattle.sled_codec.specs.Sums.{flipped}
use Rattle.sled_codec.specs.Places.{part}
use Rattle.sled_codec.specs.Record.{IsRecord}
use Rattle.sled_codec.specs.Spelling.{short_number, short_header_tail}
use Rattle.sled_codec.specs.SpellingLaws.{length-short_number}
use Rattle.sled_codec.proofs.Records.{short_is_record, length-short_record}
use Rattle.sled_core.specs.inside.Caps.{cap_page, cap_record, filled_up, capped_rest, rest_why}
use Rattle.sled_core.specs.invariants.Caps.{segment_rest}
use Rattle.sled_core.specs.declared.iterator.scan.ScanEnd.TheVariants.{Full, Capped}
use Rattle.sled_core.specs.Reading.{StandsAt}
use Rattle.sled_core.specs.Scan.{EndsThere, IsEnd}
use Rattle.sled_core.proofs.Read.ScanLemmas.{aligned_offset}
use Rattle.sled_core.proofs.Reserve.Heads.{length-short_header_tail}

-- The number of a length has nine bytes at most, whatever it is.
pub number_short : (v : ℕ) → length (short_number v) ≤ 9
unfolding short_number
number_short v = grind (arith, nat_tests, length-take)

-- The header of a Cap has 32 bytes at most.
pub cap_header : (len number : ℕ) → number < 2 ^ 64 → 4 + length (short_header_tail kind.Cap len number cap_page) ≤ 32
cap_header len number small =
    let page = length-short_number cap_page (omega arith) in
    let numbered = length-short_number number small in
    omega (arith, length-short_header_tail kind.Cap len number cap_page, number_short len, numbered.1, page.1)

-- So it has room before the end.
pub length-cap_record : (sum : List ℕ → ℕ) (number len : ℕ) → number < 2 ^ 64 → length (cap_record sum number len) ≤ 32 + len
length-cap_record sum number len small =
    let zeros = length-replicate {A = ℕ} len 0 in
    let is = length-short_record sum kind.Cap cap_page number (replicate len 0) in
    let header = cap_header (length (replicate {A = ℕ} len 0)) number small in
    omega (arith, is, header, zeros)

pub length-filled_up : (text : List ℕ) (len : ℕ) → length text ≤ len → length (filled_up text len) ≡ len
length-filled_up text len within = omega (arith, length-append text (replicate (len - length text) 0), length-replicate {A = ℕ} (len - length text) 0, within)

-- A header has no room.
pub rest_is_zeros : (sum : List ℕ → ℕ) (size number from : ℕ) → size < from + 32 → (segment_rest sum size number from ≡ replicate (size - from) 0) × (rest_why size from ≡ Full)
unfolding segment_rest
rest_is_zeros sum size number from none =
    let test : nat_lt size (from + 32) ≡ true = grind (arith, nat_tests, none) in (
      ap (λ b. if b then replicate (size - from) 0 else capped_rest sum size number from) test,
      ap (λ b. if b then Full else Capped) test,
    )

-- A header has room.
pub rest_has_cap : (sum : List ℕ → ℕ) (size number from : ℕ) → from + 32 ≤ size → (segment_rest sum size number from ≡ capped_rest sum size number from) × (rest_why size from ≡ Capped)
unfolding segment_rest
rest_has_cap sum size number from room =
    let test : nat_lt size (from + 32) ≡ false = grind (arith, nat_tests, room) in (
      ap (λ b. if b then replicate (size - from) 0 else capped_rest sum size number from) test,
      ap (λ b. if b then Full else Capped) test,
    )

-- It fills the segment.
pub length-segment_rest : (sum : List ℕ → ℕ) (size number from : ℕ) → from ≤ size → number < 2 ^ 64 → length (segment_rest sum size number from) ≡ size - from
length-segment_rest sum size number from within small = elim (cases_lt size (from + 32)) [
  | inl none ↦ ap length (rest_is_zeros sum size number from none).0 ∙ length-replicate (size - from) 0
  | inr room ↦
      ap length (rest_has_cap sum size number from room).0
      ∙ length-filled_up (cap_record sum number (size - from - 32)) (size - from) (omega (arith, room, length-cap_record sum number (size - from - 32) (omega (arith, small))))
]

module _ (sum : List ℕ → ℕ) (size : ℕ) (log : List ℕ) (slot place from : ℕ) (slot_begins : slot % size ≡ 0) (within : from ≤ size)
    (in_file : slot + size ≤ length log) (slot_small : slot + size < 2 ^ 63) (number_small : place / size < 2 ^ 63)
    (there : part log (slot + from) (size - from) ≡ segment_rest sum size (place / size) from) where
  abbrev number : ℕ
  number = place / size

  -- Where a header has room a Cap stands.
  module _ (room : from + 32 ≤ size) where
    abbrev len : ℕ
    len = size - from - 32

    abbrev body : List ℕ
    body = replicate len 0

    abbrev text : List ℕ
    text = cap_record sum number len

    text_within : length text ≤ size - from
    text_within = omega (arith, room, length-cap_record sum number len (omega (arith, number_small)))

    text_there : part log (slot + from) (length text) ≡ text
    text_there =
        sym (take-take (length text) (size - from) (drop (slot + from) log) text_within)
        ∙ ap (take (length text)) (there ∙ (rest_has_cap sum size number from room).0)
        ∙ take_at text (replicate (size - from - length text) 0) (length text) refl

    valid : kind.Cap ≢ kind.Corrupted
    valid = λ same. cc

    is_cap : IsRecord sum text kind.Cap cap_page number body
    is_cap = short_is_record sum kind.Cap cap_page number body valid (omega arith) (omega (arith, number_small)) (omega (arith, length-replicate {A = ℕ} len 0, slot_small))

    abbrev header_with : List ℕ → MessageHeader
    header_with head = record { crc32 = flipped (sum (body ++ drop 4 head)); kind = kind.Cap; segment_number = record { 0 = number }; pid = cap_page; len = length body }

    cap_stands : StandsAt sum size log (slot + from) number (header_with is_cap.header) body (length text)
    cap_stands = record {
      header = is_cap.header;
      spelled = is_cap.spelled;
      is = text_there ∙ is_cap.is;
      counted = refl;
      numbered = refl;
      summed = refl;
      valid = valid;
      in_file = omega (arith, text_within, in_file, within);
      in_slot = omega (arith, aligned_offset slot from size slot_begins (omega (arith, room)), text_within, within);
      small = omega (arith, text_within, slot_small, within);
    }

    ends_capped : IsEnd sum size log slot place from Capped
    unfolding EndsThere
    ends_capped = (room, (header_with is_cap.header, body, length text, cap_stands, refl))

  -- A reader ends there.
  pub rest_ends : IsEnd sum size log slot place from (rest_why size from)
  rest_ends = elim (cases_lt size (from + 32)) [
    | inl none ↦ subst (IsEnd sum size log slot place from) (sym (rest_is_zeros sum size number from none).1) none
    | inr room ↦ subst (IsEnd sum size log slot place from) (sym (rest_has_cap sum size number from room).1) (ends_capped room)
  ]
