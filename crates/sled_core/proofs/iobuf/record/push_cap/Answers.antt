-- The header is written over the front of zeros that fill the segment, and the zeros behind it are the body and what fills up.
use Rattle.std.proofs.Common.{◌≡◌, ◌∙◌, ◌≤◌, ◌<◌, ◌+◌, ◌-◌, ◌^◌, ◌++◌, ℕ, List, length, take, drop, replicate, sym, ap, arith, refl, append_assoc, length-append}
use Rattle.std.proofs.lemmas.List.{take_at, drop_at, drop-drop, drop-replicate, length-replicate, replicate-append-replicate}
use Rattle.sled_codec.specs.declared.serialization.message.MessageHeader.{MessageHeader}
use Rattle.sled_codec.specs.declared.serialization.message.SegmentNumber.{SegmentNumber}
use Rattle.sled_codec.specs.declared.serialization.message.MessageKind.TheVariants as kind
use Rattle.sled_codec.specs.Sums.{flipped}
use Rattle.sled_codec.specs.Spelling.{low_bytes, short_header_tail, short_message_header}
use Rattle.sled_codec.specs.Record.{record_sum, short_record}
use Rattle.sled_codec.specs.Written.{written}
use Rattle.sled_core.specs.inside.Caps.{cap_page, cap_record, capped_rest, filled_up}
use Rattle.sled_core.proofs.Reserve.Heads.{length-short_message_header}
use Rattle.sled_core.proofs.Reached.CapStands.{cap_header}
use Rattle.sled_core.proofs.iobuf.record.push_cap.Goals as goal

-- zeros, and more zeros, behind a text
more_zeros : (text : List ℕ) (len more : ℕ) → text ++ replicate len 0 ++ replicate more 0 ≡ text ++ replicate (len + more) 0
more_zeros text len more = append_assoc text (replicate len 0) (replicate more 0) ∙ ap (λ (l : List ℕ). text ++ l) (replicate-append-replicate len more 0)

-- A header and some zeros behind it are filled up by the zeros of a rest but for as many as the header has bytes.
filled_header : (header : List ℕ) (len rest : ℕ) → length header + len ≤ rest → filled_up (header ++ replicate len 0) rest ≡ header ++ replicate (rest - length header) 0
filled_header header len rest within =
    let long : length (header ++ replicate len 0) ≡ length header + len = omega (arith, length-append header (replicate len 0), length-replicate {A = ℕ} len 0) in
    let count : len + (rest - length (header ++ replicate len 0)) ≡ rest - length header = omega (arith, long, within) in
    more_zeros header len (rest - length (header ++ replicate len 0)) ∙ ap (λ n. header ++ replicate n 0) count

-- So it is where it is written over the front of that rest.
written_header : (old header : List ℕ) (len rest : ℕ) → length header + len ≤ rest → written (old ++ replicate rest 0) (length old) header ≡ old ++ filled_up (header ++ replicate len 0) rest
written_header old header len rest within =
    let front : take (length old) (old ++ replicate rest 0) ≡ old = take_at old (replicate rest 0) (length old) refl in
    let back : drop (length old + length header) (old ++ replicate rest 0) ≡ replicate (rest - length header) 0 =
    sym (drop-drop (length header) (length old) (old ++ replicate rest 0)) ∙ ap (drop (length header)) (drop_at old (replicate rest 0) (length old) refl) ∙ drop-replicate (length header) rest 0 in
    ap (λ (l : List ℕ). l ++ header ++ drop (length old + length header) (old ++ replicate rest 0)) front
    ∙ ap (λ (l : List ℕ). old ++ header ++ l) back
    ∙ append_assoc old header (replicate (rest - length header) 0)
    ∙ ap (λ (l : List ℕ). old ++ l) (sym (filled_header header len rest within))

-- the header of a Cap with such a sum
abbrev header_with : ℕ → SegmentNumber → ℕ → MessageHeader
header_with s number len = record { crc32 = flipped s; kind = kind.Cap; segment_number = number; pid = cap_page; len = len }

-- It is the Cap's own where the sum is that of the zeros and the header behind its sum.
cap_with : (sum : List ℕ → ℕ) (s : ℕ) (number : SegmentNumber) (len : ℕ) → s ≡ sum (replicate len 0 ++ short_header_tail kind.Cap len number.0 cap_page)
    → short_message_header (header_with s number len) ++ replicate len 0 ≡ cap_record sum number.0 len
unfolding short_message_header short_record record_sum
cap_with sum s number len is =
    ap (λ n. low_bytes 4 (flipped n) ++ short_header_tail kind.Cap len number.0 cap_page ++ replicate len 0) is
    ∙ ap (λ n. low_bytes 4 (flipped (sum (replicate len 0 ++ short_header_tail kind.Cap n number.0 cap_page))) ++ short_header_tail kind.Cap n number.0 cap_page ++ replicate len 0) (sym (length-replicate len 0))

-- Zeros for the body, and then zeros up to the end.
module _ (old one two last : List ℕ) (at size : ℕ) (begins : at ≡ length old) (room : at + 32 ≤ size)
    (first : one ≡ old ++ replicate (at + (size - at - 32) - length old) 0) (same : two ≡ one) (second : last ≡ two ++ replicate (size - length two) 0) where
  body_behind : one ≡ old ++ replicate (size - at - 32) 0
  body_behind = first ∙ ap (λ n. old ++ replicate n 0) (let e : at + (size - at - 32) - length old ≡ size - at - 32 = omega (arith, begins) in e)

  body_is : drop at one ≡ replicate (size - at - 32) 0
  body_is = ap (drop at) body_behind ∙ drop_at old (replicate (size - at - 32) 0) at (sym begins)

  two_long : length two ≡ at + (size - at - 32)
  two_long = ap length (same ∙ body_behind) ∙ omega (arith, begins, length-append old (replicate (size - at - 32) 0), length-replicate {A = ℕ} (size - at - 32) 0)

  all_behind : last ≡ old ++ replicate (size - at) 0
  all_behind =
      second
      ∙ ap (λ (l : List ℕ). l ++ replicate (size - length two) 0) (same ∙ body_behind)
      ∙ more_zeros old (size - at - 32) (size - length two)
      ∙ ap (λ n. old ++ replicate n 0) (let e : size - at - 32 + (size - length two) ≡ size - at = omega (arith, two_long, room) in e)

  all_long : length last ≡ size
  all_long = ap length all_behind ∙ omega (arith, begins, room, length-append old (replicate (size - at) 0), length-replicate {A = ℕ} (size - at) 0)

  -- The header over the front of them makes them a Cap, filled up.
  cap_over : (sum : List ℕ → ℕ) (s : ℕ) (number : SegmentNumber) (tail : List ℕ) → number.0 < 2 ^ 64 → tail ≡ short_header_tail kind.Cap (size - at - 32) number.0 cap_page → s ≡ sum (drop at one ++ tail)
      → written last at (short_message_header (header_with s number (size - at - 32))) ≡ old ++ capped_rest sum size number.0 (length old)
  cap_over sum s number tail number_small tail_is summed =
      let header : List ℕ = short_message_header (header_with s number (size - at - 32)) in
      let small = cap_header (size - at - 32) number.0 number_small in
      let sum_is : s ≡ sum (replicate (size - at - 32) 0 ++ short_header_tail kind.Cap (size - at - 32) number.0 cap_page) =
      summed ∙ ap (λ (l : List ℕ). sum (l ++ tail)) body_is ∙ ap (λ (l : List ℕ). sum (replicate (size - at - 32) 0 ++ l)) tail_is in
      ap (λ (l : List ℕ). written l at header) all_behind
      ∙ ap (λ n. written (old ++ replicate (size - at) 0) n header) begins
      ∙ written_header old header (size - at - 32) (size - at) (omega (arith, room, small, length-short_message_header (header_with s number (size - at - 32))))
      ∙ ap (λ (l : List ℕ). old ++ filled_up l (size - at)) (cap_with sum s number (size - at - 32) sum_is)
      ∙ ap (λ n. old ++ capped_rest sum size number.0 n) begins

-- It has room.
pub serialize_into-requires-clause-room : goal.serialize_into-requires-clause-room
serialize_into-requires-clause-room g c =
    let at : ℕ = c.len-at.result in
    let header = cap_header (c.args.size - at - 32) c.args.number.0 (omega arith) in
    let whole = all_long c.args.bytes.now.items c.push_zeros.new.bytes.items c.sum_behind-sum.new.bytes.items c.push_zeros-2.new.bytes.items at c.args.size
    (omega (arith, c.len-at.ensures)) (omega (arith, c.len-at.ensures, c.requires.header)) c.push_zeros.ensures.bytes c.sum_behind-sum.ensures.bytes c.push_zeros-2.ensures.bytes in
    let there = ap length c.deref_mut.ensures.value in
    omega (arith, length-short_message_header (header_with c.sum_behind-sum.result c.args.number (c.args.size - at - 32)), header, whole, there, c.len-at.ensures, c.requires.header)

pub returns-clause-bytes : goal.returns-clause-bytes
returns-clause-bytes g c =
    take_at c.serialize_into.new.buf (drop (length c.serialize_into.new.buf) c.push_zeros-2.new.bytes.items) c.push_zeros-2.new.bytes.len (c.serialize_into.auto.buf ∙ c.deref_mut.ensures.len)
    ∙ c.serialize_into.ensures.bytes
    ∙ ap (λ (l : List ℕ). written l c.len-at.result (short_message_header (header_with c.sum_behind-sum.result c.args.number (c.args.size - c.len-at.result - 32)))) c.deref_mut.ensures.value
    ∙ cap_over c.args.bytes.now.items c.push_zeros.new.bytes.items c.sum_behind-sum.new.bytes.items c.push_zeros-2.new.bytes.items c.len-at.result c.args.size
    (omega (arith, c.len-at.ensures)) (omega (arith, c.len-at.ensures, c.requires.header)) c.push_zeros.ensures.bytes c.sum_behind-sum.ensures.bytes c.push_zeros-2.ensures.bytes
    g.C.Checksum.sum_of c.sum_behind-sum.result c.args.number c.tail.result.now (omega arith) (c.tail.ensures.tail ∙ c.fill.ensures.bytes) c.sum_behind-sum.ensures.sum
