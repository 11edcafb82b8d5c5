use Rattle.std.proofs.Common.{◌≡◌, ◌∙◌, ◌≤◌, ◌<◌, ◌+◌, ◌^◌, ◌++◌, ℕ, List, length, sym, ap, arith, length-append}
use Rattle.sled_core.specs.invariants.Caps.{segment_rest}
use Rattle.sled_core.proofs.Reached.CapStands.{length-segment_rest, rest_is_zeros, rest_has_cap}
use Rattle.sled_core.proofs.iobuf.record.push_rest.Goals as goal

-- Bytes with the rest of their segment behind them.
module _ (sum : List ℕ → ℕ) (size number : ℕ) (old new : List ℕ) where
  with_rest : (rest : List ℕ) → new ≡ old ++ rest → segment_rest sum size number (length old) ≡ rest → new ≡ old ++ segment_rest sum size number (length old)
  with_rest rest is same = is ∙ ap (λ (l : List ℕ). old ++ l) (sym same)

  rest_long : length old ≤ size → number < 2 ^ 64 → new ≡ old ++ segment_rest sum size number (length old) → length new ≡ size
  rest_long within small is =
      let long = length-segment_rest sum size number (length old) within small in
      ap length is ∙ omega (arith, within, long, length-append old (segment_rest sum size number (length old)))

pub returns-then-size-len-lt-MAX_MSG_HEADER_LEN-clause-bytes : goal.returns-then-size-len-lt-MAX_MSG_HEADER_LEN-clause-bytes
returns-then-size-len-lt-MAX_MSG_HEADER_LEN-clause-bytes g c =
    let old : List ℕ = c.args.bytes.now.items in
    let none : c.args.size < length old + 32 = omega (arith, c.if-size-len-lt-MAX_MSG_HEADER_LEN.true, c.len.ensures) in
    with_rest g.C.Checksum.sum_of c.args.size c.args.number.0 old c.push_zeros.new.bytes.items _ c.push_zeros.ensures.bytes (rest_is_zeros g.C.Checksum.sum_of c.args.size c.args.number.0 (length old) none).0

pub returns-else-size-len-lt-MAX_MSG_HEADER_LEN-clause-bytes : goal.returns-else-size-len-lt-MAX_MSG_HEADER_LEN-clause-bytes
returns-else-size-len-lt-MAX_MSG_HEADER_LEN-clause-bytes g c =
    let old : List ℕ = c.args.bytes.now.items in
    let room : length old + 32 ≤ c.args.size = omega (arith, c.if-size-len-lt-MAX_MSG_HEADER_LEN.false, c.len.ensures) in
    with_rest g.C.Checksum.sum_of c.args.size c.args.number.0 old c.push_cap.new.bytes.items _ c.push_cap.ensures.bytes (rest_has_cap g.C.Checksum.sum_of c.args.size c.args.number.0 (length old) room).0

pub returns-else-size-len-lt-MAX_MSG_HEADER_LEN-clause-len : goal.returns-else-size-len-lt-MAX_MSG_HEADER_LEN-clause-len
returns-else-size-len-lt-MAX_MSG_HEADER_LEN-clause-len g c =
    rest_long g.C.Checksum.sum_of c.args.size c.args.number.0 c.args.bytes.now.items c.push_cap.new.bytes.items c.requires.inside (omega arith)
    (returns-else-size-len-lt-MAX_MSG_HEADER_LEN-clause-bytes g c)
