use Rattle.std.proofs.Common.{◌≡◌, ◌∙◌, ◌+◌, ℕ, List, ◌++◌, length, drop, true, ap, sym, subst, arith, length-take, length-drop}
use Rattle.sled_codec.specs.declared.serialization.message.MessageHeader.{MessageHeader}
use Rattle.sled_codec.specs.Places.{part}
use Rattle.sled_codec.specs.Sums.{flipped}
use Rattle.sled_core.specs.Reading.{StandsAt, file_of}
use Rattle.sled_core.proofs.Read.InSlot.{summed_there}
use Rattle.sled_core.proofs.Read.ReadingLemmas.{laid_of, one_head, one_laid, one_text, stands_of}
use Rattle.sled_core.proofs.iterator.step.stands_at.Goals as goal

pub returns-in-None-clause-none : goal.returns-in-None-clause-none
returns-in-None-clause-none g c = c.in-None.ensures.none g.C.Checksum.sum_of

pub returns-then-not-has_sum-clause-none : goal.returns-then-not-has_sum-clause-none
returns-then-not-has_sum-clause-none g c = λ h body len stands.
    let sum = g.C.Checksum.sum_of in
    let size : ℕ = c.args.config.now.config.segment_size in
    let log : List ℕ = file_of c.args.buf.now in
    let at : ℕ = c.args.at in
    let lid : ℕ = c.args.buf.now.offset + at in
    let items : List ℕ = c.args.buf.now.buf.items in
    let h0 : MessageHeader = c.in-Some.found.0 in
    let n : ℕ = c.in-Some.found.1 in
    let header : List ℕ = part items at n in
    let text : List ℕ = part items (at + n) h0.len in
    let other = (laid_of sum size log lid c.args.number.0 h body len stands).0 in
    let laid = c.in-Some.ensures.laid in
    let heads = one_head size log lid c.args.number.0 stands.header header h h0 body text other laid in
    let same = one_laid size log lid c.args.number.0 stands.header header h h0 body text other laid in
    let texts = one_text size log lid c.args.number.0 stands.header header h h0 body text other laid in
    let headed = c.in-Some.ensures.headed in
    let taken : c.sum_in_place-sum.result ≡ sum (text ++ drop 4 header) = c.sum_in_place-sum.ensures.sum ∙ summed_there sum items at n h0.len (omega (arith, headed)) in
    let summed : h0.crc32 ≡ flipped c.sum_in_place-sum.result =
    sym (ap (λ (x : MessageHeader). x.crc32) same) ∙ stands.summed
    ∙ ap (λ (l : List ℕ). flipped (sum (l ++ drop 4 stands.header))) texts
    ∙ ap (λ (l : List ℕ). flipped (sum (text ++ drop 4 l))) heads
    ∙ ap flipped (sym taken) in
    let yes : c.has_sum.result ≡ true = c.has_sum.ensures.1 summed in
    let no = c.if-not-has_sum.true in
    cc

pub returns-clause-stands : goal.returns-clause-stands
returns-clause-stands g c =
    let sum = g.C.Checksum.sum_of in
    let size : ℕ = c.args.config.now.config.segment_size in
    let log : List ℕ = file_of c.args.buf.now in
    let at : ℕ = c.args.at in
    let lid : ℕ = c.args.buf.now.offset + at in
    let items : List ℕ = c.args.buf.now.buf.items in
    let h0 : MessageHeader = c.in-Some.found.0 in
    let n : ℕ = c.in-Some.found.1 in
    let header : List ℕ = part items at n in
    let text : List ℕ = part items (at + n) h0.len in
    let laid = c.in-Some.ensures.laid in
    let headed = c.in-Some.ensures.headed in
    let in_file = c.in-Some.ensures.in_file in
    let summed = c.has_sum.ensures.0 c.if-not-has_sum.false ∙ ap flipped (c.sum_in_place-sum.ensures.sum ∙ summed_there sum items at n h0.len (omega (arith, headed))) in
    let header_long : length header ≡ n = omega (arith, in_file, headed, length-take n (drop at items), length-drop at items) in
    let counted = laid.counted in
    let long : length header + length text ≡ n + h0.len = omega (arith, header_long, counted) in
    subst (λ k. StandsAt sum size log lid c.args.number.0 h0 text k) long (stands_of sum size log lid c.args.number.0 header h0 text laid summed)
