use Rattle.std.proofs.Common.{◌≡◌, ◌≢◌, ◌∙◌, ◌≤◌, ◌<◌, ◌+◌, ◌-◌, ◌%◌, ◌^◌, ℕ, List, length, length-take, take, true, ap, sym, arith}
use Rattle.std.proofs.lemmas.Result.{err_from_is_err_and}
use Rattle.sled_codec.specs.Places.{part}
use Rattle.sled_codec.specs.Spelling.{SpellsMessageHeader}
use Rattle.sled_core.specs.Reading.{IsAnnounced}
use Rattle.sled_codec.specs.declared.serialization.message.MessageHeader.{MessageHeader}
use Rattle.sled_codec.specs.declared.serialization.message.SegmentNumber.{SegmentNumber}
use Rattle.sled_codec.specs.declared.serialization.message.MessageKind.TheVariants as kind
use Rattle.sled_core.proofs.Read.ReadingLemmas.{same_found, same_long, laid_here}
use Rattle.sled_core.proofs.logger.read_message.find_announced.Goals as goal

pub returns-then-not-may_be-clause-none : goal.returns-then-not-may_be-clause-none
returns-then-not-may_be-clause-none g c = λ sum h body len stands.
    let file : List ℕ = g.R.ReadAt.file c.args.reader.now in
    let h0 : MessageHeader = c.args.header in
    let n : ℕ = c.args.header_len in
    let same = same_found sum c.args.size file c.args.lid c.args.number.0 c.args.head c.requires.long (λ i lt. c.requires.bytes i) c.requires.head n h0 c.requires.found c.requires.short h body len stands in
    let long = same_long sum c.args.size file c.args.lid c.args.number.0 c.args.head c.requires.long (λ i lt. c.requires.bytes i) c.requires.head n h0 c.requires.found c.requires.short h body len stands in
    let valid : h0.kind ≢ kind.Corrupted = λ bad. stands.valid (ap (λ (x : MessageHeader). x.kind) same.1 ∙ bad) in
    let number : h0.segment_number.0 ≡ c.args.number.0 = sym (ap (λ (x : MessageHeader). x.segment_number.0) same.1) ∙ stands.numbered in
    let numbered : h0.segment_number ≡ c.args.number = ap (λ n. let s : SegmentNumber = record { 0 = n } in s) number in
    let in_slot = stands.in_slot in
    let fits : n + h0.len ≤ c.args.size - c.args.lid % c.args.size = omega (arith, long, in_slot) in
    let yes : c.may_be.result ≡ true = c.may_be.ensures.1 (valid, numbered, fits) in
    let no = c.if-not-may_be.true in
    cc

pub returns-then-not-is_offset-clause-none : goal.returns-then-not-is_offset-clause-none
returns-then-not-is_offset-clause-none g c = λ sum h body len stands.
    let long = same_long sum c.args.size (g.R.ReadAt.file c.args.reader.now) c.args.lid c.args.number.0 c.args.head c.requires.long (λ i lt. c.requires.bytes i) c.requires.head c.args.header_len c.args.header c.requires.found c.requires.short h body len stands in
    let small = stands.small in
    let yes : c.is_offset.result ≡ true = c.is_offset.ensures.1 (omega (arith, long, small)) in
    let no = c.if-not-is_offset.true in
    cc

-- What passes the tests is announced there.
announced : (size : ℕ) (file : List ℕ) (lid number : ℕ) (head : List ℕ) (n : ℕ) (h : MessageHeader) → length head ≡ 32 → n ≤ 32 → take n head ≡ part file lid n → SpellsMessageHeader (take n head) h
    → h.kind ≢ kind.Corrupted → h.segment_number.0 ≡ number → 0 < size → 8 ≤ n → n + h.len ≤ size - lid % size → IsAnnounced size file lid number
announced size file lid number head n h long short is spelled valid numbered some least fits =
    let count : length (take n head) ≡ n = omega (arith, length-take n head, long, short) in
    record {
      header = take n head;
      announced = h;
      spelled = spelled;
      is = ap (part file lid) count ∙ sym is;
      numbered = numbered;
      valid = valid;
      in_slot = omega (arith, count, fits, least, some);
    }

pub returns-in_err-body-clause-memory : goal.returns-in_err-body-clause-memory
returns-in_err-body-clause-memory g c =
    let may = c.may_be.ensures.0 c.if-not-may_be.false in
    let e = err_from_is_err_and c.from_residual.result c.from_residual.ensures.1 in
    rw (e.1, e.2) (λ _. announced c.args.size (g.R.ReadAt.file c.args.reader.now) c.args.lid c.args.number.0 c.args.head c.args.header_len c.args.header c.requires.long c.requires.short
    (c.requires.head c.args.header_len c.requires.short c.requires.there) c.requires.found may.0 (ap (λ (x : SegmentNumber). x.0) may.1) c.requires.size.0 c.requires.some may.2)

pub returns-in-Some-clause-found : goal.returns-in-Some-clause-found
returns-in-Some-clause-found g c =
    let file : List ℕ = g.R.ReadAt.file c.args.reader.now in
    let h0 : MessageHeader = c.args.header in
    let n : ℕ = c.args.header_len in
    let may = c.may_be.ensures.0 c.if-not-may_be.false in
    let read = rw c.in-Some.is at c.in_ok-body.ensures.body in
    let len : length c.in-Some.body.items ≡ h0.len = rw c.in-Some.is at c.in_ok-body.ensures.len in
    let end : c.args.lid + (n + h0.len) < 2 ^ 64 = c.is_offset.ensures.0 c.if-not-is_offset.false in
    laid_here (λ _. 0) c.args.size file c.args.lid c.args.number.0 c.args.head c.requires.long (λ i lt. c.requires.bytes i) c.requires.head n h0 c.requires.found c.requires.short c.in-Some.body.items may.0
    (ap (λ (x : SegmentNumber). x.0) may.1) read.0 len may.2 read.1 end

pub returns-in-None-clause-none : goal.returns-in-None-clause-none
returns-in-None-clause-none g c = λ sum h body len stands.
    let long = same_long sum c.args.size (g.R.ReadAt.file c.args.reader.now) c.args.lid c.args.number.0 c.args.head c.requires.long (λ i lt. c.requires.bytes i) c.requires.head c.args.header_len c.args.header c.requires.found c.requires.short h body len stands in
    let in_file = stands.in_file in
    let early = rw c.in-None.is at c.in_ok-body.ensures.body in
    absurd (omega (arith, long, in_file, early))
