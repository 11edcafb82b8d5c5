use Rattle.std.proofs.Common.{◌≡◌, ◌∙◌, ◌+◌, ◌-◌, ◌%◌, ◌≤◌, ℕ, List, length, take, drop, min, true, ap, sym, subst, arith}
use Rattle.std.proofs.lemmas.List.{drop-drop}
use Rattle.sled_codec.specs.declared.serialization.message.MessageHeader.{MessageHeader}
use Rattle.sled_codec.specs.declared.serialization.message.SegmentNumber.{SegmentNumber}
use Rattle.sled_codec.specs.Places.{part}
use Rattle.sled_core.specs.inside.Reading.{IsLaid}
use Rattle.sled_core.specs.Reading.{file_of}
use Rattle.sled_core.proofs.Read.InSlot.{header_first, laid_there, same_record, slot_behind}
use Rattle.sled_core.proofs.Read.ScanLemmas.{aligned_offset}
use Rattle.sled_core.proofs.iterator.step.laid_at.Goals as goal

pub returns-in-None-clause-none : goal.returns-in-None-clause-none
returns-in-None-clause-none c = λ sum h body len stands.
    let offset : ℕ = c.args.buf.now.offset in
    let items : List ℕ = c.args.buf.now.buf.items in
    let there = slot_behind offset c.args.at items ∙ sym c.bytes_from-bytes.ensures in
    c.in-None.ensures.none stands.header _ h (header_first c.args.size (file_of c.args.buf.now) (offset + c.args.at) c.args.number.0 c.bytes_from-bytes.result.now there sum h body len stands) stands.spelled

pub returns-then-not-may_be-clause-none : goal.returns-then-not-may_be-clause-none
returns-then-not-may_be-clause-none c = λ sum h body len stands.
    let offset : ℕ = c.args.buf.now.offset in
    let at : ℕ = c.args.at in
    let size : ℕ = c.args.size in
    let items : List ℕ = c.args.buf.now.buf.items in
    let rest : List ℕ = c.bytes_from-bytes.result.now in
    let h0 : MessageHeader = c.in-Some.found.0 in
    let n : ℕ = c.in-Some.found.1 in
    let there = slot_behind offset at items ∙ sym c.bytes_from-bytes.ensures in
    let same = same_record size (file_of c.args.buf.now) (offset + at) c.args.number.0 rest there n h0 c.in-Some.ensures.found c.in-Some.ensures.inside.1 sum h body len stands in
    let begin = c.requires.begin in
    let place : (offset + at) % size ≡ at = aligned_offset offset at size c.requires.aligned (omega (arith, begin)) in
    let in_slot = same.2 in
    let in_file = same.3 in
    let room : c.min-room.result ≡ min (size - at) (length rest) = c.min-room.ensures in
    let fits : n + h0.len ≤ c.min-room.result = omega (arith, place, in_slot, in_file, room) in
    let numbered : h0.segment_number ≡ c.args.number = ap (λ n. let s : SegmentNumber = record { 0 = n } in s) same.1 in
    let yes : c.may_be.result ≡ true = c.may_be.ensures.1 (same.0, numbered, fits) in
    let no = c.if-not-may_be.true in
    cc

pub returns-clause-laid : goal.returns-clause-laid
returns-clause-laid c =
    let offset : ℕ = c.args.buf.now.offset in
    let at : ℕ = c.args.at in
    let size : ℕ = c.args.size in
    let lid : ℕ = offset + at in
    let log : List ℕ = file_of c.args.buf.now in
    let items : List ℕ = c.args.buf.now.buf.items in
    let rest : List ℕ = c.bytes_from-bytes.result.now in
    let h0 : MessageHeader = c.in-Some.found.0 in
    let n : ℕ = c.in-Some.found.1 in
    let bytes : rest ≡ drop at items = c.bytes_from-bytes.ensures in
    let there = slot_behind offset at items ∙ sym bytes in
    let begin = c.requires.begin in
    let slot = c.requires.slot in
    let place : lid % size ≡ at = aligned_offset offset at size c.requires.aligned (omega (arith, begin)) in
    let may = c.may_be.ensures.0 c.if-not-may_be.false in
    let fits = may.2 in
    let room : c.min-room.result ≡ min (size - at) (length rest) = c.min-room.ensures in
    let in_slot : lid % size + (n + h0.len) ≤ size = omega (arith, place, fits, room, begin) in
    let in_file : n + h0.len ≤ length rest = omega (arith, fits, room) in
    let laid = laid_there size log lid c.args.number.0 rest there n h0 c.in-Some.ensures.found c.in-Some.ensures.inside.1 may.0 (ap (λ (x : SegmentNumber). x.0) may.1) in_slot in_file (omega (arith, slot, begin)) in
    let body : take h0.len (drop n rest) ≡ part items (at + n) h0.len = ap (λ (l : List ℕ). take h0.len (drop n l)) bytes ∙ ap (take h0.len) (drop-drop n at items) in
    subst (λ (l : List ℕ). IsLaid size log lid c.args.number.0 l h0 (part items (at + n) h0.len)) (ap (take n) bytes)
    (subst (λ (l : List ℕ). IsLaid size log lid c.args.number.0 (take n rest) h0 l) body laid)
