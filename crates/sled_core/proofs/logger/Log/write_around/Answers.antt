-- The segment that has the place is looked at, and in it the first sealed buffer that ends behind it.
use Rattle.std.proofs.Common.{rules, ◌≡◌, ◌∙◌, ◌⊎◌, ◌≤◌, ◌+◌, ap, sym, refl, arith, inl, inr, w64, SFits, ℕ, pos, List, [], Some, subst, drop, length, set}
use Rattle.std.proofs.lemmas.Int.{to_z-of_z}
use Rattle.sled_store.specs.Device.{Event}
use Rattle.sled_store.specs.Script.{Performs, after_all}
use Rattle.sled_store.proofs.Traces.ScriptLemmas.{performs_nothing}
use Rattle.sled_core.specs.Buffers.{first_open_in}
use Rattle.sled_core.specs.Fits.{line_of, segment_size_of}
use Rattle.sled_core.specs.ReadBuffer.{held_at, settling}
use Rattle.sled_core.proofs.Line.KeptCalls.{writing_still}
use Rattle.sled_core.specs.inside.Turned.{promoted, written_now}
use Rattle.sled_core.proofs.Line.HeaderMarks.{segment_same, segment_written}
use Rattle.sled_core.proofs.Line.LogSpans.{same_buffers, written_starts}
use Rattle.sled_core.proofs.Line.MarksJoin.{joins_same}
use Rattle.sled_core.proofs.Line.Outcomes.{answers_free, done_free, either, on_both, on_err, on_ok}
use Rattle.sled_core.proofs.Line.Settles.{CanWrite, IsStill, LooksAt, account_it, found_held, held_none, inside, is_ready_there, ledger_it, looks, number_within, settling_it, some_held, still_early, still_gone, wrote_all, wrote_place, wrote_without}
use Rattle.sled_core.proofs.Line.Pools.{pools_still}
use Rattle.sled_core.proofs.logger.Log.write_around.Given.{Over}
use Rattle.sled_core.proofs.logger.Log.write_around.Goals as goal

pub segment-requires : goal.segment-requires
segment-requires g c =
    let log = c.args.self.now in
    let behind = c.requires.behind in
    subst (λ k. k ≤ length log.segments.behind.items) (sym c.segment_of-n.ensures)
    (number_within log c.args.place (omega (arith, behind)) c.requires.sealed)

pub around-k-requires-clause-sealed : goal.around-k-requires-clause-sealed
around-k-requires-clause-sealed g c =
    let looked = looks c.args.self.now c.requires.behind c.requires.sealed c.segment_of-n.ensures c.segment.ensures.view c.segment.ensures.place in
    let low = looked.low in
    let up = inside looked in
    omega (arith, low, up)

-- It lies in what was written without a gap.

early : (g : Over) (c : goal.Then-at-buffer g) → IsStill c.args.self.now c.args.place
early g c =
    still_early (looks c.args.self.now c.requires.behind c.requires.sealed c.segment_of-n.ensures c.segment.ensures.view c.segment.ensures.place)
    c.if-at-buffer.true

pub returns-then-at-buffer-clause-written : goal.returns-then-at-buffer-clause-written
returns-then-at-buffer-clause-written g c = (early g c).written

pub returns-then-at-buffer-clause-calls : goal.returns-then-at-buffer-clause-calls
returns-then-at-buffer-clause-calls g c =
    sym (ap (λ (es : List Event). after_all es (g.D.Device.trace c.args.self.now.config.device)) ((early g c).calls g.C.Checksum.sum_of))

pub returns-then-at-buffer-clause-at_most : goal.returns-then-at-buffer-clause-at_most
returns-then-at-buffer-clause-at_most g c = performs_nothing _ _ _ refl

pub returns-then-at-buffer-clause-keeps : goal.returns-then-at-buffer-clause-keeps
returns-then-at-buffer-clause-keeps g c = writing_still g.D.Device.trace g.C.Checksum.sum_of c.args.self.now

pub returns-then-at-buffer-clause-answers : goal.returns-then-at-buffer-clause-answers
returns-then-at-buffer-clause-answers g c = ((early g c).held g.C.Checksum.sum_of, (λ never. never), refl, c.requires.fault, refl)

pub returns-then-at-buffer-clause-one : goal.returns-then-at-buffer-clause-one
returns-then-at-buffer-clause-one g c = (early g c).alone

pub returns-then-at-buffer-clause-without : goal.returns-then-at-buffer-clause-without
returns-then-at-buffer-clause-without g c = ((early g c).without, (early g c).ledger)

-- That buffer is written.

gone : (g : Over) (c : goal.Then-b g) → IsStill c.args.self.now c.args.place
gone g c =
    still_gone (looks c.args.self.now c.requires.behind c.requires.sealed c.segment_of-n.ensures c.segment.ensures.view c.segment.ensures.place)
    (record { above = c.if-at-buffer.false; there = c.around-k.ensures.there; point = c.around-k.ensures.point }) c.if-b.true

pub returns-then-b-clause-written : goal.returns-then-b-clause-written
returns-then-b-clause-written g c = (gone g c).written

pub returns-then-b-clause-calls : goal.returns-then-b-clause-calls
returns-then-b-clause-calls g c =
    sym (ap (λ (es : List Event). after_all es (g.D.Device.trace c.args.self.now.config.device)) ((gone g c).calls g.C.Checksum.sum_of))

pub returns-then-b-clause-at_most : goal.returns-then-b-clause-at_most
returns-then-b-clause-at_most g c = performs_nothing _ _ _ refl

pub returns-then-b-clause-keeps : goal.returns-then-b-clause-keeps
returns-then-b-clause-keeps g c = writing_still g.D.Device.trace g.C.Checksum.sum_of c.args.self.now

pub returns-then-b-clause-answers : goal.returns-then-b-clause-answers
returns-then-b-clause-answers g c = ((gone g c).held g.C.Checksum.sum_of, (λ never. never), refl, c.requires.fault, refl)

pub returns-then-b-clause-one : goal.returns-then-b-clause-one
returns-then-b-clause-one g c = (gone g c).alone

pub returns-then-b-clause-without : goal.returns-then-b-clause-without
returns-then-b-clause-without g c = ((gone g c).without, (gone g c).ledger)

-- It has an open reservation.

pub least_open-requires-clause-some : goal.least_open-requires-clause-some
least_open-requires-clause-some g c =
    some_held (looks c.args.self.now c.requires.behind c.requires.sealed c.segment_of-n.ensures c.segment.ensures.view c.segment.ensures.place)
    (record { above = c.if-at-buffer.false; there = c.around-k.ensures.there; point = c.around-k.ensures.point })
    (let some = c.if-b-gt0.true in omega (arith, some)) c.first_of-first.result c.first_of-first.ensures

held_up : (g : Over) (c : goal.After-least_open g) → (from : ℕ)
    × (first_open_in (drop c.first_of-first.result c.segment.result.1.now.reserved.items) ≡ Some from)
    × (held_at g.C.Checksum.sum_of c.args.self.now (pos c.args.place) ≡ Some (c.segment.result.0.place + from))
    × (settling g.C.Checksum.sum_of c.args.self.now (pos c.args.place) ≡ [])
held_up g c =
    found_held (looks c.args.self.now c.requires.behind c.requires.sealed c.segment_of-n.ensures c.segment.ensures.view c.segment.ensures.place)
    (record { above = c.if-at-buffer.false; there = c.around-k.ensures.there; point = c.around-k.ensures.point })
    c.if-b.false (let some = c.if-b-gt0.true in omega (arith, some)) g.C.Checksum.sum_of c.first_of-first.result c.first_of-first.ensures

pub returns-then-b-gt0-clause-calls : goal.returns-then-b-gt0-clause-calls
returns-then-b-gt0-clause-calls g c =
    sym (ap (λ (es : List Event). after_all es (g.D.Device.trace c.args.self.now.config.device)) (held_up g c).3)

pub returns-then-b-gt0-clause-at_most : goal.returns-then-b-gt0-clause-at_most
returns-then-b-gt0-clause-at_most g c = performs_nothing _ _ _ refl

pub returns-then-b-gt0-clause-keeps : goal.returns-then-b-gt0-clause-keeps
returns-then-b-gt0-clause-keeps g c = writing_still g.D.Device.trace g.C.Checksum.sum_of c.args.self.now

pub returns-then-b-gt0-clause-answers : goal.returns-then-b-gt0-clause-answers
returns-then-b-gt0-clause-answers g c =
    let fits : SFits w64 c.least_open.result = search rules in
    let held = held_up g c in
    let named = to_z-of_z w64 c.least_open.result fits ∙ c.least_open.ensures held.0 held.1 in
    ((c.segment.result.0.place + held.0, held.2, named), (λ never. never), refl, c.requires.fault, refl)

pub returns-then-b-gt0-clause-same : goal.returns-then-b-gt0-clause-same
returns-then-b-gt0-clause-same g c = inl (refl, record { synced = refl; written = refl; still = λ sound. refl; account = refl }, refl)

-- It is written.

abbrev looked : (g : Over) (c : goal.After-write_buffer-arg-1 g) → LooksAt c.args.self.now c.args.place
looked g c =
    looks c.args.self.now c.requires.behind c.requires.sealed c.segment_of-n.ensures c.segment.ensures.view c.segment.ensures.place

abbrev can : (g : Over) (c : goal.After-write_buffer-arg-1 g) → CanWrite (looked g c) c.around-k.result.0
can g c = record {
  buffer = c.around-k.result.1;
  around = record { above = c.if-at-buffer.false; there = c.around-k.ensures.there; point = c.around-k.ensures.point };
  fresh = c.if-b.false;
  closed = (let none = c.if-b-gt0.false in omega (arith, none));
}

pub write_buffer-requires-clause-ready : goal.write_buffer-requires-clause-ready
write_buffer-requires-clause-ready g c = is_ready_there (looked g c) (can g c)

pub returns-clause-written : goal.returns-clause-written
returns-clause-written g c =
    let looked = looked g c.before in
    on_ok c.write_buffer.result _ _ (wrote_place looked (can g c.before) c.write_buffer.new.self) (c.write_buffer.ensures.line looked.segment looked.among)

pub returns-clause-calls : goal.returns-clause-calls
returns-clause-calls g c =
    let same = settling_it (looked g c.before) (can g c.before) g.C.Checksum.sum_of in
    done_free c.write_buffer.result _ _ _ _ _
    (λ made. made ∙ ap (λ (es : List Event). after_all es (g.D.Device.trace c.args.self.now.config.device)) same)
    c.write_buffer.ensures.answers c.write_buffer.ensures.calls

pub returns-clause-at_most : goal.returns-clause-at_most
returns-clause-at_most g c =
    subst (λ (es : List Event). Performs es (g.D.Device.trace c.args.self.now.config.device) (g.D.Device.trace c.write_buffer.new.self.config.device))
    (settling_it (looked g c.before) (can g c.before) g.C.Checksum.sum_of) c.write_buffer.ensures.at_most

pub returns-clause-answers : goal.returns-clause-answers
returns-clause-answers g c =
    answers_free c.write_buffer.result _ _ _ _ (held_none (looked g c.before) (can g c.before) g.C.Checksum.sum_of) c.write_buffer.ensures.answers

-- The segments are those behind the write of the buffer, or, where that failed, as they were.
abbrev lines : (g : Over) (c : goal.After-write_buffer g) → Type 0
lines g c =
    let old = c.args.self.now in
    let new = c.write_buffer.new.self in
    (line_of new ≡ line_of old)
    ⊎ (line_of new
    ≡ promoted (segment_size_of old) (set (line_of old) c.segment_of-n.result (written_now c.around-k.result.0 (looked g c.before).segment)))

left_line : (g : Over) (c : goal.After-write_buffer g) → lines g c
left_line g c =
    let looked = looked g c.before in
    either c.write_buffer.result _ _ (lines g c) (λ wrote. inr wrote)
    (λ failed. elim failed [ inl none ↦ inl none.line | inr one ↦ inr (one.line looked.segment looked.among) ])
    (c.write_buffer.ensures.line looked.segment looked.among) c.write_buffer.ensures.unwritten

pub returns-clause-segment : goal.returns-clause-segment
returns-clause-segment g c =
    let old = c.args.self.now in
    let new = c.write_buffer.new.self in
    let looked = looked g c.before in
    elim (left_line g c) [
      | inl same ↦ segment_same old new same
      | inr wrote ↦ segment_written old new (segment_size_of old) c.segment_of-n.result c.around-k.result.0 looked.segment looked.among wrote
    ]

pub returns-clause-start : goal.returns-clause-start
returns-clause-start g c =
    let old = c.args.self.now in
    let new = c.write_buffer.new.self in
    let looked = looked g c.before in (
      elim (left_line g c) [
        | inl same ↦ (same_buffers old new same).1
        | inr wrote ↦ written_starts old new (segment_size_of old) c.segment_of-n.result looked.segment c.around-k.result.0 looked.among wrote
      ],
      c.write_buffer.ensures.position,
    )

pub returns-clause-without : goal.returns-clause-without
returns-clause-without g c =
    let looked = looked g c.before in
    on_both c.write_buffer.result _ _ _
    (λ line ledger. (wrote_without looked (can g c.before) c.write_buffer.new.self line, ledger ∙ sym (ledger_it looked (can g c.before))))
    (c.write_buffer.ensures.line looked.segment looked.among) (c.write_buffer.ensures.ledger looked.segment looked.among)

pub returns-clause-same : goal.returns-clause-same
returns-clause-same g c =
    let old = c.args.self.now in
    let new = c.write_buffer.new.self in
    let looked = looked g c.before in
    let can = can g c.before in
    on_err c.write_buffer.result _ _ (λ failed. elim failed [
      | inl none ↦ inl ((same_buffers old new none.line).0, none.none, none.ledger)
      | inr one ↦ inr (
        record {
          failed = one.failed;
          waiting = wrote_without looked can new (one.line looked.segment looked.among);
          account = one.account looked.segment looked.among ∙ account_it looked can;
          written = one.written;
          way = one.way;
        },
        held_none looked can g.C.Checksum.sum_of,
      )
    ]) c.write_buffer.ensures.unwritten

pub returns-clause-one : goal.returns-clause-one
returns-clause-one g c = λ all.
    let looked = looked g c.before in
    on_ok c.write_buffer.result _ _ (λ wrote. wrote_all looked (can g c.before) c.write_buffer.new.self wrote all)
    (c.write_buffer.ensures.line looked.segment looked.among)

-- The slots and the marks are those behind what was written.
-- The mark that joins isn't above what was synced.

pub returns-then-at-buffer-clause-joined : goal.returns-then-at-buffer-clause-joined
returns-then-at-buffer-clause-joined g c = joins_same g.D.Device.trace g.C.Checksum.sum_of c.args.self.now c.args.self.now refl

pub returns-then-b-clause-joined : goal.returns-then-b-clause-joined
returns-then-b-clause-joined g c = joins_same g.D.Device.trace g.C.Checksum.sum_of c.args.self.now c.args.self.now refl

pub returns-then-b-gt0-clause-joined : goal.returns-then-b-gt0-clause-joined
returns-then-b-gt0-clause-joined g c = joins_same g.D.Device.trace g.C.Checksum.sum_of c.args.self.now c.args.self.now refl

pub returns-then-at-buffer-clause-pooled : goal.returns-then-at-buffer-clause-pooled
returns-then-at-buffer-clause-pooled g c = pools_still c.args.self.now

pub returns-then-b-clause-pooled : goal.returns-then-b-clause-pooled
returns-then-b-clause-pooled g c = pools_still c.args.self.now

pub returns-then-b-gt0-clause-pooled : goal.returns-then-b-gt0-clause-pooled
returns-then-b-gt0-clause-pooled g c = pools_still c.args.self.now
