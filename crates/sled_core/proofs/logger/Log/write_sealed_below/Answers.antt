use Rattle.std.proofs.Common.{List, ap, take, rules, ◌≡◌, ◌∙◌, ◌+◌, true, inl, inr, sym, refl, arith, w64, SFits}
use Rattle.std.proofs.lemmas.Int.{to_z-of_z}
use Rattle.std.proofs.lemmas.Result.{err_from_is_err_and}
use Rattle.sled_store.proofs.Traces.ScriptLemmas.{performs_whole}
use Rattle.sled_core.specs.Fits.{ledger_of, line_of, segment_size_of, waiting_of}
use Rattle.sled_core.specs.inside.Turned.{ready_below}
use Rattle.sled_core.proofs.Line.KeptCalls.{writing_further}
use Rattle.sled_core.proofs.Line.Advanced.{advanced_further, advanced_still, all_made, failed_any, failed_current, failed_further, failed_one, first_step, first_view, holds_up, past_left, ready_in, same_current, still_short, stuck_left, stuck_one, write_failed}
use Rattle.sled_core.proofs.Line.Below.{IsStuck, begin_none, first_fewer, free_past, held_past}
use Rattle.sled_core.proofs.Line.HeaderMarks.{segment_further, segment_same}
use Rattle.sled_core.proofs.Line.CameFar.{failed_front, wrote_front}
use Rattle.sled_core.proofs.Line.LogSpans.{leaves_above, same_buffers}
use Rattle.sled_core.proofs.Line.Outcomes.{all_err}
use Rattle.sled_core.proofs.Line.Pools.{pools_further, pools_still}
use Rattle.sled_core.proofs.logger.Log.write_sealed_below.Given as given
use Rattle.sled_core.proofs.logger.Log.write_sealed_below.Goals as goal
use Rattle.sled_core.specs.Ledger.{ledger_behind}
use Rattle.sled_core.specs.Waiting.{BufferAt}
use Rattle.sled_core.proofs.Line.AccountBehind.{front_whole}

pub loop-self-init : goal.loop-self-init
loop-self-init g c = record {
  advanced = advanced_still g.D.Device.trace g.C.Checksum.sum_of g.D.Device.faults c.args.to c.args.self.now c.requires.fault;
  pooled = pools_still c.args.self.now;
}

pub write_buffer-requires-clause-fault : goal.write_buffer-requires-clause-fault
write_buffer-requires-clause-fault g c = c.loop-self.invariant.advanced.fault

pub write_buffer-requires-clause-ready : goal.write_buffer-requires-clause-ready
write_buffer-requires-clause-ready g c = ready_in c.loop-self.self c.args.to (sym c.has_ready_below.ensures ∙ c.loop-self-test.true)

pub loop-self-smaller : goal.loop-self-smaller
loop-self-smaller g c =
    let mid = c.loop-self.self in
    let new = c.write_buffer.new.self in
    let ready : ready_below (line_of mid) c.args.to ≡ true = sym c.has_ready_below.ensures ∙ c.loop-self-test.true in
    let fewer = first_fewer c.args.to (waiting_of mid) (waiting_of new) _ (first_step c.args.to mid new ready (c.in_ok-write_buffer.ensures.line (first_view mid) refl)) in
    omega (arith, fewer)

pub loop-self-preserved : goal.loop-self-preserved
loop-self-preserved g c =
    let mid = c.loop-self.self in
    let ready : ready_below (line_of mid) c.args.to ≡ true = sym c.has_ready_below.ensures ∙ c.loop-self-test.true in
    record {
      advanced = advanced_further g.D.Device.trace g.C.Checksum.sum_of g.D.Device.faults c.args.to c.args.self.now mid c.write_buffer.new.self c.loop-self.invariant.advanced ready (c.in_ok-write_buffer.ensures.line (first_view mid) refl)
          c.write_buffer.ensures.keeps c.write_buffer.ensures.position c.in_ok-write_buffer.ensures.calls c.in_ok-write_buffer.ensures.answers.1 c.in_ok-write_buffer.ensures.answers.2 (c.in_ok-write_buffer.ensures.ledger (first_view mid) refl);
      pooled = pools_further c.args.self.now mid c.write_buffer.new.self 0 c.loop-self.invariant.pooled c.write_buffer.ensures.pooled;
    }

-- A write failed: the buffer wasn't written, or the step behind it failed.

pub returns-in_err-write_buffer-clause-at_most : goal.returns-in_err-write_buffer-clause-at_most
returns-in_err-write_buffer-clause-at_most g c =
    failed_further g.D.Device.trace g.C.Checksum.sum_of g.D.Device.faults c.args.to c.args.self.now c.loop-self.self c.write_buffer.new.self c.requires.sealed c.loop-self.invariant.advanced (sym c.has_ready_below.ensures ∙ c.loop-self-test.true) c.write_buffer.ensures.at_most

pub returns-in_err-write_buffer-clause-keeps : goal.returns-in_err-write_buffer-clause-keeps
returns-in_err-write_buffer-clause-keeps g c =
    writing_further g.D.Device.trace g.C.Checksum.sum_of c.args.self.now c.loop-self.self c.write_buffer.new.self c.loop-self.invariant.advanced.keeps c.write_buffer.ensures.keeps

pub returns-in_err-write_buffer-clause-answers : goal.returns-in_err-write_buffer-clause-answers
returns-in_err-write_buffer-clause-answers g c =
    let e = err_from_is_err_and c.from_residual.result c.from_residual.ensures.1 in
    rw (e.1, e.2) (write_failed (Unit {0}) (Unit {0}) c.in_err-write_buffer.field-0.0 _ ⊥ _ _ _ _ (λ never. never) c.loop-self.invariant.advanced.counted c.in_err-write_buffer.ensures.answers)

pub returns-in_err-write_buffer-clause-current : goal.returns-in_err-write_buffer-clause-current
returns-in_err-write_buffer-clause-current g c =
    let mid = c.loop-self.self in
    let new = c.write_buffer.new.self in
    let so_far = c.loop-self.invariant.advanced in
    elim c.in_err-write_buffer.ensures.unwritten [
      | inl none ↦ (same_current mid new none.line ∙ so_far.current, segment_further c.args.self.now mid new so_far.segment (segment_same mid new none.line))
      | inr one ↦ failed_current g.D.Device.trace g.C.Checksum.sum_of g.D.Device.faults c.args.to c.args.self.now mid new so_far
          (sym c.has_ready_below.ensures ∙ c.loop-self-test.true) (one.line (first_view mid) refl)
    ]

pub returns-in_err-write_buffer-clause-one : goal.returns-in_err-write_buffer-clause-one
returns-in_err-write_buffer-clause-one g c = λ few.
    let e = err_from_is_err_and c.from_residual.result c.from_residual.ensures.1 in
    rw e.1 (failed_one g.D.Device.trace g.C.Checksum.sum_of g.D.Device.faults c.args.to c.args.self.now c.loop-self.self c.write_buffer.new.self
    c.loop-self.invariant.advanced (sym c.has_ready_below.ensures ∙ c.loop-self-test.true)
    (elim c.in_err-write_buffer.ensures.unwritten [ inl none ↦ inr none.line | inr one ↦ inl one.failed ]) few)

pub returns-in_err-write_buffer-clause-front : goal.returns-in_err-write_buffer-clause-front
returns-in_err-write_buffer-clause-front g c =
    let mid = c.loop-self.self in
    let new = c.write_buffer.new.self in
    let ready : ready_below (line_of mid) c.args.to ≡ true = sym c.has_ready_below.ensures ∙ c.loop-self-test.true in
    all_err c.from_residual.result _ (elim c.in_err-write_buffer.ensures.unwritten [
      | inl none ↦
          let same = same_buffers mid new none.line in
          wrote_front g.D.Device.trace g.C.Checksum.sum_of g.D.Device.faults c.args.to c.args.self.now mid c.requires.sealed c.loop-self.invariant.advanced
          new same.0 same.1 c.write_buffer.ensures.position none.none none.ledger (still_short c.args.to mid new ready none.line)
      | inr one ↦
          failed_front g.D.Device.trace g.C.Checksum.sum_of g.D.Device.faults c.args.to c.args.self.now mid c.requires.sealed c.loop-self.invariant.advanced
          new ready one c.write_buffer.ensures.position
    ])

pub returns-in_err-write_buffer-clause-idle : goal.returns-in_err-write_buffer-clause-idle
returns-in_err-write_buffer-clause-idle g c = λ none.
    absurd (failed_any g.D.Device.trace g.C.Checksum.sum_of g.D.Device.faults c.args.to c.args.self.now c.loop-self.self c.requires.sealed c.loop-self.invariant.advanced (sym c.has_ready_below.ensures ∙ c.loop-self-test.true) none)

-- An open reservation holds the rest up.

pub least_held-requires : goal.least_held-requires
least_held-requires g c =
    (stuck_left g.D.Device.trace g.C.Checksum.sum_of g.D.Device.faults c.args.to c.args.self.now c.loop-self.self c.requires.sealed c.loop-self.invariant.advanced (omega (arith, c.synced_end.ensures.is, c.if-synced_end-to.true)) (sym c.has_ready_below.ensures ∙ c.loop-self-test.false)).some

stuck : (g : given.Over) (c : goal.After-least_held g) → IsStuck c.args.to c.loop-self.self.segments.first.site.place (waiting_of c.loop-self.self) c.loop-self.self.segments.first.buffer.reserved.items
stuck g c =
    stuck_left g.D.Device.trace g.C.Checksum.sum_of g.D.Device.faults c.args.to c.args.self.now c.loop-self.self c.requires.sealed c.loop-self.invariant.advanced (omega (arith, c.synced_end.ensures.is, c.if-synced_end-to.true)) (sym c.has_ready_below.ensures ∙ c.loop-self-test.false)

pub returns-then-synced_end-to-clause-calls : goal.returns-then-synced_end-to-clause-calls
returns-then-synced_end-to-clause-calls g c = all_made g.D.Device.trace g.C.Checksum.sum_of g.D.Device.faults c.args.to c.args.self.now c.loop-self.self c.requires.sealed c.loop-self.invariant.advanced (stuck g c).none

pub returns-then-synced_end-to-clause-at_most : goal.returns-then-synced_end-to-clause-at_most
returns-then-synced_end-to-clause-at_most g c =
    performs_whole _ _ _ (all_made g.D.Device.trace g.C.Checksum.sum_of g.D.Device.faults c.args.to c.args.self.now c.loop-self.self c.requires.sealed c.loop-self.invariant.advanced (stuck g c).none)

pub returns-then-synced_end-to-clause-keeps : goal.returns-then-synced_end-to-clause-keeps
returns-then-synced_end-to-clause-keeps g c = c.loop-self.invariant.advanced.keeps

pub returns-then-synced_end-to-clause-answers : goal.returns-then-synced_end-to-clause-answers
returns-then-synced_end-to-clause-answers g c =
    let held = stuck g c in
    let now = c.loop-self.self in
    let fits : SFits w64 c.least_held.result = search rules in (
      (now.segments.first.site.place + held.from, holds_up g.D.Device.trace g.C.Checksum.sum_of g.D.Device.faults c.args.to c.args.self.now now c.requires.sealed c.loop-self.invariant.advanced ∙ held.holds, to_z-of_z w64 c.least_held.result fits ∙ c.least_held.ensures held.from held.first),
      (λ none. none),
      refl,
      c.loop-self.invariant.advanced.fault,
      c.loop-self.invariant.advanced.counted,
    )

pub returns-then-synced_end-to-clause-current : goal.returns-then-synced_end-to-clause-current
returns-then-synced_end-to-clause-current g c = (c.loop-self.invariant.advanced.current, c.loop-self.invariant.advanced.segment)

pub returns-then-synced_end-to-clause-one : goal.returns-then-synced_end-to-clause-one
returns-then-synced_end-to-clause-one g c = λ few. inr (stuck_one g.D.Device.trace g.C.Checksum.sum_of g.D.Device.faults c.args.to c.args.self.now c.loop-self.self c.loop-self.invariant.advanced (stuck g c) few)

pub returns-then-synced_end-to-clause-front : goal.returns-then-synced_end-to-clause-front
returns-then-synced_end-to-clause-front g c =
    let now = c.loop-self.self in
    wrote_front g.D.Device.trace g.C.Checksum.sum_of g.D.Device.faults c.args.to c.args.self.now now c.requires.sealed c.loop-self.invariant.advanced now refl refl (λ m. refl) (record { synced = refl; written = refl; still = λ sound. refl; account = refl }) refl
    (omega (arith, c.synced_end.ensures.is, c.if-synced_end-to.true))

pub returns-then-synced_end-to-clause-idle : goal.returns-then-synced_end-to-clause-idle
returns-then-synced_end-to-clause-idle g c = λ _. c.loop-self.invariant.advanced.counted

-- All that begins below the place is written.

pub returns-clause-calls : goal.returns-clause-calls
returns-clause-calls g c =
    let now = c.loop-self.self in
    all_made g.D.Device.trace g.C.Checksum.sum_of g.D.Device.faults c.args.to c.args.self.now now c.requires.sealed c.loop-self.invariant.advanced
    (free_past c.args.to (waiting_of now) (past_left g.D.Device.trace g.C.Checksum.sum_of g.D.Device.faults c.args.to now (omega (arith, c.synced_end.ensures.is, c.if-synced_end-to.false))))

pub returns-clause-at_most : goal.returns-clause-at_most
returns-clause-at_most g c =
    let now = c.loop-self.self in
    performs_whole _ _ _ (all_made g.D.Device.trace g.C.Checksum.sum_of g.D.Device.faults c.args.to c.args.self.now now c.requires.sealed c.loop-self.invariant.advanced
    (free_past c.args.to (waiting_of now) (past_left g.D.Device.trace g.C.Checksum.sum_of g.D.Device.faults c.args.to now (omega (arith, c.synced_end.ensures.is, c.if-synced_end-to.false)))))

pub returns-clause-keeps : goal.returns-clause-keeps
returns-clause-keeps g c = c.loop-self.invariant.advanced.keeps

pub returns-clause-answers : goal.returns-clause-answers
returns-clause-answers g c =
    let now = c.loop-self.self in (
      holds_up g.D.Device.trace g.C.Checksum.sum_of g.D.Device.faults c.args.to c.args.self.now now c.requires.sealed c.loop-self.invariant.advanced
          ∙ held_past c.args.to (waiting_of now) (past_left g.D.Device.trace g.C.Checksum.sum_of g.D.Device.faults c.args.to now (omega (arith, c.synced_end.ensures.is, c.if-synced_end-to.false))),
      (λ none. none),
      refl,
      c.loop-self.invariant.advanced.fault,
      c.loop-self.invariant.advanced.counted,
    )

pub returns-clause-current : goal.returns-clause-current
returns-clause-current g c = (c.loop-self.invariant.advanced.current, c.loop-self.invariant.advanced.segment)

pub returns-clause-none : goal.returns-clause-none
returns-clause-none g c = λ below.
    let now = c.loop-self.self in
    begin_none c.args.to (waiting_of now) (past_left g.D.Device.trace g.C.Checksum.sum_of g.D.Device.faults c.args.to now (omega (arith, c.synced_end.ensures.is, c.if-synced_end-to.false))) (c.loop-self.invariant.advanced.below below)

pub returns-clause-above : goal.returns-clause-above
returns-clause-above g c =
    let now = c.loop-self.self in
    leaves_above g.C.Checksum.sum_of c.args.to c.args.self.now now c.requires.sealed c.loop-self.invariant.advanced.start c.loop-self.invariant.advanced.left
    (past_left g.D.Device.trace g.C.Checksum.sum_of g.D.Device.faults c.args.to now (omega (arith, c.synced_end.ensures.is, c.if-synced_end-to.false)))
    c.loop-self.invariant.advanced.with_slots
    (c.loop-self.invariant.advanced.ledger
    ∙ ap (λ (l : List BufferAt). ledger_behind (segment_size_of c.args.self.now) l (ledger_of c.args.self.now))
    (front_whole c.args.to (take c.loop-self.invariant.advanced.count (waiting_of c.args.self.now)) (waiting_of c.args.self.now) (waiting_of now)
    (past_left g.D.Device.trace g.C.Checksum.sum_of g.D.Device.faults c.args.to now (omega (arith, c.synced_end.ensures.is, c.if-synced_end-to.false))) c.loop-self.invariant.advanced.front))

pub returns-clause-idle : goal.returns-clause-idle
returns-clause-idle g c = λ _. c.loop-self.invariant.advanced.counted

-- The pool has what all of them gave.

pub returns-in_err-write_buffer-clause-pooled : goal.returns-in_err-write_buffer-clause-pooled
returns-in_err-write_buffer-clause-pooled g c =
    pools_further c.args.self.now c.loop-self.self c.write_buffer.new.self 0 c.loop-self.invariant.pooled c.write_buffer.ensures.pooled

pub returns-then-synced_end-to-clause-pooled : goal.returns-then-synced_end-to-clause-pooled
returns-then-synced_end-to-clause-pooled g c = c.loop-self.invariant.pooled

pub returns-clause-pooled : goal.returns-clause-pooled
returns-clause-pooled g c = c.loop-self.invariant.pooled
