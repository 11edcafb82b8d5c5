-- Where nothing is written, the log is as it was; else the buffers up to the place are.
use Rattle.std.proofs.Common.{◌∙◌, ◌<ℤ◌, pos, ◌≤ℤ◌, ◌<◌, ap, sym, subst, refl, arith, ◌≡◌, ◌≤◌, negsuc, ℤ, rules, SFits, of_z, to_z, inl, inr, List, None, ℕ, Option, Ok, Err}
use Rattle.std.specs.Int.{w64}
use Rattle.std.proofs.lemmas.Int.{ints, to_z-of_z, to_z_pos}
use Rattle.std.proofs.lemmas.Result.{err_from_is_err_and}
use Rattle.sled_codec.specs.declared.result.Error.TheVariants.{Io, NotReserved}
use Rattle.sled_store.specs.Device.{Event}
use Rattle.sled_store.specs.Script.{Performs, after_all}
use Rattle.sled_store.proofs.Traces.ScriptLemmas.{performs_nothing}
use Rattle.sled_core.specs.Causes.{HeldAnswers}
use Rattle.sled_core.specs.Fits.{IsUsedUpBelow, fault_of, noted_in, reserved_end, stable_end}
use Rattle.sled_core.specs.Fronts.{CameTo}
use Rattle.sled_core.specs.Keeps.{WritesBelow}
use Rattle.sled_core.specs.inside.LeavesAbove.{LeavesAbove}
use Rattle.sled_core.specs.invariants.Running.{Fits}
use Rattle.sled_core.specs.OpenBatches.{behind_batch}
use Rattle.sled_core.specs.Stable.{behind_place, held_for, target_for}
use Rattle.sled_core.specs.declared.logger.Log.{Log}
use Rattle.sled_core.proofs.Line.KeptCalls.{place_still, tickets_still, writing_still}
use Rattle.sled_core.proofs.Line.Shown.{fits_acknowledges}
use Rattle.sled_core.proofs.Line.LineEnds.{noted_still, stable_kept, stable_reached}
use Rattle.sled_core.proofs.Line.SealFirst.{above_already, still_came, unused_already, writes_already, writes_err, writes_none, writes_ok}
use Rattle.sled_core.proofs.Line.Places.{above_read, behind_read, behind_stable, done_as, held_up, holds_none, inside_read, reserved_in_reach, stable_answers, wrote_for}
use Rattle.sled_core.proofs.Line.Pools.{pools_some, pools_still}
use Rattle.sled_core.proofs.Line.StatusSeen.{some_reserved, some_stable}
use Rattle.sled_core.proofs.Line.StableTargets.{target_reserved}
use Rattle.sled_core.proofs.Line.Wrote.{status_written}
use Rattle.sled_core.proofs.logger.Log.make_stable.Given as given
use Rattle.sled_core.proofs.logger.Log.make_stable.Goals as goal
use Rattle.sled_core.proofs.Line.Outcomes.{no_fault}

pub returns-in-Some-clause-at_most : goal.returns-in-Some-clause-at_most
returns-in-Some-clause-at_most g c = performs_nothing _ _ _ refl

pub returns-in-Some-clause-keeps : goal.returns-in-Some-clause-keeps
returns-in-Some-clause-keeps g c = writing_still g.D.Device.trace g.C.Checksum.sum_of c.args.self.now

pub returns-in-Some-clause-buffers : goal.returns-in-Some-clause-buffers
returns-in-Some-clause-buffers g c =
    let old = c.args.self.now in
    let to = target_for old c.args.lsn in
    (writes_none g.C.Checksum.sum_of to old (Io c.in-Some.e) (λ held. held), inr (still_came g.D.Device.trace g.C.Checksum.sum_of to old c.in-Some.e c.in-Some.is))

-- The place is durable already.

pub returns-then-lsn-stable_offset-clause-at_most : goal.returns-then-lsn-stable_offset-clause-at_most
returns-then-lsn-stable_offset-clause-at_most g c = performs_nothing _ _ _ refl

pub returns-then-lsn-stable_offset-clause-keeps : goal.returns-then-lsn-stable_offset-clause-keeps
returns-then-lsn-stable_offset-clause-keeps g c = writing_still g.D.Device.trace g.C.Checksum.sum_of c.args.self.now

durable : (g : given.Over) (c : goal.Then-lsn-stable_offset g) → c.args.lsn <ℤ pos (stable_end c.args.self.now)
durable g c = search rules

pub returns-then-lsn-stable_offset-clause-answers : goal.returns-then-lsn-stable_offset-clause-answers
returns-then-lsn-stable_offset-clause-answers g c =
    let old = c.args.self.now in
    (inl (durable g c), (holds_none g.C.Checksum.sum_of old c.args.lsn (durable g c), unused_already (target_for old c.args.lsn) old (behind_stable g.C.Checksum.sum_of old c.args.lsn (durable g c)), c.in_default.is, c.in_default.is, refl))

pub returns-then-lsn-stable_offset-clause-buffers : goal.returns-then-lsn-stable_offset-clause-buffers
returns-then-lsn-stable_offset-clause-buffers g c = (writes_already g.C.Checksum.sum_of (target_for c.args.self.now c.args.lsn) c.args.self.now 0, tt)

pub returns-then-lsn-stable_offset-clause-status : goal.returns-then-lsn-stable_offset-clause-status
returns-then-lsn-stable_offset-clause-status g c =
    let old = c.args.self.now in
    let to = target_for old c.args.lsn in
    let below = behind_stable g.C.Checksum.sum_of old c.args.lsn (durable g c) in
    status_written g.C.Checksum.sum_of to old old (some_stable old to below) (above_already g.C.Checksum.sum_of to old below) (tickets_still old) (place_still old) (noted_still old) refl

-- It wasn't reserved.

pub overflow_cast-self : goal.overflow_cast-self
overflow_cast-self g c = let reach = reserved_in_reach c.args.self.now in omega (arith, reach)

pub returns-then-lsn-self-clause-at_most : goal.returns-then-lsn-self-clause-at_most
returns-then-lsn-self-clause-at_most g c = performs_nothing _ _ _ refl

pub returns-then-lsn-self-clause-buffers : goal.returns-then-lsn-self-clause-buffers
returns-then-lsn-self-clause-buffers g c =
    let old = c.args.self.now in
    let to = target_for old c.args.lsn in
    (writes_none g.C.Checksum.sum_of to old (NotReserved (to_z w64 (of_z w64 c.args.lsn))) (λ held. held), inl tt)

pub returns-then-lsn-self-clause-keeps : goal.returns-then-lsn-self-clause-keeps
returns-then-lsn-self-clause-keeps g c = writing_still g.D.Device.trace g.C.Checksum.sum_of c.args.self.now

pub returns-then-lsn-self-clause-answers : goal.returns-then-lsn-self-clause-answers
returns-then-lsn-self-clause-answers g c =
    let old = c.args.self.now in
    let reach : reserved_end old < 9223372036854775808 = reserved_in_reach old in
    let above : pos (stable_end old) ≤ℤ c.args.lsn = search rules in
    let past : pos (reserved_end old) ≤ℤ c.args.lsn = search rules in
    (to_z-of_z w64 c.args.lsn c.ranges.lsn, above, past, c.in_default.is, c.in_default.is, refl)

-- Up to where it is written.
to_is : {D C : Type 0} (log : Log D C) (lsn : ℤ) (to behind : ℕ) → to ≡ behind_batch behind (noted_in log) → behind ≡ behind_place lsn → to ≡ target_for log lsn
to_is log lsn to behind is at = is ∙ ap (λ n. behind_batch n (noted_in log)) at

-- The write failed, or was held.

above : (g : given.Over) (c : goal.After-from_residual g) → pos (stable_end c.args.self.now) ≤ℤ c.args.lsn
above g c =
    let got = c.stable_offset.result in
    let fits : SFits w64 got = search rules in
    above_read c.args.lsn got _ _ (stable_end c.args.self.now) (to_z-of_z w64 c.args.lsn c.ranges.lsn) (to_z-of_z w64 got fits) c.stable_offset.ensures.place c.if-lsn-stable_offset.false

inside : (g : given.Over) (c : goal.After-from_residual g) → c.args.lsn <ℤ pos (reserved_end c.args.self.now)
inside g c =
    let end = reserved_end c.args.self.now in
    inside_read c.args.lsn _ _ end (to_z-of_z w64 c.args.lsn c.ranges.lsn) (to_z_pos w64 end (reserved_in_reach c.args.self.now)) c.if-lsn-self.false

pub returns-in_err-write_below-clause-made : goal.returns-in_err-write_below-clause-made
returns-in_err-write_below-clause-made g c =
    let old = c.args.self.now in
    let same = wrote_for g.C.Checksum.sum_of old c.args.lsn _ (to_is c.args.self.now c.args.lsn _ _ c.behind_batch-to.ensures.is (behind_read c.args.lsn _ _ (to_z-of_z w64 c.args.lsn c.ranges.lsn) (above g c))) (above g c) in
    let e = err_from_is_err_and c.from_residual.result c.from_residual.ensures.1 in
    rw (e.1, e.2) (done_as (Unit {0}) ℕ c.in_err-write_below.field-0.0 _ _ (λ made. made ∙ ap (λ (es : List Event). after_all es (g.D.Device.trace old.config.device)) same) c.in_err-write_below.ensures.calls)

pub returns-in_err-write_below-clause-at_most : goal.returns-in_err-write_below-clause-at_most
returns-in_err-write_below-clause-at_most g c =
    let old = c.args.self.now in
    subst (λ (es : List Event). Performs es (g.D.Device.trace old.config.device) (g.D.Device.trace c.write_below.new.self.config.device))
    (wrote_for g.C.Checksum.sum_of old c.args.lsn _ (to_is c.args.self.now c.args.lsn _ _ c.behind_batch-to.ensures.is (behind_read c.args.lsn _ _ (to_z-of_z w64 c.args.lsn c.ranges.lsn) (above g c))) (above g c)) c.write_below.ensures.at_most

pub returns-in_err-write_below-clause-answers : goal.returns-in_err-write_below-clause-answers
returns-in_err-write_below-clause-answers g c =
    let old = c.args.self.now in
    let new = c.write_below.new.self in
    let at = to_is c.args.self.now c.args.lsn _ _ c.behind_batch-to.ensures.is (behind_read c.args.lsn _ _ (to_z-of_z w64 c.args.lsn c.ranges.lsn) (above g c)) in
    let x = c.in_err-write_below.field-0.0 in
    let answers : HeldAnswers {T = Unit {0}} (Err x) (held_for g.C.Checksum.sum_of old c.args.lsn) (IsUsedUpBelow old (target_for c.args.self.now c.args.lsn)) None (fault_of new) (g.D.Device.faults old.config.device) (g.D.Device.faults new.config.device) =
    subst (λ n. HeldAnswers {T = Unit {0}} (Err x) (held_for g.C.Checksum.sum_of old c.args.lsn) (IsUsedUpBelow old n) None (fault_of new) (g.D.Device.faults old.config.device) (g.D.Device.faults new.config.device)) at
    (subst (λ (o : Option ℕ). HeldAnswers {T = Unit {0}} (Err x) o (IsUsedUpBelow old c.behind_batch-to.result) None (fault_of new) (g.D.Device.faults old.config.device) (g.D.Device.faults new.config.device)) (held_up g.C.Checksum.sum_of old c.args.lsn _ at (above g c)) c.in_err-write_below.ensures.answers) in
    let e = err_from_is_err_and c.from_residual.result c.from_residual.ensures.1 in
    rw (e.1, e.2) (stable_answers (Unit {0}) ℕ x c.args.lsn (stable_end old) (reserved_end old) (held_for g.C.Checksum.sum_of old c.args.lsn) (IsUsedUpBelow old (target_for c.args.self.now c.args.lsn)) (fault_of old) (fault_of new) _ _ (above g c) (inside g c) c.in_default.is answers)

pub returns-in_err-write_below-clause-buffers : goal.returns-in_err-write_below-clause-buffers
returns-in_err-write_below-clause-buffers g c =
    let old = c.args.self.now in
    let new = c.write_below.new.self in
    let x = c.in_err-write_below.field-0.0 in
    let e = err_from_is_err_and c.from_residual.result c.from_residual.ensures.1 in
    let to = to_is c.args.self.now c.args.lsn _ _ c.behind_batch-to.ensures.is (behind_read c.args.lsn _ _ (to_z-of_z w64 c.args.lsn c.ranges.lsn) (above g c)) in
    rw (e.1, e.2) (
      writes_err (Unit {0}) ℕ g.C.Checksum.sum_of (target_for c.args.self.now c.args.lsn) old new x (subst (λ n. WritesBelow {T = Unit {0}} g.C.Checksum.sum_of (Err x) n old new) to c.in_err-write_below.ensures.buffers),
      inr (subst (λ n. CameTo g.D.Device.trace g.C.Checksum.sum_of n old new) to c.in_err-write_below.ensures.came),
    )

-- It is written.

above_done : (g : given.Over) (c : goal.After-stable_end g) → pos (stable_end c.args.self.now) ≤ℤ c.args.lsn
above_done g c =
    let got = c.stable_offset.result in
    let fits : SFits w64 got = search rules in
    above_read c.args.lsn got _ _ (stable_end c.args.self.now) (to_z-of_z w64 c.args.lsn c.ranges.lsn) (to_z-of_z w64 got fits) c.stable_offset.ensures.place c.if-lsn-stable_offset.false

inside_done : (g : given.Over) (c : goal.After-stable_end g) → c.args.lsn <ℤ pos (reserved_end c.args.self.now)
inside_done g c =
    let end = reserved_end c.args.self.now in
    inside_read c.args.lsn _ _ end (to_z-of_z w64 c.args.lsn c.ranges.lsn) (to_z_pos w64 end (reserved_in_reach c.args.self.now)) c.if-lsn-self.false

pub returns-clause-made : goal.returns-clause-made
returns-clause-made g c =
    let old = c.args.self.now in
    c.in_ok-write_below.ensures.calls
    ∙ ap (λ (es : List Event). after_all es (g.D.Device.trace old.config.device)) (wrote_for g.C.Checksum.sum_of old c.args.lsn _ (to_is c.args.self.now c.args.lsn _ _ c.behind_batch-to.ensures.is (behind_read c.args.lsn _ _ (to_z-of_z w64 c.args.lsn c.ranges.lsn) (above_done g c))) (above_done g c))

pub returns-clause-at_most : goal.returns-clause-at_most
returns-clause-at_most g c =
    let old = c.args.self.now in
    subst (λ (es : List Event). Performs es (g.D.Device.trace old.config.device) (g.D.Device.trace c.write_below.new.self.config.device))
    (wrote_for g.C.Checksum.sum_of old c.args.lsn _ (to_is c.args.self.now c.args.lsn _ _ c.behind_batch-to.ensures.is (behind_read c.args.lsn _ _ (to_z-of_z w64 c.args.lsn c.ranges.lsn) (above_done g c))) (above_done g c)) c.write_below.ensures.at_most

pub returns-clause-acknowledges : goal.returns-clause-acknowledges
unfolding Fits
returns-clause-acknowledges g c = λ H A f U fits.
    let later = c.write_below.ensures.keeps.preserves.fits H A f U fits in
    (fits_acknowledges _ _ _ _ _ _ _ _ _ _ H A f U later)

pub returns-clause-answers : goal.returns-clause-answers
returns-clause-answers g c =
    let old = c.args.self.now in
    let at = to_is c.args.self.now c.args.lsn _ _ c.behind_batch-to.ensures.is (behind_read c.args.lsn _ _ (to_z-of_z w64 c.args.lsn c.ranges.lsn) (above_done g c)) in
    let answers = c.in_ok-write_below.ensures.answers in
    (inr (inside_done g c), (sym (held_up g.C.Checksum.sum_of old c.args.lsn _ at (above_done g c)) ∙ answers.0, subst (λ n. IsUsedUpBelow old n → ⊥) at answers.1, c.in_default.is, answers.3, answers.4))

pub returns-clause-status : goal.returns-clause-status
returns-clause-status g c =
    let old = c.args.self.now in
    let new = c.write_below.new.self in
    let sum = g.C.Checksum.sum_of in
    let did = c.in_ok-write_below.ensures in
    let to = to_is old c.args.lsn _ _ c.behind_batch-to.ensures.is (behind_read c.args.lsn _ _ (to_z-of_z w64 c.args.lsn c.ranges.lsn) (above_done g c)) in
    let some = some_reserved old (target_for old c.args.lsn) (target_reserved old c.args.lsn (inside_done g c)) in
    status_written sum (target_for old c.args.lsn) old new some (subst (λ n. LeavesAbove sum n old new) to did.above) did.keeps.tickets did.keeps.position
    did.keeps.preserves.noted (let none = did.answers in none.3 ∙ sym c.in_default.is)

pub returns-clause-buffers : goal.returns-clause-buffers
returns-clause-buffers g c =
    let old = c.args.self.now in
    let new = c.write_below.new.self in (
      writes_ok g.C.Checksum.sum_of (target_for c.args.self.now c.args.lsn) old new c.in_ok-write_below.field-0 _
          (subst (λ n. WritesBelow {T = Unit {0}} g.C.Checksum.sum_of (Ok c.in_ok-write_below.field-0) n old new) (to_is c.args.self.now c.args.lsn _ _ c.behind_batch-to.ensures.is (behind_read c.args.lsn _ _ (to_z-of_z w64 c.args.lsn c.ranges.lsn) (above_done g c))) c.in_ok-write_below.ensures.buffers),
      tt,
    )

grows : (g : given.Over) (c : goal.After-stable_end g) → stable_end c.args.self.now ≤ stable_end c.write_below.new.self
grows g c =
    let keeps = c.write_below.ensures.keeps.preserves in
    stable_kept c.args.self.now c.write_below.new.self keeps.goes_on.stable keeps.noted

pub overflow_sub-result : goal.overflow_sub-result
overflow_sub-result g c = let up = grows g c in omega (arith, up, c.stable_end-before.ensures.is, c.stable_end.ensures.is)

pub returns-clause-answer : goal.returns-clause-answer
returns-clause-answer g c = let up = grows g c in omega (arith, up, c.stable_end-before.ensures.is, c.stable_end.ensures.is)

-- What lies before the place behind this one is stable.
below_behind : (lsn : ℤ) (n end : ℕ) → pos n ≤ℤ lsn → behind_place lsn ≤ end → lsn <ℤ pos end
below_behind (pos k) n end above reached = omega (arith, ints, reached)
below_behind (negsuc k) n end above reached = absurd (omega (arith, ints, above))

pub returns-clause-target : goal.returns-clause-target
returns-clause-target g c =
    let old = c.args.self.now in
    let new = c.write_below.new.self in
    let to = to_is old c.args.lsn _ _ c.behind_batch-to.ensures.is (behind_read c.args.lsn _ _ (to_z-of_z w64 c.args.lsn c.ranges.lsn) (above_done g c)) in
    let written = c.in_ok-write_below.ensures.written in
    below_behind c.args.lsn (stable_end old) (stable_end new) (above_done g c) (stable_reached old new (behind_place c.args.lsn) c.write_below.ensures.keeps.preserves.noted (omega (arith, to, written)))

-- It keeps what the writing does.

pub returns-in_err-write_below-clause-keeps : goal.returns-in_err-write_below-clause-keeps
returns-in_err-write_below-clause-keeps g c = c.in_err-write_below.ensures.keeps

pub returns-in_err-write_below-clause-spares : goal.returns-in_err-write_below-clause-spares
returns-in_err-write_below-clause-spares g c =
    let old = c.args.self.now in
    record {
      faulty = λ e is. no_fault (fault_of old) e _ c.in_default.is is;
      idle = λ none. c.write_below.ensures.idle (wrote_for g.C.Checksum.sum_of old c.args.lsn _ (to_is old c.args.lsn _ _ c.behind_batch-to.ensures.is (behind_read c.args.lsn _ _ (to_z-of_z w64 c.args.lsn c.ranges.lsn) (above g c))) (above g c) ∙ none);
    }

pub returns-clause-keeps : goal.returns-clause-keeps
returns-clause-keeps g c = c.in_ok-write_below.ensures.keeps

pub returns-clause-spares : goal.returns-clause-spares
returns-clause-spares g c =
    let old = c.args.self.now in
    record {
      faulty = λ e is. no_fault (fault_of old) e _ c.in_default.is is;
      idle = λ none. c.write_below.ensures.idle (wrote_for g.C.Checksum.sum_of old c.args.lsn _ (to_is old c.args.lsn _ _ c.behind_batch-to.ensures.is (behind_read c.args.lsn _ _ (to_z-of_z w64 c.args.lsn c.ranges.lsn) (above_done g c))) (above_done g c) ∙ none);
    }

pub returns-in-Some-clause-spares : goal.returns-in-Some-clause-spares
returns-in-Some-clause-spares g c = record { faulty = λ e is. refl; idle = λ none. refl }

pub returns-then-lsn-stable_offset-clause-spares : goal.returns-then-lsn-stable_offset-clause-spares
returns-then-lsn-stable_offset-clause-spares g c = record { faulty = λ e is. refl; idle = λ none. refl }

pub returns-then-lsn-self-clause-spares : goal.returns-then-lsn-self-clause-spares
returns-then-lsn-self-clause-spares g c = record { faulty = λ e is. refl; idle = λ none. refl }

pub returns-in-Some-clause-pooled : goal.returns-in-Some-clause-pooled
returns-in-Some-clause-pooled g c = pools_some c.args.self.now c.args.self.now (pools_still c.args.self.now)

pub returns-then-lsn-stable_offset-clause-pooled : goal.returns-then-lsn-stable_offset-clause-pooled
returns-then-lsn-stable_offset-clause-pooled g c = pools_some c.args.self.now c.args.self.now (pools_still c.args.self.now)

pub returns-then-lsn-self-clause-pooled : goal.returns-then-lsn-self-clause-pooled
returns-then-lsn-self-clause-pooled g c = pools_some c.args.self.now c.args.self.now (pools_still c.args.self.now)
