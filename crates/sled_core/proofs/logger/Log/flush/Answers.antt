-- All that was reserved is written.
use Rattle.std.proofs.Common.{◌≡◌, ◌∙◌, ◌≤◌, ℕ, max, arith, refl, subst, sym, Option, None, Err}
use Rattle.sled_store.proofs.Traces.ScriptLemmas.{performs_nothing}
use Rattle.std.proofs.lemmas.Result.{err_from_is_err_and}
use Rattle.sled_codec.specs.declared.result.Error.{Error}
use Rattle.sled_codec.specs.declared.result.Error.TheVariants.{Held, Io, OutOfMemory, PlacesUsedUp}
use Rattle.std.specs.declared.io.Error.{Error as IoError}
use Rattle.sled_core.specs.Causes.{HeldAnswers}
use Rattle.sled_core.specs.Fits.{fault_of, reserved_end, stable_end, synced_end}
use Rattle.sled_core.specs.invariants.Running.{Fits}
use Rattle.sled_core.specs.Running.{end_below}
use Rattle.sled_core.proofs.Line.KeptCalls.{writing_still}
use Rattle.sled_core.proofs.Line.Shown.{fits_acknowledges}
use Rattle.sled_core.proofs.Line.LineEnds.{stable_kept}
use Rattle.sled_core.proofs.Line.NoneLeft.{all_stable, all_written}
use Rattle.sled_core.proofs.Line.SealFirst.{still_came, writes_err, writes_none, writes_ok}
use Rattle.sled_core.proofs.Line.Pools.{pools_some, pools_still}
use Rattle.sled_core.proofs.Line.StatusSeen.{some_reserved}
use Rattle.sled_core.proofs.Line.Wrote.{status_written}
use Rattle.sled_core.proofs.logger.Log.flush.Given as given
use Rattle.sled_core.proofs.logger.Log.flush.Goals as goal
use Rattle.sled_core.proofs.Line.Outcomes.{no_fault}

pub returns-in-Some-clause-spares : goal.returns-in-Some-clause-spares
returns-in-Some-clause-spares g c = record { faulty = λ e is. refl; idle = λ none. refl }

pub returns-in-Some-clause-at_most : goal.returns-in-Some-clause-at_most
returns-in-Some-clause-at_most g c = performs_nothing _ _ _ refl

pub returns-in-Some-clause-keeps : goal.returns-in-Some-clause-keeps
returns-in-Some-clause-keeps g c = writing_still g.D.Device.trace g.C.Checksum.sum_of c.args.self.now

pub returns-in_err-write_below-clause-spares : goal.returns-in_err-write_below-clause-spares
returns-in_err-write_below-clause-spares g c = record { faulty = λ e is. no_fault (fault_of c.args.self.now) e _ c.in_default.is is; idle = c.write_below.ensures.idle }

pub returns-clause-spares : goal.returns-clause-spares
returns-clause-spares g c = record { faulty = λ e is. no_fault (fault_of c.args.self.now) e _ c.in_default.is is; idle = c.write_below.ensures.idle }

pub returns-clause-records : goal.returns-clause-records
returns-clause-records g c = λ H holds.
    let new = c.write_below.new.self in
    let did = c.in_ok-write_below.ensures in
    all_written g.D.Device.trace g.C.Checksum.sum_of new (omega (arith, did.written, did.keeps.position.reserved)) did.answers.3 H (did.keeps.preserves.history H holds)

-- All of it is stable.
stable : (g : given.Over) (c : goal.After-stable_end g) → stable_end c.write_below.new.self ≡ synced_end c.write_below.new.self
stable g c = let did = c.in_ok-write_below.ensures in all_stable c.write_below.new.self (omega (arith, did.written, did.keeps.position.reserved))

pub returns-clause-synced : goal.returns-clause-synced
returns-clause-synced g c = record { whole = (let did = c.in_ok-write_below.ensures in omega (arith, did.written)); stable = stable g c }

pub returns-clause-status : goal.returns-clause-status
returns-clause-status g c =
    let did = c.in_ok-write_below.ensures in
    let none = did.answers in
    let old = c.args.self.now in
    status_written g.C.Checksum.sum_of (reserved_end old) old c.write_below.new.self (some_reserved old (reserved_end old) (omega arith)) did.above did.keeps.tickets did.keeps.position
    did.keeps.preserves.noted (none.3 ∙ sym c.in_default.is)

pub returns-clause-acknowledges : goal.returns-clause-acknowledges
unfolding Fits
returns-clause-acknowledges g c = λ H A f U fits.
    let later = c.write_below.ensures.keeps.preserves.fits H A f U fits in
    subst (λ n. Fits g.D.Device.trace g.C.Checksum.sum_of c.write_below.new.self H (max A (end_below n H)) f U) (stable g c)
    (fits_acknowledges _ _ _ _ _ _ _ _ _ _ H A f U later)

pub returns-in-Some-clause-buffers : goal.returns-in-Some-clause-buffers
returns-in-Some-clause-buffers g c =
    let old = c.args.self.now in
    (writes_none g.C.Checksum.sum_of (reserved_end old) old (Io c.in-Some.kept) (λ held. held), still_came g.D.Device.trace g.C.Checksum.sum_of (reserved_end old) old c.in-Some.kept c.in-Some.is)

pub returns-in_err-write_below-clause-buffers : goal.returns-in_err-write_below-clause-buffers
returns-in_err-write_below-clause-buffers g c =
    let old = c.args.self.now in
    let new = c.write_below.new.self in
    let x = c.in_err-write_below.field-0.0 in
    let e = err_from_is_err_and c.from_residual.result c.from_residual.ensures.1 in
    rw (e.1, e.2) (writes_err (Unit {0}) ℕ g.C.Checksum.sum_of (reserved_end old) old new x c.in_err-write_below.ensures.buffers, c.in_err-write_below.ensures.came)

pub returns-clause-buffers : goal.returns-clause-buffers
returns-clause-buffers g c =
    let old = c.args.self.now in
    (writes_ok g.C.Checksum.sum_of (reserved_end old) old c.write_below.new.self c.in_ok-write_below.field-0 _ c.in_ok-write_below.ensures.buffers, tt)

grows : (g : given.Over) (c : goal.After-stable_end g) → stable_end c.args.self.now ≤ stable_end c.write_below.new.self
grows g c =
    let keeps = c.write_below.ensures.keeps.preserves in
    stable_kept c.args.self.now c.write_below.new.self keeps.goes_on.stable keeps.noted

pub overflow_sub-result : goal.overflow_sub-result
overflow_sub-result g c = let up = grows g c in omega (arith, up, c.stable_end-before.ensures.is, c.stable_end.ensures.is)

pub returns-clause-answer : goal.returns-clause-answer
returns-clause-answer g c = let up = grows g c in omega (arith, up, c.stable_end-before.ensures.is, c.stable_end.ensures.is)

pub returns-in-Some-clause-pooled : goal.returns-in-Some-clause-pooled
returns-in-Some-clause-pooled g c = pools_some c.args.self.now c.args.self.now (pools_still c.args.self.now)

-- Its answer is that of the writing, where the log kept no failure.

held_again : (x : Error) (held : Option ℕ) (used : Type 0) (new : Option IoError) (before after : ℕ)
    → HeldAnswers {T = Unit {0}} (Err x) held used None new before after → HeldAnswers {T = ℕ} (Err x) held used None new before after
held_again (Held at) held used new before after is = is
held_again PlacesUsedUp held used new before after is = is
held_again OutOfMemory held used new before after is = is
held_again (Io e) held used new before after is = is
held_again _ held used new before after is = is

pub returns-in_err-write_below-clause-answers : goal.returns-in_err-write_below-clause-answers
returns-in_err-write_below-clause-answers g c =
    let e = err_from_is_err_and c.from_residual.result c.from_residual.ensures.1 in
    rw (e.1, e.2, c.in_default.is) (held_again c.in_err-write_below.field-0.0 _ _ _ _ _ c.in_err-write_below.ensures.answers)
