-- The first active segment is deactivated while it is due, and behind one that is not due none is.
use Rattle.std.proofs.Common.{rules, ◌≡◌, ◌∙◌, ◌≤◌, ◌<◌, ◌+◌, ◌*◌, ◌/◌, ◌^◌, ℕ, ℤ, pos, Result, true, false, [], ◌∷◌, drop, refl, sym, ap, subst, arith, unsigned_abs, w64, to_z, of_z}
use Rattle.std.proofs.lemmas.Int.{to_z-of_z}
use lib.Signed.{lt_z}
use Rattle.sled_codec.specs.declared.result.Error.{Error}
use Rattle.sled_store.specs.Device.{Trace}
use Rattle.sled_store.specs.Script.{Performs}
use Rattle.sled_store.specs.SegmentStates.{Machine, Step, active_among, deactivated, is_due, stabilized}
use Rattle.sled_store.specs.Accounts.{IsAccountant, machine_of}
use Rattle.sled_store.specs.Stabilizing.{MovesSlots}
use Rattle.sled_store.proofs.Traces.ScriptLemmas.{performs_whole}
use Rattle.sled_store.proofs.Accounts.StabilSteps.{IsBegun, IsMade, LeadsTo, leads_itself, made_same, begun_same, turn_on, turn_failed, turns_done}
use Rattle.sled_store.proofs.Accounts.StabilDue.{due_among, due_so, due_not, none_negative, first_there, first_active, first_small, due_first, due_none, fewer_active, due_left, due_nothing}
use Rattle.sled_store.proofs.Marks.MovesMade.{Moved, exit_failed, exit_moved, moved_at, moves_same, none_moved, then_moved, whole_moved}
use Rattle.sled_store.proofs.segment.accountant.SegmentAccountant.stabilize.Given.{Over}
use Rattle.sled_store.proofs.segment.accountant.SegmentAccountant.stabilize.Goals as goal
use Rattle.sled_store.proofs.segment.accountant.SegmentAccountant.stabilize.Goals.{After-deactivate, After-first, In-Some}

-- the mark as the code holds it is the mark
leads_at : (size : ℕ) (held mark : ℤ) (m : Machine) (mid : Trace) (from : Machine) (old : Trace) → held ≡ mark → LeadsTo (stabilized size held m) mid (stabilized size held from) old → LeadsTo (stabilized size mark m) mid (stabilized size mark from) old
leads_at size held mark m mid from old same leads = subst (λ (z : ℤ). LeadsTo (stabilized size z m) mid (stabilized size z from) old) same leads

-- what was made was called
all_called : {step : Step} {old new : Trace} {m : Machine} → IsMade step old m new → Performs step.calls old new
all_called {step} {old} {new} is = performs_whole step.calls old new is.trace

-- For a mark below zero there is nothing to do.
low : (g : Over) (c : goal.Then-mark-lt0 g)
    → IsMade (stabilized c.args.config.now.config.segment_size c.args.mark (machine_of c.args.self.now)) (g.D.Device.trace c.args.config.now.device)
    (machine_of c.args.self.now) (g.D.Device.trace c.args.config.now.device)
low g c =
    let size : ℕ = c.args.config.now.config.segment_size in
    let m : Machine = machine_of c.args.self.now in
    let below : lt_z c.args.mark (pos 0) ≡ true = subst (λ (z : ℤ). lt_z z (pos 0) ≡ true) (to_z-of_z w64 c.args.mark c.ranges.mark) c.if-mark-lt0.true in
    let old : Trace = g.D.Device.trace c.args.config.now.device in
    turns_done (deactivated size) (due_among size c.args.mark (active_among m.slots)) m old (stabilized size c.args.mark m) old
    (leads_itself (stabilized size c.args.mark m) old) (none_negative size c.args.mark (active_among m.slots) below)

pub returns-then-mark-lt0-clause-done : goal.returns-then-mark-lt0-clause-done
returns-then-mark-lt0-clause-done g c = (low g c).machine

pub returns-then-mark-lt0-clause-made : goal.returns-then-mark-lt0-clause-made
returns-then-mark-lt0-clause-made g c = (low g c).trace

pub returns-then-mark-lt0-clause-calls : goal.returns-then-mark-lt0-clause-calls
returns-then-mark-lt0-clause-calls g c = all_called (low g c)

pub returns-then-mark-lt0-clause-moves : goal.returns-then-mark-lt0-clause-moves
returns-then-mark-lt0-clause-moves g c =
    let size : ℕ = c.args.config.now.config.segment_size in
    let m : Machine = machine_of c.args.self.now in
    let before : Trace = g.D.Device.trace c.args.config.now.device in
    exit_moved size c.args.mark _ m m m before before before (none_moved size c.args.mark m m before before refl refl)

pub loop-place-init : goal.loop-place-init
loop-place-init g c =
    let size : ℕ = c.args.config.now.config.segment_size in
    let m : Machine = machine_of c.args.self.now in
    let old : Trace = g.D.Device.trace c.args.config.now.device in
    let held : ℤ = to_z w64 (of_z w64 c.args.mark) in
    record {
      account = c.requires.account;
      leads = leads_itself (stabilized size held m) old;
      moves = none_moved size held m m old old refl refl;
      faults = refl;
      config = refl;
      checksum = refl;
    }

-- What is left of it at the head of the loop, for the mark itself, ends where all of it does,
leads : (g : Over) (c : goal.After-first g)
    → let size : ℕ = c.args.config.now.config.segment_size in
    LeadsTo (stabilized size c.args.mark (machine_of c.loop-place.self)) (g.D.Device.trace c.loop-place.config.device)
    (stabilized size c.args.mark (machine_of c.args.self.now)) (g.D.Device.trace c.args.config.now.device)
leads g c =
    leads_at c.args.config.now.config.segment_size (to_z w64 (of_z w64 c.args.mark)) c.args.mark (machine_of c.loop-place.self)
    (g.D.Device.trace c.loop-place.config.device) (machine_of c.args.self.now) (g.D.Device.trace c.args.config.now.device)
    (to_z-of_z w64 c.args.mark c.ranges.mark) c.loop-place.invariant.leads

-- and the moves up to there are for it.
moved : (g : Over) (c : goal.After-first g)
    → Moved c.args.config.now.config.segment_size c.args.mark (machine_of c.args.self.now) (machine_of c.loop-place.self)
    (g.D.Device.trace c.args.config.now.device) (g.D.Device.trace c.loop-place.config.device)
moved g c =
    moved_at c.args.config.now.config.segment_size (to_z w64 (of_z w64 c.args.mark)) c.args.mark (machine_of c.args.self.now) (machine_of c.loop-place.self)
    (g.D.Device.trace c.args.config.now.device) (g.D.Device.trace c.loop-place.config.device) (to_z-of_z w64 c.args.mark c.ranges.mark)
    c.loop-place.invariant.moves

-- Nothing is due there, so all was made.
ended : (g : Over) (c : goal.After-first g)
    → due_among c.args.config.now.config.segment_size c.args.mark (active_among (machine_of c.loop-place.self).slots) ≡ []
    → IsMade (stabilized c.args.config.now.config.segment_size c.args.mark (machine_of c.args.self.now)) (g.D.Device.trace c.args.config.now.device)
    (machine_of c.loop-place.self) (g.D.Device.trace c.loop-place.config.device)
ended g c none =
    let size : ℕ = c.args.config.now.config.segment_size in
    let m : Machine = machine_of c.loop-place.self in
    turns_done (deactivated size) (due_among size c.args.mark (active_among m.slots)) m _ _ _ (leads g c) none

pub overflow_add-place : goal.overflow_add-place
overflow_add-place g c =
    let small : c.in-Some.place < 2 ^ 63 = first_small c.args.config.now.config.segment_size c.args.mark c.loop-place.self c.loop-place.invariant.account (c.in-Some.place, c.in-Some.slot) c.in-Some.ensures in
    omega (arith, small, c.loop-place.invariant.account.small, c.loop-place.invariant.account.size_is)

-- The mark isn't below zero,
above : (g : Over) (c : goal.In-Some g) → lt_z c.args.mark (pos 0) ≡ false
above g c = subst (λ (z : ℤ). lt_z z (pos 0) ≡ false) (to_z-of_z w64 c.args.mark c.ranges.mark) c.if-mark-lt0.false

abs : (g : Over) (c : goal.In-Some g) → c.unsigned_abs.result ≡ unsigned_abs c.args.mark
abs g c = c.unsigned_abs.ensures.value ∙ ap unsigned_abs (to_z-of_z w64 c.args.mark c.ranges.mark)

-- and the first active segment isn't due, so none is,
late : (g : Over) (c : goal.Then-place-self g)
    → IsMade (stabilized c.args.config.now.config.segment_size c.args.mark (machine_of c.args.self.now)) (g.D.Device.trace c.args.config.now.device)
    (machine_of c.loop-place.self) (g.D.Device.trace c.loop-place.config.device)
late g c =
    let size : ℕ = c.args.config.now.config.segment_size in
    let at = goal.at.returns-then-place-self-clause-done g c in
    let account = c.loop-place.invariant.account in
    ended g at.After-first (due_none size c.args.mark c.loop-place.self account (c.in-Some.place, c.in-Some.slot) c.in-Some.ensures
    (due_not size c.loop-place.self.size c.args.self.now.size c.unsigned_abs.result c.in-Some.place c.args.mark account.size_is
    c.requires.account.size_is (abs g at.In-Some) (above g at.In-Some) c.if-place-self.true))

pub returns-then-place-self-clause-done : goal.returns-then-place-self-clause-done
returns-then-place-self-clause-done g c = (late g c).machine

pub returns-then-place-self-clause-made : goal.returns-then-place-self-clause-made
returns-then-place-self-clause-made g c = (late g c).trace

pub returns-then-place-self-clause-calls : goal.returns-then-place-self-clause-calls
returns-then-place-self-clause-calls g c = all_called (late g c)

pub returns-then-place-self-clause-moves : goal.returns-then-place-self-clause-moves
returns-then-place-self-clause-moves g c =
    let first : Machine = machine_of c.args.self.now in
    let before : Trace = g.D.Device.trace c.args.config.now.device in
    exit_moved c.args.config.now.config.segment_size c.args.mark _ first first (machine_of c.loop-place.self) before before
    (g.D.Device.trace c.loop-place.config.device) (moved g (goal.at.returns-then-place-self-clause-moves g c).After-first)

-- or it is, and the first of those that are.
due : (g : Over) (c : goal.In-Some g) → c.in-Some.place + c.loop-place.self.size ≤ c.unsigned_abs.result / c.args.self.now.size * c.args.self.now.size
    → is_due c.args.config.now.config.segment_size c.args.mark c.in-Some.place ≡ true
due g c below =
    due_so c.args.config.now.config.segment_size c.loop-place.self.size c.args.self.now.size c.unsigned_abs.result c.in-Some.place c.args.mark
    c.loop-place.invariant.account.size_is c.requires.account.size_is (abs g c) (above g c) below

list : (g : Over) (c : goal.In-Some g) → is_due c.args.config.now.config.segment_size c.args.mark c.in-Some.place ≡ true
    → let size : ℕ = c.args.config.now.config.segment_size in
    due_among size c.args.mark (active_among (machine_of c.loop-place.self).slots)
    ≡ (c.in-Some.place, c.in-Some.slot) ∷ due_among size c.args.mark (drop 1 c.loop-place.self.active.0)
list g c =
    due_first c.args.config.now.config.segment_size c.args.mark c.loop-place.self c.loop-place.invariant.account (c.in-Some.place, c.in-Some.slot)
    c.in-Some.ensures

-- So the moves of its step are for the mark.
moves : (g : Over) (c : goal.After-deactivate g) → is_due c.args.config.now.config.segment_size c.args.mark c.in-Some.place ≡ true
    → (r : Result (Unit {0}) Error)
    → ((mark : ℤ) → is_due c.loop-place.self.size mark c.in-Some.place ≡ true
    → MovesSlots c.loop-place.self.size mark r (machine_of c.loop-place.self) (machine_of c.deactivate.new.self)
    (g.D.Device.trace c.loop-place.config.device) (g.D.Device.trace c.deactivate.new.device))
    → MovesSlots c.args.config.now.config.segment_size c.args.mark r (machine_of c.loop-place.self) (machine_of c.deactivate.new.self)
    (g.D.Device.trace c.loop-place.config.device) (g.D.Device.trace c.deactivate.new.device)
moves g c is r made =
    let same = c.loop-place.invariant.account.size_is in
    moves_same c.args.config.now.config.segment_size c.loop-place.self.size c.args.mark r (machine_of c.loop-place.self)
    (machine_of c.deactivate.new.self) (g.D.Device.trace c.loop-place.config.device) (g.D.Device.trace c.deactivate.new.device) same
    (made c.args.mark (ap (λ k. is_due k c.args.mark c.in-Some.place) same ∙ is))

pub deactivate-requires-clause-slot : goal.deactivate-requires-clause-slot
deactivate-requires-clause-slot g c =
    first_there c.args.config.now.config.segment_size c.args.mark c.loop-place.self c.loop-place.invariant.account (c.in-Some.place, c.in-Some.slot) c.in-Some.ensures

pub deactivate-requires-clause-active : goal.deactivate-requires-clause-active
deactivate-requires-clause-active g c =
    first_active c.args.config.now.config.segment_size c.args.mark c.loop-place.self c.loop-place.invariant.account (c.in-Some.place, c.in-Some.slot) c.in-Some.ensures

pub loop-place-smaller : goal.loop-place-smaller
loop-place-smaller g c =
    fewer_active c.args.config.now.config.segment_size c.args.mark c.loop-place.self c.loop-place.invariant.account (c.in-Some.place, c.in-Some.slot) c.in-Some.ensures c.deactivate.new.self c.in_ok-deactivate.ensures.active

pub loop-place-preserved : goal.loop-place-preserved
loop-place-preserved g c =
    let size : ℕ = c.args.config.now.config.segment_size in
    let held : ℤ = to_z w64 (of_z w64 c.args.mark) in
    let back : c.args.mark ≡ held = sym (to_z-of_z w64 c.args.mark c.ranges.mark) in
    let w : ℕ × ℕ = (c.in-Some.place, c.in-Some.slot) in
    let first : Machine = machine_of c.args.self.now in
    let m : Machine = machine_of c.loop-place.self in
    let n : Machine = machine_of c.deactivate.new.self in
    let before : Trace = g.D.Device.trace c.args.config.now.device in
    let between : Trace = g.D.Device.trace c.loop-place.config.device in
    let after : Trace = g.D.Device.trace c.deactivate.new.device in
    let same = c.loop-place.invariant.account.size_is in
    let step = c.in_ok-deactivate.ensures.step in
    let account = subst (λ k. IsAccountant k c.deactivate.new.self) same step.account in
    let left = due_left size c.args.mark c.loop-place.self c.loop-place.invariant.account w c.in-Some.ensures c.deactivate.new.self
    c.in_ok-deactivate.ensures.active account in
    let made = made_same (λ k. deactivated k w m) size c.loop-place.self.size between n after same step.done step.made in
    let at = goal.at.loop-place-preserved g c in
    let head = at.After-first in
    let is = due g at.In-Some c.if-place-self.false in
    record {
      account = account;
      leads = leads_at size c.args.mark held n after first before back
          (turn_on (deactivated size) (due_among size c.args.mark (active_among m.slots)) m _ _ _ (leads g head) w _
          (due_among size c.args.mark (active_among n.slots)) n after (list g at.In-Some is) made left);
      moves = moved_at size c.args.mark held first n before after back
          (then_moved size c.args.mark first m n before between after (moved g head)
          (whole_moved size c.args.mark _ m n between after (moves g at.After-deactivate is _ c.in_ok-deactivate.ensures.moves)));
      faults = step.answers ∙ c.loop-place.invariant.faults;
      config = c.loop-place.invariant.config;
      checksum = c.loop-place.invariant.checksum;
    }

-- Where one fails, one of its calls was due.
begun : (g : Over) (c : goal.After-from_residual g)
    → IsBegun (stabilized c.args.config.now.config.segment_size c.args.mark (machine_of c.args.self.now)).calls (g.D.Device.trace c.args.config.now.device)
    (g.D.Device.trace c.deactivate.new.device)
begun g c =
    let size : ℕ = c.args.config.now.config.segment_size in
    let w : ℕ × ℕ = (c.in-Some.place, c.in-Some.slot) in
    let m : Machine = machine_of c.loop-place.self in
    let after : Trace = g.D.Device.trace c.deactivate.new.device in
    let at = goal.at.returns-in_err-deactivate-clause-calls g c in
    turn_failed (deactivated size) (due_among size c.args.mark (active_among m.slots)) m _ _ _ (leads g at.After-first) w _ after
    (list g at.In-Some (due g at.In-Some c.if-place-self.false))
    (begun_same (λ n. deactivated n w m) size c.loop-place.self.size (g.D.Device.trace c.loop-place.config.device) after
    c.loop-place.invariant.account.size_is (record { calls = c.deactivate.ensures.step.calls; due = c.in_err-deactivate.ensures.step.due }))

pub returns-in_err-deactivate-clause-calls : goal.returns-in_err-deactivate-clause-calls
returns-in_err-deactivate-clause-calls g c = (begun g c).calls

pub returns-in_err-deactivate-clause-due : goal.returns-in_err-deactivate-clause-due
returns-in_err-deactivate-clause-due g c =
    let due = (begun g c).due in
    search rules

pub returns-in_err-deactivate-clause-account : goal.returns-in_err-deactivate-clause-account
returns-in_err-deactivate-clause-account g c =
    subst (λ n. IsAccountant n c.deactivate.new.self) c.loop-place.invariant.account.size_is c.deactivate.ensures.step.account

pub returns-in_err-deactivate-clause-moves : goal.returns-in_err-deactivate-clause-moves
returns-in_err-deactivate-clause-moves g c =
    let at = goal.at.returns-in_err-deactivate-clause-moves g c in
    exit_failed c.args.config.now.config.segment_size c.args.mark c.from_residual.result (machine_of c.args.self.now) (machine_of c.loop-place.self)
    (machine_of c.deactivate.new.self) (g.D.Device.trace c.args.config.now.device) (g.D.Device.trace c.loop-place.config.device)
    (g.D.Device.trace c.deactivate.new.device) (λ P. search rules) (moved g at.After-first) c.deactivate.result
    (moves g at.After-deactivate (due g at.In-Some c.if-place-self.false) _ c.deactivate.ensures.moves)

-- No segment is active.
none : (g : Over) (c : goal.In_default g)
    → IsMade (stabilized c.args.config.now.config.segment_size c.args.mark (machine_of c.args.self.now)) (g.D.Device.trace c.args.config.now.device)
    (machine_of c.loop-place.self) (g.D.Device.trace c.loop-place.config.device)
none g c = ended g (goal.at.returns-clause-done g c).After-first (due_nothing c.args.config.now.config.segment_size c.args.mark c.loop-place.self
    c.loop-place.invariant.account c.first.result c.first.ensures c.in_default.not-Some)

pub returns-clause-done : goal.returns-clause-done
returns-clause-done g c = (none g c).machine

pub returns-clause-made : goal.returns-clause-made
returns-clause-made g c = (none g c).trace

pub returns-clause-calls : goal.returns-clause-calls
returns-clause-calls g c = all_called (none g c)

pub returns-clause-moves : goal.returns-clause-moves
returns-clause-moves g c =
    let first : Machine = machine_of c.args.self.now in
    let before : Trace = g.D.Device.trace c.args.config.now.device in
    exit_moved c.args.config.now.config.segment_size c.args.mark _ first first (machine_of c.loop-place.self) before before
    (g.D.Device.trace c.loop-place.config.device) (moved g (goal.at.returns-clause-moves g c).After-first)
