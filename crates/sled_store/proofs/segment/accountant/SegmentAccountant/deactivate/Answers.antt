-- Blobs go, the segment is inactive, slots that waited are freed, it is tested, and one more is drained where much is free.
use Rattle.std.proofs.Common.{rules, ◌≡◌, ◌∙◌, ◌<◌, ℕ, ℤ, List, length, get_or, refl, sym, ap, subst, arith, length-set, Some, true}
use Rattle.sled_store.specs.Device.{Trace}
use Rattle.sled_store.specs.Blobs.{removing_blobs}
use Rattle.sled_store.specs.Script.{Performs, after_all}
use Rattle.sled_store.specs.SegmentStates.{SlotState, Machine, Step, active_place, is_due, slot_at, with_slot, inactive_slot, followed_by, without_calls, deactivated, tested, drained_if_wasteful}
use Rattle.sled_store.specs.Stabilizing.{deactivates, removes}
use Rattle.sled_store.specs.inside.Stabilizing.{waiting_freed}
use Rattle.sled_store.specs.declared.segment.slot.Slot.{Slot}
use Rattle.sled_store.specs.declared.segment.accountant.SegmentAccountant.{SegmentAccountant}
use Rattle.sled_store.specs.Accounts.{IsAccountant, machine_of, size_of}
use Rattle.sled_store.proofs.Traces.ScriptLemmas.{performs_whole}
use Rattle.sled_store.proofs.Accounts.StabilSlots.{slot_is}
use Rattle.sled_store.proofs.Accounts.StabilSteps.{IsBegun, IsMade, made_same, begun_same, made_next, failed_first, failed_next}
use Rattle.sled_store.proofs.Marks.MovesMade.{Moved, exit_begun, exit_failed, exit_moved, left_behind, moves_same, none_moved, one_moved, then_moved, wasteful_moved, whole_moved}
use Rattle.sled_store.proofs.segment.accountant.SegmentAccountant.deactivate.Goals as goal

own : (size : ℕ) (a : SegmentAccountant) → IsAccountant size a → IsAccountant (size_of a) a
own size a is = subst (λ n. IsAccountant n a) (sym is.size_is) is

-- The parts of a deactivation, one after another.
module _ (size place k : ℕ) (m : Machine) (h0 : Trace) where
  abbrev gone : Step
  gone = record { machine = with_slot k (inactive_slot (slot_at m k)) m; calls = removing_blobs (slot_at m k).blobs }

  abbrev waits : Machine → Step
  waits n = waiting_freed size place n

  abbrev last : Machine → Step
  last n = without_calls (drained_if_wasteful n)

  failed_gone : (h : Trace) → IsBegun (removing_blobs (slot_at m k).blobs) h0 h → IsBegun (deactivated size (place, k) m).calls h0 h
  failed_gone h came =
      failed_first (followed_by (followed_by gone waits) (tested size k)) last h0 h
      (failed_first (followed_by gone waits) (tested size k) h0 h (failed_first gone waits h0 h came))

  module _ (m1 : Machine) (h1 : Trace) (made1 : IsMade gone h0 m1 h1) where
    failed_waits : (h : Trace) → IsBegun (waiting_freed size place m1).calls h1 h → IsBegun (deactivated size (place, k) m).calls h0 h
    failed_waits h came =
        failed_first (followed_by (followed_by gone waits) (tested size k)) last h0 h
        (failed_first (followed_by gone waits) (tested size k) h0 h (failed_next gone waits h0 h1 h m1 made1 came))

    module _ (m2 : Machine) (h2 : Trace) (made2 : IsMade (waiting_freed size place m1) h1 m2 h2) where
      made_both : IsMade (followed_by gone waits) h0 m2 h2
      made_both = made_next gone waits h0 h1 h2 m1 m2 made1 made2

      failed_test : (h : Trace) → IsBegun (tested size k m2).calls h2 h → IsBegun (deactivated size (place, k) m).calls h0 h
      failed_test h came =
          failed_first (followed_by (followed_by gone waits) (tested size k)) last h0 h
          (failed_next (followed_by gone waits) (tested size k) h0 h2 h m2 made_both came)

      made_all : (m3 m4 : Machine) (h3 : Trace) → IsMade (tested size k m2) h2 m3 h3 → m4 ≡ drained_if_wasteful m3 → IsMade (deactivated size (place, k) m) h0 m4 h3
      made_all m3 m4 h3 made3 is =
          made_next (followed_by (followed_by gone waits) (tested size k)) last h0 h3 h3 m3 m4
          (made_next (followed_by gone waits) (tested size k) h0 h2 h3 m2 m3 made_both made3) (record { machine = is; trace = refl })

-- the blobs that were read are those of the slot
blobs_are : (a : SegmentAccountant) (k : ℕ) (s : Slot) (keys : List ℤ) → k < length (machine_of a).slots → s ≡ get_or a.slots.items k s → keys ≡ s.blobs.0 → keys ≡ (slot_at (machine_of a) k).blobs
blobs_are a k s keys lt at is = is ∙ ap (λ (t : SlotState). t.blobs) (slot_is a k s lt at)

pub free_waiting-requires : goal.free_waiting-requires
free_waiting-requires g c = own c.args.self.now.size c.make_inactive.new.self c.make_inactive.ensures.account

pub test-requires-clause-account : goal.test-requires-clause-account
test-requires-clause-account g c = own c.make_inactive.new.self.size c.free_waiting.new.self c.in_ok-free_waiting.ensures.step.account

pub test-requires-clause-slot : goal.test-requires-clause-slot
test-requires-clause-slot g c =
    let m : Machine = machine_of c.args.self.now in
    let same : length (machine_of c.free_waiting.new.self).slots ≡ length m.slots =
    c.in_ok-free_waiting.ensures.count ∙ ap (λ (n : Machine). length n.slots) c.make_inactive.ensures.machine ∙ length-set m.slots c.args.slot (inactive_slot (slot_at m c.args.slot)) in
    omega (arith, same, c.requires.slot)

pub drain_if_wasteful-requires : goal.drain_if_wasteful-requires
drain_if_wasteful-requires g c = own c.free_waiting.new.self.size c.test.new.self c.in_ok-test.ensures.step.account

pub returns-in_err-remove_blobs-clause-step : goal.returns-in_err-remove_blobs-clause-step
returns-in_err-remove_blobs-clause-step g c =
    let a : SegmentAccountant = c.args.self.now in
    let old : Trace = g.D.Device.trace c.args.device.now in
    let new : Trace = g.D.Device.trace c.remove_blobs.new.device in
    let blobs = blobs_are a c.args.slot c.index-s.result.now c.keys.result.now c.requires.slot c.index-s.ensures c.keys.ensures.keys in
    let begun = failed_gone a.size c.args.place c.args.slot (machine_of a) old new
    (subst (λ (l : List ℤ). IsBegun (removing_blobs l) old new) blobs
    (record { calls = c.remove_blobs.ensures.calls; due = c.in_err-remove_blobs.ensures.due })) in
    record {
      done = search rules;
      made = search rules;
      calls = begun.calls;
      due = let told = begun.due in search rules;
      answers = search rules;
      memory = let told = c.in_err-remove_blobs.ensures.memory in search rules;
      account = c.requires.account;
    }

pub returns-in_err-free_waiting-clause-step : goal.returns-in_err-free_waiting-clause-step
returns-in_err-free_waiting-clause-step g c =
    let a : SegmentAccountant = c.args.self.now in
    let old : Trace = g.D.Device.trace c.args.device.now in
    let h1 : Trace = g.D.Device.trace c.remove_blobs.new.device in
    let m1 : Machine = machine_of c.make_inactive.new.self in
    let blobs = blobs_are a c.args.slot c.index-s.result.now c.keys.result.now c.requires.slot c.index-s.ensures c.keys.ensures.keys in
    let made1 : IsMade (gone a.size c.args.place c.args.slot (machine_of a) old) old m1 h1 =
    record { machine = c.make_inactive.ensures.machine; trace = subst (λ (l : List ℤ). h1 ≡ after_all (removing_blobs l) old) blobs c.in_ok-remove_blobs.ensures.made } in
    let failed = c.in_err-free_waiting.ensures.step in
    let begun = failed_waits a.size c.args.place c.args.slot (machine_of a) old m1 h1 made1 (g.D.Device.trace c.free_waiting.new.device)
    (begun_same (λ n. waiting_freed n c.args.place m1) a.size c.make_inactive.new.self.size h1 (g.D.Device.trace c.free_waiting.new.device)
    c.make_inactive.ensures.account.size_is (record { calls = c.free_waiting.ensures.step.calls; due = failed.due })) in
    record {
      done = search rules;
      made = search rules;
      calls = begun.calls;
      due = let told = begun.due in search rules;
      answers = let told = failed.answers in search rules;
      memory = let told = failed.memory in search rules;
      account = subst (λ n. IsAccountant n c.free_waiting.new.self) c.make_inactive.ensures.account.size_is c.free_waiting.ensures.step.account;
    }

pub returns-in_err-test-clause-step : goal.returns-in_err-test-clause-step
returns-in_err-test-clause-step g c =
    let a : SegmentAccountant = c.args.self.now in
    let old : Trace = g.D.Device.trace c.args.device.now in
    let h1 : Trace = g.D.Device.trace c.remove_blobs.new.device in
    let m1 : Machine = machine_of c.make_inactive.new.self in
    let h2 : Trace = g.D.Device.trace c.free_waiting.new.device in
    let m2 : Machine = machine_of c.free_waiting.new.self in
    let blobs = blobs_are a c.args.slot c.index-s.result.now c.keys.result.now c.requires.slot c.index-s.ensures c.keys.ensures.keys in
    let made1 : IsMade (gone a.size c.args.place c.args.slot (machine_of a) old) old m1 h1 =
    record { machine = c.make_inactive.ensures.machine; trace = subst (λ (l : List ℤ). h1 ≡ after_all (removing_blobs l) old) blobs c.in_ok-remove_blobs.ensures.made } in
    let same1 : c.make_inactive.new.self.size ≡ a.size = c.make_inactive.ensures.account.size_is in
    let made2 : IsMade (waiting_freed a.size c.args.place m1) h1 m2 h2 =
    made_same (λ n. waiting_freed n c.args.place m1) a.size c.make_inactive.new.self.size h1 m2 h2 same1 c.in_ok-free_waiting.ensures.step.done c.in_ok-free_waiting.ensures.step.made in
    let same2 : c.free_waiting.new.self.size ≡ a.size = c.in_ok-free_waiting.ensures.step.account.size_is ∙ same1 in
    let failed = c.in_err-test.ensures.step in
    let begun = failed_test a.size c.args.place c.args.slot (machine_of a) old m1 h1 made1 m2 h2 made2 (g.D.Device.trace c.test.new.device)
    (begun_same (λ n. tested n c.args.slot m2) a.size c.free_waiting.new.self.size h2 (g.D.Device.trace c.test.new.device) same2
    (record { calls = c.test.ensures.step.calls; due = failed.due })) in
    record {
      done = search rules;
      made = search rules;
      calls = begun.calls;
      due = let told = begun.due in search rules;
      answers = let told = failed.answers in search rules;
      memory = let told = failed.memory in search rules;
      account = subst (λ n. IsAccountant n c.test.new.self) same2 c.test.ensures.step.account;
    }

pub returns-clause-step : goal.returns-clause-step
returns-clause-step g c =
    let a : SegmentAccountant = c.args.self.now in
    let old : Trace = g.D.Device.trace c.args.device.now in
    let h1 : Trace = g.D.Device.trace c.remove_blobs.new.device in
    let m1 : Machine = machine_of c.make_inactive.new.self in
    let h2 : Trace = g.D.Device.trace c.free_waiting.new.device in
    let m2 : Machine = machine_of c.free_waiting.new.self in
    let h3 : Trace = g.D.Device.trace c.test.new.device in
    let m3 : Machine = machine_of c.test.new.self in
    let blobs = blobs_are a c.args.slot c.index-s.result.now c.keys.result.now c.requires.slot c.index-s.ensures c.keys.ensures.keys in
    let made1 : IsMade (gone a.size c.args.place c.args.slot (machine_of a) old) old m1 h1 =
    record { machine = c.make_inactive.ensures.machine; trace = subst (λ (l : List ℤ). h1 ≡ after_all (removing_blobs l) old) blobs c.in_ok-remove_blobs.ensures.made } in
    let same1 : c.make_inactive.new.self.size ≡ a.size = c.make_inactive.ensures.account.size_is in
    let made2 : IsMade (waiting_freed a.size c.args.place m1) h1 m2 h2 =
    made_same (λ n. waiting_freed n c.args.place m1) a.size c.make_inactive.new.self.size h1 m2 h2 same1 c.in_ok-free_waiting.ensures.step.done c.in_ok-free_waiting.ensures.step.made in
    let same2 : c.free_waiting.new.self.size ≡ a.size = c.in_ok-free_waiting.ensures.step.account.size_is ∙ same1 in
    let made3 : IsMade (tested a.size c.args.slot m2) h2 m3 h3 =
    made_same (λ n. tested n c.args.slot m2) a.size c.free_waiting.new.self.size h2 m3 h3 same2 c.in_ok-test.ensures.step.done c.in_ok-test.ensures.step.made in
    let all = (made_all a.size c.args.place c.args.slot (machine_of a) old m1 h1 made1 m2 h2 made2 m3 (machine_of c.drain_if_wasteful.new.self) h3 made3 c.drain_if_wasteful.ensures.machine) in
    let same3 = c.in_ok-test.ensures.step.account.size_is in
    record {
      done = all.machine;
      made = all.trace;
      calls = performs_whole (deactivated a.size (c.args.place, c.args.slot) (machine_of a)).calls old h3 all.trace;
      due = search rules;
      answers = search rules;
      memory = search rules;
      account = subst (λ n. IsAccountant n c.drain_if_wasteful.new.self) (same3 ∙ same2) c.drain_if_wasteful.ensures.account;
    }

pub returns-clause-active : goal.returns-clause-active
returns-clause-active g c =
    ap (λ (s : List (ℕ × ℕ) × ℕ). s.0) (c.drain_if_wasteful.ensures.active ∙ c.test.ensures.active ∙ c.free_waiting.ensures.active) ∙ c.make_inactive.ensures.active

-- The segment is inactive, and its blobs went before.
first_moved : (size : ℕ) (mark : ℤ) (place k : ℕ) (a : SegmentAccountant) (n : Machine) (s : Slot) (keys : List ℤ) (old new : Trace)
    → k < length (machine_of a).slots → s ≡ get_or a.slots.items k s → keys ≡ s.blobs.0 → active_place (slot_at (machine_of a) k) ≡ Some place
    → is_due size mark place ≡ true → n ≡ with_slot k (inactive_slot (slot_at (machine_of a) k)) (machine_of a) → new ≡ after_all (removing_blobs keys) old
    → Moved size mark (machine_of a) n old new
first_moved size mark place k a n s keys old new lt at is active due now came =
    one_moved size mark (machine_of a) n (removing_blobs keys) old new
    (deactivates k (left_behind size mark (machine_of a) k place active due) now (ap removing_blobs (blobs_are a k s keys lt at is))) came

pub returns-in_err-remove_blobs-clause-moves : goal.returns-in_err-remove_blobs-clause-moves
returns-in_err-remove_blobs-clause-moves g c mark due =
    let size : ℕ = c.args.self.now.size in
    let m : Machine = machine_of c.args.self.now in
    let old : Trace = g.D.Device.trace c.args.device.now in
    let new : Trace = g.D.Device.trace c.remove_blobs.new.device in
    let blobs = blobs_are c.args.self.now c.args.slot c.index-s.result.now c.keys.result.now c.requires.slot c.index-s.ensures c.keys.ensures.keys in
    exit_begun size mark c.from_residual.result m m m old old new (λ P. search rules) (none_moved size mark m m old old refl refl)
    (removes c.args.slot (left_behind size mark m c.args.slot c.args.place c.requires.active due) refl
    (subst (λ (l : List ℤ). Performs (removing_blobs l) old new) blobs c.remove_blobs.ensures.calls))

pub returns-in_err-free_waiting-clause-moves : goal.returns-in_err-free_waiting-clause-moves
returns-in_err-free_waiting-clause-moves g c mark due =
    let size : ℕ = c.args.self.now.size in
    let m : Machine = machine_of c.args.self.now in
    let old : Trace = g.D.Device.trace c.args.device.now in
    let h1 : Trace = g.D.Device.trace c.remove_blobs.new.device in
    let m1 : Machine = machine_of c.make_inactive.new.self in
    let m2 : Machine = machine_of c.free_waiting.new.self in
    let h2 : Trace = g.D.Device.trace c.free_waiting.new.device in
    let same = c.make_inactive.ensures.account.size_is in
    let first = first_moved size mark c.args.place c.args.slot c.args.self.now m1 c.index-s.result.now c.keys.result.now old h1 c.requires.slot
    c.index-s.ensures
    c.keys.ensures.keys c.requires.active due c.make_inactive.ensures.machine c.in_ok-remove_blobs.ensures.made in
    exit_failed size mark c.from_residual-in_err-free_waiting.result m m1 m2 old h1 h2 (λ P. search rules) first c.free_waiting.result
    (moves_same size c.make_inactive.new.self.size mark c.free_waiting.result m1 m2 h1 h2 same
    (c.free_waiting.ensures.moves mark (ap (λ n. is_due n mark c.args.place) same ∙ due)))

pub returns-in_err-test-clause-moves : goal.returns-in_err-test-clause-moves
returns-in_err-test-clause-moves g c mark due =
    let size : ℕ = c.args.self.now.size in
    let m : Machine = machine_of c.args.self.now in
    let old : Trace = g.D.Device.trace c.args.device.now in
    let h1 : Trace = g.D.Device.trace c.remove_blobs.new.device in
    let m1 : Machine = machine_of c.make_inactive.new.self in
    let h2 : Trace = g.D.Device.trace c.free_waiting.new.device in
    let m2 : Machine = machine_of c.free_waiting.new.self in
    let h3 : Trace = g.D.Device.trace c.test.new.device in
    let m3 : Machine = machine_of c.test.new.self in
    let same = c.make_inactive.ensures.account.size_is in
    let first = first_moved size mark c.args.place c.args.slot c.args.self.now m1 c.index-s.result.now c.keys.result.now old h1 c.requires.slot
    c.index-s.ensures
    c.keys.ensures.keys c.requires.active due c.make_inactive.ensures.machine c.in_ok-remove_blobs.ensures.made in
    let second = whole_moved size mark _ m1 m2 h1 h2 (moves_same size c.make_inactive.new.self.size mark _ m1 m2 h1 h2 same
    (c.in_ok-free_waiting.ensures.moves mark (ap (λ n. is_due n mark c.args.place) same ∙ due))) in
    exit_failed size mark c.from_residual-in_err-test.result m m2 m3 old h2 h3 (λ P. search rules)
    (then_moved size mark m m1 m2 old h1 h2 first second) c.test.result
    (moves_same size c.free_waiting.new.self.size mark c.test.result m2 m3 h2 h3 (c.in_ok-free_waiting.ensures.step.account.size_is ∙ same)
    (c.test.ensures.moves mark))

pub returns-clause-moves : goal.returns-clause-moves
returns-clause-moves g c mark due =
    let size : ℕ = c.args.self.now.size in
    let m : Machine = machine_of c.args.self.now in
    let old : Trace = g.D.Device.trace c.args.device.now in
    let h1 : Trace = g.D.Device.trace c.remove_blobs.new.device in
    let m1 : Machine = machine_of c.make_inactive.new.self in
    let h2 : Trace = g.D.Device.trace c.free_waiting.new.device in
    let m2 : Machine = machine_of c.free_waiting.new.self in
    let h3 : Trace = g.D.Device.trace c.test.new.device in
    let m3 : Machine = machine_of c.test.new.self in
    let m4 : Machine = machine_of c.drain_if_wasteful.new.self in
    let same = c.make_inactive.ensures.account.size_is in
    let first = first_moved size mark c.args.place c.args.slot c.args.self.now m1 c.index-s.result.now c.keys.result.now old h1 c.requires.slot
    c.index-s.ensures
    c.keys.ensures.keys c.requires.active due c.make_inactive.ensures.machine c.in_ok-remove_blobs.ensures.made in
    let second = whole_moved size mark _ m1 m2 h1 h2 (moves_same size c.make_inactive.new.self.size mark _ m1 m2 h1 h2 same
    (c.in_ok-free_waiting.ensures.moves mark (ap (λ n. is_due n mark c.args.place) same ∙ due))) in
    let third = whole_moved size mark _ m2 m3 h2 h3 (moves_same size c.free_waiting.new.self.size mark _ m2 m3 h2 h3
    (c.in_ok-free_waiting.ensures.step.account.size_is ∙ same) (c.in_ok-test.ensures.moves mark)) in
    exit_moved size mark _ m m m4 old old h3
    (then_moved size mark m m1 m4 old h1 h3 first (then_moved size mark m1 m2 m4 h1 h2 h3 second
    (then_moved size mark m2 m3 m4 h2 h3 h3 third (wasteful_moved size mark m3 m4 h3 c.drain_if_wasteful.ensures.machine))))
