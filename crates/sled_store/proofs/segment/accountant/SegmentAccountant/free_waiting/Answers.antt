-- The first slot that waits is done, and is freed; the others wait as before.
use Rattle.std.proofs.Common.{rules, ◌≡◌, ◌∙◌, ◌<◌, ◌-◌, ℕ, List, [], ◌∷◌, Some, None, Option, true, length, get_or, drop, refl, sym, ap, subst, arith, length-set}
use Rattle.std.specs.List.{slice_get}
use Rattle.std.specs.BTreeMap.{is_at}
use Rattle.std.specs.Set.{remove_key}
use Rattle.sled_store.specs.Device.{Trace}
use Rattle.sled_store.specs.SegmentStates.{Machine, free_slot, slot_at, waited_place, waiting_among, waiting_for, is_done, freed, by_place}
use Rattle.sled_store.specs.inside.Stabilizing.{slots_at, waiting_freed, not_beside}
use Rattle.sled_store.specs.declared.segment.accountant.SegmentAccountant.{SegmentAccountant}
use Rattle.sled_store.specs.Accounts.{IsAccountant, machine_of}
use Rattle.sled_store.proofs.Traces.ScriptLemmas.{performs_whole}
use Rattle.sled_store.proofs.Accounts.StabilIndex.{HasPlace, have_places}
use Rattle.sled_store.proofs.Accounts.StabilSlots.{waits_at}
use Rattle.sled_store.proofs.Accounts.StabilFirst.{first_has, first_taken, first_and_rest, none_first}
use Rattle.sled_store.proofs.Accounts.StabilSteps.{made_same, begun_same, leads_itself, turn_on, turn_failed, turns_done}
use Rattle.sled_store.proofs.Marks.MovesMade.{ended_due, exit_failed, exit_moved, moves_same, none_moved, then_moved, whole_moved}
use Rattle.sled_store.proofs.segment.accountant.SegmentAccountant.free_waiting.Goals as goal

-- the first slot that waits
module _ (size place k : ℕ) (a : SegmentAccountant) (is : IsAccountant size a) (first : Some k ≡ slice_get (slots_at place a.waiting.0) 0) where
  rest : List ℕ
  rest = drop 1 (slots_at place a.waiting.0)

  kept_list : slots_at place a.waiting.0 ≡ k ∷ drop 1 (slots_at place a.waiting.0)
  kept_list = first_and_rest k (slots_at place a.waiting.0) (sym first)

  listed : waiting_for place (machine_of a) ≡ k ∷ drop 1 (slots_at place a.waiting.0)
  listed = ap (slots_at place) (sym is.indexes.waiting_is) ∙ kept_list

  has : HasPlace waited_place 0 (machine_of a).slots free_slot (place, k)
  has = first_has place k (drop 1 (slots_at place a.waiting.0)) (HasPlace waited_place 0 (machine_of a).slots free_slot) (waiting_among (machine_of a).slots) (have_places waited_place free_slot 0 (machine_of a).slots) listed

  pub there : k < length (machine_of a).slots
  there = omega (arith, has.below)

  waits : (is_done (slot_at (machine_of a) k) ≡ true) × ((slot_at (machine_of a) k).latest ≡ Some place)
  waits =
      let none : k - 0 ≡ k = omega arith in
      waits_at (slot_at (machine_of a) k) place (subst (λ n. waited_place (get_or (machine_of a).slots n free_slot) ≡ Some place) none has.place)

  -- it is no longer there afterwards
  module _ (b : SegmentAccountant) (now : b.waiting.0 ≡ not_beside (slot_at (machine_of a) k).latest k a.waiting.0) where
    taken_out : b.waiting.0 ≡ remove_key (is_at (by_place (place, k))) a.waiting.0
    taken_out = now ∙ ap (λ (o : Option ℕ). not_beside o k a.waiting.0) waits.1

    fewer : length b.waiting.0 < length a.waiting.0
    fewer = omega (arith, ap length taken_out, (first_taken place k (drop 1 (slots_at place a.waiting.0)) a.waiting.0 kept_list).shorter)

    left_over : IsAccountant size b → waiting_for place (machine_of b) ≡ drop 1 (slots_at place a.waiting.0)
    left_over account = ap (slots_at place) (sym account.indexes.waiting_is ∙ taken_out) ∙ (first_taken place k (drop 1 (slots_at place a.waiting.0)) a.waiting.0 kept_list).left

pub loop-slot-init : goal.loop-slot-init
loop-slot-init g c =
    let size : ℕ = c.args.self.now.size in
    let m : Machine = machine_of c.args.self.now in
    let old : Trace = g.D.Device.trace c.args.device.now in
    record {
      account = c.requires;
      leads = leads_itself (waiting_freed size c.args.place m) old;
      moves = λ mark due. none_moved size mark m m old old refl refl;
      faults = refl;
      active = refl;
      count = refl;
    }

pub free-requires-clause-slot : goal.free-requires-clause-slot
free-requires-clause-slot g c = there c.args.self.now.size c.args.place c.in-Some.slot c.loop-slot.self c.loop-slot.invariant.account c.in-Some.ensures

pub free-requires-clause-done : goal.free-requires-clause-done
free-requires-clause-done g c = (waits c.args.self.now.size c.args.place c.in-Some.slot c.loop-slot.self c.loop-slot.invariant.account c.in-Some.ensures).0

pub loop-slot-preserved : goal.loop-slot-preserved
loop-slot-preserved g c =
    let size : ℕ = c.args.self.now.size in
    let k : ℕ = c.in-Some.slot in
    let m : Machine = machine_of c.loop-slot.self in
    let same = c.loop-slot.invariant.account.size_is in
    let account = subst (λ n. IsAccountant n c.free.new.self) same c.in_ok-free.ensures.step.account in
    let left = left_over size c.args.place k c.loop-slot.self c.loop-slot.invariant.account c.in-Some.ensures c.free.new.self c.free.ensures.waiting account in
    let made = made_same (λ n. freed n k m) size c.loop-slot.self.size (g.D.Device.trace c.loop-slot.device) (machine_of c.free.new.self) (g.D.Device.trace c.free.new.device) same c.in_ok-free.ensures.step.done c.in_ok-free.ensures.step.made in
    record {
      account = account;
      leads = turn_on (freed size) _ m _ _ _ c.loop-slot.invariant.leads k _ (waiting_for c.args.place (machine_of c.free.new.self)) (machine_of c.free.new.self) (g.D.Device.trace c.free.new.device)
          (listed size c.args.place k c.loop-slot.self c.loop-slot.invariant.account c.in-Some.ensures) made left;
      moves = λ mark due.
          let n : Machine = machine_of c.free.new.self in
          let mid : Trace = g.D.Device.trace c.loop-slot.device in
          let ended = ended_due size c.loop-slot.self.size mark m c.args.place (slot_at m k).latest same
          (waits size c.args.place k c.loop-slot.self c.loop-slot.invariant.account c.in-Some.ensures).1 due in
          then_moved size mark _ m n _ mid (g.D.Device.trace c.free.new.device) (c.loop-slot.invariant.moves mark due)
          (whole_moved size mark _ m n mid (g.D.Device.trace c.free.new.device)
          (moves_same size c.loop-slot.self.size mark _ m n mid (g.D.Device.trace c.free.new.device) same (c.in_ok-free.ensures.moves mark ended)));
      faults = c.in_ok-free.ensures.step.answers ∙ c.loop-slot.invariant.faults;
      active = c.free.ensures.active ∙ c.loop-slot.invariant.active;
      count = ap (λ (n : Machine). length n.slots) c.in_ok-free.ensures.step.done ∙ length-set m.slots k free_slot ∙ c.loop-slot.invariant.count;
    }

pub loop-slot-smaller : goal.loop-slot-smaller
loop-slot-smaller g c = fewer c.args.self.now.size c.args.place c.in-Some.slot c.loop-slot.self c.loop-slot.invariant.account c.in-Some.ensures c.free.new.self c.free.ensures.waiting

pub returns-in_err-free-clause-step : goal.returns-in_err-free-clause-step
returns-in_err-free-clause-step g c =
    let size : ℕ = c.args.self.now.size in
    let k : ℕ = c.in-Some.slot in
    let m : Machine = machine_of c.loop-slot.self in
    let first = listed size c.args.place k c.loop-slot.self c.loop-slot.invariant.account c.in-Some.ensures in
    let begun = turn_failed (freed size) _ m _ _ _ c.loop-slot.invariant.leads k _ (g.D.Device.trace c.free.new.device) first
    (begun_same (λ n. freed n k m) size c.loop-slot.self.size (g.D.Device.trace c.loop-slot.device) (g.D.Device.trace c.free.new.device)
    c.loop-slot.invariant.account.size_is (record { calls = c.free.ensures.step.calls; due = c.in_err-free.ensures.step.due })) in
    record {
      done = search rules;
      made = search rules;
      calls = begun.calls;
      due = let told = begun.due in search rules;
      answers = let told = c.in_err-free.ensures.step.answers in search rules;
      memory = let told = c.in_err-free.ensures.step.memory in search rules;
      account = subst (λ n. IsAccountant n c.free.new.self) c.loop-slot.invariant.account.size_is c.free.ensures.step.account;
    }

none_left : (size place : ℕ) (a : SegmentAccountant) (o : Option ℕ) → IsAccountant size a → o ≡ slice_get (slots_at place a.waiting.0) 0 → ((k : ℕ) → o ≡ Some k → ⊥) → waiting_for place (machine_of a) ≡ []
none_left size place a (Some k) is first missing = absurd (missing k refl)
none_left size place a None is first missing = ap (slots_at place) (sym is.indexes.waiting_is) ∙ none_first (slots_at place a.waiting.0) (sym first)

pub returns-clause-step : goal.returns-clause-step
returns-clause-step g c =
    let size : ℕ = c.args.self.now.size in
    let old : Trace = g.D.Device.trace c.args.device.now in
    let new : Trace = g.D.Device.trace c.loop-slot.device in
    let none = none_left size c.args.place c.loop-slot.self c.first_at.result c.loop-slot.invariant.account c.first_at.ensures c.in_default.not-Some in
    let all = turns_done (freed size) _ (machine_of c.loop-slot.self) _ _ _ c.loop-slot.invariant.leads none in
    record {
      done = all.machine;
      made = all.trace;
      calls = performs_whole (waiting_freed size c.args.place (machine_of c.args.self.now)).calls old new all.trace;
      due = search rules;
      answers = c.loop-slot.invariant.faults;
      memory = search rules;
      account = c.loop-slot.invariant.account;
    }

pub returns-in_err-free-clause-moves : goal.returns-in_err-free-clause-moves
returns-in_err-free-clause-moves g c mark due =
    let size : ℕ = c.args.self.now.size in
    let k : ℕ = c.in-Some.slot in
    let m : Machine = machine_of c.loop-slot.self in
    let n : Machine = machine_of c.free.new.self in
    let mid : Trace = g.D.Device.trace c.loop-slot.device in
    let same = c.loop-slot.invariant.account.size_is in
    let ended = ended_due size c.loop-slot.self.size mark m c.args.place (slot_at m k).latest same
    (waits size c.args.place k c.loop-slot.self c.loop-slot.invariant.account c.in-Some.ensures).1 due in
    exit_failed size mark c.from_residual.result _ m n _ mid (g.D.Device.trace c.free.new.device) (λ P. search rules) (c.loop-slot.invariant.moves mark due)
    c.free.result (moves_same size c.loop-slot.self.size mark c.free.result m n mid (g.D.Device.trace c.free.new.device) same (c.free.ensures.moves mark ended))

pub returns-clause-moves : goal.returns-clause-moves
returns-clause-moves g c mark due =
    let old : Machine = machine_of c.args.self.now in
    let before : Trace = g.D.Device.trace c.args.device.now in
    exit_moved c.args.self.now.size mark _ old old (machine_of c.loop-slot.self) before before (g.D.Device.trace c.loop-slot.device) (c.loop-slot.invariant.moves mark due)
