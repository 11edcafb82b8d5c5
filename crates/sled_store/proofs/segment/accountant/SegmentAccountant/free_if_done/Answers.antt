-- The slot is freed exactly where it is done and its free has not to wait.
use Rattle.std.proofs.Common.{rules, refl, ◌≡◌, ◌∙◌, ◌&&◌, not, ℕ, Bool, true, false, sym, ap, if◌then◌else◌}
use Rattle.sled_store.specs.Script.{after_all}
use Rattle.sled_store.specs.SegmentStates.{Machine, Step, freed, freed_if_done, without_calls, is_done, is_active_place, slot_at}
use Rattle.sled_store.specs.Accounts.{machine_of}
use Rattle.sled_store.proofs.Traces.ScriptLemmas.{performs_whole}
use Rattle.sled_store.proofs.Accounts.StabilSlots.{first_so}
use Rattle.sled_store.specs.Device.{Trace}
use Rattle.sled_store.proofs.Accounts.StabilSteps.{step_is}
use Rattle.std.proofs.lemmas.Bool.{and_parts, not-true}
use Rattle.sled_store.proofs.Marks.MovesMade.{ended_idle, exit_moved, none_moved}
use Rattle.sled_store.proofs.segment.accountant.SegmentAccountant.free_if_done.Goals as goal

module _ (size k : ℕ) (m : Machine) (may : Bool) (is : may ≡ (is_done (slot_at m k) && not (is_active_place m (slot_at m k).latest))) where
  abbrev by_test : Bool → Step
  by_test b = if b then freed size k m else without_calls m

  kept : may ≡ false → without_calls m ≡ freed_if_done size k m
  kept so = ap by_test (sym so ∙ is)

  goes : may ≡ true → freed size k m ≡ freed_if_done size k m
  goes so = ap by_test (sym so ∙ is)

pub returns-then-not-may_be_freed-clause-step : goal.returns-then-not-may_be_freed-clause-step
returns-then-not-may_be_freed-clause-step g c =
    let old : Trace = g.D.Device.trace c.args.device.now in
    let so = kept c.args.self.now.size c.args.slot (machine_of c.args.self.now) c.may_be_freed.result c.may_be_freed.ensures c.if-not-may_be_freed.true in
    let made : old ≡ after_all (freed_if_done c.args.self.now.size c.args.slot (machine_of c.args.self.now)).calls old = ap (λ (s : Step). after_all s.calls old) so in
    record {
      done = ap (λ (s : Step). s.machine) so;
      made = made;
      calls = performs_whole (freed_if_done c.args.self.now.size c.args.slot (machine_of c.args.self.now)).calls old old made;
      due = search rules;
      answers = refl;
      memory = search rules;
      account = c.requires.account;
    }

pub free-requires-clause-done : goal.free-requires-clause-done
free-requires-clause-done g c =
    let m : Machine = machine_of c.args.self.now in
    first_so (is_done (slot_at m c.args.slot)) (not (is_active_place m (slot_at m c.args.slot).latest)) (sym c.may_be_freed.ensures ∙ c.if-not-may_be_freed.false)

pub returns-clause-step : goal.returns-clause-step
returns-clause-step g c = step_is refl (goes c.args.self.now.size c.args.slot (machine_of c.args.self.now) c.may_be_freed.result c.may_be_freed.ensures c.if-not-may_be_freed.false) c.free.ensures.step

pub returns-then-not-may_be_freed-clause-moves : goal.returns-then-not-may_be_freed-clause-moves
returns-then-not-may_be_freed-clause-moves g c mark =
    let m : Machine = machine_of c.args.self.now in
    let old : Trace = g.D.Device.trace c.args.device.now in
    exit_moved c.args.self.now.size mark _ m m m old old old (none_moved c.args.self.now.size mark m m old old refl refl)

pub returns-clause-moves : goal.returns-clause-moves
returns-clause-moves g c mark =
    let m : Machine = machine_of c.args.self.now in
    let latest = (slot_at m c.args.slot).latest in
    let parts = and_parts (is_done (slot_at m c.args.slot)) (not (is_active_place m latest)) (sym c.may_be_freed.ensures ∙ c.if-not-may_be_freed.false) in
    c.free.ensures.moves mark (ended_idle c.args.self.now.size mark m latest (not-true (is_active_place m latest) parts.1))
