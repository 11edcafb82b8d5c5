-- What is left to be cut off is the last slot, and what is left behind it.
use Rattle.std.proofs.Common.{rules, ◌≡◌, ◌∙◌, ℕ, refl, sym, ap, subst}
use Rattle.sled_store.specs.Device.{Trace}
use Rattle.sled_store.specs.Script.{Performs, after_all}
use Rattle.sled_store.specs.SegmentStates.{Machine, Step}
use Rattle.sled_store.specs.Stabilizing.{cut_back, MayCut, cuts, cuts_off, shorter, cutting_last}
use Rattle.sled_store.specs.Accounts.{IsAccountant, machine_of}
use Rattle.sled_store.proofs.Traces.ScriptLemmas.{performs_whole}
use Rattle.sled_store.proofs.Accounts.StabilSteps.{IsBegun, IsMade, LeadsTo, leads_from, leads_itself, leads_next, leads_end, failed_first}
use Rattle.sled_store.proofs.Accounts.StabilCut.{cut_none, cut_more}
use Rattle.sled_store.proofs.Marks.MovesMade.{exit_begun, exit_moved, none_moved, one_moved, then_moved}
use Rattle.sled_store.proofs.segment.accountant.SegmentAccountant.cut_off.Goals as goal

-- the last slot goes first
last_step : ℕ → Machine → Step
last_step size m = record { machine = shorter m; calls = cutting_last size m }

module _ (size other : ℕ) (m : Machine) (mid : Trace) (whole : Step) (old : Trace) (leads : LeadsTo (cut_back size m) mid whole old) where
  cut_on : (n : Machine) (new : Trace) → MayCut m → other ≡ size → n ≡ shorter m → new ≡ after_all (cutting_last other m) mid → LeadsTo (cut_back size n) new whole old
  unfolding last_step
  cut_on n new may same is made =
      leads_from (cut_back size n) (cut_back size m) whole new mid old
      (subst (λ (s : Step). LeadsTo (cut_back size n) new s mid) (sym (cut_more size m may))
      (leads_next (last_step size m) (cut_back size) mid new n (record { machine = is; trace = subst (λ k. new ≡ after_all (cutting_last k m) mid) same made }))) leads

  cut_failed : (new : Trace) → MayCut m → other ≡ size → Performs (cutting_last other m) mid new → IsBegun whole.calls old new
  unfolding last_step
  cut_failed new may same calls =
      leads.begun new (subst (λ (s : Step). IsBegun s.calls mid new) (sym (cut_more size m may))
      (failed_first (last_step size m) (cut_back size) mid new
      (record { calls = subst (λ k. Performs (cutting_last k m) mid new) same calls; due = λ is. cc })))

  cut_done : (MayCut m → ⊥) → IsMade whole old m mid
  cut_done not = leads_end m mid old whole (subst (λ (s : Step). LeadsTo s mid whole old) (cut_none size m not) leads)

pub loop-self-init : goal.loop-self-init
loop-self-init g c =
    let size : ℕ = c.args.self.now.size in
    let m : Machine = machine_of c.args.self.now in
    let old : Trace = g.D.Device.trace c.args.device.now in
    record {
      account = c.requires;
      leads = leads_itself (cut_back size m) old;
      moves = λ mark. none_moved size mark m m old old refl refl;
      faults = refl;
      active = refl;
      waiting = refl;
    }

pub loop-self-preserved : goal.loop-self-preserved
loop-self-preserved g c =
    let may = c.may_cut.ensures.0 c.loop-self-test.true in
    let same = c.loop-self.invariant.account.size_is in
    record {
      account = subst (λ n. IsAccountant n c.cut_last.new.self) same c.cut_last.ensures.account;
      leads = cut_on c.args.self.now.size c.loop-self.self.size (machine_of c.loop-self.self) _ _ _ c.loop-self.invariant.leads (machine_of c.cut_last.new.self) (g.D.Device.trace c.cut_last.new.device) may same c.cut_last.ensures.machine c.in_ok-cut_last.ensures.made;
      moves = λ mark.
          let size : ℕ = c.args.self.now.size in
          let m : Machine = machine_of c.loop-self.self in
          then_moved size mark _ m (machine_of c.cut_last.new.self) _ (g.D.Device.trace c.loop-self.device) (g.D.Device.trace c.cut_last.new.device)
          (c.loop-self.invariant.moves mark)
          (one_moved size mark m (machine_of c.cut_last.new.self) (cutting_last c.loop-self.self.size m) _ _
          (cuts may c.cut_last.ensures.machine (ap (λ n. cutting_last n m) same)) c.in_ok-cut_last.ensures.made);
      faults = c.in_ok-cut_last.ensures.answers ∙ c.loop-self.invariant.faults;
      active = c.cut_last.ensures.active ∙ c.loop-self.invariant.active;
      waiting = c.cut_last.ensures.waiting ∙ c.loop-self.invariant.waiting;
    }

pub returns-in_err-cut_last-clause-step : goal.returns-in_err-cut_last-clause-step
returns-in_err-cut_last-clause-step g c =
    let begun = cut_failed c.args.self.now.size c.loop-self.self.size (machine_of c.loop-self.self) _ _ _ c.loop-self.invariant.leads
    (g.D.Device.trace c.cut_last.new.device) (c.may_cut.ensures.0 c.loop-self-test.true) c.loop-self.invariant.account.size_is c.cut_last.ensures.calls in
    record {
      done = search rules;
      made = search rules;
      calls = begun.calls;
      due = let told = begun.due in search rules;
      answers = search rules;
      memory = search rules;
      account = subst (λ n. IsAccountant n c.cut_last.new.self) c.loop-self.invariant.account.size_is c.cut_last.ensures.account;
    }

pub returns-clause-step : goal.returns-clause-step
returns-clause-step g c =
    let old : Trace = g.D.Device.trace c.args.device.now in
    let new : Trace = g.D.Device.trace c.loop-self.device in
    let all = cut_done c.args.self.now.size 0 (machine_of c.loop-self.self) _ _ _ c.loop-self.invariant.leads (λ may. let yes = c.may_cut.ensures.1 may in let no = c.loop-self-test.false in absurd (cc)) in
    record {
      done = all.machine;
      made = all.trace;
      calls = performs_whole (cut_back c.args.self.now.size (machine_of c.args.self.now)).calls old new all.trace;
      due = search rules;
      answers = c.loop-self.invariant.faults;
      memory = search rules;
      account = c.loop-self.invariant.account;
    }

pub returns-in_err-cut_last-clause-moves : goal.returns-in_err-cut_last-clause-moves
returns-in_err-cut_last-clause-moves g c mark =
    let size : ℕ = c.args.self.now.size in
    let m : Machine = machine_of c.loop-self.self in
    let mid : Trace = g.D.Device.trace c.loop-self.device in
    let after : Trace = g.D.Device.trace c.cut_last.new.device in
    exit_begun size mark c.from_residual.result _ m (machine_of c.cut_last.new.self) _ mid after (λ P. search rules) (c.loop-self.invariant.moves mark)
    (cuts_off (c.may_cut.ensures.0 c.loop-self-test.true) c.cut_last.ensures.machine
    (subst (λ n. Performs (cutting_last n m) mid after) c.loop-self.invariant.account.size_is c.cut_last.ensures.calls))

pub returns-clause-moves : goal.returns-clause-moves
returns-clause-moves g c mark =
    let old : Machine = machine_of c.args.self.now in
    let before : Trace = g.D.Device.trace c.args.device.now in
    exit_moved c.args.self.now.size mark _ old old (machine_of c.loop-self.self) before before (g.D.Device.trace c.loop-self.device) (c.loop-self.invariant.moves mark)
