-- A run is one command after another, by the contract of each.
use Rattle.std.proofs.Common.{rules, ◌≡◌, ◌∙◌, ◌∷◌, ◌++◌, ℕ, List, [], take, Option, None, refl, sym, ap, subst, arith}
use Rattle.std.proofs.lemmas.List.{take_all, take_more}
use Rattle.sled_log.specs.RunPhases.{view_by}
use Rattle.sled_log.specs.RunStates.{DeviceView}
use Rattle.ids.specs.declared.run.Command.{Command}
use Rattle.ids.specs.declared.run.Reply.{Reply}
use Rattle.ids.specs.declared.run.step.Phase.TheVariants.{Closed}
use Rattle.ids.specs.IdDevices.{Devices}
use Rattle.ids.specs.IdPhases.{EndsAt, IsOver, SomeStands, SomeUsedUp, StandsAt}
use Rattle.ids.specs.IdRuns.{Carries, GeneratorView, IdRuns, IdState, begins_at}
use Rattle.ids.proofs.Generating.{config_then}
use Rattle.ids.proofs.Running.{carried_between, devices_more, devices_none, devices_over, runs_more, runs_none, runs_over}
use Rattle.ids.proofs.Stepping.{ends, left_in, some_stands}
use Rattle.ids.proofs.run.run.Goals as goal

-- Nothing was carried out yet.
pub loop-command-init : goal.loop-command-init
loop-command-init g c =
    let view = view_by g.D.Device.trace g.D.Device.faults g.D.CrashDevice.is_stopped in
    let sum = g.C.Checksum.sum_of in
    let size : ℕ = c.args.config.config.segment_size in
    let Between : IdState → Type 0 = SomeStands g.row.D.Denot g.row.C.Denot view sum size in
    let UsedUp : IdState → Type 0 = SomeUsedUp g.row.D.Denot g.row.C.Denot view sum size in
    let Leads : IdState → Type 0 = StandsAt view sum (Closed c.args.config) in
    record {
      runs = λ n most gives.
          let a = begins_at (view c.args.config.device) n most in
          subst (λ (l : List Reply). IdRuns sum size Between UsedUp a [] l Leads) (sym c.in-Ok.ensures.items)
          (runs_none sum size Between UsedUp a Leads (record { device = refl; shut = refl; gives = gives }));
      devices = subst (λ (l : List Reply). Devices sum size None (view c.args.config.device) [] l (IsOver view (Closed c.args.config))) (sym c.in-Ok.ensures.items)
          (devices_none sum size None (view c.args.config.device) (IsOver view (Closed c.args.config)) (refl, refl));
      kept = record { config = refl; checksum = refl };
      len = search rules;
      room = search rules;
    }

-- One command more was carried out.
pub loop-command-preserved : goal.loop-command-preserved
loop-command-preserved g c =
    let view = view_by g.D.Device.trace g.D.Device.faults g.D.CrashDevice.is_stopped in
    let sum = g.C.Checksum.sum_of in
    let size : ℕ = c.args.config.config.segment_size in
    let now = c.loop-command in
    let i : ℕ = now.command-index in
    let all : List Command = c.args.commands.now in
    let command : Command = c.command-item.result in
    let Between : IdState → Type 0 = SomeStands g.row.D.Denot g.row.C.Denot view sum size in
    let UsedUp : IdState → Type 0 = SomeUsedUp g.row.D.Denot g.row.C.Denot view sum size in
    let Leads : IdState → Type 0 = StandsAt view sum now.phase in
    let Next : IdState → Type 0 = StandsAt view sum c.step-next.result.0 in
    let reply : Reply = c.step-next.result.1 in
    let same = ap (λ x. x.segment_size) now.invariant.kept.config in
    let kept = config_then now.invariant.kept c.step-next.ensures.kept in
    let Over : Option GeneratorView → DeviceView → Type 0 = IsOver view c.step-next.result.0 in
    let stands = some_stands view sum c.step-next.result.0 size (ap (λ x. x.segment_size) kept.config) in
    let more : (b : IdState) → Leads b → Carries sum size UsedUp b command reply (λ x. Between x × Next x) = λ b at.
    carried_between sum size Between UsedUp Next stands b command reply (subst (λ n. Carries sum n (SomeUsedUp g.row.D.Denot g.row.C.Denot view sum n) b command reply Next) same (c.step-next.ensures.step b at)) in
    record {
      runs = λ n most gives.
          let a = begins_at (view c.args.config.device) n most in
          subst (λ (l : List Command). IdRuns sum size Between UsedUp a l c.push_reserved.new.self.items Next) (sym (take_more all i command c.loop-command-test.true ∙ ap (λ (x : Command). take i all ++ x ∷ []) (sym c.command-item.is)))
          (subst (λ (l : List Reply). IdRuns sum size Between UsedUp a (take i all ++ command ∷ []) l Next) (sym c.push_reserved.ensures.items)
          (runs_more sum size Between UsedUp Leads Next command reply more a (take i all) now.replies.items (now.invariant.runs n most gives)));
      devices =
          subst (λ (l : List Command). Devices sum size None (view c.args.config.device) l c.push_reserved.new.self.items Over) (sym (take_more all i command c.loop-command-test.true ∙ ap (λ (x : Command). take i all ++ x ∷ []) (sym c.command-item.is)))
          (subst (λ (l : List Reply). Devices sum size None (view c.args.config.device) (take i all ++ command ∷ []) l Over) (sym c.push_reserved.ensures.items)
          (devices_more sum size (IsOver view now.phase) Over command reply (left_in view sum now.phase c.step-next.result.0 command reply size same c.step-next.ensures)
          None (view c.args.config.device) (take i all) now.replies.items now.invariant.devices));
      kept = kept;
      len = search rules;
      room = search rules;
    }

-- No command is left.
pub returns-clause-ascends : goal.returns-clause-ascends
returns-clause-ascends g c = λ n most gives.
    let view = view_by g.D.Device.trace g.D.Device.faults g.D.CrashDevice.is_stopped in
    let sum = g.C.Checksum.sum_of in
    let size : ℕ = c.args.config.config.segment_size in
    let now = c.loop-command in
    let end = c.loop-command-test.false in
    let a = begins_at (view c.args.config.device) n most in
    let Between : IdState → Type 0 = SomeStands g.row.D.Denot g.row.C.Denot view sum size in
    let UsedUp : IdState → Type 0 = SomeUsedUp g.row.D.Denot g.row.C.Denot view sum size in
    let Leads : IdState → Type 0 = StandsAt view sum now.phase in
    let Ends : IdState → Type 0 = EndsAt sum size (view c.close-config.result.device) in
    subst (λ (l : List Command). IdRuns sum size Between UsedUp a l now.replies.items Ends) (take_all now.command-index c.args.commands.now (omega (arith, end)))
    (runs_over sum size Between UsedUp Leads Ends (ends view sum now.phase c.close-config.result size c.close-config.ensures (ap (λ x. x.segment_size) now.invariant.kept.config)) a (take now.command-index c.args.commands.now) now.replies.items (now.invariant.runs n most gives))

pub returns-clause-devices : goal.returns-clause-devices
returns-clause-devices g c =
    let view = view_by g.D.Device.trace g.D.Device.faults g.D.CrashDevice.is_stopped in
    let sum = g.C.Checksum.sum_of in
    let size : ℕ = c.args.config.config.segment_size in
    let now = c.loop-command in
    let end = c.loop-command-test.false in
    let Ends : Option GeneratorView → DeviceView → Type 0 = λ g device. device ≡ view c.close-config.result.device in
    subst (λ (l : List Command). Devices sum size None (view c.args.config.device) l now.replies.items Ends) (take_all now.command-index c.args.commands.now (omega (arith, end)))
    (devices_over sum size (IsOver view now.phase) Ends (λ shown device over. over.1 ∙ ap (λ x. view x.device) (sym c.close-config.ensures)) None (view c.args.config.device) (take now.command-index c.args.commands.now) now.replies.items now.invariant.devices)

pub returns-clause-config : goal.returns-clause-config
returns-clause-config g c =
    let kept = c.loop-command.invariant.kept in
    record { config = ap (λ x. x.config) c.close-config.ensures ∙ kept.config; checksum = ap (λ x. x.checksum) c.close-config.ensures ∙ kept.checksum }
