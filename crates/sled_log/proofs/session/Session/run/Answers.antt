-- A run is one command after another, by the contract of each.
use Rattle.std.proofs.Common.{rules, ◌∙◌, ◌∷◌, ◌++◌, ℕ, Bool, List, [], take, refl, sym, ap, subst, arith}
use Rattle.std.proofs.lemmas.List.{take_all, take_more}
use Rattle.sled_log.specs.declared.session.command.Command.{Command}
use Rattle.sled_log.specs.declared.session.command.Reply.{Reply}
use Rattle.sled_log.specs.Devices.{Devices, Leaves, StandsOver}
use Rattle.sled_log.specs.RunStates.{DeviceView, RunState}
use Rattle.sled_log.specs.Runs.{Carries, Runs}
use Rattle.sled_log.specs.RunPhases.{SomeStands, StandsAt, segment_size_in, view_by}
use Rattle.sled_log.proofs.Sessions.DeviceLemmas.{devices_none, devices_more}
use Rattle.sled_log.proofs.Sessions.SessionLemmas.{runs_none, runs_more}
use Rattle.sled_log.proofs.Sessions.Headline.{outcomes}
use Rattle.sled_log.proofs.session.Session.run.Goals as goal

-- Nothing was carried out yet.
pub loop-command-init : goal.loop-command-init
loop-command-init g c =
    let view = view_by g.D.Device.trace g.D.Device.faults g.D.CrashDevice.is_stopped in
    let sum = g.C.Checksum.sum_of in
    let size : ℕ = segment_size_in c.args.self.now in
    record {
      runs = λ a at. subst (λ (l : List Reply). Runs sum size (SomeStands g.row.D.Denot g.row.C.Denot view sum size) a [] l (StandsAt view sum c.args.self.now)) (sym c.in_ok-replies.ensures.items)
          (runs_none sum size (SomeStands g.row.D.Denot g.row.C.Denot view sum size) (StandsAt view sum c.args.self.now) a at);
      devices = λ on device over. subst (λ (l : List Reply). Devices sum size on device [] l (StandsOver view c.args.self.now)) (sym c.in_ok-replies.ensures.items)
          (devices_none sum size (StandsOver view c.args.self.now) on device over);
      size = refl;
      len = search rules;
      room = search rules;
    }

-- One command more was carried out.
pub loop-command-preserved : goal.loop-command-preserved
loop-command-preserved g c =
    let view = view_by g.D.Device.trace g.D.Device.faults g.D.CrashDevice.is_stopped in
    let sum = g.C.Checksum.sum_of in
    let size : ℕ = segment_size_in c.args.self.now in
    let now = c.loop-command in
    let i : ℕ = now.command-index in
    let all : List Command = c.args.commands.now in
    let command : Command = c.command-item.result in
    let Leads : RunState → Type 0 = StandsAt view sum now.self in
    let Next : RunState → Type 0 = StandsAt view sum c.step.new.self in
    let reply : Reply = c.step.result in
    let Between : RunState → Type 0 = SomeStands g.row.D.Denot g.row.C.Denot view sum size in
    let Over : Bool → DeviceView → Type 0 = StandsOver view c.step.new.self in
    let touches : (o : Bool) (d : DeviceView) → StandsOver view now.self o d → Leaves sum size o d command reply Over = λ o d over. subst (λ n. Leaves sum n o d command reply Over) now.invariant.size (c.step.ensures.device o d over) in
    let more : (b : RunState) → Leads b → Carries sum size b command reply Next = λ b at. subst (λ n. Carries sum n b command reply Next) now.invariant.size (c.step.ensures.step b at) in
    record {
      runs = λ a at.
          subst (λ (l : List Command). Runs sum size Between a l c.push_reserved.new.self.items Next) (sym (take_more all i command c.loop-command-test.true ∙ ap (λ (x : Command). take i all ++ x ∷ []) (sym c.command-item.is)))
          (subst (λ (l : List Reply). Runs sum size Between a (take i all ++ command ∷ []) l Next) (sym c.push_reserved.ensures.items)
          (runs_more sum size Between Leads Next command reply (λ b at. (c.step.new.self, c.step.ensures.size ∙ now.invariant.size, at)) more a (take i all) now.replies.items (now.invariant.runs a at)));
      devices = λ on device over.
          subst (λ (l : List Command). Devices sum size on device l c.push_reserved.new.self.items Over) (sym (take_more all i command c.loop-command-test.true ∙ ap (λ (x : Command). take i all ++ x ∷ []) (sym c.command-item.is)))
          (subst (λ (l : List Reply). Devices sum size on device (take i all ++ command ∷ []) l Over) (sym c.push_reserved.ensures.items)
          (devices_more sum size (StandsOver view now.self) Over command reply touches on device (take i all) now.replies.items (now.invariant.devices on device over)));
      size = c.step.ensures.size ∙ now.invariant.size;
      len = search rules;
      room = search rules;
    }

-- No command is left.
pub returns-clause-headline : goal.returns-clause-headline
returns-clause-headline g c = λ a at.
    let view = view_by g.D.Device.trace g.D.Device.faults g.D.CrashDevice.is_stopped in
    let sum = g.C.Checksum.sum_of in
    let now = c.loop-command in
    let end = c.loop-command-test.false in
    let size : ℕ = segment_size_in c.args.self.now in
    subst (λ (l : List Command). Runs sum size (SomeStands g.row.D.Denot g.row.C.Denot view sum size) a l now.replies.items (StandsAt view sum now.self)) (take_all now.command-index c.args.commands.now (omega (arith, end)))
    (now.invariant.runs a at)

pub returns-clause-recovers : goal.returns-clause-recovers
returns-clause-recovers g c = λ a at.
    let view = view_by g.D.Device.trace g.D.Device.faults g.D.CrashDevice.is_stopped in
    outcomes g.C.Checksum.sum_of (segment_size_in c.args.self.now) {D = g.row.D.Denot} {C = g.row.C.Denot} view (StandsAt view g.C.Checksum.sum_of c.loop-command.self)
    a c.args.commands.now c.loop-command.replies.items (c.args.self.now, refl, at) (returns-clause-headline g c a at)

pub returns-clause-devices : goal.returns-clause-devices
returns-clause-devices g c = λ on device over.
    let view = view_by g.D.Device.trace g.D.Device.faults g.D.CrashDevice.is_stopped in
    let sum = g.C.Checksum.sum_of in
    let now = c.loop-command in
    let end = c.loop-command-test.false in
    subst (λ (l : List Command). Devices sum (segment_size_in c.args.self.now) on device l now.replies.items (StandsOver view now.self)) (take_all now.command-index c.args.commands.now (omega (arith, end)))
    (now.invariant.devices on device over)
