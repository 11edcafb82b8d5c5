-- A session carries a command out as its phase does.
use Rattle.std.proofs.Common.{◌∙◌, sym}
use Rattle.sled_log.specs.RunPhases.{view_by}
use Rattle.sled_log.proofs.Sessions.SessionLemmas.{carried_at}
use Rattle.sled_log.proofs.Sessions.DeviceLemmas.{left_at}
use Rattle.sled_log.proofs.session.Session.step.Goals as goal

pub returns-clause-step : goal.returns-clause-step
returns-clause-step g c =
    let view = view_by g.D.Device.trace g.D.Device.faults g.D.CrashDevice.is_stopped in
    carried_at view g.C.Checksum.sum_of c.args.self.now _ _ c.args.command.now c.step-next.result (sym c.take.ensures.value ∙ c.unwrap-phase.ensures) c.replace.ensures.after c.step-next.ensures.step

pub returns-clause-device : goal.returns-clause-device
returns-clause-device g c =
    let view = view_by g.D.Device.trace g.D.Device.faults g.D.CrashDevice.is_stopped in
    left_at view g.C.Checksum.sum_of c.args.self.now _ _ c.step-next.result.0 c.args.command.now c.step-next.result.1 (sym c.take.ensures.value ∙ c.unwrap-phase.ensures) c.replace.ensures.after c.step-next.ensures.device
