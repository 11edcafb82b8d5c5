-- While no log is open an opening is carried out, and no other command is.
use Rattle.std.proofs.Common.{◌≡◌, ◌∙◌, sym, None, Some}
use Rattle.sled_log.specs.declared.session.Phase.TheVariants as phase
use Rattle.sled_log.specs.declared.session.command.Command.TheVariants as command
use Rattle.sled_log.specs.declared.session.command.Refusal.TheVariants as why
use Rattle.sled_log.specs.Refusals.{refused_closed}
use Rattle.sled_log.specs.RunPhases.{view_by}
use Rattle.sled_log.proofs.Sessions.Carried.{passes}
use Rattle.sled_log.proofs.Sessions.RunLemmas.{carried}
use Rattle.sled_log.proofs.Sessions.DeviceLemmas.{closed_refuses, touched, touched_refused}
use Rattle.sled_log.proofs.session.carrying.carry_out_closed.Goals as goal

pub returns-in-Open-clause-step : goal.returns-in-Open-clause-step
returns-in-Open-clause-step g c = λ stopped.
    let view = view_by g.D.Device.trace g.D.Device.faults stopped in
    carried view g.C.Checksum.sum_of (phase.Closed c.args.config) command.Open c.args.command.now c.open.result c.in-Open.is (c.open.ensures.step stopped)

pub returns-in_default-clause-step : goal.returns-in_default-clause-step
returns-in_default-clause-step g c = λ stopped k at free.
    let refused : refused_closed c.args.command.now ≡ Some why.Closed = closed_refuses c.args.command.now c.requires c.in_default.not-Open in
    let clash : Some why.Closed ≡ None = sym refused ∙ (passes _ _ _ free).1 in
    cc

pub returns-in-Open-clause-device : goal.returns-in-Open-clause-device
returns-in-Open-clause-device g c = λ stopped.
    let view = view_by g.D.Device.trace g.D.Device.faults stopped in
    touched view g.C.Checksum.sum_of (phase.Closed c.args.config) command.Open c.args.command.now c.open.result.0 c.open.result.1 c.in-Open.is (c.open.ensures.device stopped)

pub returns-in_default-clause-device : goal.returns-in_default-clause-device
returns-in_default-clause-device g c = λ stopped.
    let view = view_by g.D.Device.trace g.D.Device.faults stopped in
    touched_refused view g.C.Checksum.sum_of (phase.Closed c.args.config) c.args.command.now why.Closed (sym (closed_refuses c.args.command.now c.requires c.in_default.not-Open))
