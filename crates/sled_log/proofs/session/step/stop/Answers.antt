-- A stop is asked of the device in any phase.
use Rattle.std.proofs.Common.{refl, sym, subst}
use Rattle.sled_log.specs.declared.session.Phase.{Phase}
use Rattle.sled_log.specs.declared.session.Phase.TheVariants as phase
use Rattle.sled_log.specs.declared.session.command.Command.TheVariants as command
use Rattle.sled_log.specs.declared.session.command.Reply.{Reply}
use Rattle.sled_log.specs.RunPhases.{CarriesOut, view_by}
use Rattle.sled_log.specs.Devices.{TouchesIn}
use Rattle.sled_log.proofs.Sessions.DueFirst.{carried_plain}
use Rattle.sled_log.proofs.session.step.stop.Goals as goal

pub returns-in-Closed-clause-step : goal.returns-in-Closed-clause-step
returns-in-Closed-clause-step g c =
    let view = view_by g.D.Device.trace g.D.Device.faults g.D.CrashDevice.is_stopped in
    subst (λ (p : Phase _ _). CarriesOut view g.C.Checksum.sum_of p (command.Stop c.args.n) c.stop_closed.result) (sym c.in-Closed.is) c.stop_closed.ensures.step

pub returns-in-Open-clause-step : goal.returns-in-Open-clause-step
returns-in-Open-clause-step g c =
    let view = view_by g.D.Device.trace g.D.Device.faults g.D.CrashDevice.is_stopped in
    let sum = g.C.Checksum.sum_of in
    let result : Phase g.row.D.Denot g.row.C.Denot × Reply = (phase.Open c.stop_open-reply.new.opened, c.stop_open-reply.result) in
    subst (λ (p : Phase _ _). CarriesOut view sum p (command.Stop c.args.n) result) (sym c.in-Open.is)
    (carried_plain view sum c.in-Open.opened (command.Stop c.args.n) result refl (λ due. c.stop_open-reply.ensures.step))

pub returns-in-Closed-clause-device : goal.returns-in-Closed-clause-device
returns-in-Closed-clause-device g c =
    let view = view_by g.D.Device.trace g.D.Device.faults g.D.CrashDevice.is_stopped in
    subst (λ (p : Phase _ _). TouchesIn view g.C.Checksum.sum_of p (command.Stop c.args.n) c.stop_closed.result.0 c.stop_closed.result.1) (sym c.in-Closed.is) c.stop_closed.ensures.device

pub returns-in-Open-clause-device : goal.returns-in-Open-clause-device
returns-in-Open-clause-device g c =
    let view = view_by g.D.Device.trace g.D.Device.faults g.D.CrashDevice.is_stopped in
    subst (λ (p : Phase _ _). TouchesIn view g.C.Checksum.sum_of p (command.Stop c.args.n) (phase.Open c.stop_open-reply.new.opened) c.stop_open-reply.result) (sym c.in-Open.is) c.stop_open-reply.ensures.device
