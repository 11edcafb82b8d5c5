-- A stop and a crash are those of the device, and each other command is carried out as over any.
use Rattle.std.proofs.Common.{◌∙◌, ap}
use Rattle.sled_log.specs.declared.session.command.Command.{Command}
use Rattle.sled_log.specs.declared.session.command.Command.TheVariants as command
use Rattle.sled_log.specs.Refusals.{refused_by_log}
use Rattle.sled_log.specs.RunPhases.{log_in, stands, view_by}
use Rattle.sled_log.proofs.Sessions.RunLemmas.{carried, crash_goes, done_from, for_log, free_refusal, not_stopped, stop_goes}
use Rattle.sled_log.proofs.Sessions.DeviceLemmas.{touched}
use Rattle.sled_log.proofs.session.step.answer.Goals as goal

pub returns-in-Stop-clause-step : goal.returns-in-Stop-clause-step
returns-in-Stop-clause-step g c = λ free.
    let view = view_by g.D.Device.trace g.D.Device.faults g.D.CrashDevice.is_stopped in
    let phase = c.args.phase in
    let cmd : Command = c.args.command.now in
    done_from view g.C.Checksum.sum_of phase cmd c.stop.result (carried view g.C.Checksum.sum_of phase (command.Stop c.in-Stop.n) cmd c.stop.result c.in-Stop.is c.stop.ensures.step)
    (λ k at. free_refusal (stands view phase k) cmd free ∙ ap (refused_by_log k.history (log_in phase k.tickets k.given_up k.heads)) c.in-Stop.is ∙ stop_goes k.history (log_in phase k.tickets k.given_up k.heads) c.in-Stop.n)

pub returns-in-Crash-clause-step : goal.returns-in-Crash-clause-step
returns-in-Crash-clause-step g c = λ free.
    let view = view_by g.D.Device.trace g.D.Device.faults g.D.CrashDevice.is_stopped in
    let phase = c.args.phase in
    let cmd : Command = c.args.command.now in
    done_from view g.C.Checksum.sum_of phase cmd c.crash.result (carried view g.C.Checksum.sum_of phase (command.Crash c.in-Crash.choice) cmd c.crash.result c.in-Crash.is c.crash.ensures.step)
    (λ k at. free_refusal (stands view phase k) cmd free ∙ ap (refused_by_log k.history (log_in phase k.tickets k.given_up k.heads)) c.in-Crash.is ∙ crash_goes k.history (log_in phase k.tickets k.given_up k.heads) c.in-Crash.choice)

pub carry_out-requires : goal.carry_out-requires
carry_out-requires g c = for_log c.args.command.now c.in_default.not-Stop c.in_default.not-Crash

pub returns-in_default-clause-step : goal.returns-in_default-clause-step
returns-in_default-clause-step g c = λ free.
    c.carry_out.ensures.step g.D.CrashDevice.is_stopped (not_stopped _ c.args.command.now free c.in_default.not-Crash)

pub returns-in-Stop-clause-device : goal.returns-in-Stop-clause-device
returns-in-Stop-clause-device g c =
    let view = view_by g.D.Device.trace g.D.Device.faults g.D.CrashDevice.is_stopped in
    touched view g.C.Checksum.sum_of c.args.phase (command.Stop c.in-Stop.n) c.args.command.now c.stop.result.0 c.stop.result.1 c.in-Stop.is c.stop.ensures.device

pub returns-in-Crash-clause-device : goal.returns-in-Crash-clause-device
returns-in-Crash-clause-device g c =
    let view = view_by g.D.Device.trace g.D.Device.faults g.D.CrashDevice.is_stopped in
    touched view g.C.Checksum.sum_of c.args.phase (command.Crash c.in-Crash.choice) c.args.command.now c.crash.result.0 c.crash.result.1 c.in-Crash.is c.crash.ensures.device

pub returns-in_default-clause-device : goal.returns-in_default-clause-device
returns-in_default-clause-device g c = c.carry_out.ensures.device g.D.CrashDevice.is_stopped
