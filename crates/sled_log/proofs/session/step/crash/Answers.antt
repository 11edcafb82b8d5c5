-- A crash closes the log, and leaves of the device what a copy of the choice asks for.
use Rattle.std.proofs.Common.{refl}
use Rattle.sled_log.specs.declared.session.command.Command.TheVariants as command
use Rattle.sled_log.specs.RunPhases.{size_of, view_by}
use Rattle.sled_log.specs.Runs.{IsStep}
use Rattle.sled_log.proofs.Sessions.RunLemmas.{crashed, here}
use Rattle.sled_log.proofs.Sessions.DeviceLemmas.{touched_crash, touched_kept}
use Rattle.sled_log.proofs.session.step.crash.Goals as goal

pub returns-in-Ok-clause-step : goal.returns-in-Ok-clause-step
returns-in-Ok-clause-step g c =
    let view = view_by g.D.Device.trace g.D.Device.faults g.D.CrashDevice.is_stopped in
    let sum = g.C.Checksum.sum_of in
    let phase = c.args.phase in
    let done = c.crash_now.ensures.crashed in
    crashed view sum phase c.close.result c.args.choice.now c.in-Ok.choice c.crash_now.result done.0 (IsStep sum (size_of phase)) (λ a new b step. step) c.close.ensures c.in-Ok.ensures done.1 c.crash_now.ensures.step

-- Without memory nothing is done.
pub returns-in-Err-clause-step : goal.returns-in-Err-clause-step
returns-in-Err-clause-step g c = λ k at free.
    let view = view_by g.D.Device.trace g.D.Device.faults g.D.CrashDevice.is_stopped in
    record {
      not_refused = refl;
      next = k;
      step = (refl, refl);
      at = λ own. at;
      crash = λ own. here view g.C.Checksum.sum_of c.args.phase (command.Crash c.args.choice.now) c.args.phase k at;
    }

pub returns-in-Ok-clause-device : goal.returns-in-Ok-clause-device
returns-in-Ok-clause-device g c =
    let view = view_by g.D.Device.trace g.D.Device.faults g.D.CrashDevice.is_stopped in
    let done = c.crash_now.ensures.crashed in
    touched_crash view g.C.Checksum.sum_of c.args.phase c.close.result c.args.choice.now c.in-Ok.choice c.crash_now.result.0 c.crash_now.result.1 done.0 c.close.ensures c.in-Ok.ensures done.1 c.crash_now.ensures.device

pub returns-in-Err-clause-device : goal.returns-in-Err-clause-device
returns-in-Err-clause-device g c =
    let view = view_by g.D.Device.trace g.D.Device.faults g.D.CrashDevice.is_stopped in
    touched_kept view g.C.Checksum.sum_of c.args.phase c.args.choice.now
