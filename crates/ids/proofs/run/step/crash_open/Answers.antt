use Rattle.std.proofs.Common.{refl}
use Rattle.sled_codec.specs.declared.result.Error.TheVariants as error
use Rattle.sled_log.specs.RunPhases.{view_by}
use Rattle.ids.specs.declared.run.Command.TheVariants as told
use Rattle.ids.specs.declared.run.Reply.TheVariants as reply
use Rattle.ids.proofs.Stepping.{crashes_as, crashes_open, stays_open}
use Rattle.ids.proofs.run.step.crash_open.Goals as goal

pub returns-in-Ok : goal.returns-in-Ok
returns-in-Ok g c =
    let view = view_by g.D.Device.trace g.D.Device.faults g.D.CrashDevice.is_stopped in
    let sum = g.C.Checksum.sum_of in
    crashes_as view sum _ c.in-Ok.choice c.args.choice.now c.crash_now.result c.in-Ok.ensures
    (crashes_open view sum c.args.generator c.close.result c.in-Ok.choice c.crash_now.ensures.crashed.0 c.crash_now.result c.close.ensures.config c.crash_now.ensures.crashed.1 c.crash_now.ensures.step)

-- No memory was found for the copy.
pub returns-in-Err : goal.returns-in-Err
returns-in-Err g c =
    let view = view_by g.D.Device.trace g.D.Device.faults g.D.CrashDevice.is_stopped in
    stays_open view g.C.Checksum.sum_of c.args.generator (told.Crash c.args.choice.now) (reply.Failed error.OutOfMemory) (λ d v. refl) (λ a v. refl) refl
