use Rattle.std.proofs.Common.{refl}
use Rattle.sled_codec.specs.declared.result.Error.TheVariants as error
use Rattle.sled_log.specs.RunPhases.{view_by}
use Rattle.ids.specs.declared.run.Command.TheVariants as told
use Rattle.ids.specs.declared.run.Reply.TheVariants as reply
use Rattle.ids.proofs.Stepping.{crashes_as, stays_closed}
use Rattle.ids.proofs.run.step.crash.Goals as goal

pub returns-in-Ok : goal.returns-in-Ok
returns-in-Ok g c =
    let view = view_by g.D.Device.trace g.D.Device.faults g.D.CrashDevice.is_stopped in
    crashes_as view g.C.Checksum.sum_of _ c.in-Ok.choice c.args.choice.now c.crash_now.result c.in-Ok.ensures c.crash_now.ensures.step

-- No memory was found for the copy.
pub returns-in-Err : goal.returns-in-Err
returns-in-Err g c =
    let view = view_by g.D.Device.trace g.D.Device.faults g.D.CrashDevice.is_stopped in
    stays_closed view g.C.Checksum.sum_of c.args.config (told.Crash c.args.choice.now) (reply.Failed error.OutOfMemory) (λ d. refl) (λ a. refl) refl
