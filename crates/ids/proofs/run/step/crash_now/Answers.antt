use Rattle.std.proofs.Common.{refl}
use Rattle.sled_log.specs.RunPhases.{view_by}
use Rattle.ids.proofs.Stepping.{crashes}
use Rattle.ids.proofs.run.step.crash_now.Goals as goal

pub returns-clause-step : goal.returns-clause-step
returns-clause-step g c =
    let view = view_by g.D.Device.trace g.D.Device.faults g.D.CrashDevice.is_stopped in
    let did = c.crash-taken.ensures in
    crashes view g.C.Checksum.sum_of c.args.config _ c.args.choice c.crash-taken.result (record { config = refl; checksum = refl }) did.taken (λ i. record { trace = did.left i; failures = did.faults i; is_stopped = did.stopped i })
