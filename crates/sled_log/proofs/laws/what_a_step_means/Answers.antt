use Rattle.sled_log.specs.RunPhases.{view_by}
use Rattle.sled_log.proofs.PublicLaws.{step_means}
use Rattle.sled_log.proofs.laws.what_a_step_means.Goals as goal

pub returns : goal.returns
returns g c = λ size a command came new b at step.
    let view = view_by g.D.Device.trace g.D.Device.faults g.D.CrashDevice.is_stopped in
    step_means g.C.Checksum.sum_of size {D = g.row.D.Denot} {C = g.row.C.Denot} view a command came new b at step
