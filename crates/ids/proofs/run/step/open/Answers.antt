use Rattle.sled_log.specs.RunPhases.{view_by}
use Rattle.ids.proofs.Stepping.{opens, opens_not}
use Rattle.ids.proofs.run.step.open.Goals as goal

pub returns-in-Ok : goal.returns-in-Ok
returns-in-Ok g c =
    let view = view_by g.D.Device.trace g.D.Device.faults g.D.CrashDevice.is_stopped in
    let did = c.in-Ok.ensures in
    let begins = did.begins in
    opens view g.C.Checksum.sum_of c.args.config c.in-Ok.generator did.config did.opens did.later did.acts.0 begins.0 begins.1 begins.2 begins.3 did.answers

pub returns-in-Err : goal.returns-in-Err
returns-in-Err g c =
    let view = view_by g.D.Device.trace g.D.Device.faults g.D.CrashDevice.is_stopped in
    let did = c.in-Err.ensures in
    opens_not view g.C.Checksum.sum_of c.args.config c.in-Err.config c.in-Err.e did.config did.keeps did.fails did.later did.acts did.answers
