use Rattle.sled_log.specs.RunPhases.{view_by}
use Rattle.ids.proofs.Stepping.{gives_next, gives_none}
use Rattle.ids.proofs.run.step.next.Goals as goal

pub returns-in-Ok : goal.returns-in-Ok
returns-in-Ok g c =
    let view = view_by g.D.Device.trace g.D.Device.faults g.D.CrashDevice.is_stopped in
    let did = c.in-Ok.ensures in
    let goes_on = did.goes_on in
    gives_next view g.C.Checksum.sum_of c.args.generator c.next.new.self goes_on.generates goes_on.config goes_on.later goes_on.block goes_on.asked goes_on.keeps
    c.in-Ok.id did.given.0 did.given.1 did.takes did.asks did.answers.0 did.position did.answers.1 did.writes (λ less. (did.within less).1)

pub returns-in-Err : goal.returns-in-Err
returns-in-Err g c =
    let view = view_by g.D.Device.trace g.D.Device.faults g.D.CrashDevice.is_stopped in
    let did = c.in-Err.ensures in
    let goes_on = did.goes_on in
    gives_none view g.C.Checksum.sum_of c.args.generator c.next.new.self goes_on.generates goes_on.config goes_on.later goes_on.block goes_on.asked goes_on.keeps
    c.in-Err.e did.kept.0 did.kept.1 did.once did.answers did.writes (λ less. (did.within less).0) did.faulty
