-- A session carries a command out as its phase does, over any device.
use Rattle.std.proofs.Common.{◌∙◌, ap, false, refl, sym}
use Rattle.sled_store.specs.declared.config.Config.{Config}
use Rattle.sled_log.specs.RunPhases.{view_by}
use Rattle.sled_log.proofs.Sessions.RunLemmas.{carried_on}
use Rattle.sled_log.proofs.Sessions.SessionLemmas.{carried_on_at}
use Rattle.sled_log.proofs.Sessions.DeviceLemmas.{left_on_at}
use Rattle.sled_log.proofs.session.Session.carry_out.Goals as goal

pub returns-clause-carries : goal.returns-clause-carries
returns-clause-carries g c =
    let view = view_by g.D.Device.trace g.D.Device.faults (λ device. false) in
    let sum = g.C.Checksum.sum_of in
    let phase = c.unwrap-phase.result in
    let next = c.carry_out-next.result in
    let did = c.carry_out-next.ensures in
    carried_on_at view sum c.args.self.now _ _ c.args.command.now next (sym c.take.ensures.value ∙ c.unwrap-phase.ensures) c.replace.ensures.after
    (carried_on view sum phase c.args.command.now next.0 next.1 (ap (λ (x : Config). x.segment_size) did.on.kept.config) (did.step (λ device. false) refl) did.on.later)

pub returns-clause-device : goal.returns-clause-device
returns-clause-device g c = λ stopped.
    let view = view_by g.D.Device.trace g.D.Device.faults stopped in
    let next = c.carry_out-next.result in
    left_on_at view g.C.Checksum.sum_of c.args.self.now _ _ next.0 c.args.command.now next.1 (sym c.take.ensures.value ∙ c.unwrap-phase.ensures) c.replace.ensures.after (c.carry_out-next.ensures.device stopped)
