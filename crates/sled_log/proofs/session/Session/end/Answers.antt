-- The device is that of the phase that the session is at.
use Rattle.std.proofs.Common.{◌∙◌, sym, ap}
use Rattle.sled_log.specs.RunPhases.{view_by}
use Rattle.sled_log.proofs.Sessions.DeviceLemmas.{over_in}
use Rattle.sled_log.proofs.Sessions.Resumed.{left_at}
use Rattle.sled_log.proofs.Sessions.SessionLemmas.{device_at}
use Rattle.sled_log.proofs.session.Session.end.Goals as goal

pub returns : goal.returns
returns g c = record {
  device = λ stopped a at.
      let view = view_by g.D.Device.trace g.D.Device.faults stopped in
      device_at view g.C.Checksum.sum_of c.args.self a c.unwrap-phase.result c.unwrap-phase.ensures at
      ∙ sym (ap view c.into_device.ensures ∙ ap (λ x. view x.device) c.close.ensures);
  left = λ stopped a at.
      let view = view_by g.D.Device.trace g.D.Device.faults stopped in
      left_at view g.C.Checksum.sum_of c.args.self c.unwrap-phase.result c.unwrap-phase.ensures a at _
      (ap view c.into_device.ensures ∙ ap (λ x. view x.device) c.close.ensures);
  over = λ stopped on device over.
      let view = view_by g.D.Device.trace g.D.Device.faults stopped in
      (over_in view g.C.Checksum.sum_of c.args.self c.unwrap-phase.result c.unwrap-phase.ensures on device over).1
      ∙ sym (ap view c.into_device.ensures ∙ ap (λ x. view x.device) c.close.ensures);
}
