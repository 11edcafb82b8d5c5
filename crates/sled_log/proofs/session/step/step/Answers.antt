-- A command is refused while the device is stopped, or answered and told.
use Rattle.std.proofs.Common.{◌∙◌, ap, sym, subst}
use Rattle.sled_store.specs.declared.config.Config.{Config}
use Rattle.sled_log.specs.declared.session.command.Refusal.TheVariants as why
use Rattle.sled_log.specs.declared.session.command.Reply.{Reply}
use Rattle.sled_log.specs.declared.session.command.Reply.TheVariants as reply
use Rattle.sled_log.specs.Devices.{is_open}
use Rattle.sled_log.specs.RunPhases.{AnswersIn, device_in, size_of, stands, view_by}
use Rattle.sled_log.proofs.Sessions.RunLemmas.{answered, barred_refusal, refused}
use Rattle.sled_log.proofs.Sessions.DeviceLemmas.{handles_barred, handles_free, opens_refused, told_refused}
use Rattle.sled_log.proofs.session.step.step.Goals as goal

pub returns-then-is_barred-clause-step : goal.returns-then-is_barred-clause-step
returns-then-is_barred-clause-step g c =
    let view = view_by g.D.Device.trace g.D.Device.faults g.D.CrashDevice.is_stopped in
    let phase = c.args.phase in
    let barred = sym c.is_barred.ensures.barred ∙ c.if-is_barred.true in
    refused view g.C.Checksum.sum_of phase c.args.command.now why.Stopped c.is_barred.ensures.asked (λ k at. sym (barred_refusal (stands view phase k) c.args.command.now barred))

pub returns-clause-step : goal.returns-clause-step
returns-clause-step g c =
    let view = view_by g.D.Device.trace g.D.Device.faults g.D.CrashDevice.is_stopped in
    let next = c.answer-next.result in
    let free = sym c.is_barred.ensures.barred ∙ c.if-is_barred.false in
    subst (λ (r : Reply). AnswersIn view g.C.Checksum.sum_of c.args.phase c.args.command.now (next.0, r)) (sym c.tell-told.ensures.told)
    (answered view g.C.Checksum.sum_of c.args.phase c.args.command.now next.0 next.1 (ap (λ (x : Config). x.segment_size) c.answer-next.ensures.on.kept.config) (c.answer-next.ensures.step free) c.answer-next.ensures.on.later c.tell-told.ensures.asked)

pub returns-then-is_barred-clause-device : goal.returns-then-is_barred-clause-device
returns-then-is_barred-clause-device g c =
    let view = view_by g.D.Device.trace g.D.Device.faults g.D.CrashDevice.is_stopped in
    let phase = c.args.phase in
    record {
      came = reply.Refused why.Stopped;
      is_told = told_refused _ _;
      stops = c.is_barred.ensures.asked;
      handles = handles_barred g.C.Checksum.sum_of (size_of phase) (is_open phase) c.args.command.now (device_in view phase) (sym c.is_barred.ensures.barred ∙ c.if-is_barred.true);
      opens = opens_refused (is_open phase) c.args.command.now why.Stopped;
    }

pub returns-clause-device : goal.returns-clause-device
returns-clause-device g c =
    let view = view_by g.D.Device.trace g.D.Device.faults g.D.CrashDevice.is_stopped in
    let phase = c.args.phase in
    let next = c.answer-next.result in
    let did = c.answer-next.ensures.device in
    record {
      came = next.1;
      is_told = c.tell-told.ensures.told;
      stops = c.tell-told.ensures.asked;
      handles = handles_free g.C.Checksum.sum_of (size_of phase) (is_open phase) c.args.command.now next.1 (device_in view phase) (device_in view next.0) (sym c.is_barred.ensures.barred ∙ c.if-is_barred.false) did.touches;
      opens = did.opens;
    }
