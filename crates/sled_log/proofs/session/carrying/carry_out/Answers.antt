-- A command is refused, or carried out in its phase.
use Rattle.std.proofs.Common.{◌∙◌, sym, subst}
use Rattle.sled_log.specs.declared.session.Phase.{Phase}
use Rattle.sled_log.specs.RunPhases.{CarriesOut, stands, view_by}
use Rattle.sled_log.specs.Devices.{TouchesIn}
use Rattle.sled_log.proofs.Sessions.RunLemmas.{done_from, going_refusal, refused_from}
use Rattle.sled_log.proofs.Sessions.DeviceLemmas.{touched_refused}
use Rattle.sled_log.proofs.session.carrying.carry_out.Goals as goal

pub returns-in-Some-clause-step : goal.returns-in-Some-clause-step
returns-in-Some-clause-step g c = λ stopped going.
    let view = view_by g.D.Device.trace g.D.Device.faults stopped in
    let phase = c.args.phase in
    refused_from view g.C.Checksum.sum_of phase c.args.command.now c.in-Some.why
    (λ k at. c.in-Some.ensures.why k at ∙ sym (going_refusal (stands view phase k) c.args.command.now going))

pub returns-in-Closed-clause-step : goal.returns-in-Closed-clause-step
returns-in-Closed-clause-step g c = λ stopped going.
    let view = view_by g.D.Device.trace g.D.Device.faults stopped in
    let phase = c.args.phase in
    done_from view g.C.Checksum.sum_of phase c.args.command.now c.carry_out_closed.result
    (subst (λ (p : Phase _ _). CarriesOut view g.C.Checksum.sum_of p c.args.command.now c.carry_out_closed.result) (sym c.in-Closed.is) (c.carry_out_closed.ensures.step stopped))
    (λ k at. going_refusal (stands view phase k) c.args.command.now going ∙ sym (c.in_default.ensures.why k at))

pub returns-in-Open-clause-step : goal.returns-in-Open-clause-step
returns-in-Open-clause-step g c = λ stopped going.
    let view = view_by g.D.Device.trace g.D.Device.faults stopped in
    let phase = c.args.phase in
    done_from view g.C.Checksum.sum_of phase c.args.command.now c.carry_out_open.result
    (subst (λ (p : Phase _ _). CarriesOut view g.C.Checksum.sum_of p c.args.command.now c.carry_out_open.result) (sym c.in-Open.is) (c.carry_out_open.ensures.step stopped))
    (λ k at. going_refusal (stands view phase k) c.args.command.now going ∙ sym (c.in_default.ensures.why k at))

pub returns-in-Some-clause-device : goal.returns-in-Some-clause-device
returns-in-Some-clause-device g c = λ stopped.
    let view = view_by g.D.Device.trace g.D.Device.faults stopped in
    touched_refused view g.C.Checksum.sum_of c.args.phase c.args.command.now c.in-Some.why c.in-Some.ensures.alone

pub returns-in-Closed-clause-device : goal.returns-in-Closed-clause-device
returns-in-Closed-clause-device g c = λ stopped.
    let view = view_by g.D.Device.trace g.D.Device.faults stopped in
    subst (λ (p : Phase _ _). TouchesIn view g.C.Checksum.sum_of p c.args.command.now c.carry_out_closed.result.0 c.carry_out_closed.result.1) (sym c.in-Closed.is) (c.carry_out_closed.ensures.device stopped)

pub returns-in-Open-clause-device : goal.returns-in-Open-clause-device
returns-in-Open-clause-device g c = λ stopped.
    let view = view_by g.D.Device.trace g.D.Device.faults stopped in
    subst (λ (p : Phase _ _). TouchesIn view g.C.Checksum.sum_of p c.args.command.now c.carry_out_open.result.0 c.carry_out_open.result.1) (sym c.in-Open.is) (c.carry_out_open.ensures.device stopped)
