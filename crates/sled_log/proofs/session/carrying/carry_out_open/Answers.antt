-- What calls the log makes the mark first that is due, and is carried out then; where memory for that is refused it is postponed.
use Rattle.std.proofs.Common.{◌∙◌, ap, sym}
use Rattle.sled_store.specs.declared.config.RunningConfig.{RunningConfig}
use Rattle.sled_core.specs.Fits.{device_of, segment_size_of}
use Rattle.sled_log.specs.declared.session.command.Reply.TheVariants as reply
use Rattle.sled_log.specs.RunPhases.{view_by}
use Rattle.sled_log.proofs.Sessions.DeviceLemmas.{went_on}
use Rattle.sled_log.proofs.Sessions.LogActs.{failed_still}
use Rattle.sled_log.proofs.Sessions.DueFirst.{carried_plain, due_first, due_touches, postponed}
use Rattle.sled_log.proofs.Sessions.RunLemmas.{runs_on_both}
use Rattle.sled_log.proofs.session.carrying.carry_out_open.Goals as goal

-- What doesn't call the log is carried out as it is.
pub returns-then-not-calls_log-clause-step : goal.returns-then-not-calls_log-clause-step
returns-then-not-calls_log-clause-step g c = λ stopped.
    let view = view_by g.D.Device.trace g.D.Device.faults stopped in
    carried_plain view g.C.Checksum.sum_of c.args.opened c.args.command.now c.carry_out_marked.result
    (sym c.calls_log.ensures ∙ c.if-not-calls_log.true) (c.carry_out_marked.ensures.step stopped)

-- The mark was made.
pub returns-in-Ok-clause-step : goal.returns-in-Ok-clause-step
returns-in-Ok-clause-step g c = λ stopped.
    let view = view_by g.D.Device.trace g.D.Device.faults stopped in
    due_first view g.C.Checksum.sum_of c.args.opened c.make_due.new.opened c.args.command.now (sym c.calls_log.ensures ∙ c.if-not-calls_log.false)
    c.in-Ok.ensures.same c.carry_out_marked-in-Ok.result
    (λ k at. (let made = c.in-Ok.ensures.makes stopped k at in (made.at, made.none, made.made))) (c.carry_out_marked-in-Ok.ensures.step stopped)

-- Memory for it was refused.
pub returns-in-Err-clause-step : goal.returns-in-Err-clause-step
returns-in-Err-clause-step g c = λ stopped.
    let view = view_by g.D.Device.trace g.D.Device.faults stopped in
    postponed view g.C.Checksum.sum_of c.args.opened c.make_due.new.opened c.args.command.now (sym c.calls_log.ensures ∙ c.if-not-calls_log.false)
    c.in-Err.ensures.same c.in-Err.e c.in-Err.ensures.err
    (λ k at. (let made = c.in-Err.ensures.makes stopped k at in (made.at, made.some, made.kept)))

pub returns-in-Ok-clause-device : goal.returns-in-Ok-clause-device
returns-in-Ok-clause-device g c = λ stopped.
    let view = view_by g.D.Device.trace g.D.Device.faults stopped in
    due_touches view g.C.Checksum.sum_of c.args.opened c.make_due.new.opened c.args.command.now (sym c.calls_log.ensures ∙ c.if-not-calls_log.false)
    c.in-Ok.ensures.same c.carry_out_marked-in-Ok.result.0 c.carry_out_marked-in-Ok.result.1 (c.carry_out_marked-in-Ok.ensures.device stopped)

pub returns-in-Err-clause-device : goal.returns-in-Err-clause-device
returns-in-Err-clause-device g c = λ stopped.
    let view = view_by g.D.Device.trace g.D.Device.faults stopped in
    let old = c.args.opened.log in
    let new = c.make_due.new.opened.log in
    went_on view g.C.Checksum.sum_of c.args.opened c.make_due.new.opened c.args.command.now (reply.Failed c.in-Err.e)
    (sym c.calls_log.ensures ∙ c.if-not-calls_log.false)
    (failed_still g.C.Checksum.sum_of (segment_size_of old) (view (device_of old)) (view (device_of new)) (ap (λ (x : RunningConfig _ _). view x.device) c.in-Err.ensures.same) c.args.command.now c.in-Err.e)

pub returns-in-Ok-clause-on : goal.returns-in-Ok-clause-on
returns-in-Ok-clause-on g c = runs_on_both g.D.Device.trace _ _ _ c.in-Ok.ensures.on c.carry_out_marked-in-Ok.ensures.on
