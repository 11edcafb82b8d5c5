-- All up to a place is written and synced, unless a reservation of it is open, it wasn't reserved, memory or a further segment is wanting, the device fails, or the log keeps a failure.
use Rattle.std.proofs.Common.{◌≡◌, ◌<◌, ◌<ℤ◌, ◌∙◌, pos, max, ℕ, ℤ, to_z, of_z, List, length, ap, subst, sym, refl}
use Rattle.std.specs.Int.{w64}
use Rattle.std.proofs.lemmas.Int.{to_z-of_z}
use Rattle.sled_core.specs.declared.logger.Log.{Log}
use Rattle.sled_store.specs.Device.{Event}
use Rattle.sled_store.specs.Script.{after_all}
use Rattle.sled_core.specs.Fits.{IsUsedUpBelow, current_begin, device_of, fault_of, held_len, reserved_end, segment_size_of, stable_end}
use Rattle.sled_core.specs.Running.{end_below}
use Rattle.sled_core.specs.Stable.{held_for, stabilizing, target_for}
use Rattle.sled_core.proofs.Holds.ReachLemmas.{fits_stable}
use Rattle.sled_log.specs.RunPhases.{DoesHere, shown_due, view_by}
use Rattle.sled_core.proofs.Line.StableTargets.{target_written}
use Rattle.sled_log.proofs.Sessions.Writing.{has_written, holding_seen, kept, over, put_writing, stable_seen, still_open, whole_of}
use Rattle.sled_log.proofs.Sessions.MadeStable.{held_seen, some_known, stabilizing_seen, stable_failed}
use Rattle.sled_log.specs.declared.session.Phase.TheVariants as phase
use Rattle.sled_log.specs.declared.session.command.Command.TheVariants as told
use Rattle.sled_log.specs.declared.session.command.Reply.TheVariants as reply
use Rattle.sled_log.proofs.session.writing.stabilize.Goals as goal
use Rattle.sled_log.proofs.Sessions.BegunHeads.{only_begun}
use Rattle.sled_log.proofs.Sessions.LogActs.{stable_acts, stable_cause, stable_failed_acts, stabilizing_writes, writes_made}

pub returns-in-Ok-clause-step : goal.returns-in-Ok-clause-step
returns-in-Ok-clause-step g c = λ stopped. λ none k at free.
    let trace = g.D.Device.trace in
    let sum = g.C.Checksum.sum_of in
    let view = view_by g.D.Device.trace g.D.Device.faults stopped in
    let opened = c.args.opened.now in
    let place : ℤ = to_z w64 (of_z w64 c.args.place) in
    let old = opened.log in
    let new = c.make_stable.new.self in
    let put = put_writing trace sum old new c.make_stable.ensures.keeps in
    let due = shown_due opened.due in
    let begun = length opened.pages.items in
    let H = k.history in
    let to = target_for old place in
    let answers = c.in-Ok.ensures.answers in
    let status = c.in-Ok.ensures.status.1 in
    let fits = c.in-Ok.ensures.acknowledges H k.acknowledged k.floor at.unmarked at.fits in
    let some : current_begin old < to → 0 < held_len old = some_known old sum begun k.tickets k.given_up k.heads place answers.0 in
    let past = fits_stable trace sum old H k.acknowledged k.floor at.unmarked at.fits in
    let reached : ℕ = max k.acknowledged (end_below (stable_end new) H) in
    let made = subst (λ (es : List Event). trace (device_of new) ≡ after_all es (trace (device_of old))) (stabilizing_seen old sum begun k.tickets k.given_up k.heads place) c.in-Ok.ensures.made in
    let unheld = holding_seen old sum begun k.tickets k.given_up k.heads to some ∙ sym (held_seen old sum begun k.tickets k.given_up k.heads place answers.0) ∙ answers.1.0 in
    let done : DoesHere view sum (phase.Open opened) (told.Stable place) (phase.Open (over opened new), reply.Flushed c.in-Ok.more) k =
    record {
      not_refused = refl;
      next = kept trace sum opened new k reached;
      step = (
        answers.0,
        has_written old sum begun k.tickets k.given_up k.heads to some new trace (view old.config.device) (view new.config.device) H k.acknowledged k.floor due put (whole_of trace sum old k.given_up k.heads H k.acknowledged k.floor at.unmarked at.given_up at.heads at.fits answers.1.2) c.in-Ok.more answers.1.2 answers.1.3 answers.1.1 unheld
            made answers.1.4 c.in-Ok.ensures.answer
            (target_written old new place put.noted c.in-Ok.ensures.target) past status,
        subst (λ n. place <ℤ pos n) (stable_seen old sum begun k.tickets k.given_up k.heads to some new trace (view old.config.device) (view new.config.device) H k.acknowledged k.floor due put status) c.in-Ok.ensures.target,
      );
      at = λ own. still_open trace sum opened new k reached at (only_begun sum opened.log new c.make_stable.ensures.buffers.0.marked) put none fits;
      crash = λ own. c.make_stable.ensures.keeps.preserves.goes_on.crash k.history k.acknowledged k.floor at.unmarked at.fits;
    } in
    subst (λ (z : ℤ). DoesHere view sum (phase.Open opened) (told.Stable z) (phase.Open (over opened new), reply.Flushed c.in-Ok.more) k) (to_z-of_z w64 c.args.place c.ranges.place) done

-- where it fails nothing of the history is another
pub returns-in-Err-clause-step : goal.returns-in-Err-clause-step
returns-in-Err-clause-step g c = λ stopped. λ none k at free.
    let trace = g.D.Device.trace in
    let sum = g.C.Checksum.sum_of in
    let view = view_by g.D.Device.trace g.D.Device.faults stopped in
    let opened = c.args.opened.now in
    let old = opened.log in
    let new = c.make_stable.new.self in
    let put = put_writing trace sum old new c.make_stable.ensures.keeps in
    let due = shown_due opened.due in
    let place : ℤ = to_z w64 (of_z w64 c.args.place) in
    let fails = stable_failed view sum old new (length opened.pages.items) k.tickets k.given_up k.heads place k.history k.acknowledged k.floor due put (whole_of trace sum old k.given_up k.heads k.history k.acknowledged k.floor at.unmarked at.given_up at.heads at.fits) c.in-Err.e c.in-Err.ensures.answers c.in-Err.ensures.made c.make_stable.ensures.at_most
    c.make_stable.ensures.spares.faulty c.in-Err.ensures.refused c.in-Err.ensures.buffers.0.seals.held c.in-Err.ensures.buffers.1 in
    let done : DoesHere view sum (phase.Open opened) (told.Stable place) (phase.Open (over opened new), reply.Failed c.in-Err.e) k =
    record {
      not_refused = refl;
      next = kept trace sum opened new k k.acknowledged;
      step = fails;
      at = λ own. still_open trace sum opened new k k.acknowledged at (only_begun sum opened.log new c.make_stable.ensures.buffers.0.marked) put none (c.make_stable.ensures.keeps.preserves.fits k.history k.acknowledged k.floor at.unmarked at.fits);
      crash = λ own. c.make_stable.ensures.keeps.preserves.goes_on.crash k.history k.acknowledged k.floor at.unmarked at.fits;
    } in
    subst (λ (z : ℤ). DoesHere view sum (phase.Open opened) (told.Stable z) (phase.Open (over opened new), reply.Failed c.in-Err.e) k) (to_z-of_z w64 c.args.place c.ranges.place) done

-- What each does to the device.
pub returns-in-Ok-clause-device : goal.returns-in-Ok-clause-device
returns-in-Ok-clause-device g c = λ stopped.
    let view = view_by g.D.Device.trace g.D.Device.faults stopped in
    let place : ℤ = to_z w64 (of_z w64 c.args.place) in
    let old = c.args.opened.now.log in
    let new = c.make_stable.new.self in
    stable_acts g.C.Checksum.sum_of (segment_size_of old) (view (device_of old)) (view (device_of new))
    (writes_made (stabilizing g.C.Checksum.sum_of old place) (stabilizing_writes g.C.Checksum.sum_of old place) (view (device_of old)).trace (view (device_of new)).trace c.make_stable.ensures.at_most) c.args.place _ c.in-Ok.ensures.answers.1.4

pub returns-in-Err-clause-device : goal.returns-in-Err-clause-device
returns-in-Err-clause-device g c = λ stopped.
    let view = view_by g.D.Device.trace g.D.Device.faults stopped in
    let place : ℤ = to_z w64 (of_z w64 c.args.place) in
    let old = c.args.opened.now.log in
    let new = c.make_stable.new.self in
    stable_failed_acts g.C.Checksum.sum_of (segment_size_of old) (view (device_of old)) (view (device_of new))
    (writes_made (stabilizing g.C.Checksum.sum_of old place) (stabilizing_writes g.C.Checksum.sum_of old place) (view (device_of old)).trace (view (device_of new)).trace c.make_stable.ensures.at_most) c.args.place c.in-Err.e
    (stable_cause ℕ _ c.in-Err.e place (stable_end old) (reserved_end old) (held_for g.C.Checksum.sum_of old place) (IsUsedUpBelow old (target_for old place)) (fault_of old) (fault_of new) (view (device_of old)) (view (device_of new))
    (λ x was. ap (λ (l : Log _ _). view (device_of l)) (c.make_stable.ensures.spares.faulty x was)) c.in-Err.ensures.answers)
