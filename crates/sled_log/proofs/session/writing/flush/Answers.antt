-- All that was reserved is written and synced, and all completed messages are acknowledged, unless a reservation is open, memory or a further segment is wanting, the device fails, or the log keeps a failure.
use Rattle.std.proofs.Common.{◌≡◌, ◌<◌, ◌∙◌, inl, inr, max, ℕ, List, length, arith, subst, sym, refl, ap}
use Rattle.std.proofs.lemmas.Option.{same_Some}
use Rattle.sled_store.specs.Device.{Event, state_of}
use Rattle.sled_store.specs.Script.{Performs}
use Rattle.sled_core.specs.declared.logger.Log.{Log}
use Rattle.sled_core.specs.Account.{account_of}
use Rattle.sled_core.specs.Fits.{IsKept, IsUsedUpBelow, current_begin, device_of, fault_of, flushing, held_len, holding_below, reserved_end, segment_size_of, stable_end, synced_end}
use Rattle.sled_core.specs.Keeps.{HoldsFast}
use Rattle.sled_core.specs.Logged.{logged}
use Rattle.sled_core.specs.invariants.Running.{Fits}
use Rattle.sled_core.specs.Running.{end_below}
use Rattle.sled_core.proofs.Holds.ReachLemmas.{fits_stable}
use Rattle.sled_core.proofs.PublicLaws.{written_past}
use Rattle.sled_log.specs.RunPhases.{seen, shown_due, view_by}
use Rattle.sled_log.specs.RunStates.{LogView}
use Rattle.sled_log.specs.WriteSteps.{stable_from}
use Rattle.sled_core.proofs.Line.StatusSeen.{some_reserved}
use Rattle.sled_log.proofs.Sessions.Writing.{fails_to, flush_in, flush_out, has_written, holding_seen, if_held, keeps_failing, kept, kept_or_none, made_seen, put_writing, stable_seen, still_open, whole_of, why_of, writes_seen}
use Rattle.sled_log.proofs.session.writing.flush.Goals as goal
use Rattle.sled_log.proofs.Sessions.BegunHeads.{only_begun}
use Rattle.sled_log.proofs.Sessions.LogActs.{flush_failed_acts, flushed_acts, held_cause, writes_made, writings_write}

pub returns-in-Ok-clause-step : goal.returns-in-Ok-clause-step
returns-in-Ok-clause-step g c = λ stopped. λ none k at free.
    let trace = g.D.Device.trace in
    let sum = g.C.Checksum.sum_of in
    let view = view_by g.D.Device.trace g.D.Device.faults stopped in
    let opened = c.args.opened.now in
    let old = opened.log in
    let new = c.flush.new.self in
    let put = put_writing trace sum old new c.flush.ensures.keeps in
    let due = shown_due opened.due in
    let begun = length opened.pages.items in
    let l : LogView = seen opened k.tickets k.given_up k.heads in
    let H = k.history in
    let to = reserved_end old in
    let some : current_begin old < to → 0 < held_len old = some_reserved old to (omega arith) in
    let fast : HoldsFast trace sum old H = inr (k.acknowledged, k.floor, at.unmarked, at.fits) in
    let past = fits_stable trace sum old H k.acknowledged k.floor at.unmarked at.fits in
    let answers = c.in-Ok.ensures.answers in
    let ends : synced_end new ≡ stable_from to l = sym c.in-Ok.ensures.synced.stable ∙ stable_seen old sum begun k.tickets k.given_up k.heads to some new trace (view old.config.device) (view new.config.device) H k.acknowledged k.floor due put c.in-Ok.ensures.status.1 in
    let settled : IsKept sum (account_of new).mark (account_of new).durable (segment_size_of old) new.segments.first.site new.segments.first.buffer.written_len (state_of (trace (device_of new))) (logged H) =
    subst (λ n. IsKept sum (account_of new).mark (account_of new).durable n new.segments.first.site new.segments.first.buffer.written_len (state_of (trace (device_of new))) (logged H)) put.size (c.in-Ok.ensures.records H fast) in
    let reached : ℕ = max k.acknowledged (end_below (stable_end new) H) in
    let made = made_seen old sum begun k.tickets k.given_up k.heads to (trace (device_of old)) (trace (device_of new)) c.in-Ok.ensures.calls in
    record {
      not_refused = refl;
      next = kept trace sum opened new k reached;
      step = record {
        written = has_written old sum begun k.tickets k.given_up k.heads to some new trace (view old.config.device) (view new.config.device) H k.acknowledged k.floor due put (whole_of trace sum old k.given_up k.heads H k.acknowledged k.floor at.unmarked at.given_up at.heads at.fits answers.2) c.in-Ok.grown answers.2 answers.3 answers.1 answers.0
            made answers.4 c.in-Ok.ensures.answer c.in-Ok.ensures.synced.whole past c.in-Ok.ensures.status.1;
        all = λ i d lt. let low = written_past trace sum new H (c.in-Ok.ensures.records H fast) i d lt in omega (arith, low, ends);
        site = new.segments.first.site;
        from = new.segments.first.buffer.written_len;
        at = ends;
        mark = (account_of new).mark;
        durable = (account_of new).durable;
        marks = λ v is.
            let same = same_Some _ v is in
            (ap (λ (x : LogView). x.status.account.mark) (sym same), ap (λ (x : LogView). x.status.account.durable) (sym same));
        kept = settled;
      };
      at = λ own. still_open trace sum opened new k reached at (only_begun sum opened.log new c.flush.ensures.buffers.0.marked) put none
          (subst (λ n. Fits trace sum new H (max k.acknowledged (end_below n H)) k.floor at.unmarked) (sym c.in-Ok.ensures.synced.stable) (c.in-Ok.ensures.acknowledges H k.acknowledged k.floor at.unmarked at.fits));
      crash = λ own. c.flush.ensures.keeps.preserves.goes_on.crash H k.acknowledged k.floor at.unmarked at.fits;
    }

-- a flush that failed changes nothing of the history
pub returns-in-Err-clause-step : goal.returns-in-Err-clause-step
returns-in-Err-clause-step g c = λ stopped. λ none k at free.
    let trace = g.D.Device.trace in
    let sum = g.C.Checksum.sum_of in
    let view = view_by g.D.Device.trace g.D.Device.faults stopped in
    let opened = c.args.opened.now in
    let old = opened.log in
    let new = c.flush.new.self in
    let put = put_writing trace sum old new c.flush.ensures.keeps in
    let due = shown_due opened.due in
    let begun = length opened.pages.items in
    let l : LogView = seen opened k.tickets k.given_up k.heads in
    let H = k.history in
    let to = reserved_end old in
    let some : current_begin old < to → 0 < held_len old = some_reserved old to (omega arith) in
    let device = view old.config.device in
    let now = view new.config.device in
    let held = holding_below sum old to in
    let used : Type 0 = IsUsedUpBelow old to in
    record {
      not_refused = refl;
      next = kept trace sum opened new k k.acknowledged;
      step = elim (kept_or_none ℕ c.in-Err.e held used (fault_of old) (fault_of new) device.failures now.failures c.in-Err.ensures.answers) [
        | inl kept ↦ (
            let same = c.flush.ensures.spares.faulty kept.0 kept.2 in
            inl (keeps_failing old new begun k.tickets k.given_up k.heads device now H k.acknowledged k.floor due c.in-Err.e kept.0 kept.1 kept.2 same (ap (λ x. view x.config.device) same)))
        | inr sound ↦ inr (fails_to old sum begun k.tickets k.given_up k.heads to some new trace device now H k.acknowledged k.floor due put (whole_of trace sum old k.given_up k.heads H k.acknowledged k.floor at.unmarked at.given_up at.heads at.fits sound) c.in-Err.e refl refl sound
            (why_of ℕ c.in-Err.e held _ used _ (fault_of old) (fault_of new) device.failures now.failures sound (holding_seen old sum begun k.tickets k.given_up k.heads to some) (λ used. (used.0, flush_out old sum begun k.tickets k.given_up k.heads used.1)) (λ free needs. needs.1 (flush_in old sum begun k.tickets k.given_up k.heads (λ used. free (needs.0, used)))) c.in-Err.ensures.answers)
            (subst (λ (es : List Event). Performs es (trace (device_of old)) (trace (device_of new))) (writes_seen old sum begun k.tickets k.given_up k.heads to) c.flush.ensures.at_most)
            (if_held ℕ c.in-Err.e _ _ (made_seen old sum begun k.tickets k.given_up k.heads to (trace (device_of old)) (trace (device_of new))) c.in-Err.ensures.calls) c.in-Err.ensures.buffers.0.seals.held c.in-Err.ensures.buffers.1)
      ];
      at = λ own. still_open trace sum opened new k k.acknowledged at (only_begun sum opened.log new c.flush.ensures.buffers.0.marked) put none (c.flush.ensures.keeps.preserves.fits H k.acknowledged k.floor at.unmarked at.fits);
      crash = λ own. c.flush.ensures.keeps.preserves.goes_on.crash H k.acknowledged k.floor at.unmarked at.fits;
    }

-- What each does to the device.
pub returns-in-Ok-clause-device : goal.returns-in-Ok-clause-device
returns-in-Ok-clause-device g c = λ stopped.
    let view = view_by g.D.Device.trace g.D.Device.faults stopped in
    let old = c.args.opened.now.log in
    let new = c.flush.new.self in
    flushed_acts g.C.Checksum.sum_of (segment_size_of old) (view (device_of old)) (view (device_of new))
    (writes_made (flushing g.C.Checksum.sum_of old) (writings_write _ _ _) (view (device_of old)).trace (view (device_of new)).trace c.flush.ensures.at_most) _ c.in-Ok.ensures.answers.4

pub returns-in-Err-clause-device : goal.returns-in-Err-clause-device
returns-in-Err-clause-device g c = λ stopped.
    let view = view_by g.D.Device.trace g.D.Device.faults stopped in
    let old = c.args.opened.now.log in
    let new = c.flush.new.self in
    flush_failed_acts g.C.Checksum.sum_of (segment_size_of old) (view (device_of old)) (view (device_of new))
    (writes_made (flushing g.C.Checksum.sum_of old) (writings_write _ _ _) (view (device_of old)).trace (view (device_of new)).trace c.flush.ensures.at_most) c.in-Err.e
    (held_cause ℕ _ c.in-Err.e (holding_below g.C.Checksum.sum_of old (reserved_end old)) (IsUsedUpBelow old (reserved_end old)) (fault_of old) (fault_of new) (view (device_of old)) (view (device_of new))
    (λ x was. ap (λ (l : Log _ _). view (device_of l)) (c.flush.ensures.spares.faulty x was)) c.in-Err.ensures.answers)
