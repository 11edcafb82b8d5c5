-- A buffer that nothing holds up is written, unless memory is wanting, the device fails, or the log keeps a failure.
use Rattle.std.proofs.Common.{◌≡◌, ◌∙◌, ◌≤◌, ◌&&◌, inl, inr, nat_le, true, false, None, Option, Some, ap, sym, refl, arith, length}
use Rattle.std.proofs.lemmas.Bool.Decides.{nat_tests}
use Rattle.sled_core.specs.declared.logger.Log.{Log}
use Rattle.sled_core.specs.Account.{account_of}
use Rattle.sled_core.specs.Fits.{device_of, fault_of, ledger_of, machine_at, position_of, segment_size_of, waiting_of, writing_pending}
use Rattle.sled_core.specs.Fronts.{synced_writes, syncs}
use Rattle.std.specs.declared.io.Error.{Error as IoError}
use Rattle.sled_core.specs.Waiting.{spans}
use Rattle.sled_core.specs.LogStatus.{failing, position_over, status_behind, status_of, wrote_one}
use Rattle.sled_core.specs.Spans.{without_unheld}
use Rattle.sled_log.specs.RunPhases.{seen, shown_due, view_by}
use Rattle.sled_log.specs.RunStates.{LogView, pending_in_view}
use Rattle.sled_log.specs.declared.session.command.Command.TheVariants as told
use Rattle.sled_log.specs.declared.session.command.Refusal.TheVariants as why
use Rattle.sled_log.proofs.Sessions.BegunHeads.{begun_none}
use Rattle.sled_core.proofs.Line.StatusSeen.{over_seen, waiting_held, without_seen}
use Rattle.sled_core.proofs.Line.Wrote.{status_left, status_unwritten}
use Rattle.sled_log.proofs.Sessions.FailedSteps.{step_failed}
use Rattle.sled_log.proofs.Sessions.Writing.{held_none, index_fits, keeps_failing, kept, kept_or_none, never_held, pending_seen, put_writing, shows_waiting, spared, stands_left, still_open, unsynced, whole_of, why_of}
use Rattle.sled_log.proofs.session.writing.write.Goals as goal
use Rattle.sled_log.proofs.Sessions.LogActs.{answers_cause, refused_acts, write_failed_acts, writes_made, writings_write, written_acts}

-- an index that isn't refused fits
pub returns-then-i-pending-clause-step : goal.returns-then-i-pending-clause-step
returns-then-i-pending-clause-step g c = λ stopped. λ none k at free.
    let opened = c.args.opened.now in
    let l : LogView = seen opened k.tickets k.given_up k.heads in
    let fits : nat_le (pending_in_view l) c.args.i ≡ false = index_fits (stopped opened.log.config.device && true) (nat_le (pending_in_view l) c.args.i) why.Stopped why.Index free in
    let same = pending_seen opened.log g.C.Checksum.sum_of (length opened.pages.items) k.tickets k.given_up k.heads in
    let high : pending_in_view l ≤ c.args.i = let high = c.if-i-pending.true in let is = c.pending.ensures in omega (arith, high, is, same) in
    absurd (grind (arith, nat_tests, fits, high))

pub returns-in-Ok-clause-step : goal.returns-in-Ok-clause-step
returns-in-Ok-clause-step g c = λ stopped. λ none k at free.
    let trace = g.D.Device.trace in
    let sum = g.C.Checksum.sum_of in
    let view = view_by g.D.Device.trace g.D.Device.faults stopped in
    let opened = c.args.opened.now in
    let old = opened.log in
    let new = c.write_to_log.new.self in
    let put = put_writing trace sum old new c.write_to_log.ensures.keeps in
    let begun = length opened.pages.items in
    let l : LogView = seen opened k.tickets k.given_up k.heads in
    let answers = c.in-Ok.ensures.answers in
    let is : status_of new ≡ failing None (status_behind c.args.i old) = c.in-Ok.ensures.status.1 ∙ ap (λ (f : Option IoError). failing f (status_behind c.args.i old)) answers.0 in
    record {
      not_refused = refl;
      next = kept trace sum opened new k k.acknowledged;
      step = (
        answers.0,
        record { buffers = waiting_of old; shown = shows_waiting old sum begun k.tickets k.given_up k.heads (whole_of trace sum old k.given_up k.heads k.history k.acknowledged k.floor at.unmarked at.given_up at.heads at.fits answers.0); made = c.in-Ok.ensures.calls },
        answers.2,
        stands_left old sum begun k.tickets k.given_up k.heads trace new (view old.config.device) (view new.config.device) k.history k.acknowledged k.floor (shown_due opened.due) put k.acknowledged (failing None (status_behind c.args.i old)) is,
      );
      at = λ own. still_open trace sum opened new k k.acknowledged at (begun_none sum old new (record { heads = c.write_to_log.ensures.heads; fillings = c.write_to_log.ensures.fillings })) put none (c.write_to_log.ensures.keeps.preserves.fits k.history k.acknowledged k.floor at.unmarked at.fits);
      crash = λ own. c.write_to_log.ensures.keeps.preserves.goes_on.crash k.history k.acknowledged k.floor at.unmarked at.fits;
    }

-- It isn't written, or it is, and the step behind it failed.
pub returns-in-Err-clause-step : goal.returns-in-Err-clause-step
returns-in-Err-clause-step g c = λ stopped. λ none k at free.
    let trace = g.D.Device.trace in
    let sum = g.C.Checksum.sum_of in
    let view = view_by g.D.Device.trace g.D.Device.faults stopped in
    let opened = c.args.opened.now in
    let old = opened.log in
    let new = c.write_to_log.new.self in
    let keeps = c.write_to_log.ensures.keeps in
    let put = put_writing trace sum old new keeps in
    let later = keeps.preserves.goes_on.later in
    let begun = length opened.pages.items in
    let l : LogView = seen opened k.tickets k.given_up k.heads in
    let due = shown_due opened.due in
    let device = view old.config.device in
    let now = view new.config.device in
    let lies : position_of new ≡ position_over (segment_size_of old) l.status (machine_at new) = c.write_to_log.ensures.start.1 (machine_at new) ∙ over_seen old (machine_at new) in
    let answers = held_none (Unit {0}) c.in-Err.e (fault_of old) (fault_of new) device.failures now.failures c.in-Err.ensures.answers in
    record {
      not_refused = refl;
      next = kept trace sum opened new k k.acknowledged;
      step = elim (kept_or_none (Unit {0}) c.in-Err.e None ⊥ (fault_of old) (fault_of new) device.failures now.failures answers) [
        | inl kept ↦ (
            let same = c.write_to_log.ensures.faulty kept.0 kept.2 in
            inl (keeps_failing old new begun k.tickets k.given_up k.heads device now k.history k.acknowledged k.floor due c.in-Err.e kept.0 kept.1 kept.2 same (ap (λ x. view x.config.device) same)))
        | inr sound ↦ (
            let shown = shows_waiting old sum begun k.tickets k.given_up k.heads (whole_of trace sum old k.given_up k.heads k.history k.acknowledged k.floor at.unmarked at.given_up at.heads at.fits sound) in
            inr (record {
              sound = sound;
              fault = fault_of new;
              why = why_of (Unit {0}) c.in-Err.e None None ⊥ ⊥ (fault_of old) (fault_of new) device.failures now.failures sound refl (λ never. never) (λ free. free) answers;
              came = elim c.in-Err.ensures.err [
                | inl not ↦ inl (
                  record {
                    buffers = waiting_of old;
                    shown = shown;
                    made = c.write_to_log.ensures.at_most;
                    written = (let same : synced_writes now.trace ≡ synced_writes device.trace = ap synced_writes later.1 ∙ unsynced later.0 device.trace (sym (ap syncs later.1) ∙ not.2) in omega (arith, same));
                    whole = λ fine. spared (Unit {0}) c.in-Err.e (fault_of old) (fault_of new) device.failures now.failures device.trace now.trace sound fine c.in-Err.ensures.answers c.in-Err.ensures.refused;
                    held = never_held (Unit {0}) c.in-Err.e (fault_of old) (fault_of new) device.failures now.failures _ c.in-Err.ensures.answers;
                  },
                  stands_left old sum begun k.tickets k.given_up k.heads trace new device now k.history k.acknowledged k.floor due put k.acknowledged (failing (fault_of new) l.status)
                      (status_left old new l.status.waiting l.status.start (ledger_of old) (position_over (segment_size_of old) l.status) (ap spans not.1) c.write_to_log.ensures.start.0 not.3 lies keeps.tickets keeps.position keeps.preserves.noted
                      ∙ ap (failing (fault_of new)) (status_unwritten old)),
                )
                | inr wrote ↦ inr (
                  record {
                    buffers = waiting_of old;
                    shown = shown;
                    made = c.write_to_log.ensures.at_most;
                    written = (let one = wrote.written in omega (arith, one));
                    whole = λ fine. absurd (let both : None ≡ Some wrote.failed.fault = sym fine ∙ wrote.failed.kept in cc);
                    held = never_held (Unit {0}) c.in-Err.e (fault_of old) (fault_of new) device.failures now.failures _ c.in-Err.ensures.answers;
                  },
                  account_of new,
                  wrote.account,
                  machine_at new,
                  step_failed old begun k.tickets k.given_up k.heads trace new (machine_at old) (machine_at old) now.trace refl put.size refl wrote.failed wrote.way,
                  stands_left old sum begun k.tickets k.given_up k.heads trace new device now k.history k.acknowledged k.floor due put k.acknowledged
                      (failing (fault_of new) (wrote_one (segment_size_of old) c.args.i (ledger_of new) l.status))
                      (status_left old new (without_unheld l.status.opens c.args.i l.status.waiting) l.status.start (ledger_of new) (position_over (segment_size_of old) l.status)
                      (ap spans wrote.waiting ∙ without_seen l.status.opens c.args.i (waiting_of old) (waiting_held old sum)) c.write_to_log.ensures.start.0 refl lies
                      keeps.tickets keeps.position keeps.preserves.noted),
                )
              ];
            }))
      ];
      at = λ own. still_open trace sum opened new k k.acknowledged at (begun_none sum old new (record { heads = c.write_to_log.ensures.heads; fillings = c.write_to_log.ensures.fillings })) put none (keeps.preserves.fits k.history k.acknowledged k.floor at.unmarked at.fits);
      crash = λ own. keeps.preserves.goes_on.crash k.history k.acknowledged k.floor at.unmarked at.fits;
    }

-- What each does to the device.
pub returns-then-i-pending-clause-device : goal.returns-then-i-pending-clause-device
returns-then-i-pending-clause-device g c = λ stopped.
    let view = view_by g.D.Device.trace g.D.Device.faults stopped in
    let log = c.args.opened.now.log in
    refused_acts g.C.Checksum.sum_of (segment_size_of log) (view (device_of log)) (view (device_of log)) refl (told.Write c.args.i) why.Index

pub returns-in-Ok-clause-device : goal.returns-in-Ok-clause-device
returns-in-Ok-clause-device g c = λ stopped.
    let view = view_by g.D.Device.trace g.D.Device.faults stopped in
    let old = c.args.opened.now.log in
    let new = c.write_to_log.new.self in
    written_acts g.C.Checksum.sum_of (segment_size_of old) (view (device_of old)) (view (device_of new))
    (writes_made (writing_pending old c.args.i) (writings_write _ _ _) (view (device_of old)).trace (view (device_of new)).trace c.write_to_log.ensures.at_most) c.args.i c.in-Ok.ensures.answers.2

pub returns-in-Err-clause-device : goal.returns-in-Err-clause-device
returns-in-Err-clause-device g c = λ stopped.
    let view = view_by g.D.Device.trace g.D.Device.faults stopped in
    let old = c.args.opened.now.log in
    let new = c.write_to_log.new.self in
    write_failed_acts g.C.Checksum.sum_of (segment_size_of old) (view (device_of old)) (view (device_of new))
    (writes_made (writing_pending old c.args.i) (writings_write _ _ _) (view (device_of old)).trace (view (device_of new)).trace c.write_to_log.ensures.at_most) c.args.i c.in-Err.e
    (answers_cause (Unit {0}) _ c.in-Err.e (fault_of old) (fault_of new) (view (device_of old)) (view (device_of new)) (λ x was. ap (λ (l : Log _ _). view (device_of l)) (c.write_to_log.ensures.faulty x was)) c.in-Err.ensures.answers)
