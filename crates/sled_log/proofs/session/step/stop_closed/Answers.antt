-- The device is to be stopped, and a recovery can go on from it as before.
use Rattle.std.proofs.Common.{ap, refl, subst, sym}
use Rattle.sled_store.specs.Device.{StopAsked, state_of}
use Rattle.sled_store.proofs.Traces.StopLemmas.{asked_later}
use Rattle.sled_core.specs.Recoverable.{LeavesRecoverable}
use Rattle.sled_log.specs.RunPhases.{view_by}
use Rattle.sled_log.proofs.Sessions.Carried.{asked_going}
use Rattle.sled_log.proofs.Sessions.Within.{one_more}
use Rattle.sled_log.proofs.session.step.stop_closed.Goals as goal

pub returns-clause-step : goal.returns-clause-step
returns-clause-step g c = λ k at free.
    let view = view_by g.D.Device.trace g.D.Device.faults g.D.CrashDevice.is_stopped in
    let sum = g.C.Checksum.sum_of in
    let old = c.args.config in
    let new = c.stop_after.new.self in
    let did = c.stop_after.ensures in
    let asked = asked_going (view old.device).is_stopped c.args.n _ _ _ free did.trace in
    record {
      not_refused = refl;
      next = k;
      step = (λ i. record { trace = asked i; failures = did.faults i; is_stopped = did.stopped i }, refl);
      at = λ own. record { made = at.made; left = subst (LeavesRecoverable sum old.config.segment_size k.history k.acknowledged k.floor) (sym (ap state_of asked)) at.left };
      crash = λ own. one_more sum old.config.segment_size k.history k.acknowledged k.floor (view old.device).trace (view new).trace at.left (StopAsked c.args.n) asked at.left;
    }

pub returns-clause-on : goal.returns-clause-on
returns-clause-on g c = record {
  later = asked_later _ c.args.n _ _ c.stop_after.ensures.trace;
  kept = record { config = refl; checksum = refl };
}

pub returns-clause-device : goal.returns-clause-device
returns-clause-device g c =
    let did = c.stop_after.ensures in
    record { touches = (refl, λ i. record { trace = did.trace i; failures = did.faults i; is_stopped = did.stopped i }); opens = refl }
