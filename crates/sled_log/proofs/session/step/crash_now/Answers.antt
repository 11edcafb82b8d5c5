use Rattle.std.proofs.Common.{refl, if◌then◌else◌, [], ◌∷◌}
use Rattle.sled_store.specs.Device.{Crashed, Settled}
use Rattle.sled_store.specs.Noted.{left_of}
use Rattle.sled_log.proofs.Sessions.RunLemmas.{later_one, crash_recoverable, may_be_left}
use Rattle.sled_log.proofs.Sessions.Within.{one_more}
use Rattle.sled_log.proofs.session.step.crash_now.Goals as goal

-- the crash left what was chosen, or what was settled, and a recovery can go on from either
pub returns-clause-step : goal.returns-clause-step
returns-clause-step g c = λ k at free.
    let sum = g.C.Checksum.sum_of in
    let old = g.D.Device.trace c.args.config.device in
    let new = g.D.Device.trace c.crash-taken.new.self in
    let taken = c.crash-taken.result in
    let left = c.crash-taken.ensures.left in
    let faults = c.crash-taken.ensures.faults in
    let stopped = c.crash-taken.ensures.stopped in
    record {
      not_refused = refl;
      next = k;
      step = ((c.crash-taken.ensures.taken, λ i. record { trace = left i; failures = faults i; is_stopped = stopped i }), refl);
      at = λ own. record {
        made = at.made;
        left = crash_recoverable sum c.args.config.config.segment_size k.history k.acknowledged k.floor old new (if taken then left_of c.args.choice else Settled []) at.left left
            (may_be_left old c.args.choice taken c.crash-taken.ensures.taken.0) own;
      };
      crash = λ own. one_more sum c.args.config.config.segment_size k.history k.acknowledged k.floor old new at.left (Crashed (if taken then left_of c.args.choice else Settled [])) left
          (crash_recoverable sum c.args.config.config.segment_size k.history k.acknowledged k.floor old (Crashed (if taken then left_of c.args.choice else Settled []) ∷ old) (if taken then left_of c.args.choice else Settled []) at.left refl
          (may_be_left old c.args.choice taken c.crash-taken.ensures.taken.0) own);
    }

pub returns-clause-on : goal.returns-clause-on
returns-clause-on g c = record {
  later = later_one (g.D.Device.trace c.args.config.device) (g.D.Device.trace c.crash-taken.new.self) _ c.crash-taken.ensures.left;
  kept = record { config = refl; checksum = refl };
}

pub returns-clause-device : goal.returns-clause-device
returns-clause-device g c =
    let did = c.crash-taken.ensures in
    record {
      touches = (did.taken, λ i. record { trace = did.left i; failures = did.faults i; is_stopped = did.stopped i });
      opens = refl;
    }
