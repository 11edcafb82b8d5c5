-- A step behind the write of a buffer that failed, as it is seen.
use Rattle.std.proofs.Common.{◌≡◌, ◌≢◌, subst, ℕ, [], List, Option}
use Rattle.std.specs.Prelude.{Err}
use Rattle.sled_codec.specs.declared.result.Error.TheVariants.{Io}
use Rattle.sled_codec.specs.History.{Message}
use Rattle.sled_store.specs.Device.{Trace}
use Rattle.sled_store.specs.SegmentStates.{Machine, stabilized}
use Rattle.sled_store.specs.Stabilizing.{MovesSlots}
use Rattle.sled_core.specs.Account.{account_of}
use Rattle.sled_core.specs.declared.logger.Log.{Log}
use Rattle.sled_core.specs.Fits.{device_of, fault_of, machine_at, segment_size_of}
use Rattle.sled_core.specs.Fronts.{IsOnTheWay}
use Rattle.sled_core.specs.Keeps.{FailedStep}
use Rattle.sled_log.specs.RunPhases.{seen_log}
use Rattle.sled_log.specs.RunStates.{LogView, MarkAt}
use Rattle.sled_log.specs.WriteSteps.{StepFailed}

module _ {D C : Type 0} (log : Log D C) (begun : ℕ) (tickets : List (Option Message)) (given_up : List Message) (heads : List MarkAt) where
  abbrev l : LogView
  l = seen_log log begun tickets given_up heads

  abbrev size : ℕ
  size = segment_size_of log

  -- The step behind the write of a buffer failed that began with these slots.
  pub step_failed : (trace : D → Trace) (new : Log D C) (slots from : Machine) (after : Trace) → slots ≡ from → segment_size_of new ≡ size → trace (device_of new) ≡ after → FailedStep log new → IsOnTheWay trace new slots
      → StepFailed size l (account_of new).mark from (machine_at new) (fault_of new) after
  step_failed trace new slots from after begins same came failed way =
      let mark = (account_of new).mark in
      let sized = subst (λ n. MovesSlots {T = Unit {0}} n mark (Err (Io way.fault)) slots (machine_at new) way.before (trace (device_of new))) same way.moved in
      let begun_there = subst (λ (m : Machine). MovesSlots {T = Unit {0}} size mark (Err (Io way.fault)) m (machine_at new) way.before (trace (device_of new))) begins sized in
      let moved = subst (λ (t : Trace). MovesSlots {T = Unit {0}} size mark (Err (Io way.fault)) from (machine_at new) way.before t) came begun_there in
      record {
        unpinned = failed.unpinned;
        failure = failed.fault;
        kept = failed.kept;
        before = way.before;
        moved = record { mid = moved.mid; between = moved.between; calls = moved.calls; moves = moved.moves; made = moved.made; end = moved.end; all = tt };
        due = subst (λ (m : Machine). (stabilized size mark m).calls ≢ []) begins (subst (λ n. (stabilized n mark slots).calls ≢ []) same way.due);
      }
