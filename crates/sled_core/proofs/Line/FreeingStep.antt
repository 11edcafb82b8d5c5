-- What the accountant makes of a log's slots behind a buffer's write, and which calls are due then: where no pin is out the slots are stabilized for the mark
-- that joined. Its calls remove blobs, and cut the log file off; none writes to it, nor to a snapshot.
use Rattle.std.proofs.Common.{◌≡◌, ◌∙◌, ◌&&◌, ◌*◌, ap, refl, ℕ, zero, suc, ℤ, Bool, true, false, not, if◌then◌else◌, List, [], ◌∷◌, ◌++◌, filter, set, Option, inl, inr}
use Rattle.sled_store.specs.Blobs.{removing_blobs}
use Rattle.sled_store.specs.Device.{BlobRemoved, Cut, Event, Synced, Trace, state_of}
use Rattle.sled_store.specs.Script.{Performs, Stops, after_all}
use Rattle.sled_store.specs.SegmentStates.{Machine, SlotState, Step, active_among, cutting, deactivated, drained_if_sparse, free_slot, freed, in_turn}
use Rattle.sled_store.specs.SegmentStates.{inactive_slot, is_active_place, is_done, is_due, may_be_cut, slot_at, stabilized, tested, waiting_for, with_slot}
use Rattle.sled_store.specs.SegmentStates.{without_calls}
use Rattle.sled_store.proofs.Marks.StepCalls.{AreStepCalls, cuts, no_call, removes, removing_calls, step_calls_then}
use Rattle.sled_core.specs.Freeing.{Ledger, freeing_step}
use Rattle.sled_core.specs.Fronts.{synced_writes}
use Rattle.sled_core.specs.Ledger.{ledger_step, marked_ledger, written_step}

-- While a pin is out the accountant does nothing.
pub step_pinned : (size : ℕ) (l : Ledger) → l.account.pinned ≡ true → ledger_step size l ≡ record { machine = l.machine; calls = [] }
step_pinned size l pinned = ap (λ (o : Bool). if o then record { machine = l.machine; calls = [] } else freeing_step size l) pinned

-- Where none is it stabilizes the slots.
pub step_made : (size : ℕ) (l : Ledger) → l.account.pinned ≡ false → ledger_step size l ≡ stabilized size l.account.mark l.machine
unfolding freeing_step
step_made size l out = ap (λ (o : Bool). if o then record { machine = l.machine; calls = [] } else freeing_step size l) out

module _ (size : ℕ) where
  -- Blobs are removed, and slots at the end are cut off, each cut with its sync.
  abbrev pub AreOfStep : List Event → Type 0
  AreOfStep es = AreStepCalls size (λ blob. Unit {0}) (λ k. Unit {0}) es

  cutting_any : (tip : ℕ) (slots : List SlotState) → AreOfStep (cutting size tip slots)
  cutting_any zero slots = no_call
  cutting_any (suc k) slots = by (may_be_cut k slots) (cutting_any k slots) where
    by : (b : Bool) → AreOfStep (cutting size k slots) → AreOfStep (if b then Cut (k * size) (k * size) ∷ Synced ∷ cutting size k slots else [])
    by true more = cuts k (cutting size k slots) tt more
    by false more = no_call

  turns_any : {X : Type 0} (step : X → Machine → Step) → ((x : X) (m : Machine) → AreOfStep (step x m).calls) → (xs : List X) (m : Machine)
      → AreOfStep (in_turn step xs m).calls
  turns_any step each [] m = no_call
  turns_any step each (x ∷ xs) m =
      let n : Machine = (step x m).machine in
      step_calls_then size (λ blob. Unit {0}) (λ k. Unit {0}) (step x m).calls (in_turn step xs n).calls (each x m) (turns_any step each xs n)

  freed_any : (k : ℕ) (m : Machine) → AreOfStep (freed size k m).calls
  freed_any k m = cutting_any m.tip (set m.slots k free_slot)

  tested_any : (k : ℕ) (m : Machine) → AreOfStep (tested size k m).calls
  tested_any k m = by (is_done (slot_at n k) && not (is_active_place n (slot_at n k).latest)) where
    n : Machine
    n = drained_if_sparse size k m

    by : (b : Bool) → AreOfStep (if b then freed size k n else without_calls n).calls
    by true = freed_any k n
    by false = no_call

  deactivated_any : (a : ℕ × ℕ) (m : Machine) → AreOfStep (deactivated size a m).calls
  deactivated_any a m = further ((removing_blobs s.blobs ++ waits) ++ tests) [] (further (removing_blobs s.blobs ++ waits) tests
      (further (removing_blobs s.blobs) waits (removing_calls size (λ blob. Unit {0}) (λ k. Unit {0}) s.blobs (λ blob there. tt))
      (turns_any (freed size) freed_any (waiting_for a.0 n) n)) (tested_any a.1 rid)) no_call where
        s : SlotState
        s = slot_at m a.1

        n : Machine
        n = with_slot a.1 (inactive_slot s) m

        rid : Machine
        rid = (in_turn (freed size) (waiting_for a.0 n) n).machine

        waits : List Event
        waits = (in_turn (freed size) (waiting_for a.0 n) n).calls

        tests : List Event
        tests = (tested size a.1 rid).calls

        further : (es fs : List Event) → AreOfStep es → AreOfStep fs → AreOfStep (es ++ fs)
        further es fs = step_calls_then size (λ blob. Unit {0}) (λ k. Unit {0}) es fs

  -- Such calls alone are due for any mark,
  pub stabilized_any : (mark : ℤ) (m : Machine) → AreOfStep (stabilized size mark m).calls
  stabilized_any mark m = turns_any (deactivated size) deactivated_any (filter (λ (a : ℕ × ℕ). is_due size mark a.0) (active_among m.slots)) m

  -- and so it is with the accountant's step.
  pub step_any : (l : Ledger) → AreOfStep (ledger_step size l).calls
  unfolding freeing_step
  step_any l = by l.account.pinned where
    by : (o : Bool) → AreOfStep (if o then record { machine = l.machine; calls = [] } else freeing_step size l).calls
    by true = no_call
    by false = stabilized_any l.account.mark l.machine

  -- Snapshots stay,
  calls_names : (es : List Event) → AreOfStep es → (t : Trace) → (state_of (after_all es t)).snapshots ≡ (state_of t).snapshots
  calls_names es no_call t = refl
  calls_names es (removes blob rest may are) t = calls_names rest are (BlobRemoved blob true ∷ t)
  calls_names es (cuts k rest may are) t = calls_names rest are (Synced ∷ Cut (k * size) (k * size) ∷ t)

  -- and none of the calls writes to the log file,
  calls_counts : (es : List Event) → AreOfStep es → (t : Trace) → synced_writes (after_all es t) ≡ synced_writes t
  calls_counts es no_call t = refl
  calls_counts es (removes blob rest may are) t = calls_counts rest are (BlobRemoved blob true ∷ t)
  calls_counts es (cuts k rest may are) t = calls_counts rest are (Synced ∷ Cut (k * size) (k * size) ∷ t)

  -- made or not.
  pub performs_counts : (es : List Event) → AreOfStep es → (old new : Trace) → Performs es old new → synced_writes new ≡ synced_writes old
  unfolding Performs Stops
  performs_counts es no_call old new came = ap synced_writes came
  performs_counts es (removes blob rest may are) old new (inl (inl same)) = ap synced_writes same
  performs_counts es (removes blob rest may are) old new (inl (inr (torn, (gone, is), came))) =
      ap synced_writes came ∙ ap (λ (e : Event). synced_writes (e ∷ old)) is
  performs_counts es (removes blob rest may are) old new (inr came) = performs_counts rest are (BlobRemoved blob true ∷ old) new came
  performs_counts es (cuts k rest may are) old new (inl (inl same)) = ap synced_writes same
  performs_counts es (cuts k rest may are) old new (inl (inr (torn, (to, less, is), came))) =
      ap synced_writes came ∙ ap (λ (e : Event). synced_writes (e ∷ old)) is
  performs_counts es (cuts k rest may are) old new (inr (inl (inl same))) = ap synced_writes same
  performs_counts es (cuts k rest may are) old new (inr (inl (inr (torn, never, came)))) = absurd never
  performs_counts es (cuts k rest may are) old new (inr (inr came)) =
      performs_counts rest are (Synced ∷ Cut (k * size) (k * size) ∷ old) new came

-- So it is behind the write of a buffer.

pub step_names : (size : ℕ) (mark : Option ℤ) (l : Ledger) (t : Trace)
    → (state_of (after_all (written_step size mark l).calls t)).snapshots ≡ (state_of t).snapshots
step_names size mark l t = calls_names size (written_step size mark l).calls (step_any size (marked_ledger mark l)) t

pub step_counts : (size : ℕ) (mark : Option ℤ) (l : Ledger) (t : Trace)
    → synced_writes (after_all (written_step size mark l).calls (Synced ∷ t)) ≡ synced_writes (Synced ∷ t)
step_counts size mark l t = calls_counts size (written_step size mark l).calls (step_any size (marked_ledger mark l)) (Synced ∷ t)
