-- What proofs, and functions that no user calls, need beside `specs/Stabilizing.antt`. No public contract names it.
use Rattle.std.specs.Prelude.{◌≡◌, ◌≢◌, ◌==◌, ℕ, List, [], map, filter, Option, None, Some, Result, OnOk, OnErr, IfErr}
use Rattle.std.specs.BTreeMap.{is_at}
use Rattle.std.specs.Set.{remove_key}
use Rattle.sled_codec.specs.declared.result.Error.{Error}
use Rattle.sled_codec.specs.declared.result.Error.TheVariants.{OutOfMemory}
use Rattle.sled_store.specs.Accounts.{IsAccountant, machine_of}
use Rattle.sled_store.specs.Blobs.{RemoveAnswers}
use Rattle.sled_store.specs.Device.{Trace}
use Rattle.sled_store.specs.Script.{Performs, after_all}
use Rattle.sled_store.specs.declared.segment.accountant.SegmentAccountant.{SegmentAccountant}
use Rattle.sled_store.specs.SegmentStates.{Machine, Step, by_place, waiting_for, in_turn, freed}

-- the slots that are there behind a place
abbrev pub slots_at : ℕ → List (ℕ × ℕ) → List ℕ
slots_at place ps = map (λ w. w.1) (filter (λ w. w.0 == place) ps)

-- a slot less, behind its place
abbrev pub not_beside : Option ℕ → ℕ → List (ℕ × ℕ) → List (ℕ × ℕ)
not_beside None k ps = ps
not_beside (Some place) k ps = remove_key (is_at (by_place (place, k))) ps

-- the slots that waited for the segment at a place are freed, one after another
abbrev pub waiting_freed : ℕ → ℕ → Machine → Step
waiting_freed size place m = in_turn (freed size) (waiting_for place m) m

-- A step of the machine was made, with all of its calls; where the device failed, one of them was due, and the first of them were made. The accountant stays
-- one then, too.
pub record MakesStep {T : Type 0} (size : ℕ) (step : Step) (result : Result T Error) (old new : Trace) (faults faults_then : ℕ)
    (a : SegmentAccountant) : Type 0 where
  pub done : OnOk result (machine_of a ≡ step.machine)
  pub made : OnOk result (new ≡ after_all step.calls old)
  pub calls : Performs step.calls old new
  pub due : OnErr result (step.calls ≢ [])
  pub answers : RemoveAnswers result faults faults_then
  pub memory : IfErr result (λ e. e ≢ OutOfMemory)
  pub account : IsAccountant size a
