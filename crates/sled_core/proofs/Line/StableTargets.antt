-- Up to where a log has to write for a place to be stable.
use Rattle.std.proofs.Common.{◌≡◌, ◌≤◌, ◌<ℤ◌, ℕ, ℤ, pos, negsuc, List, arith, sym, subst, inl, inr}
use Rattle.std.specs.List.{Contains}
use Rattle.std.proofs.lemmas.Bool.{cases_lt}
use Rattle.std.proofs.lemmas.Int.{ints}
use Rattle.sled_codec.specs.History.{Batch}
use Rattle.sled_core.specs.declared.logger.Log.{Log}
use Rattle.sled_core.specs.Fits.{noted_in, reserved_end, stable_end, synced_end}
use Rattle.sled_core.specs.OpenBatches.{not_whole}
use Rattle.sled_core.specs.Stable.{behind_place, target_for}
use Rattle.sled_core.proofs.Line.NoneLeft.{noted_pegs}
use Rattle.sled_core.proofs.Reached.NotedSteps.{behind_within}
use Rattle.sled_core.proofs.Reached.OpenBatch.{not_whole_there}
use Rattle.sled_core.proofs.Reached.StableBelow.{stable_low, stable_open}

-- what lies behind a place below another one isn't above that
pub behind_end : (place : ℤ) (n : ℕ) → place <ℤ pos n → behind_place place ≤ n
behind_end (pos k) n low = omega (arith, ints, low)
behind_end (negsuc k) n low = omega arith

-- So it is within what was reserved, where the place was,
pub target_reserved : {D C : Type 0} (log : Log D C) (place : ℤ) → place <ℤ pos (reserved_end log) → target_for log place ≤ reserved_end log
target_reserved log place low = behind_within (behind_place place) (reserved_end log) (noted_in log) (behind_end place (reserved_end log) low) (λ b known begins. noted_pegs log b known)

-- and all of it is on the device once the place is stable.
pub target_written : {D C : Type 0} (old new : Log D C) (place : ℤ) → noted_in new ≡ not_whole (synced_end new) (noted_in old) → place <ℤ pos (stable_end new) → target_for old place ≤ synced_end new
target_written old new place noted low =
    let behind = behind_end place (stable_end new) low in
    let under = stable_low (synced_end new) (noted_in new) in
    behind_within (behind_place place) (synced_end new) (noted_in old) (omega (arith, behind, under))
    (λ b known begins. elim (cases_lt b.peg (synced_end new)) [
      | inl ended ↦ ended
      | inr open_yet ↦ absurd (
          let there : Contains (noted_in new) b = subst (λ (bs : List Batch). Contains bs b) (sym noted) (not_whole_there (synced_end new) (noted_in old) b known open_yet) in
          elim (cases_lt b.low (synced_end new)) [
            | inl lower ↦ (let front = stable_open (synced_end new) (noted_in new) b there (lower, open_yet) in omega (arith, front, behind, begins))
            | inr higher ↦ omega (arith, higher, under, behind, begins)
          ])
    ])
