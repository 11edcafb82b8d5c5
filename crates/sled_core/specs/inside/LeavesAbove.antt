-- What a call leaves that writes the buffers that begin below a place.
use Rattle.std.specs.Prelude.{◌≡◌, ℕ, List}
use Rattle.sled_store.specs.SegmentStates.{Machine}
use Rattle.sled_core.specs.declared.logger.Log.{Log}
use Rattle.sled_core.specs.Fits.{ledger_for, ledger_of, position_with, segment_size_of, start_of, waiting_of}
use Rattle.sled_core.specs.Keeps.{position_for, sealed_for, start_for}
use Rattle.sled_core.specs.Ledger.{ledger_behind}
use Rattle.sled_core.specs.Waiting.{front_below, not_below}

-- A call wrote the buffers that begin below a place, and no others. (What its caller sees is `status_below`.)
pub record LeavesAbove {D C : Type 0} (sum : List ℕ → ℕ) (to : ℕ) (old new : Log D C) : Type 0 where
  pub left : waiting_of new ≡ not_below to (sealed_for sum to old)
  pub start : start_of new ≡ start_for to old
  pub position : (m : Machine) → position_with new m ≡ position_for to old m
  pub ledger : ledger_of new ≡ ledger_behind (segment_size_of old) (front_below to (sealed_for sum to old)) (ledger_for to old)
