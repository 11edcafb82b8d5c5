-- How far a call came that writes buffers and fails, part by part. (What its caller sees is `WroteFront`.)
use Rattle.std.specs.Prelude.{◌≡◌, ◌⊎◌, ◌+◌, ◌<◌, ℕ, List, take, drop, None}
use Rattle.sled_store.specs.Device.{Trace}
use Rattle.sled_store.specs.SegmentStates.{Machine}
use Rattle.sled_store.specs.Script.{after_all}
use Rattle.sled_core.specs.Account.{account_of}
use Rattle.sled_core.specs.declared.logger.Log.{Log}
use Rattle.sled_core.specs.Fits.{device_of, fault_of, ledger_for, machine_at, position_with, segment_size_of, start_of, synced_end, waiting_of, writing_some}
use Rattle.sled_core.specs.Fronts.{FailedFront, synced_writes}
use Rattle.sled_core.specs.Keeps.{position_for, sealed_for, start_for}
use Rattle.sled_core.specs.Ledger.{ledger_behind}

-- Those that begin below a place are sealed, and so many at the front were written; unless the device failed no other call was made.
pub record WroteParts {D C : Type 0} (trace : D → Trace) (sum : List ℕ → ℕ) (to : ℕ) (old new : Log D C) : Type 0 where
  pub count : ℕ
  pub left : waiting_of new ≡ drop count (sealed_for sum to old)
  pub start : start_of new ≡ start_for to old
  pub position : (m : Machine) → position_with new m ≡ position_for to old m
  -- the marks of all that were written count; and slots are as behind these, and not all is written that begins below the place: or the step behind the last
  -- one failed
  pub ledger : (account_of new ≡ (ledger_behind (segment_size_of old) (take count (sealed_for sum to old)) (ledger_for to old)).account)
      × (((machine_at new ≡ (ledger_behind (segment_size_of old) (take count (sealed_for sum to old)) (ledger_for to old)).machine) × (synced_end new < to))
      ⊎ FailedFront trace sum to count old new)
  pub written : synced_writes (trace (device_of new)) ≡ count + synced_writes (trace (device_of old))
  pub whole : fault_of new ≡ None → trace (device_of new) ≡ after_all (writing_some count sum old to) (trace (device_of old))
