-- The stop that a device for tests was asked for, and how the device keeps to it.
use Rattle.std.specs.Prelude.{◌≡◌, ◌<◌, ◌==◌, ◌&&◌, ◌+◌, ◌-◌, ℕ, Bool, true, false, not, if◌then◌else◌, [], ◌∷◌, length, Option, Some, None}
use Rattle.std.specs.Option.{option_map}
use Rattle.sled_store.specs.Device.{Event, Trace, Wrote, Cut, Synced, BlobMade, BlobSynced, BlobRemoved, SnapshotFilled, SnapshotPublished, SnapshotRemoved}
use Rattle.sled_store.specs.Device.{NamesSynced, StopAsked, Crashed}

-- a call that changes or syncs was done, as it was asked
abbrev pub is_done : Event → Bool
is_done (Wrote at asked now) = length now == length asked
is_done (Cut asked now) = now == asked
is_done (BlobMade place asked now done) = done && length now == length asked
is_done (BlobRemoved place done) = done
is_done (SnapshotFilled asked now) = length now == length asked
is_done (SnapshotPublished number done) = done
is_done (SnapshotRemoved number done) = done
is_done Synced = true
is_done (BlobSynced place) = true
is_done NamesSynced = true
is_done (StopAsked n) = false
is_done (Crashed left) = false

abbrev pub is_sync : Event → Bool
is_sync Synced = true
is_sync (BlobSynced place) = true
is_sync NamesSynced = true
is_sync _ = false

-- the stop that was asked for last, where no crash came since
abbrev pub stop_asked : Trace → Option ℕ
stop_asked [] = None
stop_asked (StopAsked n ∷ h) = Some n
stop_asked (Crashed left ∷ h) = None
stop_asked (e ∷ h) = stop_asked h

-- how many calls were done since a stop was asked for, or since a crash
abbrev pub done_since : Trace → ℕ
done_since [] = 0
done_since (StopAsked n ∷ h) = 0
done_since (Crashed left ∷ h) = 0
done_since (e ∷ h) = if is_done e then done_since h + 1 else done_since h

-- and so how many are left that are done before one is stopped within, where one is to be
abbrev pub left_to_do : Trace → Option ℕ
left_to_do h = option_map (λ n. n - done_since h) (stop_asked h)

-- the last event is a call that was done and changed something
abbrev pub ends_in_change : Trace → Bool
ends_in_change [] = false
ends_in_change (e ∷ h) = is_done e && not (is_sync e)

-- A device keeps to the stop that was asked for last.
pub record KeepsToStop (h : Trace) (stopped : Bool) : Type 0 where
  -- it is stopped only where that was asked, and as many calls were done since
  pub due : stopped ≡ true → left_to_do h ≡ Some 0
  -- One call more is done at most, and then it is stopped: that call is the last event, and changes something.
  pub passed : (n : ℕ) → stop_asked h ≡ Some n → n < done_since h → (stopped ≡ true) × (done_since h ≡ n + 1) × (ends_in_change h ≡ true)
