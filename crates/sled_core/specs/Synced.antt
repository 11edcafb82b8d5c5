-- What a `StabilityIntervals` knows.
use Rattle.std.specs.Prelude.{◌≡◌, ◌≤◌, ◌<ℤ◌, ◌+ℤ◌, ◌-◌, pos, ℕ, ℤ, List, All}
use Rattle.std.specs.BinaryHeap.{heap_items, heap_len, heap_capacity}
use Rattle.std.specs.VecDeque.{deque_len, deque_capacity}
use Rattle.sled_core.specs.declared.iobuf.intervals.StabilityIntervals.{StabilityIntervals}
use Rattle.sled_core.specs.StableEnds.{IsContiguousEnd, Reaches, AreWaiting, end_before, turned}

-- the contiguous end
abbrev pub contiguous_of : StabilityIntervals → ℤ
contiguous_of v = v.contiguous

-- the intervals beyond the contiguous end
abbrev pub ahead_of : StabilityIntervals → List (ℤ × ℤ)
ahead_of v = turned (heap_items v.ahead)

-- the batches that aren't wholly synced
abbrev pub batches_of : StabilityIntervals → List (ℤ × ℤ)
batches_of v = v.batches.items

-- the stable end
abbrev pub stable_of : StabilityIntervals → ℤ
stable_of v = end_before (contiguous_of v) (batches_of v)

-- for how many more intervals there is room
abbrev pub sync_room : StabilityIntervals → ℕ
sync_room v = heap_capacity v.ahead - heap_len v.ahead

-- for how many more batches there is room
abbrev pub batch_room : StabilityIntervals → ℕ
batch_room v = deque_capacity v.batches - deque_len v.batches

-- what it keeps is what comes of these intervals and these batches, given to it since it began behind the place s, and no more of them than it has to
pub record Knows (v : StabilityIntervals) (s : ℤ) (is bs : List (ℤ × ℤ)) : Type 0 where
  pub contiguous : IsContiguousEnd s is (contiguous_of v)
  pub reached : Reaches s is (contiguous_of v) (ahead_of v)
  -- those that are kept begin behind a place that isn't synced
  pub beyond : All (λ i. (contiguous_of v +ℤ pos 1) <ℤ i.0) (ahead_of v)
  pub awaited : AreWaiting bs (contiguous_of v) (batches_of v)
  pub open_yet : All (λ b. contiguous_of v <ℤ b.1) (batches_of v)

-- it knows what it knew, its ends are where they were, and there is no less room
pub record IntervalsUnchanged (old new : StabilityIntervals) : Type 0 where
  pub contiguous : contiguous_of new ≡ contiguous_of old
  pub ahead : ahead_of new ≡ ahead_of old
  pub batches : batches_of new ≡ batches_of old
  pub sync_room : sync_room old ≤ sync_room new
  pub batch_room : batch_room old ≤ batch_room new
  pub knows : (s : ℤ) (is bs : List (ℤ × ℤ)) → Knows old s is bs → Knows new s is bs
