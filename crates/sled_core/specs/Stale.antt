-- When nothing stands in a log file of a segment that is gone.
use Rattle.std.specs.Prelude.{◌≡◌, ◌+◌, ◌-◌, ◌*◌, ◌/◌, ℕ, true, List, All}
use Rattle.sled_store.specs.Device.{Trace, state_of}
use Rattle.sled_store.specs.SegmentStates.{Machine, is_free, slot_at}
use Rattle.sled_core.specs.declared.logger.Log.{Log}
use Rattle.sled_core.specs.Fits.{device_of, machine_at, segment_size_of, start_of, waiting_of}
use Rattle.sled_core.specs.LogStatus.{LogStatus}
use Rattle.sled_core.specs.SealedBuffers.{AreZeros}
use Rattle.sled_core.specs.Waiting.{BufferStart, Span, spans}

-- Nothing in a log file is stale: as far as it goes it has zeros in each slot that is free, and where the segments that were begun aren't written yet, which
-- is in the sealed buffers that wait, and from where the current buffer begins up to the end of its segment.
pub record HasNothingStale (size : ℕ) (m : Machine) (waiting : List Span) (start : BufferStart) (log : List ℕ) : Type 0 where
  pub free : (k : ℕ) → is_free (slot_at m k).state ≡ true → AreZeros log (k * size) (k * size + size)
  pub sealed : All (λ s. AreZeros log s.lid (s.lid + (s.end - s.place))) waiting
  pub current : AreZeros log start.lid (start.lid / size * size + size)

-- so it is with the file of a log that stands there
abbrev pub NothingStaleAt : ℕ → LogStatus → List ℕ → Type 0
NothingStaleAt size s log = HasNothingStale size s.machine s.waiting s.start log

-- and with that of a log over its device
abbrev pub NothingStale : {D C : Type 0} → (D → Trace) → Log D C → Type 0
NothingStale trace log =
    HasNothingStale (segment_size_of log) (machine_at log) (spans (waiting_of log)) (start_of log) (state_of (trace (device_of log))).log.bytes
