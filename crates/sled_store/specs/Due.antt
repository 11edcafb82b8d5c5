-- What a test asked of a device in memory, and how each of its calls obeys.
use Rattle.std.specs.Prelude.{◌≡◌, ℕ, Bool, Option}
use Rattle.sled_store.specs.declared.device.memory.MemDevice.{MemDevice}
use Rattle.sled_store.specs.Device.{Trace}
use Rattle.sled_store.specs.Stops.{left_to_do}

-- what it did so far
abbrev pub trace_of : MemDevice → Trace
trace_of device = device.story.trace.events

-- which call fails, counted from the next one on; 0 for none
abbrev pub fails_in : MemDevice → ℕ
fails_in device = device.story.faults.fails_in

-- how many calls that change or sync are done before one is stopped within, where one is to be
abbrev pub stops_in : MemDevice → Option ℕ
stops_in device = left_to_do (trace_of device)

-- one was stopped within, and no crash came since
abbrev pub is_stopped : MemDevice → Bool
is_stopped device = device.story.faults.is_stopped

-- these three, each by its value
abbrev pub Awaits : MemDevice → ℕ → Option ℕ → Bool → Type 0
Awaits device fails stops stopped = (fails_in device ≡ fails) × (stops_in device ≡ stops) × (is_stopped device ≡ stopped)
