-- How a device in memory keeps to the stop that was asked for.
use Rattle.std.specs.Prelude.{◌≡◌, false}
use Rattle.sled_store.specs.declared.device.memory.faults.Faults.{Faults}
use Rattle.sled_store.specs.Device.{Trace}
use Rattle.sled_store.specs.Stops.{KeepsToStop, left_to_do}

-- while it isn't stopped, it knows how many calls are left to be done
abbrev pub FollowsStop : Faults → Trace → Type 0
FollowsStop faults h = KeepsToStop h faults.is_stopped × (faults.is_stopped ≡ false → faults.stops_after ≡ left_to_do h)
