-- So far: it is in one of the ranges where it is in one of those from here on.
use Rattle.std.proofs.Common.{◌≡◌, drop}
use Rattle.sled_store.specs.inside.Memory.{is_within}
use Rattle.sled_store.proofs.device.memory.crash.log.is_lost.Given as goal

abbrev pub invariant-loop-range : goal.invariant-loop-range
invariant-loop-range l = is_within (drop l.range-index l.unsynced.items) l.at ≡ is_within l.unsynced.items l.at
