-- So far: each byte before this one is the one that is read, or may be lost.
use Rattle.std.proofs.Common.{◌≡◌, ◌<◌, ◌||◌, ◌==◌, ℕ, true, get_or}
use Rattle.sled_store.specs.inside.Memory.{is_unsynced_at}
use Rattle.sled_store.proofs.device.memory.crash.log.are_firm.Given as goal

abbrev pub invariant-loop-i : goal.invariant-loop-i
invariant-loop-i l = (k : ℕ) → k < l.i → is_unsynced_at l.unsynced.items l.cut k || get_or l.offered k 0 == get_or l.bytes.items k 0 ≡ true
