-- So far: all names ascend where those from the one before on do.
use Rattle.std.proofs.Common.{◌≡◌, ◌<◌, ◌-◌, drop, length}
use Rattle.sled_store.specs.Chosen.{are_ascending}
use Rattle.sled_store.specs.Noted.{files_of}
use Rattle.sled_store.proofs.device.memory.crash.offer.is_ascending.Given as goal

abbrev pub invariant-loop-i : goal.invariant-loop-i
invariant-loop-i l = record {
  some : 0 < l.i;
  so_far : are_ascending (files_of (drop (l.i - 1) l.files.items)) ≡ are_ascending (files_of l.files.items);
}

abbrev pub decreases-loop-i : goal.decreases-loop-i
decreases-loop-i l = length l.files.items - l.i
