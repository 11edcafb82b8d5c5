-- So far: all bytes of the patch may be there where those from here on may.
use Rattle.std.proofs.Common.{◌≡◌, drop, length, true}
use Rattle.sled_store.specs.inside.Memory.{are_in, are_kept}
use Rattle.sled_store.proofs.device.memory.crash.log.is_kept.Given as goal

abbrev pub invariant-loop-p : goal.invariant-loop-p
invariant-loop-p l = record {
  inside : are_in (length l.bytes.items) (drop l.p-index l.patch) ≡ true;
  so_far : are_kept l.unsynced.items l.cut l.bytes.items l.settled.items (drop l.p-index l.patch) ≡ are_kept l.unsynced.items l.cut l.bytes.items l.settled.items l.patch;
}
