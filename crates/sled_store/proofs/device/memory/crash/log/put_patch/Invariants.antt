-- So far: the rest of the patch makes of these bytes what all of it makes of the first ones.
use Rattle.std.proofs.Common.{◌≡◌, drop, length, vec_capacity, true}
use Rattle.sled_store.specs.Device.{patched}
use Rattle.sled_store.specs.inside.Memory.{are_in}
use Rattle.sled_store.proofs.device.memory.crash.log.put_patch.Given as goal

abbrev pub invariant-loop-p : goal.invariant-loop-p
invariant-loop-p l = record {
  inside : are_in (length l.fn.bytes.items) (drop l.p-index l.patch) ≡ true;
  so_far : patched l.bytes.items (drop l.p-index l.patch) ≡ patched l.fn.bytes.items l.patch;
  long : length l.bytes.items ≡ length l.fn.bytes.items;
  capacity : vec_capacity l.bytes ≡ vec_capacity l.fn.bytes;
}
