-- So far: what lies outside the ranges still to come is the same in both contents.
use Rattle.std.proofs.Common.{◌≡◌, ℕ, false, length, drop, get_or, vec_capacity}
use Rattle.sled_store.specs.inside.Memory.{is_within}
use Rattle.sled_store.proofs.device.memory.log_file.follow.Given as goal

abbrev pub invariant-loop-range : goal.invariant-loop-range
invariant-loop-range l = record {
  long : length l.settled.items ≡ length l.bytes.items;
  same : (i : ℕ) → is_within (drop l.range-index l.ranges.items) i ≡ false → get_or l.settled.items i 0 ≡ get_or l.bytes.items i 0;
  capacity : vec_capacity l.settled ≡ vec_capacity l.fn.settled;
}
