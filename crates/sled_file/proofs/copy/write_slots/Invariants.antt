-- So far: the slots below an offset were written.
use Rattle.std.proofs.Common.{length, ◌-◌, ◌≡◌, ◌<◌, ◌%◌, ◌≤◌}
use Rattle.sled_store.specs.Device.{state_of}
use Rattle.sled_file.specs.Copies.{HasSlots}
use Rattle.sled_file.proofs.copy.write_slots.Given as goal

abbrev pub invariant-loop-at : goal.invariant-loop-at
invariant-loop-at g l =
    record {
      within : l.at ≤ length l.bytes;
      begins : l.at < length l.bytes → l.at % l.size ≡ 0;
      has : HasSlots l.size l.bytes l.at (state_of (g.D.Device.trace l.device));
    }

abbrev pub decreases-loop-at : goal.decreases-loop-at
decreases-loop-at g l = length l.bytes - l.at
