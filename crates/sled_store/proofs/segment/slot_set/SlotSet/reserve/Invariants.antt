-- So far: the slots are the same, and there is no less room.
use Rattle.std.proofs.Common.{◌≡◌, ◌≤◌, ◌-◌}
use Rattle.sled_store.proofs.segment.slot_set.SlotSet.reserve.Given as goal

abbrev pub invariant-loop-self : goal.invariant-loop-self
invariant-loop-self l = record {
  keys : l.self.0 ≡ l.fn.self.0;
  room : l.fn.self.1 ≤ l.self.1;
}

abbrev pub decreases-loop-self : goal.decreases-loop-self
decreases-loop-self l = l.slots - l.self.1
