-- So far: the leaves are as they were, and each inner node is tied to its children but for the next.
use Rattle.std.proofs.Common.{◌≡◌, ◌≢◌, ◌≤◌, ◌<◌, ◌*◌, ◌+◌, ℕ, length}
use Rattle.sled_store.specs.SlotSets.{mark, IsTied}
use Rattle.sled_store.proofs.segment.slot_set.mark_above.Given as goal

abbrev pub invariant-loop-node : goal.invariant-loop-node
invariant-loop-node l = record {
  len : length l.marks.items ≡ 2 * l.width;
  inner : 2 * l.node + 1 < 2 * l.width;
  others : (i : ℕ) → 0 < i → i < l.width → i ≢ l.node → IsTied l.marks.items i;
  leaves : (i : ℕ) → l.width ≤ i → mark l.marks.items i ≡ mark l.fn.marks.items i;
}

abbrev pub decreases-loop-node : goal.decreases-loop-node
decreases-loop-node l = l.node
