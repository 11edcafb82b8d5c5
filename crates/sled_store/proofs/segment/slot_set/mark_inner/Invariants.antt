-- So far: the leaves are as they were, and each inner node from here on is tied to its children.
use Rattle.std.proofs.Common.{◌≡◌, ◌≤◌, ◌<◌, ◌*◌, ℕ, length}
use Rattle.sled_store.specs.SlotSets.{mark, IsTied}
use Rattle.sled_store.proofs.segment.slot_set.mark_inner.Given as goal

abbrev pub invariant-loop-node : goal.invariant-loop-node
invariant-loop-node l = record {
  len : length l.marks.items ≡ 2 * l.width;
  within : l.node ≤ l.width;
  above : (i : ℕ) → 0 < i → l.node ≤ i → i < l.width → IsTied l.marks.items i;
  leaves : (i : ℕ) → l.width ≤ i → mark l.marks.items i ≡ mark l.fn.marks.items i;
}

abbrev pub decreases-loop-node : goal.decreases-loop-node
decreases-loop-node l = l.node
