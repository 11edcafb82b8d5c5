use Rattle.std.proofs.Common.{◌≡◌, ◌≤◌, ◌≤ℤ◌, ℤ, List}
use Rattle.std.specs.List.{All}
use Rattle.std.specs.VecDeque.{deque_len, deque_capacity}
use Rattle.sled_core.specs.StableEnds.{AreInOrder, AreWaiting, HasPlaceBefore, end_before}
use Rattle.sled_core.proofs.iobuf.intervals.drop_synced.Given as goal

abbrev pub invariant-loop-batch : goal.invariant-loop-batch
invariant-loop-batch l = record {
  awaits : (bs : List (ℤ × ℤ)) → AreWaiting bs l.end l.fn.batches.items → AreWaiting bs l.end l.batches.items;
  in_order : AreInOrder l.fn.batches.items → AreInOrder l.batches.items;
  rises : AreInOrder l.fn.batches.items → end_before l.end l.fn.batches.items ≤ℤ end_before l.end l.batches.items;
  bounded : All HasPlaceBefore l.fn.batches.items → All HasPlaceBefore l.batches.items;
  fewer : deque_len l.batches ≤ deque_len l.fn.batches;
  room : deque_capacity l.batches ≡ deque_capacity l.fn.batches;
}

abbrev pub decreases-loop-batch : goal.decreases-loop-batch
decreases-loop-batch l = deque_len l.batches
