use Rattle.std.proofs.Common.{◌≡◌, ◌≤◌, ◌≤ℤ◌, ℤ, List}
use Rattle.std.specs.BinaryHeap.{IsHeap, heap_items, heap_len, heap_capacity}
use Rattle.sled_core.specs.StableEnds.{Reaches, turned}
use Rattle.sled_core.specs.inside.StableEnds.{lowest_first}
use Rattle.sled_core.proofs.iobuf.intervals.take_in.Given as goal

abbrev pub invariant-loop-further : goal.invariant-loop-further
invariant-loop-further l = record {
  ordered : IsHeap lowest_first (heap_items l.ahead);
  reaches : (s : ℤ) (is : List (ℤ × ℤ)) → Reaches s is l.from (turned (heap_items l.fn.ahead)) → Reaches s is l.end (turned (heap_items l.ahead));
  forward : l.from ≤ℤ l.end;
  fewer : heap_len l.ahead ≤ heap_len l.fn.ahead;
  room : heap_capacity l.ahead ≡ heap_capacity l.fn.ahead;
}

abbrev pub decreases-loop-further : goal.decreases-loop-further
decreases-loop-further l = heap_len l.ahead
