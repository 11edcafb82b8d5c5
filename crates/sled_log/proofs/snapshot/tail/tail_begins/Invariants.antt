use Rattle.std.proofs.Common.{◌≡◌, ◌≤◌, ◌<◌, drop, length}
use Rattle.sled_log.specs.Recovery.{greatest_mark}
use Rattle.sled_log.proofs.snapshot.tail.tail_begins.Given as goal

-- the greatest mark of those that were looked at, from the end on
abbrev pub invariant-loop-i : goal.invariant-loop-i
invariant-loop-i l =
    record {
      greatest : l.greatest ≡ greatest_mark l.fn.least (drop l.i l.segments);
      within : l.i ≤ length l.segments;
      some : 0 < l.fn.size;
    }

abbrev pub decreases-loop-i : goal.decreases-loop-i
decreases-loop-i l = l.i
