use Rattle.std.proofs.Common.{◌≤ℤ◌, ◌^◌, pos}
use Rattle.std.specs.Int.{int_gap}
use Rattle.sled_core.specs.StableEnds.{Covers}
use Rattle.sled_oracle.proofs.intervals.contiguous_end_of.Given as goal

abbrev pub invariant-loop-further : goal.invariant-loop-further
invariant-loop-further l = record {
  not_below : l.start ≤ℤ l.end;
  covered : Covers l.start l.intervals l.end;
}

abbrev pub decreases-loop-further : goal.decreases-loop-further
decreases-loop-further l = int_gap l.end (pos (2 ^ 63))
