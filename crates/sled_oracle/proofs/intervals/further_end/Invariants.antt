use Rattle.std.proofs.Common.{◌+ℤ◌, pos, take}
use Rattle.std.specs.List.{All}
use Rattle.sled_core.specs.StableEnds.{LiesIn}
use Rattle.sled_oracle.proofs.intervals.further_end.Given as goal

abbrev pub invariant-loop-interval : goal.invariant-loop-interval
invariant-loop-interval l = All (λ i. LiesIn (l.end +ℤ pos 1) i → ⊥) (take l.interval-index l.intervals)
