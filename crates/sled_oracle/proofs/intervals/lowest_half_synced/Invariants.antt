use Rattle.std.proofs.Common.{take}
use Rattle.sled_oracle.specs.LowestHalf.{IsLowestHalf}
use Rattle.sled_oracle.proofs.intervals.lowest_half_synced.Given as goal

abbrev pub invariant-loop-batch : goal.invariant-loop-batch
invariant-loop-batch l = IsLowestHalf l.end (take l.batch-index l.batches) l.lowest
