-- So far: each slot before this one is the log's own.
use Rattle.std.proofs.Common.{ℕ, ◌<◌}
use Rattle.sled_oracle.specs.OwnParts.{IsOwnSlot, past_of, placed_of}
use Rattle.sled_oracle.proofs.foreign.slots_are_own.Given as goal

abbrev pub invariant-loop-slot : goal.invariant-loop-slot
invariant-loop-slot g l = (k : ℕ) → k < l.slot → IsOwnSlot g.C.Checksum.sum_of l.size (past_of l.past) (placed_of l.past) l.log k
