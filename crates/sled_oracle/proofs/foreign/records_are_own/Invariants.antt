-- So far: a reader came here, and all records are the log's own where those from here on are.
use Rattle.std.proofs.Common.{length, ◌-◌}
use Rattle.sled_store.specs.Readers.{ReadsTo}
use Rattle.sled_oracle.specs.OwnParts.{AreOwnFrom, past_of, placed_of}
use Rattle.sled_oracle.proofs.foreign.records_are_own.Given as goal

abbrev pub invariant-loop-len : goal.invariant-loop-len
invariant-loop-len g l = record {
  came : ReadsTo g.C.Checksum.sum_of l.size l.number.0 l.slot 20 l.at;
  so_far : AreOwnFrom g.C.Checksum.sum_of l.size (past_of l.past) (placed_of l.past) l.number.0 l.begin l.slot l.at → AreOwnFrom g.C.Checksum.sum_of l.size (past_of l.past) (placed_of l.past) l.number.0 l.begin l.slot 20;
}

abbrev pub decreases-loop-len : goal.decreases-loop-len
decreases-loop-len g l = length l.slot - l.at
