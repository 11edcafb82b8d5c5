-- So far: a reader came here, and comes to the offset from here, where it does from the first one on.
use Rattle.std.proofs.Common.{ℕ, ◌-◌}
use Rattle.sled_store.specs.Foreign.{IsReached}
use Rattle.sled_oracle.proofs.foreign.readers.is_reached.Given as goal

abbrev pub invariant-loop-here : goal.invariant-loop-here
invariant-loop-here g l = record {
  came : (size : ℕ) → IsReached g.C.Checksum.sum_of size l.number.0 l.text l.first l.here;
  goes_on : (size : ℕ) → IsReached g.C.Checksum.sum_of size l.number.0 l.text l.first l.at → IsReached g.C.Checksum.sum_of size l.number.0 l.text l.here l.at;
}

abbrev pub decreases-loop-here : goal.decreases-loop-here
decreases-loop-here g l = l.at - l.here
