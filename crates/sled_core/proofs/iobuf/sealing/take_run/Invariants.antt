use Rattle.std.proofs.Common.{◌≡◌, ◌+◌, length}
use Rattle.sled_core.specs.inside.SealedBuffers.{behind_run, run_count, run_end}
use Rattle.sled_core.proofs.iobuf.sealing.take_run.Given as goal

abbrev pub invariant-loop-b : goal.invariant-loop-b
invariant-loop-b l = record {
  left : behind_run l.sealed.items ≡ behind_run l.fn.sealed.items;
  end : run_end l.end l.sealed.items ≡ run_end l.fn.from l.fn.sealed.items;
  count : l.count + run_count l.sealed.items ≡ run_count l.fn.sealed.items;
}

abbrev pub decreases-loop-b : goal.decreases-loop-b
decreases-loop-b l = length l.sealed.items
