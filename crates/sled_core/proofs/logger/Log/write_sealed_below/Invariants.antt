use Rattle.std.proofs.Common.{length}
use Rattle.sled_core.specs.Fits.{waiting_of}
use Rattle.sled_core.specs.Pooled.{PoolsWith}
use Rattle.sled_core.proofs.Line.Advanced.{Advanced}
use Rattle.sled_core.proofs.logger.Log.write_sealed_below.Given as goal

abbrev pub invariant-loop-self : goal.invariant-loop-self
invariant-loop-self g l = record {
  advanced : Advanced g.D.Device.trace g.C.Checksum.sum_of g.D.Device.faults l.to l.fn.self l.self;
  pooled : PoolsWith 0 l.fn.self l.self;
}

abbrev pub decreases-loop-self : goal.decreases-loop-self
decreases-loop-self g l = length (waiting_of l.self)
