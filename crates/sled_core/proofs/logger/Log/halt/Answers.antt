use Rattle.sled_core.proofs.Line.NumbersKept.{fits_leaves}
use Rattle.sled_core.proofs.logger.Log.halt.Goals as goal

pub returns-clause-recoverable : goal.returns-clause-recoverable
returns-clause-recoverable g c = λ H A f U fits. fits_leaves g.D.Device.trace g.C.Checksum.sum_of c.args.self H A f U fits
