use Rattle.sled_core.proofs.PublicLaws.{fits_holds, fits_stable}
use Rattle.sled_core.proofs.laws.a_fitting_log_holds.Goals as goal

pub returns-clause-holds : goal.returns-clause-holds
returns-clause-holds g c = λ log H A f U fits. fits_holds g.D.Device.trace g.C.Checksum.sum_of log H A f U fits

pub returns-clause-acknowledged : goal.returns-clause-acknowledged
returns-clause-acknowledged g c = λ log H A f U fits. fits_stable g.D.Device.trace g.C.Checksum.sum_of log H A f U fits
