use Rattle.sled_core.proofs.PublicLaws.{fits_leaves}
use Rattle.sled_core.proofs.laws.a_crash_now_loses_nothing.Goals as goal

pub returns : goal.returns
returns g c = λ log H A f U fits. fits_leaves g.D.Device.trace g.C.Checksum.sum_of log H A f U fits
