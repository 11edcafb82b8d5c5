-- As long as no mark above the floor joined, what a log has on its device it placed there.
use Rattle.sled_core.proofs.Line.ReadsOwn.{fits_reads_own}
use Rattle.sled_core.proofs.laws.what_a_log_reads_is_its_own.Goals as goal

pub returns : goal.returns
returns g c = λ log H A f U fits none zeros low. fits_reads_own g.D.Device.trace g.C.Checksum.sum_of log H A f U fits none zeros low
