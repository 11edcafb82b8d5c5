-- Where nothing in the file of a log is stale, what the log has on its device it placed there.
use Rattle.sled_core.proofs.Line.ReadsOwn.{fits_reads_own_unless_stale}
use Rattle.sled_core.proofs.laws.what_a_log_reads_is_its_own_unless_stale.Goals as goal

pub returns : goal.returns
returns g c = λ log H A f U fits none zeros none_stale.
    fits_reads_own_unless_stale g.D.Device.trace g.C.Checksum.sum_of log H A f U fits none zeros none_stale
