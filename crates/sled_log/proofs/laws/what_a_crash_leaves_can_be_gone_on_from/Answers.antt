use Rattle.sled_log.proofs.Sessions.Resumed.{left_by_crash}
use Rattle.sled_log.proofs.laws.what_a_crash_leaves_can_be_gone_on_from.Goals as goal

pub returns : goal.returns
returns g c = λ size a trace left device made can may own is. left_by_crash g.C.Checksum.sum_of size a trace left device made can may own is
