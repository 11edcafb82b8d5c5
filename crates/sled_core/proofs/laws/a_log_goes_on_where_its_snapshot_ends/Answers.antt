use Rattle.sled_core.proofs.PublicLaws.{ready_place}
use Rattle.sled_core.proofs.laws.a_log_goes_on_where_its_snapshot_ends.Goals as goal

pub returns : goal.returns
returns g c = λ size device s H A f some ready. ready_place g.C.Checksum.sum_of size device s H A f some ready
