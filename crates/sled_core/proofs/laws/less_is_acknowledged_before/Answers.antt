use Rattle.sled_core.proofs.PublicLaws.{ready_with_less}
use Rattle.sled_core.proofs.laws.less_is_acknowledged_before.Goals as goal

pub returns : goal.returns
returns g c = λ size device s H A less f le ready. ready_with_less g.C.Checksum.sum_of size device s H A less f le ready
