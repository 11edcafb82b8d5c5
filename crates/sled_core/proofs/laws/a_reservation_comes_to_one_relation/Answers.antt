use Rattle.sled_core.proofs.PublicLaws.{reserves_as}
use Rattle.sled_core.proofs.laws.a_reservation_comes_to_one_relation.Goals as goal

pub returns : goal.returns
returns g c = reserves_as g.D.Device.trace g.D.Device.faults g.C.Checksum.sum_of
