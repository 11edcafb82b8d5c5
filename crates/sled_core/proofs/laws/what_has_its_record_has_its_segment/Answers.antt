use Rattle.sled_core.proofs.PublicLaws.{still_there}
use Rattle.sled_core.proofs.laws.what_has_its_record_has_its_segment.Goals as goal

pub returns : goal.returns
returns g c = λ log H A f U m fits there has. still_there g.D.Device.trace g.C.Checksum.sum_of log H A f U m fits there has
