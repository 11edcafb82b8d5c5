use Rattle.sled_core.proofs.PublicLaws.{named_spared}
use Rattle.sled_core.proofs.laws.no_write_removes_what_may_be_named.Goals as goal

pub returns : goal.returns
returns g c = λ log H A f U m fits may. named_spared g.D.Device.trace g.C.Checksum.sum_of log H A f U m fits may
