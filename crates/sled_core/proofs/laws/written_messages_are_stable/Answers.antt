use Rattle.sled_core.proofs.PublicLaws.{written_past}
use Rattle.sled_core.proofs.laws.written_messages_are_stable.Goals as goal

pub returns : goal.returns
returns g c = λ log H written. written_past g.D.Device.trace g.C.Checksum.sum_of log H written
