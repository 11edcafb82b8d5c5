use Rattle.sled_core.proofs.PublicLaws.{writing_pinned}
use Rattle.sled_core.proofs.laws.a_pin_keeps_all.Goals as goal

pub returns : goal.returns
returns g c = λ old new out keeps. writing_pinned g.D.Device.trace g.C.Checksum.sum_of old new out keeps
