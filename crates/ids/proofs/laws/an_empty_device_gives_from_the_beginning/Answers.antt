use Rattle.ids.proofs.PublicLaws.{gives_first}
use Rattle.ids.proofs.laws.an_empty_device_gives_from_the_beginning.Goals as goal

pub returns : goal.returns
returns g c = λ size large small. gives_first g.C.Checksum.sum_of size large small
