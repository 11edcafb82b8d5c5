use Rattle.ids.proofs.PublicLaws.{generates_gives}
use Rattle.ids.proofs.laws.a_generator_gives_from_its_bound.Goals as goal

pub returns : goal.returns
returns g c = λ generator generates. generates_gives g.D.Device.trace g.C.Checksum.sum_of generator generates
