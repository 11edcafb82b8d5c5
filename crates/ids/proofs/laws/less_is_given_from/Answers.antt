use Rattle.ids.proofs.PublicLaws.{gives_less}
use Rattle.ids.proofs.laws.less_is_given_from.Goals as goal

pub returns : goal.returns
returns g c = λ size n less most more device low high gives. gives_less g.C.Checksum.sum_of size n less most more device low high gives
