use Rattle.ids.proofs.PublicLaws.{gives_behind}
use Rattle.ids.proofs.laws.a_crash_gives_no_identifier_again.Goals as goal

pub returns : goal.returns
returns g c = λ size n most trace left gives may own. gives_behind g.C.Checksum.sum_of size n most trace left gives may own
