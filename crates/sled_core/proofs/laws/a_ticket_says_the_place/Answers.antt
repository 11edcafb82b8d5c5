use Rattle.sled_core.proofs.PublicLaws.{awaited}
use Rattle.sled_core.proofs.laws.a_ticket_says_the_place.Goals as goal

pub returns : goal.returns
returns g c = λ log ticket m awaits. awaited log ticket m awaits
