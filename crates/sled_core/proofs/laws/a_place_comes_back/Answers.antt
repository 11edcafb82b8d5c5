use Rattle.sled_core.proofs.PublicLaws.{place_back}
use Rattle.sled_core.proofs.laws.a_place_comes_back.Goals as goal

pub returns : goal.returns
returns c = place_back
