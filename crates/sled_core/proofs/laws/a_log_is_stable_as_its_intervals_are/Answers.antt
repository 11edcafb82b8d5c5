use Rattle.sled_core.proofs.PublicLaws.{stable_of_log}
use Rattle.sled_core.proofs.laws.a_log_is_stable_as_its_intervals_are.Goals as goal

pub returns : goal.returns
returns g c = λ log s low. stable_of_log log s low
