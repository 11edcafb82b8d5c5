use Rattle.sled_core.proofs.PublicLaws.{unchanged_ended}
use Rattle.sled_core.proofs.laws.an_unchanged_log_has_none_open.Goals as goal

pub returns : goal.returns
returns g c = λ old new unchanged ended. unchanged_ended old new unchanged ended
