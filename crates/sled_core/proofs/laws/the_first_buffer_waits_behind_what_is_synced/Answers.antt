use Rattle.sled_core.proofs.PublicLaws.{first_waits, synced_as_first}
use Rattle.sled_core.proofs.laws.the_first_buffer_waits_behind_what_is_synced.Goals as goal

pub returns-clause-first : goal.returns-clause-first
returns-clause-first g c = λ log. first_waits log

pub returns-clause-same : goal.returns-clause-same
returns-clause-same g c = λ old new waiting start. synced_as_first old new waiting start
