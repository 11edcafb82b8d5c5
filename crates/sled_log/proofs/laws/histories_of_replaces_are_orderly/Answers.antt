use Rattle.sled_log.proofs.PublicLaws.{orderly, none_orderly, completed, forgotten}
use Rattle.sled_log.proofs.laws.histories_of_replaces_are_orderly.Goals as goal

pub returns-clause-orderly : goal.returns-clause-orderly
returns-clause-orderly c = orderly

pub returns-clause-none : goal.returns-clause-none
returns-clause-none c = none_orderly

pub returns-clause-completed : goal.returns-clause-completed
returns-clause-completed c = completed

pub returns-clause-below : goal.returns-clause-below
returns-clause-below c = forgotten
