use Rattle.sled_log.proofs.PublicLaws.{none_made, orderly_added, orderly_below}
use Rattle.sled_log.proofs.laws.histories_stay_orderly.Goals as goal

pub returns-clause-none : goal.returns-clause-none
returns-clause-none c = none_made.orderly

pub returns-clause-added : goal.returns-clause-added
returns-clause-added c = orderly_added

pub returns-clause-below : goal.returns-clause-below
returns-clause-below c = orderly_below
