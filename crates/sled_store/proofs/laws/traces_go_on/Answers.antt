use Rattle.sled_store.proofs.PublicLaws.{later_same, later_both}
use Rattle.sled_store.proofs.laws.traces_go_on.Goals as goal

pub returns-clause-same : goal.returns-clause-same
returns-clause-same c = later_same

pub returns-clause-both : goal.returns-clause-both
returns-clause-both c = later_both
