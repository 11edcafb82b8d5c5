use Rattle.sled_core.proofs.Stable.OneEnd.{one_contiguous, one_stable}
use Rattle.sled_core.proofs.laws.there_is_one_stable_end.Goals as goal

pub returns-clause-contiguous : goal.returns-clause-contiguous
returns-clause-contiguous c = one_contiguous

pub returns-clause-stable : goal.returns-clause-stable
returns-clause-stable c = one_stable
