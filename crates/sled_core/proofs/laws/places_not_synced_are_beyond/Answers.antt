use Rattle.sled_core.proofs.Stable.OneEnd.{uncovered_beyond}
use Rattle.sled_core.proofs.laws.places_not_synced_are_beyond.Goals as goal

pub returns : goal.returns
returns c = uncovered_beyond
