-- Nothing is foreign on an empty device.
use Rattle.sled_core.proofs.Crash.OwnLemmas.{nothing_own}
use Rattle.sled_core.proofs.laws.nothing_is_foreign_on_an_empty_device.Goals as goal

pub returns : goal.returns
returns c = nothing_own
