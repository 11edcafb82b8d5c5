-- A sync makes nothing foreign.
use Rattle.sled_core.proofs.Crash.OwnLemmas.{synced_own}
use Rattle.sled_core.proofs.laws.nothing_becomes_foreign_by_a_sync.Goals as goal

pub returns : goal.returns
returns c = synced_own
