-- Nothing is asked of what is read that isn't asked where nothing is foreign.
use Rattle.sled_core.proofs.Blobs.FirmContent.{only_own}
use Rattle.sled_core.proofs.laws.what_is_not_foreign_is_the_logs_own.Goals as goal

pub returns : goal.returns
returns c = only_own
