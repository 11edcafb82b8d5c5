-- What is settled is among what a crash may leave.
use Rattle.sled_store.proofs.Crashes.SettledLemmas.{settled_left_too}
use Rattle.sled_store.proofs.device.laws.what_is_settled_may_be_left.Goals as goal

pub returns : goal.returns
returns c = settled_left_too
