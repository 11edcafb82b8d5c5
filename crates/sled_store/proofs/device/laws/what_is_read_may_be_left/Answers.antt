-- What is read is among what a crash may leave.
use Rattle.sled_store.proofs.Crashes.SettledLemmas.{read_left}
use Rattle.sled_store.proofs.device.laws.what_is_read_may_be_left.Goals as goal

pub returns : goal.returns
returns c = read_left
