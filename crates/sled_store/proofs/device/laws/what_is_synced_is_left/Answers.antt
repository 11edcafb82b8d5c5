-- Where all is synced a crash leaves what is read.
use Rattle.sled_store.proofs.Crashes.SyncedLemmas.{synced_left}
use Rattle.sled_store.proofs.device.laws.what_is_synced_is_left.Goals as goal

pub returns : goal.returns
returns c = synced_left
