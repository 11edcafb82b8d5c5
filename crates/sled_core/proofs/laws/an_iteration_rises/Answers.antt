-- What is given of segments one behind another has ever greater places.
use Rattle.sled_core.proofs.Iterated.AnyBytes.{bytes_rise}
use Rattle.sled_core.proofs.Iterated.Rising.{found_follow, iteration_rises, log_follows}
use Rattle.sled_core.proofs.laws.an_iteration_rises.Goals as goal

pub returns : goal.returns
returns g c = record {
  rises = λ sum size log blobs end strict low ss items damage follow read gives.
      iteration_rises sum size log blobs end strict low ss items damage follow read gives;
  bytes = λ sum size log blobs end strict low ss items damage bytes follow gives.
      bytes_rise sum size log blobs end strict low ss items damage bytes follow gives;
  found = λ sum size log least end ordering some is. found_follow sum size log least end ordering some is;
  of_log = λ log H A f U from to ss fits are. log_follows g.D.Device.trace g.C.Checksum.sum_of log H A f U fits from to ss are;
}
