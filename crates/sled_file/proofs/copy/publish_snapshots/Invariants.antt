-- Nothing was asked of the log file.
use Rattle.sled_store.specs.Device.{state_of}
use Rattle.sled_file.specs.Copies.{LogStays}
use Rattle.sled_file.proofs.copy.publish_snapshots.Given as goal

abbrev pub invariant-loop-number : goal.invariant-loop-number
invariant-loop-number g l = LogStays (state_of (g.D.Device.trace l.fn.device)) (state_of (g.D.Device.trace l.device))
