-- So far: the others up to here were removed, and nothing else was done.
use Rattle.std.proofs.Common.{◌≡◌, take}
use Rattle.sled_store.specs.Script.{after_all}
use Rattle.sled_log.specs.WritesBack.{removing_snapshots, others}
use Rattle.sled_log.proofs.snapshot.file.remove_listed.Given as goal

abbrev pub invariant-loop-number : goal.invariant-loop-number
invariant-loop-number g l = record {
  removed : g.D.Device.trace l.device ≡ after_all (removing_snapshots (others l.fn.kept (take l.number-index l.numbers))) (g.D.Device.trace l.fn.device);
  faults : g.D.Device.faults l.device ≡ g.D.Device.faults l.fn.device;
}
