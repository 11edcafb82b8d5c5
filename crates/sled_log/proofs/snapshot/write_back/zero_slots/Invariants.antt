-- So far: the slots up to here were overwritten, and nothing else was done.
use Rattle.std.proofs.Common.{◌≡◌, length, take}
use Rattle.sled_store.specs.Script.{after_all}
use Rattle.sled_log.specs.WritesBack.{zeroing}
use Rattle.sled_log.proofs.snapshot.write_back.zero_slots.Given as goal

abbrev pub invariant-loop-slot : goal.invariant-loop-slot
invariant-loop-slot g l = record {
  zeroed : g.D.Device.trace l.device ≡ after_all (zeroing (length l.fn.zeros) (take l.slot-index l.slots)) (g.D.Device.trace l.fn.device);
  faults : g.D.Device.faults l.device ≡ g.D.Device.faults l.fn.device;
}
