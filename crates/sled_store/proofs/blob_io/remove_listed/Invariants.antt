-- So far: the blobs up to here were removed, from that place on, and nothing else was done.
use Rattle.std.proofs.Common.{◌≡◌, take}
use Rattle.sled_store.specs.Blobs.{removing_blobs}
use Rattle.sled_store.specs.inside.Blobs.{from_place}
use Rattle.sled_store.specs.Script.{after_all}
use Rattle.sled_store.proofs.blob_io.remove_listed.Given as goal

abbrev pub invariant-loop-place : goal.invariant-loop-place
invariant-loop-place g l = record {
  removed : g.D.Device.trace l.device ≡ after_all (removing_blobs (from_place l.fn.least (take l.place-index l.places))) (g.D.Device.trace l.fn.device);
  faults : g.D.Device.faults l.device ≡ g.D.Device.faults l.fn.device;
}
