use Rattle.std.proofs.Common.{◌≡◌, map, take}
use Rattle.sled_store.specs.Device.{state_of}
use Rattle.sled_log.specs.Recovery.{HaveGoodBlobs}
use Rattle.sled_log.specs.Passes.{pass_of}
use Rattle.sled_log.proofs.snapshot.tail.check_passes.Given as goal

-- the blobs of those so far are good; the device was only read
abbrev pub invariant-loop-pass : goal.invariant-loop-pass
invariant-loop-pass g l =
    record {
      good : HaveGoodBlobs g.C.Checksum.sum_of (state_of (g.D.Device.trace l.fn.config.device)).blobs.file (map pass_of (take l.pass-index l.passes));
      trace : g.D.Device.trace l.config.device ≡ g.D.Device.trace l.fn.config.device;
      faults : g.D.Device.faults l.config.device ≡ g.D.Device.faults l.fn.config.device;
      config : l.config.config ≡ l.fn.config.config;
      checksum : l.config.checksum ≡ l.fn.config.checksum;
    }
