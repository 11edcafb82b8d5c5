use Rattle.std.proofs.Common.{◌≡◌, drop}
use Rattle.sled_store.specs.Device.{state_of}
use Rattle.sled_log.specs.Recovery.{MeetsBadBlob}
use Rattle.sled_log.proofs.snapshot.blobs.check.Given as goal

-- what is bad among all is bad among those that are left; the device was only read
abbrev pub invariant-loop-m : goal.invariant-loop-m
invariant-loop-m g l =
    record {
      left : MeetsBadBlob g.C.Checksum.sum_of (state_of (g.D.Device.trace l.fn.config.device)).blobs.file l.met → MeetsBadBlob g.C.Checksum.sum_of (state_of (g.D.Device.trace l.fn.config.device)).blobs.file (drop l.m-index l.met);
      trace : g.D.Device.trace l.config.device ≡ g.D.Device.trace l.fn.config.device;
      faults : g.D.Device.faults l.config.device ≡ g.D.Device.faults l.fn.config.device;
      config : l.config.config ≡ l.fn.config.config;
      checksum : l.config.checksum ≡ l.fn.config.checksum;
    }
