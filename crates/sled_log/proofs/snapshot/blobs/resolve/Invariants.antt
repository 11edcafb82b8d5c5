use Rattle.std.proofs.Common.{◌≡◌, ◌++◌, ◌^◌, ◌<◌, Option, drop, take, length}
use Rattle.std.specs.List.{All}
use Rattle.sled_codec.specs.declared.result.DiskPtr.{DiskPtr}
use Rattle.sled_store.specs.Device.{state_of}
use Rattle.sled_log.specs.Recovery.{NamesKind, MeetsBadBlob, NamesBadBlob, resolved_before, before_open}
use Rattle.sled_log.proofs.snapshot.blobs.resolve.Given as goal

-- those so far have their blobs, and what is left is as it was; the device was only read
abbrev pub invariant-loop-i : goal.invariant-loop-i
invariant-loop-i g l =
    record {
      met : take l.i l.met ++ resolved_before (state_of (g.D.Device.trace l.fn.config.device)).blobs.file l.end (drop l.i l.met)
          ≡ resolved_before (state_of (g.D.Device.trace l.fn.config.device)).blobs.file l.end l.fn.met;
      left : MeetsBadBlob g.C.Checksum.sum_of (state_of (g.D.Device.trace l.fn.config.device)).blobs.file (before_open l.end l.fn.met)
          → MeetsBadBlob g.C.Checksum.sum_of (state_of (g.D.Device.trace l.fn.config.device)).blobs.file (before_open l.end (drop l.i l.met));
      names : (at : Option DiskPtr) → NamesBadBlob g.C.Checksum.sum_of (state_of (g.D.Device.trace l.fn.config.device)).blobs.file (before_open l.end (drop l.i l.met)) at
          → NamesBadBlob g.C.Checksum.sum_of (state_of (g.D.Device.trace l.fn.config.device)).blobs.file (before_open l.end l.fn.met) at;
      kinds : All (λ m. NamesKind m.what) (drop l.i l.met);
      long : length l.met ≡ l.i-end;
      end : l.end < 2 ^ 63;
      trace : g.D.Device.trace l.config.device ≡ g.D.Device.trace l.fn.config.device;
      faults : g.D.Device.faults l.config.device ≡ g.D.Device.faults l.fn.config.device;
      config : l.config.config ≡ l.fn.config.config;
      checksum : l.config.checksum ≡ l.fn.config.checksum;
    }
