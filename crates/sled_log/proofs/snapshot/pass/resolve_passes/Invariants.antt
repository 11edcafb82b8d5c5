use Rattle.std.proofs.Common.{◌≡◌, ◌++◌, ◌^◌, ◌<◌, Option, drop, take, length, map}
use Rattle.std.specs.List.{All}
use Rattle.sled_codec.specs.declared.result.DiskPtr.{DiskPtr}
use Rattle.sled_store.specs.Device.{state_of}
use Rattle.sled_log.specs.Recovery.{NamesKind, resolved_scan}
use Rattle.sled_log.specs.Passes.{MeetsBadPass, NamesBadPass, pass_of}
use Rattle.sled_log.proofs.snapshot.pass.resolve_passes.Given as goal

-- those so far have their blobs, and what is left is as it was; the device was only read
abbrev pub invariant-loop-i : goal.invariant-loop-i
invariant-loop-i g l =
    record {
      passes : map pass_of (take l.i l.passes) ++ map (resolved_scan (state_of (g.D.Device.trace l.fn.config.device)).blobs.file l.end) (map pass_of (drop l.i l.passes))
          ≡ map (resolved_scan (state_of (g.D.Device.trace l.fn.config.device)).blobs.file l.end) (map pass_of l.fn.passes);
      left : MeetsBadPass g.C.Checksum.sum_of (state_of (g.D.Device.trace l.fn.config.device)).blobs.file l.end (map pass_of l.fn.passes)
          → MeetsBadPass g.C.Checksum.sum_of (state_of (g.D.Device.trace l.fn.config.device)).blobs.file l.end (map pass_of (drop l.i l.passes));
      names : (at : Option DiskPtr) → NamesBadPass g.C.Checksum.sum_of (state_of (g.D.Device.trace l.fn.config.device)).blobs.file l.end (map pass_of (drop l.i l.passes)) at
          → NamesBadPass g.C.Checksum.sum_of (state_of (g.D.Device.trace l.fn.config.device)).blobs.file l.end (map pass_of l.fn.passes) at;
      kinds : All (λ p. All (λ m. NamesKind m.what) p.scan.met.items) (drop l.i l.passes);
      long : length l.passes ≡ l.i-end;
      end : l.end < 2 ^ 63;
      trace : g.D.Device.trace l.config.device ≡ g.D.Device.trace l.fn.config.device;
      faults : g.D.Device.faults l.config.device ≡ g.D.Device.faults l.fn.config.device;
      config : l.config.config ≡ l.fn.config.config;
      checksum : l.config.checksum ≡ l.fn.config.checksum;
    }
