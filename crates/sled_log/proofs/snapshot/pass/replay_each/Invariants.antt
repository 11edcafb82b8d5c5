use Rattle.std.proofs.Common.{◌≡◌, ◌≤◌, false}
use Rattle.sled_store.specs.Device.{state_of}
use Rattle.sled_log.specs.Passes.{FitsStop}
use Rattle.sled_log.proofs.Passes.SoFar.{IsPassSoFar}
use Rattle.sled_log.proofs.snapshot.pass.replay_each.Given as goal

-- the pass over the segments so far; the device was only read
abbrev pub invariant-loop-segment : goal.invariant-loop-segment
invariant-loop-segment g l =
    record {
      so_far : IsPassSoFar g.C.Checksum.sum_of l.fn.config.config.segment_size (state_of (g.D.Device.trace l.fn.config.device)).log.bytes (state_of (g.D.Device.trace l.fn.config.device)).blobs.file l.fn.end l.segments l.fn.replay l.segment-index l.bad_blob l.replay;
      stop : FitsStop l.fn.config.config.segment_size l.fn.replay.stop → FitsStop l.fn.config.config.segment_size l.replay.stop;
      count : l.replay.count ≤ l.segment-index;
      closed : l.replay.is_open ≡ false;
      trace : g.D.Device.trace l.config.device ≡ g.D.Device.trace l.fn.config.device;
      faults : g.D.Device.faults l.config.device ≡ g.D.Device.faults l.fn.config.device;
      config : l.config.config ≡ l.fn.config.config;
      checksum : l.config.checksum ≡ l.fn.config.checksum;
    }
