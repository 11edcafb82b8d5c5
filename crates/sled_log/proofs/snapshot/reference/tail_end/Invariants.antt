use Rattle.std.proofs.Common.{◌≡◌, ◌-◌, ◌^◌, ◌<◌, List, IfSome}
use Rattle.std.specs.List.{Contains}
use Rattle.sled_core.specs.declared.iterator.Segment.{Segment}
use Rattle.sled_store.specs.Device.{state_of}
use Rattle.sled_log.specs.Recovery.{Scanned, IsTailPart, HaveGoodBlobs, tail_end}
use Rattle.sled_log.specs.Passes.{CanBeRead}
use Rattle.sled_log.proofs.snapshot.reference.tail_end.Given as goal

-- the tail up to the place was read
abbrev pub invariant-loop-segment : goal.invariant-loop-segment
invariant-loop-segment g l =
    record {
      read : (before : List Scanned) × IsTailPart g.C.Checksum.sum_of l.fn.config.config.segment_size (state_of (g.D.Device.trace l.fn.config.device)).log.bytes l.segments l.fn.begin before l.place × HaveGoodBlobs g.C.Checksum.sum_of (state_of (g.D.Device.trace l.fn.config.device)).blobs.file before × (tail_end before ≡ l.end);
      ready : (s : Segment) → Contains l.segments s → CanBeRead l.fn.config.config.segment_size (state_of (g.D.Device.trace l.fn.config.device)).log.bytes s;
      small : IfSome l.end (λ end. end < 2 ^ 63);
      size : l.size ≡ l.fn.config.config.segment_size;
      trace : g.D.Device.trace l.config.device ≡ g.D.Device.trace l.fn.config.device;
      faults : g.D.Device.faults l.config.device ≡ g.D.Device.faults l.fn.config.device;
      config : l.config.config ≡ l.fn.config.config;
      checksum : l.config.checksum ≡ l.fn.config.checksum;
    }

abbrev pub decreases-loop-segment : goal.decreases-loop-segment
decreases-loop-segment g l = 2 ^ 63 - l.place
