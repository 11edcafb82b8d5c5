use Rattle.std.proofs.Common.{◌≡◌, ◌+◌, ◌-◌, ◌^◌, ◌%◌, ◌<◌, length}
use Rattle.sled_store.specs.Device.{state_of}
use Rattle.sled_log.specs.Ordering.{AreCollected}
use Rattle.sled_log.proofs.snapshot.ordering.collect_segments.Given as goal

-- the segments of the slots so far were collected
abbrev pub invariant-loop-slot : goal.invariant-loop-slot
invariant-loop-slot g l =
    record {
      collected : AreCollected g.C.Checksum.sum_of l.fn.config.config.segment_size (state_of (g.D.Device.trace l.fn.config.device)).log.bytes l.fn.least l.segments.items l.slot;
      aligned : l.slot % l.fn.config.config.segment_size ≡ 0;
      len : l.len ≡ length (state_of (g.D.Device.trace l.fn.config.device)).log.bytes;
      size : l.size ≡ l.fn.config.config.segment_size;
      small : l.len + l.size < 2 ^ 63;
      trace : g.D.Device.trace l.config.device ≡ g.D.Device.trace l.fn.config.device;
      faults : g.D.Device.faults l.config.device ≡ g.D.Device.faults l.fn.config.device;
      config : l.config.config ≡ l.fn.config.config;
      checksum : l.config.checksum ≡ l.fn.config.checksum;
    }

abbrev pub decreases-loop-slot : goal.decreases-loop-slot
decreases-loop-slot g l = l.len - l.slot
