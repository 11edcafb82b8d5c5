-- So far: the slots below this one that are not in use were filled, and the lowest of them is known.
use Rattle.std.proofs.Common.{◌≡◌, map, is_some}
use Rattle.std.specs.Ordering.{nat_cmp}
use Rattle.std.specs.BTreeMap.{get}
use Rattle.sled_store.specs.Script.{after_all}
use Rattle.sled_store.specs.Begin.{not_below, fill, first_of}
use Rattle.sled_store.proofs.segment.start.write_unused.Given as goal

abbrev pub invariant-loop-slot : goal.invariant-loop-slot
invariant-loop-slot g l =
    record {
      first : l.first ≡ first_of (not_below (λ k. is_some (get nat_cmp l.table.held k)) l.slot);
      trace : g.D.Device.trace l.config.device ≡ after_all (map (fill l.fn.config.config.segment_size) (not_below (λ k. is_some (get nat_cmp l.table.held k)) l.slot)) (g.D.Device.trace l.fn.config.device);
      faults : g.D.Device.faults l.config.device ≡ g.D.Device.faults l.fn.config.device;
      config : l.config.config ≡ l.fn.config.config;
      checksum : l.config.checksum ≡ l.fn.config.checksum;
    }
