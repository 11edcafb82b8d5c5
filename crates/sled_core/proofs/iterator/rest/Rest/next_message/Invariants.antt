use Rattle.std.proofs.Common.{◌≡◌, ◌-◌, ◌≤◌, List, length}
use Rattle.sled_core.specs.Iterates.{Item, Damage}
use Rattle.sled_core.specs.Ahead.{CanGoOn}
use Rattle.sled_core.specs.inside.Ahead.{IsLeft, IsSpent, most_left}
use Rattle.sled_core.proofs.iterator.rest.Rest.next_message.Given as goal

-- what was left at first is left; the device was only read
abbrev pub invariant-loop-message : goal.invariant-loop-message
invariant-loop-message g l =
    record {
      left : (items : List Item) (damage : Damage) → IsLeft g.D.Device.trace g.C.Checksum.sum_of l.fn.config l.fn.self items damage → IsLeft g.D.Device.trace g.C.Checksum.sum_of l.fn.config l.self items damage;
      fits : CanGoOn l.fn.config.config.segment_size l.self;
      spent : IsSpent l.fn.self → IsSpent l.self;
      no_more : most_left l.self ≤ most_left l.fn.self;
      trace : g.D.Device.trace l.config.device ≡ g.D.Device.trace l.fn.config.device;
      faults : g.D.Device.faults l.config.device ≡ g.D.Device.faults l.fn.config.device;
      config : l.config.config ≡ l.fn.config.config;
      checksum : l.config.checksum ≡ l.fn.config.checksum;
    }

abbrev pub decreases-loop-message : goal.decreases-loop-message
decreases-loop-message g l = length l.self.segments.items - l.self.read
