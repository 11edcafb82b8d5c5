use Rattle.std.proofs.Common.{◌≡◌, ◌-◌, ◌≤◌, List, length}
use Rattle.sled_core.specs.Iterates.{Item, Damage}
use Rattle.sled_core.specs.Ahead.{CanGoOn}
use Rattle.sled_core.specs.inside.Ahead.{IsLeft, most_left}
use Rattle.sled_core.proofs.iterator.rest.Rest.next_met.Given as goal

-- what was left at first is left, of the same segments; the device was only read
abbrev pub invariant-loop-self : goal.invariant-loop-self
invariant-loop-self g l =
    record {
      left : (items : List Item) (damage : Damage) → IsLeft g.D.Device.trace g.C.Checksum.sum_of l.fn.config l.fn.self items damage → IsLeft g.D.Device.trace g.C.Checksum.sum_of l.fn.config l.self items damage;
      fits : CanGoOn l.fn.config.config.segment_size l.self;
      segments : l.self.segments ≡ l.fn.self.segments;
      met : l.self.met ≡ l.fn.self.met;
      end : l.self.end ≡ l.fn.self.end;
      read : l.self.read ≡ l.fn.self.read;
      given : l.fn.self.given ≤ l.self.given;
      damaged : l.self.damaged ≡ l.fn.self.damaged;
      no_more : most_left l.self ≤ most_left l.fn.self;
      trace : g.D.Device.trace l.config.device ≡ g.D.Device.trace l.fn.config.device;
      faults : g.D.Device.faults l.config.device ≡ g.D.Device.faults l.fn.config.device;
      config : l.config.config ≡ l.fn.config.config;
      checksum : l.config.checksum ≡ l.fn.config.checksum;
    }

abbrev pub decreases-loop-self : goal.decreases-loop-self
decreases-loop-self g l = length l.self.met.items - l.self.given
