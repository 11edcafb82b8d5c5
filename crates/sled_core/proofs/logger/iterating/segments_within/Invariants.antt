use Rattle.std.proofs.Common.{◌≡◌, ◌-◌, ◌≤◌, All, take, length}
use Rattle.sled_store.specs.Accounts.{machine_of}
use Rattle.sled_core.specs.Ahead.{HasEnds}
use Rattle.sled_core.specs.LogSegments.{segments_among}
use Rattle.sled_core.proofs.logger.iterating.segments_within.Given as goal

-- what was collected are the segments of the slots so far
abbrev pub invariant-loop-slot : goal.invariant-loop-slot
invariant-loop-slot l =
    record {
      are : l.segments.items ≡ segments_among l.fn.size l.fn.from l.fn.to 0 (take l.slot (machine_of l.fn.accountant).slots);
      ends : All (HasEnds l.fn.size) l.segments.items;
      within : l.slot ≤ length (machine_of l.fn.accountant).slots;
    }

abbrev pub decreases-loop-slot : goal.decreases-loop-slot
decreases-loop-slot l = l.count - l.slot
