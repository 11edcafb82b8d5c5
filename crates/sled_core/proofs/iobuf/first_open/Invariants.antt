use Rattle.std.proofs.Common.{length, ◌-◌, ◌≡◌, drop}
use Rattle.sled_core.specs.Buffers.{first_open_in}
use Rattle.sled_core.proofs.iobuf.first_open.Given as goal

abbrev pub invariant-loop-i : goal.invariant-loop-i
invariant-loop-i l = first_open_in (drop l.from l.reserved.items) ≡ first_open_in (drop l.i l.reserved.items)

abbrev pub decreases-loop-i : goal.decreases-loop-i
decreases-loop-i l = length l.reserved.items - l.i
