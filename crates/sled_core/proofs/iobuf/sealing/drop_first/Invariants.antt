use Rattle.std.proofs.Common.{◌≡◌, drop}
use Rattle.sled_core.proofs.iobuf.sealing.drop_first.Given as goal

abbrev pub invariant-loop-left : goal.invariant-loop-left
invariant-loop-left l = drop l.left l.reserved.items ≡ drop l.count l.fn.reserved.items

abbrev pub decreases-loop-left : goal.decreases-loop-left
decreases-loop-left l = l.left
