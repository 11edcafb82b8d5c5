-- One page more at most.
use Rattle.std.proofs.Common.{arith}
use Rattle.std.specs.Ordering.{nat_cmp}
use Rattle.sled_store.proofs.Sorted.SortedLemmas.{length_inserted}
use Rattle.sled_store.proofs.segment.slot.Slot.link.Goals as goal

pub returns-clause-room : goal.returns-clause-room
returns-clause-room c drained = let same = c.insert.ensures.keys in rw same (omega (arith, length_inserted nat_cmp c.args.pid c.args.self.now.pages.0))
