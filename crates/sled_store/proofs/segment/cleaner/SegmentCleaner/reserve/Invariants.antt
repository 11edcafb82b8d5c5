-- So far: no page is another, and there is no less room.
use Rattle.std.proofs.Common.{◌≡◌, ◌≤◌, ◌-◌, length}
use Rattle.sled_store.specs.Accounts.{cleaner_of}
use Rattle.sled_store.proofs.segment.cleaner.SegmentCleaner.reserve.Given as goal

abbrev pub invariant-loop-self : goal.invariant-loop-self
invariant-loop-self l = record {
  cleaner : cleaner_of l.self ≡ cleaner_of l.fn.self;
  size : l.self.size ≡ l.fn.self.size;
  slots : l.slots ≤ l.self.draining.1;
  draining : l.fn.self.draining.1 ≤ l.self.draining.1;
  entries : length l.fn.self.entries.items ≤ length l.self.entries.items;
}

abbrev pub decreases-loop-self : goal.decreases-loop-self
decreases-loop-self l = l.slots - length l.self.entries.items
