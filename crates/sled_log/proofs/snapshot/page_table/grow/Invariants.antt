use Rattle.std.proofs.Common.{◌≡◌, ◌-◌, ◌≤◌, ◌++◌, length, map, replicate, max}
use Rattle.sled_codec.specs.Snapshots.{Uninitialized, page_of}
use Rattle.sled_log.proofs.snapshot.page_table.grow.Given as goal

-- the new pages are all that came behind the old ones
abbrev pub invariant-loop-pages : goal.invariant-loop-pages
invariant-loop-pages l =
    record {
      pages : map page_of l.pages.items ≡ map page_of l.fn.pages.items ++ replicate (length l.pages.items - length l.fn.pages.items) Uninitialized;
      more : length l.fn.pages.items ≤ length l.pages.items;
      most : length l.pages.items ≤ max l.fn.len (length l.fn.pages.items);
    }

abbrev pub decreases-loop-pages : goal.decreases-loop-pages
decreases-loop-pages l = l.fn.len - length l.pages.items
