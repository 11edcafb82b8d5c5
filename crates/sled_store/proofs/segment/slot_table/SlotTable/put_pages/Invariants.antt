-- So far: the entries of the pages up to here are booked, and lie within the limits, and each of these pages was seen.
use Rattle.std.proofs.Common.{◌≢◌, ◌++◌, List, take, map}
use Rattle.std.specs.List.{All}
use Rattle.sled_codec.specs.Snapshots.{Entry, Uninitialized, page_of}
use Rattle.sled_store.specs.Begin.{IsPlacedIn, entries_of}
use Rattle.sled_store.specs.SlotTables.{IsSlotTable}
use Rattle.sled_store.proofs.segment.slot_table.SlotTable.put_pages.Given as goal

abbrev pub invariant-loop-page : goal.invariant-loop-page
invariant-loop-page l =
    record {
      booked : (es : List Entry) → IsSlotTable l.limits.size l.fn.self es → IsSlotTable l.limits.size l.self (es ++ entries_of (take l.page-index (map page_of l.pages)));
      placed : All (IsPlacedIn l.limits.size l.limits.slots l.limits.stable) (entries_of (take l.page-index (map page_of l.pages)));
      seen : All (λ p. p ≢ Uninitialized) (take l.page-index (map page_of l.pages));
    }
