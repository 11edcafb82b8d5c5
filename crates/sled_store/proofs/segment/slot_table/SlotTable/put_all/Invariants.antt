-- So far: the entries up to here are booked, and lie within the limits.
use Rattle.std.proofs.Common.{◌++◌, List, take}
use Rattle.std.specs.List.{All}
use Rattle.sled_codec.specs.Snapshots.{Entry}
use Rattle.sled_store.specs.Begin.{IsPlacedIn}
use Rattle.sled_store.specs.SlotTables.{IsSlotTable}
use Rattle.sled_store.proofs.segment.slot_table.SlotTable.put_all.Given as goal

abbrev pub invariant-loop-entry : goal.invariant-loop-entry
invariant-loop-entry l =
    record {
      booked : (es : List Entry) → IsSlotTable l.limits.size l.fn.self es → IsSlotTable l.limits.size l.self (es ++ take l.entry-index l.entries);
      placed : All (IsPlacedIn l.limits.size l.limits.slots l.limits.stable) (take l.entry-index l.entries);
    }
