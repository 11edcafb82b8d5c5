-- What is left to be linked, from here on, ends where all of it does.
use Rattle.std.proofs.Common.{◌≡◌, length, map, drop}
use Rattle.std.specs.List.{All}
use Rattle.sled_store.specs.Accounts.{slot_state, HasRoomToDrain}
use Rattle.sled_store.specs.inside.Starting.{entries_linked}
use Rattle.sled_store.proofs.segment.accountant.starting.link_all.Given as goal

abbrev pub invariant-loop-entry : goal.invariant-loop-entry
invariant-loop-entry l = record {
  slots : entries_linked l.size l.pid (drop l.entry-index l.entries) (map slot_state l.slots.items) ≡ entries_linked l.size l.pid l.entries (map slot_state l.fn.slots.items);
  count : length l.slots.items ≡ length l.fn.slots.items;
  room : All HasRoomToDrain l.slots.items;
}
