-- What is left to be linked, from here on, ends where all of it does.
use Rattle.std.proofs.Common.{◌≡◌, length, map, drop}
use Rattle.std.specs.List.{All}
use Rattle.sled_codec.specs.Snapshots.{page_of}
use Rattle.sled_store.specs.Accounts.{slot_state, HasRoomToDrain}
use Rattle.sled_store.specs.inside.Starting.{pages_linked}
use Rattle.sled_store.proofs.segment.accountant.starting.link_pages.Given as goal

abbrev pub invariant-loop-pid : goal.invariant-loop-pid
invariant-loop-pid l = record {
  slots : pages_linked l.size l.pid (drop l.pid (map page_of l.pages)) (map slot_state l.slots.items) ≡ pages_linked l.size 0 (map page_of l.pages) (map slot_state l.fn.slots.items);
  count : length l.slots.items ≡ length l.fn.slots.items;
  room : All HasRoomToDrain l.slots.items;
}
