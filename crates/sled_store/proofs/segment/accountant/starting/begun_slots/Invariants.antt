-- So far: the slots below this one are begun.
use Rattle.std.proofs.Common.{◌≡◌, map}
use Rattle.std.specs.BTreeMap.{get}
use Rattle.std.specs.List.{All, range_with_len}
use Rattle.std.specs.Ordering.{nat_cmp}
use Rattle.sled_store.specs.Accounts.{slot_state, HasRoomToDrain}
use Rattle.sled_store.specs.inside.Starting.{begun_slot}
use Rattle.sled_store.proofs.segment.accountant.starting.begun_slots.Given as goal

abbrev pub invariant-loop-slot : goal.invariant-loop-slot
invariant-loop-slot l = record {
  slots : map slot_state l.begun.items ≡ map (λ k. begun_slot l.size l.active k (get nat_cmp l.table.held k)) (range_with_len 0 l.slot);
  room : All HasRoomToDrain l.begun.items;
}
