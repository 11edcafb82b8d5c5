-- So far: the slots below this one are noted.
use Rattle.std.proofs.Common.{◌≡◌, length, map, take}
use Rattle.sled_store.specs.Accounts.{slot_state, HasRooms}
use Rattle.sled_store.specs.inside.Starting.{AreNoted}
use Rattle.sled_store.proofs.segment.accountant.SegmentAccountant.note_all.Given as goal

abbrev pub invariant-loop-slot : goal.invariant-loop-slot
invariant-loop-slot l = record {
  noted : AreNoted (take l.slot (map slot_state l.fn.self.slots.items)) l.self.free.0 l.self.active.0 l.self.inactive.0;
  room : HasRooms (length l.fn.self.slots.items) l.self;
  rest : l.self ≡ record l.fn.self { free = l.self.free; active = l.self.active; inactive = l.self.inactive };
}
