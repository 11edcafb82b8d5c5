-- The segment was active, and is among the inactive ones now.
use Rattle.std.proofs.Common.{◌≡◌, ◌∙◌, ℕ, List, refl, sym, ap, subst, arith}
use Rattle.sled_store.specs.SegmentStates.{SlotState, Machine, is_draining, inactive_slot, slot_at}
use Rattle.sled_store.specs.declared.segment.slot.Slot.{Slot}
use Rattle.sled_store.specs.declared.segment.accountant.SegmentAccountant.{SegmentAccountant}
use Rattle.sled_store.specs.Accounts.{slot_state, machine_of, HasRoomToDrain}
use Rattle.sled_store.proofs.Accounts.AccountLemmas.{states_set, updated_account, length_states}
use Rattle.sled_store.proofs.Accounts.HandLemmas.{indexes_same}
use Rattle.sled_store.proofs.Accounts.StabilSlots.{inactive_slots, inactive_indexes, not_draining, slot_is}
use Rattle.sled_store.proofs.segment.accountant.SegmentAccountant.make_inactive.Goals as goal

pub deactivate-requires : goal.deactivate-requires
deactivate-requires c =
    let m : Machine = machine_of c.args.self.now in
    ap (λ (s : SlotState). is_draining s.state) (slot_is c.args.self.now c.args.slot c.index_mut-s.result.now c.requires.slot c.index_mut-s.ensures.value)
    ∙ not_draining c.args.self.now.tip m.slots c.args.slot c.args.place c.requires.slot c.requires.account.slots c.requires.active

pub insert-requires : goal.insert-requires
insert-requires c = omega (arith, c.requires.slot, c.requires.account.rooms.inactive)

now_is : (old new : Slot) (t : SlotState) → slot_state new ≡ inactive_slot (slot_state old) → slot_state old ≡ t → slot_state new ≡ inactive_slot t
now_is old new t is at = is ∙ ap inactive_slot at

pub returns-clause-machine : goal.returns-clause-machine
returns-clause-machine c =
    let a : SegmentAccountant = c.args.self.now in
    let same = states_set a.slots.items c.args.slot c.deactivate.new.self (inactive_slot (slot_at (machine_of a) c.args.slot)) (now_is c.index_mut-s.result.now c.deactivate.new.self (slot_at (machine_of a) c.args.slot) c.deactivate.ensures.state (slot_is a c.args.slot c.index_mut-s.result.now c.requires.slot c.index_mut-s.ensures.value)) in
    λ i. record { slots = same i; tip = a.tip; cleaner = (machine_of a).cleaner }

pub returns-clause-account : goal.returns-clause-account
returns-clause-account c =
    let a : SegmentAccountant = c.args.self.now in
    let k : ℕ = c.args.slot in
    let xs : List SlotState = (machine_of a).slots in
    let room : HasRoomToDrain c.index_mut-s.result.now =
    subst HasRoomToDrain (sym c.index_mut-s.ensures.value) (c.requires.account.room_to_drain k c.index_mut-s.result.now (omega (arith, length_states a.slots.items, c.requires.slot))) in
    updated_account a.size a _ k c.deactivate.new.self (inactive_slot (slot_at (machine_of a) k)) (record {
      size_is = refl;
      items = refl;
      state = now_is c.index_mut-s.result.now c.deactivate.new.self (slot_at (machine_of a) k) c.deactivate.ensures.state (slot_is a k c.index_mut-s.result.now c.requires.slot c.index_mut-s.ensures.value);
      drain = c.deactivate.ensures.room room;
      slots = inactive_slots a.tip xs k c.args.place c.requires.slot c.requires.account.slots c.requires.active;
      indexes = indexes_same _ _ _ _ _ _ _ _ _ _ _ (inactive_indexes a.tip xs k c.args.place c.requires.slot c.requires.account.slots c.requires.active a.free.0 a.active.0 a.inactive.0 a.waiting.0 c.requires.account.indexes)
          refl refl c.remove.ensures.keys c.insert.ensures.keys refl;
      cleaner = c.requires.account.cleaner;
      room_free = omega arith;
      room_active = omega (arith, c.remove.ensures.room);
      room_inactive = c.insert.ensures.room;
      room_waiting = omega arith;
    }) c.requires.account
