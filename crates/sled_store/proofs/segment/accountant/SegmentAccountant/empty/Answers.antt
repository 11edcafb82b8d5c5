-- The slot is free now, and no list has it but that of the free ones.
use Rattle.std.proofs.Common.{◌≡◌, ◌∙◌, ℕ, List, length, refl, ap, arith, inr}
use Rattle.sled_store.specs.SegmentStates.{SlotState, Machine, free_slot}
use Rattle.sled_store.specs.inside.Stabilizing.{not_beside}
use Rattle.sled_store.specs.declared.segment.accountant.SegmentAccountant.{SegmentAccountant}
use Rattle.sled_store.specs.Accounts.{machine_of}
use Rattle.sled_store.proofs.Accounts.AccountLemmas.{states_set, updated_account}
use Rattle.sled_store.proofs.Accounts.HandLemmas.{indexes_same}
use Rattle.sled_store.proofs.Accounts.StabilSlots.{emptied_slots, emptied_indexes, free_room, slot_is}
use Rattle.sled_store.proofs.segment.accountant.SegmentAccountant.empty.Goals as goal

pub insert-requires : goal.insert-requires
insert-requires c =
    let a : SegmentAccountant = c.args.self.now in
    inr (free_room a.tip (machine_of a).slots c.args.slot c.requires.slot c.requires.account.slots c.requires.done a.free.0 c.requires.account.indexes.free_is a.free.1 c.requires.account.rooms.free)

emptied_is : (xs ys : List SlotState) (tip : ℕ) (c d : List (ℕ × List ℕ)) → xs ≡ ys → c ≡ d → ◌≡◌ {A = Machine} (record { slots = xs; tip = tip; cleaner = c }) (record { slots = ys; tip = tip; cleaner = d })
emptied_is xs ys tip c d same cleaner = λ i. record { slots = same i; tip = tip; cleaner = cleaner i }

pub returns-clause-machine : goal.returns-clause-machine
returns-clause-machine c =
    let a : SegmentAccountant = c.args.self.now in
    emptied_is _ _ a.tip _ _ (states_set a.slots.items c.args.slot c.free.new.self free_slot c.free.ensures.state)
    c.remove.ensures.cleaner

pub returns-clause-waiting : goal.returns-clause-waiting
returns-clause-waiting c =
    let a : SegmentAccountant = c.args.self.now in
    c.forget_waiting.ensures.keys ∙ ap (λ (s : SlotState). not_beside s.latest c.args.slot a.waiting.0) (slot_is a c.args.slot c.index_mut-s.result.now c.requires.slot c.index_mut-s.ensures.value)

pub returns-clause-account : goal.returns-clause-account
returns-clause-account c =
    let a : SegmentAccountant = c.args.self.now in
    let k : ℕ = c.args.slot in
    let xs : List SlotState = (machine_of a).slots in
    let tie = c.remove.ensures.tie (length xs) (record { size_is = refl; entries = c.requires.account.cleaner.entries; room = c.requires.account.cleaner.room }) in
    updated_account a.size a _ k c.free.new.self free_slot (record {
      size_is = refl;
      items = refl;
      state = c.free.ensures.state;
      drain = c.free.ensures.room;
      slots = emptied_slots a.tip xs k c.requires.slot c.requires.account.slots c.requires.done;
      indexes = indexes_same _ _ _ _ _ _ _ _ _ _ _ (emptied_indexes a.tip xs k c.requires.slot c.requires.account.slots c.requires.done a.free.0 a.active.0 a.inactive.0 a.waiting.0 c.requires.account.indexes)
          refl c.insert.ensures.keys refl refl (returns-clause-waiting c);
      cleaner = record { size_is = tie.size_is ∙ c.requires.account.cleaner.size_is; entries = tie.entries; room = tie.room };
      room_free = c.insert.ensures.room;
      room_active = omega arith;
      room_inactive = omega arith;
      room_waiting = omega (arith, c.forget_waiting.ensures.room);
    }) c.requires.account
