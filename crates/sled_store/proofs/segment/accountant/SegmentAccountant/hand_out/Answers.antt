-- The slot was free, and is that of the segment now.
use Rattle.std.proofs.Common.{◌≡◌, ◌∙◌, ◌<◌, ◌+◌, ◌++◌, ◌∷◌, [], ℕ, List, max, Bool, length, get_or, set, refl, sym, ap, subst, inr, arith, if◌then◌else◌}
use Rattle.std.proofs.lemmas.Bool.{lt-ltb}
use Rattle.sled_store.specs.SegmentStates.{SlotState, Machine, active_place, free_slot, taken_slot, next_slot, put_slot}
use Rattle.sled_store.specs.declared.segment.slot.Slot.{Slot}
use Rattle.sled_store.specs.declared.segment.accountant.SegmentAccountant.{SegmentAccountant}
use Rattle.sled_store.specs.Accounts.{slot_state, machine_of, IsAccountant, AreSlots}
use Rattle.sled_store.proofs.Accounts.AccountLemmas.{state_at, states_set, length_states, updated_account}
use Rattle.sled_store.proofs.Accounts.IndexLemmas.{length_slots_by_less}
use Rattle.sled_store.proofs.Accounts.HandLemmas.{IsNext, next_is, handed_slots, handed_indexes, indexes_same}
use Rattle.sled_store.proofs.segment.accountant.SegmentAccountant.hand_out.Goals as goal

module _ (size : ℕ) (a : SegmentAccountant) (is : IsAccountant size a) (k : ℕ) (next : k ≡ next_slot (machine_of a)) (lt : k < length (machine_of a).slots) where
  next_one : IsNext a.tip (machine_of a).slots k
  next_one = subst (IsNext a.tip (machine_of a).slots) (sym next) (next_is a.tip (machine_of a).slots is.slots)

  free_state : get_or (machine_of a).slots k free_slot ≡ free_slot
  free_state = is.slots.free_slots k next_one.is_free

  -- the slot is free
  slot_free : (s : Slot) → s ≡ get_or a.slots.items k s → slot_state s ≡ free_slot
  slot_free s at = ap slot_state at ∙ sym (state_at a.slots.items k s free_slot (omega (arith, length_states a.slots.items, lt))) ∙ free_state

  -- one more active segment has room
  active_room : length a.active.0 < a.active.1
  active_room =
      let less = length_slots_by_less active_place 0 k (machine_of a).slots free_slot lt (ap active_place free_state) in
      omega (arith, less, ap length is.indexes.active_is, is.rooms.active)

pub take-requires : goal.take-requires
take-requires c = slot_free (c.args.self.now.size) c.args.self.now c.requires.account c.args.slot c.requires.next c.requires.slot c.index_mut-s.result.now c.index_mut-s.ensures.value

pub insert-requires : goal.insert-requires
insert-requires c = inr (active_room (c.args.self.now.size) c.args.self.now c.requires.account c.args.slot c.requires.next c.requires.slot)

-- a slot that is there is put among them
put_there : (k n : ℕ) (s : SlotState) (xs : List SlotState) → k ≡ n → k < length xs → set xs k s ≡ put_slot n s xs
put_there k n s xs at lt = ap (λ m. set xs m s) at ∙ sym (ap (λ (b : Bool). if b then set xs n s else xs ++ s ∷ []) (lt-ltb n (length xs) (omega (arith, at, lt))))

handed_is : (xs ys : List SlotState) (t u : ℕ) (m : Machine) → xs ≡ ys → t ≡ u → ◌≡◌ {A = Machine} (record { slots = xs; tip = t; cleaner = m.cleaner }) (record { slots = ys; tip = u; cleaner = m.cleaner })
handed_is xs ys t u m same tips = λ i. record { slots = same i; tip = tips i; cleaner = m.cleaner }

pub returns-clause-done : goal.returns-clause-done
returns-clause-done c =
    let a : SegmentAccountant = c.args.self.now in
    let n : ℕ = next_slot (machine_of a) in
    handed_is _ _ _ _ (machine_of a)
    (states_set a.slots.items c.args.slot c.take.new.self (taken_slot c.args.place) c.take.ensures.state ∙ put_there c.args.slot n (taken_slot c.args.place) (machine_of a).slots c.requires.next c.requires.slot)
    (c.max-self.ensures ∙ ap (λ k. max a.tip (k + 1)) c.requires.next)

pub returns-clause-account : goal.returns-clause-account
returns-clause-account c =
    let a : SegmentAccountant = c.args.self.now in
    let k : ℕ = c.args.slot in
    let xs : List SlotState = (machine_of a).slots in
    let next = next_one (a.size) a c.requires.account k c.requires.next c.requires.slot in
    let tip = c.max-self.ensures in
    updated_account (a.size) a _ k c.take.new.self (taken_slot c.args.place) (record {
      size_is = refl;
      items = refl;
      state = c.take.ensures.state;
      drain = c.take.ensures.room;
      slots = subst (λ t. AreSlots t (set xs k (taken_slot c.args.place))) (sym tip) (handed_slots a.tip xs k c.args.place c.requires.account.slots next c.requires.slot c.requires.place);
      indexes = indexes_same _ _ _ _ _ _ _ _ _ _ _ (handed_indexes a.tip xs k c.args.place c.requires.account.slots next c.requires.slot c.requires.place a.free.0 a.active.0 a.inactive.0 a.waiting.0 c.requires.account.indexes)
          tip c.remove.ensures.keys c.insert.ensures.keys refl refl;
      cleaner = c.requires.account.cleaner;
      room_free = omega (arith, c.remove.ensures.room);
      room_active = c.insert.ensures.room;
      room_inactive = omega arith;
      room_waiting = omega arith;
    }) c.requires.account
