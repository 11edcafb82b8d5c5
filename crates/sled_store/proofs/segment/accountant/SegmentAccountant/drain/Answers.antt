-- The slot is no longer inactive, and its pages go to the cleaner.
use Rattle.std.proofs.Common.{Some, if◌then◌else◌, ◌≡◌, ◌∙◌, ◌<◌, ◌*◌, ◌^◌, ℕ, List, Option, true, false, None, length, get_or, set, refl, sym, ap, subst, arith}
use Rattle.std.specs.Ordering.{nat_cmp}
use Rattle.std.specs.BTreeMap.{insert_entry, is_at}
use Rattle.std.specs.Set.{remove_key}
use Rattle.sled_store.specs.SegmentStates.{SlotState, Machine, free_slot, drained_slot, left_pages, waited_place, waiting_among, active_place, is_free, is_inactive, is_active, is_draining, beside}
use Rattle.sled_store.specs.declared.segment.slot.State.{State}
use Rattle.sled_store.specs.declared.segment.slot.State.TheVariants.{Free, Active, Inactive, Draining}
use Rattle.sled_store.specs.declared.segment.accountant.SegmentAccountant.{SegmentAccountant}
use Rattle.sled_store.specs.Accounts.{slot_state, machine_of, cleaner_of, IsAccountant, AreIndexes}
use Rattle.sled_store.proofs.Accounts.AccountLemmas.{updated_account, states_set, slot_in_reach}
use Rattle.sled_store.proofs.Accounts.ChangeLemmas.{changed_slots, changed_free, not_waited}
use Rattle.sled_store.proofs.Accounts.IndexLemmas.{slots_where_less, slots_by_same, length_slots_by_less}
use Rattle.sled_store.proofs.Accounts.WithLemmas.{read_state}
use Rattle.sled_store.proofs.Accounts.MoveLemmas.{others_waiting, waiting_was, waiting_is}
use Rattle.sled_store.proofs.segment.accountant.SegmentAccountant.drain.Goals as goal

inactive_used : (st : State) → is_inactive st ≡ true → is_free st ≡ false
inactive_used Free is = absurd (cc)
inactive_used Active is = refl
inactive_used Inactive is = refl
inactive_used Draining is = refl

inactive_not_active : (st : State) → is_inactive st ≡ true → is_active st ≡ false
inactive_not_active Free is = refl
inactive_not_active Active is = absurd (cc)
inactive_not_active Inactive is = refl
inactive_not_active Draining is = refl

inactive_not_draining : (st : State) → is_inactive st ≡ true → is_draining st ≡ false
inactive_not_draining Free is = refl
inactive_not_draining Active is = refl
inactive_not_draining Inactive is = refl
inactive_not_draining Draining is = absurd (cc)

module _ (size : ℕ) (a : SegmentAccountant) (account : IsAccountant size a) (k : ℕ) (lt : k < length (machine_of a).slots) (inactive : is_inactive (get_or (machine_of a).slots k free_slot).state ≡ true) where
  waits_for_none : waited_place (get_or (machine_of a).slots k free_slot) ≡ None
  waits_for_none = not_waited (get_or (machine_of a).slots k free_slot) (inactive_not_draining (get_or (machine_of a).slots k free_slot).state inactive)

  -- none is forgotten
  waiting_others : a.waiting.0 ≡ others_waiting (machine_of a).slots k
  waiting_others = account.indexes.waiting_is ∙ waiting_was (machine_of a).slots k lt ∙ ap (λ (b : Option ℕ). beside b k (others_waiting (machine_of a).slots k)) waits_for_none

  -- one more has room
  waiting_room : length a.waiting.0 < a.waiting.1
  waiting_room = omega (arith, ap length account.indexes.waiting_is, length_slots_by_less waited_place 0 k (machine_of a).slots free_slot lt waits_for_none, account.rooms.waiting)

  -- it is found among the others
  drained_indexes : (w : List (ℕ × ℕ)) → w ≡ waiting_among (set (machine_of a).slots k (drained_slot (get_or (machine_of a).slots k free_slot)))
      → AreIndexes a.tip (set (machine_of a).slots k (drained_slot (get_or (machine_of a).slots k free_slot))) a.free.0 a.active.0 (remove_key (is_at (nat_cmp k)) a.inactive.0) w
  drained_indexes w waiting =
      let xs : List SlotState = (machine_of a).slots in
      let s : SlotState = get_or xs k free_slot in
      let used = inactive_used s.state inactive in
      let not_active : active_place s ≡ None = ap (λ b. if b then Some s.lsn else None) (inactive_not_active s.state inactive) in
      record {
        free_is = account.indexes.free_is ∙ sym (changed_free a.tip xs k (drained_slot s) account.slots lt used refl);
        active_is = account.indexes.active_is ∙ sym (slots_by_same active_place free_slot refl xs k free_slot lt (drained_slot s) (sym not_active));
        inactive_is = ap (remove_key (is_at (nat_cmp k))) account.indexes.inactive_is ∙ sym (slots_where_less (λ t. is_inactive t.state) 0 k k xs (drained_slot s) (omega arith) lt refl);
        waiting_is = waiting;
      }

pub note_waiting-requires : goal.note_waiting-requires
note_waiting-requires c = waiting_room (c.args.self.now.size) c.args.self.now c.requires.account c.args.slot c.requires.slot c.requires.inactive

pub insert-requires-clause-in_reach : goal.insert-requires-clause-in_reach
insert-requires-clause-in_reach c =
    let size = c.requires.account.cleaner.size_is in
    subst (λ n. c.args.slot * n < 2 ^ 63) (sym size) (slot_in_reach c.args.self.now.size (length (machine_of c.args.self.now).slots) c.args.slot c.requires.slot c.requires.account.in_reach)

pub insert-requires-clause-room : goal.insert-requires-clause-room
insert-requires-clause-room c = omega (arith, c.requires.slot, c.requires.account.cleaner.room.draining)

pub insert-requires-clause-entry : goal.insert-requires-clause-entry
insert-requires-clause-entry c = omega (arith, c.requires.slot, c.requires.account.cleaner.room.entries)

drained_machine : (xs ys : List SlotState) (t : ℕ) (es fs : List (ℕ × List ℕ)) → xs ≡ ys → es ≡ fs → ◌≡◌ {A = Machine} (record { slots = xs; tip = t; cleaner = es }) (record { slots = ys; tip = t; cleaner = fs })
drained_machine xs ys t es fs same entries = λ i. record { slots = same i; tip = t; cleaner = entries i }

pub returns-clause-done : goal.returns-clause-done
returns-clause-done c =
    let a : SegmentAccountant = c.args.self.now in
    let k : ℕ = c.args.slot in
    let xs : List SlotState = (machine_of a).slots in
    let s : SlotState = get_or xs k free_slot in
    let read = read_state a k c.index_mut-s.result.now c.requires.slot c.index_mut-s.ensures.value in
    drained_machine _ _ a.tip _ _ (states_set a.slots.items k c.drain-left.new.self (drained_slot s) (c.drain-left.ensures.state ∙ ap drained_slot read))
    (c.insert.ensures.cleaner ∙ ap (insert_entry nat_cmp (cleaner_of a.cleaner) k) (c.drain-left.ensures.pages ∙ ap left_pages read))

pub returns-clause-account : goal.returns-clause-account
returns-clause-account c =
    let a : SegmentAccountant = c.args.self.now in
    let k : ℕ = c.args.slot in
    let xs : List SlotState = (machine_of a).slots in
    let s : SlotState = get_or xs k free_slot in
    let t : SlotState = drained_slot s in
    let lt : k < length xs = c.requires.slot in
    let is : slot_state c.drain-left.new.self ≡ t = c.drain-left.ensures.state ∙ ap drained_slot (read_state a k c.index_mut-s.result.now lt c.index_mut-s.ensures.value) in
    let used = inactive_used s.state c.requires.inactive in
    let waiting : c.note_waiting.new.waiting.0 ≡ waiting_among (set xs k t) =
    c.note_waiting.ensures.keys ∙ ap (λ (l : List (ℕ × ℕ)). beside c.waited_place-after.result k l) (waiting_others a.size a c.requires.account k lt c.requires.inactive)
    ∙ ap (λ (b : Option ℕ). beside b k (others_waiting xs k)) (c.waited_place-after.ensures ∙ ap waited_place is) ∙ sym (waiting_is xs k lt t) in
    let tie = c.insert.ensures.tie (length xs) lt (record { size_is = refl; entries = c.requires.account.cleaner.entries; room = c.requires.account.cleaner.room }) in
    updated_account a.size a _ k c.drain-left.new.self t (record {
      size_is = refl;
      items = refl;
      state = is;
      drain = c.drain-left.ensures.room;
      slots = changed_slots a.tip xs k t c.requires.account.slots lt used refl (c.requires.account.slots.places k);
      indexes = subst (λ (l : List ℕ). AreIndexes a.tip (set xs k t) a.free.0 a.active.0 l c.note_waiting.new.waiting.0) (sym c.remove.ensures.keys)
          (drained_indexes a.size a c.requires.account k lt c.requires.inactive c.note_waiting.new.waiting.0 waiting);
      cleaner = record { size_is = tie.size_is ∙ c.requires.account.cleaner.size_is; entries = tie.entries; room = tie.room };
      room_free = omega arith;
      room_active = omega arith;
      room_inactive = omega (arith, c.remove.ensures.room);
      room_waiting = c.note_waiting.ensures.room;
    }) c.requires.account
