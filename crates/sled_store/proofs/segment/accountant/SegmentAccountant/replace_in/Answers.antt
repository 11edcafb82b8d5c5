-- The slot is taken out of those that wait, and put in again behind what it waits for now.
use Rattle.std.proofs.Common.{◌≡◌, ◌∙◌, ◌<◌, ℕ, List, Option, length, get_or, set, refl, sym, ap, arith}
use Rattle.std.specs.Vec.{with_item}
use Rattle.sled_store.specs.SegmentStates.{SlotState, free_slot, replaced_slot, waited_place, waiting_among, beside}
use Rattle.sled_store.specs.inside.Stabilizing.{not_beside}
use Rattle.sled_store.specs.declared.segment.accountant.SegmentAccountant.{SegmentAccountant}
use Rattle.sled_store.specs.Accounts.{slot_state, machine_of}
use Rattle.sled_store.proofs.Accounts.AccountLemmas.{updated_account}
use Rattle.sled_store.proofs.Accounts.ChangeLemmas.{changed_slots, changed_indexes_as}
use Rattle.sled_store.proofs.Accounts.WithLemmas.{read_state, read_drain, with_machine}
use Rattle.sled_store.proofs.Accounts.MoveLemmas.{others_waiting, waiting_was, waiting_is, lacks_one, not_beside_beside, others_fewer}
use Rattle.sled_store.proofs.segment.accountant.SegmentAccountant.replace_in.Goals as goal
use Rattle.sled_store.proofs.segment.accountant.SegmentAccountant.replace_in.Goals.{After-forget_waiting, After-note_waiting}

-- the others that wait are left
forgot : (c : After-forget_waiting) → c.forget_waiting.new.waiting.0 ≡ others_waiting (machine_of c.args.self.now).slots c.args.slot
forgot c =
    let a : SegmentAccountant = c.args.self.now in
    let k : ℕ = c.args.slot in
    let xs : List SlotState = (machine_of a).slots in
    let was : a.waiting.0 ≡ beside c.waited_place-before.result k (others_waiting xs k) =
    c.requires.account.indexes.waiting_is ∙ waiting_was xs k c.requires.used.within
    ∙ sym (ap (λ (b : Option ℕ). beside b k (others_waiting xs k)) (c.waited_place-before.ensures ∙ ap waited_place (read_state a k c.index_mut-s.result.now c.requires.used.within c.index_mut-s.ensures.value))) in
    c.forget_waiting.ensures.keys ∙ ap (not_beside c.waited_place-before.result k) was ∙ not_beside_beside c.waited_place-before.result k (others_waiting xs k) (lacks_one xs k c.requires.used.within)

pub note_waiting-requires : goal.note_waiting-requires
note_waiting-requires c =
    let fewer = others_fewer (machine_of c.args.self.now).slots c.args.slot c.requires.used.within in
    omega (arith, fewer, ap length (forgot (goal.at.note_waiting-requires c).After-forget_waiting), c.forget_waiting.ensures.room, c.requires.account.rooms.waiting)

-- the slot is as the machine has it
replaced_is : (c : After-note_waiting) → slot_state c.replace.new.self ≡ replaced_slot c.args.pid c.args.len c.args.place (get_or (machine_of c.args.self.now).slots c.args.slot free_slot)
replaced_is c = c.replace.ensures.state ∙ ap (replaced_slot c.args.pid c.args.len c.args.place) (read_state c.args.self.now c.args.slot c.index_mut-s.result.now c.requires.used.within c.index_mut-s.ensures.value)

pub returns-clause-done : goal.returns-clause-done
returns-clause-done c =
    let a : SegmentAccountant = c.args.self.now in
    with_machine a.size a (with_item a.slots c.args.slot c.replace.new.self) c.args.slot c.replace.new.self refl c.requires.used.within _ (replaced_is c)

pub returns-clause-account : goal.returns-clause-account
returns-clause-account c =
    let a : SegmentAccountant = c.args.self.now in
    let k : ℕ = c.args.slot in
    let xs : List SlotState = (machine_of a).slots in
    let s : SlotState = get_or xs k free_slot in
    let t : SlotState = replaced_slot c.args.pid c.args.len c.args.place s in
    let lt : k < length xs = c.requires.used.within in
    let after : c.waited_place-after.result ≡ waited_place t = c.waited_place-after.ensures ∙ ap waited_place (replaced_is c) in
    let waiting : c.note_waiting.new.waiting.0 ≡ waiting_among (set xs k t) =
    c.note_waiting.ensures.keys ∙ ap (λ (l : List (ℕ × ℕ)). beside c.waited_place-after.result k l) (forgot (goal.at.returns-clause-account c).After-forget_waiting)
    ∙ ap (λ (b : Option ℕ). beside b k (others_waiting xs k)) after ∙ sym (waiting_is xs k lt t) in
    updated_account a.size a _ k c.replace.new.self t (record {
      size_is = refl;
      items = refl;
      state = replaced_is c;
      drain = c.replace.ensures.drain (read_drain a k c.index_mut-s.result.now lt c.requires.account.room_to_drain c.index_mut-s.ensures.value);
      slots = changed_slots a.tip xs k t c.requires.account.slots lt c.requires.used.used c.requires.used.used (c.requires.account.slots.places k);
      indexes = changed_indexes_as a.tip xs k t c.requires.account.slots lt c.requires.used.used c.requires.used.used a.free.0 a.active.0 a.inactive.0 a.waiting.0 c.note_waiting.new.waiting.0 refl refl waiting c.requires.account.indexes;
      cleaner = c.requires.account.cleaner;
      room_free = omega arith;
      room_active = omega arith;
      room_inactive = omega arith;
      room_waiting = omega (arith, c.forget_waiting.ensures.room, c.note_waiting.ensures.room);
    }) c.requires.account
