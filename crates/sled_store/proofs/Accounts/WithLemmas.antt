-- An accountant in which one slot alone is another.
use Rattle.std.proofs.Common.{◌≡◌, ◌∙◌, ◌+◌, ◌≤◌, ℤ, ◌<◌, ◌^◌, ℕ, false, List, length, get_or, set, map, refl, sym, ap, subst, arith, Vec, ◌⊎◌, zero, suc, [], ◌∷◌, IsTrue, get_or-set_same}
use Rattle.std.specs.declared.alloc.Global.{Global}
use Rattle.std.specs.List.{All}
use Rattle.sled_store.specs.SegmentStates.{SlotState, Machine, free_slot, is_free, is_inactive, active_place, waited_place, with_slot, has_page}
use Rattle.sled_store.specs.declared.segment.slot.Slot.{Slot}
use Rattle.sled_store.specs.declared.segment.accountant.SegmentAccountant.{SegmentAccountant}
use Rattle.sled_store.specs.Accounts.{slot_state, machine_of, AreSlots, AreIndexes, IsAccountant, HasRoomToDrain}
use Rattle.sled_store.specs.inside.Accounts.{HasRoomForGone, HasRoomForBlobs, GoneFits}
use Rattle.sled_store.proofs.Accounts.AccountLemmas.{state_at, states_set, length_states, updated_account}
use Rattle.sled_store.proofs.Accounts.IndexLemmas.{set_again}
use Rattle.sled_store.proofs.Accounts.ChangeLemmas.{changed_slots, changed_indexes}

-- the same accountant but for the slots
abbrev pub with_items : SegmentAccountant → Vec Slot Global → SegmentAccountant
with_items a v = record { size = a.size; slots = v; tip = a.tip; free = a.free; active = a.active; inactive = a.inactive; waiting = a.waiting; cleaner = a.cleaner }

machine_same : (xs ys : List SlotState) (m : Machine) → xs ≡ ys → ◌≡◌ {A = Machine} (record { slots = xs; tip = m.tip; cleaner = m.cleaner }) (record { slots = ys; tip = m.tip; cleaner = m.cleaner })
machine_same xs ys m same = λ i. record { slots = same i; tip = m.tip; cleaner = m.cleaner }

-- the slot that was read
pub read_state : (a : SegmentAccountant) (k : ℕ) (d : Slot) → k < length (machine_of a).slots → d ≡ get_or a.slots.items k d → slot_state d ≡ get_or (machine_of a).slots k free_slot
read_state a k d lt at = ap slot_state at ∙ sym (state_at a.slots.items k d free_slot (omega (arith, length_states a.slots.items)))

pub read_drain : (a : SegmentAccountant) (k : ℕ) (d : Slot) → k < length (machine_of a).slots → All HasRoomToDrain a.slots.items → d ≡ get_or a.slots.items k d → HasRoomToDrain d
read_drain a k d lt all at = subst HasRoomToDrain (sym at) (all k d (omega (arith, length_states a.slots.items)))

module _ (size : ℕ) (a : SegmentAccountant) (v : Vec Slot Global) (k : ℕ) (s : Slot) (items : v.items ≡ set a.slots.items k s) (lt : k < length (machine_of a).slots) where
  pub with_machine : (t : SlotState) → slot_state s ≡ t → machine_of (with_items a v) ≡ with_slot k t (machine_of a)
  with_machine t is = machine_same _ _ (machine_of a) (ap (map slot_state) items ∙ states_set a.slots.items k s t is)

  -- the slot is in the same state
  pub kept_machine : slot_state s ≡ get_or (machine_of a).slots k free_slot → machine_of (with_items a v) ≡ machine_of a
  kept_machine is = machine_same _ _ (machine_of a) (ap (map slot_state) items ∙ states_set a.slots.items k s (get_or (machine_of a).slots k free_slot) is ∙ set_again (machine_of a).slots k free_slot lt)

  pub kept_account : slot_state s ≡ get_or (machine_of a).slots k free_slot → HasRoomToDrain s → IsAccountant size a → IsAccountant size (with_items a v)
  kept_account is drain account =
      let t : SlotState = get_or (machine_of a).slots k free_slot in
      let again : set (machine_of a).slots k t ≡ (machine_of a).slots = set_again (machine_of a).slots k free_slot lt in
      updated_account size a (with_items a v) k s t (record {
        size_is = refl;
        items = items;
        state = is;
        drain = drain;
        slots = subst (AreSlots a.tip) (sym again) account.slots;
        indexes = subst (λ l. AreIndexes a.tip l a.free.0 a.active.0 a.inactive.0 a.waiting.0) (sym again) account.indexes;
        cleaner = account.cleaner;
        room_free = omega arith;
        room_active = omega arith;
        room_inactive = omega arith;
        room_waiting = omega arith;
      }) account

  -- the slot is in another state, and is found as it was
  pub with_account : (t : SlotState) → slot_state s ≡ t → HasRoomToDrain s → t.lsn < 2 ^ 63 → is_free (get_or (machine_of a).slots k free_slot).state ≡ false → is_free t.state ≡ false
      → active_place t ≡ active_place (get_or (machine_of a).slots k free_slot) → is_inactive t.state ≡ is_inactive (get_or (machine_of a).slots k free_slot).state
      → waited_place t ≡ waited_place (get_or (machine_of a).slots k free_slot) → IsAccountant size a → IsAccountant size (with_items a v)
  with_account t is drain place used still active inactive waiting account =
      updated_account size a (with_items a v) k s t (record {
        size_is = refl;
        items = items;
        state = is;
        drain = drain;
        slots = changed_slots a.tip (machine_of a).slots k t account.slots lt used still place;
        indexes = changed_indexes a.tip (machine_of a).slots k t account.slots lt used still a.free.0 a.active.0 a.inactive.0 a.waiting.0 active inactive waiting account.indexes;
        cleaner = account.cleaner;
        room_free = omega arith;
        room_active = omega arith;
        room_inactive = omega arith;
        room_waiting = omega arith;
      }) account

-- What is noted as replaced in each slot has the room that it had.

gone_as : (pid : ℕ) (s t : Slot) → s.gone ≡ t.gone → HasRoomForGone pid t → HasRoomForGone pid s
gone_as pid s t same has = subst (λ (g : List ℕ × ℕ). IsTrue (has_page g.0 pid) ⊎ (length g.0 < g.1)) (sym same) has

gone_at : (pid : ℕ) (xs : List Slot) (k j : ℕ) (s : Slot) → s.gone ≡ (get_or xs k s).gone → ((d : Slot) → HasRoomForGone pid (get_or xs j d)) → (d : Slot) → HasRoomForGone pid (get_or (set xs k s) j d)
gone_at pid [] k j s same has d = has d
gone_at pid (x ∷ xs) zero zero s same has d = gone_as pid s x same (has d)
gone_at pid (x ∷ xs) zero (suc j) s same has d = has d
gone_at pid (x ∷ xs) (suc k) zero s same has d = has d
gone_at pid (x ∷ xs) (suc k) (suc j) s same has d = gone_at pid xs k j s same has d

item_at : (xs : List Slot) (k : ℕ) (a b : Slot) → k < length xs → get_or xs k a ≡ get_or xs k b
item_at [] k a b lt = absurd (omega arith)
item_at (x ∷ xs) zero a b lt = refl
item_at (x ∷ xs) (suc k) a b lt = item_at xs k a b (omega arith)

-- a slot changed, but for what is noted as replaced
pub gone_kept : (a : SegmentAccountant) (k : ℕ) (d s : Slot) → k < length (machine_of a).slots → d ≡ get_or a.slots.items k d → s.gone ≡ d.gone
    → (pid j : ℕ) → GoneFits pid a j → (e : Slot) → HasRoomForGone pid (get_or (set a.slots.items k s) j e)
gone_kept a k d s lt at same pid j has e =
    let there : k < length a.slots.items = omega (arith, length_states a.slots.items) in
    gone_at pid a.slots.items k j s (same ∙ ap (λ (t : Slot). t.gone) (at ∙ item_at a.slots.items k d s there)) has e

-- the slot that was put there
pub put_at : (a : SegmentAccountant) (P : Slot → Type 0) (k : ℕ) (s e : Slot) → k < length (machine_of a).slots → P s → P (get_or (set a.slots.items k s) k e)
put_at a P k s e lt is = subst P (sym (get_or-set_same a.slots.items k s e (omega (arith, length_states a.slots.items)))) is

-- what is so of a slot by any default is so of the one that was read
pub read_at : (a : SegmentAccountant) (P : Slot → Type 0) (k : ℕ) (d : Slot) → d ≡ get_or a.slots.items k d → ((e : Slot) → P (get_or a.slots.items k e)) → P d
read_at a P k d at all = subst P (sym at) (all d)

-- a slot changed, but for its blobs
pub blobs_kept : (a : SegmentAccountant) (k : ℕ) (d s : Slot) → k < length (machine_of a).slots → d ≡ get_or a.slots.items k d → s.blobs ≡ d.blobs
    → (n : ℕ) (e : Slot) → HasRoomForBlobs n (get_or a.slots.items k e) → HasRoomForBlobs n (get_or (set a.slots.items k s) k e)
blobs_kept a k d s lt at same n e has =
    let there : k < length a.slots.items = omega (arith, length_states a.slots.items) in
    let read : HasRoomForBlobs n d = subst (HasRoomForBlobs n) (item_at a.slots.items k e d there ∙ sym at) has in
    put_at a (HasRoomForBlobs n) k s e lt (subst (λ (b : List ℤ × ℕ). length b.0 + n ≤ b.1) (sym same) read)
