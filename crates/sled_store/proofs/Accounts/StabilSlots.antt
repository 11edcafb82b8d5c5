-- One slot changes its state: it is emptied, or its segment is no longer active.
use Rattle.std.proofs.Common.{◌≡◌, ◌≢◌, ◌∙◌, ◌⊎◌, ℕ, zero, suc, ◌<◌, ◌≤◌, ◌^◌, ◌&&◌, Bool, true, false, if◌then◌else◌, List, length, get_or, set, take, Option, None, Some, refl, sym, ap, subst, inl, inr, arith, length-take, length-set, get_or-set_same, get_or-set_other, get_or-take}
use Rattle.std.specs.Ordering.{nat_cmp}
use Rattle.std.specs.BTreeMap.{is_at}
use Rattle.std.specs.BTreeSet.{insert_key}
use Rattle.std.specs.Set.{remove_key}
use Rattle.sled_store.specs.declared.segment.slot.State.{State}
use Rattle.sled_store.specs.declared.segment.slot.State.TheVariants.{Free, Active, Inactive, Draining}
use Rattle.sled_store.specs.SegmentStates.{SlotState, is_free, is_active, is_inactive, is_draining, is_done, same_pages, slots_by, free_among, active_place, waited_place, free_slot, slot_at, inactive_slot, by_place}
use Rattle.sled_store.specs.inside.Stabilizing.{not_beside}
use Rattle.sled_store.specs.declared.segment.slot.Slot.{Slot}
use Rattle.sled_store.specs.declared.segment.accountant.SegmentAccountant.{SegmentAccountant}
use Rattle.sled_store.specs.Accounts.{AreSlots, AreIndexes, slot_state, machine_of}
use Rattle.sled_store.proofs.Accounts.AccountLemmas.{state_at, length_states}
use Rattle.sled_store.proofs.Accounts.IndexLemmas.{slots_where_same, length_slots_where_less, slots_by_same}
use Rattle.sled_store.proofs.Accounts.StabilIndex.{slots_by_less, slots_where_more}
use Rattle.sled_store.proofs.Accounts.ChangeLemmas.{not_waited as no_wait}
pub use Rattle.sled_store.proofs.Accounts.HandLemmas.{take-set-lt as set_within}

pub same_or_not : (n k : ℕ) → (n ≡ k) ⊎ (n ≢ k)
same_or_not zero zero = inl refl
same_or_not zero (suc k) = inr (omega arith)
same_or_not (suc n) zero = inr (omega arith)
same_or_not (suc n) (suc k) = elim (same_or_not n k) [ inl is ↦ inl (ap suc is) | inr differ ↦ inr (λ is. differ (omega arith)) ]

pub first_so : (a b : Bool) → (a && b) ≡ true → a ≡ true
first_so true b is = refl
first_so false b is = is

pub then_so : (a b : Bool) → (a && b) ≡ true → b ≡ true
then_so true b is = is
then_so false b is = absurd (cc)

-- What a state is.

pub draining_is : (s : State) → is_draining s ≡ true → s ≡ Draining
draining_is Free is = absurd (cc)
draining_is Active is = absurd (cc)
draining_is Inactive is = absurd (cc)
draining_is Draining is = refl

pub active_is : (s : State) → is_active s ≡ true → s ≡ Active
active_is Free is = absurd (cc)
active_is Active is = refl
active_is Inactive is = absurd (cc)
active_is Draining is = absurd (cc)

-- a slot with the place of an active segment: it is active, and begins there
pub active_at : (s : SlotState) (p : ℕ) → active_place s ≡ Some p → (s.state ≡ Active) × (s.lsn ≡ p)
active_at s p is = by (is_active s.state) refl is
  where
    by : (b : Bool) → is_active s.state ≡ b → (if b then Some s.lsn else None) ≡ Some p → (s.state ≡ Active) × (s.lsn ≡ p)
    by true so same = (active_is s.state so, cc)
    by false so same = absurd (cc)

-- a slot that waits for a segment at a place: it is done, and that is the place of its latest replacement
pub waits_at : (s : SlotState) (p : ℕ) → waited_place s ≡ Some p → (is_done s ≡ true) × (s.latest ≡ Some p)
waits_at s p is = by (is_done s) refl is
  where
    by : (b : Bool) → is_done s ≡ b → (if b then s.latest else None) ≡ Some p → (is_done s ≡ true) × (s.latest ≡ Some p)
    by true so same = (so, same)
    by false so same = absurd (cc)

pub done_drains : (s : SlotState) → is_done s ≡ true → s.state ≡ Draining
done_drains s is = draining_is s.state (first_so (is_draining s.state) (same_pages s.pages s.gone) is)

-- One slot is another one now.
module _ (tip : ℕ) (xs : List SlotState) (k : ℕ) (lt : k < length xs) (slots : AreSlots tip xs) where
  pub changed_slots : (s : SlotState) → (is_free s.state ≡ true → s ≡ free_slot) → (tip ≤ k → is_free s.state ≡ true) → s.lsn < 2 ^ 63 → AreSlots tip (set xs k s)
  changed_slots s freed above small = record {
    within = omega (arith, slots.within, length-set xs k s);
    cut_off = by_slot (λ n t. tip ≤ n → is_free t.state ≡ true) above slots.cut_off;
    free_slots = by_slot (λ n t. is_free t.state ≡ true → t ≡ free_slot) freed slots.free_slots;
    places = by_slot (λ n t. t.lsn < 2 ^ 63) small slots.places;
  } where
    by_slot : (P : ℕ → SlotState → Type 0) → P k s → ((n : ℕ) → P n (get_or xs n free_slot)) → (n : ℕ) → P n (get_or (set xs k s) n free_slot)
    by_slot P here there n = elim (same_or_not n k) [
      | inl is ↦ subst (λ m. P m (get_or (set xs k s) m free_slot)) (sym is) (subst (P k) (sym (get_or-set_same xs k s free_slot lt)) here)
      | inr differ ↦ subst (P n) (sym (get_or-set_other xs k n s free_slot differ)) (there n)
    ]

  -- a slot that is not free is not cut off
  pub not_cut_off : is_free (get_or xs k free_slot).state ≡ false → k < tip
  not_cut_off taken = elim (nat_or k tip) [ inl below ↦ below | inr above ↦ let free = slots.cut_off k above in absurd (cc) ]
    where
      nat_or : (n m : ℕ) → (n < m) ⊎ (m ≤ n)
      nat_or n zero = inr (omega arith)
      nat_or zero (suc m) = inl (omega arith)
      nat_or (suc n) (suc m) = elim (nat_or n m) [ inl is ↦ inl (omega arith) | inr is ↦ inr (omega arith) ]

-- A slot loses its place, where it has one.
pub slots_by_out : (f : SlotState → Option ℕ) (z : SlotState) → f z ≡ None → (xs : List SlotState) (k : ℕ) (d : SlotState) → k < length xs → (s : SlotState) (o : Option ℕ) → f (get_or xs k d) ≡ o → f s ≡ None
    → slots_by f 0 (set xs k s) ≡ not_beside o k (slots_by f 0 xs)
slots_by_out f z lacks xs k d lt s None had has = slots_by_same f z lacks xs k d lt s (has ∙ sym had)
slots_by_out f z lacks xs k d lt s (Some p) had has = slots_by_less f z lacks xs k d lt s p had has

-- A slot that is done is emptied.
module _ (tip : ℕ) (xs : List SlotState) (k : ℕ) (lt : k < length xs) (slots : AreSlots tip xs) (done : is_done (get_or xs k free_slot) ≡ true) where
  state_is : (get_or xs k free_slot).state ≡ Draining
  state_is = done_drains (get_or xs k free_slot) done

  below_tip : k < tip
  below_tip = not_cut_off tip xs k lt slots (ap is_free state_is)

  -- the list of free slots has room for it
  pub free_room : (free : List ℕ) → free ≡ free_among (take tip xs) → (room : ℕ) → length xs ≤ room → length free < room
  free_room free is room within =
      let low : k < length (take tip xs) = omega (arith, below_tip, length-take tip xs) in
      let fails : is_free (get_or (take tip xs) k free_slot).state ≡ false = ap (λ (s : SlotState). is_free s.state) (get_or-take tip xs k free_slot below_tip) ∙ ap is_free state_is in
      let less = length_slots_where_less (λ s. is_free s.state) 0 k (take tip xs) free_slot low fails in
      let cut = length-take tip xs in
      omega (arith, less, ap length is, within, cut)

  pub emptied_slots : AreSlots tip (set xs k free_slot)
  emptied_slots = changed_slots tip xs k lt slots free_slot (λ free. refl) (λ above. refl) (omega arith)

  pub emptied_indexes : (free : List ℕ) (active : List (ℕ × ℕ)) (inactive : List ℕ) (waiting : List (ℕ × ℕ)) → AreIndexes tip xs free active inactive waiting
      → AreIndexes tip (set xs k free_slot) (insert_key nat_cmp free k) active inactive (not_beside (get_or xs k free_slot).latest k waiting)
  emptied_indexes free active inactive waiting are =
      let low : k < length (take tip xs) = omega (arith, below_tip, length-take tip xs) in
      record {
        free_is =
            ap (λ l. insert_key nat_cmp l k) are.free_is
            ∙ sym (ap free_among (set_within tip xs k free_slot) ∙ slots_where_more (λ s. is_free s.state) 0 k k (take tip xs) free_slot (omega arith) low refl);
        active_is = are.active_is ∙ sym (slots_by_same active_place free_slot refl xs k free_slot lt free_slot (sym (ap (λ t. if is_active t then Some (get_or xs k free_slot).lsn else None) state_is)));
        inactive_is = are.inactive_is ∙ sym (slots_where_same (λ s. is_inactive s.state) 0 k xs free_slot free_slot (sym (ap is_inactive state_is)));
        waiting_is =
            ap (not_beside (get_or xs k free_slot).latest k) are.waiting_is
            ∙ sym (slots_by_out waited_place free_slot refl xs k free_slot lt free_slot (get_or xs k free_slot).latest (ap (λ b. if b then (get_or xs k free_slot).latest else None) done) refl);
      }

-- A segment is no longer active.
module _ (tip : ℕ) (xs : List SlotState) (k place : ℕ) (lt : k < length xs) (slots : AreSlots tip xs) (active : active_place (get_or xs k free_slot) ≡ Some place) where
  was : (get_or xs k free_slot).state ≡ Active
  was = (active_at (get_or xs k free_slot) place active).0

  now : SlotState
  now = inactive_slot (get_or xs k free_slot)

  under_tip : k < tip
  under_tip = not_cut_off tip xs k lt slots (ap is_free was)

  pub not_draining : is_draining (get_or xs k free_slot).state ≡ false
  not_draining = ap is_draining was

  pub inactive_slots : AreSlots tip (set xs k (inactive_slot (get_or xs k free_slot)))
  inactive_slots = changed_slots tip xs k lt slots (inactive_slot (get_or xs k free_slot)) (λ free. absurd (cc)) (λ above. absurd (omega (arith, under_tip))) (slots.places k)

  pub inactive_indexes : (free : List ℕ) (actives : List (ℕ × ℕ)) (inactive : List ℕ) (waiting : List (ℕ × ℕ)) → AreIndexes tip xs free actives inactive waiting
      → AreIndexes tip (set xs k (inactive_slot (get_or xs k free_slot))) free (remove_key (is_at (by_place (place, k))) actives) (insert_key nat_cmp inactive k) waiting
  inactive_indexes free actives inactive waiting are = record {
    free_is =
        are.free_is
        ∙ sym (ap free_among (set_within tip xs k (inactive_slot (get_or xs k free_slot)))
        ∙ slots_where_same (λ s. is_free s.state) 0 k (take tip xs) (inactive_slot (get_or xs k free_slot)) free_slot
        (sym (ap (λ (s : SlotState). is_free s.state) (get_or-take tip xs k free_slot under_tip) ∙ ap is_free was)));
    active_is = ap (remove_key (is_at (by_place (place, k)))) are.active_is ∙ sym (slots_by_less active_place free_slot refl xs k free_slot lt (inactive_slot (get_or xs k free_slot)) place active refl);
    inactive_is = ap (λ l. insert_key nat_cmp l k) are.inactive_is ∙ sym (slots_where_more (λ s. is_inactive s.state) 0 k k xs (inactive_slot (get_or xs k free_slot)) (omega arith) lt refl);
    waiting_is = are.waiting_is ∙ sym (slots_by_same waited_place free_slot refl xs k free_slot lt (inactive_slot (get_or xs k free_slot)) (sym (no_wait (get_or xs k free_slot) not_draining)));
  }

-- what an accountant keeps of a slot, as the machine has it
pub slot_is : (a : SegmentAccountant) (k : ℕ) (s : Slot) → k < length (machine_of a).slots → s ≡ get_or a.slots.items k s → slot_state s ≡ slot_at (machine_of a) k
slot_is a k s lt at = ap slot_state at ∙ sym (state_at a.slots.items k s free_slot (omega (arith, length_states a.slots.items, lt)))
