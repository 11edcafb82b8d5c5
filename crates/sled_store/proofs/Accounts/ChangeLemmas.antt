-- A slot in which a segment lies changes, and a segment still lies in it.
use Rattle.std.proofs.Common.{◌≡◌, ◌≢◌, ◌∙◌, ◌<◌, ◌^◌, ◌&&◌, ℕ, true, false, if◌then◌else◌, List, length, get_or, set, take, None, refl, sym, ap, subst, inl, inr, arith, length-set, get_or-set_same, get_or-set_other, get_or-take}
use Rattle.sled_store.specs.declared.segment.slot.State.{State}
use Rattle.sled_store.specs.declared.segment.slot.State.TheVariants.{Free, Active, Inactive, Draining}
use Rattle.sled_store.specs.SegmentStates.{SlotState, free_among, waiting_among, is_free, is_active, is_inactive, is_draining, same_pages, active_place, waited_place, free_slot}
use Rattle.sled_store.specs.Accounts.{AreSlots, AreIndexes}
use Rattle.sled_store.proofs.Accounts.IndexLemmas.{slots_where_same, slots_by_same}
use Rattle.std.proofs.lemmas.Bool.{cases_lt}
use Rattle.sled_store.proofs.Accounts.HandLemmas.{cases_eq, take-set-lt}

-- an active segment is not free, inactive or drained
pub active_used : (st : State) → is_active st ≡ true → is_free st ≡ false
active_used Free is = absurd (cc)
active_used Active is = refl
active_used Inactive is = refl
active_used Draining is = refl

pub active_not_draining : (st : State) → is_active st ≡ true → is_draining st ≡ false
active_not_draining Free is = refl
active_not_draining Active is = refl
active_not_draining Inactive is = refl
active_not_draining Draining is = absurd (cc)

pub not_waited : (s : SlotState) → is_draining s.state ≡ false → waited_place s ≡ None
not_waited s is = ap (λ b. if b && same_pages s.pages s.gone then s.latest else None) is

module _ (tip : ℕ) (xs : List SlotState) (k : ℕ) (t : SlotState) (slots : AreSlots tip xs) (lt : k < length xs) (used : is_free (get_or xs k free_slot).state ≡ false) (still : is_free t.state ≡ false) where
  below_tip : k < tip
  below_tip = elim (cases_lt k tip) [
    | inl low ↦ low
    | inr high ↦ let free = slots.cut_off k high in absurd (cc)
  ]

  other : (n : ℕ) → n ≢ k → get_or (set xs k t) n free_slot ≡ get_or xs n free_slot
  other n differ = get_or-set_other xs k n t free_slot differ

  same : get_or (set xs k t) k free_slot ≡ t
  same = get_or-set_same xs k t free_slot lt

  by_slot : (P : ℕ → SlotState → Type 0) → P k t → ((n : ℕ) → n ≢ k → P n (get_or xs n free_slot)) → (n : ℕ) → P n (get_or (set xs k t) n free_slot)
  by_slot P here there n = elim (cases_eq n k) [
    | inl is ↦ subst (λ m. P m (get_or (set xs k t) m free_slot)) (sym is) (subst (P k) (sym same) here)
    | inr differ ↦ subst (P n) (sym (other n differ)) (there n differ)
  ]

  pub changed_slots : t.lsn < 2 ^ 63 → AreSlots tip (set xs k t)
  changed_slots place = record {
    within = omega (arith, slots.within, length-set xs k t);
    cut_off = λ n from.
        let low = below_tip in
        let differ : n ≢ k = omega arith in
        subst (λ (s : SlotState). is_free s.state ≡ true) (sym (other n differ)) (slots.cut_off n from);
    free_slots = by_slot (λ n s. is_free s.state ≡ true → s ≡ free_slot) (λ is. absurd (cc)) (λ n differ. slots.free_slots n);
    places = by_slot (λ n s. s.lsn < 2 ^ 63) place (λ n differ. slots.places n);
  }

  pub changed_free : free_among (take tip (set xs k t)) ≡ free_among (take tip xs)
  changed_free =
      let at : get_or (take tip xs) k free_slot ≡ get_or xs k free_slot = get_or-take tip xs k free_slot below_tip in
      ap free_among (take-set-lt tip xs k t)
      ∙ slots_where_same (λ s. is_free s.state) 0 k (take tip xs) t free_slot (still ∙ sym used ∙ sym (ap (λ (s : SlotState). is_free s.state) at))

  -- it is found as it was
  pub changed_indexes : (f : List ℕ) (a : List (ℕ × ℕ)) (i : List ℕ) (w : List (ℕ × ℕ)) → active_place t ≡ active_place (get_or xs k free_slot) → is_inactive t.state ≡ is_inactive (get_or xs k free_slot).state
      → waited_place t ≡ waited_place (get_or xs k free_slot) → AreIndexes tip xs f a i w → AreIndexes tip (set xs k t) f a i w
  changed_indexes f a i w active inactive waiting are = record {
    free_is = are.free_is ∙ sym changed_free;
    active_is = are.active_is ∙ sym (slots_by_same active_place free_slot refl xs k free_slot lt t active);
    inactive_is = are.inactive_is ∙ sym (slots_where_same (λ s. is_inactive s.state) 0 k xs t free_slot inactive);
    waiting_is = are.waiting_is ∙ sym (slots_by_same waited_place free_slot refl xs k free_slot lt t waiting);
  }

  -- it waits for another place
  pub changed_indexes_as : (f : List ℕ) (a : List (ℕ × ℕ)) (i : List ℕ) (w w_as : List (ℕ × ℕ)) → active_place t ≡ active_place (get_or xs k free_slot) → is_inactive t.state ≡ is_inactive (get_or xs k free_slot).state
      → w_as ≡ waiting_among (set xs k t) → AreIndexes tip xs f a i w → AreIndexes tip (set xs k t) f a i w_as
  changed_indexes_as f a i w w_as active inactive waiting are = record {
    free_is = are.free_is ∙ sym changed_free;
    active_is = are.active_is ∙ sym (slots_by_same active_place free_slot refl xs k free_slot lt t active);
    inactive_is = are.inactive_is ∙ sym (slots_where_same (λ s. is_inactive s.state) 0 k xs t free_slot inactive);
    waiting_is = waiting;
  }
