-- Slots that are cut off at the end of the file.
use Rattle.std.proofs.Common.{◌≡◌, ◌∙◌, ℕ, zero, suc, ◌-◌, ◌*◌, ◌<◌, ◌≤◌, ◌&&◌, ◌⊎◌, inl, inr, nat_lt, Bool, true, false, cond, if◌then◌else◌, List, [], ◌∷◌, ◌++◌, length, get_or, take, Some, refl, sym, ap, subst, arith, length-take, length-append}
use Rattle.std.proofs.Math.Seq.{take-suc}
use Rattle.std.proofs.lemmas.List.{append-nil}
use Rattle.std.proofs.lemmas.Option.{slice_get_within, get_or_from_slice_get}
use Rattle.std.specs.List.{All, slice_get}
use Rattle.std.specs.Ordering.{nat_cmp, is_eq}
use Rattle.std.specs.BTreeMap.{is_at}
use Rattle.std.specs.Set.{remove_key}
use Rattle.sled_store.specs.Device.{Cut, Synced}
use Rattle.sled_store.specs.SegmentStates.{SlotState, Machine, Step, slots_where, free_among, free_slot, is_free, left_after, cutting, may_be_cut, followed_by, without_calls}
use Rattle.sled_store.specs.Stabilizing.{cut_back, MayCut, cutting_last, shorter}
use Rattle.sled_store.specs.declared.segment.accountant.SegmentAccountant.{SegmentAccountant}
use Rattle.sled_store.specs.Accounts.{machine_of, IsAccountant, AreSlots}
use Rattle.sled_store.proofs.Accounts.StabilSlots.{first_so, then_so}
use Rattle.std.proofs.lemmas.Bool.{lt-ltb, ltb-true}
use Rattle.sled_store.proofs.Accounts.StabilIndex.{all_pass, where_behind, taken_behind, none_passes, greater_is, same_is}

less_one : (k : ℕ) → suc k - 1 ≡ k
less_one k = omega arith

-- The last slot is cut off, and what may be behind it, or none is.

module _ (size : ℕ) where
  module _ (slots : List SlotState) (cleaner : List (ℕ × List ℕ)) where
    abbrev machine : ℕ → Machine
    machine tip = record { slots = slots; tip = tip; cleaner = cleaner }

    abbrev by_test : ℕ → Bool → Step
    by_test k may = record {
      machine = machine (if may then left_after k slots else suc k);
      calls = if may then Cut (k * size) (k * size) ∷ Synced ∷ cutting size k slots else [];
    }

    none_by : (tip : ℕ) → (MayCut (machine tip) → ⊥) → cut_back size (machine tip) ≡ without_calls (machine tip)
    none_by zero not = refl
    none_by (suc k) not = by (may_be_cut k slots) refl
      where
        by : (b : Bool) → may_be_cut k slots ≡ b → by_test k b ≡ without_calls (machine (suc k))
        by true is = absurd (not (record { some = omega arith; may = ap (λ n. may_be_cut n slots) (less_one k) ∙ is }))
        by false is = refl

    more_by : (tip : ℕ) → MayCut (machine tip) → cut_back size (machine tip) ≡ followed_by (record { machine = shorter (machine tip); calls = cutting_last size (machine tip) }) (cut_back size)
    more_by zero may = absurd (omega (arith, may.some))
    more_by (suc k) may =
        ap (by_test k) (ap (λ n. may_be_cut n slots) (sym (less_one k)) ∙ may.may)
        ∙ ap (λ n. followed_by (record { machine = machine n; calls = Cut (n * size) (n * size) ∷ Synced ∷ [] }) (cut_back size)) (sym (less_one k))

  pub cut_none : (m : Machine) → (MayCut m → ⊥) → cut_back size m ≡ without_calls m
  cut_none m not = none_by m.slots m.cleaner m.tip not

  pub cut_more : (m : Machine) → MayCut m → cut_back size m ≡ followed_by (record { machine = shorter m; calls = cutting_last size m }) (cut_back size)
  cut_more m may = more_by m.slots m.cleaner m.tip may

at_end : (k : ℕ) (l : List ℕ) → slice_get (l ++ k ∷ []) (length l) ≡ Some k
at_end k [] = refl
at_end k (n ∷ l) = at_end k l

-- The last slot, and the list of those that pass a test.
module _ (test : SlotState → Bool) (k : ℕ) (xs : List SlotState) (d : SlotState) (lt : k < length xs) where
  before : List ℕ
  before = slots_where test 0 (take k xs)

  pub with_last : slots_where test 0 (take (suc k) xs) ≡ slots_where test 0 (take k xs) ++ cond (test (get_or xs k d)) (k ∷ []) []
  with_last = ap (slots_where test 0) (take-suc xs k d lt) ∙ where_behind test 0 k (take k xs) (get_or xs k d) (omega (arith, length-take k xs))

  pub all_below : All (λ n. n < k) (slots_where test 0 (take k xs))
  all_below j z below = omega (arith, (all_pass test d 0 (take k xs) j z below).below, length-take k xs)

  pub without_last : test (get_or xs k d) ≡ true → slots_where test 0 (take k xs) ≡ remove_key (is_at (nat_cmp k)) (slots_where test 0 (take (suc k) xs))
  without_last passes =
      sym (ap (remove_key (is_at (nat_cmp k))) (with_last ∙ ap (λ b. slots_where test 0 (take k xs) ++ cond b (k ∷ []) []) passes)
      ∙ taken_behind (is_at (nat_cmp k)) (slots_where test 0 (take k xs)) k
      (none_passes (is_at (nat_cmp k)) (slots_where test 0 (take k xs)) (λ j z below. ap is_eq (greater_is k (get_or (slots_where test 0 (take k xs)) j z) (all_below j z below))))
      (ap is_eq (same_is k k refl)))

  -- it is the last of them exactly where it passes
  pub last_if : test (get_or xs k d) ≡ true → slice_get (slots_where test 0 (take (suc k) xs)) (length (slots_where test 0 (take (suc k) xs)) - 1) ≡ Some k
  last_if passes =
      subst (λ l. slice_get l (length l - 1) ≡ Some k) (sym (with_last ∙ ap (λ b. slots_where test 0 (take k xs) ++ cond b (k ∷ []) []) passes)) (last_behind (slots_where test 0 (take k xs)))
    where
      last_behind : (l : List ℕ) → slice_get (l ++ k ∷ []) (length (l ++ k ∷ []) - 1) ≡ Some k
      last_behind l =
          let at : length (l ++ k ∷ []) - 1 ≡ length l = omega (arith, length-append l (k ∷ [])) in
          ap (slice_get (l ++ k ∷ [])) at ∙ at_end k l

  pub last_only : slice_get (slots_where test 0 (take (suc k) xs)) (length (slots_where test 0 (take (suc k) xs)) - 1) ≡ Some k → test (get_or xs k d) ≡ true
  last_only is = by (test (get_or xs k d)) refl
    where
      by : (b : Bool) → test (get_or xs k d) ≡ b → b ≡ true
      by true same = refl
      by false same =
          let l : List ℕ = slots_where test 0 (take k xs) in
          let at : slice_get l (length l - 1) ≡ Some k = subst (λ (ks : List ℕ). slice_get ks (length ks - 1) ≡ Some k) (with_last ∙ ap (λ b. l ++ cond b (k ∷ []) []) same ∙ append-nil l) is in
          let j : length l - 1 < length l = slice_get_within l (length l - 1) k at in
          absurd (omega (arith, all_below (length l - 1) 0 j, get_or_from_slice_get l (length l - 1) k 0 at))

-- the last slot, or one behind it
last_or : (t n : ℕ) → t ≤ n → (n ≡ t) ⊎ (suc t ≤ n)
last_or zero zero le = inl refl
last_or zero (suc n) le = inr (omega arith)
last_or (suc t) zero le = absurd (omega arith)
last_or (suc t) (suc n) le = elim (last_or t n (omega arith)) [ inl is ↦ inl (ap suc is) | inr less ↦ inr (omega arith) ]

-- The tip is lower by one.
module _ (tip : ℕ) (xs : List SlotState) (slots : AreSlots tip xs) (some : 0 < tip) (may : may_be_cut (tip - 1) xs ≡ true) where
  last_free : is_free (get_or xs (tip - 1) free_slot).state ≡ true
  last_free = first_so (is_free (get_or xs (tip - 1) free_slot).state) (nat_lt 1 (length (free_among (take (suc (tip - 1)) xs)))) may

  again : suc (tip - 1) ≡ tip
  again = omega arith

  pub shorter_slots : AreSlots (tip - 1) xs
  shorter_slots = record {
    within = omega (arith, slots.within);
    cut_off = λ n from. elim (last_or (tip - 1) n from) [
      | inl is ↦ subst (λ m. is_free (get_or xs m free_slot).state ≡ true) (sym is) last_free
      | inr above ↦ slots.cut_off n (omega (arith, again))
    ];
    free_slots = slots.free_slots;
    places = slots.places;
  }

  pub shorter_free : free_among (take (tip - 1) xs) ≡ remove_key (is_at (nat_cmp (tip - 1))) (free_among (take tip xs))
  shorter_free =
      without_last (λ s. is_free s.state) (tip - 1) xs free_slot (omega (arith, slots.within)) last_free
      ∙ ap (λ n. remove_key (is_at (nat_cmp (tip - 1))) (free_among (take n xs))) again

pub shorter_account : (size : ℕ) (a : SegmentAccountant) (f : List ℕ × ℕ) → IsAccountant size a → MayCut (machine_of a) → f.0 ≡ remove_key (is_at (nat_cmp (a.tip - 1))) a.free.0 → f.1 ≡ a.free.1
    → IsAccountant size (record a { tip = a.tip - 1; free = f })
shorter_account size a f is may keys room = record {
  size_is = is.size_is;
  some = is.some;
  small = is.small;
  in_reach = is.in_reach;
  slots = shorter_slots a.tip (machine_of a).slots is.slots may.some may.may;
  indexes = record {
    free_is = keys ∙ ap (remove_key (is_at (nat_cmp (a.tip - 1)))) is.indexes.free_is ∙ sym (shorter_free a.tip (machine_of a).slots is.slots may.some may.may);
    active_is = is.indexes.active_is;
    inactive_is = is.indexes.inactive_is;
    waiting_is = is.indexes.waiting_is;
  };
  cleaner = is.cleaner;
  room_to_drain = is.room_to_drain;
  rooms = record {
    free = omega (arith, is.rooms.free, room);
    active = is.rooms.active;
    inactive = is.rooms.inactive;
    waiting = is.rooms.waiting;
  };
}

-- Whether the last slot may be cut off, as the list of free slots shows it.
module _ (m : Machine) (slots : AreSlots m.tip m.slots) (free : List ℕ) (is : free ≡ free_among (take m.tip m.slots)) where
  more_than_one : MayCut m → 1 < length free
  more_than_one may =
      let again : suc (m.tip - 1) ≡ m.tip = omega (arith, may.some) in
      let some : 1 < length (free_among (take (suc (m.tip - 1)) m.slots)) = ltb-true 1 (length (free_among (take (suc (m.tip - 1)) m.slots))) (then_so (is_free (get_or m.slots (m.tip - 1) free_slot).state) (nat_lt 1 (length (free_among (take (suc (m.tip - 1)) m.slots)))) may.may) in
      omega (arith, some, ap (λ n. length (free_among (take n m.slots))) again, ap length is)

  pub one_only : length free ≤ 1 → MayCut m → ⊥
  one_only few may = omega (arith, more_than_one may)

  pub is_last : MayCut m → slice_get free (length free - 1) ≡ Some (m.tip - 1)
  is_last may =
      let again : suc (m.tip - 1) ≡ m.tip = omega (arith, may.some) in
      let passes : is_free (get_or m.slots (m.tip - 1) free_slot).state ≡ true = first_so (is_free (get_or m.slots (m.tip - 1) free_slot).state) (nat_lt 1 (length (free_among (take (suc (m.tip - 1)) m.slots)))) may.may in
      subst (λ (l : List ℕ). slice_get l (length l - 1) ≡ Some (m.tip - 1)) (ap (λ n. free_among (take n m.slots)) again ∙ sym is)
      (last_if (λ s. is_free s.state) (m.tip - 1) m.slots free_slot (omega (arith, may.some, slots.within)) passes)

  pub below_tip : (last : ℕ) → slice_get free (length free - 1) ≡ Some last → last < m.tip
  below_tip last at =
      let l : List ℕ = free_among (take m.tip m.slots) in
      let there : slice_get l (length l - 1) ≡ Some last = subst (λ (ks : List ℕ). slice_get ks (length ks - 1) ≡ Some last) is at in
      let j : length l - 1 < length l = slice_get_within l (length l - 1) last there in
      omega (arith, (all_pass (λ s. is_free s.state) free_slot 0 (take m.tip m.slots) (length l - 1) 0 j).below, get_or_from_slice_get l (length l - 1) last 0 there, length-take m.tip m.slots)

  pub may_cut : (last : ℕ) → slice_get free (length free - 1) ≡ Some last → 1 < length free → last ≡ m.tip - 1 → MayCut m
  may_cut last at more same =
      let low : last < m.tip = below_tip last at in
      let again : suc (m.tip - 1) ≡ m.tip = omega arith in
      let long : m.tip - 1 < length m.slots = omega (arith, slots.within) in
      let list : free ≡ free_among (take (suc (m.tip - 1)) m.slots) = is ∙ ap (λ n. free_among (take n m.slots)) (sym again) in
      let passes : is_free (get_or m.slots (m.tip - 1) free_slot).state ≡ true =
      last_only (λ s. is_free s.state) (m.tip - 1) m.slots free_slot long (subst (λ (l : List ℕ). slice_get l (length l - 1) ≡ Some (m.tip - 1)) list (at ∙ ap Some same)) in
      let two : nat_lt 1 (length (free_among (take (suc (m.tip - 1)) m.slots))) ≡ true = lt-ltb 1 (length (free_among (take (suc (m.tip - 1)) m.slots))) (omega (arith, ap length list)) in
      record { some = omega arith; may = ap (λ b. b && nat_lt 1 (length (free_among (take (suc (m.tip - 1)) m.slots)))) passes ∙ two }
