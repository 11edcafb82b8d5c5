-- A slot is handed out: which one it is, and what becomes of the indexes.
use Rattle.std.proofs.Common.{◌≡◌, ◌≢◌, ◌∙◌, ◌⊎◌, ◌≤◌, ◌<◌, ◌+◌, ◌-◌, ◌^◌, ℕ, zero, suc, max, Bool, true, false, cond, List, [], ◌∷◌, ◌++◌, length, get_or, set, take, refl, sym, ap, subst, inl, inr, arith, length-take, length-set, length-append, get_or-set_same, get_or-set_other, get_or-take}
use Rattle.std.proofs.lemmas.List.{take-append-le}
use Rattle.std.proofs.Math.Seq.{take-suc-set}
use Rattle.std.specs.List.{slice_get}
use Rattle.std.specs.Option.{unwrap_or}
use Rattle.std.specs.Ordering.{nat_cmp}
use Rattle.std.specs.BTreeMap.{is_at}
use Rattle.std.specs.BTreeSet.{insert_key}
use Rattle.std.specs.Set.{remove_key}
use Rattle.sled_store.specs.Begin.{first_or}
use Rattle.sled_store.specs.SegmentStates.{SlotState, slots_where, free_among, is_free, is_inactive, active_place, waited_place, free_slot, taken_slot, by_place}
use Rattle.sled_store.specs.Accounts.{AreSlots, AreIndexes}
use Rattle.sled_store.proofs.Accounts.IndexLemmas.{slots_where_same, slots_where_less, slots_where_push, slots_by_same, slots_by_more, slots_by_push}

-- the first of a list, or another
pub first_is : (l : List ℕ) (n : ℕ) → unwrap_or (slice_get l 0) n ≡ first_or n l
first_is [] n = refl
first_is (k ∷ l) n = refl

-- the first slot that passes
first_passes : (test : SlotState → Bool) (d : SlotState) (i k : ℕ) (ks : List ℕ) (xs : List SlotState) → slots_where test i xs ≡ k ∷ ks → (i ≤ k) × (k < i + length xs) × (test (get_or xs (k - i) d) ≡ true)
first_passes test d i k ks [] is = absurd (cc)
first_passes test d i k ks (x ∷ xs) is = by (test x) refl (first_passes test d (suc i) k ks xs) is
  where
    by : (b : Bool) → test x ≡ b → ((slots_where test (suc i) xs ≡ k ∷ ks) → (suc i ≤ k) × (k < suc i + length xs) × (test (get_or xs (k - suc i) d) ≡ true)) → cond b (i ∷ slots_where test (suc i) xs) (slots_where test (suc i) xs) ≡ k ∷ ks → (i ≤ k) × (k < i + suc (length xs)) × (test (get_or (x ∷ xs) (k - i) d) ≡ true)
    by true passes further found =
        let here : i ≡ k = cc in
        let none : k - i ≡ 0 = omega arith in (omega arith, omega arith, subst (λ n. test (get_or (x ∷ xs) n d) ≡ true) (sym none) passes)
    by false fails further found =
        let rest = further found in
        let low : suc i ≤ k = rest.0 in
        let more : k - i ≡ suc (k - suc i) = omega arith in (omega arith, omega (arith, rest.1), subst (λ n. test (get_or (x ∷ xs) n d) ≡ true) (sym more) rest.2)

-- The slot that is next: a free one below the tip, or else the one at the tip.
pub record IsNext (tip : ℕ) (xs : List SlotState) (k : ℕ) : Type 0 where
  pub within : k ≤ tip
  pub is_free : is_free (get_or xs k free_slot).state ≡ true
  pub at_tip : (k < tip) ⊎ ((k ≡ tip) × (free_among (take tip xs) ≡ []))

pub next_is : (tip : ℕ) (xs : List SlotState) → AreSlots tip xs → IsNext tip xs (first_or tip (free_among (take tip xs)))
next_is tip xs are = by (free_among (take tip xs)) refl
  where
    by : (l : List ℕ) → free_among (take tip xs) ≡ l → IsNext tip xs (first_or tip l)
    by [] is = record { within = omega arith; is_free = are.cut_off tip (omega arith); at_tip = inr (refl, is) }
    by (k ∷ ks) is =
        let first = first_passes (λ s. is_free s.state) free_slot 0 k ks (take tip xs) is in
        let low : k < tip = omega (arith, first.1, length-take tip xs) in
        let none : k - 0 ≡ k = omega arith in
        record {
          within = omega arith;
          is_free = subst (λ (s : SlotState). is_free s.state ≡ true) (get_or-take tip xs k free_slot low) (subst (λ n. is_free (get_or (take tip xs) n free_slot).state ≡ true) none first.2);
          at_tip = inl low;
        }

pub take-set-lt : {A : Type 0} (n : ℕ) (xs : List A) (k : ℕ) (x : A) → take n (set xs k x) ≡ set (take n xs) k x
take-set-lt zero xs k x = refl
take-set-lt (suc n) [] k x = refl
take-set-lt (suc n) (y ∷ ys) zero x = refl
take-set-lt (suc n) (y ∷ ys) (suc k) x = ap (λ l. y ∷ l) (take-set-lt n ys k x)

pub cases_eq : (n k : ℕ) → (n ≡ k) ⊎ (n ≢ k)
cases_eq zero zero = inl refl
cases_eq zero (suc k) = inr (omega arith)
cases_eq (suc n) zero = inr (omega arith)
cases_eq (suc n) (suc k) = elim (cases_eq n k) [ inl is ↦ inl (ap suc is) | inr differ ↦ inr (λ is. differ (omega arith)) ]

-- handing out a slot
module _ (tip : ℕ) (xs : List SlotState) (k place : ℕ) (slots : AreSlots tip xs) (next : IsNext tip xs k) (lt : k < length xs) (small : place < 2 ^ 63) where
  other : (n : ℕ) → (n ≢ k) → get_or (set xs k (taken_slot place)) n free_slot ≡ get_or xs n free_slot
  other n differ = get_or-set_other xs k n (taken_slot place) free_slot differ

  same : get_or (set xs k (taken_slot place)) k free_slot ≡ taken_slot place
  same = get_or-set_same xs k (taken_slot place) free_slot lt

  was_free : get_or xs k free_slot ≡ free_slot
  was_free = slots.free_slots k next.is_free

  by_slot : (P : ℕ → SlotState → Type 0) → P k (taken_slot place) → ((n : ℕ) → n ≢ k → P n (get_or xs n free_slot)) → (n : ℕ) → P n (get_or (set xs k (taken_slot place)) n free_slot)
  by_slot P here there n = elim (cases_eq n k) [
    | inl is ↦ subst (λ m. P m (get_or (set xs k (taken_slot place)) m free_slot)) (sym is) (subst (P k) (sym same) here)
    | inr differ ↦ subst (P n) (sym (other n differ)) (there n differ)
  ]

  pub handed_slots : AreSlots (max tip (k + 1)) (set xs k (taken_slot place))
  handed_slots = record {
    within = omega (arith, slots.within, length-set xs k (taken_slot place));
    cut_off = λ n from.
        let differ : n ≢ k = omega arith in
        let above : tip ≤ n = omega arith in
        subst (λ (s : SlotState). is_free s.state ≡ true) (sym (other n differ)) (slots.cut_off n above);
    free_slots = by_slot (λ n s. is_free s.state ≡ true → s ≡ free_slot) (λ no_more. absurd (cc)) (λ n differ. slots.free_slots n);
    places = by_slot (λ n s. s.lsn < 2 ^ 63) small (λ n differ. slots.places n);
  }

  handed_free : free_among (take (max tip (k + 1)) (set xs k (taken_slot place))) ≡ remove_key (is_at (nat_cmp k)) (free_among (take tip xs))
  handed_free = elim next.at_tip [
    | inl below ↦
        let top : max tip (k + 1) ≡ tip = omega arith in
        let long : k < length (take tip xs) = omega (arith, length-take tip xs, slots.within) in
        ap (λ n. free_among (take n (set xs k (taken_slot place)))) top ∙ ap free_among (take-set-lt tip xs k (taken_slot place))
        ∙ slots_where_less (λ s. is_free s.state) 0 k k (take tip xs) (taken_slot place) (omega arith) long refl
    | inr at ↦
        let top : max tip (k + 1) ≡ suc k = omega (arith, at.0) in
        ap (λ n. free_among (take n (set xs k (taken_slot place)))) top ∙ ap free_among (take-suc-set xs k (taken_slot place) lt)
        ∙ slots_where_push (λ s. is_free s.state) 0 (take k xs) (taken_slot place) refl
        ∙ ap (λ n. free_among (take n xs)) at.0 ∙ at.1 ∙ sym (ap (remove_key (is_at (nat_cmp k))) at.1)
  ]

  pub handed_indexes : (free : List ℕ) (active : List (ℕ × ℕ)) (inactive : List ℕ) (waiting : List (ℕ × ℕ)) → AreIndexes tip xs free active inactive waiting
      → AreIndexes (max tip (k + 1)) (set xs k (taken_slot place)) (remove_key (is_at (nat_cmp k)) free) (insert_key by_place active (place, k)) inactive waiting
  handed_indexes free active inactive waiting are = record {
    free_is = ap (remove_key (is_at (nat_cmp k))) are.free_is ∙ sym handed_free;
    active_is = ap (λ l. insert_key by_place l (place, k)) are.active_is ∙ sym (slots_by_more active_place free_slot refl xs k free_slot lt (taken_slot place) place (ap active_place was_free) refl);
    inactive_is = are.inactive_is ∙ sym (slots_where_same (λ s. is_inactive s.state) 0 k xs (taken_slot place) free_slot (sym (ap (λ s. is_inactive s.state) was_free)));
    waiting_is = are.waiting_is ∙ sym (slots_by_same waited_place free_slot refl xs k free_slot lt (taken_slot place) (sym (ap waited_place was_free)));
  }

-- A slot more, behind all others.
module _ (tip : ℕ) (xs : List SlotState) (slots : AreSlots tip xs) where
  front : take tip (xs ++ free_slot ∷ []) ≡ take tip xs
  front = take-append-le tip xs (free_slot ∷ []) slots.within

  pub pushed_slots : AreSlots tip (xs ++ free_slot ∷ [])
  pushed_slots = record {
    within = omega (arith, slots.within, length-append xs (free_slot ∷ []));
    cut_off = λ n from. subst (λ (s : SlotState). is_free s.state ≡ true) (sym (unchanged xs n)) (slots.cut_off n from);
    free_slots = λ n. subst (λ (s : SlotState). is_free s.state ≡ true → s ≡ free_slot) (sym (unchanged xs n)) (slots.free_slots n);
    places = λ n. subst (λ (s : SlotState). s.lsn < 2 ^ 63) (sym (unchanged xs n)) (slots.places n);
  } where
    unchanged : (ys : List SlotState) (n : ℕ) → get_or (ys ++ free_slot ∷ []) n free_slot ≡ get_or ys n free_slot
    unchanged [] zero = refl
    unchanged [] (suc n) = refl
    unchanged (y ∷ ys) zero = refl
    unchanged (y ∷ ys) (suc n) = unchanged ys n

  pub pushed_indexes : (free : List ℕ) (active : List (ℕ × ℕ)) (inactive : List ℕ) (waiting : List (ℕ × ℕ)) → AreIndexes tip xs free active inactive waiting → AreIndexes tip (xs ++ free_slot ∷ []) free active inactive waiting
  pushed_indexes free active inactive waiting are = record {
    free_is = are.free_is ∙ ap free_among (sym front);
    active_is = are.active_is ∙ sym (slots_by_push active_place free_slot refl 0 xs);
    inactive_is = are.inactive_is ∙ sym (slots_where_push (λ s. is_inactive s.state) 0 xs free_slot refl);
    waiting_is = are.waiting_is ∙ sym (slots_by_push waited_place free_slot refl 0 xs);
  }

set_behind : {A : Type 0} (xs : List A) (x y : A) → set (xs ++ x ∷ []) (length xs) y ≡ xs ++ y ∷ []
set_behind [] x y = refl
set_behind (z ∷ xs) x y = ap (λ l. z ∷ l) (set_behind xs x y)

-- lists that are the same
pub indexes_same : (tip tip_as : ℕ) (xs : List SlotState) (f f_as : List ℕ) (a a_as : List (ℕ × ℕ)) (i i_as : List ℕ) (w w_as : List (ℕ × ℕ)) → AreIndexes tip xs f a i w
    → tip_as ≡ tip → f_as ≡ f → a_as ≡ a → i_as ≡ i → w_as ≡ w → AreIndexes tip_as xs f_as a_as i_as w_as
indexes_same tip tip_as xs f f_as a a_as i i_as w w_as are at free active inactive waiting = record {
  free_is = free ∙ are.free_is ∙ ap (λ n. free_among (take n xs)) (sym at);
  active_is = active ∙ are.active_is;
  inactive_is = inactive ∙ are.inactive_is;
  waiting_is = waiting ∙ are.waiting_is;
}
