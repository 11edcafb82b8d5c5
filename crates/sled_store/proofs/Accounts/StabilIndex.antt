-- What the lists read off the slots hold, and what becomes of them when a slot leaves one of them or gets into it.
use Rattle.std.proofs.Common.{◌≡◌, ◌∙◌, ℕ, zero, suc, ◌+◌, ◌-◌, ◌<◌, ◌≤◌, Bool, true, false, cond, ◌||◌, List, [], ◌∷◌, ◌++◌, length, get_or, set, take, Option, None, Some, refl, sym, ap, subst, arith, get_or-set_same}
use Rattle.std.specs.List.{All, list_any}
use Rattle.std.specs.List.Sorted.{IsStrictlySortedBy}
use Rattle.std.specs.declared.cmp.Ordering.{Ordering}
use Rattle.std.specs.declared.cmp.Ordering.TheVariants.{Less, Equal, Greater}
use Rattle.std.specs.Ordering.{ordering_then, match_ordering, is_eq, nat_cmp}
use Rattle.std.specs.Cmp.{IsTotalOrder}
use Rattle.std.specs.BTreeMap.{is_at}
use Rattle.std.specs.BTreeSet.{insert_key}
use Rattle.std.specs.Set.{remove_key}
use Rattle.std.proofs.lemmas.Cmp.{ranked, tied_itself}
use Rattle.std.proofs.lemmas.Bool.Decides.{nat_tests}
use Rattle.std.proofs.lemmas.List.Elements.{All-cons, All-tail}
use Rattle.std.proofs.lemmas.Map.Views.{All-insert_key}
use Rattle.sled_store.proofs.Sorted.SortedLemmas.{sorted_nil, sorted_insert}
use Rattle.sled_store.proofs.Accounts.IndexLemmas.{by_place_total, slots_by_set, slots_by_was}
use Rattle.sled_store.specs.SegmentStates.{SlotState, slots_where, slots_by, beside, by_place}
pub use Rattle.sled_store.proofs.Accounts.IndexLemmas.{greater_is}

all_of_none : {A : Type 0} (P : A → Type 0) → All P []
all_of_none P k d lt = absurd (omega arith)

-- A key that was missing is put in and taken out again.
module _ {K : Type 0} {R : K → K → Ordering} (o : IsTotalOrder R) (x : K) where
  pub taken_out_again : (l : List K) → list_any (is_at (R x)) l ≡ false → remove_key (is_at (R x)) (insert_key R l x) ≡ l
  taken_out_again [] lacks = ap (λ r. cond (is_eq r) [] (x ∷ [])) (tied_itself o x)
  taken_out_again (y ∷ ys) lacks = by (R x y) refl lacks (taken_out_again ys)
    where
      by : (r : Ordering) → R x y ≡ r → (is_eq r || list_any (is_at (R x)) ys) ≡ false → (list_any (is_at (R x)) ys ≡ false → remove_key (is_at (R x)) (insert_key R ys x) ≡ ys)
          → remove_key (is_at (R x)) (match_ordering r (x ∷ y ∷ ys) (y ∷ ys) (y ∷ insert_key R ys x)) ≡ y ∷ ys
      by Less is none further = ap (λ r. cond (is_eq r) (y ∷ ys) (x ∷ remove_key (is_at (R x)) (y ∷ ys))) (tied_itself o x)
      by Equal is none further = absurd (cc)
      by Greater is none further = ap (λ r. cond (is_eq r) (insert_key R ys x) (y ∷ remove_key (is_at (R x)) (insert_key R ys x))) is ∙ ap (λ l. y ∷ l) (further none)

-- a key at the end is taken out, where no other passes
pub taken_behind : {K : Type 0} (test : K → Bool) (l : List K) (x : K) → list_any test l ≡ false → test x ≡ true → remove_key test (l ++ x ∷ []) ≡ l
taken_behind test [] x none passes = ap (λ b. cond b [] (x ∷ [])) passes
taken_behind test (y ∷ ys) x none passes = by (test y) none (λ h. taken_behind test ys x h passes)
  where
    by : (b : Bool) → (b || list_any test ys) ≡ false → (list_any test ys ≡ false → remove_key test (ys ++ x ∷ []) ≡ ys) → cond b (ys ++ x ∷ []) (y ∷ remove_key test (ys ++ x ∷ [])) ≡ y ∷ ys
    by true h further = absurd (cc)
    by false h further = ap (λ l. y ∷ l) (further h)

-- none of these passes
pub none_passes : {K : Type 0} (test : K → Bool) (l : List K) → All (λ x. test x ≡ false) l → list_any test l ≡ false
none_passes test [] all = refl
none_passes test (x ∷ xs) all = ap (λ b. b || list_any test xs) (all 0 x (omega arith)) ∙ none_passes test xs (All-tail (λ y. test y ≡ false) x xs all)

-- A slot that is in the list of those that have a place: it has that one.
pub record HasPlace (f : SlotState → Option ℕ) (i : ℕ) (xs : List SlotState) (d : SlotState) (w : ℕ × ℕ) : Type 0 where
  pub from : i ≤ w.1
  pub below : w.1 < i + length xs
  pub place : f (get_or xs (w.1 - i) d) ≡ Some w.0

module _ (f : SlotState → Option ℕ) (d : SlotState) where
  further_on : (i : ℕ) (x : SlotState) (xs : List SlotState) (l : List (ℕ × ℕ)) → All (HasPlace f (suc i) xs d) l → All (HasPlace f i (x ∷ xs) d) l
  further_on i x xs l all k z lt =
      let has = all k z lt in
      let low : suc i ≤ (get_or l k z).1 = has.from in
      let n : (get_or l k z).1 - i ≡ suc ((get_or l k z).1 - suc i) = omega arith in
      record { from = omega arith; below = omega (arith, has.below); place = subst (λ m. f (get_or (x ∷ xs) m d) ≡ Some (get_or l k z).0) (sym n) has.place }

  pub have_places : (i : ℕ) (xs : List SlotState) → All (HasPlace f i xs d) (slots_by f i xs)
  have_places i [] = all_of_none (HasPlace f i [] d)
  have_places i (x ∷ xs) = by (f x) refl (further_on i x xs (slots_by f (suc i) xs) (have_places (suc i) xs))
    where
      by : (p : Option ℕ) → f x ≡ p → All (HasPlace f i (x ∷ xs) d) (slots_by f (suc i) xs) → All (HasPlace f i (x ∷ xs) d) (beside p i (slots_by f (suc i) xs))
      by None is more = more
      by (Some p) is more =
          let none : i - i ≡ 0 = omega arith in
          All-insert_key by_place (p, i) (HasPlace f i (x ∷ xs) d) (slots_by f (suc i) xs) more
          (record { from = omega arith; below = omega arith; place = subst (λ m. f (get_or (x ∷ xs) m d) ≡ Some p) (sym none) is })

  pub sorted_slots_by : (i : ℕ) (xs : List SlotState) → IsStrictlySortedBy by_place (slots_by f i xs)
  sorted_slots_by i [] = sorted_nil by_place
  sorted_slots_by i (x ∷ xs) = by (f x) (sorted_slots_by (suc i) xs)
    where
      by : (p : Option ℕ) → IsStrictlySortedBy by_place (slots_by f (suc i) xs) → IsStrictlySortedBy by_place (beside p i (slots_by f (suc i) xs))
      by None s = s
      by (Some p) s = sorted_insert by_place_total (p, i) (slots_by f (suc i) xs) s

-- slots that differ make keys that differ
pub apart_at : (p q : ℕ × ℕ) → (q.1 ≡ p.1 → ⊥) → is_eq (by_place p q) ≡ false
apart_at p q differ = by (nat_cmp p.0 q.0)
  where
    last : (r : Ordering) → nat_cmp p.1 q.1 ≡ r → is_eq r ≡ false
    last Less is = refl
    last Equal is = absurd (differ (sym (ranked p.1 q.1 Equal (sym is))))
    last Greater is = refl

    by : (r : Ordering) → is_eq (ordering_then r (nat_cmp p.1 q.1)) ≡ false
    by Less = refl
    by Equal = last (nat_cmp p.1 q.1) refl
    by Greater = refl

-- a slot no longer has a place
module _ (f : SlotState → Option ℕ) (z : SlotState) (lacks : f z ≡ None) (xs : List SlotState) (k : ℕ) (d : SlotState) (lt : k < length xs) where
  others : List (ℕ × ℕ)
  others = slots_by f 0 (set xs k z)

  not_there : (p : ℕ) → list_any (is_at (by_place (p, k))) (slots_by f 0 (set xs k z)) ≡ false
  not_there p = none_passes (is_at (by_place (p, k))) (slots_by f 0 (set xs k z)) (λ j w below.
      apart_at (p, k) (get_or (slots_by f 0 (set xs k z)) j w) (λ same.
      let has = have_places f z 0 (set xs k z) j w below in
      let none : f z ≡ Some (get_or (slots_by f 0 (set xs k z)) j w).0 = place_is (get_or (slots_by f 0 (set xs k z)) j w) same has in absurd (cc)))
    where
      place_is : (w : ℕ × ℕ) → w.1 ≡ k → HasPlace f 0 (set xs k z) z w → f z ≡ Some w.0
      place_is w same has =
          let n : w.1 - 0 ≡ k = omega (arith, same) in
          ap f (sym (get_or-set_same xs k z z lt)) ∙ ap (λ m. f (get_or (set xs k z) m z)) (sym n) ∙ has.place

  pub slots_by_less : (s : SlotState) (p : ℕ) → f (get_or xs k d) ≡ Some p → f s ≡ None → slots_by f 0 (set xs k s) ≡ remove_key (is_at (by_place (p, k))) (slots_by f 0 xs)
  slots_by_less s p had has =
      slots_by_set f z s lacks 0 k k xs (omega arith) lt ∙ ap (λ w. beside w k (slots_by f 0 (set xs k z))) has
      ∙ sym (ap (remove_key (is_at (by_place (p, k)))) (slots_by_was f z lacks xs k d lt ∙ ap (λ w. beside w k (slots_by f 0 (set xs k z))) had)
      ∙ taken_out_again by_place_total (p, k) (slots_by f 0 (set xs k z)) (not_there p))

-- Numbers that are compared.

pub less_is : (n i : ℕ) → n < i → nat_cmp n i ≡ Less
less_is n i lt = grind (arith, nat_tests)

pub same_is : (n i : ℕ) → n ≡ i → nat_cmp n i ≡ Equal
same_is n i same = grind (arith, nat_tests)

-- Slots that pass a test.

pub record Passes (test : SlotState → Bool) (i : ℕ) (xs : List SlotState) (d : SlotState) (n : ℕ) : Type 0 where
  pub from : i ≤ n
  pub below : n < i + length xs
  pub passes : test (get_or xs (n - i) d) ≡ true

module _ (test : SlotState → Bool) where
  pub all_pass : (d : SlotState) (i : ℕ) (xs : List SlotState) → All (Passes test i xs d) (slots_where test i xs)
  all_pass d i [] = all_of_none (Passes test i [] d)
  all_pass d i (x ∷ xs) = by (test x) refl (more (all_pass d (suc i) xs))
    where
      more : All (Passes test (suc i) xs d) (slots_where test (suc i) xs) → All (Passes test i (x ∷ xs) d) (slots_where test (suc i) xs)
      more all k z lt =
          let has = all k z lt in
          let low : suc i ≤ get_or (slots_where test (suc i) xs) k z = has.from in
          let n : get_or (slots_where test (suc i) xs) k z - i ≡ suc (get_or (slots_where test (suc i) xs) k z - suc i) = omega arith in
          record { from = omega arith; below = omega (arith, has.below); passes = subst (λ m. test (get_or (x ∷ xs) m d) ≡ true) (sym n) has.passes }

      by : (b : Bool) → test x ≡ b → All (Passes test i (x ∷ xs) d) (slots_where test (suc i) xs) → All (Passes test i (x ∷ xs) d) (cond b (i ∷ slots_where test (suc i) xs) (slots_where test (suc i) xs))
      by true is rest =
          let none : i - i ≡ 0 = omega arith in
          All-cons (Passes test i (x ∷ xs) d) i (slots_where test (suc i) xs) (record { from = omega arith; below = omega arith; passes = subst (λ m. test (get_or (x ∷ xs) m d) ≡ true) (sym none) is }) rest
      by false is rest = rest

  put_front : (i n : ℕ) (xs : List SlotState) → n < i → insert_key nat_cmp (slots_where test i xs) n ≡ n ∷ slots_where test i xs
  put_front i n [] lt = refl
  put_front i n (x ∷ xs) lt = by (test x) (put_front (suc i) n xs (omega arith))
    where
      by : (b : Bool) → insert_key nat_cmp (slots_where test (suc i) xs) n ≡ n ∷ slots_where test (suc i) xs
          → insert_key nat_cmp (cond b (i ∷ slots_where test (suc i) xs) (slots_where test (suc i) xs)) n ≡ n ∷ cond b (i ∷ slots_where test (suc i) xs) (slots_where test (suc i) xs)
      by true h = ap (λ r. match_ordering r (n ∷ i ∷ slots_where test (suc i) xs) (i ∷ slots_where test (suc i) xs) (i ∷ insert_key nat_cmp (slots_where test (suc i) xs) n)) (less_is n i lt)
      by false h = h

  -- a slot begins to pass
  pub slots_where_more : (i k n : ℕ) (xs : List SlotState) (s : SlotState) → n ≡ i + k → k < length xs → test s ≡ true → slots_where test i (set xs k s) ≡ insert_key nat_cmp (slots_where test i xs) n
  slots_where_more i k n [] s at lt passes = absurd (omega arith)
  slots_where_more i zero n (x ∷ xs) s at lt passes =
      let here : i ≡ n = omega arith in
      ap (λ b. cond b (i ∷ slots_where test (suc i) xs) (slots_where test (suc i) xs)) passes ∙ by (test x) here
    where
      by : (b : Bool) → i ≡ n → i ∷ slots_where test (suc i) xs ≡ insert_key nat_cmp (cond b (i ∷ slots_where test (suc i) xs) (slots_where test (suc i) xs)) n
      by true here = sym (ap (λ r. match_ordering r (n ∷ i ∷ slots_where test (suc i) xs) (i ∷ slots_where test (suc i) xs) (i ∷ insert_key nat_cmp (slots_where test (suc i) xs) n)) (same_is n i (sym here)))
      by false here = ap (λ m. m ∷ slots_where test (suc i) xs) here ∙ sym (put_front (suc i) n xs (omega (arith, here)))
  slots_where_more i (suc k) n (x ∷ xs) s at lt passes = by (test x) (slots_where_more (suc i) k n xs s (omega arith) (omega arith) passes)
    where
      by : (b : Bool) → slots_where test (suc i) (set xs k s) ≡ insert_key nat_cmp (slots_where test (suc i) xs) n
          → cond b (i ∷ slots_where test (suc i) (set xs k s)) (slots_where test (suc i) (set xs k s)) ≡ insert_key nat_cmp (cond b (i ∷ slots_where test (suc i) xs) (slots_where test (suc i) xs)) n
      by true h =
          ap (λ l. i ∷ l) h
          ∙ sym (ap (λ r. match_ordering r (n ∷ i ∷ slots_where test (suc i) xs) (i ∷ slots_where test (suc i) xs) (i ∷ insert_key nat_cmp (slots_where test (suc i) xs) n)) (greater_is n i (omega arith)))
      by false h = h

  -- one more slot, behind all others
  pub where_behind : (i n : ℕ) (xs : List SlotState) (s : SlotState) → n ≡ i + length xs → slots_where test i (xs ++ s ∷ []) ≡ slots_where test i xs ++ cond (test s) (n ∷ []) []
  where_behind i n [] s at = let here : i ≡ n = omega arith in ap (λ m. cond (test s) (m ∷ []) []) here
  where_behind i n (x ∷ xs) s at = by (test x) (where_behind (suc i) n xs s (omega arith))
    where
      by : (b : Bool) → slots_where test (suc i) (xs ++ s ∷ []) ≡ slots_where test (suc i) xs ++ cond (test s) (n ∷ []) []
          → cond b (i ∷ slots_where test (suc i) (xs ++ s ∷ [])) (slots_where test (suc i) (xs ++ s ∷ [])) ≡ cond b (i ∷ slots_where test (suc i) xs) (slots_where test (suc i) xs) ++ cond (test s) (n ∷ []) []
      by true h = ap (λ l. i ∷ l) h
      by false h = h

  -- all slots from the n-th on pass
  pub where_rest : (i n : ℕ) (xs : List SlotState) (d : SlotState) → n ≤ length xs → ((k : ℕ) → n ≤ k → k < length xs → test (get_or xs k d) ≡ true) → length (slots_where test i xs) ≡ length (slots_where test i (take n xs)) + (length xs - n)
  where_rest i zero [] d le pass = refl
  where_rest i (suc n) [] d le pass = absurd (omega arith)
  where_rest i zero (x ∷ xs) d le pass =
      let all = where_rest (suc i) 0 xs d (omega arith) (λ k from lt. pass (suc k) (omega arith) (omega arith)) in
      let same : length (slots_where test i (x ∷ xs)) ≡ suc (length (slots_where test (suc i) xs)) = ap (λ b. length (cond b (i ∷ slots_where test (suc i) xs) (slots_where test (suc i) xs))) (pass 0 (omega arith) (omega arith)) in
      omega (arith, same, all)
  where_rest i (suc n) (x ∷ xs) d le pass = by (test x) (where_rest (suc i) n xs d (omega arith) (λ k from lt. pass (suc k) (omega arith) (omega arith)))
    where
      by : (b : Bool) → length (slots_where test (suc i) xs) ≡ length (slots_where test (suc i) (take n xs)) + (length xs - n)
          → length (cond b (i ∷ slots_where test (suc i) xs) (slots_where test (suc i) xs)) ≡ length (cond b (i ∷ slots_where test (suc i) (take n xs)) (slots_where test (suc i) (take n xs))) + (suc (length xs) - suc n)
      by true h = omega arith
      by false h = omega arith
