-- What becomes of the lists that are read off the slots when one slot changes.
use Rattle.std.proofs.Common.{◌≡◌, ◌∙◌, ℕ, zero, suc, ◌+◌, ◌<◌, ◌≤◌, Bool, true, false, cond, List, [], ◌∷◌, ◌++◌, length, get_or, set, Option, None, Some, refl, sym, ap, arith}
use Rattle.std.specs.declared.cmp.Ordering.{Ordering}
use Rattle.std.specs.declared.cmp.Ordering.TheVariants.{Less, Equal, Greater}
use Rattle.std.specs.Ordering.{ordering_reverse, ordering_then, match_ordering, is_eq, nat_cmp}
use Rattle.std.specs.Cmp.{IsTotalOrder}
use Rattle.std.specs.BTreeMap.{is_at}
use Rattle.std.specs.BTreeSet.{insert_key}
use Rattle.std.specs.Set.{remove_key}
use Rattle.std.proofs.lemmas.Cmp.{ranked, nat_cmp_total, then_total, on_total}
use Rattle.std.proofs.lemmas.Bool.Decides.{nat_tests}
use Rattle.sled_store.proofs.Sorted.SortedLemmas.{length_inserted}
use Rattle.sled_store.specs.SegmentStates.{SlotState, slots_where, slots_by, beside, by_place}

-- Numbers that are compared.

pub less_is : (n i : ℕ) → n < i → nat_cmp n i ≡ Less
less_is n i lt = grind (arith, nat_tests)

pub same_is : (n i : ℕ) → n ≡ i → nat_cmp n i ≡ Equal
same_is n i same = grind (arith, nat_tests)

pub greater_is : (n i : ℕ) → i < n → nat_cmp n i ≡ Greater
greater_is n i gt = grind (arith, nat_tests)

-- Two keys that differ are put in in either order.

module _ {K : Type 0} {R : K → K → Ordering} (o : IsTotalOrder R) where
  back : (a b : K) (r : Ordering) → R a b ≡ r → R b a ≡ ordering_reverse r
  back a b r is = o.antisymm b a ∙ ap ordering_reverse is

  at_less : (k w : K) (ws : List K) → R k w ≡ Less → insert_key R (w ∷ ws) k ≡ k ∷ w ∷ ws
  at_less k w ws is = ap (λ r. match_ordering r (k ∷ w ∷ ws) (w ∷ ws) (w ∷ insert_key R ws k)) is

  at_equal : (k w : K) (ws : List K) → R k w ≡ Equal → insert_key R (w ∷ ws) k ≡ w ∷ ws
  at_equal k w ws is = ap (λ r. match_ordering r (k ∷ w ∷ ws) (w ∷ ws) (w ∷ insert_key R ws k)) is

  at_greater : (k w : K) (ws : List K) → R k w ≡ Greater → insert_key R (w ∷ ws) k ≡ w ∷ insert_key R ws k
  at_greater k w ws is = ap (λ r. match_ordering r (k ∷ w ∷ ws) (w ∷ ws) (w ∷ insert_key R ws k)) is

  ends_commute : (x y : K) (r : Ordering) → R x y ≡ r → (r ≡ Equal → ⊥) → insert_key R (x ∷ []) y ≡ insert_key R (y ∷ []) x
  ends_commute x y Less is differ = at_greater y x [] (back x y Less is) ∙ sym (at_less x y [] is)
  ends_commute x y Equal is differ = absurd (differ refl)
  ends_commute x y Greater is differ = at_less y x [] (back x y Greater is) ∙ sym (at_greater x y [] is)

  heads_commute : (x y z : K) (l : List K) (r : Ordering) → R x y ≡ r → (r ≡ Equal → ⊥) → R x z ≡ Less → R y z ≡ Less → insert_key R (x ∷ z ∷ l) y ≡ insert_key R (y ∷ z ∷ l) x
  heads_commute x y z l Less is differ xz yz = at_greater y x (z ∷ l) (back x y Less is) ∙ ap (λ t. x ∷ t) (at_less y z l yz) ∙ sym (at_less x y (z ∷ l) is)
  heads_commute x y z l Equal is differ xz yz = absurd (differ refl)
  heads_commute x y z l Greater is differ xz yz = at_less y x (z ∷ l) (back x y Greater is) ∙ sym (at_greater x y (z ∷ l) is ∙ ap (λ t. y ∷ t) (at_less x z l xz))

  pub insert_commutes : (x y : K) → (R x y ≡ Equal → ⊥) → (l : List K) → insert_key R (insert_key R l x) y ≡ insert_key R (insert_key R l y) x
  insert_commutes x y differ [] = ends_commute x y (R x y) refl differ
  insert_commutes x y differ (z ∷ l) = by (R x z) (R y z) refl refl (insert_commutes x y differ l)
    where
      by : (a b : Ordering) → R x z ≡ a → R y z ≡ b → insert_key R (insert_key R l x) y ≡ insert_key R (insert_key R l y) x
          → insert_key R (match_ordering a (x ∷ z ∷ l) (z ∷ l) (z ∷ insert_key R l x)) y ≡ insert_key R (match_ordering b (y ∷ z ∷ l) (z ∷ l) (z ∷ insert_key R l y)) x
      by Less Less xz yz further = heads_commute x y z l (R x y) refl differ xz yz
      by Less Equal xz yz further = at_greater y x (z ∷ l) (o.congr y z x yz ∙ back x z Less xz) ∙ ap (λ t. x ∷ t) (at_equal y z l yz) ∙ sym (at_less x z l xz)
      by Less Greater xz yz further =
          at_greater y x (z ∷ l) (back x y Less (o.trans x z y xz (back y z Greater yz))) ∙ ap (λ t. x ∷ t) (at_greater y z l yz) ∙ sym (at_less x z (insert_key R l y) xz)
      by Equal Less xz yz further = at_less y z l yz ∙ sym (at_greater x y (z ∷ l) (o.congr x z y xz ∙ back y z Less yz) ∙ ap (λ t. y ∷ t) (at_equal x z l xz))
      by Equal Equal xz yz further = absurd (differ (o.congr x z y xz ∙ back y z Equal yz))
      by Equal Greater xz yz further = at_greater y z l yz ∙ sym (at_equal x z (insert_key R l y) xz)
      by Greater Less xz yz further =
          at_less y z (insert_key R l x) yz ∙ sym (at_greater x y (z ∷ l) (back y x Less (o.trans y z x yz (back x z Greater xz))) ∙ ap (λ t. y ∷ t) (at_greater x z l xz))
      by Greater Equal xz yz further = at_equal y z (insert_key R l x) yz ∙ sym (at_greater x z l xz)
      by Greater Greater xz yz further = at_greater y z (insert_key R l x) yz ∙ ap (λ t. z ∷ t) further ∙ sym (at_greater x z (insert_key R l y) xz)

pub by_place_total : IsTotalOrder by_place
by_place_total = then_total (on_total (λ (p : ℕ × ℕ). p.0) nat_cmp_total) (on_total (λ (p : ℕ × ℕ). p.1) nat_cmp_total)

-- slots that differ make keys that differ
pub apart : (p q : ℕ × ℕ) → (p.1 ≡ q.1 → ⊥) → by_place p q ≡ Equal → ⊥
apart p q differ is = by (nat_cmp p.0 q.0) is
  where
    by : (r : Ordering) → ordering_then r (nat_cmp p.1 q.1) ≡ Equal → ⊥
    by Less same = cc
    by Equal same = differ (ranked p.1 q.1 Equal (sym same))
    by Greater same = cc

-- Slots by their places.

pub beside_commutes : (a b : Option ℕ) (i j : ℕ) → (i ≡ j → ⊥) → (l : List (ℕ × ℕ)) → beside a i (beside b j l) ≡ beside b j (beside a i l)
beside_commutes None b i j differ l = refl
beside_commutes (Some p) None i j differ l = refl
beside_commutes (Some p) (Some q) i j differ l = insert_commutes by_place_total (q, j) (p, i) (apart (q, j) (p, i) (λ same. differ (sym same))) l

module _ (f : SlotState → Option ℕ) where
  pub slots_by_set : (z s : SlotState) → f z ≡ None → (i k n : ℕ) (xs : List SlotState) → n ≡ i + k → k < length xs → slots_by f i (set xs k s) ≡ beside (f s) n (slots_by f i (set xs k z))
  slots_by_set z s lacks i k n [] at lt = absurd (omega arith)
  slots_by_set z s lacks i zero n (x ∷ xs) at lt =
      let here : i ≡ n = omega arith in
      ap (λ m. beside (f s) m (slots_by f (suc i) xs)) here ∙ sym (ap (λ w. beside (f s) n (beside w i (slots_by f (suc i) xs))) lacks)
  slots_by_set z s lacks i (suc k) n (x ∷ xs) at lt =
      ap (beside (f x) i) (slots_by_set z s lacks (suc i) k n xs (omega arith) (omega arith))
      ∙ beside_commutes (f x) (f s) i n (omega arith) (slots_by f (suc i) (set xs k z))

pub set_again : {A : Type 0} (xs : List A) (k : ℕ) (d : A) → k < length xs → set xs k (get_or xs k d) ≡ xs
set_again [] k d lt = absurd (omega arith)
set_again (x ∷ xs) zero d lt = refl
set_again (x ∷ xs) (suc k) d lt = ap (λ l. x ∷ l) (set_again xs k d (omega arith))

module _ (f : SlotState → Option ℕ) (z : SlotState) (lacks : f z ≡ None) (xs : List SlotState) (k : ℕ) (d : SlotState) (lt : k < length xs) where
  -- what the list is, by what one slot is
  pub slots_by_was : slots_by f 0 xs ≡ beside (f (get_or xs k d)) k (slots_by f 0 (set xs k z))
  slots_by_was = ap (slots_by f 0) (sym (set_again xs k d lt)) ∙ slots_by_set f z (get_or xs k d) lacks 0 k k xs (omega arith) lt

  -- a slot changes, and keeps its place
  pub slots_by_same : (s : SlotState) → f s ≡ f (get_or xs k d) → slots_by f 0 (set xs k s) ≡ slots_by f 0 xs
  slots_by_same s same = slots_by_set f z s lacks 0 k k xs (omega arith) lt ∙ ap (λ w. beside w k (slots_by f 0 (set xs k z))) same ∙ sym slots_by_was

  -- a slot that had no place gets one
  pub slots_by_more : (s : SlotState) (p : ℕ) → f (get_or xs k d) ≡ None → f s ≡ Some p → slots_by f 0 (set xs k s) ≡ insert_key by_place (slots_by f 0 xs) (p, k)
  slots_by_more s p had has =
      slots_by_set f z s lacks 0 k k xs (omega arith) lt ∙ ap (λ w. beside w k (slots_by f 0 (set xs k z))) has
      ∙ ap (λ l. insert_key by_place l (p, k)) (sym (slots_by_was ∙ ap (λ w. beside w k (slots_by f 0 (set xs k z))) had))

pub slots_by_push : (f : SlotState → Option ℕ) (s : SlotState) → f s ≡ None → (i : ℕ) (xs : List SlotState) → slots_by f i (xs ++ s ∷ []) ≡ slots_by f i xs
slots_by_push f s lacks i [] = ap (λ w. beside w i []) lacks
slots_by_push f s lacks i (x ∷ xs) = ap (beside (f x) i) (slots_by_push f s lacks (suc i) xs)

pub length_slots_by : (f : SlotState → Option ℕ) (i : ℕ) (xs : List SlotState) → length (slots_by f i xs) ≤ length xs
length_slots_by f i [] = omega arith
length_slots_by f i (x ∷ xs) = by (f x) (length_slots_by f (suc i) xs)
  where
    by : (a : Option ℕ) → length (slots_by f (suc i) xs) ≤ length xs → length (beside a i (slots_by f (suc i) xs)) ≤ suc (length xs)
    by None h = omega arith
    by (Some p) h = omega (arith, length_inserted by_place (p, i) (slots_by f (suc i) xs))

-- Slots that pass a test.

module _ (test : SlotState → Bool) where
  pub slots_where_same : (i k : ℕ) (xs : List SlotState) (s d : SlotState) → test s ≡ test (get_or xs k d) → slots_where test i (set xs k s) ≡ slots_where test i xs
  slots_where_same i k [] s d same = refl
  slots_where_same i zero (x ∷ xs) s d same = ap (λ b. cond b (i ∷ slots_where test (suc i) xs) (slots_where test (suc i) xs)) same
  slots_where_same i (suc k) (x ∷ xs) s d same = ap (λ l. cond (test x) (i ∷ l) l) (slots_where_same (suc i) k xs s d same)

  -- all of them lie from the first on
  pub slots_where_from : (i n : ℕ) (xs : List SlotState) → n < i → remove_key (is_at (nat_cmp n)) (slots_where test i xs) ≡ slots_where test i xs
  slots_where_from i n [] lt = refl
  slots_where_from i n (x ∷ xs) lt = by (test x) (slots_where_from (suc i) n xs (omega arith))
    where
      by : (b : Bool) → remove_key (is_at (nat_cmp n)) (slots_where test (suc i) xs) ≡ slots_where test (suc i) xs
          → remove_key (is_at (nat_cmp n)) (cond b (i ∷ slots_where test (suc i) xs) (slots_where test (suc i) xs)) ≡ cond b (i ∷ slots_where test (suc i) xs) (slots_where test (suc i) xs)
      by true h = ap (λ r. cond (is_eq r) (slots_where test (suc i) xs) (i ∷ remove_key (is_at (nat_cmp n)) (slots_where test (suc i) xs))) (less_is n i lt) ∙ ap (λ l. i ∷ l) h
      by false h = h

  -- a slot no longer passes
  pub slots_where_less : (i k n : ℕ) (xs : List SlotState) (s : SlotState) → n ≡ i + k → k < length xs → test s ≡ false → slots_where test i (set xs k s) ≡ remove_key (is_at (nat_cmp n)) (slots_where test i xs)
  slots_where_less i k n [] s at lt fails = absurd (omega arith)
  slots_where_less i zero n (x ∷ xs) s at lt fails = ap (λ b. cond b (i ∷ rest) rest) fails ∙ by (test x)
    where
      rest : List ℕ
      rest = slots_where test (suc i) xs

      by : (b : Bool) → slots_where test (suc i) xs ≡ remove_key (is_at (nat_cmp n)) (cond b (i ∷ slots_where test (suc i) xs) (slots_where test (suc i) xs))
      by true = sym (ap (λ r. cond (is_eq r) (slots_where test (suc i) xs) (i ∷ remove_key (is_at (nat_cmp n)) (slots_where test (suc i) xs))) (same_is n i (omega arith)))
      by false = sym (slots_where_from (suc i) n xs (omega arith))
  slots_where_less i (suc k) n (x ∷ xs) s at lt fails = by (test x) (slots_where_less (suc i) k n xs s (omega arith) (omega arith) fails)
    where
      by : (b : Bool) → slots_where test (suc i) (set xs k s) ≡ remove_key (is_at (nat_cmp n)) (slots_where test (suc i) xs)
          → cond b (i ∷ slots_where test (suc i) (set xs k s)) (slots_where test (suc i) (set xs k s)) ≡ remove_key (is_at (nat_cmp n)) (cond b (i ∷ slots_where test (suc i) xs) (slots_where test (suc i) xs))
      by true h = ap (λ l. i ∷ l) h ∙ sym (ap (λ r. cond (is_eq r) (slots_where test (suc i) xs) (i ∷ remove_key (is_at (nat_cmp n)) (slots_where test (suc i) xs))) (greater_is n i (omega arith)))
      by false h = h

  pub length_slots_where : (i : ℕ) (xs : List SlotState) → length (slots_where test i xs) ≤ length xs
  length_slots_where i [] = omega arith
  length_slots_where i (x ∷ xs) = by (test x) (length_slots_where (suc i) xs)
    where
      by : (b : Bool) → length (slots_where test (suc i) xs) ≤ length xs → length (cond b (i ∷ slots_where test (suc i) xs) (slots_where test (suc i) xs)) ≤ suc (length xs)
      by true h = omega arith
      by false h = omega arith

  -- a slot that fails leaves room in the list
  pub length_slots_where_less : (i k : ℕ) (xs : List SlotState) (d : SlotState) → k < length xs → test (get_or xs k d) ≡ false → length (slots_where test i xs) < length xs
  length_slots_where_less i k [] d lt fails = absurd (omega arith)
  length_slots_where_less i zero (x ∷ xs) d lt fails =
      let same : length (slots_where test i (x ∷ xs)) ≡ length (slots_where test (suc i) xs) = ap (λ b. length (cond b (i ∷ slots_where test (suc i) xs) (slots_where test (suc i) xs))) fails in
      omega (arith, same, length_slots_where (suc i) xs)
  length_slots_where_less i (suc k) (x ∷ xs) d lt fails = by (test x) (length_slots_where_less (suc i) k xs d (omega arith) fails)
    where
      by : (b : Bool) → length (slots_where test (suc i) xs) < length xs → length (cond b (i ∷ slots_where test (suc i) xs) (slots_where test (suc i) xs)) < suc (length xs)
      by true h = omega arith
      by false h = omega arith

  pub slots_where_push : (i : ℕ) (xs : List SlotState) (s : SlotState) → test s ≡ false → slots_where test i (xs ++ s ∷ []) ≡ slots_where test i xs
  slots_where_push i [] s fails = ap (λ b. cond b (i ∷ []) []) fails
  slots_where_push i (x ∷ xs) s fails = ap (λ l. cond (test x) (i ∷ l) l) (slots_where_push (suc i) xs s fails)

-- a slot that has no place leaves room in the list
pub length_slots_by_less : (f : SlotState → Option ℕ) (i k : ℕ) (xs : List SlotState) (d : SlotState) → k < length xs → f (get_or xs k d) ≡ None → length (slots_by f i xs) < length xs
length_slots_by_less f i k [] d lt lacks = absurd (omega arith)
length_slots_by_less f i zero (x ∷ xs) d lt lacks =
    let same : length (slots_by f i (x ∷ xs)) ≡ length (slots_by f (suc i) xs) = ap (λ w. length (beside w i (slots_by f (suc i) xs))) lacks in
    omega (arith, same, length_slots_by f (suc i) xs)
length_slots_by_less f i (suc k) (x ∷ xs) d lt lacks = by (f x) (length_slots_by_less f (suc i) k xs d (omega arith) lacks)
  where
    by : (a : Option ℕ) → length (slots_by f (suc i) xs) < length xs → length (beside a i (slots_by f (suc i) xs)) < suc (length xs)
    by None h = omega arith
    by (Some p) h = omega (arith, length_inserted by_place (p, i) (slots_by f (suc i) xs))
