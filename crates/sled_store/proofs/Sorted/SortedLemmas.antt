-- Ascending keys stay so when one is put in or taken out, and where a binary search ends says what becomes of them.
use Rattle.std.proofs.Common.{◌≡◌, ◌≢◌, ◌∙◌, ℕ, zero, suc, ◌+◌, ◌<◌, ◌≤◌, Bool, true, false, cond, ◌||◌, List, [], ◌∷◌, ◌++◌, drop, length, get_or, refl, sym, ap, subst, arith, ◌⊎◌, IsTrue, inl, inr}
use Rattle.std.specs.declared.cmp.Ordering.{Ordering}
use Rattle.std.specs.declared.cmp.Ordering.TheVariants.{Less, Equal, Greater}
use Rattle.std.specs.Ordering.{ordering_reverse, ordering_index, match_ordering, is_eq, is_lt}
use Rattle.std.specs.Cmp.{IsTotalOrder}
use Rattle.std.specs.List.{All, list_any, insert, remove}
use Rattle.std.specs.List.Sorted.{IsStrictlySortedBy, IsNonDecreasingBy, IsPartitionPoint}
use Rattle.std.specs.BTreeMap.{is_at}
use Rattle.std.specs.BTreeSet.{insert_key}
use Rattle.std.specs.Set.{remove_key}
use Rattle.std.proofs.lemmas.Cmp.{alike_right, tied_itself}
use Rattle.std.proofs.lemmas.Map.Keys.{sorted_head, sorted_tail, Less-from_sorted}
use Rattle.std.proofs.lemmas.Map.Views.{All-insert_key, All-remove_key}
use Rattle.std.proofs.lemmas.List.Sorted.{searchable_from_sorted}
use Rattle.std.proofs.lemmas.List.Elements.{All-from_recursion, recursion_from_All, All-cons, All-append, All-tail}

pub sorted_nil : {K : Type 0} (R : K → K → Ordering) → IsStrictlySortedBy R []
unfolding IsStrictlySortedBy
sorted_nil R = tt

sorted_cons : {K : Type 0} (R : K → K → Ordering) (x : K) (xs : List K) → All (λ y. R x y ≡ Less) xs → IsStrictlySortedBy R xs → IsStrictlySortedBy R (x ∷ xs)
unfolding IsStrictlySortedBy
sorted_cons R x xs all s = (recursion_from_All (λ y. R x y ≡ Less) xs all, s)

module _ {K : Type 0} {R : K → K → Ordering} (o : IsTotalOrder R) (x : K) where
  pub turned : (y : K) (r : Ordering) → R y x ≡ r → R x y ≡ ordering_reverse r
  turned y r is = o.antisymm x y ∙ ap ordering_reverse is

  above_head : (y : K) (ys : List K) → IsStrictlySortedBy R (y ∷ ys) → All (λ z. R y z ≡ Less) ys
  above_head y ys s = All-from_recursion (λ z. R y z ≡ Less) ys (sorted_head R y ys s)

  -- Put in, and taken out.

  pub sorted_insert : (xs : List K) → IsStrictlySortedBy R xs → IsStrictlySortedBy R (insert_key R xs x)
  sorted_insert [] s = sorted_cons R x [] (λ k d lt. absurd (omega arith)) s
  sorted_insert (y ∷ ys) s = by (R x y) refl (sorted_insert ys (sorted_tail R y ys s))
    where
      by : (r : Ordering) → R x y ≡ r → IsStrictlySortedBy R (insert_key R ys x) → IsStrictlySortedBy R (match_ordering r (x ∷ y ∷ ys) (y ∷ ys) (y ∷ insert_key R ys x))
      by Less is h = sorted_cons R x (y ∷ ys) (All-cons (λ z. R x z ≡ Less) y ys is (λ k d lt. o.trans x y (get_or ys k d) is (above_head y ys s k d lt))) s
      by Equal is h = s
      by Greater is h = sorted_cons R y (insert_key R ys x) (All-insert_key R x (λ z. R y z ≡ Less) ys (above_head y ys s) (o.antisymm y x ∙ ap ordering_reverse is)) h

  pub sorted_remove : (test : K → Bool) (xs : List K) → IsStrictlySortedBy R xs → IsStrictlySortedBy R (remove_key test xs)
  sorted_remove test [] s = s
  sorted_remove test (y ∷ ys) s = by (test y) (sorted_remove test ys (sorted_tail R y ys s))
    where
      by : (b : Bool) → IsStrictlySortedBy R (remove_key test ys) → IsStrictlySortedBy R (cond b ys (y ∷ remove_key test ys))
      by true h = sorted_tail R y ys s
      by false h = sorted_cons R y (remove_key test ys) (All-remove_key test (λ z. R y z ≡ Less) ys (above_head y ys s)) h

  -- A search may be made.
  pub searchable : (xs : List K) → IsStrictlySortedBy R xs → IsNonDecreasingBy (λ y. ordering_index (R y x)) xs
  searchable xs s = searchable_from_sorted o (λ (y : K). y) xs x (λ k d low high.
      ap is_lt (o.antisymm (get_or xs (k + 1) d) (get_or xs k d) ∙ ap ordering_reverse (Less-from_sorted R xs k (k + 1) d s (omega arith) high)))

  -- The key was found at an index.

  pub past_head : (y : K) (ys : List K) (i : ℕ) → IsStrictlySortedBy R (y ∷ ys) → i < length ys → ((d : K) → R (get_or ys i d) x ≡ Equal) → R x y ≡ Greater
  past_head y ys i s lt is =
      let same : R y (get_or ys i y) ≡ R y x = alike_right o (get_or ys i y) x y (is y) in
      turned y Less (sym same ∙ above_head y ys s i y lt)

  pub found_any : (xs : List K) (i : ℕ) → i < length xs → ((d : K) → R (get_or xs i d) x ≡ Equal) → list_any (is_at (R x)) xs ≡ true
  found_any [] i lt is = absurd (omega arith)
  found_any (y ∷ ys) zero lt is = ap (λ r. is_eq r || list_any (is_at (R x)) ys) (turned y Equal (is y))
  found_any (y ∷ ys) (suc i) lt is = by (is_eq (R x y)) (found_any ys i (omega arith) is)
    where
      by : (b : Bool) → list_any (is_at (R x)) ys ≡ true → (b || list_any (is_at (R x)) ys) ≡ true
      by true h = refl
      by false h = h

  pub found_insert : (xs : List K) (i : ℕ) → IsStrictlySortedBy R xs → i < length xs → ((d : K) → R (get_or xs i d) x ≡ Equal) → insert_key R xs x ≡ xs
  found_insert [] i s lt is = absurd (omega arith)
  found_insert (y ∷ ys) zero s lt is = ap (λ r. match_ordering r (x ∷ y ∷ ys) (y ∷ ys) (y ∷ insert_key R ys x)) (turned y Equal (is y))
  found_insert (y ∷ ys) (suc i) s lt is =
      ap (λ r. match_ordering r (x ∷ y ∷ ys) (y ∷ ys) (y ∷ insert_key R ys x)) (past_head y ys i s (omega arith) is)
      ∙ ap (λ l. y ∷ l) (found_insert ys i (sorted_tail R y ys s) (omega arith) is)

  pub found_remove : (xs : List K) (i : ℕ) → IsStrictlySortedBy R xs → i < length xs → ((d : K) → R (get_or xs i d) x ≡ Equal) → remove xs i ≡ remove_key (is_at (R x)) xs
  found_remove [] i s lt is = absurd (omega arith)
  found_remove (y ∷ ys) zero s lt is = sym (ap (λ r. cond (is_eq r) ys (y ∷ remove_key (is_at (R x)) ys)) (turned y Equal (is y)))
  found_remove (y ∷ ys) (suc i) s lt is =
      ap (λ l. y ∷ l) (found_remove ys i (sorted_tail R y ys s) (omega arith) is)
      ∙ sym (ap (λ r. cond (is_eq r) ys (y ∷ remove_key (is_at (R x)) ys)) (past_head y ys i s (omega arith) is))

  -- The key is missing, and belongs at an index.

  pub rest_above : (y : K) (ys : List K) → IsPartitionPoint (λ z. R z x ≡ Less) (λ z. R z x ≡ Greater) (y ∷ ys) 0 → IsPartitionPoint (λ z. R z x ≡ Less) (λ z. R z x ≡ Greater) ys 0
  rest_above y ys p = (λ k d low high. absurd (omega arith), λ k d low high. p.1 (suc k) d (omega arith) (omega arith))

  pub rest_split : (y : K) (ys : List K) (i : ℕ) → IsPartitionPoint (λ z. R z x ≡ Less) (λ z. R z x ≡ Greater) (y ∷ ys) (suc i) → IsPartitionPoint (λ z. R z x ≡ Less) (λ z. R z x ≡ Greater) ys i
  rest_split y ys i p = (λ k d low high. p.0 (suc k) d (omega arith) (omega arith), λ k d low high. p.1 (suc k) d (omega arith) (omega arith))

  pub missing_any : (xs : List K) (i : ℕ) → IsPartitionPoint (λ z. R z x ≡ Less) (λ z. R z x ≡ Greater) xs i → list_any (is_at (R x)) xs ≡ false
  missing_any [] i p = refl
  missing_any (y ∷ ys) zero p = ap (λ r. is_eq r || list_any (is_at (R x)) ys) (turned y Greater (p.1 0 y (omega arith) (omega arith))) ∙ missing_any ys 0 (rest_above y ys p)
  missing_any (y ∷ ys) (suc i) p = ap (λ r. is_eq r || list_any (is_at (R x)) ys) (turned y Less (p.0 0 y (omega arith) (omega arith))) ∙ missing_any ys i (rest_split y ys i p)

  pub missing_insert : (xs : List K) (i : ℕ) → i ≤ length xs → IsPartitionPoint (λ z. R z x ≡ Less) (λ z. R z x ≡ Greater) xs i → insert xs i x ≡ insert_key R xs x
  missing_insert [] zero le p = refl
  missing_insert [] (suc i) le p = absurd (omega arith)
  missing_insert (y ∷ ys) zero le p = sym (ap (λ r. match_ordering r (x ∷ y ∷ ys) (y ∷ ys) (y ∷ insert_key R ys x)) (turned y Greater (p.1 0 y (omega arith) (omega arith))))
  missing_insert (y ∷ ys) (suc i) le p =
      ap (λ l. y ∷ l) (missing_insert ys i (omega arith) (rest_split y ys i p))
      ∙ sym (ap (λ r. match_ordering r (x ∷ y ∷ ys) (y ∷ ys) (y ∷ insert_key R ys x)) (turned y Less (p.0 0 y (omega arith) (omega arith))))

  pub missing_remove : (xs : List K) → list_any (is_at (R x)) xs ≡ false → remove_key (is_at (R x)) xs ≡ xs
  missing_remove [] lacks = refl
  missing_remove (y ∷ ys) lacks = by (is_eq (R x y)) lacks (missing_remove ys)
    where
      by : (b : Bool) → (b || list_any (is_at (R x)) ys) ≡ false → (list_any (is_at (R x)) ys ≡ false → remove_key (is_at (R x)) ys ≡ ys) → cond b ys (y ∷ remove_key (is_at (R x)) ys) ≡ y ∷ ys
      by true lacks further = absurd (cc)
      by false lacks further = ap (λ l. y ∷ l) (further lacks)

  -- A key that was put in is there, and takes one place at most.

  pub there_inserted : (xs : List K) → list_any (is_at (R x)) (insert_key R xs x) ≡ true
  there_inserted [] = ap (λ r. is_eq r || false) (tied_itself o x)
  there_inserted (y ∷ ys) = by (R x y) refl (there_inserted ys)
    where
      by : (r : Ordering) → R x y ≡ r → list_any (is_at (R x)) (insert_key R ys x) ≡ true → list_any (is_at (R x)) (match_ordering r (x ∷ y ∷ ys) (y ∷ ys) (y ∷ insert_key R ys x)) ≡ true
      by Less is h = ap (λ r. is_eq r || list_any (is_at (R x)) (y ∷ ys)) (tied_itself o x)
      by Equal is h = ap (λ r. is_eq r || list_any (is_at (R x)) ys) is
      by Greater is h = ap (λ r. is_eq r || list_any (is_at (R x)) (insert_key R ys x)) is ∙ h

pub length_inserted : {K : Type 0} (R : K → K → Ordering) (x : K) (xs : List K) → length (insert_key R xs x) ≤ length xs + 1
length_inserted R x [] = omega arith
length_inserted R x (y ∷ ys) = by (R x y) (length_inserted R x ys)
  where
    by : (r : Ordering) → length (insert_key R ys x) ≤ length ys + 1 → length (match_ordering r (x ∷ y ∷ ys) (y ∷ ys) (y ∷ insert_key R ys x)) ≤ suc (length ys) + 1
    by Less h = omega arith
    by Equal h = omega arith
    by Greater h = omega arith

-- a key that is missing has room
pub room_left : (b : Bool) (n room : ℕ) → IsTrue b ⊎ (n < room) → b ≡ false → n < room
room_left b n room (inl there) lacks = absurd (cc)
room_left b n room (inr lt) lacks = lt

-- Where a key belongs.
module _ {K : Type 0} {R : K → K → Ordering} (o : IsTotalOrder R) (x : K) (xs : List K) (at : ℕ) where
  abbrev Splits : Type 0
  Splits = IsPartitionPoint (λ k. R k x ≡ Less) (λ k. R k x ≢ Less) xs at

  pub splits_found : IsStrictlySortedBy R xs → at < length xs → ((d : K) → R (get_or xs at d) x ≡ Equal) → IsPartitionPoint (λ k. R k x ≡ Less) (λ k. R k x ≢ Less) xs at
  splits_found s lt is = (
    (λ k d low high. sym (alike_right o (get_or xs at d) x (get_or xs k d) (is d)) ∙ Less-from_sorted R xs k at d s high lt),
    (λ k d low high. by k d low high (same_or_more at k low)),
  ) where
    same_or_more : (n m : ℕ) → n ≤ m → (n ≡ m) ⊎ (n < m)
    same_or_more zero zero le = inl refl
    same_or_more zero (suc m) le = inr (omega arith)
    same_or_more (suc n) zero le = absurd (omega arith)
    same_or_more (suc n) (suc m) le = elim (same_or_more n m (omega arith)) [ inl same ↦ inl (ap suc same) | inr less ↦ inr (omega arith) ]

    by : (k : ℕ) (d : K) → at ≤ k → k < length xs → (at ≡ k) ⊎ (at < k) → R (get_or xs k d) x ≢ Less
    by k d low high (inl same) less =
        let here : R (get_or xs k d) x ≡ Equal = subst (λ n. R (get_or xs n d) x ≡ Equal) same (is d) in absurd (cc)
    by k d low high (inr more) less =
        let above : R x (get_or xs k d) ≡ Less = sym (o.congr (get_or xs at d) x (get_or xs k d) (is d)) ∙ Less-from_sorted R xs at k d s more high in
        let back : R (get_or xs k d) x ≡ Greater = o.antisymm (get_or xs k d) x ∙ ap ordering_reverse above in absurd (cc)

  pub splits_missing : IsPartitionPoint (λ k. R k x ≡ Less) (λ k. R k x ≡ Greater) xs at → IsPartitionPoint (λ k. R k x ≡ Less) (λ k. R k x ≢ Less) xs at
  splits_missing p = (p.0, λ k d low high less. let more = p.1 k d low high in absurd (cc))

-- A key behind all that are less, and the keys behind the first.

pub sorted_behind : {K : Type 0} (R : K → K → Ordering) (x : K) (xs : List K) → All (λ k. R k x ≡ Less) xs → IsStrictlySortedBy R xs → IsStrictlySortedBy R (xs ++ x ∷ [])
sorted_behind R x [] all s = sorted_cons R x [] (λ k d lt. absurd (omega arith)) s
sorted_behind R x (y ∷ ys) all s =
    sorted_cons R y (ys ++ x ∷ []) (All-append (λ z. R y z ≡ Less) ys (x ∷ []) (All-from_recursion (λ z. R y z ≡ Less) ys (sorted_head R y ys s)) (All-cons (λ z. R y z ≡ Less) x [] (all 0 y (omega arith)) (λ k d lt. absurd (omega arith))))
    (sorted_behind R x ys (All-tail (λ k. R k x ≡ Less) y ys all) (sorted_tail R y ys s))

pub sorted_rest : {K : Type 0} (R : K → K → Ordering) (xs : List K) → IsStrictlySortedBy R xs → IsStrictlySortedBy R (drop 1 xs)
sorted_rest R [] s = s
sorted_rest R (y ∷ ys) s = sorted_tail R y ys s
