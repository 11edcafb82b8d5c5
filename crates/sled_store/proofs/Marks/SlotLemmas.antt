-- What is in which slot, where one of them has changed, and what the lists of slots have that are read off them.
use Rattle.std.proofs.Common.{if◌then◌else◌, ⊎_elim, ◌≡◌, ◌≢◌, ◌∙◌, ◌⊎◌, ◌==◌, ◌+◌, ◌<◌, ◌≤◌, ℕ, zero, suc, Bool, true, false, List, [], ◌∷◌, ◌++◌, length, length-append, filter, set, Option, Some, None, refl, sym, ap, subst, arith, inl, inr}
use Rattle.std.specs.List.{All, Contains}
use Rattle.std.specs.BTreeSet.{insert_key}
use Rattle.std.specs.declared.cmp.Ordering.{Ordering}
use Rattle.std.specs.declared.cmp.Ordering.TheVariants.{Less, Equal, Greater}
use Rattle.std.specs.Ordering.{nat_cmp, match_ordering}
use Rattle.std.proofs.lemmas.Bool.{true≢false, false≢true, cases_lt, cases_eq, and_parts, eqb-true}
use Rattle.std.proofs.lemmas.List.{get_or-set_same, get_or-set_other, get_or_append_left}
use Rattle.std.proofs.lemmas.List.Elements.{All-head, All-tail, All-contains}
use Rattle.std.proofs.lemmas.Map.Lookups.{CmpEqualImpliesEq, exact_unsigned, exact_pairs}
use Rattle.std.proofs.lemmas.Map.Views.{All-insert_key}
use Rattle.std.proofs.Math.ListN.{get_or-eq_default}
use Rattle.std.proofs.Math.Seq.{get_or-append_seam}
use Rattle.sled_store.specs.SegmentStates.{SlotState, is_free, free_slot, slots_where, by_place, beside, slots_by, same_pages}
use Rattle.sled_store.specs.Tracked.{at}
use Rattle.sled_store.proofs.Segments.Elements.{in_first, in_rest, in_cases, in_nothing, from_filter, all_from_in}

-- Slots.

-- no segment is behind the last slot
pub free_behind : (ss : List SlotState) (k : ℕ) → length ss ≤ k → at ss k ≡ free_slot
free_behind ss k le = get_or-eq_default ss free_slot le

pub taken_there : (ss : List SlotState) (k : ℕ) → is_free (at ss k).state ≡ false → k < length ss
taken_there ss k taken =
    ⊎_elim (λ lt. lt) (λ le. absurd (true≢false (sym (ap (λ (s : SlotState). is_free s.state) (free_behind ss k le)) ∙ taken))) (cases_lt k (length ss))

-- one slot has changed, and no other
pub record Changes (old : List SlotState) (k : ℕ) (s : SlotState) (new : List SlotState) : Type 0 where
  pub here : at new k ≡ s
  pub others : (j : ℕ) → j ≢ k → at new j ≡ at old j

pub set_changes : (ss : List SlotState) (k : ℕ) (s : SlotState) → k < length ss → Changes ss k s (set ss k s)
set_changes ss k s lt = record { here = get_or-set_same ss k s free_slot lt; others = λ j other. get_or-set_other ss k j s free_slot other }

pub push_changes : (ss : List SlotState) (s : SlotState) → Changes ss (length ss) s (ss ++ s ∷ [])
push_changes ss s = record { here = get_or-append_seam ss s [] free_slot; others = λ j other. ⊎_elim (λ lt. get_or_append_left ss (s ∷ []) free_slot j lt) (λ le. behind j other le) (cases_lt j (length ss)) } where
  behind : (j : ℕ) → j ≢ length ss → length ss ≤ j → at (ss ++ s ∷ []) j ≡ at ss j
  behind j other le = free_behind (ss ++ s ∷ []) j (omega (arith, length-append ss (s ∷ []), other, le)) ∙ sym (free_behind ss j le)

-- what is so of the changed slot and of the others as they were is so of each slot
pub each_slot : (P : ℕ → SlotState → Type 0) (old : List SlotState) (k : ℕ) (s : SlotState) (new : List SlotState) → Changes old k s new → P k s
    → ((j : ℕ) → j ≢ k → P j (at old j)) → (j : ℕ) → P j (at new j)
each_slot P old k s new changes here others j =
    ⊎_elim (λ is. subst (λ (i : ℕ). P i (at new i)) (sym is) (subst (P k) (sym changes.here) here)) (λ other. subst (P j) (sym (changes.others j other)) (others j other)) (cases_eq j k)

-- Sorted lists.

pub from_insert : {K : Type 0} (cmp : K → K → Ordering) (xs : List K) (x y : K) → Contains (insert_key cmp xs x) y → (x ≡ y) ⊎ Contains xs y
from_insert {K} cmp xs x y there =
    let P : K → Type 0 = λ z. (x ≡ z) ⊎ Contains xs z in
    All-contains P (insert_key cmp xs x) y (All-insert_key cmp x P xs (all_from_in P xs (λ z at. inr at)) (inl refl)) there

pub inserted : {K : Type 0} (cmp : K → K → Ordering) (exact : CmpEqualImpliesEq cmp) (xs : List K) (x : K) → Contains (insert_key cmp xs x) x
inserted cmp exact [] x = in_first x []
inserted cmp exact (y ∷ ys) x = by_order (cmp x y) refl (inserted cmp exact ys x) where
  by_order : (r : Ordering) → cmp x y ≡ r → Contains (insert_key cmp ys x) x → Contains (match_ordering r (x ∷ y ∷ ys) (y ∷ ys) (y ∷ insert_key cmp ys x)) x
  by_order Less is rest = in_first x (y ∷ ys)
  by_order Equal is rest = subst (Contains (y ∷ ys)) (sym (exact x y is)) (in_first y ys)
  by_order Greater is rest = in_rest y x (insert_key cmp ys x) rest

pub in_insert : {K : Type 0} (cmp : K → K → Ordering) (xs : List K) (x y : K) → Contains xs y → Contains (insert_key cmp xs x) y
in_insert cmp [] x y there = absurd (in_nothing y there)
in_insert cmp (z ∷ zs) x y there = by_order (cmp x z) (in_insert cmp zs x y) where
  by_order : (r : Ordering) → (Contains zs y → Contains (insert_key cmp zs x) y) → Contains (match_ordering r (x ∷ z ∷ zs) (z ∷ zs) (z ∷ insert_key cmp zs x)) y
  by_order Less rest = in_rest x y (z ∷ zs) there
  by_order Equal rest = there
  by_order Greater rest = ⊎_elim (λ is. subst (Contains (z ∷ insert_key cmp zs x)) is (in_first z (insert_key cmp zs x))) (λ found. in_rest z y (insert_key cmp zs x) (rest found)) (in_cases z y zs there)

-- no slot is named twice
abbrev pub Distinct : List (ℕ × ℕ) → Type 0
Distinct [] = Unit {0}
Distinct (w ∷ ws) = All (λ v. v.1 ≢ w.1) ws × Distinct ws

pub distinct_insert : (cmp : ℕ × ℕ → ℕ × ℕ → Ordering) (ws : List (ℕ × ℕ)) (w : ℕ × ℕ) → Distinct ws → All (λ v. v.1 ≢ w.1) ws → Distinct (insert_key cmp ws w)
distinct_insert cmp [] w distinct new = (new, tt)
distinct_insert cmp (v ∷ vs) w distinct new = by_order (cmp w v) (distinct_insert cmp vs w distinct.1 (All-tail (λ u. u.1 ≢ w.1) v vs new)) where
  by_order : (r : Ordering) → Distinct (insert_key cmp vs w) → Distinct (match_ordering r (w ∷ v ∷ vs) (v ∷ vs) (v ∷ insert_key cmp vs w))
  by_order Less rest = (new, distinct)
  by_order Equal rest = distinct
  by_order Greater rest = (All-insert_key cmp w (λ u. u.1 ≢ v.1) vs distinct.0 (λ is. All-head (λ u. u.1 ≢ w.1) v vs new (sym is)), rest)

pub distinct_filter : (p : ℕ × ℕ → Bool) (ws : List (ℕ × ℕ)) → Distinct ws → Distinct (filter p ws)
distinct_filter p [] distinct = tt
distinct_filter p (w ∷ ws) distinct = by_test (p w) (distinct_filter p ws distinct.1) where
  by_test : (b : Bool) → Distinct (filter p ws) → Distinct (if b then w ∷ filter p ws else filter p ws)
  by_test true rest = (all_from_in (λ v. v.1 ≢ w.1) (filter p ws) (λ v there. All-contains (λ u. u.1 ≢ w.1) ws v distinct.0 (from_filter p ws v there).0), rest)
  by_test false rest = rest

-- Lists read off the slots.

-- a slot that is listed is there, and passes the test
pub record Passes (test : SlotState → Bool) (i : ℕ) (ss : List SlotState) (k : ℕ) : Type 0 where
  pub index : ℕ
  pub is : k ≡ i + index
  pub there : index < length ss
  pub passes : test (at ss index) ≡ true

pub where_passes : (test : SlotState → Bool) (i : ℕ) (ss : List SlotState) (k : ℕ) → Contains (slots_where test i ss) k → Passes test i ss k
where_passes test i [] k there = absurd (in_nothing k there)
where_passes test i (s ∷ ss) k there = by_test (test s) refl (where_passes test (suc i) ss k) there where
  later : Passes test (suc i) ss k → Passes test i (s ∷ ss) k
  later rest = let is : k ≡ suc i + rest.index = rest.is in let lt : rest.index < length ss = rest.there in record { index = suc rest.index; is = omega arith; there = omega arith; passes = rest.passes }

  by_test : (b : Bool) → test s ≡ b → (Contains (slots_where test (suc i) ss) k → Passes test (suc i) ss k)
      → Contains (if b then i ∷ slots_where test (suc i) ss else slots_where test (suc i) ss) k → Passes test i (s ∷ ss) k
  by_test true passes rest there =
      ⊎_elim (λ is. record { index = 0; is = omega (arith, is); there = omega arith; passes = passes }) (λ found. later (rest found)) (in_cases i k (slots_where test (suc i) ss) there)
  by_test false fails rest there = later (rest there)

-- a slot that is listed by a place is there, and has it
pub record HasPlace (place : SlotState → Option ℕ) (i : ℕ) (ss : List SlotState) (w : ℕ × ℕ) : Type 0 where
  pub index : ℕ
  pub is : w.1 ≡ i + index
  pub there : index < length ss
  pub has : place (at ss index) ≡ Some w.0

pub by_has : (place : SlotState → Option ℕ) (i : ℕ) (ss : List SlotState) (w : ℕ × ℕ) → Contains (slots_by place i ss) w → HasPlace place i ss w
by_has place i [] w there = absurd (in_nothing w there)
by_has place i (s ∷ ss) w there = by_place_of (place s) refl (by_has place (suc i) ss w) there where
  later : HasPlace place (suc i) ss w → HasPlace place i (s ∷ ss) w
  later rest = let is : w.1 ≡ suc i + rest.index = rest.is in let lt : rest.index < length ss = rest.there in record { index = suc rest.index; is = omega arith; there = omega arith; has = rest.has }

  by_place_of : (o : Option ℕ) → place s ≡ o → (Contains (slots_by place (suc i) ss) w → HasPlace place (suc i) ss w)
      → Contains (beside o i (slots_by place (suc i) ss)) w → HasPlace place i (s ∷ ss) w
  by_place_of None none rest there = later (rest there)
  by_place_of (Some l) some rest there =
      ⊎_elim (λ is. record { index = 0; is = omega (arith, ap (λ (v : ℕ × ℕ). v.1) is); there = omega arith; has = some ∙ ap (λ (v : ℕ × ℕ). Some v.0) is }) (λ found. later (rest found))
      (from_insert by_place (slots_by place (suc i) ss) (l, i) w there)

pub by_distinct : (place : SlotState → Option ℕ) (i : ℕ) (ss : List SlotState) → Distinct (slots_by place i ss)
by_distinct place i [] = tt
by_distinct place i (s ∷ ss) = by_place_of (place s) (by_distinct place (suc i) ss) where
  apart : (v : ℕ × ℕ) → Contains (slots_by place (suc i) ss) v → v.1 ≢ i
  apart v there is = let has : HasPlace place (suc i) ss v = by_has place (suc i) ss v there in omega (arith, has.is, is)

  by_place_of : (o : Option ℕ) → Distinct (slots_by place (suc i) ss) → Distinct (beside o i (slots_by place (suc i) ss))
  by_place_of None rest = rest
  by_place_of (Some l) rest = distinct_insert by_place (slots_by place (suc i) ss) (l, i) rest (all_from_in (λ v. v.1 ≢ i) (slots_by place (suc i) ss) apart)

exact_places : CmpEqualImpliesEq by_place
exact_places = exact_pairs nat_cmp nat_cmp exact_unsigned exact_unsigned

one_on : (i j l : ℕ) (ws : List (ℕ × ℕ)) → Contains ws (l, suc i + j) → Contains ws (l, i + suc j)
one_on i j l ws there = let is : suc i + j ≡ i + suc j = omega arith in subst (λ (n : ℕ). Contains ws (l, n)) is there

-- a slot that has a place is listed by it
pub by_listed : (place : SlotState → Option ℕ) (i : ℕ) (ss : List SlotState) (j l : ℕ) → j < length ss → place (at ss j) ≡ Some l
    → Contains (slots_by place i ss) (l, i + j)
by_listed place i [] j l lt has = absurd (omega (arith, lt))
by_listed place i (s ∷ ss) zero l lt has = by_place_of (place s) has where
  by_place_of : (o : Option ℕ) → o ≡ Some l → Contains (beside o i (slots_by place (suc i) ss)) (l, i + 0)
  by_place_of None is = cc
  by_place_of (Some n) is =
      let first : n ≡ l = cc in
      let second : i ≡ i + 0 = omega arith in
      let same : ◌≡◌ {A = ℕ × ℕ} (n, i) (l, i + 0) = λ k. (first k, second k) in
      subst (Contains (insert_key by_place (slots_by place (suc i) ss) (n, i))) same (inserted by_place exact_places (slots_by place (suc i) ss) (n, i))
by_listed place i (s ∷ ss) (suc j) l lt has = by_place_of (place s) (by_listed place (suc i) ss j l (omega (arith, lt)) has) where
  by_place_of : (o : Option ℕ) → Contains (slots_by place (suc i) ss) (l, suc i + j) → Contains (beside o i (slots_by place (suc i) ss)) (l, i + suc j)
  by_place_of None rest = one_on i j l (slots_by place (suc i) ss) rest
  by_place_of (Some n) rest = in_insert by_place (slots_by place (suc i) ss) (n, i) (l, i + suc j) (one_on i j l (slots_by place (suc i) ss) rest)

-- pages that are the same are one list
pub same_is : (ps qs : List ℕ) → same_pages ps qs ≡ true → ps ≡ qs
same_is [] [] same = refl
same_is [] (q ∷ qs) same = absurd (false≢true same)
same_is (p ∷ ps) [] same = absurd (false≢true same)
same_is (p ∷ ps) (q ∷ qs) same =
    let parts = and_parts (p == q) (same_pages ps qs) same in
    let first : p ≡ q = eqb-true p q parts.0 in
    let rest : ps ≡ qs = same_is ps qs parts.1 in
    λ i. first i ∷ rest i
