-- The first slot behind a place, in a list of slots by their places.
use Rattle.std.proofs.Common.{◌≡◌, ◌≢◌, ◌∙◌, ◌==◌, ◌⊎◌, ℕ, zero, suc, ◌<◌, ◌≤◌, Bool, true, false, cond, ◌||◌, if◌then◌else◌, List, [], ◌∷◌, length, drop, map, filter, Option, None, Some, refl, sym, ap, subst, inl, inr, arith, is_some, eq-eqb}
use Rattle.std.specs.List.{All, list_any, slice_get}
use Rattle.std.specs.List.Sorted.{IsStrictlySortedBy, IsPartitionPoint}
use Rattle.std.specs.declared.cmp.Ordering.{Ordering}
use Rattle.std.specs.declared.cmp.Ordering.TheVariants.{Less, Equal, Greater}
use Rattle.std.specs.Ordering.{ordering_then, is_eq, nat_cmp}
use Rattle.std.specs.BTreeMap.{is_at}
use Rattle.std.specs.Set.{remove_key}
use Rattle.std.proofs.lemmas.Cmp.{ranked}
use Rattle.std.proofs.lemmas.Bool.{ne_eqb}
use Rattle.std.proofs.lemmas.Bool.Decides.{nat_tests}
use Rattle.std.proofs.lemmas.Map.Keys.{sorted_head, sorted_tail}
use Rattle.std.proofs.lemmas.List.Elements.{All-from_recursion, All-tail}
use Rattle.sled_store.specs.SegmentStates.{by_place}
use Rattle.sled_store.specs.inside.Stabilizing.{slots_at}
use Rattle.sled_store.proofs.Accounts.StabilIndex.{same_is}

-- what the first slot behind a place is, by the pair where that place belongs
abbrev pub first_by : ℕ → Option (ℕ × ℕ) → Option ℕ
first_by place None = None
first_by place (Some w) = if w.0 == place then Some w.1 else None

pub compare_places : (m n : ℕ) → ((m < n) × (nat_cmp m n ≡ Less)) ⊎ ((m ≡ n) × (nat_cmp m n ≡ Equal)) ⊎ ((n < m) × (nat_cmp m n ≡ Greater))
compare_places m n = by (nat_cmp m n) refl
  where
    by : (r : Ordering) → nat_cmp m n ≡ r → ((m < n) × (nat_cmp m n ≡ Less)) ⊎ ((m ≡ n) × (nat_cmp m n ≡ Equal)) ⊎ ((n < m) × (nat_cmp m n ≡ Greater))
    by Less is = inl (grind (arith, nat_tests), is)
    by Equal is = inr (inl (ranked m n Equal (sym is), is))
    by Greater is = inr (inr (grind (arith, nat_tests), is))

module _ (place : ℕ) where
  abbrev at_place : ℕ × ℕ → Bool
  at_place w = w.0 == place

  below_place : (w : ℕ × ℕ) → by_place w (place, 0) ≡ Less → w.0 < place
  below_place w less = elim (compare_places w.0 place) [
    | inl under ↦ under.0
    | inr (inl same) ↦
        let second : nat_cmp w.1 0 ≡ Less = sym (ap (λ r. ordering_then r (nat_cmp w.1 0)) same.1) ∙ less in
        elim (compare_places w.1 0) [ inl none ↦ absurd (omega (arith, none.0)) | inr (inl zero_is) ↦ let e = zero_is.1 in absurd (cc) | inr (inr more) ↦ let e = more.1 in absurd (cc) ]
    | inr (inr over) ↦ let e : by_place w (place, 0) ≡ Greater = ap (λ r. ordering_then r (nat_cmp w.1 0)) over.1 in absurd (cc)
  ]

  not_below : (w : ℕ × ℕ) → (by_place w (place, 0) ≡ Less → ⊥) → place ≤ w.0
  not_below w above = elim (compare_places w.0 place) [
    | inl under ↦ absurd (above (ap (λ r. ordering_then r (nat_cmp w.1 0)) under.1))
    | inr (inl same) ↦ omega (arith, same.0)
    | inr (inr over) ↦ omega (arith, over.0)
  ]

  fails_at : (w : ℕ × ℕ) (ws : List (ℕ × ℕ)) → w.0 ≢ place → slots_at place (w ∷ ws) ≡ slots_at place ws
  fails_at w ws differ = ap (λ b. map (λ (v : ℕ × ℕ). v.1) (cond b (w ∷ filter (λ v. v.0 == place) ws) (filter (λ v. v.0 == place) ws))) (ne_eqb w.0 place differ)

  passes_at : (w : ℕ × ℕ) (ws : List (ℕ × ℕ)) → w.0 ≡ place → slots_at place (w ∷ ws) ≡ w.1 ∷ slots_at place ws
  passes_at w ws same = ap (λ b. map (λ (v : ℕ × ℕ). v.1) (cond b (w ∷ filter (λ v. v.0 == place) ws) (filter (λ v. v.0 == place) ws))) (eq-eqb w.0 place same)

  none_above : (w : ℕ × ℕ) (ws : List (ℕ × ℕ)) → IsStrictlySortedBy by_place (w ∷ ws) → place < w.0 → slots_at place ws ≡ []
  none_above w [] s above = refl
  none_above w (v ∷ ws) s above =
      let less : by_place w v ≡ Less = All-from_recursion (λ u. by_place w u ≡ Less) (v ∷ ws) (sorted_head by_place w (v ∷ ws) s) 0 v (omega arith) in
      let up : w.0 ≤ v.0 = rises w v less in
      fails_at v ws (omega arith) ∙ none_above v ws (sorted_tail by_place w (v ∷ ws) s) (omega arith)
    where
      rises : (u v : ℕ × ℕ) → by_place u v ≡ Less → u.0 ≤ v.0
      rises u v less = elim (compare_places u.0 v.0) [
        | inl under ↦ omega (arith, under.0)
        | inr (inl same) ↦ omega (arith, same.0)
        | inr (inr over) ↦ let e : by_place u v ≡ Greater = ap (λ r. ordering_then r (nat_cmp u.1 v.1)) over.1 in absurd (cc)
      ]

  pub first_is : (ws : List (ℕ × ℕ)) (i : ℕ) → IsStrictlySortedBy by_place ws → IsPartitionPoint (λ w. by_place w (place, 0) ≡ Less) (λ w. by_place w (place, 0) ≢ Less) ws i
      → slice_get (slots_at place ws) 0 ≡ first_by place (slice_get ws i)
  first_is [] i s p = refl
  first_is (w ∷ ws) zero s p = elim (compare_places w.0 place) [
    | inl under ↦ absurd (p.1 0 w (omega arith) (omega arith) (ap (λ r. ordering_then r (nat_cmp w.1 0)) under.1))
    | inr (inl same) ↦ ap (λ (l : List ℕ). slice_get l 0) (passes_at w ws same.0) ∙ sym (ap (λ b. if b then Some w.1 else None) (eq-eqb w.0 place same.0))
    | inr (inr over) ↦
        let differ : w.0 ≢ place = omega (arith, over.0) in
        ap (λ (l : List ℕ). slice_get l 0) (fails_at w ws differ ∙ none_above w ws s over.0) ∙ sym (ap (λ b. if b then Some w.1 else None) (ne_eqb w.0 place differ))
  ]
  first_is (w ∷ ws) (suc i) s p =
      let under : w.0 < place = below_place w (p.0 0 w (omega arith) (omega arith)) in
      ap (λ (l : List ℕ). slice_get l 0) (fails_at w ws (omega arith))
      ∙ first_is ws i (sorted_tail by_place w ws s) (λ k d low high. p.0 (suc k) d (omega arith) (omega arith), λ k d low high. p.1 (suc k) d (omega arith) (omega arith))

  -- a place is there exactly where a slot is there behind it
  pub any_at : (ws : List (ℕ × ℕ)) → is_some (slice_get (slots_at place ws) 0) ≡ list_any (λ w. w.0 == place) ws
  any_at [] = refl
  any_at (w ∷ ws) = by (w.0 == place) (any_at ws)
    where
      by : (b : Bool) → is_some (slice_get (slots_at place ws) 0) ≡ list_any (λ v. v.0 == place) ws
          → is_some (slice_get (map (λ (v : ℕ × ℕ). v.1) (cond b (w ∷ filter (λ v. v.0 == place) ws) (filter (λ v. v.0 == place) ws))) 0) ≡ (b || list_any (λ v. v.0 == place) ws)
      by true h = refl
      by false h = h

  -- What is so of each pair is so of the first one with this place, and without it the rest is left.
  module _ (k : ℕ) (ks : List ℕ) where
    same_pair : (w : ℕ × ℕ) → w.0 ≡ place → w.1 ≡ k → w ≡ (place, k)
    same_pair w same here = λ i. (same i, here i)

    pub first_has : (P : ℕ × ℕ → Type 0) (ws : List (ℕ × ℕ)) → All P ws → slots_at place ws ≡ k ∷ ks → P (place, k)
    first_has P [] all is = absurd (cc)
    first_has P (w ∷ ws) all is = elim (compare_places w.0 place) [
      | inl under ↦ first_has P ws (All-tail P w ws all) (sym (fails_at w ws (omega (arith, under.0))) ∙ is)
      | inr (inl same) ↦
          let e : w.1 ∷ slots_at place ws ≡ k ∷ ks = sym (passes_at w ws same.0) ∙ is in
          subst P (same_pair w same.0 (cc)) (all 0 w (omega arith))
      | inr (inr over) ↦ first_has P ws (All-tail P w ws all) (sym (fails_at w ws (omega (arith, over.0))) ∙ is)
    ]

    -- it is taken out
    pub record IsWithout (ws : List (ℕ × ℕ)) : Type 0 where
      pub left : slots_at place (remove_key (is_at (by_place (place, k))) ws) ≡ ks
      pub shorter : length (remove_key (is_at (by_place (place, k))) ws) < length ws

    kept : (w : ℕ × ℕ) (ws : List (ℕ × ℕ)) → w.0 ≢ place → remove_key (is_at (by_place (place, k))) (w ∷ ws) ≡ w ∷ remove_key (is_at (by_place (place, k))) ws
    kept w ws differ = elim (compare_places place w.0) [
      | inl under ↦ ap (λ r. cond (is_eq (ordering_then r (nat_cmp k w.1))) ws (w ∷ remove_key (is_at (by_place (place, k))) ws)) under.1
      | inr (inl same) ↦ absurd (differ (sym same.0))
      | inr (inr over) ↦ ap (λ r. cond (is_eq (ordering_then r (nat_cmp k w.1))) ws (w ∷ remove_key (is_at (by_place (place, k))) ws)) over.1
    ]

    gone : (w : ℕ × ℕ) (ws : List (ℕ × ℕ)) → w.0 ≡ place → w.1 ≡ k → remove_key (is_at (by_place (place, k))) (w ∷ ws) ≡ ws
    gone w ws same here =
        ap (λ r. cond (is_eq (ordering_then r (nat_cmp k w.1))) ws (w ∷ remove_key (is_at (by_place (place, k))) ws)) (same_is place w.0 (sym same))
        ∙ ap (λ r. cond (is_eq r) ws (w ∷ remove_key (is_at (by_place (place, k))) ws)) (same_is k w.1 (sym here))

    without_kept : (w : ℕ × ℕ) (ws : List (ℕ × ℕ)) → w.0 ≢ place → IsWithout ws → IsWithout (w ∷ ws)
    without_kept w ws differ rest = record {
      left = ap (slots_at place) (kept w ws differ) ∙ fails_at w (remove_key (is_at (by_place (place, k))) ws) differ ∙ rest.left;
      shorter = omega (arith, rest.shorter, ap length (kept w ws differ));
    }

    pub first_taken : (ws : List (ℕ × ℕ)) → slots_at place ws ≡ k ∷ ks → IsWithout ws
    first_taken [] is = absurd (cc)
    first_taken (w ∷ ws) is = elim (compare_places w.0 place) [
      | inl under ↦ without_kept w ws (omega (arith, under.0)) (first_taken ws (sym (fails_at w ws (omega (arith, under.0))) ∙ is))
      | inr (inl same) ↦
          let e : w.1 ∷ slots_at place ws ≡ k ∷ ks = sym (passes_at w ws same.0) ∙ is in
          let here : w.1 ≡ k = cc in
          let rest : slots_at place ws ≡ ks = cc in
          record { left = ap (slots_at place) (gone w ws same.0 here) ∙ rest; shorter = omega (arith, ap length (gone w ws same.0 here)) }
      | inr (inr over) ↦ without_kept w ws (omega (arith, over.0)) (first_taken ws (sym (fails_at w ws (omega (arith, over.0))) ∙ is))
    ]

-- the first of a list, and the rest
pub first_and_rest : {A : Type 0} (x : A) (l : List A) → slice_get l 0 ≡ Some x → l ≡ x ∷ drop 1 l
first_and_rest x [] is = absurd (cc)
first_and_rest x (y ∷ ys) is = let same : y ≡ x = cc in ap (λ z. z ∷ ys) same

pub none_first : {A : Type 0} (l : List A) → slice_get l 0 ≡ None → l ≡ []
none_first [] is = refl
none_first (y ∷ ys) is = absurd (cc)
