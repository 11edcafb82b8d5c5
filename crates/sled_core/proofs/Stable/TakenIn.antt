-- An interval that begins one place behind the end moves it, and one beyond waits.
use Rattle.std.proofs.Common.{◌≡◌, ◌⊎◌, ◌<◌, ◌≤ℤ◌, ◌<ℤ◌, ◌+ℤ◌, ℤ, pos, false, List, [], ◌∷◌, length, slice_index_or, Option, Some, None, IsSome, IfSome, sym, ◌∙◌, subst, inl, inr, arith}
use Rattle.std.specs.List.{All, Any, Contains}
use Rattle.std.specs.List.Sorted.{IsPermutation}
use Rattle.std.specs.Ordering.{is_lt}
use Rattle.std.specs.Int.{int_max}
use Rattle.std.specs.BinaryHeap.{IsUpperBound}
use Rattle.std.specs.declared.cmp.Reverse.{Reverse}
use Rattle.std.proofs.lemmas.Int.{ints, clamps}
use Rattle.std.proofs.lemmas.List.Elements.{All-contains, All-cons, All-tail, All-weaker, All-map, All-from_recursion}
use Rattle.std.proofs.lemmas.List.Sorted.{All-permutation, Contains-permutation}
use Rattle.sled_core.specs.StableEnds.{LiesIn, IsContiguousEnd, Reaches, turned}
use Rattle.sled_core.specs.inside.StableEnds.{lowest_first}
use Rattle.sled_core.proofs.Stable.EndLemmas.{or_beyond, first, later, first_or_later, some_in, some_later, greatest_at, uncovered}

-- the end moves to the far end of an interval that begins right behind it
pub reach_next : (s : ℤ) (is : List (ℤ × ℤ)) (e : ℤ) (ahead : List (ℤ × ℤ)) (i : ℤ × ℤ) → Reaches s is e ahead → i.0 ≤ℤ (e +ℤ pos 1) → e ≤ℤ i.1 → Reaches s (i ∷ is) i.1 ahead
reach_next s is e ahead i r near on = record {
  not_below = let from = r.not_below in omega (arith, ints);
  covered = λ p low high. by p low high (or_beyond p e);
  among = All-weaker (Contains is) (Contains (i ∷ is)) (λ x c. later i x is c) ahead r.among;
  kept = All-cons (λ x. (x.1 ≤ℤ i.1) ⊎ Contains ahead x) i is (inl (omega (arith, ints))) (All-weaker (λ x. (x.1 ≤ℤ e) ⊎ Contains ahead x) (λ x. (x.1 ≤ℤ i.1) ⊎ Contains ahead x) still is r.kept);
}
  where
    by : (p : ℤ) → s <ℤ p → p ≤ℤ i.1 → (p ≤ℤ e) ⊎ (e <ℤ p) → Any (LiesIn p) (i ∷ is)
    by p low high (inl le) = some_later (LiesIn p) i is (r.covered p low le)
    by p low high (inr lt) = some_in (LiesIn p) (i ∷ is) i (first i is) (omega (arith, ints), high)

    still : (x : ℤ × ℤ) → (x.1 ≤ℤ e) ⊎ Contains ahead x → (x.1 ≤ℤ i.1) ⊎ Contains ahead x
    still x (inl le) = inl (omega (arith, ints))
    still x (inr c) = inr c

-- an interval is kept ahead
pub reach_ahead : (s : ℤ) (is : List (ℤ × ℤ)) (e : ℤ) (ahead ahead' : List (ℤ × ℤ)) (i : ℤ × ℤ) → Reaches s is e ahead → IsPermutation (i ∷ ahead) ahead' → Reaches s (i ∷ is) e ahead'
reach_ahead s is e ahead ahead' i r moved = record {
  not_below = r.not_below;
  covered = λ p low high. some_later (LiesIn p) i is (r.covered p low high);
  among = All-permutation (Contains (i ∷ is)) (i ∷ ahead) ahead' moved
      (All-cons (Contains (i ∷ is)) i ahead (first i is) (All-weaker (Contains is) (Contains (i ∷ is)) (λ x c. later i x is c) ahead r.among));
  kept = All-cons (λ x. (x.1 ≤ℤ e) ⊎ Contains ahead' x) i is (inr (Contains-permutation (i ∷ ahead) ahead' i moved (first i ahead)))
      (All-weaker (λ x. (x.1 ≤ℤ e) ⊎ Contains ahead x) (λ x. (x.1 ≤ℤ e) ⊎ Contains ahead' x) still is r.kept);
}
  where
    still : (x : ℤ × ℤ) → (x.1 ≤ℤ e) ⊎ Contains ahead x → (x.1 ≤ℤ e) ⊎ Contains ahead' x
    still x (inl le) = inl le
    still x (inr c) = inr (Contains-permutation (i ∷ ahead) ahead' x moved (later i x ahead c))

-- the contiguous end stays where the interval begins beyond it
pub stays_at : (s : ℤ) (is : List (ℤ × ℤ)) (e : ℤ) (i : ℤ × ℤ) → IsContiguousEnd s is e → (e +ℤ pos 1) <ℤ i.0 → IsContiguousEnd s (i ∷ is) e
stays_at s is e i c beyond = record {
  not_below = c.not_below;
  covered = λ p low high. some_later (LiesIn p) i is (c.covered p low high);
  greatest = greatest_at s (i ∷ is) e c.not_below (All-cons (λ x. LiesIn (e +ℤ pos 1) x → ⊥) i is (λ lies. let a = lies.0 in absurd (omega (arith, ints))) (uncovered s is e c));
}

-- the end moves over an interval that is taken out of those ahead
pub reach_taken : (s : ℤ) (is : List (ℤ × ℤ)) (e e' : ℤ) (ahead rest : List (ℤ × ℤ)) (i : ℤ × ℤ) → Reaches s is e ahead → IsPermutation ahead (i ∷ rest) → i.0 ≤ℤ (e +ℤ pos 1)
    → e ≤ℤ e' → i.1 ≤ℤ e' → (e' ≤ℤ e) ⊎ (e' ≤ℤ i.1) → Reaches s is e' rest
reach_taken s is e e' ahead rest i r moved near on over is_one = record {
  not_below = let from = r.not_below in omega (arith, ints);
  covered = λ p low high. by p low high (or_beyond p e) is_one;
  among = All-tail (Contains is) i rest among;
  kept = All-weaker (λ x. (x.1 ≤ℤ e) ⊎ Contains ahead x) (λ x. (x.1 ≤ℤ e') ⊎ Contains rest x) still is r.kept;
}
  where
    among : All (Contains is) (i ∷ rest)
    among = All-permutation (Contains is) ahead (i ∷ rest) moved r.among

    there : Contains is i
    there = All-contains (Contains is) (i ∷ rest) i among (first i rest)

    by : (p : ℤ) → s <ℤ p → p ≤ℤ e' → (p ≤ℤ e) ⊎ (e <ℤ p) → (e' ≤ℤ e) ⊎ (e' ≤ℤ i.1) → Any (LiesIn p) is
    by p low high (inl le) one = r.covered p low le
    by p low high (inr lt) (inl less) = absurd (omega (arith, ints))
    by p low high (inr lt) (inr within) = some_in (LiesIn p) is i there (omega (arith, ints), omega (arith, ints))

    of : (x : ℤ × ℤ) → (i ≡ x) ⊎ Contains rest x → (x.1 ≤ℤ e') ⊎ Contains rest x
    of x (inl same) = inl (subst (λ y. y.1 ≤ℤ e') same over)
    of x (inr c) = inr c

    still : (x : ℤ × ℤ) → (x.1 ≤ℤ e) ⊎ Contains ahead x → (x.1 ≤ℤ e') ⊎ Contains rest x
    still x (inl le) = inl (omega (arith, ints))
    still x (inr c) = of x (first_or_later i x rest (Contains-permutation ahead (i ∷ rest) x moved c))

-- where all intervals ahead begin beyond the next place, the end is reached
pub reach_ends : (s : ℤ) (is : List (ℤ × ℤ)) (e : ℤ) (ahead : List (ℤ × ℤ)) → Reaches s is e ahead → All (λ i. (e +ℤ pos 1) <ℤ i.0) ahead → IsContiguousEnd s is e
reach_ends s is e ahead r beyond = record {
  not_below = r.not_below;
  covered = r.covered;
  greatest = greatest_at s is e r.not_below (All-weaker (λ x. (x.1 ≤ℤ e) ⊎ Contains ahead x) (λ x. LiesIn (e +ℤ pos 1) x → ⊥) none is r.kept);
}
  where
    none : (x : ℤ × ℤ) → (x.1 ≤ℤ e) ⊎ Contains ahead x → LiesIn (e +ℤ pos 1) x → ⊥
    none x (inl le) lies = let b = lies.1 in absurd (omega (arith, ints))
    none x (inr c) lies =
        let gap : (e +ℤ pos 1) <ℤ x.0 = All-contains (λ i. (e +ℤ pos 1) <ℤ i.0) ahead x beyond c in
        let a = lies.0 in absurd (omega (arith, ints))

-- The heap's order.

lower_or_alike : (x y : Reverse (ℤ × ℤ)) → is_lt (lowest_first x y) ≡ false → x.0.0 ≤ℤ y.0.0
lower_or_alike x y is = by (or_beyond x.0.0 y.0.0)
  where
    by : (x.0.0 ≤ℤ y.0.0) ⊎ (y.0.0 <ℤ x.0.0) → x.0.0 ≤ℤ y.0.0
    by (inl le) = le
    by (inr lt) = absurd (grind (arith, ints))

-- none of the heap's intervals begins below its first one
pub lowest_of : (x : Reverse (ℤ × ℤ)) (rs : List (Reverse (ℤ × ℤ))) → IsUpperBound lowest_first x rs → All (λ i. x.0.0 ≤ℤ i.0) (turned rs)
lowest_of x rs bound = All-map (λ i. x.0.0 ≤ℤ i.0) (λ r. r.0) rs
    (All-weaker (λ y. is_lt (lowest_first x y) ≡ false) (λ y. x.0.0 ≤ℤ y.0.0) (lower_or_alike x) rs (All-from_recursion (λ y. is_lt (lowest_first x y) ≡ false) rs bound))

-- what the heap gives is its first one
pub popped : {X : Type 0} (o : Option X) (xs rest : List X) (x : X) → IsSome o → 0 < length xs → IfSome o (λ y. IsPermutation xs (y ∷ rest)) → IfSome o (λ y. y ≡ slice_index_or xs 0 y)
    → x ≡ slice_index_or xs 0 x → IsPermutation xs (x ∷ rest)
popped None xs rest x some lt moved top at = absurd (cc)
popped (Some y) [] rest x some lt moved top at = absurd (omega arith)
popped (Some y) (z ∷ zs) rest x some lt moved top at = subst (λ w. IsPermutation (z ∷ zs) (w ∷ rest)) (top ∙ sym at) moved

-- the greater of two is one of them
pub greater_of : (a b r : ℤ) → r ≡ int_max a b → (a ≤ℤ r) × (b ≤ℤ r) × ((r ≤ℤ a) ⊎ (r ≤ℤ b))
greater_of a b r is = by (or_beyond a b)
  where
    by : (a ≤ℤ b) ⊎ (b <ℤ a) → (a ≤ℤ r) × (b ≤ℤ r) × ((r ≤ℤ a) ⊎ (r ≤ℤ b))
    by (inl le) = (omega (arith, ints, clamps), omega (arith, ints, clamps), inr (omega (arith, ints, clamps)))
    by (inr lt) = (omega (arith, ints, clamps), omega (arith, ints, clamps), inl (omega (arith, ints, clamps)))
