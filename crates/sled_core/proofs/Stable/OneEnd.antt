-- There is one stable end, and it lies in no batch.
use Rattle.std.proofs.Common.{◌≡◌, ◌∙◌, ◌⊎◌, ◌≤ℤ◌, ◌<ℤ◌, ◌-ℤ◌, ℤ, pos, List, sym, ap, subst, inl, inr, arith}
use Rattle.std.specs.List.{All, Contains}
use Rattle.std.proofs.lemmas.Int.{ints}
use Rattle.std.proofs.lemmas.List.Elements.{All-contains, All-weaker, All-contains_itself}
use Rattle.sled_core.specs.StableEnds.{LiesIn, IsContiguousEnd, IsHalfSynced, IsBeforeHalfSynced, IsStableEnd, AreApart}
use Rattle.sled_core.proofs.Stable.EndLemmas.{or_beyond, none_in}

pub one_contiguous : (s : ℤ) (is : List (ℤ × ℤ)) (e e' : ℤ) → IsContiguousEnd s is e → IsContiguousEnd s is e' → e ≡ e'
one_contiguous s is e e' c d =
    let up : e ≤ℤ e' = d.greatest e c.covered in
    let down : e' ≤ℤ e = c.greatest e' d.covered in omega (arith, ints)

one_low : (e : ℤ) (bs : List (ℤ × ℤ)) (r r' : ℤ) → IsBeforeHalfSynced e bs r → IsBeforeHalfSynced e bs r' → r ≡ r'
one_low e bs r r' b c =
    let up : b.batch.0 ≤ℤ c.batch.0 = All-contains (λ x. IsHalfSynced e x → b.batch.0 ≤ℤ x.0) bs c.batch b.lowest c.among c.half in
    let down : c.batch.0 ≤ℤ b.batch.0 = All-contains (λ x. IsHalfSynced e x → c.batch.0 ≤ℤ x.0) bs b.batch c.lowest b.among b.half in
    let same : b.batch.0 ≡ c.batch.0 = omega (arith, ints) in b.before ∙ ap (λ z. z -ℤ pos 1) same ∙ sym c.before

pub one_stable : (s : ℤ) (is bs : List (ℤ × ℤ)) (r r' : ℤ) → IsStableEnd s is bs r → IsStableEnd s is bs r' → r ≡ r'
one_stable s is bs r r' x y = by x.stable (subst (λ e. (All (λ b. IsHalfSynced e b → ⊥) bs × (r' ≡ e)) ⊎ IsBeforeHalfSynced e bs r') (sym same) y.stable)
  where
    same : x.end ≡ y.end
    same = one_contiguous s is x.end y.end x.contiguous y.contiguous

    by : (All (λ b. IsHalfSynced x.end b → ⊥) bs × (r ≡ x.end)) ⊎ IsBeforeHalfSynced x.end bs r → (All (λ b. IsHalfSynced x.end b → ⊥) bs × (r' ≡ x.end)) ⊎ IsBeforeHalfSynced x.end bs r' → r ≡ r'
    by (inl (none, at)) (inl (none', at')) = at ∙ sym at'
    by (inl (none, at)) (inr b) = absurd (All-contains (λ b. IsHalfSynced x.end b → ⊥) bs b.batch none b.among b.half)
    by (inr b) (inl (none, at)) = absurd (All-contains (λ b. IsHalfSynced x.end b → ⊥) bs b.batch none b.among b.half)
    by (inr b) (inr c) = one_low x.end bs r r' b c

-- a place that is in no interval lies beyond the contiguous end
pub uncovered_beyond : (s : ℤ) (is : List (ℤ × ℤ)) (e p : ℤ) → IsContiguousEnd s is e → s <ℤ p → All (λ i. LiesIn p i → ⊥) is → e <ℤ p
uncovered_beyond s is e p c above none = by (or_beyond p e)
  where
    by : (p ≤ℤ e) ⊎ (e <ℤ p) → e <ℤ p
    by (inl le) = absurd (none_in (LiesIn p) is none (c.covered p above le))
    by (inr lt) = lt

-- where batches share no place, the stable end is in none below its peg
pub end_in_none : (s : ℤ) (is bs : List (ℤ × ℤ)) (r : ℤ) → IsStableEnd s is bs r → All (λ b. b.0 ≤ℤ b.1) bs
    → ((a b : ℤ × ℤ) → Contains bs a → Contains bs b → (a ≡ b) ⊎ AreApart a b) → All (λ b. IsHalfSynced r b → ⊥) bs
end_in_none s is bs r x ordered apart = by x.stable
  where
    cut : (b : IsBeforeHalfSynced x.end bs r) (a : ℤ × ℤ) → IsHalfSynced r a → b.batch.0 ≤ℤ b.batch.1 → r ≡ b.batch.0 -ℤ pos 1 → (a ≡ b.batch) ⊎ AreApart a b.batch → ⊥
    cut b a half up at (inl same) = let low : b.batch.0 ≤ℤ r = subst (λ y. y.0 ≤ℤ r) same half.0 in absurd (omega (arith, ints))
    cut b a half up at (inr (inl lt)) = let peg = half.1 in absurd (omega (arith, ints))
    cut b a half up at (inr (inr lt)) = let low = half.0 in absurd (omega (arith, ints))

    by : (All (λ b. IsHalfSynced x.end b → ⊥) bs × (r ≡ x.end)) ⊎ IsBeforeHalfSynced x.end bs r → All (λ b. IsHalfSynced r b → ⊥) bs
    by (inl (none, at)) = subst (λ e. All (λ b. IsHalfSynced e b → ⊥) bs) (sym at) none
    by (inr b) = All-weaker (Contains bs) (λ a. IsHalfSynced r a → ⊥)
        (λ a among half. cut b a half (All-contains (λ y. y.0 ≤ℤ y.1) bs b.batch ordered b.among) b.before (apart a b.batch among b.among)) bs (All-contains_itself bs)
