-- The greatest of a place and all marks of segments, and orders of a mark that is a place.
use Rattle.std.proofs.Common.{◌≡◌, ◌⊎◌, ◌∙◌, ◌<◌, ◌≤◌, ◌<ℤ◌, ◌≤ℤ◌, ℕ, ℤ, pos, negsuc, max, Bool, true, false, nat_lt, nat_le, T, List, [], ◌∷◌, refl, ap, subst, arith, inl, inr}
use Rattle.std.specs.List.{Contains}
use Rattle.std.proofs.lemmas.Bool.{cases_lt, ltb-true, leb-true}
use Rattle.sled_store.proofs.Segments.Elements.{in_first, in_rest}
use Rattle.sled_core.specs.declared.iterator.Segment.{Segment}
use Rattle.sled_core.specs.Tail.{place_of_mark, greatest_mark}

-- The greatest mark is the place that it is not below, or a mark.
pub greatest_is : (least : ℕ) (ss : List Segment) → (greatest_mark least ss ≡ least) ⊎ ((s : Segment) × Contains ss s × (s.mark ≡ pos (greatest_mark least ss)))
greatest_is least [] = inl refl
greatest_is least (s ∷ ss) = by s.mark refl (greatest_is least ss) where
  Is : ℕ → Type 0
  Is n = (n ≡ least) ⊎ ((t : Segment) × Contains (s ∷ ss) t × (t.mark ≡ pos n))

  later : (greatest_mark least ss ≡ least) ⊎ ((t : Segment) × Contains ss t × (t.mark ≡ pos (greatest_mark least ss))) → Is (greatest_mark least ss)
  later (inl at) = inl at
  later (inr (t, there, at)) = inr (t, in_rest s t ss there, at)

  by : (mark : ℤ) → s.mark ≡ mark → (greatest_mark least ss ≡ least) ⊎ ((t : Segment) × Contains ss t × (t.mark ≡ pos (greatest_mark least ss))) → Is (max (place_of_mark s.mark) (greatest_mark least ss))
  by (pos n) at rest = elim (cases_lt n (greatest_mark least ss)) [
    | inl lower ↦ subst Is (omega (arith, lower, ap place_of_mark at)) (later rest)
    | inr higher ↦ inr (s, in_first s ss, at ∙ ap pos (omega (arith, higher, ap place_of_mark at)))
  ]
  by (negsuc n) at rest = subst Is (omega (arith, ap place_of_mark at)) (later rest)

-- orders of a mark that is a place

passes : (b : Bool) → T b → b ≡ true
passes true holds = refl
passes false holds = absurd holds

pub mark_below : (mark : ℤ) (n p : ℕ) → mark ≡ pos n → mark <ℤ pos p → n < p
mark_below mark n p is below = let both : pos n <ℤ pos p = subst (λ z. z <ℤ pos p) is below in ltb-true n p (passes (nat_lt n p) both.lt)

pub mark_above : (mark : ℤ) (n p : ℕ) → mark ≡ pos n → pos p ≤ℤ mark → p ≤ n
mark_above mark n p is above = let both : pos p ≤ℤ pos n = subst (λ z. pos p ≤ℤ z) is above in leb-true p n (passes (nat_le p n) both.le)
