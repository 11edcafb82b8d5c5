-- The stable end by its definition.
use Rattle.std.proofs.Common.{◌≡◌, ◌⊎◌, ◌<◌, ◌≤ℤ◌, ◌<ℤ◌, ◌+ℤ◌, ◌-ℤ◌, ℤ, pos, negsuc, List, [], ◌∷◌, ◌++◌, Option, None, Some, sym, ap, subst, inl, inr, arith, w64, SFits}
use Rattle.std.specs.Int.{int_gap, saturate_signed}
use Rattle.std.specs.List.{Any}
use Rattle.std.proofs.lemmas.Int.{ints}
use Rattle.std.proofs.lemmas.List.Elements.{All-weaker, All-append, All-cons, All-nil, Contains-append_left, Contains-append_right}
use Rattle.sled_core.specs.StableEnds.{LiesIn, Covers, IsContiguousEnd, IsHalfSynced, IsStableEnd}
use Rattle.sled_oracle.specs.LowestHalf.{IsLowestHalf}
use Rattle.sled_core.proofs.Stable.EndLemmas.{or_beyond, first, some_in}

-- an interval that begins one place behind the end at most covers up to its own end
pub covers_further : (s : ℤ) (is : List (ℤ × ℤ)) (e e' : ℤ) → Covers s is e → Any (λ i. (i.0 ≤ℤ (e +ℤ pos 1)) × (i.1 ≡ e')) is → Covers s is e'
covers_further s is e e' covers (k, i, lt, at, here) p low high = by (or_beyond p e)
  where
    by : (p ≤ℤ e) ⊎ (e <ℤ p) → Any (LiesIn p) is
    by (inl le) = covers p low le
    by (inr more) = let near = here.0 in let to : p ≤ℤ i.1 = subst (λ z. p ≤ℤ z) (sym here.1) high in some_in (LiesIn p) is i (k, lt, at) (omega (arith, ints), to)

-- One more batch is looked at.

pub none_more : (e : ℤ) (bs : List (ℤ × ℤ)) (b : ℤ × ℤ) (o : Option (ℤ × ℤ)) → (IsHalfSynced e b → ⊥) → IsLowestHalf e bs o → IsLowestHalf e (bs ++ b ∷ []) o
none_more e bs b None not l = All-append (λ x. IsHalfSynced e x → ⊥) bs (b ∷ []) l (All-cons (λ x. IsHalfSynced e x → ⊥) b [] not (All-nil (λ x. IsHalfSynced e x → ⊥)))
none_more e bs b (Some x) not l = (
  Contains-append_left bs (b ∷ []) x l.0,
  l.1,
  All-append (λ y. IsHalfSynced e y → x.0 ≤ℤ y.0) bs (b ∷ []) l.2
      (All-cons (λ y. IsHalfSynced e y → x.0 ≤ℤ y.0) b [] (λ half. absurd (not half)) (All-nil (λ y. IsHalfSynced e y → x.0 ≤ℤ y.0))),
)

pub still_lowest : (e : ℤ) (bs : List (ℤ × ℤ)) (b x : ℤ × ℤ) → x.0 ≤ℤ b.0 → IsLowestHalf e bs (Some x) → IsLowestHalf e (bs ++ b ∷ []) (Some x)
still_lowest e bs b x le l = (
  Contains-append_left bs (b ∷ []) x l.0,
  l.1,
  All-append (λ y. IsHalfSynced e y → x.0 ≤ℤ y.0) bs (b ∷ []) l.2
      (All-cons (λ y. IsHalfSynced e y → x.0 ≤ℤ y.0) b [] (λ half. le) (All-nil (λ y. IsHalfSynced e y → x.0 ≤ℤ y.0))),
)

pub first_lowest : (e : ℤ) (bs : List (ℤ × ℤ)) (b : ℤ × ℤ) → IsHalfSynced e b → IsLowestHalf e bs None → IsLowestHalf e (bs ++ b ∷ []) (Some b)
first_lowest e bs b half l = (
  Contains-append_right bs (b ∷ []) b (first b []),
  half,
  All-append (λ y. IsHalfSynced e y → b.0 ≤ℤ y.0) bs (b ∷ [])
      (All-weaker (λ y. IsHalfSynced e y → ⊥) (λ y. IsHalfSynced e y → b.0 ≤ℤ y.0) (λ y none half. absurd (none half)) bs l)
      (All-cons (λ y. IsHalfSynced e y → b.0 ≤ℤ y.0) b [] (λ half. omega (arith, ints)) (All-nil (λ y. IsHalfSynced e y → b.0 ≤ℤ y.0))),
)

pub now_lowest : (e : ℤ) (bs : List (ℤ × ℤ)) (b x : ℤ × ℤ) → IsHalfSynced e b → b.0 <ℤ x.0 → IsLowestHalf e bs (Some x) → IsLowestHalf e (bs ++ b ∷ []) (Some b)
now_lowest e bs b x half lt l = (
  Contains-append_right bs (b ∷ []) b (first b []),
  half,
  All-append (λ y. IsHalfSynced e y → b.0 ≤ℤ y.0) bs (b ∷ [])
      (All-weaker (λ y. IsHalfSynced e y → x.0 ≤ℤ y.0) (λ y. IsHalfSynced e y → b.0 ≤ℤ y.0) (λ y above half. let over = above half in omega (arith, ints)) bs l.2)
      (All-cons (λ y. IsHalfSynced e y → b.0 ≤ℤ y.0) b [] (λ half. omega (arith, ints)) (All-nil (λ y. IsHalfSynced e y → b.0 ≤ℤ y.0))),
)

-- What the lowest says of the stable end.

pub low_end : (s : ℤ) (is bs : List (ℤ × ℤ)) (e : ℤ) (b : ℤ × ℤ) (r : ℤ) → IsContiguousEnd s is e → IsLowestHalf e bs (Some b) → r ≡ b.0 -ℤ pos 1 → IsStableEnd s is bs r
low_end s is bs e b r c l at = record { end = e; contiguous = c; stable = inr (record { batch = b; among = l.0; half = l.1; lowest = l.2; before = at }) }

-- a number of the type is the nearest to itself
pub nearest : (z : ℤ) → SFits w64 z → saturate_signed w64 z ≡ z
nearest (pos n) fits = let high = fits.sfits in ap pos (omega arith)
nearest (negsuc n) fits = let low = fits.sfits in ap negsuc (omega arith)
