-- A search halves what is left with each comparison, so it ends within as many as the number of keys has binary digits.
use Rattle.std.proofs.Common.{◌≡◌, ℕ, zero, suc, ◌+◌, ◌-◌, ◌*◌, ◌/◌, ◌^◌, ◌<◌, ◌≤◌, List, length, get_or, ◌∙◌, refl, sym, ap, subst, arith}
use Rattle.std.specs.declared.cmp.Ordering.{Ordering}
use Rattle.std.specs.declared.cmp.Ordering.TheVariants.{Less, Greater}
use Rattle.std.specs.Ordering.{ordering_reverse}
use Rattle.std.specs.Cmp.{IsTotalOrder}
use Rattle.std.specs.Map.{keys_of}
use Rattle.std.specs.List.{AllWithin, HoldsAt}
use Rattle.std.specs.List.Sorted.{IsStrictlySortedBy}
use Rattle.std.proofs.lemmas.List.{get_or_default, length-map}
use Rattle.std.proofs.lemmas.Map.Keys.{Less-from_sorted}
use Rattle.std.proofs.Math.Nat.{pow-succ'}

-- so many more comparisons may be made where this many keys are left
pub record MayCompare (begun count width d : ℕ) : Type 0 where
  pub more : ℕ
  pub within : count + more ≤ begun + d
  pub fits : width < 2 ^ more

-- So far: the keys in front of `low` are less and those from `high` on greater, and what is left may be searched.
pub record IsSearching {K : Type 0} (R : K → K → Ordering) (x : K) (xs : List K) (begun count low high : ℕ) : Type 0 where
  pub order : low ≤ high
  pub within : high ≤ length xs
  pub below : AllWithin (λ k. R k x ≡ Less) xs 0 low
  pub above : AllWithin (λ k. R k x ≡ Greater) xs high (length xs)
  pub steps : (d : ℕ) → length xs < 2 ^ d → MayCompare begun count (high - low) d
  pub counted : begun ≤ count

halved : (e w v : ℕ) → w < 2 ^ e → 0 < w → 2 * v ≤ w → (f : ℕ) × (e ≡ f + 1) × (v < 2 ^ f)
halved zero w v lt some half = absurd (omega arith)
halved (suc f) w v lt some half =
    let double : 2 ^ suc f ≡ 2 * 2 ^ f = pow-succ' 2 f in
    (f, omega arith, omega arith)

compared : (begun count width half d : ℕ) → begun ≤ count → 0 < width → 2 * half ≤ width → MayCompare begun count width d → MayCompare begun (count + 1) half d
compared begun count width half d low some le may =
    let further = halved may.more width half may.fits some le in
    record { more = further.0; within = omega (arith, may.within, further.1); fits = further.2 }

module _ {K : Type 0} {R : K → K → Ordering} (o : IsTotalOrder R) (x : K) (xs : List K) (sorted : IsStrictlySortedBy R xs) where
  pub read : (r : Ordering) (m : ℕ) (y : K) → m < length xs → y ≡ get_or xs m y → r ≡ R y x → (d : K) → R (get_or xs m d) x ≡ r
  read r m y lt at is d = ap (λ z. R z x) (get_or_default xs m d y lt ∙ sym at) ∙ sym is

  less_before : (m : ℕ) → m < length xs → HoldsAt (λ k. R k x ≡ Less) xs m → AllWithin (λ k. R k x ≡ Less) xs 0 (m + 1)
  less_before m lt is k d low high = by (m - k) refl
    where
      by : (r : ℕ) → m - k ≡ r → R (get_or xs k d) x ≡ Less
      by zero none = let same : m ≡ k = omega arith in subst (λ i. R (get_or xs i d) x ≡ Less) same (is d)
      by (suc r) some = o.trans (get_or xs k d) (get_or xs m d) x (Less-from_sorted R xs k m d sorted (omega arith) lt) (is d)

  greater_behind : (m : ℕ) → m < length xs → HoldsAt (λ k. R k x ≡ Greater) xs m → AllWithin (λ k. R k x ≡ Greater) xs m (length xs)
  greater_behind m lt is k d low high = by (k - m) refl
    where
      by : (r : ℕ) → k - m ≡ r → R (get_or xs k d) x ≡ Greater
      by zero none = let same : m ≡ k = omega arith in subst (λ i. R (get_or xs i d) x ≡ Greater) same (is d)
      by (suc r) some =
          let turned : R x (get_or xs m d) ≡ Less = o.antisymm x (get_or xs m d) ∙ ap ordering_reverse (is d) in
          let less = o.trans x (get_or xs m d) (get_or xs k d) turned (Less-from_sorted R xs m k d sorted (omega arith) high) in
          o.antisymm (get_or xs k d) x ∙ ap ordering_reverse less

  -- The key in the middle of what is left is less, or greater.

  pub goes_right : (begun count low high then : ℕ) (y : K) → IsSearching R x xs begun count low high → low < high → y ≡ get_or xs (low + (high - low) / 2) y
      → Less ≡ R y x → then ≡ count + 1 → IsSearching R x xs begun then (low + (high - low) / 2 + 1) high
  goes_right begun count low high then y s some at is counted =
      let lt : low + (high - low) / 2 < length xs = omega (arith, s.within) in
      subst (λ n. IsSearching R x xs begun n (low + (high - low) / 2 + 1) high) (sym counted) (record {
        order = omega arith;
        within = s.within;
        below = less_before (low + (high - low) / 2) lt (read Less (low + (high - low) / 2) y lt at is);
        above = s.above;
        steps = λ d lt. compared begun count (high - low) (high - (low + (high - low) / 2 + 1)) d s.counted (omega arith) (omega arith) (s.steps d lt);
        counted = omega (arith, s.counted);
      })

  pub goes_left : (begun count low high then : ℕ) (y : K) → IsSearching R x xs begun count low high → low < high → y ≡ get_or xs (low + (high - low) / 2) y
      → Greater ≡ R y x → then ≡ count + 1 → IsSearching R x xs begun then low (low + (high - low) / 2)
  goes_left begun count low high then y s some at is counted =
      let lt : low + (high - low) / 2 < length xs = omega (arith, s.within) in
      subst (λ n. IsSearching R x xs begun n low (low + (high - low) / 2)) (sym counted) (record {
        order = omega arith;
        within = omega (arith, s.within);
        below = s.below;
        above = greater_behind (low + (high - low) / 2) lt (read Greater (low + (high - low) / 2) y lt at is);
        steps = λ d lt. compared begun count (high - low) (low + (high - low) / 2 - low) d s.counted (omega arith) (omega arith) (s.steps d lt);
        counted = omega (arith, s.counted);
      })

-- the middle of what is left of the keys of entries is one of the entries
pub middle_within : {K V : Type 0} (es : List (K × V)) (low high : ℕ) → low < high → high ≤ length (keys_of es) → low + (high - low) / 2 < length es
middle_within es low high some within = let same : length (keys_of es) ≡ length es = length-map es (λ p. p.0) in omega arith
