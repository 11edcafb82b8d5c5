-- A new batch among those in order, and the batch that a place is in.
use Rattle.std.proofs.Common.{◌≡◌, ◌⊎◌, ◌<◌, ◌≤◌, ◌≤ℤ◌, ◌<ℤ◌, ◌-ℤ◌, ◌∙◌, ℕ, zero, suc, ℤ, pos, negsuc, Result, Ok, Err, OnOk, OnErr, w64, SFits, List, [], ◌∷◌, length, slice_index_or, refl, sym, ap, subst, inl, inr, arith}
use Rattle.std.specs.List.{All, AllWithin, Contains, insert}
use Rattle.std.proofs.lemmas.Int.{ints}
use Rattle.std.proofs.lemmas.List.{get_or_default}
use Rattle.std.proofs.lemmas.List.Elements.{All-contains, All-cons, All-head, All-weaker, All-nil, All-from_all_within}
use Rattle.std.proofs.lemmas.List.Sorted.{All-permutation, Contains-permutation, IsPermutation-insert}
use Rattle.sled_core.specs.StableEnds.{IsOpenAround, AreApart, Precedes, AreInOrder, AreWaiting, HasPlaceBefore, end_before}
use Rattle.sled_core.proofs.Stable.EndLemmas.{or_beyond, first, later}
use Rattle.sled_core.proofs.Stable.Waiting.{first_precedes, rest_in_order}

-- Where a new batch belongs.

pub all_inserted : (x : ℤ × ℤ) (P : ℤ × ℤ → Type 0) (bs : List (ℤ × ℤ)) (at : ℕ) → P x → All P bs → All P (insert bs at x)
all_inserted x P bs at here all = All-permutation P (x ∷ bs) (insert bs at x) (IsPermutation-insert bs at x) (All-cons P x bs here all)

module _ (x : ℤ × ℤ) (ordered : x.0 ≤ℤ x.1) where
  -- all before it end below its lowest place, and all behind it begin above its peg
  pub inserted_in_order : (bs : List (ℤ × ℤ)) (at : ℕ) → AreInOrder bs → at ≤ length bs → AllWithin (λ b. b.1 <ℤ x.0) bs 0 at → AllWithin (λ b. x.1 <ℤ b.0) bs at (length bs)
      → AreInOrder (insert bs at x)
  inserted_in_order [] zero ord le below above = (record { ordered = ordered; before = All-nil (λ c. x.1 <ℤ c.0) }, tt)
  inserted_in_order [] (suc i) ord le below above = absurd (omega arith)
  inserted_in_order (b ∷ bs) zero ord le below above = (record { ordered = ordered; before = All-from_all_within (λ c. x.1 <ℤ c.0) (b ∷ bs) above }, ord)
  inserted_in_order (b ∷ bs) (suc i) ord le below above = (
    record { ordered = p.ordered; before = all_inserted x (λ c. b.1 <ℤ c.0) bs i (below 0 b (omega arith) (omega arith)) p.before },
    inserted_in_order bs i (rest_in_order b bs ord) (omega arith) (λ k d low high. below (suc k) d (omega arith) (omega arith)) (λ k d low high. above (suc k) d (omega arith) (omega arith)),
  )
    where
      p : Precedes b bs
      p = first_precedes b bs ord

  ordered_at : (bs : List (ℤ × ℤ)) → AreInOrder bs → All (λ b. b.0 ≤ℤ b.1) bs
  ordered_at [] ord = All-nil (λ b. b.0 ≤ℤ b.1)
  ordered_at (b ∷ bs) ord = All-cons (λ b. b.0 ≤ℤ b.1) b bs (first_precedes b bs ord).ordered (ordered_at bs (rest_in_order b bs ord))

  before_it : (b : ℤ × ℤ) → b.0 ≤ℤ b.1 → AreApart x b → b.1 ≤ℤ x.0 → b.1 <ℤ x.0
  before_it b up (inl lt) le = absurd (omega (arith, ints))
  before_it b up (inr lt) le = lt

  behind_it : (b : ℤ × ℤ) → AreApart x b → x.0 <ℤ b.1 → x.1 <ℤ b.0
  behind_it b (inl lt) le = lt
  behind_it b (inr lt) le = absurd (omega (arith, ints))

  -- it lies above the contiguous end, where it is above the stable one
  pub above_contiguous : (e : ℤ) (bs : List (ℤ × ℤ)) → All (λ b. e <ℤ b.1) bs → All (AreApart x) bs → end_before e bs <ℤ x.0 → e <ℤ x.0
  above_contiguous e [] open_yet apart above = above
  above_contiguous e (b ∷ bs) open_yet apart above = by (or_beyond b.0 e) (All-head (AreApart x) b bs apart)
    where
      here : e <ℤ b.1
      here = All-head (λ b. e <ℤ b.1) b bs open_yet

      by : (b.0 ≤ℤ e) ⊎ (e <ℤ b.0) → AreApart x b → e <ℤ x.0
      by (inr lt) a = grind (arith, ints)
      by (inl le) (inr lt) = let open_it = here in omega (arith, ints)
      by (inl le) (inl lt) = let under : (b.0 -ℤ pos 1) <ℤ x.0 = grind (arith, ints) in absurd (omega (arith, ints))

  -- the stable end stays
  pub end_stays : (e : ℤ) (bs : List (ℤ × ℤ)) (at : ℕ) → e <ℤ x.0 → at ≤ length bs → AllWithin (λ b. x.1 <ℤ b.0) bs at (length bs) → end_before e (insert bs at x) ≡ end_before e bs
  end_stays e [] zero above le behind = grind (arith, ints)
  end_stays e [] (suc i) above le behind = absurd (omega arith)
  end_stays e (b ∷ bs) zero above le behind = let next : x.1 <ℤ b.0 = behind 0 b (omega arith) (omega arith) in grind (arith, ints)
  end_stays e (b ∷ bs) (suc i) above le behind = refl

  -- it is among the batches that are awaited
  pub awaits_inserted : (bs : List (ℤ × ℤ)) (e : ℤ) (left : List (ℤ × ℤ)) (at : ℕ) → AreWaiting bs e left → AreInOrder (insert left at x) → AreWaiting (x ∷ bs) e (insert left at x)
  awaits_inserted bs e left at a ord = record {
    in_order = ord;
    among = all_inserted x (Contains (x ∷ bs)) left at (first x bs) (All-weaker (Contains bs) (Contains (x ∷ bs)) (λ y c. later x y bs c) left a.among);
    kept = All-cons (λ y. (y.1 ≤ℤ e) ⊎ Contains (insert left at x) y) x bs (inr (there x (first x left)))
        (All-weaker (λ y. (y.1 ≤ℤ e) ⊎ Contains left y) (λ y. (y.1 ≤ℤ e) ⊎ Contains (insert left at x) y) still bs a.kept);
  }
    where
      there : (y : ℤ × ℤ) → Contains (x ∷ left) y → Contains (insert left at x) y
      there y c = Contains-permutation (x ∷ left) (insert left at x) y (IsPermutation-insert left at x) c

      still : (y : ℤ × ℤ) → (y.1 ≤ℤ e) ⊎ Contains left y → (y.1 ≤ℤ e) ⊎ Contains (insert left at x) y
      still y (inl le) = inl le
      still y (inr c) = inr (there y (later x y left c))

  -- what a search for its lowest place found is where it belongs
  pub before_all : (bs : List (ℤ × ℤ)) (at : ℕ) → AreInOrder bs → at ≤ length bs → All (AreApart x) bs → AllWithin (λ b. b.1 ≤ℤ x.0) bs 0 at → AllWithin (λ b. b.1 <ℤ x.0) bs 0 at
  before_all bs at ord le apart below k d low high = before_it (slice_index_or bs k d) (ordered_at bs ord k d (omega arith)) (apart k d (omega arith)) (below k d low high)

  pub behind_all : (bs : List (ℤ × ℤ)) (at : ℕ) → All (AreApart x) bs → AllWithin (λ b. x.0 <ℤ b.1) bs at (length bs) → AllWithin (λ b. x.1 <ℤ b.0) bs at (length bs)
  behind_all bs at apart above k d low high = behind_it (slice_index_or bs k d) (apart k d high) (above k d low high)

-- The place before.

-- the stable end is a number of the type
pub end_fits : (e : ℤ) (bs : List (ℤ × ℤ)) → SFits w64 e → All HasPlaceBefore bs → SFits w64 (end_before e bs)
end_fits e [] fits all = fits
end_fits e (b ∷ bs) fits all = by (or_beyond b.0 e)
  where
    by : (b.0 ≤ℤ e) ⊎ (e <ℤ b.0) → SFits w64 (end_before e (b ∷ bs))
    by (inl le) = let same : end_before e (b ∷ bs) ≡ b.0 -ℤ pos 1 = grind (arith, ints) in subst (SFits w64) (sym same) (All-head HasPlaceBefore b bs all)
    by (inr lt) = let same : end_before e (b ∷ bs) ≡ e = grind (arith, ints) in subst (SFits w64) (sym same) fits

-- and so is the place before one above it
fits_under : (low z : ℤ) → SFits w64 low → SFits w64 z → low <ℤ z → SFits w64 (z -ℤ pos 1)
fits_under low (pos zero) fits above lt = record { sfits = omega arith }
fits_under low (pos (suc n)) fits above lt =
    let high = above.sfits in
    let same : (pos (suc n) -ℤ pos 1) ≡ pos n = omega (arith, ints) in
    let within : SFits w64 (pos n) = record { sfits = omega arith } in subst (SFits w64) (sym same) within
fits_under (pos m) (negsuc n) fits above lt = absurd (omega (arith, ints))
fits_under (negsuc m) (negsuc n) fits above lt = let deep = fits.sfits in record { sfits = omega (arith, ints) }

pub fits_before : (low : ℤ) (x : ℤ × ℤ) → SFits w64 low → SFits w64 x.0 → low <ℤ x.0 → HasPlaceBefore x
fits_before low x fits above lt = fits_under low x.0 fits above lt

-- a batch that is put in, or isn't
pub noted_all : {T E : Type 0} (Q : Type 0) (P : ℤ × ℤ → Type 0) (r : Result T E) (old new : List (ℤ × ℤ)) (at : ℕ) (x : ℤ × ℤ) → OnOk r (new ≡ insert old at x) → OnErr r ((new ≡ old) × Q)
    → P x → All P old → All P new
noted_all Q P (Ok v) old new at x is un here all = subst (All P) (sym is) (all_inserted x P old at here all)
noted_all Q P (Err v) old new at x is un here all = subst (All P) (sym un.0) all

-- The batch that a place is in.

-- a batch ends before a later one begins
later_begins : (bs : List (ℤ × ℤ)) → AreInOrder bs → (i j : ℕ) (d : ℤ × ℤ) → i < j → j < length bs → (slice_index_or bs i d).1 <ℤ (slice_index_or bs j d).0
later_begins [] ord i j d lt within = absurd (omega arith)
later_begins (b ∷ bs) ord i zero d lt within = absurd (omega arith)
later_begins (b ∷ bs) ord zero (suc j) d lt within = (first_precedes b bs ord).before j d (omega arith)
later_begins (b ∷ bs) ord (suc i) (suc j) d lt within = later_begins bs (rest_in_order b bs ord) i j d (omega arith) (omega arith)

compare : (i j : ℕ) → (i < j) ⊎ (i ≡ j) ⊎ (j < i)
compare zero zero = inr (inl refl)
compare zero (suc j) = inl (omega arith)
compare (suc i) zero = inr (inr (omega arith))
compare (suc i) (suc j) = elim (compare i j) [ inl lt ↦ inl (omega arith) | inr (inl same) ↦ inr (inl (ap suc same)) | inr (inr lt) ↦ inr (inr (omega arith)) ]

-- a batch that holds the place is the first one that ends behind it
pub held_is : (bs : List (ℤ × ℤ)) (e place : ℤ) (left : List (ℤ × ℤ)) (at : ℕ) (x : ℤ × ℤ) → AreWaiting bs e left → AllWithin (λ b. b.1 ≤ℤ place) left 0 at → at < length left
    → x ≡ slice_index_or left at x → place <ℤ x.1 → (b : ℤ × ℤ) → Contains bs b → IsOpenAround e place b → b ≡ x
held_is bs e place left at x a below lt is up b c h = of (All-contains (λ y. (y.1 ≤ℤ e) ⊎ Contains left y) bs b a.kept c)
  where
    by : (k : ℕ) → k < length left → slice_index_or left k b ≡ b → (k < at) ⊎ (k ≡ at) ⊎ (at < k) → b ≡ x
    by k high same (inl less) =
        let done : b.1 ≤ℤ place = subst (λ y. y.1 ≤ℤ place) same (below k b (omega arith) less) in
        let over = h.peg in absurd (omega (arith, ints))
    by k high same (inr (inl here)) = sym same ∙ ap (λ n. slice_index_or left n b) here ∙ get_or_default left at b x lt ∙ sym is
    by k high same (inr (inr more)) =
        let begins : (slice_index_or left at b).1 <ℤ (slice_index_or left k b).0 = later_begins left a.in_order at k b more high in
        let from : x.1 <ℤ b.0 = subst (λ y. y.1 <ℤ b.0) (get_or_default left at b x lt ∙ sym is) (subst (λ y. (slice_index_or left at b).1 <ℤ y.0) same begins) in
        let under = h.low in absurd (omega (arith, ints))

    of : (b.1 ≤ℤ e) ⊎ Contains left b → b ≡ x
    of (inl le) = let open_yet = h.open_yet in absurd (omega (arith, ints))
    of (inr (k, high, same)) = by k high same (compare k at)
