-- The contiguous end is where the next place is in no interval.
use Rattle.std.proofs.Common.{◌⊎◌, ◌≤ℤ◌, ◌<ℤ◌, ◌+ℤ◌, suc, ℤ, pos, List, ◌∷◌, slice_index_or, inl, inr, arith}
use Rattle.std.specs.List.{All, Any, Contains}
use Rattle.std.proofs.lemmas.Int.{ints, by_lt_z}
use Rattle.std.proofs.lemmas.List.Elements.{All-contains, Contains-get_or}
use Rattle.sled_core.specs.StableEnds.{LiesIn, Covers, IsContiguousEnd}
pub use Rattle.sled_store.proofs.Segments.Elements.{in_first as first, in_rest as later, in_cases as first_or_later}

pub or_beyond : (a b : ℤ) → (a ≤ℤ b) ⊎ (b <ℤ a)
or_beyond a b = by_lt_z b a (λ lt. inr lt) (λ le. inl le)

-- What is in a list with one more in front.

pub some_in : {X : Type 0} (P : X → Type 0) (xs : List X) (x : X) → Contains xs x → P x → Any P xs
some_in P xs x (k, lt, at) p = (k, x, lt, at, p)

pub none_in : {X : Type 0} (P : X → Type 0) (xs : List X) → All (λ x. P x → ⊥) xs → Any P xs → ⊥
none_in P xs none (k, x, lt, at, p) = All-contains (λ x. P x → ⊥) xs x none (k, lt, at) p

pub some_later : {X : Type 0} (P : X → Type 0) (x : X) (xs : List X) → Any P xs → Any P (x ∷ xs)
some_later P x xs (k, y, lt, at, p) = (suc k, y, omega arith, at, p)

-- Where the next place is in no interval, nothing beyond is covered.
pub greatest_at : (s : ℤ) (is : List (ℤ × ℤ)) (e : ℤ) → s ≤ℤ e → All (λ i. LiesIn (e +ℤ pos 1) i → ⊥) is → (p : ℤ) → Covers s is p → p ≤ℤ e
greatest_at s is e from none p covers = by (or_beyond p e)
  where
    by : (p ≤ℤ e) ⊎ (e <ℤ p) → p ≤ℤ e
    by (inl le) = le
    by (inr lt) = absurd (none_in (LiesIn (e +ℤ pos 1)) is none (covers (e +ℤ pos 1) (omega (arith, ints)) (omega (arith, ints))))

-- Behind the contiguous end a place is in no interval.
pub uncovered : (s : ℤ) (is : List (ℤ × ℤ)) (e : ℤ) → IsContiguousEnd s is e → All (λ i. LiesIn (e +ℤ pos 1) i → ⊥) is
uncovered s is e c k d lt lies =
    let i = slice_index_or is k d in
    let covers : Covers s is (e +ℤ pos 1) = λ p low high. by p low high i lies (Contains-get_or is k d lt) (or_beyond p e) in
    let beyond : (e +ℤ pos 1) ≤ℤ e = c.greatest (e +ℤ pos 1) covers in absurd (omega (arith, ints))
  where
    by : (p : ℤ) → s <ℤ p → p ≤ℤ (e +ℤ pos 1) → (i : ℤ × ℤ) → LiesIn (e +ℤ pos 1) i → Contains is i → (p ≤ℤ e) ⊎ (e <ℤ p) → Any (LiesIn p) is
    by p low high i lies at (inl le) = c.covered p low le
    by p low high i lies at (inr lt) =
        let from : i.0 ≤ℤ p = let a = lies.0 in omega (arith, ints) in
        let to : p ≤ℤ i.1 = let b = lies.1 in omega (arith, ints) in
        some_in (LiesIn p) is i at (from, to)
