-- A segment is put in among others by its place.
use Rattle.std.proofs.Common.{◌≡◌, ◌≢◌, ◌⊎◌, ◌<◌, ◌≤◌, ℕ, Bool, true, false, nat_lt, if◌then◌else◌, List, [], ◌∷◌, refl, sym, subst, arith, inl, inr}
use Rattle.std.specs.List.{Contains}
use Rattle.std.proofs.lemmas.Bool.{ltb-true, ltb-false}
use Rattle.sled_store.proofs.Segments.Elements.{in_first, in_rest, in_cases, in_nothing}
use Rattle.sled_core.specs.declared.iterator.Segment.{Segment}
use Rattle.sled_core.specs.inside.Scan.{IsFoundSegment, IsMisplaced}
use Rattle.sled_core.specs.Tail.{IsOrdering}
use Rattle.sled_core.proofs.Tail.OneTail.{Rises, rises_of}
use Rattle.sled_core.proofs.Tail.SegmentsFrom.{ascends_of}

abbrev pub put_in : Segment → List Segment → List Segment
put_in s [] = s ∷ []
put_in s (t ∷ ss) = if nat_lt s.place t.place then s ∷ t ∷ ss else t ∷ put_in s ss

module _ (s : Segment) where
  -- it is there
  pub put_there : (ss : List Segment) → Contains (put_in s ss) s
  put_there [] = in_first s []
  put_there (t ∷ ss) = by (nat_lt s.place t.place) (put_there ss) where
    by : (b : Bool) → Contains (put_in s ss) s → Contains (if b then s ∷ t ∷ ss else t ∷ put_in s ss) s
    by true rest = in_first s (t ∷ ss)
    by false rest = in_rest t s (put_in s ss) rest

  -- and so are the others
  pub others_there : (ss : List Segment) (u : Segment) → Contains ss u → Contains (put_in s ss) u
  others_there [] u there = absurd (in_nothing u there)
  others_there (t ∷ ss) u there = by (nat_lt s.place t.place) (others_there ss u) where
    by : (b : Bool) → (Contains ss u → Contains (put_in s ss) u) → Contains (if b then s ∷ t ∷ ss else t ∷ put_in s ss) u
    by true rest = in_rest s u (t ∷ ss) there
    by false rest = elim (in_cases t u ss there) [
      | inl same ↦ subst (Contains (t ∷ put_in s ss)) same (in_first t (put_in s ss))
      | inr later ↦ in_rest t u (put_in s ss) (rest later)
    ]

  -- and none else
  pub put_cases : (ss : List Segment) (u : Segment) → Contains (put_in s ss) u → (s ≡ u) ⊎ Contains ss u
  put_cases [] u there = elim (in_cases s u [] there) [ inl same ↦ inl same | inr none ↦ absurd (in_nothing u none) ]
  put_cases (t ∷ ss) u there = by (nat_lt s.place t.place) (put_cases ss u) there where
    by : (b : Bool) → (Contains (put_in s ss) u → (s ≡ u) ⊎ Contains ss u) → Contains (if b then s ∷ t ∷ ss else t ∷ put_in s ss) u → (s ≡ u) ⊎ Contains (t ∷ ss) u
    by true rest there = in_cases s u (t ∷ ss) there
    by false rest there = elim (in_cases t u (put_in s ss) there) [
      | inl same ↦ inr (subst (Contains (t ∷ ss)) same (in_first t ss))
      | inr later ↦ elim (rest later) [ inl same ↦ inl same | inr other ↦ inr (in_rest t u ss other) ]
    ]

  -- Where no other one has its place, they rise as before.
  pub put_rises : (ss : List Segment) → Rises ss → ((u : Segment) → Contains ss u → u.place ≢ s.place) → Rises (put_in s ss)
  put_rises [] rises other = (λ u there. absurd (in_nothing u there), tt)
  put_rises (t ∷ ss) rises other = by (nat_lt s.place t.place) refl (put_rises ss rises.1 (λ u there. other u (in_rest t u ss there))) where
    by : (b : Bool) → nat_lt s.place t.place ≡ b → Rises (put_in s ss) → Rises (if b then s ∷ t ∷ ss else t ∷ put_in s ss)
    by true test rest =
        let less : s.place < t.place = ltb-true s.place t.place test in (
          λ u there. elim (in_cases t u ss there) [
            | inl same ↦ subst (λ (x : Segment). s.place < x.place) same less
            | inr later ↦ (let above = rises.0 u later in omega (arith, less, above))
          ],
          rises,
        )
    by false test rest =
        let le : t.place ≤ s.place = ltb-false s.place t.place test in
        let apart = other t (in_first t ss) in
        let less : t.place < s.place = omega (arith, le, apart) in (
          λ u there. elim (put_cases ss u there) [
            | inl same ↦ subst (λ (x : Segment). t.place < x.place) same less
            | inr later ↦ rises.0 u later
          ],
          rest,
        )

-- The segments that are found in another file which has one more.
pub ordering_with : (sum : List ℕ → ℕ) (size : ℕ) (old log : List ℕ) (least : ℕ) (ss : List Segment) → IsOrdering sum size old least ss → (s : Segment) → IsFoundSegment sum size log least s
    → ((t : Segment) → IsFoundSegment sum size old least t → IsFoundSegment sum size log least t) → ((t : Segment) → IsFoundSegment sum size log least t → IsFoundSegment sum size old least t ⊎ (t ≡ s))
    → (IsMisplaced size s → ⊥) → ((t : Segment) → Contains ss t → t.place ≢ s.place) → IsOrdering sum size log least (put_in s ss)
ordering_with sum size old log least ss is s found stays before placed other = record {
  ascending = ascends_of (put_in s ss) (put_rises s ss (rises_of ss is.ascending) other);
  found = λ t. (
    λ there. elim (put_cases s ss t there) [ inl same ↦ subst (IsFoundSegment sum size log least) same found | inr had ↦ stays t ((is.found t).0 had) ],
    λ has. elim (before t has) [ inl had ↦ others_there s ss t ((is.found t).1 had) | inr same ↦ subst (Contains (put_in s ss)) (sym same) (put_there s ss) ],
  );
  placed = λ t there. elim (put_cases s ss t there) [ inl same ↦ subst (λ (x : Segment). IsMisplaced size x → ⊥) same placed | inr had ↦ is.placed t had ];
}
