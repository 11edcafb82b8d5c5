-- The segments that a log has, as a list: each lies in a slot that isn't free, each such slot has its own, and each begins below all later ones.
use Rattle.std.proofs.Common.{⊎_elim, ◌≡◌, ◌≢◌, ◌∙◌, ◌⊎◌, ◌+◌, ◌*◌, ◌^◌, ◌<◌, ◌≤◌, ◌&&◌, ◌==◌, nat_le, nat_lt, not, ℕ, zero, suc, negsuc, Bool, true, false, if◌then◌else◌, List, [], ◌∷◌, refl, sym, ap, subst, arith, inl, inr}
use Rattle.std.specs.List.{Contains, sum_by}
use Rattle.std.specs.List.Sorted.{IsNonDecreasingBy}
use Rattle.std.proofs.lemmas.Bool.{and_parts, cases_eq}
use Rattle.std.proofs.lemmas.Bool.Decides.{nat_tests}
use Rattle.std.proofs.lemmas.List.Elements.{Contains-append_cases, Contains-append_left, Contains-append_right}
use Rattle.std.proofs.lemmas.List.Sums.{sum_by-cons, sum_by-append}
use Rattle.std.proofs.lemmas.List.Sorted.{IsPermutation-sym, Contains-permutation, sum_by-IsPermutation}
use Rattle.sled_store.specs.SegmentStates.{Machine, SlotState, is_free}
use Rattle.sled_store.specs.Tracked.{at}
use Rattle.sled_store.proofs.Segments.Elements.{in_first, in_cases, in_nothing}
use Rattle.sled_core.specs.declared.iterator.Segment.{Segment}
use Rattle.sled_core.specs.LogSegments.{segment_within, segments_among, AreSegments}
use Rattle.sled_core.proofs.Tail.OneTail.{Rises}

-- a slot isn't free
abbrev pub IsTaken : List SlotState → ℕ → Type 0
IsTaken slots k = is_free (at slots k).state ≡ false

-- the segment that lies in a slot
abbrev pub segment_of : ℕ → ℕ → SlotState → Segment
segment_of size k s = record { place = s.lsn; slot = k * size; mark = negsuc 0 }

module _ (size from to : ℕ) where
  -- the test by which it is listed
  abbrev Passes : SlotState → Bool
  Passes s = not (is_free s.state) && nat_le from s.lsn && nat_lt s.lsn to && nat_lt (s.lsn + size) (2 ^ 63)

  -- A segment is listed where it lies in a slot and begins from the one place up to the other.
  record IsListed (s : SlotState) : Type 0 where
    taken : is_free s.state ≡ false
    above : from ≤ s.lsn
    below : s.lsn < to

  -- what passes the test is to be listed
  passes_listed : (s : SlotState) → Passes s ≡ true → IsListed s
  passes_listed s test =
      let a = and_parts (not (is_free s.state) && nat_le from s.lsn && nat_lt s.lsn to) (nat_lt (s.lsn + size) (2 ^ 63)) test in
      let b = and_parts (not (is_free s.state) && nat_le from s.lsn) (nat_lt s.lsn to) a.0 in
      let c = and_parts (not (is_free s.state)) (nat_le from s.lsn) b.0 in
      let above = c.1 in
      let below = b.1 in
      record { taken = not_true (is_free s.state) c.0; above = grind (arith, nat_tests, above); below = grind (arith, nat_tests, below) }
    where
      not_true : (b : Bool) → not b ≡ true → b ≡ false
      not_true true is = cc
      not_true false is = refl

  -- and the other way round
  listed_passes : (s : SlotState) → IsListed s → s.lsn + size < 2 ^ 63 → Passes s ≡ true
  listed_passes s is fits =
      let above : nat_le from s.lsn ≡ true = (let le = is.above in grind (arith, nat_tests, le)) in
      let below : nat_lt s.lsn to ≡ true = (let lt = is.below in grind (arith, nat_tests, lt)) in
      let small : nat_lt (s.lsn + size) (2 ^ 63) ≡ true = grind (arith, nat_tests, fits) in
      all_true (is_free s.state) (nat_le from s.lsn) (nat_lt s.lsn to) (nat_lt (s.lsn + size) (2 ^ 63)) is.taken above below small
    where
      all_true : (a b c d : Bool) → a ≡ false → b ≡ true → c ≡ true → d ≡ true → (not a && b && c && d) ≡ true
      all_true a b c d ia ib ic id = ap (λ x. not x && b && c && d) ia ∙ ap (λ x. x && c && d) ib ∙ ap (λ x. x && d) ic ∙ id

  -- what is listed of one slot
  within_cases : (k : ℕ) (s : SlotState) → (IsListed s × (segment_within size from to k s ≡ segment_of size k s ∷ [])) ⊎ ((Passes s ≡ false) × (segment_within size from to k s ≡ []))
  within_cases k s = by (Passes s) refl where
    by : (b : Bool) → Passes s ≡ b → (IsListed s × (segment_within size from to k s ≡ segment_of size k s ∷ [])) ⊎ ((Passes s ≡ false) × (segment_within size from to k s ≡ []))
    by true test = inl (passes_listed s test, ap (λ b. if b then segment_of size k s ∷ [] else []) test)
    by false test = inr (test, ap (λ b. if b then segment_of size k s ∷ [] else []) test)

  -- A segment lies in one of these slots, and begins from the one place up to the other.
  pub record IsOfSlot (slots : List SlotState) (k : ℕ) (s : Segment) : Type 0 where
    pub index : ℕ
    pub taken : IsTaken slots index
    pub place : s.place ≡ (at slots index).lsn
    pub slot : s.slot ≡ (k + index) * size
    pub above : from ≤ s.place
    pub below : s.place < to

  -- what is listed lies in a slot
  among_of : (slots : List SlotState) (k : ℕ) (s : Segment) → Contains (segments_among size from to k slots) s → IsOfSlot slots k s
  among_of [] k s there = absurd (in_nothing s there)
  among_of (x ∷ xs) k s there = ⊎_elim here (λ rest. later (among_of xs (suc k) s rest)) (Contains-append_cases (segment_within size from to k x) (segments_among size from to (suc k) xs) s there) where
    here : Contains (segment_within size from to k x) s → IsOfSlot (x ∷ xs) k s
    here own = elim (within_cases k x) [
      | inl listed ↦ (
          let one = subst (λ (l : List Segment). Contains l s) listed.1 own in
          ⊎_elim
          (λ same.
          let is = listed.0 in
          let above = is.above in
          let below = is.below in
          let place : x.lsn ≡ s.place = ap (λ (y : Segment). y.place) same in
          let slot : k * size ≡ s.slot = ap (λ (y : Segment). y.slot) same in
          record { index = 0; taken = is.taken; place = sym place; slot = sym slot ∙ ap (λ n. n * size) (omega arith); above = omega (arith, above, place); below = omega (arith, below, place) })
          (λ none. absurd (in_nothing s none))
          (in_cases (segment_of size k x) s [] one))
      | inr none ↦ absurd (in_nothing s (subst (λ (l : List Segment). Contains l s) none.1 own))
    ]

    later : IsOfSlot xs (suc k) s → IsOfSlot (x ∷ xs) k s
    later of = record { index = suc of.index; taken = of.taken; place = of.place; slot = of.slot ∙ ap (λ n. n * size) (omega arith); above = of.above; below = of.below }

  -- and what lies in a slot is listed
  among_has : (slots : List SlotState) (k j : ℕ) → IsListed (at slots j) → (at slots j).lsn + size < 2 ^ 63 → (s : Segment) × Contains (segments_among size from to k slots) s × (s.place ≡ (at slots j).lsn)
  among_has [] k j is fits = let no = is.taken in cc
  among_has (x ∷ xs) k zero is fits = elim (within_cases k x) [
    | inl listed ↦ (
      segment_of size k x,
      Contains-append_left (segment_within size from to k x) (segments_among size from to (suc k) xs) (segment_of size k x) (subst (λ (l : List Segment). Contains l (segment_of size k x)) (sym listed.1) (in_first (segment_of size k x) [])),
      refl,
    )
    | inr none ↦ absurd (let no : true ≡ false = sym (listed_passes x is fits) ∙ none.0 in cc)
  ]
  among_has (x ∷ xs) k (suc j) is fits = let rest = among_has xs (suc k) j is fits in (rest.0, Contains-append_right (segment_within size from to k x) (segments_among size from to (suc k) xs) rest.0 rest.1, rest.2)

-- How many begin at a place.

-- 1 where it begins there, else 0
abbrev counts : ℕ → Segment → ℕ
counts p s = if s.place == p then 1 else 0

-- it does
counts_one : (p : ℕ) (s : Segment) → s.place ≡ p → counts p s ≡ 1
counts_one p s is = let test : (s.place == p) ≡ true = grind (arith, nat_tests, is) in ap (λ b. if b then 1 else 0) test

-- it doesn't
counts_none : (p : ℕ) (s : Segment) → s.place ≢ p → counts p s ≡ 0
counts_none p s other = let test : (s.place == p) ≡ false = grind (arith, nat_tests, other) in ap (λ b. if b then 1 else 0) test

-- one that is there counts
has_one : (p : ℕ) (ss : List Segment) (s : Segment) → Contains ss s → s.place ≡ p → 1 ≤ sum_by (counts p) ss
has_one p [] s there is = absurd (in_nothing s there)
has_one p (x ∷ xs) s there is = ⊎_elim
    (λ same. omega (arith, sum_by-cons (counts p) x xs, counts_one p x (ap (λ (y : Segment). y.place) same ∙ is)))
    (λ later. omega (arith, sum_by-cons (counts p) x xs, has_one p xs s later is))
    (in_cases x s xs there)

-- Segments that don't fall, of which at most one begins at each place, rise.
rising : (ss : List Segment) → IsNonDecreasingBy (λ s. s.place) ss → ((p : ℕ) → sum_by (counts p) ss ≤ 1) → Rises ss
rising [] order once = tt
rising (s ∷ ss) order once = (
  λ t there.
      let le : s.place ≤ t.place = subst (λ (y : Segment). s.place ≤ y.place) there.2 (order 0 (suc there.0) t (omega arith) (omega (arith, there.1))) in
      let other : t.place ≢ s.place = (λ same. omega (arith, once s.place, sum_by-cons (counts s.place) s ss, counts_one s.place s refl, has_one s.place ss t there same)) in
      omega (arith, le, other),
  rising ss (λ i j d le lt. order (suc i) (suc j) d (omega (arith, le)) (omega (arith, lt))) (λ p. omega (arith, once p, sum_by-cons (counts p) s ss)),
)

module _ (size from to : ℕ) (p : ℕ) where
  -- how many of these begin at the place
  abbrev Sum : List Segment → ℕ
  Sum ss = sum_by (counts p) ss

  -- none of these slots has a segment there
  none_among : (slots : List SlotState) (k : ℕ) → ((j : ℕ) → IsTaken slots j → (at slots j).lsn ≢ p) → Sum (segments_among size from to k slots) ≡ 0
  none_among [] k none = refl
  none_among (x ∷ xs) k none =
      let rest = none_among xs (suc k) (λ j taken. none (suc j) taken) in
      let parts = sum_by-append (counts p) (segment_within size from to k x) (segments_among size from to (suc k) xs) in
      elim (within_cases size from to k x) [
        | inl listed ↦ (
            let is = listed.0 in
            omega (arith, rest, parts, ap Sum listed.1, sum_by-cons (counts p) (segment_of size k x) [], counts_none p (segment_of size k x) (none 0 is.taken)))
        | inr passed ↦ omega (arith, rest, parts, ap Sum passed.1)
      ]

  -- where no two slots have segments of one place, at most one has
  once_among : (slots : List SlotState) (k : ℕ) → ((i j : ℕ) → IsTaken slots i → IsTaken slots j → (at slots i).lsn ≡ (at slots j).lsn → i ≡ j) → Sum (segments_among size from to k slots) ≤ 1
  once_among [] k one = omega arith
  once_among (x ∷ xs) k one =
      let rest = once_among xs (suc k) (λ i j here there same. let next = one (suc i) (suc j) here there same in omega (arith, next)) in
      let parts = sum_by-append (counts p) (segment_within size from to k x) (segments_among size from to (suc k) xs) in
      elim (within_cases size from to k x) [
        | inl listed ↦ (
            let is = listed.0 in
            let own = sum_by-cons (counts p) (segment_of size k x) [] in
            elim (cases_eq x.lsn p) [
              | inl same ↦ (
                  let none = none_among xs (suc k) (λ j taken at_p. let no = one 0 (suc j) is.taken taken (same ∙ sym at_p) in omega (arith, no)) in
                  omega (arith, none, parts, ap Sum listed.1, own, counts_one p (segment_of size k x) same))
              | inr other ↦ omega (arith, rest, parts, ap Sum listed.1, own, counts_none p (segment_of size k x) other)
            ])
        | inr passed ↦ omega (arith, rest, parts, ap Sum passed.1)
      ]

module _ (size : ℕ) (m : Machine) (from to : ℕ) (ss : List Segment) (is : AreSegments size m from to ss) where
  -- all that are listed, by slot
  abbrev All : List Segment
  All = segments_among size from to 0 m.slots

  -- Each lies in a slot.
  pub listed_of : (s : Segment) → Contains ss s → IsOfSlot size from to m.slots 0 s
  listed_of s there = among_of size from to m.slots 0 s (Contains-permutation ss All s (IsPermutation-sym All ss is.are) there)

  -- The segment of each slot that isn't free is there, where it begins from the one place up to the other.
  pub listed_has : (k : ℕ) → IsTaken m.slots k → from ≤ (at m.slots k).lsn → (at m.slots k).lsn < to → (at m.slots k).lsn + size < 2 ^ 63 → (s : Segment) × Contains ss s × (s.place ≡ (at m.slots k).lsn)
  listed_has k taken above below fits =
      let found = among_has size from to m.slots 0 k (record { taken = taken; above = above; below = below }) fits in
      (found.0, Contains-permutation All ss found.0 is.are found.1, found.2)

  -- They rise.
  pub listed_rises : ((i j : ℕ) → IsTaken m.slots i → IsTaken m.slots j → (at m.slots i).lsn ≡ (at m.slots j).lsn → i ≡ j) → Rises ss
  listed_rises one = rising ss is.by_place (λ p. omega (arith, sum_by-IsPermutation (counts p) All ss is.are, once_among size from to p m.slots 0 one))
