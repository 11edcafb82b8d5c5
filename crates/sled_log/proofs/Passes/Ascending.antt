-- Segments by place: what lies behind an index begins above, and what begins below a place stands first.
use Rattle.std.proofs.Common.{◌≡◌, ◌∙◌, ◌+◌, ◌%◌, ◌<◌, ◌≤◌, ℕ, zero, suc, Bool, true, false, nat_lt, List, [], ◌∷◌, ◌++◌, length, get_or, take, drop, if◌then◌else◌, refl, sym, ap, subst, arith, inl, inr, length-take, length-drop, get_or-take, get_or-drop}
use Rattle.std.specs.List.{All, AllAdjacentBelow, Contains}
use Rattle.std.specs.List.Sorted.{IsNonDecreasingBy}
use Rattle.std.proofs.lemmas.Bool.Decides.{nat_tests}
use Rattle.std.proofs.lemmas.List.{append-nil, drop_more, take_all, take_more, take-append-drop}
use Rattle.std.proofs.lemmas.List.Elements.{All-cons, All-contains, All-head, All-nil, All-push, All-tail, All-weaker, Contains-append_cases}
use Rattle.std.proofs.lemmas.List.Sorted.{IsNonDecreasingBy-from_all_adjacent}
use Rattle.sled_core.specs.declared.iterator.Segment.{Segment}
use Rattle.sled_store.proofs.Segments.Elements.{in_cases, all_from_in}
use Rattle.sled_log.specs.Recovery.{begun_below, is_ascending}
use Rattle.sled_core.proofs.Tail.Multiples.{apart}
use Rattle.sled_log.proofs.Replay.LineLemmas.{both}
use Rattle.sled_log.proofs.Passes.Joined.{begun_append}

-- the first one begins below the second one, and the rest is in order
ascends_on : (s t : Segment) (ss : List Segment) → is_ascending (s ∷ t ∷ ss) ≡ true → (s.place < t.place) × (is_ascending (t ∷ ss) ≡ true)
ascends_on s t ss up =
    let parts = both 1 (omega arith) (nat_lt s.place t.place) (is_ascending (t ∷ ss)) up in
    (grind (arith, nat_tests, parts.0), parts.1)

-- all others begin above the first one
pub above_first : (s : Segment) (ss : List Segment) → is_ascending (s ∷ ss) ≡ true → All (λ t. s.place < t.place) ss
above_first s [] up = All-nil (λ (t : Segment). s.place < t.place)
above_first s (t ∷ ss) up =
    let parts = ascends_on s t ss up in
    All-cons (λ (u : Segment). s.place < u.place) t ss parts.0 (All-weaker (λ (u : Segment). t.place < u.place) (λ (u : Segment). s.place < u.place) (λ u above. omega (arith, parts.0, above)) ss (above_first t ss parts.1))

pub ascends_rest : (s : Segment) (ss : List Segment) → is_ascending (s ∷ ss) ≡ true → is_ascending ss ≡ true
ascends_rest s [] up = refl
ascends_rest s (t ∷ ss) up = (ascends_on s t ss up).1

pub ascends_behind : (ss : List Segment) (n : ℕ) → is_ascending ss ≡ true → is_ascending (drop n ss) ≡ true
ascends_behind ss zero up = up
ascends_behind [] (suc n) up = refl
ascends_behind (s ∷ ss) (suc n) up = ascends_behind ss n (ascends_rest s ss up)

adjacent : (ss : List Segment) → is_ascending ss ≡ true → AllAdjacentBelow (λ s t. s.place ≤ t.place) ss (length ss)
adjacent [] up = λ k d lt. absurd (omega (arith, lt))
adjacent (s ∷ []) up = λ k d lt. absurd (omega (arith, lt))
adjacent (s ∷ t ∷ ss) up = by (adjacent (t ∷ ss) (ascends_on s t ss up).1) where
  by : AllAdjacentBelow (λ x y. x.place ≤ y.place) (t ∷ ss) (length (t ∷ ss)) → (k : ℕ) (d : Segment) → k + 1 < length (s ∷ t ∷ ss) → (get_or (s ∷ t ∷ ss) k d).place ≤ (get_or (s ∷ t ∷ ss) (k + 1) d).place
  by others zero d lt = let parts = ascends_on s t ss up in omega (arith, parts.0)
  by others (suc k) d lt =
      let next : suc k + 1 ≡ suc (k + 1) = omega arith in
      subst (λ (n : ℕ). (get_or (t ∷ ss) k d).place ≤ (get_or (s ∷ t ∷ ss) n d).place) (sym next) (others k d (omega (arith, lt)))

pub sorted_by_place : (ss : List Segment) → is_ascending ss ≡ true → IsNonDecreasingBy (λ s. s.place) ss
sorted_by_place ss up = IsNonDecreasingBy-from_all_adjacent (λ (s : Segment). s.place) ss (adjacent ss up)

-- What begins below a place.

begun_none : (end : ℕ) (ss : List Segment) → All (λ s. end ≤ s.place) ss → begun_below end ss ≡ []
begun_none end [] above = refl
begun_none end (s ∷ ss) above =
    let here = All-head (λ (t : Segment). end ≤ t.place) s ss above in
    let is : nat_lt s.place end ≡ false = grind (arith, nat_tests, here) in
    ap (λ (b : Bool). if b then s ∷ begun_below end ss else begun_below end ss) is ∙ begun_none end ss (All-tail (λ (t : Segment). end ≤ t.place) s ss above)

begun_all : (end : ℕ) (ss : List Segment) → All (λ s. s.place < end) ss → begun_below end ss ≡ ss
begun_all end [] below = refl
begun_all end (s ∷ ss) below =
    let here = All-head (λ (t : Segment). t.place < end) s ss below in
    let is : nat_lt s.place end ≡ true = grind (arith, nat_tests, here) in
    ap (λ (b : Bool). if b then s ∷ begun_below end ss else begun_below end ss) is ∙ ap (λ (l : List Segment). s ∷ l) (begun_all end ss (All-tail (λ (t : Segment). t.place < end) s ss below))

-- the first ones begin below it, and the others don't
pub begun_first : (end n : ℕ) (ss : List Segment) → All (λ s. s.place < end) (take n ss) → All (λ s. end ≤ s.place) (drop n ss) → begun_below end ss ≡ take n ss
begun_first end n ss below above =
    ap (begun_below end) (sym (take-append-drop n ss))
    ∙ begun_append end (take n ss) (drop n ss)
    ∙ ap (λ (l : List Segment). l ++ begun_below end (drop n ss)) (begun_all end (take n ss) below)
    ∙ ap (λ (l : List Segment). take n ss ++ l) (begun_none end (drop n ss) above)
    ∙ append-nil (take n ss)

-- those before an index and those from it on
pub begun_split : (end n : ℕ) (ss : List Segment) → begun_below end ss ≡ begun_below end (take n ss) ++ begun_below end (drop n ss)
begun_split end n ss = ap (begun_below end) (sym (take-append-drop n ss)) ∙ begun_append end (take n ss) (drop n ss)

-- A walk over segments that begin where one can.
module _ (size : ℕ) (some : 0 < size) (ss : List Segment) (i : ℕ) (d : Segment) (lt : i < length ss) where
  -- one that begins at a multiple of the size, at a place or above
  abbrev pub FromPlace : ℕ → Segment → Type 0
  FromPlace place s = (s.place % size ≡ 0) × (place ≤ s.place)

  pub first_left : (place : ℕ) → All (FromPlace place) (drop i ss) → FromPlace place (get_or ss i d)
  first_left place left = All-head (FromPlace place) (get_or ss i d) (drop (i + 1) ss) (subst (All (FromPlace place)) (drop_more ss i d lt) left)

  pub ascends_left : is_ascending (drop i ss) ≡ true → is_ascending (drop (i + 1) ss) ≡ true
  ascends_left up = ascends_rest (get_or ss i d) (drop (i + 1) ss) (subst (λ (l : List Segment). is_ascending l ≡ true) (drop_more ss i d lt) up)

  -- behind the one at a place the next one begins no earlier than that one ends
  pub left_on : (place : ℕ) → place % size ≡ 0 → is_ascending (drop i ss) ≡ true → All (FromPlace place) (drop i ss) → (get_or ss i d).place ≡ place → All (FromPlace (place + size)) (drop (i + 1) ss)
  left_on place aligned up left at =
      let here = drop_more ss i d lt in
      let s : Segment = get_or ss i d in
      let above = above_first s (drop (i + 1) ss) (subst (λ (l : List Segment). is_ascending l ≡ true) here up) in
      let behind = All-tail (FromPlace place) s (drop (i + 1) ss) (subst (All (FromPlace place)) here left) in
      all_from_in (FromPlace (place + size)) (drop (i + 1) ss) (λ x there.
      let low = All-contains (λ (t : Segment). s.place < t.place) (drop (i + 1) ss) x above there in
      let whole = All-contains (FromPlace place) (drop (i + 1) ss) x behind there in
      (whole.0, apart size some place x.place aligned whole.0 (omega (arith, low, at))))

  -- those before end at a place or below it
  abbrev pub EndsBy : ℕ → Segment → Type 0
  EndsBy place s = s.place + size ≤ place

  pub ended_on : (place : ℕ) → All (EndsBy place) (take i ss) → (get_or ss i d).place ≡ place → All (EndsBy (place + size)) (take (i + 1) ss)
  ended_on place before at =
      subst (All (EndsBy (place + size))) (sym (take_more ss i d lt))
      (All-push (EndsBy (place + size)) (take i ss) (get_or ss i d) (All-weaker (EndsBy place) (EndsBy (place + size)) (λ s le. omega (arith, le)) (take i ss) before) (omega (arith, at)))

  -- none begins at a place where the next one doesn't
  pub none_at : (place : ℕ) → is_ascending (drop i ss) ≡ true → All (FromPlace place) (drop i ss) → All (EndsBy place) (take i ss) → ((get_or ss i d).place ≡ place → ⊥) → (s : Segment) → Contains ss s → s.place ≡ place → ⊥
  none_at place up left before other s there at =
      let here = drop_more ss i d lt in
      let x : Segment = get_or ss i d in
      let above = above_first x (drop (i + 1) ss) (subst (λ (l : List Segment). is_ascending l ≡ true) here up) in
      let first = first_left place left in
      elim (Contains-append_cases (take i ss) (drop i ss) s (subst (λ (l : List Segment). Contains l s) (sym (take-append-drop i ss)) there)) [
        | inl low ↦ let ends = All-contains (EndsBy place) (take i ss) s before low in omega (arith, ends, at, some)
        | inr high ↦ elim (in_cases x s (drop (i + 1) ss) (subst (λ (l : List Segment). Contains l s) here high)) [
          | inl same ↦ other (ap (λ (y : Segment). y.place) same ∙ at)
          | inr later ↦ let beyond = All-contains (λ (t : Segment). x.place < t.place) (drop (i + 1) ss) s above later in omega (arith, beyond, first.1, at)
        ]
      ]

-- where the first ones end by a place, and there are no others, none begins there
pub none_left : (size : ℕ) → 0 < size → (ss : List Segment) (i place : ℕ) → length ss ≤ i → All (λ s. s.place + size ≤ place) (take i ss) → (s : Segment) → Contains ss s → s.place ≡ place → ⊥
none_left size some ss i place past before s there at =
    let ends = All-contains (λ (t : Segment). t.place + size ≤ place) ss s (subst (All (λ (t : Segment). t.place + size ≤ place)) (take_all i ss past) before) there in
    omega (arith, ends, at, some)

-- these begin below the place where a tail ended, and the others don't
pub begun_walked : (size end place i : ℕ) (ss : List Segment) → end ≤ place → place < end + size → All (λ s. s.place + size ≤ place) (take i ss) → All (λ s. (s.place % size ≡ 0) × (place ≤ s.place)) (drop i ss)
    → begun_below end ss ≡ take i ss
begun_walked size end place i ss le lt before left =
    begun_first end i ss
    (All-weaker (λ (s : Segment). s.place + size ≤ place) (λ (s : Segment). s.place < end) (λ s ends. omega (arith, ends, lt)) (take i ss) before)
    (All-weaker (λ (s : Segment). (s.place % size ≡ 0) × (place ≤ s.place)) (λ (s : Segment). end ≤ s.place) (λ s from. let above = from.1 in omega (arith, above, le)) (drop i ss) left)

-- what holds of each before an index, and of each from it on
pub all_taken : (P : Segment → Type 0) (ss : List Segment) (n : ℕ) → ((k : ℕ) (d : Segment) → k < n → k < length ss → P (get_or ss k d)) → All P (take n ss)
all_taken P ss n each = λ k d lt.
    let long = length-take n ss in
    subst P (sym (get_or-take n ss k d (omega (arith, lt, long)))) (each k d (omega (arith, lt, long)) (omega (arith, lt, long)))

pub all_dropped : (P : Segment → Type 0) (ss : List Segment) (n : ℕ) → ((k : ℕ) (d : Segment) → n ≤ k → k < length ss → P (get_or ss k d)) → All P (drop n ss)
all_dropped P ss n each = λ k d lt.
    let long = length-drop n ss in
    subst P (sym (get_or-drop n ss k d)) (each (n + k) d (omega arith) (omega (arith, lt, long)))
