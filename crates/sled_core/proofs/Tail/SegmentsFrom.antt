-- The segments of a log file that begin no lower than a place: their order, what is met in them, and where the tail begins.
use Rattle.std.proofs.Common.{⊎_elim, ◌≡◌, ◌⊎◌, ◌∙◌, ◌+◌, ◌*◌, ◌/◌, ◌%◌, ◌<◌, ◌≤◌, ◌<ℤ◌, ℕ, pos, Bool, true, false, ◌&&◌, nat_le, cond, List, [], ◌∷◌, refl, sym, ap, subst, arith, inl, inr, lt-ltb}
use Rattle.std.specs.List.{Contains, filter}
use Rattle.std.proofs.lemmas.Bool.{cases_lt, leb-true, le-leb}
use Rattle.sled_codec.specs.History.{History}
use Rattle.sled_store.proofs.Segments.Elements.{in_first, in_cases, in_nothing, in_filter, from_filter}
use Rattle.sled_core.specs.declared.iterator.Segment.{Segment}
use Rattle.sled_core.specs.inside.Recoverable.{IsMarkBelow}
use Rattle.sled_core.proofs.Read.FoundLemmas.{pos_injective}
use Rattle.sled_core.specs.Tail.{is_ascending, IsOrdering, AreScanned, greatest_mark, tail_begins, Scanned, place_of_mark}
use Rattle.sled_core.proofs.Tail.Multiples.{apart, put_down, one_multiple, raised_within, lower_multiple}
use Rattle.sled_core.proofs.Tail.GreatestMark.{greatest_is, mark_below}
use Rattle.sled_core.proofs.Tail.OneTail.{Rises, rises_of}

-- those that begin no lower than a place
abbrev pub segments_from : ℕ → List Segment → List Segment
segments_from place = filter (λ s. nat_le place s.place)

abbrev pub scanned_from : ℕ → List Scanned → List Scanned
scanned_from place = filter (λ x. nat_le place x.segment.place)

-- segments that are picked out of others rise as these do
pub rises_picked : (p : Segment → Bool) (ss : List Segment) → Rises ss → Rises (filter p ss)
rises_picked p [] rises = tt
rises_picked p (s ∷ ss) rises = by (p s) (rises_picked p ss rises.1) where
  by : (b : Bool) → Rises (filter p ss) → Rises (cond b (s ∷ filter p ss) (filter p ss))
  by true rest = (λ t there. rises.0 t (from_filter p ss t there).0, rest)
  by false rest = rest

module _ (place : ℕ) where
  pub in_segments : (ss : List Segment) (s : Segment) → Contains ss s → place ≤ s.place → Contains (segments_from place ss) s
  in_segments ss s there above = in_filter (λ (t : Segment). nat_le place t.place) ss s there (le-leb place s.place above)

  pub of_segments : (ss : List Segment) (s : Segment) → Contains (segments_from place ss) s → Contains ss s × (place ≤ s.place)
  of_segments ss s there = let from = from_filter (λ (t : Segment). nat_le place t.place) ss s there in (from.0, leb-true place s.place from.1)

  pub in_scanned : (xs : List Scanned) (x : Scanned) → Contains xs x → place ≤ x.segment.place → Contains (scanned_from place xs) x
  in_scanned xs x there above = in_filter (λ (t : Scanned). nat_le place t.segment.place) xs x there (le-leb place x.segment.place above)

  pub of_scanned : (xs : List Scanned) (x : Scanned) → Contains (scanned_from place xs) x → Contains xs x × (place ≤ x.segment.place)
  of_scanned xs x there = let from = from_filter (λ (t : Scanned). nat_le place t.segment.place) xs x there in (from.0, leb-true place x.segment.place from.1)

  -- What is met in them is met as before.
  pub reads_from : (sum : List ℕ → ℕ) (size : ℕ) (log : List ℕ) (ss : List Segment) (xs : List Scanned) → AreScanned sum size log ss xs → AreScanned sum size log (segments_from place ss) (scanned_from place xs)
  reads_from sum size log [] [] are = tt
  reads_from sum size log [] (x ∷ xs) are = absurd are
  reads_from sum size log (s ∷ ss) [] are = absurd are
  reads_from sum size log (s ∷ ss) (x ∷ xs) are =
      subst (λ b. AreScanned sum size log (segments_from place (s ∷ ss)) (cond b (x ∷ scanned_from place xs) (scanned_from place xs)))
      (sym (ap (λ (y : Segment). nat_le place y.place) are.0)) (by (nat_le place s.place) (reads_from sum size log ss xs are.2))
    where
      by : (b : Bool) → AreScanned sum size log (segments_from place ss) (scanned_from place xs)
          → AreScanned sum size log (cond b (s ∷ segments_from place ss) (segments_from place ss)) (cond b (x ∷ scanned_from place xs) (scanned_from place xs))
      by true rest = (are.0, are.1, rest)
      by false rest = rest

-- segments each of which begins below all later ones ascend
pub ascends_of : (ss : List Segment) → Rises ss → is_ascending ss ≡ true
ascends_of [] rises = refl
ascends_of (s ∷ []) rises = refl
ascends_of (s ∷ t ∷ ss) rises = ap (λ (b : Bool). b && is_ascending (t ∷ ss)) (lt-ltb s.place t.place (rises.0 t (in_first t ss))) ∙ ascends_of (t ∷ ss) rises.1

-- They are the ordering from that place on.
pub ordering_from : (sum : List ℕ → ℕ) (size : ℕ) (log : List ℕ) (least place : ℕ) (ss : List Segment) → least ≤ place → IsOrdering sum size log least ss → IsOrdering sum size log place (segments_from place ss)
ordering_from sum size log least place ss low is = record {
  ascending = ascends_of (segments_from place ss) (rises_picked (λ (t : Segment). nat_le place t.place) ss (rises_of ss is.ascending));
  found = λ s. (
    λ there. let from = of_segments place ss s there in let had = (is.found s).0 from.0 in record { slot = had.slot; header = had.header; not_below = from.1 },
    λ has. let above = has.not_below in in_segments place ss s ((is.found s).1 (record { slot = has.slot; header = has.header; not_below = omega (arith, above, low) })) above,
  );
  placed = λ s there. is.placed s (of_segments place ss s there).0;
}

-- Where the tail begins.

pub greatest_above : (least : ℕ) (ss : List Segment) → least ≤ greatest_mark least ss
greatest_above least [] = omega arith
greatest_above least (s ∷ ss) = let rest = greatest_above least ss in omega (arith, rest)

-- no mark is greater than the greatest
pub mark_within : (least : ℕ) (ss : List Segment) (s : Segment) → Contains ss s → place_of_mark s.mark ≤ greatest_mark least ss
mark_within least [] s there = absurd (in_nothing s there)
mark_within least (t ∷ ss) s there = elim (in_cases t s ss there) [
  | inl same ↦ omega (arith, ap (λ (u : Segment). place_of_mark u.mark) same)
  | inr later ↦ (let rest = mark_within least ss s later in omega (arith, rest))
]

module _ (size : ℕ) (some : 256 ≤ size) where
  -- Where the tail begins at a place or above it, it still does with other segments, if those that begin there or above are among them: a mark lies below its
  -- segment, so the greatest one isn't that of a segment below the place.
  pub tail_stays : (least place : ℕ) (ss ts : List Segment) → ((s : Segment) → Contains ss s → s.mark <ℤ pos s.place) → ((s : Segment) → Contains ss s → place ≤ s.place → Contains ts s)
      → place ≤ tail_begins size least ss → place ≤ tail_begins size least ts
  tail_stays least place ss ts below among far = by (greatest_is least ss) where
    no_lower : greatest_mark least ss ≤ greatest_mark least ts → place ≤ tail_begins size least ts
    no_lower le = let on = lower_multiple size some (greatest_mark least ss) (greatest_mark least ts) le in omega (arith, far, on)

    by : (greatest_mark least ss ≡ least) ⊎ ((s : Segment) × Contains ss s × (s.mark ≡ pos (greatest_mark least ss))) → place ≤ tail_begins size least ts
    by (inl at) = no_lower (let above = greatest_above least ts in omega (arith, at, above))
    by (inr (s, there, mark)) = elim (cases_lt s.place place) [
      | inl under ↦ absurd (
          let parts = put_down size (greatest_mark least ss) in
          let lower : greatest_mark least ss < s.place = mark_below s.mark (greatest_mark least ss) s.place mark (below s there) in
          omega (arith, far, parts.0, lower, under))
      | inr above ↦ no_lower (let its = mark_within least ts s (among s there above) in omega (arith, its, ap place_of_mark mark))
    ]

  -- Where each mark lies before the end of a segment, it begins with that or below it.
  pub tail_within : (least place : ℕ) → place % size ≡ 0 → least ≤ place → (ss : List Segment) → ((s : Segment) → Contains ss s → s.mark <ℤ pos (place + size)) → tail_begins size least ss ≤ place
  tail_within least place aligned low ss marks =
      let parts = put_down size (greatest_mark least ss) in
      let under = by (greatest_is least ss) in
      elim (cases_lt place (greatest_mark least ss / size * size)) [
        | inl over ↦ (let far = apart size (omega (arith, some)) place (greatest_mark least ss / size * size) aligned parts.1 over in absurd (omega (arith, far, parts.0, under)))
        | inr le ↦ le
      ]
    where
      by : (greatest_mark least ss ≡ least) ⊎ ((s : Segment) × Contains ss s × (s.mark ≡ pos (greatest_mark least ss))) → greatest_mark least ss < place + size
      by (inl at) = omega (arith, at, some, low)
      by (inr (s, there, mark)) = mark_below s.mark (greatest_mark least ss) (place + size) mark (marks s there)

  -- Where each mark lies below the cut, or in its segment, so does the greatest one.
  module _ (H : History) (cut : ℕ) (ss : List Segment) (marks : (s : Segment) → Contains ss s → IsMarkBelow size H cut s.mark) where
    abbrev z : ℕ
    z = cut / size * size

    low : (z + cut % size ≡ cut) × (z % size ≡ 0)
    low = put_down size cut

    inside : cut % size < size
    inside = omega (arith, some)

    greatest_under : (least : ℕ) → least ≤ z → greatest_mark least ss < z + size
    greatest_under least not_above = by (greatest_is least ss) where
      by : (greatest_mark least ss ≡ least) ⊎ ((s : Segment) × Contains ss s × (s.mark ≡ pos (greatest_mark least ss))) → greatest_mark least ss < z + size
      by (inl at) = omega (arith, at, some, not_above)
      by (inr (s, there, mark)) = ⊎_elim
          (λ lower. let under : greatest_mark least ss < cut = mark_below s.mark (greatest_mark least ss) cut mark lower in omega (arith, under, low.0, inside))
          (λ within.
          let same : greatest_mark least ss ≡ within.0 = pos_injective (greatest_mark least ss) within.0 (sym mark ∙ within.1) in
          let bound = raised_within size some cut in
          omega (arith, same, within.2, bound))
          (marks s there)

    -- The tail begins with the segment of the cut or below it.
    pub tail_low : (least : ℕ) → least ≤ z → tail_begins size least ss ≤ z
    tail_low least not_above =
        let under = greatest_under least not_above in
        let parts = put_down size (greatest_mark least ss) in
        elim (cases_lt z (greatest_mark least ss / size * size)) [
          | inl over ↦ (let far = apart size (omega (arith, some)) z (greatest_mark least ss / size * size) low.1 parts.1 over in absurd (omega (arith, far, parts.0, under)))
          | inr le ↦ le
        ]

    -- From there on it begins with that.
    pub tail_from : tail_begins size z ss ≡ z
    tail_from = one_multiple size some z (greatest_mark z ss) low.1 (greatest_above z ss) (greatest_under z (omega arith))
