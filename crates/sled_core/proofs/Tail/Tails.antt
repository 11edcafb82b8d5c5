-- The tail over segments that are found: it has each of them from its beginning on, up to one that is broken, and where it ends.
use Rattle.std.proofs.Common.{⊎_elim, ◌≡◌, ◌≢◌, ◌∙◌, ◌+◌, ◌%◌, ◌<◌, ◌≤◌, ℕ, List, [], ◌∷◌, Some, refl, sym, ap, subst, arith, inl, inr}
use Rattle.std.specs.List.{Contains}
use Rattle.std.proofs.lemmas.Bool.{cases_lt, cases_order}
use Rattle.sled_store.proofs.Segments.Elements.{in_first, in_rest, in_cases, in_nothing}
use Rattle.sled_core.specs.declared.iterator.Segment.{Segment}
use Rattle.sled_core.specs.declared.iterator.scan.ScanEnd.{ScanEnd}
use Rattle.sled_core.specs.declared.iterator.scan.ScanEnd.TheVariants.{Full, Capped, Broken}
use Rattle.sled_core.specs.Tail.{IsOrdering, AreScanned, GoesOn, IsTail, tail_end, Scanned, IsScanned}
use Rattle.sled_core.proofs.Tail.Multiples.{apart, next_multiple}
use Rattle.sled_core.proofs.Tail.OneReading.{one_scan}
use Rattle.sled_core.proofs.Tail.OneTail.{Rises, rises_of, one_at_place, scan_there, segment_there, reading_there}
use Rattle.sled_core.proofs.Tail.Rows.{IsWhole, IsRow, met_stand, row_ordered, row_whole, stand_rises, stop_inside}

-- what is left of an option
pub some_is : (a b : ℕ) → Some a ≡ Some b → a ≡ b
some_is a b is = cc

module _ (sum : List ℕ → ℕ) (size : ℕ) (log : List ℕ) (some : 256 ≤ size) (least : ℕ) (ordering : List Segment) (numbers : IsOrdering sum size log least ordering) (scanned : List Scanned) (reads : AreScanned sum size log ordering scanned) where
  abbrev rises : Rises ordering
  rises = rises_of ordering numbers.ascending

  -- of two multiples of the size the lower is a whole size lower
  pub further : (a b : ℕ) → a % size ≡ 0 → b % size ≡ 0 → a < b → a + size ≤ b
  further = apart size (omega (arith, some))

  -- a reading of one of the segments
  pub known : (s : Scanned) → Contains ordering s.segment → IsScanned sum size log s → Contains scanned s
  known s there scan = reading_there sum size log ordering scanned reads s there scan

  pub row : IsRow sum size log some scanned
  row = row_ordered sum size log some least ordering scanned numbers reads

  pub whole : (s : Scanned) → Contains scanned s → IsWhole sum size log some s
  whole s there = row_whole sum size log some scanned row s there

  -- two readings at one place are one
  pub one_reading : (s t : Scanned) → Contains scanned s → Contains scanned t → s.segment.place ≡ t.segment.place → s ≡ t
  one_reading s t here there places =
      let a = segment_there sum size log ordering scanned reads s here in
      let b = segment_there sum size log ordering scanned reads t there in
      one_scan sum size log s t (one_at_place ordering rises s.segment t.segment a.0 b.0 places) a.1 b.1

  -- Where another segment follows in the tail, the first one isn't broken, and behind it the tail goes on.
  pub tail_behind : (place : ℕ) (x y : Scanned) (ys : List Scanned) → IsTail sum size log ordering place (x ∷ y ∷ ys)
      → (x.why ≢ Broken) × IsTail sum size log ordering (place + size) (y ∷ ys)
  tail_behind place x y ys tail = by x.why tail.3 where
    by : (why : ScanEnd) → GoesOn why (y ∷ ys) (IsTail sum size log ordering (place + size) (y ∷ ys))
        → (why ≢ Broken) × IsTail sum size log ordering (place + size) (y ∷ ys)
    by Broken none = absurd (no_more none)
      where
        no_more : (y ∷ ys) ≡ [] → ⊥
        no_more none = cc
    by Full on = (λ broken. cc, on)
    by Capped on = (λ broken. cc, on)

  -- The last segment of the tail.
  pub tail_last : (place : ℕ) (tail : List Scanned) → IsTail sum size log ordering place tail → (end : ℕ) → tail_end tail ≡ Some end → (t : Scanned) × Contains scanned t × (end ≡ t.segment.place + t.stop)
  tail_last place [] tail end ends = cc
  tail_last place (x ∷ []) tail end ends = (x, known x tail.0 tail.2, some_is end (x.segment.place + x.stop) (sym ends))
  tail_last place (x ∷ y ∷ ys) tail end ends = tail_last (place + size) (y ∷ ys) (tail_behind place x y ys tail).1 end ends

  -- The tail has each segment from its beginning on. One that is broken is the last.
  abbrev pub IsTailAt : ℕ → ℕ → Scanned → Type 0
  IsTailAt end z t = Contains scanned t × (t.segment.place ≡ z) × (t.why ≡ Broken → end ≡ t.segment.place + t.stop)

  pub tail_has : (place : ℕ) (tail : List Scanned) → IsTail sum size log ordering place tail → place % size ≡ 0 → (end : ℕ) → tail_end tail ≡ Some end → (z : ℕ) → z % size ≡ 0 → place ≤ z → z < end → (t : Scanned) × IsTailAt end z t
  tail_has place [] tail aligned end ends z at above below = cc
  tail_has place (x ∷ []) tail aligned end ends z at above below =
      let there = known x tail.0 tail.2 in
      let inside = stop_inside sum size log some x (whole x there) in
      let is_end : x.segment.place + x.stop ≡ end = some_is (x.segment.place + x.stop) end ends in
      elim (cases_lt place z) [
        | inl higher ↦ (let far = further place z aligned at higher in absurd (omega (arith, far, below, is_end, inside, tail.1)))
        | inr le ↦ (x, (there, omega (arith, tail.1, le, above), λ broken. sym is_end))
      ]
  tail_has place (x ∷ y ∷ ys) tail aligned end ends z at above below =
      let on = tail_behind place x y ys tail in
      elim (cases_lt place z) [
        | inl higher ↦ (
            let far = further place z aligned at higher in
            tail_has (place + size) (y ∷ ys) on.1 (next_multiple size place aligned) end ends z at far below)
        | inr le ↦ (x, (known x tail.0 tail.2, omega (arith, tail.1, le, above), λ broken. absurd (on.0 broken)))
      ]

  -- It ends at or above the place where it begins.
  pub tail_some : (place : ℕ) (x : Scanned) (xs : List Scanned) → IsTail sum size log ordering place (x ∷ xs) → (end : ℕ) × (tail_end (x ∷ xs) ≡ Some end) × (place ≤ end)
  tail_some place x [] tail = (x.segment.place + x.stop, refl, omega (arith, tail.1))
  tail_some place x (y ∷ ys) tail = let e = tail_some (place + size) y ys (tail_behind place x y ys tail).1 in (e.0, e.1, omega (arith, e.2))

  -- It begins with a segment that is there, and ends behind that one's beginning.
  pub tail_first : (place : ℕ) (tail : List Scanned) → IsTail sum size log ordering place tail → (end : ℕ) → tail_end tail ≡ Some end
      → (x : Scanned) × Contains scanned x × (x.segment.place ≡ place) × (place < end)
  tail_first place [] tail end ends = cc
  tail_first place (x ∷ []) tail end ends =
      let there = known x tail.0 tail.2 in
      let long = stand_rises (x.segment.place + 20) x.met (x.segment.place + x.stop) (met_stand sum size log some x (whole x there)) in
      (x, there, tail.1, omega (arith, long, tail.1, some_is (x.segment.place + x.stop) end ends))
  tail_first place (x ∷ y ∷ ys) tail end ends =
      let e = tail_some (place + size) y ys (tail_behind place x y ys tail).1 in
      (x, known x tail.0 tail.2, tail.1, omega (arith, some, e.2, some_is e.0 end (sym e.1 ∙ ends)))

  -- A segment that begins below its end ends no higher.
  pub ends_low : (place : ℕ) (tail : List Scanned) → IsTail sum size log ordering place tail → (end : ℕ) → tail_end tail ≡ Some end
      → (t : Scanned) → Contains scanned t → t.segment.place < end → t.segment.place + t.stop ≤ end
  ends_low place tail is end ends t there below =
      let last = tail_last place tail is end ends in
      let own = whole t there in
      let its = whole last.0 last.1 in
      let fits = stop_inside sum size log some t own in
      let short = stop_inside sum size log some last.0 its in
      elim (cases_order t.segment.place last.0.segment.place) [
        | inl same ↦ (
            let one : t ≡ last.0 = one_reading t last.0 there last.1 same in
            omega (arith, last.2, ap (λ (x : Scanned). x.segment.place + x.stop) one))
        | inr (inl under) ↦ (let apart = further t.segment.place last.0.segment.place own.1 its.1 under in omega (arith, apart, fits, last.2))
        | inr (inr over) ↦ (let apart = further last.0.segment.place t.segment.place its.1 own.1 over in absurd (omega (arith, apart, short, last.2, below)))
      ]

  -- There is a tail, wherever it is to begin.
  module _ where
    abbrev Tail : ℕ → Type 0
    Tail z = (tail : List Scanned) × IsTail sum size log ordering z tail

    -- the segments from a place on are among these
    abbrev Has : ℕ → List Scanned → Type 0
    Has z xs = (s : Segment) → Contains ordering s → z ≤ s.place → (x : Scanned) × Contains xs x × (x.segment ≡ s)

    has_later : (z : ℕ) (x : Scanned) (xs : List Scanned) (w : ℕ) → z ≤ w → x.segment.place < w → Has z (x ∷ xs) → Has w xs
    has_later z x xs w low under has s there above =
        let found = has s there (omega (arith, low, above)) in
        ⊎_elim
        (λ same. absurd (omega (arith, under, above, ap (λ (t : Scanned). t.segment.place) same, ap (λ (t : Segment). t.place) found.2)))
        (λ later. (found.0, later, found.2))
        (in_cases x found.0 xs found.1)

    tail_among : (xs : List Scanned) → IsRow sum size log some xs → ((x : Scanned) → Contains xs x → Contains ordering x.segment) → (z : ℕ) → Has z xs → Tail z
    tail_among [] stands of z has = ([], λ s there at. in_nothing (has s there (omega (arith, at))).0 (has s there (omega (arith, at))).1)
    tail_among (x ∷ xs) stands of z has = elim (cases_order x.segment.place z) [
      | inl same ↦ from_here same x.why refl (tail_among xs stands.2 (λ t there. of t (in_rest x t xs there)) (z + size) (has_later z x xs (z + size) (omega arith) (omega (arith, same, some)) has))
      | inr (inl under) ↦ tail_among xs stands.2 (λ t there. of t (in_rest x t xs there)) z (has_later z x xs z (omega arith) under has)
      | inr (inr over) ↦ (
        [],
        λ s there at.
            let found = has s there (omega (arith, at)) in
            ⊎_elim
            (λ same. omega (arith, over, at, ap (λ (t : Scanned). t.segment.place) same, ap (λ (t : Segment). t.place) found.2))
            (λ later. let far = stands.1 found.0 later in omega (arith, far, over, at, ap (λ (t : Segment). t.place) found.2))
            (in_cases x found.0 xs found.1),
      )
    ] where
      from_here : x.segment.place ≡ z → (why : ScanEnd) → x.why ≡ why → Tail (z + size) → Tail z
      from_here same Broken test rest = (x ∷ [], (of x (in_first x xs), same, stands.0.0, subst (λ (w : ScanEnd). GoesOn w [] (IsTail sum size log ordering (z + size) [])) (sym test) refl))
      from_here same Full test rest = (x ∷ rest.0, (of x (in_first x xs), same, stands.0.0, subst (λ (w : ScanEnd). GoesOn w rest.0 (IsTail sum size log ordering (z + size) rest.0)) (sym test) rest.1))
      from_here same Capped test rest = (x ∷ rest.0, (of x (in_first x xs), same, stands.0.0, subst (λ (w : ScanEnd). GoesOn w rest.0 (IsTail sum size log ordering (z + size) rest.0)) (sym test) rest.1))

    pub tail_there : (z : ℕ) → Tail z
    tail_there z = tail_among scanned row (λ x there. (segment_there sum size log ordering scanned reads x there).0) z all where
      all : Has z scanned
      all s there above = let found = scan_there sum size log ordering scanned reads s there in (found.0, found.1, found.2)
