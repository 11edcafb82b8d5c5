-- Segments one behind another: where the records lie that are met in them, and where a pass over them stops.
use Rattle.std.proofs.Common.{⊎_elim, ◌≡◌, ◌⊎◌, ◌+◌, ◌/◌, ◌%◌, ◌<◌, ◌≤◌, ℕ, Bool, true, false, nat_lt, if◌then◌else◌, List, [], ◌∷◌, ◌++◌, Option, Some, None, refl, sym, ap, subst, arith, inl, inr}
use Rattle.std.specs.List.{Contains}
use Rattle.std.proofs.lemmas.Bool.{cases_lt, ltb-true}
use Rattle.sled_core.specs.declared.iterator.Segment.{Segment}
use Rattle.sled_core.specs.declared.iterator.scan.ScannedRecord.{ScannedRecord}
use Rattle.sled_core.specs.Scan.{IsPath, IsEnd, IsScan}
use Rattle.sled_core.specs.inside.Recoverable.{scanned_below}
use Rattle.sled_core.proofs.Read.ScanLemmas.{met_fits, aligned_offset}
use Rattle.sled_store.proofs.Segments.Elements.{in_first, in_rest, in_cases, in_nothing}
use Rattle.sled_core.specs.Tail.{IsOrdering, AreScanned, before_open, stops_in, is_filled, cut_of, Scanned, IsScanned, opens, open_at}
use Rattle.sled_core.proofs.Tail.Multiples.{apart}
use Rattle.sled_core.proofs.Tail.OneTail.{Rises, rises_of, place_aligned, segment_there, from_below}

-- Records one behind another.

-- these records lie from one place on, one behind another, up to another place
abbrev pub Stand : ℕ → List ScannedRecord → ℕ → Type 0
Stand from [] to = from ≤ to
Stand from (m ∷ ms) to = (from ≤ m.place) × (0 < m.len) × Stand (m.place + m.len) ms to

pub stand_rises : (from : ℕ) (ms : List ScannedRecord) (to : ℕ) → Stand from ms to → from ≤ to
stand_rises from [] to stand = stand
stand_rises from (m ∷ ms) to stand = let rest = stand_rises (m.place + m.len) ms to stand.2 in omega (arith, rest, stand.0)

pub stand_wider : (from low : ℕ) (ms : List ScannedRecord) (to high : ℕ) → low ≤ from → to ≤ high → Stand from ms to → Stand low ms high
stand_wider from low [] to high below above stand = omega (arith, below, above, stand)
stand_wider from low (m ∷ ms) to high below above stand = (omega (arith, below, stand.0), stand.1, stand_wider (m.place + m.len) (m.place + m.len) ms to high (omega arith) above stand.2)

pub stand_both : (from : ℕ) (ms : List ScannedRecord) (mid : ℕ) (ns : List ScannedRecord) (to : ℕ) → Stand from ms mid → Stand mid ns to → Stand from (ms ++ ns) to
stand_both from [] mid ns to stand more = stand_wider mid from ns to to stand (omega arith) more
stand_both from (m ∷ ms) mid ns to stand more = (stand.0, stand.1, stand_both (m.place + m.len) ms mid ns to stand.2 more)

-- each lies between the places
pub stand_in : (from : ℕ) (ms : List ScannedRecord) (to : ℕ) → Stand from ms to → (x : ScannedRecord) → Contains ms x → (from ≤ x.place) × (0 < x.len) × (x.place + x.len ≤ to)
stand_in from [] to stand x there = absurd (in_nothing x there)
stand_in from (m ∷ ms) to stand x there = ⊎_elim
    (λ is. subst (λ (y : ScannedRecord). (from ≤ y.place) × (0 < y.len) × (y.place + y.len ≤ to)) is (stand.0, stand.1, stand_rises (m.place + m.len) ms to stand.2))
    (λ later. let rest = stand_in (m.place + m.len) ms to stand.2 x later in (omega (arith, rest.0, stand.0), rest.1, rest.2))
    (in_cases m x ms there)

-- The records of a path.
module _ (sum : List ℕ → ℕ) (size : ℕ) (log : List ℕ) (slot place : ℕ) where
  pub path_stands : (at : ℕ) (ms : List ScannedRecord) (next : ℕ) → IsPath sum size log slot place at ms next → Stand (place + at) ms (place + next)
  path_stands at [] next path = omega (arith, path)
  path_stands at (m ∷ ms) next path =
      let fits = met_fits sum size log (slot + at) (place / size) m path.2 in
      let rest = path_stands (at + m.len) ms next path.3 in
      (omega (arith, path.1), omega (arith, fits.0), stand_wider (place + (at + m.len)) (m.place + m.len) ms (place + next) (place + next) (omega (arith, path.1)) (omega arith) rest)

  -- a path ends within the segment
  pub path_within : slot % size ≡ 0 → (at : ℕ) (ms : List ScannedRecord) (next : ℕ) → at ≤ size → IsPath sum size log slot place at ms next → next ≤ size
  path_within aligned at [] next le path = omega (arith, le, path)
  path_within aligned at (m ∷ ms) next le path =
      let room = path.0 in
      let offset = aligned_offset slot at size aligned (omega (arith, room)) in
      let fits = met_fits sum size log (slot + at) (place / size) m path.2 in
      path_within aligned (at + m.len) ms next (omega (arith, offset, fits.1)) path.3

  -- Between the ends of a path each place lies in a record.
  pub path_covers : (at : ℕ) (ms : List ScannedRecord) (next : ℕ) → IsPath sum size log slot place at ms next → (p : ℕ) → place + at ≤ p → p < place + next → (x : ScannedRecord) × Contains ms x × (x.place ≤ p) × (p < x.place + x.len)
  path_covers at [] next path p above below = absurd (omega (arith, path, above, below))
  path_covers at (m ∷ ms) next path p above below = elim (cases_lt p (m.place + m.len)) [
    | inl within ↦ (m, in_first m ms, omega (arith, path.1, above), within)
    | inr behind ↦ (let rest = path_covers (at + m.len) ms next path.3 p (omega (arith, behind, path.1)) below in (rest.0, in_rest m rest.0 ms rest.1, rest.2, rest.3))
  ]

  module _ (end : ℕ) where
    -- the record with which a batch begins that is open, and those before it
    abbrev pub OpensAt : ℕ → List ScannedRecord → ℕ → Type 0
    OpensAt from ms p = Stand from (before_open end ms) p × (p + 32 ≤ place + size) × ((x : ScannedRecord) × Contains ms x × (x.place ≡ p) × (opens end x.what ≡ true))

    pub open_there : (at : ℕ) (ms : List ScannedRecord) (next : ℕ) → IsPath sum size log slot place at ms next → (p : ℕ) → open_at end ms ≡ Some p → OpensAt (place + at) ms p
    open_there at [] next path p is = cc
    open_there at (m ∷ ms) next path p is = by (opens end m.what) refl is (open_there (at + m.len) ms next path.3 p) where
      by : (b : Bool) → opens end m.what ≡ b → (if b then Some m.place else open_at end ms) ≡ Some p → (open_at end ms ≡ Some p → OpensAt (place + (at + m.len)) ms p)
          → Stand (place + at) (if b then [] else m ∷ before_open end ms) p × (p + 32 ≤ place + size) × ((x : ScannedRecord) × Contains (m ∷ ms) x × (x.place ≡ p) × (opens end x.what ≡ true))
      by true test found rest =
          let same : m.place ≡ p = cc in
          (omega (arith, path.1, same), let room = path.0 in omega (arith, path.1, same, room), (m, in_first m ms, same, test))
      by false test found rest =
          let on = rest found in
          let fits = met_fits sum size log (slot + at) (place / size) m path.2 in
          let x = on.2 in (
            (omega (arith, path.1), omega (arith, fits.0), stand_wider (place + (at + m.len)) (m.place + m.len) (before_open end ms) p p (omega (arith, path.1)) (omega arith) on.0),
            on.1,
            (x.0, in_rest m x.0 ms x.1, x.2, x.3),
          )

    -- a record before it is met before it
    pub before_has : (at : ℕ) (ms : List ScannedRecord) (next : ℕ) → IsPath sum size log slot place at ms next → (p : ℕ) → open_at end ms ≡ Some p → (x : ScannedRecord) → Contains ms x → x.place < p → Contains (before_open end ms) x
    before_has at [] next path p is x there below = cc
    before_has at (m ∷ ms) next path p is x there below = by (opens end m.what) is (before_has (at + m.len) ms next path.3 p) where
      by : (b : Bool) → (if b then Some m.place else open_at end ms) ≡ Some p → (open_at end ms ≡ Some p → (y : ScannedRecord) → Contains ms y → y.place < p → Contains (before_open end ms) y)
          → Contains (if b then [] else m ∷ before_open end ms) x
      by true found rest =
          let same : m.place ≡ p = cc in
          let whole = stand_in (place + at) (m ∷ ms) (place + next) (path_stands at (m ∷ ms) next path) x there in
          absurd (omega (arith, below, same, whole.0, path.1))
      by false found rest = ⊎_elim (λ is. subst (Contains (m ∷ before_open end ms)) is (in_first m (before_open end ms))) (λ later. in_rest m x (before_open end ms) (rest found x later below)) (in_cases m x ms there)

-- Before a batch that is open none that is open begins.

-- where no batch is open all is met before one
pub all_before_open : (end : ℕ) (ms : List ScannedRecord) → open_at end ms ≡ None → before_open end ms ≡ ms
all_before_open end [] none = refl
all_before_open end (m ∷ ms) none = by_test (opens end m.what) none (all_before_open end ms) where
  by_test : (b : Bool) → (if b then Some m.place else open_at end ms) ≡ None → (open_at end ms ≡ None → before_open end ms ≡ ms) → (if b then [] else m ∷ before_open end ms) ≡ m ∷ ms
  by_test true is rest = absurd (cc)
  by_test false is rest = ap (λ (l : List ScannedRecord). m ∷ l) (rest is)

pub before_closed : (end : ℕ) (ms : List ScannedRecord) (x : ScannedRecord) → Contains (before_open end ms) x → opens end x.what ≡ false
before_closed end [] x there = absurd (in_nothing x there)
before_closed end (m ∷ ms) x there = by (opens end m.what) refl there (before_closed end ms x) where
  by : (b : Bool) → opens end m.what ≡ b → Contains (if b then [] else m ∷ before_open end ms) x → (Contains (before_open end ms) x → opens end x.what ≡ false) → opens end x.what ≡ false
  by true test at rest = absurd (in_nothing x at)
  by false test at rest = ⊎_elim (λ is. subst (λ (y : ScannedRecord). opens end y.what ≡ false) is test) rest (in_cases m x (before_open end ms) at)

pub all_closed : (end : ℕ) (ms : List ScannedRecord) → open_at end ms ≡ None → (x : ScannedRecord) → Contains ms x → opens end x.what ≡ false
all_closed end ms none x there = before_closed end ms x (subst (λ (l : List ScannedRecord). Contains l x) (sym (all_before_open end ms none)) there)

-- The cut is where the pass stopped, or the end of a segment that has no room left.
pub cut_cases : (size : ℕ) (at : Segment × ℕ) → ((cut_of size at).0 ≡ at.1) ⊎ (((cut_of size at).0 ≡ at.0.place + size) × (at.0.place + size < at.1 + 32))
cut_cases size at = by (is_filled size at) refl where
  by : (b : Bool) → is_filled size at ≡ b → let cut : ℕ × Option ℕ = if b then (at.0.place + size, None) else (at.1, Some at.0.slot) in (cut.0 ≡ at.1) ⊎ ((cut.0 ≡ at.0.place + size) × (at.0.place + size < at.1 + 32))
  by true test = inr (refl, ltb-true (at.0.place + size) (at.1 + 32) test)
  by false test = inl refl

-- Rows of segments.
module _ (sum : List ℕ → ℕ) (size : ℕ) (log : List ℕ) (some : 256 ≤ size) where
  -- it was read to its end, and begins at a multiple of the size in the log and in the file
  abbrev pub IsWhole : Scanned → Type 0
  IsWhole s = IsScanned sum size log s × (s.segment.place % size ≡ 0) × (s.segment.slot % size ≡ 0)

  -- each was read, and ends before all later ones begin
  abbrev pub IsRow : List Scanned → Type 0
  IsRow [] = Unit {0}
  IsRow (s ∷ ss) = IsWhole s × ((t : Scanned) → Contains ss t → s.segment.place + size ≤ t.segment.place) × IsRow ss

  -- the segments of an ordering are a row
  row_of : (ss : List Segment) (xs : List Scanned) → Rises ss → AreScanned sum size log ss xs → ((s : Segment) → Contains ss s → (s.place % size ≡ 0) × (s.slot % size ≡ 0)) → IsRow xs
  row_of [] [] rises are aligned = tt
  row_of [] (x ∷ xs) rises are aligned = absurd are
  row_of (s ∷ ss) [] rises are aligned = absurd are
  row_of (s ∷ ss) (x ∷ xs) rises are aligned = (
    subst (λ (y : Segment). IsScanned sum size log x × (y.place % size ≡ 0) × (y.slot % size ≡ 0)) (sym are.0) (are.1, (aligned s (in_first s ss)).0, (aligned s (in_first s ss)).1),
    λ t there.
        let later = (segment_there sum size log ss xs are.2 t there).0 in
        let above = rises.0 t.segment later in
        let far = apart size (omega (arith, some)) s.place t.segment.place (aligned s (in_first s ss)).0 (aligned t.segment (in_rest s t.segment ss later)).0 above in
        omega (arith, far, ap (λ (y : Segment). y.place) are.0),
    row_of ss xs rises.1 are.2 (λ t there. aligned t (in_rest s t ss there)),
  )

  pub row_ordered : (least : ℕ) (ordering : List Segment) (xs : List Scanned) → IsOrdering sum size log least ordering → AreScanned sum size log ordering xs → IsRow xs
  row_ordered least ordering xs is are =
      row_of ordering xs (rises_of ordering is.ascending) are (λ s there. (place_aligned sum size log least ordering is s there, let found = (is.found s).0 there in found.slot))

  -- and so are those that begin below a place
  pub row_below : (end : ℕ) (xs : List Scanned) → IsRow xs → IsRow (scanned_below end xs)
  row_below end [] row = tt
  row_below end (x ∷ xs) row = by (nat_lt x.segment.place end) (row_below end xs row.2) where
    by : (b : Bool) → IsRow (scanned_below end xs) → IsRow (if b then x ∷ scanned_below end xs else scanned_below end xs)
    by true rest = (row.0, (λ t there. row.1 t (from_below sum size log end xs t there).0), rest)
    by false rest = rest

  pub row_whole : (xs : List Scanned) → IsRow xs → (s : Scanned) → Contains xs s → IsWhole s
  row_whole [] row s there = absurd (in_nothing s there)
  row_whole (x ∷ xs) row s there = ⊎_elim (λ is. subst IsWhole is row.0) (λ later. row_whole xs row.2 s later) (in_cases x s xs there)

  -- What is met in a segment lies in it, behind its header.
  pub met_stand : (s : Scanned) → IsWhole s → Stand (s.segment.place + 20) s.met (s.segment.place + s.stop)
  unfolding IsScan
  met_stand s whole = path_stands sum size log s.segment.slot s.segment.place 20 s.met s.stop whole.0.0

  pub stop_inside : (s : Scanned) → IsWhole s → s.stop ≤ size
  unfolding IsScan
  stop_inside s whole = path_within sum size log s.segment.slot s.segment.place whole.2 20 s.met s.stop (omega (arith, some)) whole.0.0

  pub end_there : (s : Scanned) → IsWhole s → IsEnd sum size log s.segment.slot s.segment.place s.stop s.why
  unfolding IsScan
  end_there s whole = whole.0.1

  pub covers : (s : Scanned) → IsWhole s → (p : ℕ) → s.segment.place + 20 ≤ p → p < s.segment.place + s.stop → (x : ScannedRecord) × Contains s.met x × (x.place ≤ p) × (p < x.place + x.len)
  unfolding IsScan
  covers s whole p above below = path_covers sum size log s.segment.slot s.segment.place 20 s.met s.stop whole.0.0 p above below

  module _ (end : ℕ) where
    pub opened : (s : Scanned) → IsWhole s → (p : ℕ) → open_at end s.met ≡ Some p → OpensAt sum size log s.segment.slot s.segment.place end (s.segment.place + 20) s.met p
    unfolding IsScan
    opened s whole p is = open_there sum size log s.segment.slot s.segment.place end 20 s.met s.stop whole.0.0 p is

    pub before_opened : (s : Scanned) → IsWhole s → (p : ℕ) → open_at end s.met ≡ Some p → (x : ScannedRecord) → Contains s.met x → x.place < p → Contains (before_open end s.met) x
    unfolding IsScan
    before_opened s whole p is x there below = before_has sum size log s.segment.slot s.segment.place end 20 s.met s.stop whole.0.0 p is x there below

    -- Where a pass stops: at a record of one of the segments with which a batch begins that is open, or at the end of all.
    pub record IsStopIn (s : Scanned) (ss : List Scanned) (at : Segment × ℕ) : Type 0 where
      pub last : Scanned
      pub there : Contains (s ∷ ss) last
      pub segment : at.0 ≡ last.segment
      pub why : ((x : ScannedRecord) × Contains last.met x × (x.place ≡ at.1) × (opens end x.what ≡ true) × (at.1 + 32 ≤ last.segment.place + size))
          ⊎ ((at.1 ≡ last.segment.place + last.stop) × ((t : Scanned) → Contains (s ∷ ss) t → t.segment.place + t.stop ≤ at.1))

    pub stop_in : (s : Scanned) (ss : List Scanned) (o : Option ℕ) → IsRow (s ∷ ss) → open_at end s.met ≡ o → IsStopIn s ss (stops_in end s o ss)
    stop_in s ss (Some p) row is =
        let at = opened s row.0 p is in
        let x = at.2 in
        record { last = s; there = in_first s ss; segment = refl; why = inl (x.0, x.1, x.2, x.3, at.1) }
    stop_in s [] None row is = record {
      last = s;
      there = in_first s [];
      segment = refl;
      why = inr (refl, λ t there. ⊎_elim (λ same. omega (arith, ap (λ (y : Scanned). y.segment.place + y.stop) same)) (λ none. absurd (in_nothing t none)) (in_cases s t [] there));
    }
    stop_in s (t ∷ ts) None row is =
        let rest = stop_in t ts (open_at end t.met) row.2 refl in
        record {
          last = rest.last;
          there = in_rest s rest.last (t ∷ ts) rest.there;
          segment = rest.segment;
          why = ⊎_elim inl (λ all. inr (
            all.0,
            λ u there. ⊎_elim
                (λ same.
                let far = row.1 t (in_first t ts) in
                let inside = stop_inside s row.0 in
                let next = all.1 t (in_first t ts) in
                let long = stand_rises (t.segment.place + 20) t.met (t.segment.place + t.stop) (met_stand t row.2.0) in
                omega (arith, far, inside, next, long, ap (λ (y : Scanned). y.segment.place + y.stop) same))
                (λ later. all.1 u later)
                (in_cases s u (t ∷ ts) there),
          )) rest.why;
        }
