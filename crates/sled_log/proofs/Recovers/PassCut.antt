-- The pass over a recoverable log file: where it stops, against the tail and the cut.
use Rattle.std.proofs.Common.{⊎_elim, ◌≡◌, ◌∙◌, ◌+◌, ◌%◌, ◌<◌, ◌≤◌, ℕ, List, ◌∷◌, Option, Some, refl, sym, ap, subst, arith, inl, inr}
use Rattle.std.specs.List.{Contains}
use Rattle.std.proofs.lemmas.Bool.{cases_lt, cases_order}
use Rattle.sled_codec.specs.History.{Message, History}
use Rattle.sled_codec.specs.Snapshots.{SnapshotModel, stable_place}
use Rattle.sled_core.specs.declared.iterator.Segment.{Segment}
use Rattle.sled_core.specs.declared.iterator.scan.ScannedRecord.{ScannedRecord}
use Rattle.sled_core.specs.declared.iterator.scan.ScanEnd.TheVariants.{Broken}
use Rattle.sled_core.specs.Scan.{IsScan}
use Rattle.sled_core.specs.inside.Recoverable.{IsRecoverableLog, IsSegmentOf, MeetsMessage, scanned_below, cut_over, cut_from}
use Rattle.sled_log.specs.Recovery.{Scanned, IsScanned, IsTail, tail_begins, tail_end, open_at, passed_in, stops_in, cut_of, least_place}
use Rattle.sled_core.proofs.Tail.Multiples.{apart}
use Rattle.sled_core.proofs.Tail.OneReading.{met_there}
use Rattle.sled_core.proofs.Tail.OneTail.{Rises, rises_of, scan_there, in_below, from_below}
pub use Rattle.sled_core.proofs.Tail.Tails.{some_is}
pub use Rattle.sled_core.proofs.Tail.Multiples.{put_down, next_multiple}
use Rattle.sled_core.proofs.Tail.Tails as tails
use Rattle.sled_core.proofs.Tail.Rows.{Stand, stand_in, stand_rises, IsWhole, IsRow, row_ordered, row_below, row_whole, met_stand, stop_inside, cut_cases, IsStopIn, stop_in}
use Rattle.sled_log.proofs.Recovers.PassedRows.{passed_stand, passed_has}

module _ (sum : List ℕ → ℕ) (size : ℕ) (log : List ℕ) (some : 256 ≤ size) (H : History) (A : ℕ) (first : SnapshotModel) (cut : ℕ × Option ℕ) (is : IsRecoverableLog sum size log H A first cut) where
  rises : Rises is.ordering
  rises = rises_of is.ordering is.numbers.ascending

  -- of two multiples of the size the lower is a whole size lower
  pub further : (a b : ℕ) → a % size ≡ 0 → b % size ≡ 0 → a < b → a + size ≤ b
  further = apart size (omega (arith, some))

  -- a reading of one of the segments
  pub known : (s : Scanned) → Contains is.ordering s.segment → IsScanned sum size log s → Contains is.scanned s
  known = tails.known sum size log some (least_place size first) is.ordering is.numbers is.scanned is.reads

  pub row : IsRow sum size log some is.scanned
  row = row_ordered sum size log some (least_place size first) is.ordering is.scanned is.numbers is.reads

  pub whole : (s : Scanned) → Contains is.scanned s → IsWhole sum size log some s
  whole s there = row_whole sum size log some is.scanned row s there

  -- two readings at one place are one
  pub one_reading : (s t : Scanned) → Contains is.scanned s → Contains is.scanned t → s.segment.place ≡ t.segment.place → s ≡ t
  one_reading = tails.one_reading sum size log some (least_place size first) is.ordering is.numbers is.scanned is.reads

  -- Each entry that doesn't lie below the snapshot is met in one of the segments.
  pub entry_met : (m : Message) → stable_place first.stable ≤ m.place → IsSegmentOf sum size log H cut.0 m → (t : Scanned) × (x : ScannedRecord) × Contains is.scanned t × Contains t.met x × MeetsMessage x m
  entry_met m above its =
      let found = its.found in
      let place = its.place in
      let low = put_down size (stable_place first.stable) in
      let own = put_down size m.place in
      let inside : m.place % size < size = omega (arith, some) in
      let not_below : least_place size first ≤ its.segment.place = elim (cases_lt its.segment.place (least_place size first)) [
        | inl below ↦ (let far = further its.segment.place (least_place size first) (ap (λ n. n % size) place ∙ own.1) low.1 below in absurd (omega (arith, far, above, low.0, own.0, place, inside)))
        | inr le ↦ le
      ] in
      let there = (is.numbers.found its.segment).1 (record { slot = found.slot; header = found.header; not_below = not_below }) in
      let reading = scan_there sum size log is.ordering is.scanned is.reads its.segment there in
      let t : Scanned = reading.0 in
      let reached = its.reached in
      let scan = subst (λ (s : Segment). IsScan sum size log s.slot s.place t.met t.stop t.why) reading.2 reading.3 in
      (t, reached.met, reading.1, met_there sum size log its.segment.slot its.segment.place reached.before reached.at reached.met t.met t.stop t.why reached.path reached.room (reached.meets.place ∙ reached.place) reached.is_met scan, reached.meets)

  -- The last segment of the tail.
  pub tail_last : (place : ℕ) (tail : List Scanned) → IsTail sum size log is.ordering place tail → (end : ℕ) → tail_end tail ≡ Some end → (t : Scanned) × Contains is.scanned t × (end ≡ t.segment.place + t.stop)
  tail_last = tails.tail_last sum size log some (least_place size first) is.ordering is.numbers is.scanned is.reads

  -- The tail has each segment from its beginning on. One that is broken is the last.
  abbrev pub IsTailAt : ℕ → ℕ → Scanned → Type 0
  IsTailAt end z t = Contains is.scanned t × (t.segment.place ≡ z) × (t.why ≡ Broken → end ≡ t.segment.place + t.stop)

  pub tail_has : (place : ℕ) (tail : List Scanned) → IsTail sum size log is.ordering place tail → place % size ≡ 0 → (end : ℕ) → tail_end tail ≡ Some end → (z : ℕ) → z % size ≡ 0 → place ≤ z → z < end → (t : Scanned) × IsTailAt end z t
  tail_has = tails.tail_has sum size log some (least_place size first) is.ordering is.numbers is.scanned is.reads

  -- A pass over segments that begin below the end of the tail.
  module _ (end : ℕ) (s : Scanned) (ss : List Scanned) (ends : tail_end is.tail ≡ Some end) (below : scanned_below end is.scanned ≡ s ∷ ss) where
    abbrev pub stop : Segment × ℕ
    stop = stops_in end s (open_at end s.met) ss

    abbrev pub passed : List ScannedRecord
    passed = passed_in end s (open_at end s.met) ss

    pub cut_is : cut ≡ cut_of size stop
    cut_is = is.is_cut ∙ ap (cut_from size first is.scanned) ends ∙ ap (cut_over size first end) below

    pub cut_place : cut.0 ≡ (cut_of size stop).0
    cut_place = ap (λ (c : ℕ × Option ℕ). c.0) cut_is

    pub own_row : IsRow sum size log some (s ∷ ss)
    own_row = subst (IsRow sum size log some) below (row_below sum size log some end is.scanned row)

    pub in_pass : (t : Scanned) → Contains is.scanned t → t.segment.place < end → Contains (s ∷ ss) t
    in_pass t there begun = subst (λ (l : List Scanned). Contains l t) below (in_below sum size log end is.scanned t there begun)

    pub from_pass : (t : Scanned) → Contains (s ∷ ss) t → Contains is.scanned t × (t.segment.place < end)
    from_pass t there = from_below sum size log end is.scanned t (subst (λ (l : List Scanned). Contains l t) (sym below) there)

    pub stopped : IsStopIn sum size log some end s ss stop
    stopped = stop_in sum size log some end s ss (open_at end s.met) own_row refl

    -- it stops in a segment that begins below the end of the tail
    pub last_known : Contains is.scanned stopped.last × (stopped.last.segment.place < end)
    last_known = from_pass stopped.last stopped.there

    pub last_place : stop.0.place ≡ stopped.last.segment.place
    last_place = ap (λ (x : Segment). x.place) stopped.segment

    pub stop_below : stop.1 ≤ stopped.last.segment.place + stopped.last.stop
    stop_below = ⊎_elim
        (λ at_open.
        let at = stand_in (stopped.last.segment.place + 20) stopped.last.met (stopped.last.segment.place + stopped.last.stop) (met_stand sum size log some stopped.last (whole stopped.last last_known.0)) at_open.0 at_open.1 in
        omega (arith, at.2, at_open.2))
        (λ all. omega (arith, all.0)) stopped.why

    -- The cut is no lower than where the pass stops, and no higher than where that segment ends.
    pub cut_bounds : (stop.1 ≤ cut.0) × (cut.0 ≤ stopped.last.segment.place + size)
    cut_bounds =
        let inside = stop_inside sum size log some stopped.last (whole stopped.last last_known.0) in
        let at = stop_below in
        elim (cut_cases size stop) [
          | inl same ↦ (omega (arith, same, cut_place), omega (arith, same, cut_place, at, inside))
          | inr filled ↦ (omega (arith, filled.0, cut_place, last_place, at, inside), omega (arith, filled.0, cut_place, last_place))
        ]

    -- What is met lies one behind another, up to there.
    pub passed_stands : Stand s.segment.place passed stop.1
    passed_stands = passed_stand sum size log some end s ss (open_at end s.met) own_row refl

    -- a multiple of the size below the cut is no higher than where the last segment begins
    pub no_higher : (z : ℕ) → z % size ≡ 0 → z < cut.0 → z ≤ stopped.last.segment.place
    no_higher z at lower = elim (cases_lt stopped.last.segment.place z) [
      | inl higher ↦ (
          let far = further stopped.last.segment.place z (whole stopped.last last_known.0).1 at higher in
          let bound = cut_bounds.1 in
          absurd (omega (arith, far, bound, lower)))
      | inr le ↦ le
    ]

    -- Each record below the cut is met by the pass.
    pub met_below : (t : Scanned) → Contains is.scanned t → (x : ScannedRecord) → Contains t.met x → x.place < cut.0 → Contains passed x
    met_below t there x met lower =
        let at = stand_in (t.segment.place + 20) t.met (t.segment.place + t.stop) (met_stand sum size log some t (whole t there)) x met in
        let bound = no_higher t.segment.place (whole t there).1 (omega (arith, at.0, lower)) in
        let begun = last_known.1 in
        passed_has sum size log some end s ss (open_at end s.met) own_row refl t (in_pass t there (omega (arith, bound, begun))) x met (omega (arith, lower, cut_place))

    -- Each segment of the pass ends no higher than the tail.
    pub ends_below : (t : Scanned) → Contains is.scanned t → t.segment.place < end → t.segment.place + t.stop ≤ end
    ends_below t there begun =
        let last = tail_last (tail_begins size (least_place size first) is.ordering) is.tail is.is_tail end ends in
        let y : Scanned = last.0 in
        let inside = stop_inside sum size log some t (whole t there) in
        let within = stop_inside sum size log some y (whole y last.1) in
        elim (cases_order t.segment.place y.segment.place) [
          | inl same ↦ omega (arith, last.2, ap (λ (z : Scanned). z.segment.place + z.stop) (one_reading t y there last.1 same))
          | inr (inl lower) ↦ (let far = further t.segment.place y.segment.place (whole t there).1 (whole y last.1).1 lower in omega (arith, far, inside, last.2))
          | inr (inr higher) ↦ (let far = further y.segment.place t.segment.place (whole y last.1).1 (whole t there).1 higher in absurd (omega (arith, far, within, last.2, begun)))
        ]

    -- Where no batch is open the pass stops no lower than the tail.
    pub end_passed : ((t : Scanned) → Contains (s ∷ ss) t → t.segment.place + t.stop ≤ stop.1) → end ≤ stop.1
    end_passed all =
        let last = tail_last (tail_begins size (least_place size first) is.ordering) is.tail is.is_tail end ends in
        let y : Scanned = last.0 in
        let long = stand_rises (y.segment.place + 20) y.met (y.segment.place + y.stop) (met_stand sum size log some y (whole y last.1)) in
        let at = all y (in_pass y last.1 (omega (arith, long, last.2))) in
        omega (arith, at, last.2)
