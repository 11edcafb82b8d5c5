-- From the segment of a cut on: what a log file needs to be recoverable up to the cut under a snapshot that has the cut for its place, where the reading of that segment ends at the cut, or no segment begins there.
use Rattle.std.proofs.Common.{⊎_elim, ◌≡◌, ◌⊎◌, ◌∙◌, ◌+◌, ◌*◌, ◌/◌, ◌%◌, ◌<◌, ◌≤◌, ℕ, Bool, false, nat_lt, if◌then◌else◌, List, [], ◌∷◌, Option, Some, None, refl, sym, ap, subst, arith, inl, inr}
use Rattle.std.specs.List.{Contains}
use Rattle.std.proofs.lemmas.Bool.{cases_lt, le-ltb, lt-leb}
use Rattle.sled_codec.specs.History.{Message, Batch, History, table, CutFits}
use Rattle.sled_codec.specs.Snapshots.{SnapshotModel, stable_place}
use Rattle.sled_store.proofs.Segments.Elements.{in_first, in_rest, in_nothing}
use Rattle.sled_core.specs.declared.iterator.Segment.{Segment}
use Rattle.sled_core.specs.declared.iterator.scan.ScannedRecord.{ScannedRecord}
use Rattle.sled_core.specs.declared.iterator.scan.ScanEnd.{ScanEnd}
use Rattle.sled_core.specs.declared.iterator.scan.ScanEnd.TheVariants.{Broken}
use Rattle.sled_core.specs.Scan.{IsEnd}
use Rattle.sled_core.specs.inside.Recoverable.{NothingBehind, StandsInline, IsOfHistory, IsSegmentOf, IsMarkOf, IsMarkBelow, LiesInSegment, IsPlacedBatch, IsRecoverableLog, scanned_below, cut_over, cut_from}
use Rattle.sled_log.specs.Recovery.{Scanned, IsOrdering, AreScanned, GoesOn, IsTail, tail_begins, tail_end, opens, open_at, stops_in, cut_of, least_place}
use Rattle.sled_core.proofs.Tail.Multiples.{apart, put_down}
use Rattle.sled_core.proofs.Tail.OneReading.{one_scan}
use Rattle.sled_core.proofs.Tail.OneTail.{rises_of, one_at_place, in_below, from_below, segment_there}
use Rattle.sled_core.proofs.Tail.Rows.{IsWhole, IsRow, row_ordered, row_below, row_whole, met_stand, stand_in, stand_rises, end_there}
use Rattle.sled_log.proofs.Moments.PassStops.{none_open}
use Rattle.sled_core.proofs.Tail.SegmentsFrom.{tail_from}

-- The segments from that of a cut on are of the history, and those that a table below the cut needs are there.
pub record IsOfCut (sum : List ℕ → ℕ) (size : ℕ) (log : List ℕ) (H : History) (A : ℕ) (cut : ℕ × Option ℕ) : Type 0 where
  pub ordering : List Segment
  pub numbers : IsOrdering sum size log (cut.0 / size * size) ordering
  pub scanned : List Scanned
  pub reads : AreScanned sum size log ordering scanned
  pub marks : (s : Segment) → Contains ordering s → IsMarkOf H s
  pub truth : (s : Scanned) (x : ScannedRecord) → Contains scanned s → Contains s.met x → IsOfHistory sum size log H x
  pub caps : (s : Scanned) → Contains scanned s → NothingBehind size H s.segment.place s.stop s.why
  pub passes : A ≤ cut.0
  pub marks_below : (s : Segment) → Contains ordering s → IsMarkBelow size H cut.0 s.mark
  pub placed : (m : Message) → Contains H.messages m → m.place < cut.0 → LiesInSegment size m
  pub batched : (b : Batch) → Contains H.batches b → b.low < cut.0 → IsPlacedBatch size H b
  pub needed : (page : ℕ) (m : Message) → Contains (table H cut.0 page) m → IsSegmentOf sum size log H cut.0 m × StandsInline sum size log m m.pointer

module _ (sum : List ℕ → ℕ) (size : ℕ) (log : List ℕ) (some : 256 ≤ size) where
  -- A record of the history is no batch that is open at a place, where each batch that begins with it ends below that.
  pub closed_of : (H : History) (end : ℕ) (x : ScannedRecord) → IsOfHistory sum size log H x → ((b : Batch) → Contains H.batches b → b.low ≡ x.place → b.peg < end) → opens end x.what ≡ false
  closed_of H end x (inl (m, there, meets, stands, message, batch)) ended = ⊎_elim (λ gives. ap (opens end) gives) (λ names. ap (opens end) names.5) meets.what
  closed_of H end x (inr (inl (b, there, place, what, message, batch))) ended = ap (opens end) what ∙ lt-leb end b.peg (ended b there (sym place))
  closed_of H end x (inr (inr (what, message, batch))) ended = ap (opens end) what

  -- a row in which all are one is that one
  only_one : (z : Scanned) (xs : List Scanned) → IsRow sum size log some xs → Contains xs z → ((t : Scanned) → Contains xs t → t ≡ z) → xs ≡ z ∷ []
  only_one z [] row there all = absurd (in_nothing z there)
  only_one z (x ∷ []) row there all = ap (λ (y : Scanned). y ∷ []) (all x (in_first x []))
  only_one z (x ∷ y ∷ ys) row there all =
      let far = row.1 y (in_first y ys) in
      let first = all x (in_first x (y ∷ ys)) in
      let second = all y (in_rest x y (y ∷ ys) (in_first y ys)) in
      absurd (omega (arith, far, some, ap (λ (t : Scanned). t.segment.place) first, ap (λ (t : Scanned). t.segment.place) second))

  -- The reading of this segment ends at the cut, in its slot.
  pub record EndsAtCut (scanned : List Scanned) (cut : ℕ × Option ℕ) (z : Scanned) : Type 0 where
    pub there : Contains scanned z
    pub place : z.segment.place ≡ cut.0 / size * size
    pub slot : cut.1 ≡ Some z.segment.slot
    pub stop : z.segment.place + z.stop ≡ cut.0
    pub broken : z.why ≡ Broken

  module _ (H : History) (A : ℕ) (cut : ℕ × Option ℕ) (o : IsOfCut sum size log H A cut) (next : SnapshotModel) (place : stable_place next.stable ≡ cut.0) where
    abbrev begins : ℕ
    begins = cut.0 / size * size

    parts : (begins + cut.0 % size ≡ cut.0) × (begins % size ≡ 0)
    parts = put_down size cut.0

    inside : cut.0 % size < size
    inside = omega (arith, some)

    least : least_place size next ≡ begins
    least = ap (λ n. n / size * size) place

    row : IsRow sum size log some o.scanned
    row = row_ordered sum size log some begins o.ordering o.scanned o.numbers o.reads

    whole : (t : Scanned) → Contains o.scanned t → IsWhole sum size log some t
    whole = row_whole sum size log some o.scanned row

    -- two readings at one place are one
    one_reading : (s t : Scanned) → Contains o.scanned s → Contains o.scanned t → s.segment.place ≡ t.segment.place → s ≡ t
    one_reading s t here there places =
        let a = segment_there sum size log o.ordering o.scanned o.reads s here in
        let b = segment_there sum size log o.ordering o.scanned o.reads t there in
        one_scan sum size log s t (one_at_place o.ordering (rises_of o.ordering o.numbers.ascending) s.segment t.segment a.0 b.0 places) a.1 b.1

    tail_at : tail_begins size (least_place size next) o.ordering ≡ begins
    tail_at = ap (λ n. tail_begins size n o.ordering) least ∙ tail_from size some H cut.0 o.ordering o.marks_below

    -- So it is, with a tail from there on.
    recoverable : (tail : List Scanned) → IsTail sum size log o.ordering begins tail → ((s : Segment) × Contains o.ordering s × (s.place ≡ begins)) ⊎ (begins ≡ cut.0) → cut ≡ cut_from size next o.scanned (tail_end tail)
        → IsRecoverableLog sum size log H A next cut
    recoverable tail is_tail there is_cut = record {
      ordering = o.ordering;
      numbers = subst (λ n. IsOrdering sum size log n o.ordering) (sym least) o.numbers;
      scanned = o.scanned;
      reads = o.reads;
      tail = tail;
      is_tail = subst (λ n. IsTail sum size log o.ordering n tail) (sym tail_at) is_tail;
      marks = o.marks;
      truth = o.truth;
      caps = o.caps;
      tail_there = ⊎_elim (λ found. inl (found.0, found.1, found.2 ∙ sym tail_at)) (λ ends. inr (tail_at ∙ ends ∙ sym place)) there;
      is_cut = is_cut;
      not_below = omega (arith, place);
      passes = o.passes;
      marks_below = o.marks_below;
      placed = o.placed;
      batched = o.batched;
      needed = o.needed;
    }

    -- The cut is the end of a segment, and no segment begins there.
    pub from_end : next.active ≡ cut.1 → cut.0 % size ≡ 0 → ((s : Segment) → Contains o.ordering s → s.place ≡ cut.0 → ⊥) → IsRecoverableLog sum size log H A next cut
    from_end active aligned none =
        let same : begins ≡ cut.0 = omega (arith, parts.0, aligned) in
        recoverable [] (λ s there at. none s there (at ∙ same)) (inr same) (λ i. (sym place i, sym active i))

    -- The reading of its segment ends at the cut. Which slot the snapshot has as active doesn't matter, since a segment is read.
    module _ (fits : CutFits H cut.0) (z : Scanned) (ends : EndsAtCut o.scanned cut z) where
      abbrev end : ℕ
      end = z.segment.place + z.stop

      room : z.stop + 32 ≤ size
      room = (subst (λ (why : ScanEnd). IsEnd sum size log z.segment.slot z.segment.place z.stop why) ends.broken (end_there sum size log some z (whole z ends.there))).0

      stands_at : 20 ≤ z.stop
      stands_at =
          let long = stand_rises (z.segment.place + 20) z.met end (met_stand sum size log some z (whole z ends.there)) in
          omega (arith, long)

      closed : open_at end z.met ≡ None
      closed = none_open end z.met (λ x met.
          let at = stand_in (z.segment.place + 20) z.met end (met_stand sum size log some z (whole z ends.there)) x met in
          closed_of H end x (o.truth z x ends.there met) (λ b there low.
          let stop = ends.stop in
          let ended = fits.batches b there (omega (arith, low, at.1, at.2, stop)) in
          omega (arith, ended, stop)))

      one : (t : Scanned) → Contains (scanned_below end o.scanned) t → t ≡ z
      one t there =
          let from = from_below sum size log end o.scanned t there in
          let above = ((o.numbers.found t.segment).0 (segment_there sum size log o.ordering o.scanned o.reads t from.0).0).not_below in
          let stop = ends.stop in
          let at = ends.place in
          let same : t.segment.place ≡ z.segment.place = elim (cases_lt begins t.segment.place) [
            | inl over ↦ (
                let far = apart size (omega (arith, some)) begins t.segment.place parts.1 (whole t from.0).1 over in
                absurd (omega (arith, far, from.1, stop, parts.0, inside)))
            | inr le ↦ omega (arith, le, above, at)
          ] in
          one_reading t z from.0 ends.there same

      only_z : scanned_below end o.scanned ≡ z ∷ []
      only_z =
          only_one z (scanned_below end o.scanned) (row_below sum size log some end o.scanned row) (in_below sum size log end o.scanned z ends.there (let long = stands_at in omega (arith, long))) one

      not_filled : nat_lt (z.segment.place + size) (end + 32) ≡ false
      not_filled = let fit = room in le-ltb (z.segment.place + size) (end + 32) (omega (arith, fit))

      new_cut : cut_over size next end (scanned_below end o.scanned) ≡ (end, Some z.segment.slot)
      new_cut = ap (cut_over size next end) only_z ∙ ap (λ (o : Option ℕ). cut_of size (stops_in end z o [])) closed
          ∙ ap (λ (b : Bool). if b then (z.segment.place + size, None) else (end, Some z.segment.slot)) not_filled

      pub from_inside : IsRecoverableLog sum size log H A next cut
      from_inside =
          let known = segment_there sum size log o.ordering o.scanned o.reads z ends.there in
          let at = ends.place in
          let there = known.0 in
          let behind = subst (λ (why : ScanEnd). GoesOn why [] (IsTail sum size log o.ordering (begins + size) [])) (sym ends.broken) refl in
          recoverable (z ∷ []) (there, at, known.1, behind) (inl (z.segment, there, at)) ((λ i. (sym ends.stop i, ends.slot i)) ∙ sym new_cut)
