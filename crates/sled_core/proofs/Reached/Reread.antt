-- A log file is read anew behind a write: where each segment that is held is read at least as far, and what is met is of the history, it stands up to the same
-- place.
use Rattle.std.proofs.Common.{◌≡◌, ◌≢◌, ◌⊎◌, ◌∙◌, ◌+◌, ◌*◌, ◌/◌, ◌%◌, ◌<◌, ◌≤◌, ℕ, List, [], ◌∷◌, refl, sym, ap, subst, arith, inl, inr}
use Rattle.std.specs.List.{Contains}
use Rattle.sled_codec.specs.History.{Message, History, table}
use Rattle.sled_codec.specs.Snapshots.{SnapshotModel}
use Rattle.sled_store.proofs.Segments.Elements.{in_first, in_rest}
use Rattle.sled_core.specs.declared.iterator.Segment.{Segment}
use Rattle.sled_core.specs.declared.iterator.scan.ScannedRecord.{ScannedRecord}
use Rattle.sled_core.specs.declared.iterator.scan.ScanEnd.TheVariants.{Broken}
use Rattle.sled_core.specs.inside.Hides.{IsTrueReading}
use Rattle.sled_core.specs.inside.Recoverable.{NothingBehind, StandsInline, IsOfHistory, IsSegmentOf, IsMarkOf, IsMarkBelow}
use Rattle.sled_core.specs.Tail.{Scanned, IsScanned, IsOrdering, AreScanned, least_place}
use Rattle.sled_core.proofs.Tail.OneReading.{one_scan}
use Rattle.sled_core.proofs.Tail.OneTail.{scan_there, segment_there, reading_there}
use Rattle.sled_core.proofs.Tail.SegmentsFrom.{tail_stays}
use Rattle.sled_core.proofs.Reached.StandsTo.{StandsFrom, StandsTo}

-- A segment that was read before is read at least as far, and leads on where it did.
pub record IsAsFar (sum : List ℕ → ℕ) (size : ℕ) (log : List ℕ) (ordering : List Segment) (t : Scanned) : Type 0 where
  pub scan : Scanned
  pub segment : scan.segment ≡ t.segment
  pub there : Contains ordering scan.segment
  pub read : IsScanned sum size log scan
  pub far : t.stop ≤ scan.stop
  pub leads : t.why ≢ Broken → scan.why ≢ Broken

module _ (sum : List ℕ → ℕ) (size : ℕ) (log : List ℕ) (H : History) where
  -- the readings of segments, in the order of these
  pub scans_of : (ss : List Segment) → ((s : Segment) → Contains ss s → IsTrueReading sum size log H s) → (xs : List Scanned) × AreScanned sum size log ss xs
  scans_of [] each = ([], tt)
  scans_of (s ∷ ss) each =
      let one = each s (in_first s ss) in
      let rest = scans_of ss (λ t there. each t (in_rest s t ss there)) in
      (one.scan ∷ rest.0, (one.segment, one.read, rest.1))

  module _ (ss : List Segment) (each : (s : Segment) → Contains ss s → IsTrueReading sum size log H s) (xs : List Scanned)
      (are : AreScanned sum size log ss xs) where
    -- each of them is the one reading of its segment
    the_reading : (t : Scanned) → Contains xs t → (r : IsTrueReading sum size log H t.segment) × (r.scan ≡ t)
    the_reading t there =
        let known = segment_there sum size log ss xs are t there in
        let r = each t.segment known.0 in
        (r, one_scan sum size log r.scan t r.segment r.read known.1)

    pub read_truth : (t : Scanned) (x : ScannedRecord) → Contains xs t → Contains t.met x → IsOfHistory sum size log H x
    read_truth t x there met = let r = the_reading t there in r.0.truth x (subst (λ (u : Scanned). Contains u.met x) (sym r.1) met)

    pub read_caps : (t : Scanned) → Contains xs t → NothingBehind size H t.segment.place t.stop t.why
    read_caps t there =
        let r = the_reading t there in
        subst (λ (u : Scanned). NothingBehind size H u.segment.place u.stop u.why) r.1 r.0.caps

module _ (sum : List ℕ → ℕ) (size : ℕ) (old log : List ℕ) (H : History) (A : ℕ) (first : SnapshotModel) (reach : ℕ) (is : StandsTo sum size old H A first reach)
    (ordering : List Segment) (numbers : IsOrdering sum size log (least_place size first) ordering)
    (each : (s : Segment) → Contains ordering s → IsTrueReading sum size log H s)
    (marks : (s : Segment) → Contains ordering s → IsMarkOf H s) where
  abbrev readings : (xs : List Scanned) × AreScanned sum size log ordering xs
  readings = scans_of sum size log H ordering each

  -- each of them from where what is held counts: one in front of that may be gone
  module _ (on : (t : Scanned) → Contains is.scanned t → is.from / size * size ≤ t.segment.place → IsAsFar sum size log ordering t) where
    -- a segment that was found from there on is found
    still_found : (s : Segment) → Contains is.ordering s → is.from / size * size ≤ s.place → Contains ordering s
    still_found s there low =
        let t = scan_there sum size old is.ordering is.scanned is.reads s there in
        let u = on t.0 t.1 (omega (arith, low, ap (λ (x : Segment). x.place) t.2)) in
        subst (Contains ordering) (u.segment ∙ t.2) u.there

    -- What led on up to the place does so.
    gapless_still : (z : ℕ) → z % size ≡ 0 → is.from / size * size ≤ z → z < reach
        → (t : Scanned) × Contains readings.0 t × (t.segment.place ≡ z)
        × ((reach ≤ z + t.stop) ⊎ ((t.why ≢ Broken) × (u : Segment) × Contains ordering u × (u.place ≡ z + size)))
    gapless_still z aligned low under =
        let found = is.gapless z aligned low under in
        let u = on found.0 found.1 (omega (arith, low, found.2)) in
        let longer = u.far in (
          u.scan,
          reading_there sum size log ordering readings.0 readings.1 u.scan u.there u.read,
          ap (λ (s : Segment). s.place) u.segment ∙ found.2,
          elim found.3 [
            | inl far ↦ inl (omega (arith, far, longer))
            | inr leads ↦ inr (u.leads leads.0, leads.1, still_found leads.1 leads.2 (omega (arith, low, leads.3)), leads.3)
          ],
        )

    -- Up to the same place, and what is held counts from where it did.
    pub stands_still : 256 ≤ size → ((s : Segment) → Contains ordering s → IsMarkBelow size H A s.mark)
        → ((cut : ℕ) → is.from ≤ cut → cut ≤ reach → (page : ℕ) (m : Message) → Contains (table H cut page) m
        → IsSegmentOf sum size log H cut m × StandsInline sum size log m m.pointer)
        → StandsFrom sum size log H A first reach is.from
    stands_still some marks_below needed = (
      record {
        ordering = ordering;
        numbers = numbers;
        scanned = readings.0;
        reads = readings.1;
        marks = marks;
        truth = read_truth sum size log H ordering each readings.0 readings.1;
        caps = read_caps sum size log H ordering each readings.0 readings.1;
        not_below = is.not_below;
        passes = is.passes;
        marks_below = marks_below;
        placed = is.placed;
        batched = is.batched;
        closed = is.closed;
        from = is.from;
        from_low = is.from_low;
        from_high = is.from_high;
        tail_from = tail_stays size some (least_place size first) (is.from / size * size) is.ordering ordering (λ s there. (is.marks s there).below) still_found
            is.tail_from;
        gapless = gapless_still;
        needed = needed;
      },
      refl,
    )
