-- Zeros are written over a whole slot in which no segment below the cut lies, and synced: all that the log file has from the segment of the cut on stays, but for what lay in that slot.
use Rattle.std.proofs.Common.{⊎_elim, ◌≡◌, ◌≢◌, ◌⊎◌, ◌+◌, ◌*◌, ◌/◌, ◌%◌, ◌≤◌, ◌==◌, not, ℕ, Bool, true, false, cond, List, [], ◌∷◌, length, replicate, Option, sym, ap, subst, arith, inl, inr}
use Rattle.std.specs.List.{Contains, filter}
use Rattle.std.proofs.lemmas.Bool.{not-true, eqb-false, ne_eqb}
use Rattle.sled_codec.specs.History.{Message, History, table}
use Rattle.sled_store.specs.Device.{overwritten}
use Rattle.sled_store.proofs.Segments.Elements.{in_filter, from_filter, in_first, in_rest}
use Rattle.sled_store.proofs.Segments.TableEntries.{from_table}
use Rattle.sled_core.specs.declared.iterator.Segment.{Segment}
use Rattle.sled_core.specs.declared.iterator.scan.ScannedRecord.{ScannedRecord}
use Rattle.sled_core.specs.Recoverable.{NoHeaderOfZeros}
use Rattle.sled_core.specs.inside.Recoverable.{IsOfHistory, StandsInline, IsSegmentOf}
use Rattle.sled_core.specs.inside.Scan.{IsFoundSegment}
use Rattle.sled_core.specs.Scan.{IsScan}
use Rattle.sled_log.specs.Recovery.{IsOrdering, Scanned, IsScanned, AreScanned}
use Rattle.sled_core.proofs.Tail.OneTail.{rises_of, segment_there}
use Rattle.sled_core.proofs.Tail.Rows.{IsWhole, row_ordered, row_whole, met_stand, stand_rises, stop_inside}
use Rattle.sled_log.proofs.Moments.BesideZeros.{needed_beside}
use Rattle.sled_log.proofs.Moments.FromCut.{EndsAtCut, IsOfCut}
use Rattle.sled_core.proofs.Tail.SegmentsFrom.{ascends_of}
use Rattle.sled_log.proofs.Moments.UnreadSlot.{rises_kept}
use Rattle.sled_log.proofs.Moments.UnreadZeroed.{none_there, found_old, found_still}
use Rattle.sled_log.proofs.Moments.ZerosStand.{leaves_new, no_more_than, slot_beside, end_same_there, path_there, truth_there}

-- What is met in segments that are kept is met in another file, where the reading of each of them is the same there.
reads_kept : (sum : List ℕ → ℕ) (size : ℕ) (old new : List ℕ) (p : Segment → Bool) (ss : List Segment) (xs : List Scanned) → AreScanned sum size old ss xs → ((x : Scanned) → Contains xs x → p x.segment ≡ true → IsScanned sum size new x)
    → AreScanned sum size new (filter p ss) (filter (λ x. p x.segment) xs)
reads_kept sum size old new p [] [] are same = tt
reads_kept sum size old new p [] (x ∷ xs) are same = absurd are
reads_kept sum size old new p (s ∷ ss) [] are same = absurd are
reads_kept sum size old new p (s ∷ ss) (x ∷ xs) are same =
    subst (λ b. AreScanned sum size new (filter p (s ∷ ss)) (cond b (x ∷ filter (λ y. p y.segment) xs) (filter (λ y. p y.segment) xs)))
    (sym (ap p are.0)) (by (p s) (ap p are.0) (reads_kept sum size old new p ss xs are.2 (λ y there. same y (in_rest x y xs there))))
  where
    by : (b : Bool) → p x.segment ≡ b → AreScanned sum size new (filter p ss) (filter (λ y. p y.segment) xs)
        → AreScanned sum size new (cond b (s ∷ filter p ss) (filter p ss)) (cond b (x ∷ filter (λ y. p y.segment) xs) (filter (λ y. p y.segment) xs))
    by true test rest = (are.0, same x (in_first x xs) test, rest)
    by false test rest = rest

module _ (sum : List ℕ → ℕ) (size : ℕ) (old : List ℕ) (some : 256 ≤ size) (none : NoHeaderOfZeros sum) (H : History) (A : ℕ) (cut : ℕ × Option ℕ) (o : IsOfCut sum size old H A cut) (slot : ℕ) (slot_at : slot % size ≡ 0) (reach : slot ≤ length old)
    (free : (s : Segment) → IsFoundSegment sum size old 0 s → s.slot ≡ slot → cut.0 ≤ s.place) where
  abbrev pub new : List ℕ
  new = overwritten old slot (replicate size 0)

  abbrev begins : ℕ
  begins = cut.0 / size * size

  -- Those in other slots.
  abbrev elsewhere : Segment → Bool
  elsewhere s = not (s.slot == slot)

  is_other : (s : Segment) → elsewhere s ≡ true → s.slot ≢ slot
  is_other s test = eqb-false s.slot slot (not-true (s.slot == slot) test)

  passes_other : (s : Segment) → s.slot ≢ slot → elsewhere s ≡ true
  passes_other s other = ap not (ne_eqb s.slot slot other)

  abbrev left_over : List Segment
  left_over = filter elsewhere o.ordering

  abbrev kept_scans : List Scanned
  kept_scans = filter (λ x. elsewhere x.segment) o.scanned

  numbers : IsOrdering sum size new begins left_over
  numbers = record {
    ascending = ascends_of left_over (rises_kept elsewhere o.ordering (rises_of o.ordering o.numbers.ascending));
    found = λ s. (
      λ there. let from = from_filter elsewhere o.ordering s there in found_still sum size old some none slot slot_at reach H begins s (is_other s from.1) ((o.numbers.found s).0 from.0),
      λ found. in_filter elsewhere o.ordering s ((o.numbers.found s).1 (found_old sum size old some none slot slot_at reach H begins s found)) (passes_other s (none_there sum size old some none slot slot_at reach begins s found)),
    );
    placed = λ s there. o.numbers.placed s (from_filter elsewhere o.ordering s there).0;
  }

  -- They are read as before.

  its_whole : (t : Scanned) → Contains o.scanned t → IsWhole sum size old some t
  its_whole = row_whole sum size old some o.scanned (row_ordered sum size old some begins o.ordering o.scanned o.numbers o.reads)

  stop_apart : (t : Scanned) → Contains o.scanned t → t.segment.slot ≢ slot → (t.segment.slot + t.stop ≤ slot) ⊎ (slot + size ≤ t.segment.slot)
  stop_apart t there other =
      let inside = stop_inside sum size old some t (its_whole t there) in
      ⊎_elim (λ before. inl (omega (arith, before, inside))) (λ past. inr past) (slot_beside sum size old some H slot size slot slot_at (omega arith) (omega arith) reach t.segment.slot (its_whole t there).2 other)

  same_scan : (t : Scanned) → Contains o.scanned t → t.segment.slot ≢ slot → IsScanned sum size new t
  unfolding IsScan
  same_scan t there other =
      let its = its_whole t there in (
        path_there sum size old some H slot size slot slot_at (omega arith) (omega arith) reach t.segment.slot t.segment.place its.2 20 t.met t.stop (stop_apart t there other) its.0.0,
        end_same_there sum size old some H slot size slot slot_at (omega arith) (omega arith) reach t.segment.slot t.segment.place its.2 other t.stop t.why its.0.1,
      )

  same_truth : (t : Scanned) (x : ScannedRecord) → Contains o.scanned t → t.segment.slot ≢ slot → Contains t.met x → IsOfHistory sum size new H x
  unfolding IsScan
  same_truth t x there other met =
      truth_there sum size old some H slot size slot slot_at (omega arith) (omega arith) reach t.segment.slot t.segment.place 20 t.met t.stop (stop_apart t there other) (its_whole t there).0.0 (same_scan t there other).0
      (λ y at_y. o.truth t y there at_y) x met

  in_scans : (t : Scanned) → Contains kept_scans t → Contains o.scanned t × (t.segment.slot ≢ slot)
  in_scans t there = let from = from_filter (λ (x : Scanned). elsewhere x.segment) o.scanned t there in (from.0, is_other t.segment from.1)

  needed_new : (page : ℕ) (m : Message) → Contains (table H cut.0 page) m → IsSegmentOf sum size new H cut.0 m × StandsInline sum size new m m.pointer
  needed_new page m there =
      needed_beside sum size old some slot size (replicate size 0) new (no_more_than sum size old some H slot size slot slot_at (omega arith) (omega arith) reach) (leaves_new sum size old some H slot size slot slot_at (omega arith) (omega arith) reach)
      slot slot_at (omega arith) (omega arith) H cut.0 free m (from_table H cut.0 page m there).2 (o.needed page m there)

  -- So all is as it has to be.
  pub unread_zeroed : IsOfCut sum size new H A cut
  unread_zeroed = record {
    ordering = left_over;
    numbers = numbers;
    scanned = kept_scans;
    reads = reads_kept sum size old new elsewhere o.ordering o.scanned o.reads (λ x there test. same_scan x there (is_other x.segment test));
    marks = λ s there. o.marks s (from_filter elsewhere o.ordering s there).0;
    truth = λ t x there met. let from = in_scans t there in same_truth t x from.0 from.1 met;
    caps = λ t there. o.caps t (in_scans t there).0;
    passes = o.passes;
    marks_below = λ s there. o.marks_below s (from_filter elsewhere o.ordering s there).0;
    placed = o.placed;
    batched = o.batched;
    needed = needed_new;
  }

  -- its segments were there
  pub zeroed_before : (s : Segment) → Contains unread_zeroed.ordering s → Contains o.ordering s
  unfolding unread_zeroed
  zeroed_before s there = (from_filter elsewhere o.ordering s there).0

  -- Where the reading of the segment of the cut ends at the cut, it still does.
  pub ends_zeroed : (z : Scanned) → EndsAtCut sum size old some o.scanned cut z → EndsAtCut sum size new some unread_zeroed.scanned cut z
  unfolding unread_zeroed
  ends_zeroed z ends = record {
    there = in_filter (λ (x : Scanned). elsewhere x.segment) o.scanned z ends.there (passes_other z.segment other);
    place = ends.place;
    slot = ends.slot;
    stop = ends.stop;
    broken = ends.broken;
  } where
    other : z.segment.slot ≢ slot
    other same =
        let found = (o.numbers.found z.segment).0 (segment_there sum size old o.ordering o.scanned o.reads z ends.there).0 in
        let above = free z.segment (record { slot = found.slot; header = found.header; not_below = omega arith }) same in
        let long = stand_rises (z.segment.place + 20) z.met (z.segment.place + z.stop) (met_stand sum size old some z (its_whole z ends.there)) in
        let stop = ends.stop in
        omega (arith, above, long, stop)
