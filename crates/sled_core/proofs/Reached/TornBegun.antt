-- Behind a write that begins a segment in a free slot, torn or whole, the log file stands up to the same place, with the new segment or without it.
use Rattle.std.proofs.Common.{◌≡◌, ◌≢◌, ◌⊎◌, ◌+◌, ◌*◌, ◌%◌, ◌^◌, ◌<◌, ◌≤◌, ℕ, ℤ, pos, min, List, length, take, get_or, refl, subst, arith, inl, inr}
use Rattle.std.specs.List.{Contains}
use Rattle.std.proofs.Math.Nat.{mul-mod_left}
use Rattle.std.proofs.lemmas.Bool.{cases_eq, cases_lt}
use Rattle.sled_codec.specs.History.{Message, History, table}
use Rattle.sled_codec.specs.Places.{part}
use Rattle.sled_codec.specs.Record.{IsHeader}
use Rattle.sled_codec.specs.Snapshots.{SnapshotModel}
use Rattle.sled_codec.proofs.Segments.{one_header}
use Rattle.sled_store.specs.Device.{overwritten, LeavesLog, Placement}
use Rattle.sled_store.specs.Foreign.{NoForeignLog}
use Rattle.sled_core.specs.declared.iterator.Segment.{Segment}
use Rattle.sled_core.specs.declared.iterator.scan.ScannedRecord.{ScannedRecord}
use Rattle.sled_core.specs.declared.iterator.scan.ScanEnd.{ScanEnd}
use Rattle.sled_core.specs.inside.Hides.{IsTrueReading}
use Rattle.sled_core.specs.inside.Recoverable.{NothingBehind, StandsInline, IsOfHistory, IsReachedIn, IsReadOn, IsSegmentOf, IsMarkOf, IsMarkBelow}
use Rattle.sled_core.specs.Recoverable.{NoHeaderOfZeros}
use Rattle.sled_core.specs.inside.Scan.{IsFoundSegment, IsMisplaced}
use Rattle.sled_core.specs.Scan.{IsPath, IsEnd, IsScan}
use Rattle.sled_core.proofs.Read.FoundLemmas.{pos_injective}
use Rattle.sled_core.proofs.Torn.TornLemmas.{after_write}
use Rattle.sled_core.proofs.Torn.WrittenRecords.{AreClear, MeetsFirst}
use Rattle.sled_core.proofs.Torn.WrittenBegun.{none_stood, begun_or_none, meets_begun}
use Rattle.sled_core.specs.Tail.{Scanned, IsScanned, IsOrdering, least_place}
use Rattle.sled_core.proofs.Tail.OneTail.{scan_there, segment_there}
use Rattle.sled_core.proofs.Reached.KeptStands.{read_on_kept}
use Rattle.sled_core.proofs.Reached.LeftBeside.{IsSameBeside, truth_alike, beside, bytes_beside, segment_left, found_beside, same_beside, reading_beside}
use Rattle.sled_core.proofs.Reached.PutIn.{put_in, others_there, put_cases, ordering_with}
use Rattle.sled_core.proofs.Reached.Reread.{IsAsFar, stands_still}
use Rattle.sled_core.proofs.Reached.StandsTo.{StandsFrom, StandsTo}
use Rattle.sled_core.proofs.Reached.TornBehind.{in_taken, caps_met}

-- a segment is the one that its place, its slot and its mark say
same_segment : (s : Segment) (place slot : ℕ) (mark : ℤ) → pos s.place ≡ pos place → s.slot ≡ slot → s.mark ≡ mark
    → s ≡ record { place = place; slot = slot; mark = mark }
same_segment s place slot mark at_place at_slot is_mark =
    let same = pos_injective s.place place at_place in λ i. record { place = same i; slot = at_slot i; mark = is_mark i }

module _ (sum : List ℕ → ℕ) (size : ℕ) (some : 256 ≤ size) (old : List ℕ) (slot from : ℕ) (asked now left : List ℕ) (inside : from + length asked ≤ size)
    (no_more : length now ≤ length asked)
    (leaves : LeavesLog (after_write old (slot * size + from) asked now) left) (same : IsSameBeside sum size old left (slot * size))
    (free : (lsn mark : ℤ) → IsHeader sum (part old (slot * size) 20) lsn mark → ⊥)
    (H : History) (A : ℕ) (first : SnapshotModel) (reach : ℕ) (is : StandsTo sum size old H A first reach) where
  abbrev at : ℕ
  at = slot * size + from

  abbrev new : List ℕ
  new = overwritten old at asked

  abbrev least : ℕ
  least = least_place size first

  -- no segment was found in its slot
  pub other_slot : (low : ℕ) (s : Segment) → IsFoundSegment sum size old low s → s.slot ≢ slot * size
  other_slot low s found here = free (pos s.place) s.mark (subst (λ n. IsHeader sum (part old n 20) (pos s.place) s.mark) here found.header)

  pub all_found : (low : ℕ) (s : Segment) → IsFoundSegment sum size old low s → IsFoundSegment sum size left low s
  all_found low s found = found_beside sum size some old slot from asked now left inside no_more leaves low s (other_slot low s found) found

  pub was_found : (t : Scanned) → Contains is.scanned t → IsFoundSegment sum size old least t.segment × IsScanned sum size old t
  was_found t there = let had = segment_there sum size old is.ordering is.scanned is.reads t there in ((is.numbers.found t.segment).0 had.0, had.1)

  -- The segments of before are read as before.

  pub still_read : (t : Scanned) → Contains is.scanned t → IsScanned sum size left t
  still_read t there = let had = was_found t there in same.scans least t had.0 (other_slot least t.segment had.0) had.1

  reading_of : (t : Scanned) → Contains is.scanned t → IsTrueReading sum size left H t.segment
  reading_of t there =
      let had = was_found t there in
      reading_beside sum size some old slot from asked now left inside no_more leaves same least t had.0 (other_slot least t.segment had.0) had.1 H
      (λ x met. is.truth t x there met) (is.caps t there)

  each : (s : Segment) → Contains is.ordering s → IsTrueReading sum size left H s
  each s there = let t = scan_there sum size old is.ordering is.scanned is.reads s there in subst (IsTrueReading sum size left H) t.2 (reading_of t.0 t.1)

  as_far : (ordering : List Segment) → ((s : Segment) → Contains is.ordering s → Contains ordering s) → (t : Scanned) → Contains is.scanned t
      → IsAsFar sum size left ordering t
  as_far ordering stay t there = record {
    scan = t;
    segment = refl;
    there = stay t.segment (segment_there sum size old is.ordering is.scanned is.reads t there).0;
    read = still_read t there;
    far = omega arith;
    leads = λ goes. goes;
  }

  lies : (s : Segment) → IsFoundSegment sum size old 0 s → (n : Message) (r : IsReachedIn sum size old s n)
      → (s.slot + min (r.at + r.met.len) size ≤ at) ⊎ (at + length asked ≤ s.slot)
  lies s found n r = elim (beside sum size some old slot from asked now left inside no_more leaves s.slot found.slot (other_slot 0 s found)) [
    | inl low ↦ inl (omega (arith, low))
    | inr past ↦ inr past
  ]

  -- and what was read to its end still is
  reads_on : (s : Segment) → IsFoundSegment sum size old 0 s → IsReadOn sum size old H s → IsReadOn sum size left H s
  reads_on s found on =
      read_on_kept sum size old left s.slot found.slot
      (bytes_beside sum size some old slot from asked now left inside no_more leaves s.slot found.slot (other_slot 0 s found)) H s refl on

  needed : (cut : ℕ) → is.from ≤ cut → cut ≤ reach → (page : ℕ) (m : Message) → Contains (table H cut page) m
      → IsSegmentOf sum size left H cut m × StandsInline sum size left m m.pointer
  needed cut below high page m entry =
      segment_left sum size some old slot from asked now left inside no_more leaves H cut (all_found 0) lies reads_on m (is.needed cut below high page m entry)

  -- Its header didn't come, or lies below the segments that are asked for.
  pub stands_without : ((s : Segment) → IsFoundSegment sum size left least s → s.slot ≢ slot * size) → StandsFrom sum size left H A first reach is.from
  stands_without missing =
      stands_still sum size old left H A first reach is is.ordering numbers each is.marks (λ t there low. as_far is.ordering (λ s had. had) t there) some
      is.marks_below needed where
        numbers : IsOrdering sum size left least is.ordering
        numbers = record {
          ascending = is.numbers.ascending;
          found = λ s. (λ there. all_found least s ((is.numbers.found s).0 there), λ has. (is.numbers.found s).1 (same.found least s (missing s has) has));
          placed = is.numbers.placed;
        }

  -- It came.
  module _ (place : ℕ) (mark : ℤ) (header : IsHeader sum (part left (slot * size) 20) (pos place) mark) (low : least ≤ place) (whole : place % size ≡ 0)
      (fits : place + size < 2 ^ 63)
      (its_mark : IsMarkOf H (record { place = place; slot = slot * size; mark = mark })) (mark_below : IsMarkBelow size H A mark)
      (alone : (s : Segment) → Contains is.ordering s → s.place ≢ place)
      (more : List ScannedRecord) (stop : ℕ) (why : ScanEnd) (truth : (x : ScannedRecord) → Contains more x → IsOfHistory sum size new H x)
      (caps : NothingBehind size H place stop why) (w : MeetsFirst sum size new left (slot * size) place 20 more stop why) where
    -- the segment that begins with the write
    abbrev seg : Segment
    seg = record { place = place; slot = slot * size; mark = mark }

    not_misplaced : IsMisplaced size seg → ⊥
    not_misplaced (inl other) = other whole
    not_misplaced (inr high) = omega (arith, high, fits)

    found : IsFoundSegment sum size left least seg
    found = record { slot = mul-mod_left slot size; header = header; not_below = low }

    before : (s : Segment) → IsFoundSegment sum size left least s → IsFoundSegment sum size old least s ⊎ (s ≡ seg)
    before s has = elim (cases_eq s.slot (slot * size)) [
      | inl here ↦ (
          let its = subst (λ n. IsHeader sum (part left n 20) (pos s.place) s.mark) here has.header in
          let one = one_header sum (part left (slot * size) 20) (pos s.place) s.mark (pos place) mark its header in
          inr (same_segment s place (slot * size) mark one.0 here one.1))
      | inr other ↦ inl (same.found least s other has)
    ]

    abbrev ordering : List Segment
    ordering = put_in seg is.ordering

    numbers : IsOrdering sum size left least ordering
    numbers = ordering_with sum size old left least is.ordering is.numbers seg found (all_found least) before not_misplaced alone

    reading : IsTrueReading sum size left H seg
    unfolding IsScan
    reading = record {
      scan = record { segment = seg; met = take w.count more; stop = w.end; why = w.ending };
      segment = refl;
      read = (w.path, w.ends);
      truth = truth_alike sum size new left H (slot * size) place 20 (take w.count more) w.end w.alike w.path (λ x met. truth x (in_taken w.count more x met));
      caps = caps_met sum size new left H (slot * size) place 20 more stop why w caps;
    }

    pub stands_with : StandsFrom sum size left H A first reach is.from
    stands_with = stands_still sum size old left H A first reach is ordering numbers
        (λ s there. elim (put_cases seg is.ordering s there) [ inl one ↦ subst (IsTrueReading sum size left H) one reading | inr had ↦ each s had ])
        (λ s there. elim (put_cases seg is.ordering s there) [ inl one ↦ subst (IsMarkOf H) one its_mark | inr had ↦ is.marks s had ])
        (λ t there low. as_far ordering (others_there seg is.ordering) t there) some
        (λ s there. elim (put_cases seg is.ordering s there)
        [ inl one ↦ subst (λ (x : Segment). IsMarkBelow size H A x.mark) one mark_below | inr had ↦ is.marks_below s had ])
        needed

-- Where only what the log wrote passes as its own, a crash leaves the new segment with the first of the records that were written, or none there.
module _ (sum : List ℕ → ℕ) (none : NoHeaderOfZeros sum) (size : ℕ) (some : 256 ≤ size) (old : List ℕ) (slot from : ℕ) (begins : from ≡ 0)
    (asked now left : List ℕ) (inside : from + length asked ≤ size) (no_more : length now ≤ length asked)
    (leaves : LeavesLog (after_write old (slot * size + from) asked now) left) (until : ℕ) (covers : from + length asked ≤ until)
    (clean : (i : ℕ) → slot * size + from ≤ i → i < slot * size + until → get_or old i 0 ≡ 0)
    {placed : List Placement} (only_own : NoForeignLog sum size (after_write old (slot * size + from) asked now) placed left)
    (H : History) (A : ℕ) (first : SnapshotModel) (reach : ℕ) (is : StandsTo sum size old H A first reach)
    (place : ℕ) (mark : ℤ) (begun : IsHeader sum (take 20 asked) (pos place) mark) (whole : place % size ≡ 0) (fits : place + size < 2 ^ 63)
    (its_mark : IsMarkOf H (record { place = place; slot = slot * size; mark = mark })) (mark_below : IsMarkBelow size H A mark)
    (alone : (s : Segment) → Contains is.ordering s → s.place ≢ place)
    (more : List ScannedRecord) (stop : ℕ) (why : ScanEnd) (clear : AreClear size until 20 more)
    (path : IsPath sum size (overwritten old (slot * size + from) asked) (slot * size) place 20 more stop)
    (end : IsEnd sum size (overwritten old (slot * size + from) asked) (slot * size) place stop why)
    (truth : (x : ScannedRecord) → Contains more x → IsOfHistory sum size (overwritten old (slot * size + from) asked) H x)
    (caps : NothingBehind size H place stop why) where
  same : IsSameBeside sum size old left (slot * size)
  same = same_beside sum size some old slot from asked now left inside no_more leaves only_own

  free : (lsn mark : ℤ) → IsHeader sum (part old (slot * size) 20) lsn mark → ⊥
  free = none_stood sum size old slot from asked now left inside no_more leaves until covers clean none begins place mark begun

  without : ((s : Segment) → IsFoundSegment sum size left (least_place size first) s → s.slot ≢ slot * size) → StandsTo sum size left H A first reach
  without missing = (stands_without sum size some old slot from asked now left inside no_more leaves same free H A first reach is missing).0

  header_of : (s : Segment) → IsFoundSegment sum size left (least_place size first) s → s.slot ≡ slot * size
      → IsHeader sum (part left (slot * size) 20) (pos s.place) s.mark
  header_of s found here = subst (λ n. IsHeader sum (part left n 20) (pos s.place) s.mark) here found.header

  pub torn_begun : StandsTo sum size left H A first reach
  unfolding IsScan
  torn_begun = elim (begun_or_none sum size old slot from asked now left inside no_more leaves until covers clean none begins place mark begun only_own) [
    | inl header ↦ elim (cases_lt place (least_place size first)) [
      | inl under ↦ without (λ s found here. (
          let one = one_header sum (part left (slot * size) 20) (pos s.place) s.mark (pos place) mark (header_of s found here) header in
          let low = found.not_below in
          omega (arith, low, under, pos_injective s.place place one.0)))
      | inr le ↦ (
          let w =
          meets_begun sum size old slot from asked now left inside no_more leaves until covers clean none begins place mark begun only_own header more stop why
          clear (path, end) in
          (stands_with sum size some old slot from asked now left inside no_more leaves same free H A first reach is place mark header le whole fits its_mark
          mark_below alone more stop why truth caps w).0)
    ]
    | inr no_header ↦ without (λ s found here. no_header (pos s.place) s.mark (header_of s found here))
  ]
