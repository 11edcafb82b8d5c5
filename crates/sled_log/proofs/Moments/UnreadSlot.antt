-- Zeros are written over a slot in which no segment below the cut lies: of what a crash leaves of that, the log file can be recovered up to the same cut, under a snapshot that has the cut for its place.
use Rattle.std.proofs.Common.{⊎_elim, ◌≡◌, ◌≢◌, ◌⊎◌, ◌∙◌, ◌+◌, ◌*◌, ◌/◌, ◌%◌, ◌<◌, ◌≤◌, ℕ, pos, Bool, true, false, cond, List, [], ◌∷◌, length, replicate, Option, refl, sym, subst, arith, inl, inr}
use Rattle.std.specs.List.{Contains, filter}
use Rattle.std.specs.Str.{bytes_eq}
use Rattle.std.proofs.lemmas.List.Elements.{Contains-append_left}
use Rattle.std.proofs.lemmas.Slice.Eq.{bytes_eq-Decides}
use Rattle.sled_codec.specs.History.{Message, History, table, CutFits}
use Rattle.sled_codec.specs.Places.{part}
use Rattle.sled_codec.specs.Record.{IsHeader}
use Rattle.sled_codec.specs.Snapshots.{SnapshotModel, stable_place}
use Rattle.sled_store.specs.Device.{LeavesLog, Placement}
use Rattle.sled_store.specs.Foreign.{NoForeignLog}
use Rattle.sled_store.specs.Readers.{at_start}
use Rattle.sled_store.proofs.Segments.Elements.{in_first, in_rest, in_cases, in_nothing, in_filter, from_filter}
use Rattle.sled_store.proofs.Segments.TableEntries.{from_table}
use Rattle.sled_core.specs.declared.iterator.Segment.{Segment}
use Rattle.sled_core.specs.declared.iterator.scan.ScannedRecord.{ScannedRecord}
use Rattle.sled_core.specs.declared.iterator.scan.ScanEnd.{ScanEnd}
use Rattle.sled_core.specs.declared.iterator.scan.ScanEnd.TheVariants.{Full, Capped, Broken}
use Rattle.sled_core.specs.Recoverable.{NoHeaderOfZeros}
use Rattle.sled_core.specs.inside.Recoverable.{StandsInline, IsSegmentOf, IsRecoverableLog}
use Rattle.sled_core.specs.inside.Scan.{IsFoundSegment}
use Rattle.sled_core.specs.Scan.{IsPath, IsEnd, EndsThere, IsScan}
use Rattle.sled_core.proofs.Torn.TornLemmas.{after_write}
use Rattle.sled_core.proofs.Torn.ZeroedSlots.{header_stood, stood, path_stood}
use Rattle.sled_core.proofs.Torn.ZeroedScans.{ReadsFirst, scan_left, scan_same, comes_on}
use Rattle.sled_log.specs.Recovery.{IsOrdering, Scanned, IsScanned, AreScanned}
use Rattle.sled_core.proofs.Tail.OneReading.{one_scan}
use Rattle.sled_core.proofs.Tail.OneTail.{Rises, rises_of, segment_there, reading_there}
use Rattle.sled_core.proofs.Tail.Rows.{row_ordered, row_whole, met_stand, stand_rises, stop_inside}
use Rattle.sled_log.proofs.Moments.BesideZeros.{beside, found_beside, needed_beside}
use Rattle.sled_log.proofs.Moments.FromCut.{EndsAtCut, IsOfCut, from_end, from_inside}
use Rattle.sled_core.proofs.Tail.SegmentsFrom.{ascends_of}
use Rattle.sled_core.proofs.Tail.Moved.{slot_index}
use Rattle.sled_log.proofs.Moments.ZeroedParts.{found_before, scan_truth}

-- of segments each of which begins below all later ones, those that are kept do so too
pub rises_kept : (p : Segment → Bool) (ss : List Segment) → Rises ss → Rises (filter p ss)
rises_kept p [] rises = tt
rises_kept p (s ∷ ss) rises = by (p s) (rises_kept p ss rises.1) where
  by : (b : Bool) → Rises (filter p ss) → Rises (cond b (s ∷ filter p ss) (filter p ss))
  by true rest = (λ t there. rises.0 t (from_filter p ss t there).0, rest)
  by false rest = rest

module _ (sum : List ℕ → ℕ) (size : ℕ) (old : List ℕ) (some : 256 ≤ size) (H : History) (A : ℕ) (cut : ℕ × Option ℕ) (o : IsOfCut sum size old H A cut) (at count : ℕ) (now left : List ℕ)
    (no_more : length now ≤ length (replicate {A = ℕ} count 0)) (leaves : LeavesLog (after_write old at (replicate count 0) now) left)
    {placed : List Placement} (only_own : NoForeignLog sum size (after_write old at (replicate count 0) now) placed left) (none : NoHeaderOfZeros sum) where
  -- A segment whose header stands is read again: what was met, or the beginning of it. Where the reading doesn't end for a record that is broken, all is as before.
  pub record IsReread (t y : Scanned) : Type 0 where
    pub segment : y.segment ≡ t.segment
    pub scan : IsScanned sum size left y
    pub met : (x : ScannedRecord) → Contains y.met x → Contains t.met x
    pub or_broken : (y ≡ t) ⊎ (y.why ≡ Broken)

  pub reread : (least : ℕ) (t : Scanned) → IsFoundSegment sum size left least t.segment → IsScanned sum size old t → (y : Scanned) × IsReread t y
  unfolding IsScan EndsThere
  reread least t found scan = (
    y,
    record {
      segment = refl;
      scan = y_scan;
      met = λ x there. subst (λ (l : List ScannedRecord). Contains l x) (sym reads.whole) (Contains-append_left reads.found reads.rest x there);
      or_broken = by reads.why refl reads.end;
    },
  ) where
    k : ℕ
    k = t.segment.slot / size

    here : t.segment.slot ≡ k * size
    here = slot_index size t.segment.slot found.slot

    header : IsHeader sum (part left (k * size) 20) (pos t.segment.place) t.segment.mark
    header = subst (λ n. IsHeader sum (part left n 20) (pos t.segment.place) t.segment.mark) here found.header

    reads : ReadsFirst sum size left (k * size) t.segment.place 20 at t.met
    reads = scan_left sum size old at count now left no_more leaves only_own k t.segment.place t.segment.mark header t.met t.stop t.why (subst (λ n. IsScan sum size old n t.segment.place t.met t.stop t.why) here scan)

    y : Scanned
    y = record { segment = t.segment; met = reads.found; stop = reads.stop; why = reads.why }

    y_scan : IsScanned sum size left y
    y_scan = subst (λ n. IsScan sum size left n t.segment.place reads.found reads.stop reads.why) (sym here) (reads.path, reads.end)

    old_path : IsPath sum size old (k * size) t.segment.place 20 reads.found reads.stop
    old_path = path_stood sum size old at count now left no_more leaves only_own k t.segment.place t.segment.mark header 20 reads.found reads.stop at_start reads.path

    same_as : IsEnd sum size old (k * size) t.segment.place reads.stop reads.why → y ≡ t
    same_as ended = one_scan sum size old y t refl (subst (λ n. IsScan sum size old n t.segment.place reads.found reads.stop reads.why) (sym here) (old_path, ended)) scan

    by : (why : ScanEnd) → reads.why ≡ why → IsEnd sum size left (k * size) t.segment.place reads.stop why → (y ≡ t) ⊎ (reads.why ≡ Broken)
    by Full test full = inl (same_as (subst (λ (w : ScanEnd). IsEnd sum size old (k * size) t.segment.place reads.stop w) (sym test) full))
    by Capped test (room, (h, body, len, s, is_cap)) =
        let comes = comes_on sum size old at count now left no_more leaves only_own k t.segment.place t.segment.mark header 20 reads.found reads.stop at_start reads.path in
        let before = stood sum size old at count now left no_more leaves only_own k t.segment.place t.segment.mark header reads.stop comes (omega (arith, room)) h body len s in
        inl (same_as (subst (λ (w : ScanEnd). IsEnd sum size old (k * size) t.segment.place reads.stop w) (sym test) (room, (h, body, len, before, is_cap))))
    by Broken test broken = inr test

  -- Those whose header stands.
  abbrev pub stands : Segment → Bool
  stands s = bytes_eq (part left s.slot 20) (part old s.slot 20)

  still_found : (least : ℕ) (s : Segment) → stands s ≡ true → IsFoundSegment sum size old least s → IsFoundSegment sum size left least s
  still_found least s test is =
      let alike : part left s.slot 20 ≡ part old s.slot 20 = (bytes_eq-Decides (part left s.slot 20) (part old s.slot 20)).0 test in
      record { slot = is.slot; header = subst (λ (l : List ℕ). IsHeader sum l (pos s.place) s.mark) (sym alike) is.header; not_below = is.not_below }

  does_stand : (least : ℕ) (s : Segment) → IsFoundSegment sum size left least s → stands s ≡ true
  does_stand least s is =
      let k : ℕ = s.slot / size in
      let here : s.slot ≡ k * size = slot_index size s.slot is.slot in
      let header = subst (λ n. IsHeader sum (part left n 20) (pos s.place) s.mark) here is.header in
      let alike = header_stood sum size old at count now left no_more leaves only_own none k (pos s.place) s.mark header in
      (bytes_eq-Decides (part left s.slot 20) (part old s.slot 20)).1 (subst (λ n. part left n 20 ≡ part old n 20) (sym here) (sym alike))

  abbrev pub begins : ℕ
  begins = cut.0 / size * size

  abbrev pub standing : List Segment
  standing = filter stands o.ordering

  numbers : IsOrdering sum size left begins standing
  numbers = record {
    ascending = ascends_of standing (rises_kept stands o.ordering (rises_of o.ordering o.numbers.ascending));
    found = λ s. (
      λ there. let from = from_filter stands o.ordering s there in still_found begins s from.1 ((o.numbers.found s).0 from.0),
      λ found. in_filter stands o.ordering s ((o.numbers.found s).1 (found_before sum size old at count now left no_more leaves only_own none begins s found)) (does_stand begins s found),
    );
    placed = λ s there. o.numbers.placed s (from_filter stands o.ordering s there).0;
  }

  -- What is met in them.
  abbrev pub IsRead : List Segment → List Scanned → Type 0
  IsRead ss xs = (ys : List Scanned) × AreScanned sum size left (filter stands ss) ys × ((y : Scanned) → Contains ys y → (t : Scanned) × Contains xs t × IsReread t y)

  read_again : (ss : List Segment) (xs : List Scanned) → ((s : Segment) → Contains ss s → Contains o.ordering s) → AreScanned sum size old ss xs → IsRead ss xs
  read_again [] [] within are = ([], tt, λ y there. absurd (in_nothing y there))
  read_again [] (x ∷ xs) within are = absurd are
  read_again (s ∷ ss) [] within are = absurd are
  read_again (s ∷ ss) (x ∷ xs) within are = by (stands s) refl (read_again ss xs (λ t there. within t (in_rest s t ss there)) are.2) where
    Read : List Segment → Type 0
    Read l = (ys : List Scanned) × AreScanned sum size left l ys × ((y : Scanned) → Contains ys y → (t : Scanned) × Contains (x ∷ xs) t × IsReread t y)

    by : (b : Bool) → stands s ≡ b → IsRead ss xs → Read (cond b (s ∷ filter stands ss) (filter stands ss))
    by true test rest =
        let found = still_found begins s test ((o.numbers.found s).0 (within s (in_first s ss))) in
        let again = reread begins x (subst (IsFoundSegment sum size left begins) (sym are.0) found) are.1 in (
          again.0 ∷ rest.0,
          (again.1.segment ∙ are.0, again.1.scan, rest.1),
          λ y there. ⊎_elim
              (λ same. (x, in_first x xs, subst (IsReread x) same again.1))
              (λ later. let from = rest.2 y later in (from.0, in_rest x from.0 xs from.1, from.2))
              (in_cases again.0 y rest.0 there),
        )
    by false test rest = (rest.0, rest.1, λ y there. let from = rest.2 y there in (from.0, in_rest x from.0 xs from.1, from.2))

  pub read : IsRead o.ordering o.scanned
  read = read_again o.ordering o.scanned (λ s there. there) o.reads

  -- So all is as it has to be, but for what a table needs.
  module _ (needed : (page : ℕ) (m : Message) → Contains (table H cut.0 page) m → IsSegmentOf sum size left H cut.0 m × StandsInline sum size left m m.pointer) where
    pub left_of_cut : IsOfCut sum size left H A cut
    left_of_cut = record {
      ordering = standing;
      numbers = numbers;
      scanned = read.0;
      reads = read.1;
      marks = λ s there. o.marks s (from_filter stands o.ordering s there).0;
      truth = λ y x there met.
          let from = read.2 y there in
          let found = (numbers.found y.segment).0 (segment_there sum size left standing read.0 read.1 y there).0 in
          scan_truth sum size old at count now left no_more leaves only_own none H begins y found from.2.scan (λ u at_u. o.truth from.0 u from.1 (from.2.met u at_u)) x met;
      caps = λ y there.
          let from = read.2 y there in
          ⊎_elim
          (λ same. o.caps y (subst (Contains o.scanned) (sym same) from.1))
          (λ broken. (
            (λ capped. let no : Broken ≡ Capped = sym broken ∙ capped in cc),
            (λ goes. absurd (goes broken)),
          ))
          from.2.or_broken;
      passes = o.passes;
      marks_below = λ s there. o.marks_below s (from_filter stands o.ordering s there).0;
      placed = o.placed;
      batched = o.batched;
      needed = needed;
    }

  -- The zeros lie in one slot, in which no segment lies that begins below the cut.
  module _ (fits : CutFits H cut.0) (slot : ℕ) (slot_at : slot % size ≡ 0) (begin : slot ≤ at) (end : at + count ≤ slot + size) (free : (s : Segment) → IsFoundSegment sum size old 0 s → s.slot ≡ slot → cut.0 ≤ s.place) where
    needed_left : (page : ℕ) (m : Message) → Contains (table H cut.0 page) m → IsSegmentOf sum size left H cut.0 m × StandsInline sum size left m m.pointer
    needed_left page m there = needed_beside sum size old some at count now left no_more leaves slot slot_at begin end H cut.0 free m (from_table H cut.0 page m there).2 (o.needed page m there)

    -- all that is left from the segment of the cut on
    pub left_whole : IsOfCut sum size left H A cut
    left_whole = left_of_cut needed_left

    -- Where the reading of the segment of the cut ends at the cut, it still does.
    pub ends_left : (z : Scanned) → EndsAtCut sum size old some o.scanned cut z → EndsAtCut sum size left some left_whole.scanned cut z
    unfolding left_of_cut left_whole
    ends_left z ends = record {
      there = reading_there sum size left standing read.0 read.1 z (in_filter stands o.ordering z.segment known.0 (does_stand begins z.segment found)) scan;
      place = ends.place;
      slot = ends.slot;
      stop = ends.stop;
      broken = ends.broken;
    } where
      known : Contains o.ordering z.segment × IsScanned sum size old z
      known = segment_there sum size old o.ordering o.scanned o.reads z ends.there

      found_old : IsFoundSegment sum size old begins z.segment
      found_old = (o.numbers.found z.segment).0 known.0

      low : z.stop ≤ size
      low = stop_inside sum size old some z (row_whole sum size old some o.scanned (row_ordered sum size old some begins o.ordering o.scanned o.numbers o.reads) z ends.there)

      under : z.segment.place < cut.0
      under =
          let its = row_whole sum size old some o.scanned (row_ordered sum size old some begins o.ordering o.scanned o.numbers o.reads) z ends.there in
          let long = stand_rises (z.segment.place + 20) z.met (z.segment.place + z.stop) (met_stand sum size old some z its) in
          let stop = ends.stop in
          omega (arith, long, stop)

      other : z.segment.slot ≢ slot
      other same = let above = free z.segment (record { slot = found_old.slot; header = found_old.header; not_below = omega arith }) same in let lower = under in omega (arith, above, lower)

      found : IsFoundSegment sum size left begins z.segment
      found = found_beside sum size old some at count now left no_more leaves slot slot_at begin end begins z.segment other found_old

      k : ℕ
      k = z.segment.slot / size

      here : z.segment.slot ≡ k * size
      here = slot_index size z.segment.slot found_old.slot

      scan : IsScanned sum size left z
      scan =
          let header = subst (λ n. IsHeader sum (part left n 20) (pos z.segment.place) z.segment.mark) here found.header in
          let apart_here = subst (λ n. (n + size ≤ at) ⊎ (at + count ≤ n)) here (beside sum size old some at count now left no_more leaves slot slot_at begin end z.segment.slot found_old.slot other) in
          let before = subst (λ n. IsScan sum size old n z.segment.place z.met z.stop z.why) here known.1 in
          let after = scan_same sum size old at count now left no_more leaves only_own k z.segment.place z.segment.mark header apart_here z.met z.stop z.why low before in
          subst (λ n. IsScan sum size left n z.segment.place z.met z.stop z.why) (sym here) after

    module _ (first : SnapshotModel) (place : stable_place first.stable ≡ cut.0) where
      -- The cut is the end of a segment, and no segment begins there.
      pub unread_end : first.active ≡ cut.1 → cut.0 % size ≡ 0 → ((s : Segment) → Contains o.ordering s → s.place ≡ cut.0 → ⊥) → IsRecoverableLog sum size left H A first cut
      unfolding left_of_cut left_whole
      unread_end active aligned nothing = from_end sum size left some H A cut left_whole first place active aligned (λ s there. nothing s (from_filter stands o.ordering s there).0)

      -- The reading of the segment of the cut ends at the cut.
      pub unread_inside : (z : Scanned) → EndsAtCut sum size old some o.scanned cut z → IsRecoverableLog sum size left H A first cut
      unread_inside z ends = from_inside sum size left some H A cut left_whole first place fits z (ends_left z ends)
