-- The log file with zeros from the cut to the end of its slot, all of them written and synced: it can be recovered up to the same cut, and the reading of the segment of the cut ends there.
use Rattle.std.proofs.Common.{⊎_elim, ◌≡◌, ◌≢◌, ◌⊎◌, ◌∙◌, ◌+◌, ◌/◌, ◌%◌, ◌<◌, ◌≤◌, ℕ, pos, List, [], ◌∷◌, ◌++◌, length, drop, replicate, get_or, Option, Some, refl, sym, ap, subst, arith, inl, inr}
use Rattle.std.specs.List.{Contains}
use Rattle.std.proofs.lemmas.Bool.{cases_eq}
use Rattle.std.proofs.lemmas.List.{length-replicate, get_or-replicate, get_or-take, get_or-drop}
use Rattle.std.proofs.lemmas.List.Elements.{Contains-append_left, Contains-append_cases}
use Rattle.sled_codec.specs.History.{Message, History, table, CutFits}
use Rattle.sled_codec.specs.Places.{part}
use Rattle.sled_codec.specs.Record.{IsHeader}
use Rattle.sled_codec.specs.Snapshots.{SnapshotModel}
use Rattle.sled_store.specs.Device.{LeavesLog, overwritten}
use Rattle.sled_store.proofs.LogFile.OverwrittenLemmas.{overwritten-part}
use Rattle.sled_store.proofs.Segments.Elements.{in_cases, in_nothing}
use Rattle.sled_core.specs.declared.iterator.Segment.{Segment}
use Rattle.sled_core.specs.declared.iterator.scan.ScannedRecord.{ScannedRecord}
use Rattle.sled_core.specs.declared.iterator.scan.ScanEnd.{ScanEnd}
use Rattle.sled_core.specs.declared.iterator.scan.ScanEnd.TheVariants.{Broken}
use Rattle.sled_core.specs.inside.Recoverable.{StandsInline, IsOfHistory, IsSegmentOf, IsRecoverableLog}
use Rattle.sled_core.specs.inside.Scan.{IsFoundSegment}
use Rattle.sled_core.specs.Scan.{IsPath, IsEnd, EndsThere, IsScan}
use Rattle.sled_core.proofs.Read.FoundLemmas.{found_there}
use Rattle.sled_core.proofs.Read.PathLemmas.{zeros_empty}
use Rattle.sled_core.proofs.Torn.TornLemmas.{after_write}
use Rattle.sled_log.specs.Recovery.{IsOrdering, Scanned, IsScanned, tail_end, least_place}
use Rattle.sled_core.proofs.Tail.OneReading.{path_begins}
use Rattle.sled_core.proofs.Tail.OneTail.{segment_there}
use Rattle.sled_log.proofs.Recovers.PassCut.{whole}
use Rattle.sled_core.proofs.Tail.Rows.{stand_in, path_stands, stop_inside}
use Rattle.sled_log.proofs.Moments.CutSegment.{IsCutSegment}
use Rattle.sled_log.proofs.Moments.PassStops.{StopsHere}
use Rattle.sled_log.proofs.Moments.FromCut.{EndsAtCut}
use Rattle.sled_log.proofs.Moments.ShortCut.{IsShort, short_kept, y_kept}
use Rattle.sled_log.proofs.Moments.ZeroedCut.{z_found, z_scan, slot_at, parts, needed_left}
use Rattle.sled_core.proofs.Tail.Moved.{one_in_slot}
use Rattle.sled_log.proofs.Moments.ZeroedParts.{header_apart, found_stays}
use Rattle.sled_log.proofs.Moments.ZerosStand.{leaves_new, no_more_than, bytes_same, slot_beside, lay_before, end_same_there, path_there, truth_there}

-- The records of a path before one of them are a path to it.
pub path_until : (sum : List ℕ → ℕ) (size : ℕ) (log : List ℕ) (slot place at : ℕ) (ms : List ScannedRecord) (next : ℕ) → IsPath sum size log slot place at ms next → (x : ScannedRecord) → Contains ms x
    → (before : List ScannedRecord) × (o : ℕ) × IsPath sum size log slot place at before o × (x.place ≡ place + o)
path_until sum size log slot place at [] next path x there = absurd (in_nothing x there)
path_until sum size log slot place at (m ∷ ms) next path x there = ⊎_elim
    (λ same. ([], at, refl, sym (ap (λ (y : ScannedRecord). y.place) same) ∙ path.1))
    (λ later. let rest = path_until sum size log slot place (at + m.len) ms next path.3 x later in (m ∷ rest.0, rest.1, (path.0, path.1, path.2, rest.2), rest.3))
    (in_cases m x ms there)

module _ (sum : List ℕ → ℕ) (size : ℕ) (old : List ℕ) (some : 256 ≤ size) (H : History) (A : ℕ) (first : SnapshotModel) (cut : ℕ × Option ℕ) (is : IsRecoverableLog sum size old H A first cut) (fits : CutFits H cut.0)
    (slot : ℕ) (has_slot : cut.1 ≡ Some slot) (end : ℕ) (z : Scanned) (ends : tail_end is.tail ≡ Some end) (its : IsCutSegment sum size old some H A first cut is slot end z)
    (at count : ℕ) (from_cut : at ≡ slot + cut.0 % size) (to_end : at + count ≡ slot + size) where
  abbrev zeros : List ℕ
  zeros = replicate count 0

  abbrev pub new : List ℕ
  new = overwritten old at zeros

  abbrev least : ℕ
  least = least_place size first

  behind_header : slot + 20 ≤ at
  behind_header = let low = (parts sum size old some H A first cut is fits slot has_slot end z ends its).1 in omega (arith, from_cut, low)

  aligned : slot % size ≡ 0
  aligned = slot_at sum size old some H A first cut is fits slot has_slot end z ends its

  found_z : IsFoundSegment sum size old least z.segment
  found_z = z_found sum size old some H A first cut is fits slot has_slot end z ends its

  long : length zeros ≡ count
  long = length-replicate count 0

  old_slot : slot + 20 ≤ length old
  old_slot = let there = found_there sum size old least z.segment found_z in omega (arith, there, its.slot_is)

  start : slot ≤ at
  start = let low = behind_header in omega (arith, low)

  reach : slot ≤ length old
  reach = let there = old_slot in omega (arith, there)

  no_more : length zeros ≤ length zeros
  no_more = no_more_than sum size old some H at count slot aligned start to_end reach

  -- it is among what a crash may leave of the write
  leaves : LeavesLog (after_write old at zeros zeros) new
  leaves = leaves_new sum size old some H at count slot aligned start to_end reach

  same_part : (lid n : ℕ) → lid + n ≤ length old → (lid + n ≤ at) ⊎ (at + count ≤ lid) → part new lid n ≡ part old lid n
  same_part = bytes_same sum size old some H at count slot aligned start to_end reach

  beside : (a : ℕ) → a % size ≡ 0 → a ≢ slot → (a + size ≤ at) ⊎ (at + count ≤ a)
  beside = slot_beside sum size old some H at count slot aligned start to_end reach

  -- what lies in another slot lay in the file before
  in_old : (a o : ℕ) → a % size ≡ 0 → a ≢ slot → 0 < o → o ≤ size → a + o ≤ length new → a + o ≤ length old
  in_old = lay_before sum size old some H at count slot aligned start to_end reach

  -- Headers.

  pub found_new : (low : ℕ) (s : Segment) → IsFoundSegment sum size new low s → IsFoundSegment sum size old low s
  found_new low s found =
      let there = found_there sum size new low s found in
      let before : s.slot + 20 ≤ length old = elim (cases_eq s.slot slot) [
        | inl same ↦ (let there_old = old_slot in omega (arith, there_old, same))
        | inr other ↦ in_old s.slot 20 found.slot other (omega arith) (omega (arith, some)) there
      ] in
      let apart_here = header_apart sum size old at count zeros new no_more leaves some slot aligned behind_header (omega (arith, to_end)) s.slot found.slot in
      let alike = same_part s.slot 20 before apart_here in
      record { slot = found.slot; header = subst (λ (l : List ℕ). IsHeader sum l (pos s.place) s.mark) alike found.header; not_below = found.not_below }

  numbers : IsOrdering sum size new least is.ordering
  numbers = record {
    ascending = is.numbers.ascending;
    found = λ s. (
      λ there. found_stays sum size old at count zeros new no_more leaves some slot aligned behind_header (omega (arith, to_end)) least s ((is.numbers.found s).0 there),
      λ found. (is.numbers.found s).1 (found_new least s found),
    );
    placed = is.numbers.placed;
  }

  -- Other slots.

  end_new : (a place : ℕ) → a % size ≡ 0 → a ≢ slot → (o : ℕ) → (why : ScanEnd) → IsEnd sum size old a place o why → IsEnd sum size new a place o why
  end_new = end_same_there sum size old some H at count slot aligned start to_end reach

  not_here : (t : Scanned) → Contains is.scanned t → t.segment.place ≢ z.segment.place → t.segment.slot ≢ slot
  not_here t there other same =
      let found = (is.numbers.found t.segment).0 (segment_there sum size old is.ordering is.scanned is.reads t there).0 in
      other (one_in_slot sum size old least least t.segment z.segment found found_z (same ∙ sym its.slot_is))

  path_new : (a place : ℕ) → a % size ≡ 0 → (from : ℕ) (ms : List ScannedRecord) (next : ℕ) → (a + next ≤ at) ⊎ (at + count ≤ a) → IsPath sum size old a place from ms next → IsPath sum size new a place from ms next
  path_new = path_there sum size old some H at count slot aligned start to_end reach

  stop_apart : (t : Scanned) → Contains is.scanned t → t.segment.place ≢ z.segment.place → (t.segment.slot + t.stop ≤ at) ⊎ (at + count ≤ t.segment.slot)
  stop_apart t there other =
      let its_whole = whole sum size old some H A first cut is t there in
      let inside = stop_inside sum size old some t its_whole in
      ⊎_elim (λ before. inl (omega (arith, before, inside))) (λ past. inr past) (beside t.segment.slot its_whole.2 (not_here t there other))

  others : (t : Scanned) → Contains is.scanned t → t.segment.place ≢ z.segment.place → IsScanned sum size new t
  unfolding IsScan
  others t there other =
      let its_whole = whole sum size old some H A first cut is t there in (
        path_new t.segment.slot t.segment.place its_whole.2 20 t.met t.stop (stop_apart t there other) its_whole.0.0,
        end_new t.segment.slot t.segment.place its_whole.2 (not_here t there other) t.stop t.why its_whole.0.1,
      )

  -- What is met is of the history.
  truth_new : (a place : ℕ) (from : ℕ) (ms : List ScannedRecord) (next : ℕ) → (a + next ≤ at) ⊎ (at + count ≤ a) → IsPath sum size old a place from ms next → IsPath sum size new a place from ms next
      → ((x : ScannedRecord) → Contains ms x → IsOfHistory sum size old H x) → (x : ScannedRecord) → Contains ms x → IsOfHistory sum size new H x
  truth_new = truth_there sum size old some H at count slot aligned start to_end reach

  other_truth : (t : Scanned) (x : ScannedRecord) → Contains is.scanned t → t.segment.place ≢ z.segment.place → Contains t.met x → IsOfHistory sum size new H x
  unfolding IsScan
  other_truth t x there other met =
      let its_whole = whole sum size old some H A first cut is t there in
      truth_new t.segment.slot t.segment.place 20 t.met t.stop (stop_apart t there other) its_whole.0.0 (others t there other).0 (λ y at_y. is.truth t y there at_y) x met

  -- The segment of the cut, up to the cut.

  abbrev offset : ℕ
  offset = cut.0 % size

  place_cut : z.segment.place + offset ≡ cut.0
  place_cut = (parts sum size old some H A first cut is fits slot has_slot end z ends its).0

  at_cut : z.segment.slot + offset ≡ at
  at_cut = omega (arith, its.slot_is, from_cut)

  old_scan : IsScanned sum size old z
  old_scan = z_scan sum size old some H A first cut is fits slot has_slot end z ends its

  pub before : (ms : List ScannedRecord) × IsPath sum size old z.segment.slot z.segment.place 20 ms offset
  unfolding IsScan
  before = by its.stops where
    by : StopsHere end cut.0 z → (ms : List ScannedRecord) × IsPath sum size old z.segment.slot z.segment.place 20 ms offset
    by (inl (x, met, place, opened)) =
        let found = path_until sum size old z.segment.slot z.segment.place 20 z.met z.stop old_scan.0 x met in
        let here : found.1 ≡ offset = omega (arith, found.3, place, place_cut) in
        (found.0, subst (IsPath sum size old z.segment.slot z.segment.place 20 found.0) here found.2)
    by (inr at_end) =
        let here : z.stop ≡ offset = omega (arith, at_end, place_cut) in
        (z.met, subst (IsPath sum size old z.segment.slot z.segment.place 20 z.met) here old_scan.0)

  abbrev pub y : Scanned
  y = record { segment = z.segment; met = before.0; stop = offset; why = Broken }

  y_apart : (z.segment.slot + offset ≤ at) ⊎ (at + count ≤ z.segment.slot)
  y_apart = inl (omega (arith, at_cut))

  y_path : IsPath sum size new z.segment.slot z.segment.place 20 before.0 offset
  y_path = path_new z.segment.slot z.segment.place found_z.slot 20 before.0 offset y_apart before.1

  room : offset + 32 ≤ size
  room = let fit = its.room in omega (arith, fit, place_cut)

  zero_kind : get_or new (z.segment.slot + offset + 4) 0 ≡ 0
  zero_kind =
      let five : 4 < count = let fit = room in omega (arith, fit, to_end, from_cut) in
      let laid = overwritten-part old at zeros in
      ap (λ n. get_or new (n + 4) 0) at_cut
      ∙ sym (get_or-drop at new 4 0) ∙ sym (get_or-take (length zeros) (drop at new) 4 0 (omega (arith, five, long)))
      ∙ ap (λ (l : List ℕ). get_or l 4 0) laid ∙ get_or-replicate count 4 0 0 five

  y_scan : IsScanned sum size new y
  unfolding IsScan EndsThere
  y_scan = (y_path, (room, zeros_empty sum size new (z.segment.slot + offset) (z.segment.place / size) zero_kind))

  -- they are the first ones of what was met
  split : (rest : List ScannedRecord) × (z.met ≡ before.0 ++ rest) × IsPath sum size old z.segment.slot z.segment.place offset rest z.stop
  unfolding IsScan
  split = path_begins sum size old z.segment.slot z.segment.place 20 before.0 offset z.met z.stop z.why before.1 old_scan.0 old_scan.1

  own_truth : (x : ScannedRecord) → Contains before.0 x → IsOfHistory sum size new H x
  own_truth x met =
      truth_new z.segment.slot z.segment.place 20 before.0 offset y_apart before.1 y_path
      (λ u at_u. is.truth z u its.there (subst (λ (l : List ScannedRecord). Contains l u) (sym split.1) (Contains-append_left before.0 split.0 u at_u))) x met

  abbrev needed : (page : ℕ) (m : Message) → Contains (table H cut.0 page) m → IsSegmentOf sum size new H cut.0 m × StandsInline sum size new m m.pointer
  needed = needed_left sum size old some H A first cut is fits slot has_slot end z ends its at count from_cut (omega (arith, to_end)) zeros new no_more leaves

  cut_short : IsShort sum size old new some H A first cut is numbers needed z y
  cut_short = record {
    scan = y_scan;
    segment = refl;
    broken = refl;
    reaches = omega (arith, place_cut);
    within = let read = its.read in omega (arith, place_cut, read);
    has = λ x met under. ⊎_elim
        (λ own. own)
        (λ later.
        let above = stand_in (z.segment.place + offset) split.0 (z.segment.place + z.stop) (path_stands sum size old z.segment.slot z.segment.place offset split.0 z.stop split.2) x later in
        absurd (omega (arith, above.0, under)))
        (Contains-append_cases before.0 split.0 x (subst (λ (l : List ScannedRecord). Contains l x) split.1 met));
  }

  pub zeros_written : IsRecoverableLog sum size new H A first cut
  zeros_written = short_kept sum size old new some H A first cut is numbers needed fits slot has_slot end z y ends its cut_short others own_truth other_truth

  -- The reading of the segment of the cut ends at the cut, so that a snapshot can be published.
  pub ends_at_cut : EndsAtCut sum size new some zeros_written.scanned cut y
  unfolding zeros_written
  ends_at_cut = record {
    there = y_kept sum size old new some H A first cut is numbers needed fits slot has_slot end z y ends its cut_short others own_truth other_truth;
    place = its.place;
    slot = has_slot ∙ ap Some (sym its.slot_is);
    stop = place_cut;
    broken = refl;
  }
