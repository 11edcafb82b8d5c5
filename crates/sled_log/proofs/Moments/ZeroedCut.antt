-- Zeros are written from the cut to the end of its slot: of what a crash leaves of that, the log file can be recovered up to the same cut.
use Rattle.std.proofs.Common.{⊎_elim, ◌≡◌, ◌≢◌, ◌⊎◌, ◌∙◌, ◌+◌, ◌*◌, ◌/◌, ◌%◌, ◌<◌, ◌≤◌, ℕ, pos, List, [], ◌∷◌, ◌++◌, length, replicate, Option, Some, refl, sym, ap, subst, arith, inl, inr}
use Rattle.std.specs.List.{Contains}
use Rattle.std.proofs.lemmas.Bool.{cases_eq, cases_lt}
use Rattle.std.proofs.lemmas.List.Elements.{Contains-append_left, Contains-append_right, Contains-append_cases}
use Rattle.sled_codec.specs.declared.result.DiskPtr.{DiskPtr}
use Rattle.sled_codec.specs.declared.result.DiskPtr.TheVariants.{Inline, Blob}
use Rattle.sled_codec.specs.History.{Message, History, table, CutFits}
use Rattle.sled_codec.specs.Places.{part}
use Rattle.sled_codec.specs.Pointers.{lid_of}
use Rattle.sled_codec.specs.Record.{IsHeader}
use Rattle.sled_codec.specs.Snapshots.{SnapshotModel}
use Rattle.sled_store.specs.Device.{LeavesLog, Placement}
use Rattle.sled_store.specs.Foreign.{NoForeignLog}
use Rattle.sled_store.specs.Readers.{at_start}
use Rattle.sled_store.proofs.Segments.Elements.{in_first, in_cases, in_nothing}
use Rattle.sled_store.proofs.Segments.TableEntries.{from_table}
use Rattle.sled_core.specs.declared.iterator.Segment.{Segment}
use Rattle.sled_core.specs.declared.iterator.scan.ScannedRecord.{ScannedRecord}
use Rattle.sled_core.specs.declared.iterator.scan.ScanEnd.{ScanEnd}
use Rattle.sled_core.specs.declared.iterator.scan.ScanEnd.TheVariants.{Full, Capped, Broken}
use Rattle.sled_core.specs.Recoverable.{NoHeaderOfZeros}
use Rattle.sled_core.specs.inside.Recoverable.{StandsInline, IsOfHistory, IsReachedIn, IsReadOn, IsSegmentOf, IsRecoverableLog}
use Rattle.sled_core.specs.inside.Scan.{IsFoundSegment}
use Rattle.sled_core.specs.Scan.{IsPath, IsEnd, EndsThere, IsScan}
use Rattle.sled_core.proofs.Read.ScanLemmas.{met_fits, aligned_offset}
use Rattle.sled_core.proofs.Reached.KeptStands.{read_on_kept}
use Rattle.sled_core.proofs.Torn.TornLemmas.{after_write}
use Rattle.sled_core.proofs.Torn.ZeroedSlots.{grows, kept, stood, path_stood, path_stays}
use Rattle.sled_core.proofs.Torn.ZeroedScans.{ReadsFirst, scan_left, comes_on}
use Rattle.sled_log.specs.Recovery.{IsOrdering, Scanned, IsScanned, tail_end, least_place}
use Rattle.sled_core.proofs.Tail.OneReading.{path_begins, one_scan}
use Rattle.sled_core.proofs.Tail.OneTail.{segment_there}
use Rattle.sled_core.proofs.Tail.Multiples.{put_down}
use Rattle.sled_log.proofs.Recovers.PassCut.{whole, one_reading}
use Rattle.sled_core.proofs.Tail.Rows.{Stand, stand_in, stand_rises, path_stands, met_stand, stop_inside}
use Rattle.sled_log.proofs.Moments.CutSegment.{IsCutSegment}
use Rattle.sled_log.proofs.Moments.PassStops.{StopsHere}
use Rattle.sled_log.proofs.Moments.ShortCut.{IsShort, all_kept, short_kept}
use Rattle.sled_core.proofs.Tail.Moved.{slot_index, message_moved, one_in_slot}
use Rattle.sled_log.proofs.Moments.ZeroedParts.{scan_truth, other_slot, found_stays, ordering_stays, other_scan}

-- what follows the same beginning is the same
same_rest : {X : Type 0} (xs ys zs : List X) → xs ++ ys ≡ xs ++ zs → ys ≡ zs
same_rest [] ys zs same = same
same_rest (x ∷ xs) ys zs same = same_rest xs ys zs cc

-- of records one behind another the lower one ends where the other begins, or below that
stand_order : (from : ℕ) (ms : List ScannedRecord) (to : ℕ) → Stand from ms to → (a b : ScannedRecord) → Contains ms a → Contains ms b → a.place < b.place → a.place + a.len ≤ b.place
stand_order from [] to stand a b at_a at_b lower = absurd (in_nothing a at_a)
stand_order from (m ∷ ms) to stand a b at_a at_b lower = by (in_cases m a ms at_a) (in_cases m b ms at_b) (stand_order (m.place + m.len) ms to stand.2 a b) where
  by : (m ≡ a) ⊎ Contains ms a → (m ≡ b) ⊎ Contains ms b → (Contains ms a → Contains ms b → a.place < b.place → a.place + a.len ≤ b.place) → a.place + a.len ≤ b.place
  by (inl first) (inl also) rest = absurd (omega (arith, lower, ap (λ (x : ScannedRecord). x.place) first, ap (λ (x : ScannedRecord). x.place) also))
  by (inl first) (inr later) rest = let above = stand_in (m.place + m.len) ms to stand.2 b later in omega (arith, above.0, ap (λ (x : ScannedRecord). x.place + x.len) first)
  by (inr later) (inl first) rest = let above = stand_in (m.place + m.len) ms to stand.2 a later in absurd (omega (arith, above.0, lower, ap (λ (x : ScannedRecord). x.place) first))
  by (inr one) (inr other) rest = rest one other lower

module _ (sum : List ℕ → ℕ) (size : ℕ) (old : List ℕ) (some : 256 ≤ size) (H : History) (A : ℕ) (first : SnapshotModel) (cut : ℕ × Option ℕ) (is : IsRecoverableLog sum size old H A first cut) (fits : CutFits H cut.0)
    (slot : ℕ) (has_slot : cut.1 ≡ Some slot) (end : ℕ) (z : Scanned) (ends : tail_end is.tail ≡ Some end) (its : IsCutSegment sum size old some H A first cut is slot end z) where
  abbrev least : ℕ
  least = least_place size first

  pub z_found : IsFoundSegment sum size old least z.segment
  z_found = (is.numbers.found z.segment).0 (segment_there sum size old is.ordering is.scanned is.reads z its.there).0

  pub z_scan : IsScanned sum size old z
  z_scan = (segment_there sum size old is.ordering is.scanned is.reads z its.there).1

  pub slot_at : slot % size ≡ 0
  slot_at = subst (λ n. n % size ≡ 0) its.slot_is z_found.slot

  -- the cut lies behind the header of its segment
  pub parts : (z.segment.place + cut.0 % size ≡ cut.0) × (20 ≤ cut.0 % size)
  parts = let low = its.low in let place = its.place in let down = put_down size cut.0 in (omega (arith, down.0, place), omega (arith, down.0, place, low))

  -- each record below the cut ends there or below it
  boundary : (m : ScannedRecord) → Contains z.met m → m.place < cut.0 → m.place + m.len ≤ cut.0
  boundary m met under = by its.stops where
    stand : Stand (z.segment.place + 20) z.met (z.segment.place + z.stop)
    stand = met_stand sum size old some z (whole sum size old some H A first cut is z its.there)

    by : StopsHere end cut.0 z → m.place + m.len ≤ cut.0
    by (inl (x, there, place, opened)) = let far = stand_order (z.segment.place + 20) z.met (z.segment.place + z.stop) stand m x met there (omega (arith, under, place)) in omega (arith, far, place)
    by (inr at_end) = let within = stand_in (z.segment.place + 20) z.met (z.segment.place + z.stop) stand m met in omega (arith, within.2, at_end)

  module _ (at count : ℕ) (from_cut : at ≡ slot + cut.0 % size) (to_end : at + count ≤ slot + size) (now left : List ℕ) (no_more : length now ≤ length (replicate {A = ℕ} count 0)) (leaves : LeavesLog (after_write old at (replicate count 0) now) left) where
    begins : slot + 20 ≤ at
    begins = omega (arith, from_cut, parts.1)

    -- What lies below the cut.

    record_apart : (s : Segment) → IsFoundSegment sum size old 0 s → (o len : ℕ) → o + len ≤ size → s.place + o + len ≤ cut.0 → (s.slot + o + len ≤ at) ⊎ (at + count ≤ s.slot)
    record_apart s found o len inside below = elim (cases_eq s.slot slot) [
      | inl same ↦ (
          let places = one_in_slot sum size old 0 least s z.segment found z_found (same ∙ sym its.slot_is) in
          inl (omega (arith, same, places, below, parts.0, from_cut)))
      | inr other ↦ ⊎_elim (λ before. inl (omega (arith, before, inside))) (λ past. inr past)
          (other_slot sum size old at count now left no_more leaves some slot slot_at begins to_end s.slot found.slot other)
    ]

    -- the record of a message that is reached lies apart from the zeros
    reached_apart : (s : Segment) → IsFoundSegment sum size old 0 s → (n : Message) → Contains H.messages n → n.place < cut.0 → (r : IsReachedIn sum size old s n) → (s.slot + r.at + n.size ≤ at) ⊎ (at + count ≤ s.slot)
    reached_apart s found n known under r =
        let room = r.room in
        let in_slot = (met_fits sum size old (s.slot + r.at) (s.place / size) r.met r.is_met).1 in
        let offset = aligned_offset s.slot r.at size found.slot (omega (arith, room)) in
        let long = r.meets.len in
        let place = r.place in
        let ended = fits.messages n known under in
        record_apart s found r.at n.size (omega (arith, in_slot, offset, long)) (omega (arith, place, ended))

    reached_left : (s : Segment) → IsFoundSegment sum size old 0 s → (n : Message) → Contains H.messages n → n.place < cut.0 → IsReachedIn sum size old s n → IsReachedIn sum size left s n
    reached_left s found n known under r =
        let beside = reached_apart s found n known under r in
        let long = r.meets.len in
        let before : (s.slot + r.at ≤ at) ⊎ (at + count ≤ s.slot) = ⊎_elim (λ low. inl (omega (arith, low))) (λ past. inr past) beside in
        let behind : (s.slot + (r.at + r.met.len) ≤ at) ⊎ (at + count ≤ s.slot) = ⊎_elim (λ low. inl (omega (arith, low, long))) (λ past. inr past) beside in
        let one : IsPath sum size old s.slot s.place r.at (r.met ∷ []) (r.at + r.met.len) = (r.room, r.meets.place ∙ r.place, r.is_met, refl) in
        record {
          before = r.before;
          at = r.at;
          path = path_stays sum size old at count now left no_more leaves s.slot s.place found.slot 20 r.before r.at before r.path;
          room = r.room;
          place = r.place;
          lid = r.lid;
          met = r.met;
          is_met = (path_stays sum size old at count now left no_more leaves s.slot s.place found.slot r.at (r.met ∷ []) (r.at + r.met.len) behind one).2;
          meets = r.meets;
        }

    -- a segment that ends below the cut lies in another slot, and is read to its end as before
    reads_on : (s : Segment) → IsFoundSegment sum size old 0 s → s.place + size ≤ cut.0 → IsReadOn sum size old H s → IsReadOn sum size left H s
    reads_on s found under on =
        let inside : cut.0 % size < size = omega (arith, some) in
        let other : s.slot ≢ slot = λ same. (let places = one_in_slot sum size old 0 least s z.segment found z_found (same ∙ sym its.slot_is) in omega (arith, places, under, parts.0, inside)) in
        let beside = other_slot sum size old at count now left no_more leaves some slot slot_at begins to_end s.slot found.slot other in
        read_on_kept sum size old left s.slot found.slot
        (λ lid len low high there. kept sum size old at count now left no_more leaves lid len there (⊎_elim (λ before. inl (omega (arith, before, high))) (λ past. inr (omega (arith, past, low))) beside))
        H s refl on

    pub needed_left : (page : ℕ) (m : Message) → Contains (table H cut.0 page) m → IsSegmentOf sum size left H cut.0 m × StandsInline sum size left m m.pointer
    needed_left page m there =
        let from = from_table H cut.0 page m there in
        let had = is.needed page m there in
        let seg = had.0 in (
          record {
            segment = seg.segment;
            found = found_stays sum size old at count now left no_more leaves some slot slot_at begins to_end 0 seg.segment seg.found;
            place = seg.place;
            reached = reached_left seg.segment seg.found m from.0 from.2 seg.reached;
            whole = λ n known number lower. reached_left seg.segment seg.found n known lower (seg.whole n known number lower);
            full = λ under. reads_on seg.segment seg.found under (seg.full under);
          },
          stands_left seg.reached.at seg.segment.slot m.pointer refl seg.reached.lid (reached_apart seg.segment seg.found m from.0 from.2 seg.reached) had.1,
        )
      where
        stands_left : (o s : ℕ) (p : DiskPtr) → m.pointer ≡ p → lid_of m.pointer ≡ s + o → (s + o + m.size ≤ at) ⊎ (at + count ≤ s) → StandsInline sum size old m p → StandsInline sum size left m p
        stands_left o s (Inline lid) pointer offset beside stands =
            let here : lid ≡ s + o = ap lid_of (sym pointer) ∙ offset in
            let there = stands.stands.in_file in
            let long = grows sum size old at count now left no_more leaves in
            let apart : (lid + m.size ≤ at) ⊎ (at + count ≤ lid) = ⊎_elim (λ low. inl (omega (arith, low, here))) (λ past. inr (omega (arith, past, here))) beside in
            message_moved sum size old left lid (m.place / size) m (kept sum size old at count now left no_more leaves lid m.size there apart) (omega (arith, there, long)) stands
        stands_left o s (Blob lid place) pointer offset beside stands = tt

    module _ {placed : List Placement} (only_own : NoForeignLog sum size (after_write old at (replicate count 0) now) placed left) (none : NoHeaderOfZeros sum) where
      -- Other segments.

      others : (t : Scanned) → Contains is.scanned t → t.segment.place ≢ z.segment.place → IsScanned sum size left t
      others t there other =
          let known = segment_there sum size old is.ordering is.scanned is.reads t there in
          let found = (is.numbers.found t.segment).0 known.0 in
          let inside = stop_inside sum size old some t (whole sum size old some H A first cut is t there) in
          other_scan sum size old at count now left no_more leaves only_own none some slot slot_at begins to_end least t found
          (λ same. other (one_in_slot sum size old least least t.segment z.segment found z_found (same ∙ sym its.slot_is))) inside known.1

      left_found : (t : Scanned) → Contains is.scanned t → IsFoundSegment sum size left least t.segment
      left_found t there =
          found_stays sum size old at count now left no_more leaves some slot slot_at begins to_end least t.segment ((is.numbers.found t.segment).0 (segment_there sum size old is.ordering is.scanned is.reads t there).0)

      truth_of : (t : Scanned) (x : ScannedRecord) → Contains is.scanned t → IsScanned sum size left t → Contains t.met x → IsOfHistory sum size left H x
      truth_of t x there scan met = scan_truth sum size old at count now left no_more leaves only_own none H least t (left_found t there) scan (λ u at_u. is.truth t u there at_u) x met

      numbers : IsOrdering sum size left least is.ordering
      numbers = ordering_stays sum size old at count now left no_more leaves only_own none some slot slot_at begins to_end least is.ordering is.numbers

      -- where the segment of the cut is read as before, all are
      all_as_before : IsScanned sum size left z → (t : Scanned) → Contains is.scanned t → IsScanned sum size left t
      all_as_before own t there = elim (cases_eq t.segment.place z.segment.place) [
        | inl place ↦ subst (IsScanned sum size left) (sym (one_reading sum size old some H A first cut is t z there its.there place)) own
        | inr other ↦ others t there other
      ]

      -- The segment of the cut.

      abbrev k : ℕ
      k = z.segment.slot / size

      here : z.segment.slot ≡ k * size
      here = slot_index size z.segment.slot z_found.slot

      header : IsHeader sum (part left (k * size) 20) (pos z.segment.place) z.segment.mark
      header = subst (λ n. IsHeader sum (part left n 20) (pos z.segment.place) z.segment.mark) here (left_found z its.there).header

      scan_at : IsScan sum size old (k * size) z.segment.place z.met z.stop z.why
      scan_at = subst (λ n. IsScan sum size old n z.segment.place z.met z.stop z.why) here z_scan

      reads : ReadsFirst sum size left (k * size) z.segment.place 20 at z.met
      reads = scan_left sum size old at count now left no_more leaves only_own k z.segment.place z.segment.mark header z.met z.stop z.why scan_at

      abbrev y : Scanned
      y = record { segment = z.segment; met = reads.found; stop = reads.stop; why = reads.why }

      y_scan : IsScanned sum size left y
      unfolding IsScan
      y_scan = subst (λ n. IsScan sum size left n z.segment.place reads.found reads.stop reads.why) (sym here) (reads.path, reads.end)

      own_truth : (x : ScannedRecord) → Contains reads.found x → IsOfHistory sum size left H x
      own_truth x met = scan_truth sum size old at count now left no_more leaves only_own none H least y (left_found z its.there) y_scan
          (λ u at_u. is.truth z u its.there (subst (λ (l : List ScannedRecord). Contains l u) (sym reads.whole) (Contains-append_left reads.found reads.rest u at_u))) x met

      old_path : IsPath sum size old (k * size) z.segment.place 20 reads.found reads.stop
      old_path = path_stood sum size old at count now left no_more leaves only_own k z.segment.place z.segment.mark header 20 reads.found reads.stop at_start reads.path

      -- where it doesn't end for a record that is broken, it ended so before
      old_end : (why : ScanEnd) → IsEnd sum size left (k * size) z.segment.place reads.stop why → (why ≡ Broken) ⊎ IsEnd sum size old (k * size) z.segment.place reads.stop why
      unfolding EndsThere
      old_end Full full = inr full
      old_end Capped (room, (h, body, len, s, is_cap)) =
          let comes = comes_on sum size old at count now left no_more leaves only_own k z.segment.place z.segment.mark header 20 reads.found reads.stop at_start reads.path in
          inr (room, (h, body, len, stood sum size old at count now left no_more leaves only_own k z.segment.place z.segment.mark header reads.stop comes (omega (arith, room)) h body len s, is_cap))
      old_end Broken broken = inl refl

      behind : (rest : List ScannedRecord) × (z.met ≡ reads.found ++ rest) × IsPath sum size old (k * size) z.segment.place reads.stop rest z.stop
      unfolding IsScan
      behind = path_begins sum size old (k * size) z.segment.place 20 reads.found reads.stop z.met z.stop z.why old_path scan_at.0 scan_at.1

      reaches : cut.0 ≤ z.segment.place + reads.stop
      reaches = by behind.0 refl behind.2 where
        by : (rest : List ScannedRecord) → behind.0 ≡ rest → IsPath sum size old (k * size) z.segment.place reads.stop rest z.stop → cut.0 ≤ z.segment.place + reads.stop
        by [] is_rest path = let read = its.read in omega (arith, path, read)
        by (m ∷ ms) is_rest path = elim (cases_lt (z.segment.place + reads.stop) cut.0) [
          | inl under ↦ (
              let split : z.met ≡ reads.found ++ m ∷ ms = behind.1 ∙ ap (λ (l : List ScannedRecord). reads.found ++ l) is_rest in
              let over = reads.above m ms (same_rest reads.found reads.rest (m ∷ ms) (sym reads.whole ∙ split)) in
              let there : Contains z.met m = subst (λ (l : List ScannedRecord). Contains l m) (sym split) (Contains-append_right reads.found (m ∷ ms) m (in_first m ms)) in
              let ended = boundary m there (omega (arith, path.1, under)) in
              absurd (omega (arith, over, ended, path.1, parts.0, from_cut, here, its.slot_is)))
          | inr le ↦ le
        ]

      after : Stand (z.segment.place + reads.stop) behind.0 (z.segment.place + z.stop)
      after = path_stands sum size old (k * size) z.segment.place reads.stop behind.0 z.stop behind.2

      cut_short : reads.why ≡ Broken → IsShort sum size old left some H A first cut is numbers needed_left z y
      cut_short broken = record {
        scan = y_scan;
        segment = refl;
        broken = broken;
        reaches = reaches;
        within = stand_rises (z.segment.place + reads.stop) behind.0 (z.segment.place + z.stop) after;
        has = λ x met under. ⊎_elim
            (λ own. own)
            (λ later. let above = stand_in (z.segment.place + reads.stop) behind.0 (z.segment.place + z.stop) after x later in absurd (omega (arith, above.0, under)))
            (Contains-append_cases reads.found behind.0 x (subst (λ (l : List ScannedRecord). Contains l x) behind.1 met));
      }

      pub zeros_behind_cut : IsRecoverableLog sum size left H A first cut
      unfolding IsScan
      zeros_behind_cut = elim (old_end reads.why reads.end) [
        | inl broken ↦ short_kept sum size old left some H A first cut is numbers needed_left fits slot has_slot end z y ends its (cut_short broken) others own_truth (λ t x there other met. truth_of t x there (others t there other) met)
        | inr ended ↦ (
            let one : y ≡ z = one_scan sum size old y z refl (subst (λ n. IsScan sum size old n z.segment.place reads.found reads.stop reads.why) (sym here) (old_path, ended)) z_scan in
            let stays = all_as_before (subst (IsScanned sum size left) one y_scan) in
            all_kept sum size old left some H A first cut is numbers needed_left stays (λ t x there met. truth_of t x there (stays t there) met))
      ]
