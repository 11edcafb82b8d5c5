-- A buffer is written to a segment behind the first one, at its beginning or behind what is written of it: what a crash leaves of it stands as before, and all of it too, with that segment up to where its records end now.
use Rattle.std.proofs.Common.{◌≡◌, ◌≢◌, ◌⊎◌, ◌≤◌, ◌<◌, ◌<ℤ◌, ◌+◌, ◌*◌, ◌/◌, ◌%◌, ◌^◌, ℕ, ℤ, pos, max, List, ◌∷◌, ◌++◌, length, get_or, refl, sym, subst, arith, inl, inr}
use Rattle.std.specs.List.{Contains}
use Rattle.std.proofs.Math.Nat.{mod-add-div'}
use Rattle.std.proofs.lemmas.Bool.{cases_eq, cases_lt}
use Rattle.std.proofs.lemmas.List.Elements.{Contains-append_right}
use Rattle.sled_codec.specs.History.{History}
use Rattle.sled_codec.specs.Places.{part}
use Rattle.sled_codec.specs.Record.{IsHeader}
use Rattle.sled_codec.specs.Snapshots.{SnapshotModel}
use Rattle.sled_store.specs.Device.{overwritten, LeavesLog, Placement}
use Rattle.sled_store.specs.Foreign.{NoForeignLog}
use Rattle.sled_store.proofs.Histories.Ascending.{Ascends}
use Rattle.sled_store.proofs.Segments.Elements.{in_first}
use Rattle.sled_core.specs.Begun.{records_to}
use Rattle.sled_core.specs.OpenBatches.{stable_below}
use Rattle.sled_core.specs.declared.iobuf.SegmentPosition.{SegmentPosition}
use Rattle.sled_core.specs.declared.iterator.Segment.{Segment}
use Rattle.sled_core.specs.declared.iterator.scan.ScannedRecord.{ScannedRecord}
use Rattle.sled_core.specs.declared.iterator.scan.ScanEnd.{ScanEnd}
use Rattle.sled_core.specs.inside.Fits.{HasMark}
use Rattle.sled_core.specs.LogFile.{HasHeader}
use Rattle.sled_core.specs.inside.Reached.{BeginsOne, BegunSegment, GoesOnIn, IsLed, IsReadTo, IsSoFar, ReachesIn, StandsAmong, StandsIn}
use Rattle.sled_core.specs.inside.Recoverable.{NothingBehind, IsOfHistory, IsMarkBelow}
use Rattle.sled_core.specs.Recoverable.{NoHeaderOfZeros}
use Rattle.sled_core.specs.inside.Scan.{IsFoundSegment}
use Rattle.sled_core.specs.Scan.{IsPath, IsEnd}
use Rattle.sled_core.specs.Tail.{least_place}
use Rattle.sled_core.proofs.Reached.BufferPath.{buffer_header, buffer_mark_below}
use Rattle.sled_core.proofs.Reached.LeftBeside.{IsSameBeside}
use Rattle.sled_core.proofs.Reached.Marks.{mark_stable}
use Rattle.sled_core.proofs.Reached.OneWrite.{BeginsSegment, torn_stands}
use Rattle.sled_core.proofs.Reached.SegmentsBeside.{begins_still, follow_still, follows, going_in, grown_one, its_header, its_place_now, segment_grown, segment_stays, still_found, was_other}
use Rattle.sled_core.proofs.Reached.StandsTo.{StandsTo}
use Rattle.sled_core.proofs.Reached.UnreachedWrite.{unreached_write}
use Rattle.sled_core.proofs.Reached.WrittenWhole.{same_whole}
use Rattle.sled_core.proofs.Torn.TornLemmas.{after_write}
use Rattle.sled_core.proofs.Torn.WrittenBegun.{none_in_zeros}
use Rattle.sled_core.proofs.Torn.WrittenRecords.{AreClear}

-- A mark below the stable end lies below what was reached, or in front of the segment with nothing of the history between.
stable_mark : (size : ℕ) (H : History) (reach place from : ℕ) → ReachesIn size H place from reach → (mark : ℤ) → mark <ℤ pos (place + from) → IsMarkBelow size H reach mark
stable_mark size H reach place from (inl at) mark below = inl (subst (λ n. mark <ℤ pos n) (sym at) below)
stable_mark size H reach place from (inr (none, next)) mark below = let same : place + from ≡ place = omega (arith, none) in buffer_mark_below size H reach place mark (inr next) (subst (λ n. mark <ℤ pos n) same below)

module _ (sum : List ℕ → ℕ) (none : NoHeaderOfZeros sum) (size : ℕ) (some : 256 ≤ size) (old : List ℕ) (site : SegmentPosition) (from : ℕ) (pre : List BegunSegment) (y : BegunSegment) (post : List BegunSegment) (asked : List ℕ)
    (until : ℕ) (covers : y.from + length asked ≤ until) (reaches : until ≤ size) (headed : y.from ≡ 0 → 20 ≤ until) (has_room : y.from + 32 ≤ size)
    (place_begins : y.site.place % size ≡ 0) (slot_begins : y.site.slot % size ≡ 0) (place_small : y.site.place + size < 2 ^ 63) {H : History}
    (header : y.from ≡ 0 → (m : HasMark sum y.site asked H) × (m.mark <ℤ pos (site.place + from)))
    (clean : (i : ℕ) → y.site.slot + y.from ≤ i → i < y.site.slot + until → get_or old i 0 ≡ 0)
    (reach : ℕ) (first : SnapshotModel) {held : ℕ} (among : StandsAmong sum held size old site from (pre ++ y ∷ post) reach H first)
    (more : List ScannedRecord) (stop : ℕ) (why : ScanEnd) (clear : AreClear size until (max 20 y.from) more)
    (path : IsPath sum size (overwritten old (y.site.slot + y.from) asked) y.site.slot y.site.place (max 20 y.from) more stop)
    (end : IsEnd sum size (overwritten old (y.site.slot + y.from) asked) y.site.slot y.site.place stop why)
    (truth : (x : ScannedRecord) → Contains more x → IsOfHistory sum size (overwritten old (y.site.slot + y.from) asked) H x)
    (caps : NothingBehind size H y.site.place stop why) where
  abbrev new : List ℕ
  new = overwritten old (y.site.slot + y.from) asked

  -- the number of its slot
  abbrev slot : ℕ
  slot = y.site.slot / size

  its_slot : slot * size ≡ y.site.slot
  its_slot = omega (arith, mod-add-div' y.site.slot size, slot_begins)

  inside : y.from + length asked ≤ size
  inside = omega (arith, covers, reaches)

  its : Contains (pre ++ y ∷ post) y
  its = Contains-append_right pre (y ∷ post) y (in_first y post)

  its_stands : StandsIn sum size old (least_place size first) among.stands.scanned y.site y.from (records_to y.filled size)
  its_stands = among.behind y its

  -- It goes on where it was read to, or the buffer begins it, in a slot of zeros.
  goes_on : GoesOnIn among.stands.scanned (slot * size) y.from y.site.place ⊎ BeginsSegment sum size H among.stands.ordering (stable_below reach H.batches) (slot * size) y.from asked y.site.place
  goes_on = elim (cases_lt 0 y.from) [
    | inl later ↦ inl (subst (λ n. GoesOnIn among.stands.scanned n y.from y.site.place) (sym its_slot) (going_in sum size old (least_place size first) among.stands.scanned y.site y.from its_stands later has_room))
    | inr first_one ↦ (
        let begins : y.from ≡ 0 = omega (arith, first_one) in
        let far = headed begins in
        let h = header begins in
        let m = h.0 in
        inr (record {
          begins = begins;
          mark = m.mark;
          header = buffer_header sum y.site asked H m (omega (arith, place_small));
          whole = place_begins;
          fits = place_small;
          its_mark = record { least = m.of_history.least; below = m.of_history.below; apart = m.of_history.apart };
          mark_below = mark_stable size H reach m.mark m.of_history.apart (stable_mark size H reach site.place from among.reached m.mark h.1);
          alone = λ s there same.
              let found = (among.stands.numbers.found s).0 there in
              none_in_zeros sum until none far old y.site.slot (λ i above below. clean i (omega (arith, above, begins)) below) (pos s.place) s.mark
              (subst (λ n. IsHeader sum (part old n 20) (pos s.place) s.mark) (its_stands.only s found same) found.header);
        }))
  ]

  clean_there : (i : ℕ) → slot * size + y.from ≤ i → i < slot * size + until → get_or old i 0 ≡ 0
  clean_there i above below = clean i (omega (arith, its_slot, above)) (omega (arith, its_slot, below))

  path_there : IsPath sum size (overwritten old (slot * size + y.from) asked) (slot * size) y.site.place (max 20 y.from) more stop
  path_there = subst (λ n. IsPath sum size (overwritten old (n + y.from) asked) n y.site.place (max 20 y.from) more stop) (sym its_slot) path

  end_there : IsEnd sum size (overwritten old (slot * size + y.from) asked) (slot * size) y.site.place stop why
  end_there = subst (λ n. IsEnd sum size (overwritten old (n + y.from) asked) n y.site.place stop why) (sym its_slot) end

  truth_there : (x : ScannedRecord) → Contains more x → IsOfHistory sum size (overwritten old (slot * size + y.from) asked) H x
  truth_there = subst (λ n. (x : ScannedRecord) → Contains more x → IsOfHistory sum size (overwritten old (n + y.from) asked) H x) (sym its_slot) truth

  -- What a crash leaves of it.
  pub torn_other : (now left : List ℕ) → length now ≤ length asked → LeavesLog (after_write old (y.site.slot + y.from) asked now) left → {placed : List Placement}
      → NoForeignLog sum size (after_write old (y.site.slot + y.from) asked now) placed left → StandsTo sum size left H (stable_below reach H.batches) first reach
  torn_other now left no_more leaves {placed} only_own =
      torn_stands sum none size some old slot y.from asked inside until covers clean_there H (stable_below reach H.batches) first reach among.stands y.site.place goes_on more stop why clear path_there end_there truth_there caps now left no_more
      (subst (λ n. LeavesLog (after_write old (n + y.from) asked now) left) (sym its_slot) leaves)
      (subst (λ n. NoForeignLog sum size (after_write old (n + y.from) asked now) placed left) (sym its_slot) only_own)

  -- All of it, where the file reaches up to the slot, and the mark of its header lies below the stable end.
  module _ (ordered : Ascends H.messages) (there : y.site.slot ≤ length old) (low : least_place size first ≤ y.site.place) (has : HasHeader sum new y.site) (marked : has.mark <ℤ pos (site.place + from)) where
    both : (now : StandsTo sum size new H (stable_below reach H.batches) first reach) × IsReadTo now.scanned y.site.slot y.site.place stop why × (now.from ≡ among.stands.from)
    both = subst (λ n. (now : StandsTo sum size (overwritten old (n + y.from) asked) H (stable_below reach H.batches) first reach) × IsReadTo now.scanned n y.site.place stop why × (now.from ≡ among.stands.from)) its_slot
        (unreached_write sum none size some old slot y.from asked inside (omega (arith, its_slot, there)) until covers clean_there H ordered (stable_below reach H.batches) first reach among.stands y.site.place low goes_on more stop why clear path_there end_there truth_there caps)

    stands : StandsTo sum size new H (stable_below reach H.batches) first reach
    stands = both.0

    apart_first : (site.place < y.site.place) × (y.site.slot ≢ site.slot)
    apart_first = follows site (pre ++ y ∷ post) among.apart y its

    beside : IsSameBeside sum size old new y.site.slot
    beside = subst (λ n. IsSameBeside sum size old (overwritten old (n + y.from) asked) n) its_slot (same_whole sum size some old slot y.from asked inside (omega (arith, its_slot, there)))

    -- what is found in its slot has its place
    own : (s : Segment) → IsFoundSegment sum size new (least_place size first) s → s.slot ≡ y.site.slot → s.place ≡ y.site.place
    own = its_place_now sum size some old y.site.slot slot_begins y.from asked inside there H (stable_below reach H.batches) first reach among.stands (stable_below reach H.batches) reach stands y.site y.from refl its_stands has

    stays : (other : SegmentPosition) (so_far : ℕ) → other.slot ≢ y.site.slot → other.place ≢ y.site.place → {records : ℕ} → StandsIn sum size old (least_place size first) among.stands.scanned other so_far records → StandsIn sum size new (least_place size first) stands.scanned other so_far records
    stays other so_far apart behind = segment_stays sum size some old y.site.slot slot_begins y.from asked inside there H (stable_below reach H.batches) first reach among.stands (stable_below reach H.batches) reach stands other so_far y.site.place apart behind own

    -- The one that leads to the first segment is another one.
    led_on : IsLed sum size new (least_place size first) reach site.place
    led_on = elim among.led [
      | inl below ↦ inl below
      | inr (inl low) ↦ inr (inl low)
      | inr (inr l) ↦ (
          let next = l.next in
          let behind = apart_first.0 in
          let other : l.scan.segment.slot ≢ y.site.slot = λ here. (let same = its_stands.own l.scan.segment l.found here in omega (arith, same, next, behind)) in
          inr (inr (record {
            scan = l.scan;
            found = still_found sum size some old y.site.slot slot_begins y.from asked inside there H (stable_below reach H.batches) first reach among.stands (stable_below reach H.batches) reach stands l.scan.segment l.found other;
            read = beside.scans (least_place size first) l.scan l.found other l.read;
            next = next;
            goes = l.goes;
            below = l.below;
          })))
    ]

    last : (so_far : ℕ) (s : Segment) → IsFoundSegment sum size new (least_place size first) s → (s.place ≤ site.place) ⊎ BeginsOne (pre ++ grown_one y so_far ∷ post) s.place
    last so_far s found = elim (cases_eq s.slot y.site.slot) [
      | inl here ↦ inr (grown_one y so_far, Contains-append_right pre (grown_one y so_far ∷ post) (grown_one y so_far) (in_first (grown_one y so_far) post), sym (own s found here))
      | inr other ↦ elim (among.last s (beside.found (least_place size first) s other found)) [ inl low ↦ inl low | inr one ↦ inr (begins_still pre y post so_far s.place y.filled one) ]
    ]

    below : (s : Segment) → IsFoundSegment sum size new (least_place size first) s → s.mark <ℤ pos (site.place + from)
    below s found = elim (cases_eq s.slot y.site.slot) [
      | inl here ↦ subst (λ z. z <ℤ pos (site.place + from))
          (sym (its_header sum size some old y.site.slot slot_begins y.from asked inside there H (stable_below reach H.batches) first reach among.stands (stable_below reach H.batches) reach stands y.site y.from refl its_stands has s found here).1) marked
      | inr other ↦ among.below s (beside.found (least_place size first) s other found)
    ]

    pub other_written : (so_far : ℕ) → IsSoFar size so_far stop why → (so_far ≡ size → records_to y.filled size ≤ stop) → StandsAmong sum held size new site from (pre ++ grown_one y so_far ∷ post) reach H first
    unfolding stands
    other_written so_far far up_to = record {
      stands = stands;
      low = (let same = both.2 in let low = among.low in omega (arith, same, low));
      reached = among.reached;
      led = led_on;
      here = stays site from (λ same. apart_first.1 (sym same)) (λ same. let behind = apart_first.0 in omega (arith, same, behind)) among.here;
      behind = λ x at. elim (was_other site pre y post so_far y.filled among.apart x at) [
        | inl one ↦ subst (λ (w : BegunSegment). StandsIn sum size new (least_place size first) stands.scanned w.site w.from (records_to w.filled size)) (sym one)
            (segment_grown sum size some old y.site.slot slot_begins y.from asked inside there H (stable_below reach H.batches) first reach among.stands (stable_below reach H.batches) reach stands y.site y.from refl its_stands has so_far (records_to y.filled size) stop why both.1 far up_to)
        | inr (had, other, behind) ↦ stays x.site x.from other behind (among.behind x had)
      ];
      apart = follow_still site pre y post so_far y.filled among.apart;
      last = last so_far;
      below = below;
    }
