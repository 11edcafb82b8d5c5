-- A recoverable log file stays recoverable up to the same cut where all of it is read as before, and where the reading of the segment of the cut ends earlier, but not below the cut.
use Rattle.std.proofs.Common.{⊎_elim, ◌≡◌, ◌≢◌, ◌⊎◌, ◌∙◌, ◌+◌, ◌%◌, ◌<◌, ◌≤◌, ℕ, pos, negsuc, Bool, true, false, nat_lt, if◌then◌else◌, List, [], ◌∷◌, Option, Some, None, refl, sym, ap, subst, arith, inl, inr}
use Rattle.std.specs.List.{Contains}
use Rattle.std.proofs.lemmas.Bool.{cases_eq, cases_lt, le-ltb, leb-true, le-leb}
use Rattle.sled_codec.specs.History.{Message, History, table, CutFits}
use Rattle.sled_codec.specs.Snapshots.{SnapshotModel, stable_place}
use Rattle.sled_store.proofs.Segments.Elements.{in_first, in_rest, in_cases, in_nothing}
use Rattle.sled_core.specs.declared.iterator.Segment.{Segment}
use Rattle.sled_core.specs.declared.iterator.scan.ScannedRecord.{ScannedRecord}
use Rattle.sled_core.specs.declared.iterator.scan.RecordContent.{RecordContent}
use Rattle.sled_core.specs.declared.iterator.scan.RecordContent.TheVariants.{Gives, NamesBlob, Skipped, BatchStart}
use Rattle.sled_core.specs.declared.iterator.scan.ScanEnd.{ScanEnd}
use Rattle.sled_core.specs.declared.iterator.scan.ScanEnd.TheVariants.{Full, Capped, Broken}
use Rattle.sled_core.specs.inside.Recoverable.{IsOfHistory, IsSegmentOf, StandsInline, IsRecoverableLog, scanned_below, cut_over, cut_from}
use Rattle.sled_log.specs.Recovery.{Scanned, IsScanned, IsOrdering, GoesOn, IsTail, AreScanned, tail_begins, tail_end, opens, cut_of, least_place}
use Rattle.sled_core.proofs.Tail.OneTail.{in_below, from_below, segment_there, reading_there}
use Rattle.sled_core.proofs.Tail.Multiples.{put_down, next_multiple, lower_multiple}
use Rattle.sled_core.proofs.Tail.Tails.{some_is}
use Rattle.sled_log.proofs.Recovers.PassCut.{known, further, whole, one_reading}
use Rattle.sled_core.proofs.Tail.Rows.{IsRow, row_ordered, row_below, row_whole, stop_inside}
use Rattle.sled_log.proofs.Moments.CutSegment.{IsCutSegment}
use Rattle.sled_log.proofs.Moments.PassStops.{StopsHere, stops_at}
use Rattle.sled_log.proofs.Moments.FromCut.{closed_of}
use Rattle.sled_core.proofs.Tail.SegmentsFrom.{tail_low}

-- a batch that is open at a place is open at each lower one
opens_lower : (end low : ℕ) (what : RecordContent) → low ≤ end → opens end what ≡ true → opens low what ≡ true
opens_lower end low (Gives kind page pointer) le opened = cc
opens_lower end low (NamesBlob kind page lid place) le opened = cc
opens_lower end low Skipped le opened = cc
opens_lower end low (BatchStart (pos n)) le opened = let above : end ≤ n = leb-true end n opened in le-leb low n (omega (arith, above, le))
opens_lower end low (BatchStart (negsuc n)) le opened = cc

-- one more in front of a tail changes nothing of its end
more_end : (x : Scanned) (ts : List Scanned) (e : ℕ) → tail_end ts ≡ Some e → tail_end (x ∷ ts) ≡ Some e
more_end x [] e ends = cc
more_end x (t ∷ ts) e ends = ends

module _ (sum : List ℕ → ℕ) (size : ℕ) (log left : List ℕ) (some : 256 ≤ size) (H : History) (A : ℕ) (first : SnapshotModel) (cut : ℕ × Option ℕ) (is : IsRecoverableLog sum size log H A first cut)
    (numbers : IsOrdering sum size left (least_place size first) is.ordering)
    (needed : (page : ℕ) (m : Message) → Contains (table H cut.0 page) m → IsSegmentOf sum size left H cut.0 m × StandsInline sum size left m m.pointer) where
  abbrev begins : ℕ
  begins = tail_begins size (least_place size first) is.ordering

  -- All is read as before.
  module _ (same : (t : Scanned) → Contains is.scanned t → IsScanned sum size left t) (truth : (t : Scanned) (x : ScannedRecord) → Contains is.scanned t → Contains t.met x → IsOfHistory sum size left H x) where
    same_reads : (ss : List Segment) (xs : List Scanned) → ((t : Scanned) → Contains xs t → Contains is.scanned t) → AreScanned sum size log ss xs → AreScanned sum size left ss xs
    same_reads [] [] within are = tt
    same_reads [] (x ∷ xs) within are = absurd are
    same_reads (s ∷ ss) [] within are = absurd are
    same_reads (s ∷ ss) (x ∷ xs) within are = (are.0, same x (within x (in_first x xs)), same_reads ss xs (λ t there. within t (in_rest x t xs there)) are.2)

    same_tail : (place : ℕ) (tail : List Scanned) → IsTail sum size log is.ordering place tail → IsTail sum size left is.ordering place tail
    same_tail place [] none = none
    same_tail place (x ∷ xs) tail = (tail.0, tail.1, same x (known sum size log some H A first cut is x tail.0 tail.2), by x.why tail.3 (same_tail (place + size) xs)) where
      by : (why : ScanEnd) → GoesOn why xs (IsTail sum size log is.ordering (place + size) xs) → (IsTail sum size log is.ordering (place + size) xs → IsTail sum size left is.ordering (place + size) xs)
          → GoesOn why xs (IsTail sum size left is.ordering (place + size) xs)
      by Broken none rest = none
      by Full on rest = rest on
      by Capped on rest = rest on

    pub all_kept : IsRecoverableLog sum size left H A first cut
    all_kept = record {
      ordering = is.ordering;
      numbers = numbers;
      scanned = is.scanned;
      reads = same_reads is.ordering is.scanned (λ t there. there) is.reads;
      tail = is.tail;
      is_tail = same_tail begins is.tail is.is_tail;
      marks = is.marks;
      truth = truth;
      caps = is.caps;
      tail_there = is.tail_there;
      is_cut = is.is_cut;
      not_below = is.not_below;
      passes = is.passes;
      marks_below = is.marks_below;
      placed = is.placed;
      batched = is.batched;
      needed = needed;
    }

  -- A reading of the segment of the cut that ends earlier, at a record that is broken, but not below the cut.
  pub record IsShort (z y : Scanned) : Type 0 where
    pub scan : IsScanned sum size left y
    pub segment : y.segment ≡ z.segment
    pub broken : y.why ≡ Broken
    pub reaches : cut.0 ≤ y.segment.place + y.stop
    pub within : y.segment.place + y.stop ≤ z.segment.place + z.stop
    pub has : (x : ScannedRecord) → Contains z.met x → x.place < y.segment.place + y.stop → Contains y.met x

  module _ (fits : CutFits H cut.0) (slot : ℕ) (has_slot : cut.1 ≡ Some slot) (end : ℕ) (z y : Scanned) (ends : tail_end is.tail ≡ Some end) (at : IsCutSegment sum size log some H A first cut is slot end z) (short : IsShort z y)
      (others : (t : Scanned) → Contains is.scanned t → t.segment.place ≢ z.segment.place → IsScanned sum size left t)
      (own_truth : (x : ScannedRecord) → Contains y.met x → IsOfHistory sum size left H x)
      (truth : (t : Scanned) (x : ScannedRecord) → Contains is.scanned t → t.segment.place ≢ z.segment.place → Contains t.met x → IsOfHistory sum size left H x) where
    abbrev stop : ℕ
    stop = y.segment.place + y.stop

    y_place : y.segment.place ≡ z.segment.place
    y_place = ap (λ (s : Segment). s.place) short.segment

    y_known : Contains is.ordering y.segment
    y_known = subst (Contains is.ordering) (sym short.segment) (segment_there sum size log is.ordering is.scanned is.reads z at.there).0

    -- What is read, with that in the place of what was read of its segment.
    abbrev IsOneOf : Scanned → Type 0
    IsOneOf t = (t ≡ y) ⊎ (Contains is.scanned t × (t.segment.place ≢ z.segment.place))

    swapped : (ss : List Segment) (xs : List Scanned) → ((t : Scanned) → Contains xs t → Contains is.scanned t) → AreScanned sum size log ss xs → (ys : List Scanned) × AreScanned sum size left ss ys × ((t : Scanned) → Contains ys t → IsOneOf t)
    swapped [] [] within are = ([], tt, λ t there. absurd (in_nothing t there))
    swapped [] (x ∷ xs) within are = absurd are
    swapped (s ∷ ss) [] within are = absurd are
    swapped (s ∷ ss) (x ∷ xs) within are = by (swapped ss xs (λ t there. within t (in_rest x t xs there)) are.2) (cases_eq x.segment.place z.segment.place) where
      Swapped : List Segment → Type 0
      Swapped l = (ys : List Scanned) × AreScanned sum size left l ys × ((t : Scanned) → Contains ys t → IsOneOf t)

      by : Swapped ss → (x.segment.place ≡ z.segment.place) ⊎ (x.segment.place ≢ z.segment.place) → Swapped (s ∷ ss)
      by rest (inl place) =
          let one : x ≡ z = one_reading sum size log some H A first cut is x z (within x (in_first x xs)) at.there place in
          let segment : y.segment ≡ s = short.segment ∙ sym (ap (λ (t : Scanned). t.segment) one) ∙ are.0 in
          (y ∷ rest.0, (segment, short.scan, rest.1), λ t there. ⊎_elim (λ same. inl (sym same)) (λ later. rest.2 t later) (in_cases y t rest.0 there))
      by rest (inr other) =
          let own : IsOneOf x = inr (within x (in_first x xs), other) in
          (x ∷ rest.0, (are.0, others x (within x (in_first x xs)) other, rest.1), λ t there. ⊎_elim (λ same. subst IsOneOf same own) (λ later. rest.2 t later) (in_cases x t rest.0 there))

    read : (ys : List Scanned) × AreScanned sum size left is.ordering ys × ((t : Scanned) → Contains ys t → IsOneOf t)
    read = swapped is.ordering is.scanned (λ t there. there) is.reads

    abbrev ys : List Scanned
    ys = read.0

    y_there : Contains ys y
    y_there = reading_there sum size left is.ordering ys read.1 y y_known short.scan

    truth_left : (t : Scanned) (x : ScannedRecord) → Contains ys t → Contains t.met x → IsOfHistory sum size left H x
    truth_left t x there met = ⊎_elim
        (λ same. own_truth x (subst (λ (u : Scanned). Contains u.met x) same met))
        (λ other. truth t x other.0 other.1 met)
        (read.2 t there)

    -- The tail ends with it.
    abbrev EndsShort : ℕ → Type 0
    EndsShort place = (tail : List Scanned) × IsTail sum size left is.ordering place tail × (tail_end tail ≡ Some stop)

    ends_here : (place : ℕ) → place ≡ z.segment.place → EndsShort place
    ends_here place here =
        let behind = subst (λ (why : ScanEnd). GoesOn why [] (IsTail sum size left is.ordering (place + size) [])) (sym short.broken) refl in
        (y ∷ [], (y_known, y_place ∙ sym here, short.scan, behind), refl)

    short_tail : (place : ℕ) (tail : List Scanned) → IsTail sum size log is.ordering place tail → place % size ≡ 0 → (e : ℕ) → tail_end tail ≡ Some e → place ≤ z.segment.place → z.segment.place < e → EndsShort place
    short_tail place [] tail aligned e is_end low high = cc
    short_tail place (x ∷ []) tail aligned e is_end low high = elim (cases_eq place z.segment.place) [
      | inl here ↦ ends_here place here
      | inr other ↦ (
          let there = known sum size log some H A first cut is x tail.0 tail.2 in
          let inside = stop_inside sum size log some x (whole sum size log some H A first cut is x there) in
          let far = further sum size log some H A first cut is place z.segment.place aligned (whole sum size log some H A first cut is z at.there).1 (omega (arith, other, low)) in
          absurd (omega (arith, some_is (x.segment.place + x.stop) e is_end, inside, far, high, tail.1)))
    ]
    short_tail place (x ∷ u ∷ us) tail aligned e is_end low high = elim (cases_eq place z.segment.place) [
      | inl here ↦ ends_here place here
      | inr other ↦ by x.why refl tail.3 (omega (arith, other, low)) (short_tail (place + size) (u ∷ us))
    ] where
      there : Contains is.scanned x
      there = known sum size log some H A first cut is x tail.0 tail.2

      Rest : Type 0
      Rest = IsTail sum size log is.ordering (place + size) (u ∷ us) → (place + size) % size ≡ 0 → (d : ℕ) → tail_end (u ∷ us) ≡ Some d → place + size ≤ z.segment.place → z.segment.place < d → EndsShort (place + size)

      goes_on : (why : ScanEnd) → x.why ≡ why → (x.why ≡ Broken → ⊥) → (ts : List Scanned) → IsTail sum size left is.ordering (place + size) ts → GoesOn why ts (IsTail sum size left is.ordering (place + size) ts)
      goes_on Broken test unbroken ts next = absurd (unbroken test)
      goes_on Full test unbroken ts next = next
      goes_on Capped test unbroken ts next = next

      on_from : IsTail sum size log is.ordering (place + size) (u ∷ us) → (x.why ≡ Broken → ⊥) → place < z.segment.place → Rest → EndsShort place
      on_from next unbroken under later =
          let far = further sum size log some H A first cut is place z.segment.place aligned (whole sum size log some H A first cut is z at.there).1 under in
          let rest = later next (next_multiple size place aligned) e is_end far high in
          let own = others x there (λ same. omega (arith, same, tail.1, under)) in
          (x ∷ rest.0, (tail.0, tail.1, own, goes_on x.why refl unbroken rest.0 rest.1), more_end x rest.0 stop rest.2)

      by : (why : ScanEnd) → x.why ≡ why → GoesOn why (u ∷ us) (IsTail sum size log is.ordering (place + size) (u ∷ us)) → place < z.segment.place → Rest → EndsShort place
      by Broken test none under later = absurd (no_more none)
        where
          no_more : (u ∷ us) ≡ [] → ⊥
          no_more none = cc
      by Full test next under later = on_from next (λ broken. let no : Full ≡ Broken = sym test ∙ broken in cc) under later
      by Capped test next under later = on_from next (λ broken. let no : Capped ≡ Broken = sym test ∙ broken in cc) under later

    tail_left : EndsShort begins
    tail_left =
        let least = lower_multiple size some (stable_place first.stable) cut.0 is.not_below in
        let low = tail_low size some H cut.0 is.ordering is.marks_below (least_place size first) least in
        let place = at.place in
        short_tail begins is.tail is.is_tail (put_down size _).1 end ends (omega (arith, low, place)) at.begun

    -- The pass stops at the cut.
    new_row : IsRow sum size left some (scanned_below stop ys)
    new_row = row_below sum size left some stop ys (row_ordered sum size left some (least_place size first) is.ordering ys numbers read.1)

    y_begun : y.segment.place < stop
    y_begun =
        let low = at.low in
        let reaches = short.reaches in
        omega (arith, low, reaches, y_place)

    stops_here : StopsHere stop cut.0 y
    stops_here = by at.stops where
      by : StopsHere end cut.0 z → StopsHere stop cut.0 y
      by (inl (x, met, place, opened)) = elim (cases_lt cut.0 stop) [
        | inl under ↦ (
            let ended = at.ended in
            let within = short.within in
            inl (x, short.has x met (omega (arith, place, under)), place, opens_lower end stop x.what (omega (arith, within, ended)) opened))
        | inr le ↦ (let reaches = short.reaches in inr (omega (arith, le, reaches)))
      ]
      by (inr at_end) = let within = short.within in let reaches = short.reaches in inr (omega (arith, at_end, within, reaches))

    same_cut : cut_over size first stop (scanned_below stop ys) ≡ cut
    same_cut = by (scanned_below stop ys) refl where
      by : (l : List Scanned) → scanned_below stop ys ≡ l → cut_over size first stop l ≡ cut
      by [] none = absurd (in_nothing y (subst (λ (l : List Scanned). Contains l y) none (in_below sum size left stop ys y y_there y_begun)))
      by (s ∷ ss) is_l =
          let row = subst (IsRow sum size left some) is_l new_row in
          let from : (t : Scanned) → Contains (s ∷ ss) t → Contains ys t × (t.segment.place < stop) = λ t there. from_below sum size left stop ys t (subst (λ (l : List Scanned). Contains l t) (sym is_l) there) in
          let mine = subst (λ (l : List Scanned). Contains l y) is_l (in_below sum size left stop ys y y_there y_begun) in
          let inside = stop_inside sum size left some y (row_whole sum size left some (s ∷ ss) row y mine) in
          let last : (t : Scanned) → Contains (s ∷ ss) t → t.segment.place ≤ y.segment.place = λ t there. (
          elim (cases_lt y.segment.place t.segment.place) [
            | inl over ↦ (
                let far = further sum size log some H A first cut is y.segment.place t.segment.place (row_whole sum size left some (s ∷ ss) row y mine).1 (row_whole sum size left some (s ∷ ss) row t there).1 over in
                let begun = (from t there).1 in
                absurd (omega (arith, far, begun, inside)))
            | inr le ↦ le
          ]) in
          let reaches = short.reaches in
          let low = at.low in
          let stopped = stops_at stop cut.0 sum size left some s ss row y mine last (omega (arith, low, y_place))
          (λ t there x met under. closed_of sum size left some H stop x (truth_left t x (from t there).0 met) (λ b known_b place. let ended = fits.batches b known_b (omega (arith, place, under)) in omega (arith, ended, reaches)))
          stops_here in
          let room = at.room in
          let not_filled : nat_lt (y.segment.place + size) (cut.0 + 32) ≡ false = le-ltb (y.segment.place + size) (cut.0 + 32) (omega (arith, room, y_place)) in
          let here : Some y.segment.slot ≡ cut.1 = ap Some (ap (λ (u : Segment). u.slot) short.segment ∙ at.slot_is) ∙ sym has_slot in
          let over : cut_over size first stop (s ∷ ss) ≡ cut_of size (y.segment, cut.0) = ap (cut_of size) stopped in
          let kept : cut_of size (y.segment, cut.0) ≡ (cut.0, Some y.segment.slot) = ap (λ (b : Bool). if b then (y.segment.place + size, None) else (cut.0, Some y.segment.slot)) not_filled in
          let same : (cut.0, Some y.segment.slot) ≡ cut = λ i. (cut.0, here i) in
          over ∙ kept ∙ same

    pub short_kept : IsRecoverableLog sum size left H A first cut
    short_kept = record {
      ordering = is.ordering;
      numbers = numbers;
      scanned = ys;
      reads = read.1;
      tail = tail_left.0;
      is_tail = tail_left.1;
      marks = is.marks;
      truth = truth_left;
      caps = λ t there. ⊎_elim
          (λ same. let broken : t.why ≡ Broken = ap (λ (u : Scanned). u.why) same ∙ short.broken in (
            (λ capped. let no : Broken ≡ Capped = sym broken ∙ capped in cc),
            (λ goes. absurd (goes broken)),
          ))
          (λ other. is.caps t other.0)
          (read.2 t there);
      tail_there = is.tail_there;
      is_cut = sym same_cut ∙ sym (ap (cut_from size first ys) tail_left.2);
      not_below = is.not_below;
      passes = is.passes;
      marks_below = is.marks_below;
      placed = is.placed;
      batched = is.batched;
      needed = needed;
    }

    -- it has that reading
    pub y_kept : Contains short_kept.scanned y
    unfolding short_kept
    y_kept = y_there
