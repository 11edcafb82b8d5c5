-- A log file may have segments that no slot has any more, beside those that one reads in it who knows the slots. Where that other file can be recovered, so can
-- the one that has them, with the same cut: they lie below the tail, and no batch is open in them.
use Rattle.std.proofs.Common.{◌≡◌, ◌⊎◌, ◌∙◌, ◌+◌, ◌*◌, ◌/◌, ◌%◌, ◌<◌, ◌≤◌, ℕ, pos, Bool, true, false, List, [], ◌∷◌, ◌++◌, length, Option, Some, None, refl, sym, ap, subst, arith, inl, inr}
use Rattle.std.specs.List.{Contains}
use Rattle.sled_codec.specs.declared.result.DiskPtr.{DiskPtr}
use Rattle.sled_codec.specs.declared.result.DiskPtr.TheVariants.{Inline, Blob}
use Rattle.sled_codec.specs.History.{Batch, History, Message, table}
use Rattle.sled_codec.specs.Places.{part}
use Rattle.sled_codec.specs.Pointers.{lid_of}
use Rattle.sled_codec.specs.Snapshots.{SnapshotModel, stable_place}
use Rattle.sled_core.specs.declared.iterator.Segment.{Segment}
use Rattle.sled_core.specs.declared.iterator.scan.ScannedRecord.{ScannedRecord}
use Rattle.sled_core.specs.declared.iterator.scan.ScanEnd.{ScanEnd}
use Rattle.sled_core.specs.declared.iterator.scan.ScanEnd.TheVariants.{Full, Capped, Broken}
use Rattle.sled_core.specs.inside.Hides.{IsGoneSegment, IsTrueReading}
use Rattle.sled_core.specs.inside.Recoverable.{IsMarkBelow, IsMarkOf, IsOfHistory, IsReachedIn, IsReadOn, IsRecoverableLog, IsSegmentOf, NothingBehind}
use Rattle.sled_core.specs.inside.Recoverable.{StandsInline, cut_from, cut_over, scanned_below}
use Rattle.sled_core.specs.inside.Scan.{IsFoundSegment}
use Rattle.sled_core.specs.Tail.{AreScanned, GoesOn, IsOrdering, IsTail, greatest_mark, least_place, tail_begins, tail_end}
use Rattle.sled_core.specs.Scan.{IsPath, IsScan}
use Rattle.sled_core.specs.Tail.{IsScanned, Scanned, open_at, opens, place_of_mark}
use Rattle.sled_core.proofs.Freed.AlikeRecords.{alike_last, met_alike, path_alike}
use Rattle.sled_core.proofs.Freed.CutEnds.{none_ends}
use Rattle.sled_core.proofs.Freed.PassedOver.{Has, HasOrPasses, none_opens, same_over}
use Rattle.sled_core.proofs.Reached.LeftBeside.{truth_alike}
use Rattle.sled_core.proofs.Reached.Marks.{less_than}
use Rattle.sled_core.proofs.Reached.Reread.{read_caps, read_truth, scans_of}
use Rattle.sled_core.proofs.Read.FoundLemmas.{pos_injective}
use Rattle.sled_core.proofs.Read.ScanLemmas.{one_more}
use Rattle.sled_core.proofs.Tail.GreatestMark.{greatest_is, mark_above, mark_below}
use Rattle.sled_core.proofs.Tail.Moved.{message_moved}
use Rattle.sled_core.proofs.Tail.Multiples.{lower_multiple, put_down}
use Rattle.sled_core.proofs.Tail.OfHistory.{opened_of}
use Rattle.sled_core.proofs.Tail.OneReading.{one_scan}
use Rattle.sled_core.proofs.Tail.OneTail.{from_below, in_below, reading_there, scan_there, segment_there}
use Rattle.sled_core.proofs.Tail.Rows.{IsWhole, met_stand, row_below, stand_in, stop_inside}
use Rattle.sled_core.proofs.Tail.SegmentsFrom.{greatest_above, mark_within, tail_low}
use Rattle.sled_core.proofs.Tail.Tails.{row, tail_first, whole}
use Rattle.sled_core.proofs.Torn.WrittenRecords.{AlikeAlong}

-- A log file reads as another one, but for segments that are gone: each segment that is found in the other is found in it, in the same slot, and is read there
-- as in the other, with the same bytes up to where the reading ends. Each other one that is found in it is gone.
pub record ReadsAs (sum : List ℕ → ℕ) (size least : ℕ) (H : History) (base : ℕ) (shown left : List ℕ) : Type 0 where
  pub kept : (s : Segment) → IsFoundSegment sum size shown 0 s → IsFoundSegment sum size left 0 s
  pub scans : (t : Scanned) → IsFoundSegment sum size shown 0 t.segment → IsScanned sum size shown t → IsScanned sum size left t
  pub bytes : (s : Segment) → IsFoundSegment sum size shown 0 s → (ms : List ScannedRecord) (next : ℕ)
      → IsPath sum size shown s.slot s.place 20 ms next → AlikeAlong shown left s.slot 20 ms
  pub others : (s : Segment) → IsFoundSegment sum size left least s → IsFoundSegment sum size shown least s ⊎ IsGoneSegment sum size left H base s

-- one that is found from a place on is found
pub found_low : (sum : List ℕ → ℕ) (size : ℕ) (log : List ℕ) (least : ℕ) (s : Segment) → IsFoundSegment sum size log least s → IsFoundSegment sum size log 0 s
found_low sum size log least s found = record { slot = found.slot; header = found.header; not_below = omega arith }

-- A recoverable file, and one that reads as it, with the order of its segments. Those that are gone lie below the tail.
module _ (sum : List ℕ → ℕ) (size : ℕ) (some : 256 ≤ size) (shown left : List ℕ) (H : History) (A : ℕ) (first : SnapshotModel) (cut : ℕ × Option ℕ)
    (is : IsRecoverableLog sum size shown H A first cut) (base : ℕ) (same : ReadsAs sum size (least_place size first) H base shown left)
    (low : base ≤ tail_begins size (least_place size first) is.ordering)
    (ordering : List Segment) (numbers : IsOrdering sum size left (least_place size first) ordering) where
  abbrev pub least : ℕ
  least = least_place size first

  abbrev pub begins : ℕ
  begins = tail_begins size least is.ordering

  -- The segments.

  pub shown_found : (s : Segment) → Contains is.ordering s → IsFoundSegment sum size shown 0 s
  shown_found s there = found_low sum size shown least s ((is.numbers.found s).0 there)

  -- Each that is shown is there,
  pub shown_there : (s : Segment) → Contains is.ordering s → Contains ordering s
  shown_there s there =
      let its = same.kept s (shown_found s there) in
      let found = (is.numbers.found s).0 there in
      (numbers.found s).1 (record { slot = its.slot; header = its.header; not_below = found.not_below })

  -- and each that is there is shown, or gone.
  pub shown_or_gone : (s : Segment) → Contains ordering s → Contains is.ordering s ⊎ IsGoneSegment sum size left H base s
  shown_or_gone s there = elim (same.others s ((numbers.found s).0 there)) [
    | inl found ↦ inl ((is.numbers.found s).1 found)
    | inr gone ↦ inr gone
  ]

  pub all_marks : (s : Segment) → Contains ordering s → IsMarkOf H s
  all_marks s there = elim (shown_or_gone s there) [ inl had ↦ is.marks s had | inr gone ↦ gone.is_mark ]

  -- A reading of one that is shown is one of it here.
  pub still_read : (t : Scanned) → Contains is.ordering t.segment → IsScanned sum size shown t → IsScanned sum size left t
  still_read t there = same.scans t (shown_found t.segment there)

  reading_shown : (t : Scanned) → Contains is.scanned t → IsTrueReading sum size left H t.segment
  unfolding IsScan
  reading_shown t there =
      let had = segment_there sum size shown is.ordering is.scanned is.reads t there in
      let read = still_read t had.0 had.1 in
      let alike = same.bytes t.segment (shown_found t.segment had.0) t.met t.stop had.1.0 in
      record {
        scan = t;
        segment = refl;
        read = read;
        truth = truth_alike sum size shown left H t.segment.slot t.segment.place 20 t.met t.stop alike read.0 (λ x met. is.truth t x there met);
        caps = is.caps t there;
      }

  pub each_read : (s : Segment) → Contains ordering s → IsTrueReading sum size left H s
  each_read s there = elim (shown_or_gone s there) [
    | inl had ↦ (let t = scan_there sum size shown is.ordering is.scanned is.reads s had in subst (IsTrueReading sum size left H) t.2 (reading_shown t.0 t.1))
    | inr gone ↦ gone.reading
  ]

  -- So all of them are read, and all of the history.
  abbrev pub readings : (xs : List Scanned) × AreScanned sum size left ordering xs
  readings = scans_of sum size left H ordering each_read

  pub all_truth : (t : Scanned) (x : ScannedRecord) → Contains readings.0 t → Contains t.met x → IsOfHistory sum size left H x
  all_truth = read_truth sum size left H ordering each_read readings.0 readings.1

  pub all_caps : (t : Scanned) → Contains readings.0 t → NothingBehind size H t.segment.place t.stop t.why
  all_caps = read_caps sum size left H ordering each_read readings.0 readings.1

  -- A reading of one that is shown is a reading of it there.
  pub shown_reading : (t : Scanned) → Contains readings.0 t → Contains is.ordering t.segment → Contains is.scanned t
  shown_reading t there had =
      let read = (segment_there sum size left ordering readings.0 readings.1 t there).1 in
      let was = scan_there sum size shown is.ordering is.scanned is.reads t.segment had in
      let here = still_read was.0 (subst (Contains is.ordering) (sym was.2) had) was.3 in
      subst (Contains is.scanned) (one_scan sum size left was.0 t was.2 here read) was.1

  pub reading_shown_there : (t : Scanned) → Contains is.scanned t → Contains readings.0 t
  reading_shown_there t there =
      let had = segment_there sum size shown is.ordering is.scanned is.reads t there in
      reading_there sum size left ordering readings.0 readings.1 t (shown_there t.segment had.0) (still_read t had.0 had.1)

  -- The tail.

  -- No mark of one that is gone is the greatest.
  pub same_greatest : greatest_mark least ordering ≡ greatest_mark least is.ordering
  same_greatest = omega (arith, no_higher (greatest_is least ordering), no_lower (greatest_is least is.ordering)) where
    Is : List Segment → Type 0
    Is ss = (greatest_mark least ss ≡ least) ⊎ ((s : Segment) × Contains ss s × (s.mark ≡ pos (greatest_mark least ss)))

    no_higher : Is ordering → greatest_mark least ordering ≤ greatest_mark least is.ordering
    no_higher (inl at) = let above = greatest_above least is.ordering in omega (arith, at, above)
    no_higher (inr (s, there, mark)) = elim (shown_or_gone s there) [
      | inl had ↦ (let its = mark_within least is.ordering s had in omega (arith, its, ap place_of_mark mark))
      | inr gone ↦ (
          let under : greatest_mark least ordering < s.place = mark_below s.mark (greatest_mark least ordering) s.place mark gone.is_mark.below in
          let parts = put_down size (greatest_mark least is.ordering) in
          let lies = gone.below in
          omega (arith, under, lies, low, parts.0))
    ]

    no_lower : Is is.ordering → greatest_mark least is.ordering ≤ greatest_mark least ordering
    no_lower (inl at) = let above = greatest_above least ordering in omega (arith, at, above)
    no_lower (inr (s, there, mark)) = let its = mark_within least ordering s (shown_there s there) in omega (arith, its, ap place_of_mark mark)

  pub same_begins : tail_begins size least ordering ≡ begins
  same_begins = ap (λ n. n / size * size) same_greatest

  -- From the place on, below which the ones that are gone lie, a tail is one of the longer ordering.
  pub tail_among : (place : ℕ) (tail : List Scanned) → base ≤ place → IsTail sum size shown is.ordering place tail → IsTail sum size left ordering place tail
  tail_among place [] above none = λ s there at. elim (shown_or_gone s there) [
    | inl had ↦ none s had at
    | inr gone ↦ (let lies = gone.below in omega (arith, lies, at, above, some))
  ]
  tail_among place (x ∷ xs) above t =
      (shown_there x.segment t.0, t.1, still_read x t.0 t.2, on x.why t.3 (tail_among (place + size) xs (omega (arith, above))))
    where
      on : (why : ScanEnd) → GoesOn why xs (IsTail sum size shown is.ordering (place + size) xs)
          → (IsTail sum size shown is.ordering (place + size) xs → IsTail sum size left ordering (place + size) xs)
          → GoesOn why xs (IsTail sum size left ordering (place + size) xs)
      on Broken none rest = none
      on Full more rest = rest more
      on Capped more rest = rest more

  -- So the tail is the same.
  pub same_tail : IsTail sum size left ordering (tail_begins size least ordering) is.tail
  same_tail = subst (λ n. IsTail sum size left ordering n is.tail) (sym same_begins) (tail_among begins is.tail low is.is_tail)

  -- The cut.

  lower : least ≤ cut.0 / size * size
  lower = lower_multiple size some (stable_place first.stable) cut.0 is.not_below

  -- What is gone lies below the cut,
  below_cut : (s : Segment) → IsGoneSegment sum size left H base s → s.place ≤ cut.0
  below_cut s gone =
      let begin = tail_low size some H cut.0 is.ordering is.marks_below least lower in
      let parts = put_down size cut.0 in
      let lies = gone.below in
      omega (arith, lies, low, begin, parts.0)

  pub all_below : (s : Segment) → Contains ordering s → IsMarkBelow size H cut.0 s.mark
  all_below s there = elim (shown_or_gone s there) [
    | inl had ↦ is.marks_below s had
    | inr gone ↦ inl (less_than s.mark s.place cut.0 (below_cut s gone) gone.is_mark.below)
  ]

  -- The tail, where a segment was read.
  module _ (end : ℕ) (ends : tail_end is.tail ≡ Some end) where
    -- A batch that begins below the ones that are held ends below the tail's end: the greatest mark lies in no batch.
    ended : (b : Batch) → Contains H.batches b → b.low < base → (s : Segment) → IsGoneSegment sum size left H base s → least ≤ s.place → end ≤ b.peg → ⊥
    ended b known begun s gone not_below above = by (greatest_is least is.ordering) where
      parts : (begins + greatest_mark least is.ordering % size ≡ greatest_mark least is.ordering) × (begins % size ≡ 0)
      parts = put_down size (greatest_mark least is.ordering)

      by : (greatest_mark least is.ordering ≡ least) ⊎ ((t : Segment) × Contains is.ordering t × (t.mark ≡ pos (greatest_mark least is.ordering))) → ⊥
      by (inl at) = let lies = gone.below in omega (arith, at, lies, not_below, low, parts.0, some)
      by (inr (t, there, mark)) = elim ((is.marks t there).apart b known) [
        | inl lower ↦ (
            let under : greatest_mark least is.ordering < b.low = mark_below t.mark (greatest_mark least is.ordering) b.low mark lower in
            omega (arith, under, begun, low, parts.0))
        | inr higher ↦ (
            let over : b.peg ≤ greatest_mark least is.ordering = mark_above t.mark (greatest_mark least is.ordering) b.peg mark higher in
            none_ends sum size shown some H A first cut is end ends b known above (peg_below over (is.marks_below t there)))
      ] where
        peg_below : b.peg ≤ greatest_mark least is.ordering → IsMarkBelow size H cut.0 t.mark → b.peg < cut.0
        peg_below over (inl lies) =
            let under : greatest_mark least is.ordering < cut.0 = mark_below t.mark (greatest_mark least is.ordering) cut.0 mark lies in
            omega (arith, under, over)
        peg_below over (inr (n, at, within, no_message, no_batch, no_end)) =
            let same_mark : greatest_mark least is.ordering ≡ n = pos_injective (greatest_mark least is.ordering) n (sym mark ∙ at) in
            elim (no_end b known) [ inl lower ↦ lower | inr higher ↦ absurd (omega (arith, higher, over, same_mark)) ]

    -- So no batch is open in a segment that is gone,
    gone_closed : (t : Scanned) → Contains readings.0 t → IsGoneSegment sum size left H base t.segment → open_at end t.met ≡ None
    gone_closed t there gone = none_opens end t.met (λ x met. by x met (opens end x.what) refl) where
      its : Contains ordering t.segment × IsScanned sum size left t
      its = segment_there sum size left ordering readings.0 readings.1 t there

      read : IsWhole sum size left some t
      read = whole sum size left some least ordering numbers readings.0 readings.1 t there

      by : (x : ScannedRecord) → Contains t.met x → (b : Bool) → opens end x.what ≡ b → opens end x.what ≡ false
      by x met false test = test
      by x met true test =
          let c = opened_of sum size left H end x (all_truth t x there met) test in
          let lies = stand_in (t.segment.place + 20) t.met (t.segment.place + t.stop) (met_stand sum size left some t read) x met in
          let inside = stop_inside sum size left some t read in
          let under = gone.below in
          absurd (ended c.0 c.1 (omega (arith, lies.1, lies.2, c.2, inside, under)) t.segment gone ((numbers.found t.segment).0 its.0).not_below c.3)

    -- and the pass goes on over it.
    passed : HasOrPasses sum size some shown left first end (scanned_below end readings.0) (scanned_below end is.scanned)
    passed t there =
        let had = from_below sum size left end readings.0 t there in
        let x = tail_first sum size shown some least is.ordering is.numbers is.scanned is.reads begins is.tail is.is_tail end ends in
        elim (shown_or_gone t.segment (segment_there sum size left ordering readings.0 readings.1 t had.0).0) [
          | inl was ↦ inl (in_below sum size shown end is.scanned t (shown_reading t had.0 was) had.1)
          | inr gone ↦ inr (
            gone_closed t had.0 gone,
            x.0,
            in_below sum size shown end is.scanned x.0 x.1 (omega (arith, x.2, x.3)),
            (let lies = gone.below in omega (arith, lies, low, x.2, some)),
          )
        ]

    has_shown : Has sum size some shown left first end (scanned_below end readings.0) (scanned_below end is.scanned)
    has_shown t there =
        let had = from_below sum size shown end is.scanned t there in
        in_below sum size left end readings.0 t (reading_shown_there t had.0) had.1

    cut_there : cut_over size first end (scanned_below end readings.0) ≡ cut_over size first end (scanned_below end is.scanned)
    cut_there = same_over sum size some shown left first end (scanned_below end readings.0) (scanned_below end is.scanned)
        (row_below sum size left some end readings.0 (row sum size left some least ordering numbers readings.0 readings.1))
        (row_below sum size shown some end is.scanned (row sum size shown some least is.ordering is.numbers is.scanned is.reads))
        has_shown passed

  -- So the cut is the same.
  pub same_cut : cut ≡ cut_from size first readings.0 (tail_end is.tail)
  same_cut = is.is_cut ∙ by (tail_end is.tail) refl where
    by : (o : Option ℕ) → tail_end is.tail ≡ o → cut_from size first is.scanned o ≡ cut_from size first readings.0 o
    by None ends = refl
    by (Some end) ends = sym (cut_there end ends)

  -- What tables need.

  -- A message that is reached is reached here, with its item.
  module _ (s : Segment) (found : IsFoundSegment sum size shown 0 s) (n : Message) (r : IsReachedIn sum size shown s n) where
    last_alike : (part left (s.slot + r.at) r.met.len ≡ part shown (s.slot + r.at) r.met.len) × (s.slot + r.at + r.met.len ≤ length left)
    last_alike =
        let more = one_more sum size shown s.slot s.place 20 r.before r.at r.met r.path r.room (r.meets.place ∙ r.place) r.is_met in
        alike_last sum size shown left s.slot s.place 20 r.before r.at r.met r.path (same.bytes s found (r.before ++ r.met ∷ []) (r.at + r.met.len) more)

    reached_still : IsReachedIn sum size left s n
    reached_still = record {
      before = r.before;
      at = r.at;
      path = path_alike sum size shown left s.slot s.place 20 r.before r.at r.path (same.bytes s found r.before r.at r.path);
      room = r.room;
      place = r.place;
      lid = r.lid;
      met = r.met;
      is_met = met_alike sum size shown left (s.slot + r.at) (s.place / size) r.met last_alike.0 last_alike.1 r.is_met;
      meets = r.meets;
    }

    item_still : StandsInline sum size shown n n.pointer → StandsInline sum size left n n.pointer
    item_still = by n.pointer refl where
      by : (p : DiskPtr) → n.pointer ≡ p → StandsInline sum size shown n p → StandsInline sum size left n p
      by (Inline lid) pointer stands =
          let at : s.slot + r.at ≡ lid = sym (ap lid_of (sym pointer) ∙ r.lid) in
          let long : r.met.len ≡ n.size = r.meets.len in
          let bytes : part left (s.slot + r.at) n.size ≡ part shown (s.slot + r.at) n.size =
          subst (λ k. part left (s.slot + r.at) k ≡ part shown (s.slot + r.at) k) long last_alike.0 in
          let there = subst (λ k. part left k n.size ≡ part shown k n.size) at bytes in
          message_moved sum size shown left lid (n.place / size) n there (omega (arith, last_alike.1, at, long)) stands
      by (Blob lid place) pointer stands = tt

  read_on_still : (s : Segment) → IsFoundSegment sum size shown 0 s → IsReadOn sum size shown H s → IsReadOn sum size left H s
  unfolding IsScan
  read_on_still s found on =
      let t : Scanned = on.scan in
      let its = subst (IsFoundSegment sum size shown 0) (sym on.of) found in
      let read = same.scans t its on.read in
      let alike = same.bytes t.segment its t.met t.stop on.read.0 in
      record {
        scan = t;
        of = on.of;
        read = read;
        goes = on.goes;
        truth = truth_alike sum size shown left H t.segment.slot t.segment.place 20 t.met t.stop alike read.0 on.truth;
      }

  needed_still : (page : ℕ) (m : Message) → Contains (table H cut.0 page) m → IsSegmentOf sum size left H cut.0 m × StandsInline sum size left m m.pointer
  needed_still page m entry =
      let had = is.needed page m entry in
      let of = had.0 in (
        record {
          segment = of.segment;
          found = same.kept of.segment of.found;
          place = of.place;
          reached = reached_still of.segment of.found m of.reached;
          whole = λ n known number lower. reached_still of.segment of.found n (of.whole n known number lower);
          full = λ under. read_on_still of.segment of.found (of.full under);
        },
        item_still of.segment of.found m of.reached had.1,
      )

  -- The file can be recovered, with the same cut.
  pub recoverable_with : IsRecoverableLog sum size left H A first cut
  recoverable_with = record {
    ordering = ordering;
    numbers = numbers;
    scanned = readings.0;
    reads = readings.1;
    tail = is.tail;
    is_tail = same_tail;
    marks = all_marks;
    truth = all_truth;
    caps = all_caps;
    tail_there = elim is.tail_there [
      | inl (s, there, at) ↦ inl (s, shown_there s there, at ∙ sym same_begins)
      | inr at ↦ inr (same_begins ∙ at)
    ];
    is_cut = same_cut;
    not_below = is.not_below;
    passes = is.passes;
    marks_below = all_below;
    placed = is.placed;
    batched = is.batched;
    needed = needed_still;
  }
