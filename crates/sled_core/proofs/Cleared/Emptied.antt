-- A slot of a log file is emptied whose segment lies below all that is held, and in which no table needs anything: the file stands as it did, without it.
use Rattle.std.proofs.Common.{◌≡◌, ◌≢◌, ◌⊎◌, ◌∙◌, ◌+◌, ◌*◌, ◌/◌, ◌%◌, ◌≤◌, ◌<◌, ◌==◌, ℕ, Bool, true, not, List, [], ◌∷◌, length, replicate, get_or, sym, ap, subst, arith, inl, inr}
use Rattle.std.specs.List.{All, Contains, filter}
use Rattle.std.proofs.lemmas.Bool.{cases_eq, cases_lt, cases_order}
use Rattle.std.proofs.lemmas.Bool.Decides.{eqb_tells}
use Rattle.std.proofs.lemmas.List.Elements.{All-cons}
use Rattle.sled_codec.specs.History.{Message, History, table}
use Rattle.sled_codec.specs.Places.{part}
use Rattle.sled_codec.specs.Snapshots.{SnapshotModel}
use Rattle.sled_store.specs.Device.{overwritten}
use Rattle.sled_store.specs.Marks.{slot_with}
use Rattle.sled_store.proofs.Segments.Elements.{from_filter, in_filter, in_first}
use Rattle.sled_store.proofs.Segments.FilledLemmas.{filled_part, filled_zero, slot_before}
use Rattle.sled_core.specs.declared.iobuf.SegmentPosition.{SegmentPosition}
use Rattle.sled_core.specs.declared.iterator.Segment.{Segment}
use Rattle.sled_core.specs.OpenBatches.{stable_below}
use Rattle.sled_core.specs.Recoverable.{NoHeaderOfZeros}
use Rattle.sled_core.specs.inside.Full.{StandsFull}
use Rattle.sled_core.specs.inside.Reached.{BegunSegment, LeadsTo, StandsAmong, StandsIn}
use Rattle.sled_core.specs.inside.Scan.{IsFoundSegment}
use Rattle.sled_core.specs.Tail.{IsScanned, Scanned, IsOrdering, least_place}
use Rattle.sled_core.proofs.OwnLog.Kept.{same_parts}
use Rattle.sled_core.proofs.Reached.Higher.{known_in}
use Rattle.sled_core.proofs.Reached.KeptStands.{found_kept, kept_among, scan_kept}
use Rattle.sled_core.proofs.Reached.StandsTo.{StandsFrom, StandsTo, tail_of_snapshot}
use Rattle.sled_core.proofs.Reached.StartedStands.{slot_needed}
use Rattle.sled_core.proofs.Tail.Moved.{one_in_slot}
use Rattle.sled_core.proofs.Tail.Multiples.{put_down}
use Rattle.sled_core.proofs.Tail.OneTail.{rises_of, segment_there}
use Rattle.sled_core.proofs.Tail.SegmentsFrom.{ascends_of, rises_picked}
use Rattle.sled_core.proofs.Torn.AlikeSlots.{SameIn, found_same, scan_same, slot_found}
use Rattle.sled_core.proofs.Torn.KeptSlots.{KeepsSlots}
use Rattle.sled_core.proofs.Torn.WrittenBegun.{none_in_zeros}

-- A file has zeros in a slot, and in each other slot the bytes of another file.
pub record IsEmptied (size k : ℕ) (old left : List ℕ) : Type 0 where
  pub others : (j : ℕ) → j ≢ k → SameIn size old left j
  pub back : (j : ℕ) → j ≢ k → SameIn size left old j
  pub zeros : (i : ℕ) → k * size ≤ i → i < k * size + size → get_or left i 0 ≡ 0

-- So it is where zeros are written over the slot of a file.
pub zeros_empty : (size k : ℕ) (log : List ℕ) → 0 < size → k * size < length log → IsEmptied size k log (overwritten log (k * size) (replicate size 0))
zeros_empty size k log some begins = record {
  others = λ j other lid len low high there. filled_part size some (k ∷ []) log j lid len within (one j other) low high;
  back = λ j other lid len low high there. sym (filled_part size some (k ∷ []) log j lid len within (one j other) low high);
  zeros = λ i low high. filled_zero size some (k ∷ []) log k i within (in_first k []) low high;
} where
  within : All (λ n. n * size < length log) (k ∷ [])
  within = All-cons (λ n. n * size < length log) k [] begins (λ n d lt. absurd (omega (arith, lt)))

  one : (j : ℕ) → j ≢ k → All (λ n. n ≢ j) (k ∷ [])
  one j other = All-cons (λ n. n ≢ j) k [] (λ same. other (sym same)) (λ n d lt. absurd (omega (arith, lt)))

-- And so it is of a file that is as long, and has zeros there and elsewhere the same bytes.
pub bytes_empty : (size k : ℕ) (old left : List ℕ) → length left ≡ length old
    → ((i : ℕ) → (i < k * size) ⊎ (k * size + size ≤ i) → get_or left i 0 ≡ get_or old i 0)
    → ((i : ℕ) → k * size ≤ i → i < k * size + size → get_or left i 0 ≡ 0) → IsEmptied size k old left
bytes_empty size k old left long same zeros = record {
  others = λ j other lid len low high there. alike j other lid len low high;
  back = λ j other lid len low high there. sym (alike j other lid len low high);
  zeros = zeros;
} where
  outside : (j i : ℕ) → j ≢ k → j * size ≤ i → i < j * size + size → (i < k * size) ⊎ (k * size + size ≤ i)
  outside j i other low high = elim (cases_order j k) [
    | inl same ↦ absurd (other same)
    | inr (inl lower) ↦ inl (let apart = slot_before size j k lower in omega (arith, apart, high))
    | inr (inr higher) ↦ inr (let apart = slot_before size k j higher in omega (arith, apart, low))
  ]

  alike : (j : ℕ) → j ≢ k → (lid len : ℕ) → j * size ≤ lid → lid + len ≤ j * size + size → part left lid len ≡ part old lid len
  alike j other lid len low high = same_parts left old lid len long (λ i above below. same i (outside j i other (omega (arith, low, above)) (omega (arith, high, below))))

-- Each segment that is found in a slot lies below a place.
abbrev pub LiesBelow : (List ℕ → ℕ) → ℕ → List ℕ → ℕ → ℕ → ℕ → Type 0
LiesBelow sum size log least k place = (s : Segment) → IsFoundSegment sum size log least s → s.slot ≡ k * size → s.place + size ≤ place

-- So it is where the one that is there does; there is no other.
pub its_below : (sum : List ℕ → ℕ) (size : ℕ) (log : List ℕ) (least low : ℕ) (x : Segment) → IsFoundSegment sum size log low x
    → (k place : ℕ) → x.slot ≡ k * size → x.place + size ≤ place → LiesBelow sum size log least k place
its_below sum size log least low x found k place here under = λ s has at.
    let same = one_in_slot sum size log least low s x has found (at ∙ sym here) in omega (arith, same, under)

-- No entry of a table has its record in a slot, at each cut from one place up to another.
abbrev pub NoneNeeds : ℕ → History → ℕ → ℕ → ℕ → Type 0
NoneNeeds size H k from to = (cut : ℕ) → from ≤ cut → cut ≤ to → (page : ℕ) (m : Message) → Contains (table H cut page) m → slot_with size m ≢ k

module _ (sum : List ℕ → ℕ) (none : NoHeaderOfZeros sum) (size : ℕ) (some : 256 ≤ size) (k : ℕ) (old left : List ℕ)
    (is_emptied : IsEmptied size k old left) where
  -- the slots that keep their bytes
  abbrev Others : ℕ → Type 0
  Others j = j ≢ k

  -- Each segment that is found now lies in one of them, and was found before.
  its_slot : (least : ℕ) (s : Segment) → IsFoundSegment sum size left least s → Others (s.slot / size)
  its_slot least s found same =
      let here : s.slot ≡ k * size = slot_found sum size left least s found ∙ ap (λ n. n * size) same in
      none_in_zeros sum size none (omega (arith, some)) left s.slot
      (λ i low high. is_emptied.zeros i (omega (arith, here, low)) (omega (arith, here, high))) _ s.mark found.header

  was_found : (least : ℕ) (s : Segment) → IsFoundSegment sum size left least s → IsFoundSegment sum size old least s
  was_found least s found =
      let k' : ℕ = s.slot / size in
      found_same sum size left old k' (is_emptied.back k' (its_slot least s found)) (omega (arith, some)) least s (slot_found sum size left least s found) found

  keeps : KeepsSlots sum size Others old left
  keeps = record {
    before = was_found;
    found = λ j other. found_same sum size old left j (is_emptied.others j other) (omega (arith, some));
    met = λ j other place mark header. scan_same sum size old left j (is_emptied.others j other) (is_emptied.back j other) place;
    met_before = λ j other place mark header. scan_same sum size left old j (is_emptied.back j other) (is_emptied.others j other) place;
  }

  -- Each other one that was found is found and read as it was.
  still_found : (least : ℕ) (s : Segment) → IsFoundSegment sum size old least s → Others (s.slot / size) → IsFoundSegment sum size left least s
  still_found = found_kept sum size Others old left keeps is_emptied.others

  still_read : (least : ℕ) (t : Scanned) → IsFoundSegment sum size old least t.segment → Others (t.segment.slot / size)
      → IsScanned sum size old t → IsScanned sum size left t
  still_read least t found other scan = scan_kept sum size Others old left keeps is_emptied.others least t.segment found other t.met t.stop t.why scan

  -- What begins no lower than the place below which the slot's segment lies is in another slot.
  beside : (least place : ℕ) → LiesBelow sum size old least k place
      → (s : Segment) → IsFoundSegment sum size old least s → place ≤ s.place → Others (s.slot / size)
  beside least place gone s found low same =
      let under = gone s found (slot_found sum size old least s found ∙ ap (λ n. n * size) same) in
      omega (arith, under, low, some)

  -- The segments in other slots.
  is_other : Segment → Bool
  is_other s = not (s.slot / size == k)

  other_is : (s : Segment) → Others (s.slot / size) → is_other s ≡ true
  unfolding is_other
  other_is s other = elim (eqb_tells (s.slot / size) k) [ inl same ↦ absurd (other same.1) | inr differs ↦ ap not differs.0 ]

  other_in : (s : Segment) → is_other s ≡ true → Others (s.slot / size)
  unfolding is_other
  other_in s is same = elim (eqb_tells (s.slot / size) k) [ inl at ↦ cc | inr differs ↦ differs.1 same ]

  without_slot : (least : ℕ) (ordering : List Segment) → IsOrdering sum size old least ordering → IsOrdering sum size left least (filter is_other ordering)
  without_slot least ordering numbers = record {
    ascending = ascends_of (filter is_other ordering) (rises_picked is_other ordering (rises_of ordering numbers.ascending));
    found = λ s. (
      λ there. let had = from_filter is_other ordering s there in still_found least s ((numbers.found s).0 had.0) (other_in s had.1),
      λ has. in_filter is_other ordering s ((numbers.found s).1 (was_found least s has)) (other_is s (its_slot least s has)),
    );
    placed = λ s there. numbers.placed s (from_filter is_other ordering s there).0;
  }

  -- The file stands up to the same place.
  module _ (H : History) (A : ℕ) (first : SnapshotModel) (reach : ℕ) (is : StandsTo sum size old H A first reach)
      (gone : LiesBelow sum size old (least_place size first) k (is.from / size * size)) (unneeded : NoneNeeds size H k is.from reach) where
    pub emptied_to : StandsFrom sum size left H A first reach is.from
    emptied_to = kept_among sum size Others old left keeps is_emptied.others H A first reach is (filter is_other is.ordering)
        (without_slot (least_place size first) is.ordering is.numbers)
        (λ s there. other_in s (from_filter is_other is.ordering s there).1)
        (λ s there low. beside (least_place size first) (is.from / size * size) gone s ((is.numbers.found s).0 there) low)
        (λ cut low high page m entry same.
        unneeded cut low high page m entry (sym (slot_needed sum size old H cut m (is.needed cut low high page m entry).0) ∙ same))
        some

    abbrev now : StandsTo sum size left H A first reach
    now = emptied_to.0

    abbrev least : ℕ
    least = least_place size first

    -- A segment in another slot stands in it as it did.
    stands_still : (x : SegmentPosition) (so_far : ℕ) {records : ℕ} → x.slot ≢ k * size → StandsIn sum size old least is.scanned x so_far records
        → StandsIn sum size left least now.scanned x so_far records
    stands_still x so_far other its = record {
      only = λ s found same. its.only s (was_found least s found) same;
      own = λ s found here. its.own s (was_found least s found) here;
      read = λ later.
          let r = its.read later in
          let was = r.2 in
          let had = segment_there sum size old is.ordering is.scanned is.reads was.scan was.there in
          let found = (is.numbers.found was.scan.segment).0 had.0 in
          let differs : Others (was.scan.segment.slot / size) = (λ same.
          other (sym was.in_slot ∙ slot_found sum size old least was.scan.segment found ∙ ap (λ n. n * size) same)) in (
            r.0,
            r.1,
            record {
              scan = was.scan;
              there = known_in sum size left H A first reach now was.scan (still_found least was.scan.segment found differs)
                  (still_read least was.scan found differs had.1);
              in_slot = was.in_slot;
              at_place = was.at_place;
              ended = was.ended;
              ends = was.ends;
            },
            r.3,
            r.4,
          );
    }

    -- Where the segment in front of one is gone, that begins below what was reached, or at the snapshot's segment: else a mark lay behind the stable place.
    led_still : (place : ℕ) → LeadsTo sum size old least reach place → (place < reach) ⊎ (place ≤ least) ⊎ LeadsTo sum size left least reach place
    led_still place l = elim (cases_eq (l.scan.segment.slot / size) k) [
      | inr other ↦ inr (inr (record {
        scan = l.scan;
        found = still_found least l.scan.segment l.found other;
        read = still_read least l.scan l.found other l.read;
        next = l.next;
        goes = l.goes;
        below = l.below;
      }))
      | inl same ↦ (
          let at = slot_found sum size old least l.scan.segment l.found ∙ ap (λ n. n * size) same in
          let under : place ≤ is.from / size * size = (let lies = gone l.scan.segment l.found at in omega (arith, lies, l.next)) in
          let low = put_down size is.from in
          let high = is.from_high in
          let far = is.passes in
          let tail = is.tail_from in
          elim (cases_lt place reach) [
            | inl below ↦ inl below
            | inr above ↦ (
                let here : is.from / size * size ≡ place = omega (arith, under, low.0, high, far, above) in
                let aligned = subst (λ n. n % size ≡ 0) here low.1 in
                inr (inl (tail_of_snapshot sum size old some H A first reach is place aligned (omega (arith, far, above)) (omega (arith, tail, here)))))
          ])
    ]

  -- So does a log that goes on in a segment, and a log whose segments before a place are full, where the segments that were begun lie in other slots.

  module _ (H : History) (reach : ℕ) (first : SnapshotModel) {site : SegmentPosition} {from : ℕ} {others : List BegunSegment}
      {held : ℕ} (among : StandsAmong sum held size old site from others reach H first)
      (gone : LiesBelow sum size old (least_place size first) k (among.stands.from / size * size)) (unneeded : NoneNeeds size H k among.stands.from reach)
      (here : site.slot ≢ k * size) (behind : (x : BegunSegment) → Contains others x → x.site.slot ≢ k * size) where
    abbrev A : ℕ
    A = stable_below reach H.batches

    pub emptied_stands : (now : StandsAmong sum held size left site from others reach H first) × (now.stands.from ≡ among.stands.from)
    emptied_stands = (
      record {
        stands = (emptied_to H A first reach among.stands gone unneeded).0;
        low = (let same = (emptied_to H A first reach among.stands gone unneeded).1 in let low = among.low in omega (arith, same, low));
        reached = among.reached;
        led = elim among.led [
          | inl below ↦ inl below
          | inr (inl low) ↦ inr (inl low)
          | inr (inr l) ↦ led_still H A first reach among.stands gone unneeded site.place l
        ];
        here = stands_still H A first reach among.stands gone unneeded site from here among.here;
        behind = λ x has. stands_still H A first reach among.stands gone unneeded x.site x.from (behind x has) (among.behind x has);
        apart = among.apart;
        last = λ s found. among.last s (was_found (least_place size first) s found);
        below = λ s found. among.below s (was_found (least_place size first) s found);
      },
      (emptied_to H A first reach among.stands gone unneeded).1,
    )

  module _ (H : History) (reach : ℕ) (first : SnapshotModel) {place : ℕ} {others : List BegunSegment}
      {held : ℕ} (full : StandsFull sum held size old place others reach H first)
      (gone : LiesBelow sum size old (least_place size first) k (full.stands.from / size * size)) (unneeded : NoneNeeds size H k full.stands.from reach)
      (behind : (x : BegunSegment) → Contains others x → x.site.slot ≢ k * size) where
    abbrev A' : ℕ
    A' = stable_below reach H.batches

    -- The full segment before the place is there still: where the snapshot's lies no lower, it wouldn't have been found.
    leads_still : LeadsTo sum size left (least_place size first) reach place
    leads_still = elim (led_still H A' first reach full.stands gone unneeded place full.leads) [
      | inl below ↦ absurd (let above = full.near.above in omega (arith, below, above))
      | inr (inl low) ↦ absurd (let its = full.leads.found.not_below in let next = full.leads.next in omega (arith, low, its, next, some))
      | inr (inr l) ↦ l
    ]

    pub emptied_full : (now : StandsFull sum held size left place others reach H first) × (now.stands.from ≡ full.stands.from)
    emptied_full = (
      record {
        stands = (emptied_to H A' first reach full.stands gone unneeded).0;
        low = (let same = (emptied_to H A' first reach full.stands gone unneeded).1 in let low = full.low in omega (arith, same, low));
        leads = leads_still;
        near = full.near;
        behind = λ x has. stands_still H A' first reach full.stands gone unneeded x.site x.from (behind x has) (full.behind x has);
        last = λ s found. full.last s (was_found (least_place size first) s found);
        below = λ s found. full.below s (was_found (least_place size first) s found);
      },
      (emptied_to H A' first reach full.stands gone unneeded).1,
    )
