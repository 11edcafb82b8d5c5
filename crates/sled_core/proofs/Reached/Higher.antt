-- A log file that stands up to a place stands up to a higher one, where the reading of one segment ends: that segment is led to, and nothing of the history begins before it. Its stable place is then raised to where no batch is open.
use Rattle.std.proofs.Common.{◌≡◌, ◌≢◌, ◌⊎◌, ◌∙◌, ◌+◌, ◌*◌, ◌/◌, ◌%◌, ◌<◌, ◌≤◌, ℕ, List, refl, sym, ap, subst, arith, inl, inr}
use Rattle.std.specs.List.{Contains}
use Rattle.std.proofs.lemmas.Bool.{cases_lt, cases_order}
use Rattle.sled_codec.specs.History.{Message, Batch, History, table}
use Rattle.sled_codec.specs.Snapshots.{SnapshotModel, stable_place}
use Rattle.sled_store.proofs.Segments.TableEntries.{from_table}
use Rattle.sled_core.specs.declared.iterator.Segment.{Segment}
use Rattle.sled_core.specs.declared.iterator.scan.ScanEnd.TheVariants.{Broken}
use Rattle.sled_core.specs.inside.Recoverable.{NoMessageBegins, StandsInline, IsReachedIn, IsReadOn, IsSegmentOf}
use Rattle.sled_core.specs.inside.Scan.{IsFoundSegment}
use Rattle.sled_core.specs.Scan.{IsScan}
use Rattle.sled_core.specs.Tail.{Scanned, IsScanned, least_place}
use Rattle.sled_store.proofs.Histories.Ascending.{Ascends}
use Rattle.sled_store.proofs.Histories.EarlierEntries.{entry_earlier}
use Rattle.sled_core.proofs.Tail.OfHistory.{message_of}
use Rattle.sled_core.proofs.Tail.OneTail.{rises_of, one_at_place, segment_there, reading_there}
use Rattle.sled_core.proofs.Tail.Rows.{path_covers, stop_inside}
use Rattle.sled_core.proofs.Tail.Multiples.{put_down, one_multiple, lower_multiple}
use Rattle.sled_core.proofs.Tail.Tails.{further, whole}
use Rattle.sled_core.proofs.Reached.ReachedEntries.{reached_of}
use Rattle.sled_core.proofs.Reached.ReadOn.{full_goes, read_on}
use Rattle.sled_core.proofs.Reached.Marks.{mark_higher}
use Rattle.sled_core.specs.OpenBatches.{stable_below}
use Rattle.sled_core.proofs.Reached.StableBelow.{stable_closed, stable_low, stable_rises}
use Rattle.sled_core.proofs.Reached.StandsTo.{StandsFrom, StandsTo}

-- The segment before one at this place begins below what was reached, and leads on.
pub record IsLedTo (size : ℕ) (scanned : List Scanned) (reach place : ℕ) : Type 0 where
  pub scan : Scanned
  pub there : Contains scanned scan
  pub next : scan.segment.place + size ≡ place
  pub goes : scan.why ≢ Broken
  pub below : scan.segment.place < reach

-- A segment at this place is led to: it begins below what was reached, or where the segments begin, or behind one that leads on.
abbrev pub IsBegunOrLedTo : ℕ → List Scanned → ℕ → ℕ → ℕ → Type 0
IsBegunOrLedTo size scanned least reach place = (place < reach) ⊎ (place ≤ least) ⊎ IsLedTo size scanned reach place

-- a segment that is found is there with what is met in it
pub known_in : (sum : List ℕ → ℕ) (size : ℕ) (log : List ℕ) (H : History) (A : ℕ) (first : SnapshotModel) (reach : ℕ) (is : StandsTo sum size log H A first reach) (t : Scanned) → IsFoundSegment sum size log (least_place size first) t.segment → IsScanned sum size log t
    → Contains is.scanned t
known_in sum size log H A first reach is t found scan = reading_there sum size log is.ordering is.scanned is.reads t ((is.numbers.found t.segment).1 found) scan

-- The stable place is raised to one that was reached, at which no batch is open. What is held counts from where it did.
pub stands_raised : (sum : List ℕ → ℕ) (size : ℕ) (log : List ℕ) → 256 ≤ size → (H : History) (A : ℕ) (first : SnapshotModel) (reach : ℕ) → (is : StandsTo sum size log H A first reach) (to : ℕ) → A ≤ to → to ≤ reach
    → ((b : Batch) → Contains H.batches b → b.low < to → b.peg < to) → StandsFrom sum size log H to first reach is.from
stands_raised sum size log some H A first reach is to up within closed = (
  record {
    ordering = is.ordering;
    numbers = is.numbers;
    scanned = is.scanned;
    reads = is.reads;
    marks = is.marks;
    truth = is.truth;
    caps = is.caps;
    not_below = let low = is.not_below in omega (arith, low, up);
    passes = within;
    marks_below = λ s there. mark_higher size some H A to up s.mark (is.marks_below s there);
    placed = is.placed;
    batched = is.batched;
    closed = closed;
    from = is.from;
    from_low = is.from_low;
    from_high = let high = is.from_high in omega (arith, high, up);
    tail_from = is.tail_from;
    gapless = is.gapless;
    needed = is.needed;
  },
  refl,
)

-- what leads to a segment does so where it is read as before
pub led_as_before : (size : ℕ) (xs ys : List Scanned) (least reach place : ℕ) → ((t : Scanned) → Contains xs t → t.why ≢ Broken → Contains ys t) → IsBegunOrLedTo size xs least reach place → IsBegunOrLedTo size ys least reach place
led_as_before size xs ys least reach place stays (inl below) = inl below
led_as_before size xs ys least reach place stays (inr (inl first_one)) = inr (inl first_one)
led_as_before size xs ys least reach place stays (inr (inr last)) = inr (inr (record { scan = last.scan; there = stays last.scan last.there last.goes; next = last.next; goes = last.goes; below = last.below }))

module _ (sum : List ℕ → ℕ) (size : ℕ) (log : List ℕ) (some : 256 ≤ size) (H : History) (A : ℕ) (first : SnapshotModel) (reach : ℕ) (is : StandsTo sum size log H A first reach) (ordered : Ascends H.messages)
    (y : Scanned) (known : Contains is.scanned y) (far : reach ≤ y.segment.place + y.stop) (led : IsBegunOrLedTo size is.scanned (least_place size first) reach y.segment.place)
    (between : NoMessageBegins H reach y.segment.place) where
  abbrev least : ℕ
  least = least_place size first

  abbrev place : ℕ
  place = y.segment.place

  abbrev high : ℕ
  high = place + y.stop

  y_known : Contains is.ordering y.segment × IsScanned sum size log y
  y_known = segment_there sum size log is.ordering is.scanned is.reads y known

  y_found : IsFoundSegment sum size log least y.segment
  y_found = (is.numbers.found y.segment).0 y_known.0

  aligned : place % size ≡ 0
  aligned = (whole sum size log some least is.ordering is.numbers is.scanned is.reads y known).1

  inside : (t : Scanned) → Contains is.scanned t → t.stop ≤ size
  inside t there = stop_inside sum size log some t (whole sum size log some least is.ordering is.numbers is.scanned is.reads t there)

  multiples : (a b : ℕ) → a % size ≡ 0 → b % size ≡ 0 → a < b → a + size ≤ b
  multiples = further sum size log some least is.ordering is.numbers is.scanned is.reads

  -- where what is held begins, which isn't below the segment of the snapshot
  abbrev held_begins : ℕ
  held_begins = is.from / size * size

  held_above : least ≤ held_begins
  held_above = lower_multiple size some (stable_place first.stable) is.from is.from_low

  -- No gap.

  abbrev Goes : ℕ → Type 0
  Goes z = (t : Scanned) × Contains is.scanned t × (t.segment.place ≡ z) × ((high ≤ z + t.stop) ⊎ ((t.why ≢ Broken) × (u : Segment) × Contains is.ordering u × (u.place ≡ z + size)))

  -- a segment that ends below what was reached leads on
  goes_on : (z : ℕ) → z % size ≡ 0 → held_begins ≤ z → z + size < reach → Goes z
  goes_on z at low under =
      let found = is.gapless z at low (omega (arith, under)) in
      let short = inside found.0 found.1 in
      (found.0, found.1, found.2, elim found.3 [ inl end ↦ absurd (omega (arith, end, short, under)) | inr leads ↦ inr leads ])

  goes_to : (z : ℕ) → z % size ≡ 0 → held_begins ≤ z → z < place → IsBegunOrLedTo size is.scanned least reach place → Goes z
  goes_to z at low under (inl begun) = let apart = multiples z place at aligned under in goes_on z at low (omega (arith, apart, begun))
  goes_to z at low under (inr (inl first_one)) = let begins = held_above in absurd (omega (arith, low, under, first_one, begins))
  goes_to z at low under (inr (inr last)) =
      let t : Scanned = last.scan in
      let next = last.next in
      let below = last.below in
      let t_at = (whole sum size log some least is.ordering is.numbers is.scanned is.reads t last.there).1 in
      elim (cases_order z t.segment.place) [
        | inl same ↦ (t, last.there, sym same, inr (last.goes, y.segment, y_known.0, omega (arith, next, same)))
        | inr (inl lower) ↦ (let apart = multiples z t.segment.place at t_at lower in goes_on z at low (omega (arith, apart, below)))
        | inr (inr higher) ↦ (let apart = multiples t.segment.place z t_at at higher in absurd (omega (arith, apart, next, under)))
      ]

  gapless : (z : ℕ) → z % size ≡ 0 → held_begins ≤ z → z < high → Goes z
  gapless z at low under = elim (cases_order z place) [
    | inl same ↦ (y, known, sym same, inl (omega (arith, same)))
    | inr (inl lower) ↦ goes_to z at low lower led
    | inr (inr higher) ↦ (let apart = multiples place z aligned at higher in let short = inside y known in absurd (omega (arith, apart, short, under)))
  ]

  -- What is needed.

  -- a message that begins in the segment below the place is reached
  read_here : (n : Message) → Contains H.messages n → place ≤ n.place → n.place < high → IsReachedIn sum size log y.segment n × StandsInline sum size log n n.pointer
  unfolding IsScan
  read_here n there above lower =
      let behind = (is.placed n there).begins.behind in
      let short = inside y known in
      let multiple = one_multiple size some place n.place aligned above (omega (arith, lower, short)) in
      let parts = put_down size n.place in
      let x = path_covers sum size log y.segment.slot place 20 y.met y.stop y_known.1.0 n.place (omega (arith, behind, multiple, parts.0)) lower in
      let its = message_of sum size log H ordered x.0 (is.truth y x.0 known x.1) n there x.2 x.3 in
      (reached_of sum size log y y_known.1 x.0 x.1 n its.0, its.1)

  -- what begins from what was reached on begins in the segment
  begins_here : (n : Message) → Contains H.messages n → reach ≤ n.place → n.place < high → (place ≤ n.place) × (n.place / size * size ≡ place)
  begins_here n there above lower =
      let short = inside y known in
      elim (between n there) [
        | inl under ↦ absurd (omega (arith, under, above))
        | inr le ↦ (le, one_multiple size some place n.place aligned le (omega (arith, lower, short)))
      ]

  -- a segment that ends below the place is read to its end
  read_on_here : (s : Segment) → IsFoundSegment sum size log 0 s → s.place % size ≡ 0 → held_begins ≤ s.place → s.place + size ≤ high → IsReadOn sum size log H s
  read_on_here s found at low under =
      let g = gapless s.place at low (omega (arith, under, some)) in
      let begins = held_above in
      read_on sum size log H least is.ordering is.numbers is.scanned is.reads is.truth s found (omega (arith, low, begins)) g.0 g.1 g.2 (elim g.3 [
        | inl far ↦ full_goes sum size log some g.0 (whole sum size log some least is.ordering is.numbers is.scanned is.reads g.0 g.1) (omega (arith, far, under))
        | inr leads ↦ leads.0
      ])

  -- a segment that ends above what was reached isn't below where that begins which is held
  not_under : (z : ℕ) → z % size ≡ 0 → reach < z + size → held_begins ≤ z
  not_under z at over = elim (cases_lt z held_begins) [
    | inl under ↦ (
        let low = put_down size is.from in
        let far = multiples z held_begins at low.1 under in
        let near = is.from_high in
        let passes = is.passes in
        absurd (omega (arith, far, low.0, near, passes, over)))
    | inr le ↦ le
  ]

  high_entry : (cut : ℕ) → cut ≤ high → (m : Message) → Contains H.messages m → reach ≤ m.place → m.place < cut → IsSegmentOf sum size log H cut m × StandsInline sum size log m m.pointer
  high_entry cut up m there above lower =
      let here = begins_here m there above (omega (arith, lower, up)) in
      let its = read_here m there here.0 (omega (arith, lower, up)) in (
        record {
          segment = y.segment;
          found = record { slot = y_found.slot; header = y_found.header; not_below = omega arith };
          place = sym here.1;
          reached = its.0;
          whole = λ n at_n same under. (let own = put_down size n.place in (read_here n at_n (omega (arith, own.0, ap (λ k. k * size) same, here.1)) (omega (arith, under, up))).0);
          full = λ under. read_on_here y.segment (record { slot = y_found.slot; header = y_found.header; not_below = omega arith }) aligned (let short = inside y known in not_under place aligned (omega (arith, above, lower, up, short))) (omega (arith, under, up));
        },
        its.1,
      )

  -- where a message of its segment lies higher, that segment is this one
  low_segment : (m : Message) (of : IsSegmentOf sum size log H reach m) → (n : Message) → Contains H.messages n → n.place / size ≡ m.place / size → reach ≤ n.place → n.place < high → IsReachedIn sum size log of.segment n
  low_segment m of n there same above lower =
      let here = begins_here n there above lower in
      let its = of.found in
      let low = y_found.not_below in
      let places : of.segment.place ≡ place = of.place ∙ sym (ap (λ k. k * size) same) ∙ here.1 in
      let also = (is.numbers.found of.segment).1 (record { slot = its.slot; header = its.header; not_below = omega (arith, low, places) }) in
      let one : y.segment ≡ of.segment = one_at_place is.ordering (rises_of is.ordering is.numbers.ascending) y.segment of.segment y_known.0 also (sym places) in
      subst (λ (u : Segment). IsReachedIn sum size log u n) one (read_here n there here.0 lower).0

  low_entry : (cut : ℕ) → cut ≤ high → (m : Message) → IsSegmentOf sum size log H reach m → IsSegmentOf sum size log H cut m
  low_entry cut up m of = record {
    segment = of.segment;
    found = of.found;
    place = of.place;
    reached = of.reached;
    whole = λ n there same under. elim (cases_lt n.place reach) [ inl low ↦ of.whole n there same low | inr above ↦ low_segment m of n there same above (omega (arith, under, up)) ];
    full = λ under. elim (cases_lt reach (of.segment.place + size)) [
      | inl over ↦ (
          let at = ap (λ n. n % size) of.place ∙ (put_down size m.place).1 in
          read_on_here of.segment of.found at (not_under of.segment.place at over) (omega (arith, under, up)))
      | inr within ↦ of.full within
    ];
  }

  -- at a cut behind what was reached
  needed_above : (cut : ℕ) → reach ≤ cut → cut ≤ high → (page : ℕ) (m : Message) → Contains (table H cut page) m → IsSegmentOf sum size log H cut m × StandsInline sum size log m m.pointer
  needed_above cut above up page m entry =
      let from_H = from_table H cut page m entry in
      elim (cases_lt m.place reach) [
        | inl low ↦ (
            let low_place = is.from_high in
            let near = is.passes in
            let had = is.needed reach (omega (arith, low_place, near)) (omega arith) page m (entry_earlier H ordered reach cut page above m low entry) in
            (low_entry cut up m had.0, had.1))
        | inr behind ↦ high_entry cut up m from_H.0 behind from_H.2
      ]

  needed : (cut : ℕ) → is.from ≤ cut → cut ≤ high → (page : ℕ) (m : Message) → Contains (table H cut page) m → IsSegmentOf sum size log H cut m × StandsInline sum size log m m.pointer
  needed cut low up = elim (cases_lt cut reach) [ inl under ↦ is.needed cut low (omega (arith, under)) | inr above ↦ needed_above cut above up ]

  -- What is read reaches further. A batch may be open in that.
  abbrev stands_further : StandsTo sum size log H A first high
  stands_further = record {
    ordering = is.ordering;
    numbers = is.numbers;
    scanned = is.scanned;
    reads = is.reads;
    marks = is.marks;
    truth = is.truth;
    caps = is.caps;
    not_below = is.not_below;
    passes = let near = is.passes in omega (arith, near, far);
    marks_below = is.marks_below;
    placed = is.placed;
    batched = is.batched;
    closed = is.closed;
    from = is.from;
    from_low = is.from_low;
    from_high = is.from_high;
    tail_from = is.tail_from;
    gapless = gapless;
    needed = needed;
  }

  -- And the stable place is that of what is read then.
  pub stands_higher : A ≤ stable_below reach H.batches → StandsFrom sum size log H (stable_below high H.batches) first high is.from
  stands_higher low =
      let rises = stable_rises reach high far H.batches in
      stands_raised sum size log some H A first high stands_further (stable_below high H.batches) (omega (arith, low, rises)) (stable_low high H.batches) (stable_closed size H is.batched high)
