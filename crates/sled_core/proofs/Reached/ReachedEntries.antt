-- The entries of a table below the cut of such a log file are there, each in its segment, and so is all of that segment below the cut.
use Rattle.std.proofs.Common.{⊎_elim, ◌≡◌, ◌≢◌, ◌∙◌, ◌+◌, ◌*◌, ◌/◌, ◌%◌, ◌<◌, ◌≤◌, ℕ, List, [], ◌∷◌, refl, sym, ap, subst, arith, inl, inr}
use Rattle.std.specs.List.{Contains}
use Rattle.std.proofs.lemmas.Bool.{cases_lt}
use Rattle.sled_codec.specs.Pointers.{lid_of}
use Rattle.sled_codec.specs.History.{Message, History, table}
use Rattle.sled_codec.specs.Snapshots.{SnapshotModel}
use Rattle.sled_store.proofs.Segments.Elements.{in_cases, in_nothing}
use Rattle.sled_store.proofs.Segments.TableEntries.{from_table}
use Rattle.sled_core.specs.declared.iterator.Segment.{Segment}
use Rattle.sled_core.specs.declared.iterator.scan.ScannedRecord.{ScannedRecord}
use Rattle.sled_core.specs.declared.iterator.scan.ScanEnd.{ScanEnd}
use Rattle.sled_core.specs.declared.iterator.scan.ScanEnd.TheVariants.{Broken}
use Rattle.sled_core.specs.inside.Recoverable.{MeetsMessage, StandsInline, IsReachedIn, IsReadOn, IsSegmentOf}
use Rattle.sled_core.specs.Scan.{IsEnd, IsMet, IsPath, IsScan, Says}
use Rattle.sled_core.specs.inside.Scan.{IsFoundSegment}
use Rattle.sled_core.specs.Tail.{Scanned, IsScanned}
use Rattle.sled_store.proofs.Histories.Ascending.{Ascends}
use Rattle.sled_store.proofs.Histories.EarlierEntries.{entry_earlier}
use Rattle.sled_core.proofs.Tail.Covered.{PassEnds, IsCovered, covered}
use Rattle.sled_core.proofs.Tail.OfHistory.{message_of}
use Rattle.sled_core.proofs.Tail.OneTail.{Rises, rises_of, one_at_place, segment_there}
use Rattle.sled_core.proofs.Tail.Multiples.{apart, put_down, lower_multiple}
use Rattle.sled_core.proofs.Tail.Rows.{cut_cases, end_there}
use Rattle.sled_core.proofs.Tail.Tails.{one_reading}
use Rattle.sled_core.proofs.Reached.ReadOn.{read_on}
use Rattle.sled_core.proofs.Reached.StandsTo.{StandsTo, least, begins, begins_above, begins_below}

-- The records of a path before one of them lead to it.
pub path_to : (sum : List ℕ → ℕ) (size : ℕ) (log : List ℕ) (slot place at : ℕ) (ms : List ScannedRecord) (next : ℕ) → IsPath sum size log slot place at ms next → (x : ScannedRecord) → Contains ms x
    → (before : List ScannedRecord) × (o : ℕ) × (IsPath sum size log slot place at before o × (o + 32 ≤ size) × (x.place ≡ place + o) × IsMet sum size log (slot + o) (place / size) x)
path_to sum size log slot place at [] next path x there = absurd (in_nothing x there)
path_to sum size log slot place at (m ∷ ms) next path x there = ⊎_elim
    (λ same. ([], at, (refl, path.0, sym (ap (λ (y : ScannedRecord). y.place) same) ∙ path.1, subst (IsMet sum size log (slot + at) (place / size)) same path.2)))
    (λ later. let rest = path_to sum size log slot place (at + m.len) ms next path.3 x later in (m ∷ rest.0, rest.1, ((path.0, path.1, path.2, rest.2.0), rest.2.1, rest.2.2, rest.2.3)))
    (in_cases m x ms there)

-- The pointer of a message that is met has the offset at which it is met.
met_lid : (sum : List ℕ → ℕ) (size : ℕ) (log : List ℕ) (lid number : ℕ) (x : ScannedRecord) (m : Message) → IsMet sum size log lid number x → MeetsMessage x m → lid_of m.pointer ≡ lid
unfolding IsMet
met_lid sum size log lid number x m (h, body, stands, says) meets = elim meets.what [
  | inl gives ↦ (let says_so = subst (Says h body lid) gives says in ap lid_of says_so.3)
  | inr names ↦ (let says_so = subst (Says h body lid) names.5 says in ap lid_of names.3 ∙ says_so.2)
]

module _ (sum : List ℕ → ℕ) (size : ℕ) (log : List ℕ) where
  -- a message that is met in a segment which was read to its end is reached in it
  pub reached_of : (t : Scanned) → IsScanned sum size log t → (x : ScannedRecord) → Contains t.met x → (m : Message) → MeetsMessage x m → IsReachedIn sum size log t.segment m
  unfolding IsScan
  reached_of t scan x met m meets =
      let to = path_to sum size log t.segment.slot t.segment.place 20 t.met t.stop scan.0 x met in record {
        before = to.0;
        at = to.1;
        path = to.2.0;
        room = to.2.1;
        place = sym meets.place ∙ to.2.2;
        lid = met_lid sum size log (t.segment.slot + to.1) (t.segment.place / size) x m to.2.3 meets;
        met = x;
        is_met = to.2.3;
        meets = meets;
      }

module _ (sum : List ℕ → ℕ) (size : ℕ) (log : List ℕ) (some : 256 ≤ size) (H : History) (first : SnapshotModel) (reach : ℕ) (is : StandsTo sum size log H reach first reach) (ordered : Ascends H.messages)
    (end cut : ℕ) (ends : PassEnds sum size log some is.scanned (begins sum size log some H first reach is) end cut) (far : reach ≤ cut) where
  abbrev from : ℕ
  from = least sum size log some H first reach is

  abbrev begin : ℕ
  begin = begins sum size log some H first reach is

  rises : Rises is.ordering
  rises = rises_of is.ordering is.numbers.ascending

  -- the segment of a message is there, and the message is met in it
  abbrev IsReadIn : Message → Scanned → Type 0
  IsReadIn m t = Contains is.scanned t × (t.segment.place ≡ m.place / size * size) × IsReachedIn sum size log t.segment m × StandsInline sum size log m m.pointer

  -- Each message between the beginning of the tail and the cut is reached.
  read_at : (m : Message) → Contains H.messages m → begin ≤ m.place → m.place < cut → (t : Scanned) × IsReadIn m t
  read_at m there above lower = by (covered sum size log some is.scanned begin end cut ends m.place above lower (is.placed m there).begins) where
    by : IsCovered sum size log some is.scanned begin end cut ends m.place → (t : Scanned) × IsReadIn m t
    by (t, known, place, inl (x, met, low, high)) =
        let its = message_of sum size log H ordered x (is.truth t x known met) m there low high in
        let scan = (segment_there sum size log is.ordering is.scanned is.reads t known).1 in
        (t, (known, place, reached_of sum size log t scan x met m its.0, its.1))
    by (t, known, place, inr (capped, past, within)) = ⊎_elim (λ under. absurd (omega (arith, under, past))) (λ over. absurd (omega (arith, over, within))) (((is.caps t known).0 capped).0 m there)

  -- a message in a segment of one that lies at the place that was reached or above it lies in the tail
  high_there : (m n : Message) → reach ≤ m.place → n.place / size ≡ m.place / size → begin ≤ n.place
  high_there m n above same =
      let low = begins_below sum size log some H first reach is in
      let multiple = lower_multiple size some reach m.place above in
      let own = put_down size n.place in
      omega (arith, low, multiple, own.0, ap (λ k. k * size) same)

  -- A segment of the tail that ends below the cut is read to its end.

  -- it isn't broken, since the pass would stop in it, below the cut
  leads_on : (t : Scanned) → Contains is.scanned t → t.segment.place + size ≤ cut → (t.why ≡ Broken → end ≡ t.segment.place + t.stop) → t.why ≢ Broken
  leads_on t there under broken_last broken =
      let room = (subst (λ (why : ScanEnd). IsEnd sum size log t.segment.slot t.segment.place t.stop why) broken (end_there sum size log some t (ends.whole t there))).0 in
      let low = ends.low in
      let place = ends.place in
      elim (cut_cases size ends.at) [
        | inl same ↦ omega (arith, same, ends.is_cut, low, broken_last broken, under, room)
        | inr filled ↦ omega (arith, filled, ends.is_cut, low, broken_last broken, under, room)
      ]

  read_on_below : (s : Segment) → IsFoundSegment sum size log 0 s → s.place % size ≡ 0 → begin ≤ s.place → s.place + size ≤ cut → IsReadOn sum size log H s
  read_on_below s found at low under =
      let high = ends.no_higher s.place at (omega (arith, under, some)) in
      let begun = ends.begun in
      let t = ends.has s.place at low (omega (arith, high, begun)) in
      let bottom = begins_above sum size log some H first reach is in
      read_on sum size log H from is.ordering is.numbers is.scanned is.reads is.truth s found (omega (arith, bottom, low)) t.0 t.1.0 t.1.1 (leads_on t.0 t.1.0 (omega (arith, under, t.1.1)) t.1.2)

  -- Entries at that place or above it.

  high_entry : (m : Message) → Contains H.messages m → reach ≤ m.place → m.place < cut → IsSegmentOf sum size log H cut m × StandsInline sum size log m m.pointer
  high_entry m there above lower =
      let its = read_at m there (high_there m m above refl) lower in
      let t : Scanned = its.0 in
      let known = its.1.0 in
      let found = (is.numbers.found t.segment).0 (segment_there sum size log is.ordering is.scanned is.reads t known).0 in (
        record {
          segment = t.segment;
          found = record { slot = found.slot; header = found.header; not_below = omega arith };
          place = its.1.1;
          reached = its.1.2;
          whole = λ n known_n same under.
              let other = read_at n known_n (high_there m n above same) under in
              let one : other.0 ≡ t =
              one_reading sum size log some from is.ordering is.numbers is.scanned is.reads other.0 t other.1.0 known (other.1.1 ∙ ap (λ k. k * size) same ∙ sym its.1.1) in
              subst (λ (u : Scanned). IsReachedIn sum size log u.segment n) one other.1.2;
          full = λ under.
              let at = ap (λ n. n % size) its.1.1 ∙ (put_down size m.place).1 in
              let bottom = begins_below sum size log some H first reach is in
              let over = lower_multiple size some reach m.place above in
              read_on_below t.segment (record { slot = found.slot; header = found.header; not_below = omega arith }) at (omega (arith, bottom, over, its.1.1)) under;
        },
        its.1.3,
      )

  -- Entries below it.

  -- where a message of the segment lies higher, the segment is one of those that are found
  low_segment : (m : Message) (of : IsSegmentOf sum size log H reach m) → (n : Message) → Contains H.messages n → n.place / size ≡ m.place / size → reach ≤ n.place → n.place < cut → IsReachedIn sum size log of.segment n
  low_segment m of n there same above lower =
      let other = read_at n there (high_there n n above refl) lower in
      let known = (segment_there sum size log is.ordering is.scanned is.reads other.0 other.1.0).0 in
      let places : of.segment.place ≡ other.0.segment.place = of.place ∙ sym (ap (λ k. k * size) same) ∙ sym other.1.1 in
      let its = of.found in
      let found = (is.numbers.found other.0.segment).0 known in
      let low = found.not_below in
      let there_too = (is.numbers.found of.segment).1 (record { slot = its.slot; header = its.header; not_below = omega (arith, low, places) }) in
      let one : other.0.segment ≡ of.segment = one_at_place is.ordering rises other.0.segment of.segment known there_too (sym places) in
      subst (λ (u : Segment). IsReachedIn sum size log u n) one other.1.2

  -- a segment that ends above the place that was reached isn't below the tail
  not_under : (z : ℕ) → z % size ≡ 0 → reach < z + size → begin ≤ z
  not_under z at over = elim (cases_lt z begin) [
    | inl under ↦ (
        let far = apart size (omega (arith, some)) z begin at ends.aligned under in
        let low = begins_below sum size log some H first reach is in
        let parts = put_down size reach in
        absurd (omega (arith, far, low, parts.0, over)))
    | inr le ↦ le
  ]

  low_entry : (m : Message) → IsSegmentOf sum size log H reach m → IsSegmentOf sum size log H cut m
  low_entry m of = record {
    segment = of.segment;
    found = of.found;
    place = of.place;
    reached = of.reached;
    whole = λ n there same under. elim (cases_lt n.place reach) [
      | inl low ↦ of.whole n there same low
      | inr high ↦ low_segment m of n there same high under
    ];
    full = λ under. elim (cases_lt reach (of.segment.place + size)) [
      | inl over ↦ (
          let at = ap (λ n. n % size) of.place ∙ (put_down size m.place).1 in
          read_on_below of.segment of.found at (not_under of.segment.place at over) under)
      | inr within ↦ of.full within
    ];
  }

  pub entries_there : (page : ℕ) (m : Message) → Contains (table H cut page) m → IsSegmentOf sum size log H cut m × StandsInline sum size log m m.pointer
  entries_there page m entry =
      let from_H = from_table H cut page m entry in
      elim (cases_lt m.place reach) [
        | inl low ↦ (
            let had = is.needed reach is.from_high (omega arith) page m (entry_earlier H ordered reach cut page far m low entry) in
            (low_entry m had.0, had.1))
        | inr high ↦ high_entry m from_H.0 high from_H.2
      ]
