-- A log file that stands up to a place does so for the history with one more batch, which is to begin behind what is written of one of the segments that were begun.
use Rattle.std.proofs.lemmas.Bool.{cases_lt}
use Rattle.std.proofs.Common.{◌≢◌, ⊎_elim, ◌≡◌, ◌⊎◌, ◌∙◌, ◌+◌, ◌<◌, ◌<ℤ◌, ◌%◌, ◌≤◌, ℕ, pos, List, sym, ap, subst, arith, inl, inr}
use Rattle.std.specs.List.{Contains}
use Rattle.sled_codec.specs.History.{AddsBatch, Batch, History, Message, table}
use Rattle.sled_codec.specs.Snapshots.{SnapshotModel}
use Rattle.sled_codec.specs.Places.{part}
use Rattle.sled_codec.specs.Record.{IsHeader}
use Rattle.sled_core.specs.Begun.{records_to}
use Rattle.sled_core.specs.OpenBatches.{stable_below}
use Rattle.sled_core.specs.declared.iobuf.SegmentPosition.{SegmentPosition}
use Rattle.sled_core.specs.declared.iterator.Segment.{Segment}
use Rattle.sled_core.specs.declared.iterator.scan.ScannedRecord.{ScannedRecord}
use Rattle.sled_core.specs.declared.iterator.scan.ScanEnd.TheVariants.{Broken, Capped}
use Rattle.sled_core.specs.inside.Reached.{BegunSegment, ReachesIn, StandsAmong, StandsTo}
use Rattle.sled_core.specs.inside.Recoverable.{NothingBehind, BeginsInSegment, IsMarkBelow, IsMarkOf, IsOfHistory, IsPlacedBatch, IsSegmentOf, NoBatchBegins, NoMessageBegins, StandsInline}
use Rattle.sled_core.specs.Recoverable.{NoHeaderOfZeros}
use Rattle.sled_core.specs.SealedBuffers.{AreZeros}
use Rattle.sled_core.specs.inside.Scan.{IsFoundSegment}
use Rattle.sled_core.specs.Scan.{IsScan}
use Rattle.sled_core.specs.Tail.{least_place, Scanned}
use Rattle.sled_core.proofs.Reached.AddedBatch.{batch_grows, batch_there, entry_was, message_was, no_end, no_message, was_or_batch}
use Rattle.sled_core.proofs.Reached.GrowsAt.{beside_grown, no_batch_grown, reads_grown}
use Rattle.sled_core.proofs.Holds.PlacesBeside.{LiesBeside, cap_beside, first_below, lies_beside, met_beside}
use Rattle.sled_core.proofs.Holds.PegLemmas.{LiesBesideFilling}
use Rattle.sled_core.proofs.Reached.Marks.{less_than}
use Rattle.sled_core.proofs.Reached.SegmentsBeside.{follows}
use Rattle.sled_core.proofs.Reached.StableBelow.{stable_one_more}
use Rattle.sled_core.proofs.Sealed.HeadWritten.{reached_near}
use Rattle.sled_core.proofs.Tail.GreatestMark.{mark_below}
use Rattle.sled_core.proofs.Tail.Multiples.{one_multiple, put_down}
use Rattle.sled_core.proofs.Tail.OneTail.{segment_there}
use Rattle.sled_core.proofs.Tail.Rows.{path_within}
use Rattle.sled_core.proofs.Tail.Tails.{one_reading}
use Rattle.sled_core.proofs.Torn.WrittenBegun.{none_in_zeros}

-- The peg of a batch that begins behind what is written of the first segment lies in nothing that fills a segment which leads on.
module _ (sum : List ℕ → ℕ) (none : NoHeaderOfZeros sum) (size : ℕ) (log : List ℕ) (some : 256 ≤ size) (site : SegmentPosition) (from : ℕ) {others : List BegunSegment} (reach : ℕ) (H : History) (first : SnapshotModel)
    {held : ℕ} (had : StandsAmong sum held size log site from others reach H first) (low peg : ℕ) (above : site.place + from ≤ low) (later : low < peg) (beside : (t : Scanned) → Contains had.stands.scanned t → LiesBeside size t low)
    (offs : (x : BegunSegment) → Contains others x → LiesBesideFilling size log peg x) where
  abbrev is : StandsTo sum size log H (stable_below reach H.batches) first reach
  is = had.stands

  abbrev least : ℕ
  least = least_place size first

  -- One of the segments behind the first one was read to its records' end.
  in_other : (s : Scanned) → Contains had.stands.scanned s → s.why ≢ Broken → (x : BegunSegment) → Contains others x → x.site.place ≡ s.segment.place → (peg < s.segment.place + s.stop) ⊎ (s.segment.place + size ≤ peg)
  unfolding IsScan
  in_other s there goes x among at =
      let its = had.behind x among in
      let off = offs x among in
      let known = segment_there sum size log is.ordering is.scanned is.reads s there in
      let found : IsFoundSegment sum size log least s.segment = (is.numbers.found s.segment).0 known.0 in
      let within = path_within sum size log s.segment.slot s.segment.place found.slot 20 s.met s.stop (omega (arith, some)) known.1.0 in
      elim (cases_lt 0 x.from) [
        | inl begun ↦ (
            let r = its.read begun in
            let here = r.2 in
            let one : s ≡ here.scan = one_reading sum size log some least is.ordering is.numbers is.scanned is.reads s here.scan there here.there (sym at ∙ sym here.at_place) in
            let stops : s.stop ≡ r.0 = ap (λ (y : Scanned). y.stop) one ∙ here.ended in
            let ends : s.why ≡ r.1 = ap (λ (y : Scanned). y.why) one ∙ here.ends in
            let by_records : records_to x.filled size ≤ r.0 → (peg < s.segment.place + s.stop) ⊎ (s.segment.place + size ≤ peg) =
            λ up. elim off.filled [ inl front ↦ inl (omega (arith, front, up, stops, at)) | inr far ↦ inr (omega (arith, far, at)) ] in
            elim r.3 [
              | inl (so_far, broken) ↦ elim (cases_lt size (x.from + 32)) [
                | inl full ↦ elim (cases_lt x.from size) [
                  | inl less ↦ elim (off.short full) [ inl front ↦ inl (omega (arith, front, so_far, stops, at)) | inr far ↦ inr (omega (arith, far, at)) ]
                  | inr whole ↦ by_records (r.4 (omega (arith, whole, within, stops, so_far)))
                ]
                | inr room ↦ absurd (goes (ends ∙ broken room))
              ]
              | inr (whole, on) ↦ by_records (r.4 whole)
            ])
        | inr begins ↦ absurd (none_in_zeros sum 20 none (omega arith) log x.site.slot (off.clean (omega (arith, begins))) (pos s.segment.place) s.segment.mark
            (subst (λ n. IsHeader sum (part log n 20) (pos s.segment.place) s.segment.mark) (its.only s.segment found (sym at)) found.header))
      ]

  pub peg_apart : (s : Scanned) → Contains had.stands.scanned s → s.why ≢ Broken → (peg < s.segment.place + s.stop) ⊎ (s.segment.place + size ≤ peg)
  peg_apart s there goes = elim (beside s there) [
    | inl front ↦ (
        let known = segment_there sum size log is.ordering is.scanned is.reads s there in
        elim (had.last s.segment ((is.numbers.found s.segment).0 known.0)) [ inl first_one ↦ absurd (omega (arith, first_one, above, front)) | inr (x, among, at) ↦ in_other s there goes x among at ])
    | inr (inl before) ↦ inr (omega (arith, before, later))
    | inr (inr (past, broken)) ↦ absurd (goes broken)
  ]

module _ (sum : List ℕ → ℕ) (size : ℕ) (log : List ℕ) (some : 256 ≤ size) (H H' : History) (A : ℕ) (first : SnapshotModel) (reach : ℕ) (is : StandsTo sum size log H A first reach)
    (b : Batch) (beside : (t : Scanned) → Contains is.scanned t → LiesBeside size t b.low) (marks : (s : Segment) → Contains is.ordering s → s.mark <ℤ pos b.low)
    (adds : AddsBatch H b H') (above : reach ≤ b.low) (placed : (c : Batch) → Contains H'.batches c → IsPlacedBatch size H' c)
    (peg_off : (s : Scanned) → Contains is.scanned s → s.why ≢ Broken → (b.peg < s.segment.place + s.stop) ⊎ (s.segment.place + size ≤ b.peg)) where
  met_apart : (s : Scanned) (x : ScannedRecord) → Contains is.scanned s → Contains s.met x → (low : ℕ) → x.place ≤ low → (b.low < low) ⊎ (x.place + x.len ≤ b.low)
  met_apart = met_beside sum size log some H A first reach is b.low beside

  -- the batch begins in no record that is met
  of_new : (s : Scanned) (x : ScannedRecord) → Contains is.scanned s → Contains s.met x → IsOfHistory sum size log H x → IsOfHistory sum size log H' x
  of_new s x here there = beside_grown H H' b.low (batch_grows H H' b adds) sum size log x (met_apart s x here there)

  -- where a segment ended in a Cap, the batch begins in another one
  capped_new : (s : Scanned) → Contains is.scanned s → s.why ≡ Capped → NoMessageBegins H' (s.segment.place + s.stop) (s.segment.place + size) × NoBatchBegins H' (s.segment.place + s.stop) (s.segment.place + size)
  capped_new s here capped =
      let had = (is.caps s here).0 capped in
      let other = cap_beside sum size log some H A first reach is b.low beside s here capped in (
        no_message H H' b adds (s.segment.place + s.stop) (s.segment.place + size) had.0,
        no_batch_grown H H' b.low (batch_grows H H' b adds) (s.segment.place + s.stop) (s.segment.place + size) other had.1,
      )

  -- and its peg lies in nothing that fills a segment which leads on
  caps_new : (s : Scanned) → Contains is.scanned s → NothingBehind size H' s.segment.place s.stop s.why
  caps_new s here = (
    (λ capped. capped_new s here capped),
    (λ goes c there. ⊎_elim ((is.caps s here).1 goes c) (λ own. subst (λ (d : Batch). (d.peg < s.segment.place + s.stop) ⊎ (s.segment.place + size ≤ d.peg)) own (peg_off s here goes)) (was_or_batch H H' b adds c there)),
  )

  -- a mark lies below the batch
  mark_of_new : (s : Segment) → Contains is.ordering s → IsMarkOf H' s
  mark_of_new s there =
      let mark = is.marks s there in
      record {
        least = mark.least;
        below = mark.below;
        apart = λ c at. ⊎_elim (mark.apart c) (λ own. inl (subst (λ (d : Batch). s.mark <ℤ pos d.low) own (marks s there))) (was_or_batch H H' b adds c at);
      }

  -- and so one that lay below the place does so still
  mark_new : (s : Segment) → Contains is.ordering s → IsMarkBelow size H' A s.mark
  mark_new s there = elim (is.marks_below s there) [
    | inl below ↦ inl below
    | inr (n, at, under, message, batch, ended) ↦ (
        let low : n < b.low = mark_below s.mark n b.low at (marks s there) in
        inr (
          n,
          at,
          under,
          no_message H H' b adds A (n + 1) message,
          no_batch_grown H H' b.low (batch_grows H H' b adds) A (n + 1) (inr (omega (arith, low))) batch,
          no_end H H' b adds A (n + 1) (omega (arith, low)) ended,
        ))
  ]

  segment_of_new : (cut : ℕ) → cut ≤ reach → (n : Message) → IsSegmentOf sum size log H cut n → IsSegmentOf sum size log H' cut n
  segment_of_new cut high n of = record {
    segment = of.segment;
    found = of.found;
    place = of.place;
    reached = of.reached;
    whole = λ x there same under. of.whole x (message_was H H' b adds x there) same under;
    full = λ under. reads_grown H H' b.low (batch_grows H H' b adds) sum size log some of.segment of.found.slot
        (omega (arith, under, high, above)) (of.full under);
  }

  needed_new : (cut : ℕ) → is.from ≤ cut → cut ≤ reach → (page : ℕ) (n : Message) → Contains (table H' cut page) n → IsSegmentOf sum size log H' cut n × StandsInline sum size log n n.pointer
  needed_new cut low high page n entry = let had = is.needed cut low high page n (entry_was H H' b adds cut page n entry) in (segment_of_new cut high n had.0, had.1)

  -- no other batch begins below the place than did
  closed_new : (c : Batch) → Contains H'.batches c → c.low < A → c.peg < A
  closed_new c there low = elim (was_or_batch H H' b adds c there) [
    | inl was ↦ is.closed c was low
    | inr own ↦ absurd (let passes = is.passes in let same = ap (λ (d : Batch). d.low) own in omega (arith, same, low, passes, above))
  ]

  -- It stands so for the history with the batch.
  pub stands-marks : (A' : ℕ) → A' ≡ A → StandsTo sum size log H' A' first reach
  stands-marks A' same = record {
    ordering = is.ordering;
    numbers = is.numbers;
    scanned = is.scanned;
    reads = is.reads;
    marks = mark_of_new;
    truth = λ s x here there. of_new s x here there (is.truth s x here there);
    caps = caps_new;
    not_below = let low = is.not_below in omega (arith, low, same);
    passes = let passes = is.passes in omega (arith, passes, same);
    marks_below = λ s there. subst (λ n. IsMarkBelow size H' n s.mark) (sym same) (mark_new s there);
    placed = λ x there. is.placed x (message_was H H' b adds x there);
    batched = placed;
    closed = λ c there low. let under = closed_new c there (omega (arith, low, same)) in omega (arith, under, same);
    from = is.from;
    from_low = is.from_low;
    from_high = let high = is.from_high in omega (arith, high, same);
    tail_from = is.tail_from;
    gapless = is.gapless;
    needed = needed_new;
  }

-- And a write goes on in each segment that was begun where it did, where the batch is to begin behind what is written of the first one, and beside all that is found.
among-marks : (sum : List ℕ → ℕ) (size : ℕ) (log : List ℕ) (site : SegmentPosition) (from reach : ℕ) (H H' : History) (first : SnapshotModel) → 256 ≤ size → (b : Batch) → AddsBatch H b H' → site.place + from ≤ b.low
    → ((c : Batch) → Contains H'.batches c → IsPlacedBatch size H' c) → b.low < b.peg → NoHeaderOfZeros sum → {others : List BegunSegment} {held : ℕ} (had : StandsAmong sum held size log site from others reach H first)
    → ((t : Scanned) → Contains had.stands.scanned t → LiesBeside size t b.low) → ((x : BegunSegment) → Contains others x → LiesBesideFilling size log b.peg x) → StandsAmong sum held size log site from others reach H' first
unfolding stands-marks
among-marks sum size log site from reach H H' first some b adds above placed later none {others} had beside offs =
    let near : reach ≤ site.place + from = reached_near size H site.place from reach had.reached in
    let past : reach ≤ b.low = omega (arith, near, above) in
    let marks : (s : Segment) → Contains had.stands.ordering s → s.mark <ℤ pos b.low = λ s there. less_than s.mark (site.place + from) b.low above (had.below s ((had.stands.numbers.found s).0 there)) in
    record {
      stands = stands-marks sum size log some H H' (stable_below reach H.batches) first reach had.stands b beside marks adds past placed (peg_apart sum none size log some site from {others = others} reach H first had b.low b.peg above later beside offs) (stable_below reach H'.batches) (ap (stable_below reach) adds.batches ∙ stable_one_more reach H.batches b past);
      low = had.low;
      reached = reached_marks had.reached;
      led = had.led;
      here = had.here;
      behind = had.behind;
      apart = had.apart;
      last = had.last;
      below = had.below;
    }
  where
    reached_marks : ReachesIn size H site.place from reach → ReachesIn size H' site.place from reach
    reached_marks (inl at) = inl at
    reached_marks (inr (begins, next)) =
        let past : site.place ≤ b.low = omega (arith, above, begins) in
        inr (
          begins,
          record {
            above = next.above;
            next = next.next;
            no_message = no_message H H' b adds reach site.place next.no_message;
            no_batch = no_batch_grown H H' b.low (batch_grows H H' b adds) reach site.place (inr past) next.no_batch;
            no_end = no_end H H' b adds reach site.place past next.no_end;
          },
        )

-- Where a batch is to begin in a segment, a record has room behind what is written of it.
room_before : (size : ℕ) → 256 ≤ size → (place from low : ℕ) → place % size ≡ 0 → BeginsInSegment size low → place + from ≤ low → low < place + size → from + 32 ≤ size
room_before size some place from low aligned begins above inside =
    let whole = (put_down size low).0 in
    let at = one_multiple size some place low aligned (omega (arith, above)) inside in
    let room = begins.room in
    omega (arith, whole, at, room, above)

-- So it is where the batch is to begin in the first one,
pub alone-marks : (sum : List ℕ → ℕ) (size : ℕ) (log : List ℕ) (site : SegmentPosition) (from reach : ℕ) (H H' : History) (first : SnapshotModel) → 256 ≤ size → NoHeaderOfZeros sum → site.place % size ≡ 0
    → (from ≡ 0 → AreZeros log site.slot (site.slot + 20)) → (b : Batch) → AddsBatch H b H' → site.place + from ≤ b.low → b.low < site.place + size → ((c : Batch) → Contains H'.batches c → IsPlacedBatch size H' c) → b.low < b.peg
    → {others : List BegunSegment} → ((x : BegunSegment) → Contains others x → LiesBesideFilling size log b.peg x) → {held : ℕ} → StandsAmong sum held size log site from others reach H first → StandsAmong sum held size log site from others reach H' first
alone-marks sum size log site from reach H H' first some none place_begins clean b adds above inside placed later offs alone =
    let room = room_before size some site.place from b.low place_begins (placed b (batch_there H H' b adds)).begins above inside in
    among-marks sum size log site from reach H H' first some b adds above placed later none alone (lies_beside sum size log H (stable_below reach H.batches) first reach alone.stands site from some none place_begins clean alone.here room b.low above inside) offs

-- and where it is to begin in one behind it, behind what is written of that.
pub other-marks : (sum : List ℕ → ℕ) (size : ℕ) (log : List ℕ) (site : SegmentPosition) (from reach : ℕ) (H H' : History) (first : SnapshotModel) → 256 ≤ size → NoHeaderOfZeros sum → {others : List BegunSegment} (y : BegunSegment) → Contains others y → y.site.place % size ≡ 0
    → (y.from ≡ 0 → AreZeros log y.site.slot (y.site.slot + 20)) → (b : Batch) → AddsBatch H b H' → y.site.place + y.from ≤ b.low → b.low < y.site.place + size → ((c : Batch) → Contains H'.batches c → IsPlacedBatch size H' c) → b.low < b.peg
    → ((x : BegunSegment) → Contains others x → LiesBesideFilling size log b.peg x) → {held : ℕ} → StandsAmong sum held size log site from others reach H first → StandsAmong sum held size log site from others reach H' first
other-marks sum size log site from reach H H' first some none {others} y known place_begins clean b adds above inside placed later offs had =
    let room = room_before size some y.site.place y.from b.low place_begins (placed b (batch_there H H' b adds)).begins above inside in
    let under = first_below sum size log site from others reach H first some had y.site.place place_begins (follows site others had.apart y known).0 in
    among-marks sum size log site from reach H H' first some b adds (omega (arith, under, above)) placed later none had
    (lies_beside sum size log H (stable_below reach H.batches) first reach had.stands y.site y.from some none place_begins clean (had.behind y known) room b.low above inside) offs
