-- A log file that stands up to a place does so for the history with one more message, which is to lie behind what is written of one of the segments that were begun.
use Rattle.std.proofs.Common.{⊎_elim, ◌≡◌, ◌⊎◌, ◌+◌, ◌<◌, ◌<ℤ◌, ◌%◌, ◌≤◌, ℕ, pos, List, sym, ap, subst, arith, inl, inr}
use Rattle.std.specs.List.{Contains}
use Rattle.sled_codec.specs.History.{Message, Batch, History, AddsMessage, table}
use Rattle.sled_codec.specs.Snapshots.{SnapshotModel}
use Rattle.sled_codec.proofs.Histories.{among}
use Rattle.sled_core.specs.OpenBatches.{stable_below}
use Rattle.sled_core.specs.declared.iobuf.SegmentPosition.{SegmentPosition}
use Rattle.sled_core.specs.declared.iterator.Segment.{Segment}
use Rattle.sled_core.specs.declared.iterator.scan.ScannedRecord.{ScannedRecord}
use Rattle.sled_core.specs.declared.iterator.scan.ScanEnd.TheVariants.{Capped}
use Rattle.sled_core.specs.inside.Reached.{BegunSegment, ReachesIn, StandsAmong, StandsTo}
use Rattle.sled_core.specs.inside.Recoverable.{NothingBehind, NoMessageBegins, NoBatchBegins, StandsInline, IsMarkBelow, IsOfHistory, IsSegmentOf, LiesInSegment}
use Rattle.sled_core.specs.Recoverable.{NoHeaderOfZeros}
use Rattle.sled_core.specs.SealedBuffers.{AreZeros}
use Rattle.sled_core.specs.Tail.{Scanned}
use Rattle.sled_core.proofs.Reached.Marks.{less_than}
use Rattle.sled_core.proofs.Reached.SegmentsBeside.{follows}
use Rattle.sled_core.proofs.Sealed.HeadWritten.{reached_near}
use Rattle.sled_core.proofs.Tail.GreatestMark.{mark_below}
use Rattle.sled_core.proofs.Holds.Added.{batch_was, message_grows, no_batch, was_or_added}
use Rattle.sled_core.proofs.Reached.GrowsAt.{beside_grown, no_message_grown, reads_grown}
use Rattle.sled_core.proofs.Holds.BegunLemmas.{entry_stays}
use Rattle.sled_core.proofs.Holds.PlacesBeside.{LiesBeside, cap_beside, first_below, lies_beside, met_beside}

module _ (sum : List ℕ → ℕ) (size : ℕ) (log : List ℕ) (some : 256 ≤ size) (H H' : History) (A : ℕ) (first : SnapshotModel) (reach : ℕ) (is : StandsTo sum size log H A first reach)
    (m : Message) (beside : (t : Scanned) → Contains is.scanned t → LiesBeside size t m.place) (marks : (s : Segment) → Contains is.ordering s → s.mark <ℤ pos m.place)
    (adds : AddsMessage H m H') (above : reach ≤ m.place) (lies : LiesInSegment size m) where
  met_apart : (s : Scanned) (x : ScannedRecord) → Contains is.scanned s → Contains s.met x → (low : ℕ) → x.place ≤ low → (m.place < low) ⊎ (x.place + x.len ≤ m.place)
  met_apart = met_beside sum size log some H A first reach is m.place beside

  of_new : (s : Scanned) (x : ScannedRecord) → Contains is.scanned s → Contains s.met x → IsOfHistory sum size log H x → IsOfHistory sum size log H' x
  of_new s x here there = beside_grown H H' m.place (message_grows H H' m adds) sum size log x (met_apart s x here there)

  -- where a segment ended in a Cap, the message lies in another one
  capped_new : (s : Scanned) → Contains is.scanned s → s.why ≡ Capped → NoMessageBegins H' (s.segment.place + s.stop) (s.segment.place + size) × NoBatchBegins H' (s.segment.place + s.stop) (s.segment.place + size)
  capped_new s here capped =
      let had = (is.caps s here).0 capped in
      let other = cap_beside sum size log some H A first reach is m.place beside s here capped in (
        no_message_grown H H' m.place (message_grows H H' m adds) (s.segment.place + s.stop) (s.segment.place + size) other had.0,
        no_batch H H' m adds (s.segment.place + s.stop) (s.segment.place + size) had.1,
      )

  caps_new : (s : Scanned) → Contains is.scanned s → NothingBehind size H' s.segment.place s.stop s.why
  caps_new s here = ((λ capped. capped_new s here capped), (λ goes b there. (is.caps s here).1 goes b (batch_was H H' m adds b there)))

  -- a mark that lay below the place does so still
  mark_new : (s : Segment) → Contains is.ordering s → IsMarkBelow size H' A s.mark
  mark_new s there = elim (is.marks_below s there) [
    | inl below ↦ inl below
    | inr (n, at, under, message, batch, ended) ↦ (
        let low : n < m.place = mark_below s.mark n m.place at (marks s there) in
        inr (
          n,
          at,
          under,
          no_message_grown H H' m.place (message_grows H H' m adds) A (n + 1) (inr (omega (arith, low))) message,
          no_batch H H' m adds A (n + 1) batch,
          λ b at_b. ended b (batch_was H H' m adds b at_b),
        ))
  ]

  segment_of_new : (cut : ℕ) → cut ≤ reach → (n : Message) → IsSegmentOf sum size log H cut n → IsSegmentOf sum size log H' cut n
  segment_of_new cut high n of = record {
    segment = of.segment;
    found = of.found;
    place = of.place;
    reached = of.reached;
    whole = λ x there same under. of.whole x (among H H' m cut adds (omega (arith, high, above)) x there under) same under;
    full = λ under. reads_grown H H' m.place (message_grows H H' m adds) sum size log some of.segment of.found.slot
        (omega (arith, under, high, above)) (of.full under);
  }

  needed_new : (cut : ℕ) → is.from ≤ cut → cut ≤ reach → (page : ℕ) (n : Message) → Contains (table H' cut page) n → IsSegmentOf sum size log H' cut n × StandsInline sum size log n n.pointer
  needed_new cut low high page n entry =
      let had = is.needed cut low high page n (entry_stays H H' m adds cut page (omega (arith, high, above)) n entry) in
      (segment_of_new cut high n had.0, had.1)

  -- It stands so for the history with the message.
  pub stands-adds : (A' : ℕ) → A' ≡ A → StandsTo sum size log H' A' first reach
  stands-adds A' same = record {
    ordering = is.ordering;
    numbers = is.numbers;
    scanned = is.scanned;
    reads = is.reads;
    marks = λ s there. let mark = is.marks s there in record { least = mark.least; below = mark.below; apart = λ b at. mark.apart b (batch_was H H' m adds b at) };
    truth = λ s x here there. of_new s x here there (is.truth s x here there);
    caps = caps_new;
    not_below = let low = is.not_below in omega (arith, low, same);
    passes = let passes = is.passes in omega (arith, passes, same);
    marks_below = λ s there. subst (λ n. IsMarkBelow size H' n s.mark) (sym same) (mark_new s there);
    placed = λ x there. ⊎_elim (is.placed x) (λ own. subst (LiesInSegment size) own lies) (was_or_added H H' m adds x there);
    batched = λ b there. let placed = is.batched b (batch_was H H' m adds b there) in record { begins = placed.begins; alone = λ c at. placed.alone c (batch_was H H' m adds c at); nested = λ c at. placed.nested c (batch_was H H' m adds c at) };
    closed = λ b there low. let under = is.closed b (batch_was H H' m adds b there) (omega (arith, low, same)) in omega (arith, under, same);
    from = is.from;
    from_low = is.from_low;
    from_high = let high = is.from_high in omega (arith, high, same);
    tail_from = is.tail_from;
    gapless = is.gapless;
    needed = needed_new;
  }

-- And a write goes on in each segment that was begun where it did, where the message is to lie behind what is written of the first one, and beside all that is found.
among-adds : (sum : List ℕ → ℕ) (size : ℕ) (log : List ℕ) (site : SegmentPosition) (from reach : ℕ) (H H' : History) (first : SnapshotModel) → 256 ≤ size → (m : Message) → AddsMessage H m H' → site.place + from ≤ m.place → LiesInSegment size m
    → {others : List BegunSegment} {held : ℕ} (had : StandsAmong sum held size log site from others reach H first) → ((t : Scanned) → Contains had.stands.scanned t → LiesBeside size t m.place) → StandsAmong sum held size log site from others reach H' first
unfolding stands-adds
among-adds sum size log site from reach H H' first some m adds above lies had beside =
    let near : reach ≤ site.place + from = reached_near size H site.place from reach had.reached in
    let marks : (s : Segment) → Contains had.stands.ordering s → s.mark <ℤ pos m.place = λ s there. less_than s.mark (site.place + from) m.place above (had.below s ((had.stands.numbers.found s).0 there)) in
    record {
      stands = stands-adds sum size log some H H' (stable_below reach H.batches) first reach had.stands m beside marks adds (omega (arith, near, above)) lies (stable_below reach H'.batches) (ap (stable_below reach) adds.batches);
      low = had.low;
      reached = reached_adds had.reached;
      led = had.led;
      here = had.here;
      behind = had.behind;
      apart = had.apart;
      last = had.last;
      below = had.below;
    }
  where
    reached_adds : ReachesIn size H site.place from reach → ReachesIn size H' site.place from reach
    reached_adds (inl at) = inl at
    reached_adds (inr (begins, next)) = inr (
      begins,
      record {
        above = next.above;
        next = next.next;
        no_message = λ x there. ⊎_elim (next.no_message x) (λ own. inr (omega (arith, above, begins, ap (λ (y : Message). y.place) own))) (was_or_added H H' m adds x there);
        no_batch = λ b there. next.no_batch b (subst (λ (l : List Batch). Contains l b) adds.batches there);
        no_end = λ b there. next.no_end b (subst (λ (l : List Batch). Contains l b) adds.batches there);
      },
    )

-- So it is where the message is to lie in the first one,
pub alone-adds : (sum : List ℕ → ℕ) (size : ℕ) (log : List ℕ) (site : SegmentPosition) (from reach : ℕ) (H H' : History) (first : SnapshotModel) → 256 ≤ size → NoHeaderOfZeros sum → site.place % size ≡ 0
    → (from ≡ 0 → AreZeros log site.slot (site.slot + 20)) → (m : Message) → AddsMessage H m H' → site.place + from ≤ m.place → m.place < site.place + size → from + 32 ≤ size → LiesInSegment size m
    → {others : List BegunSegment} → {held : ℕ} → StandsAmong sum held size log site from others reach H first → StandsAmong sum held size log site from others reach H' first
alone-adds sum size log site from reach H H' first some none place_begins clean m adds above inside room lies alone =
    among-adds sum size log site from reach H H' first some m adds above lies alone (lies_beside sum size log H (stable_below reach H.batches) first reach alone.stands site from some none place_begins clean alone.here room m.place above inside)

-- and where it is to lie in one behind it, behind what is written of that.
pub other_adds : (sum : List ℕ → ℕ) (size : ℕ) (log : List ℕ) (site : SegmentPosition) (from reach : ℕ) (H H' : History) (first : SnapshotModel) → 256 ≤ size → NoHeaderOfZeros sum → {others : List BegunSegment} (y : BegunSegment) → Contains others y → y.site.place % size ≡ 0
    → (y.from ≡ 0 → AreZeros log y.site.slot (y.site.slot + 20)) → (m : Message) → AddsMessage H m H' → y.site.place + y.from ≤ m.place → m.place < y.site.place + size → y.from + 32 ≤ size → LiesInSegment size m
    → {held : ℕ} → StandsAmong sum held size log site from others reach H first → StandsAmong sum held size log site from others reach H' first
other_adds sum size log site from reach H H' first some none {others} y known place_begins clean m adds above inside room lies had =
    let under = first_below sum size log site from others reach H first some had y.site.place place_begins (follows site others had.apart y known).0 in
    among-adds sum size log site from reach H H' first some m adds (omega (arith, under, above)) lies had
    (lies_beside sum size log H (stable_below reach H.batches) first reach had.stands y.site y.from some none place_begins clean (had.behind y known) room m.place above inside)
