-- Where nothing of the log file lies at or above the cut, it stays recoverable when the history forgets what lies there.
use Rattle.std.proofs.Common.{◌≡◌, ◌+◌, ◌≤◌, ◌<◌, ℕ, ℤ, nat_lt, List, Option, ap, subst, arith, inl, inr, ltb-true, lt-ltb}
use Rattle.std.specs.List.{Contains}
use Rattle.sled_codec.specs.History.{Message, Batch, History, table, page_state, below}
use Rattle.sled_codec.specs.Snapshots.{SnapshotModel}
use Rattle.sled_store.proofs.Segments.Elements.{in_filter, from_filter}
use Rattle.sled_core.specs.declared.iterator.Segment.{Segment}
use Rattle.sled_core.specs.declared.iterator.scan.ScannedRecord.{ScannedRecord}
use Rattle.sled_core.specs.inside.Recoverable.{NoMessageBegins, NoBatchBegins, NoBatchEnds, IsOfHistory, IsReadOn, IsSegmentOf, IsMarkOf, IsMarkBelow, IsPlacedBatch, IsRecoverableLog, AreRecoverableBlobs}
use Rattle.sled_core.specs.Scan.{IsScan}
use Rattle.sled_core.proofs.Reached.ReachedEntries.{path_to}
use Rattle.sled_core.proofs.Reached.ReadOn.{reads_on_in}
use Rattle.sled_log.specs.Recovery.{Scanned}
use Rattle.sled_log.proofs.PageTable.TableCuts.{below_same}

module _ (H : History) (cut : ℕ) where
  abbrev pub kept : History
  kept = below H cut

  -- what is kept was there, below the cut
  pub message_from : (m : Message) → Contains kept.messages m → Contains H.messages m × (m.place < cut)
  unfolding below
  message_from m there =
      let from = from_filter (λ (x : Message). nat_lt x.place cut) H.messages m there in
      (from.0, ltb-true m.place cut from.1)

  pub batch_from : (b : Batch) → Contains kept.batches b → Contains H.batches b × (b.low < cut)
  unfolding below
  batch_from b there =
      let from = from_filter (λ (x : Batch). nat_lt x.low cut) H.batches b there in
      (from.0, ltb-true b.low cut from.1)

  message_in : (m : Message) → Contains H.messages m → m.place < cut → Contains kept.messages m
  unfolding below
  message_in m there under = in_filter (λ (x : Message). nat_lt x.place cut) H.messages m there (lt-ltb m.place cut under)

  batch_in : (b : Batch) → Contains H.batches b → b.low < cut → Contains kept.batches b
  unfolding below
  batch_in b there under = in_filter (λ (x : Batch). nat_lt x.low cut) H.batches b there (lt-ltb b.low cut under)

  -- the table below the cut is the same
  pub table_kept : (page : ℕ) → table kept cut page ≡ table H cut page
  unfolding table
  table_kept page = ap page_state (below_same H cut cut page (omega arith))

  -- Nothing begins, and no batch ends, where none did.

  no_message : (from to : ℕ) → NoMessageBegins H from to → NoMessageBegins kept from to
  no_message from to none m there = none m (message_from m there).0

  no_batch : (from to : ℕ) → NoBatchBegins H from to → NoBatchBegins kept from to
  no_batch from to none b there = none b (batch_from b there).0

  no_end : (from to : ℕ) → NoBatchEnds H from to → NoBatchEnds kept from to
  no_end from to none b there = none b (batch_from b there).0

  -- Marks.

  mark_of : (s : Segment) → IsMarkOf H s → IsMarkOf kept s
  mark_of s is = record { least = is.least; below = is.below; apart = λ b there. is.apart b (batch_from b there).0 }

  mark_below : (size : ℕ) (mark : ℤ) → IsMarkBelow size H cut mark → IsMarkBelow size kept cut mark
  mark_below size mark (inl lower) = inl lower
  mark_below size mark (inr (n, at, under, message, batch, end)) =
      inr (n, at, under, no_message cut (n + 1) message, no_batch cut (n + 1) batch, no_end cut (n + 1) end)

  -- Batches.

  placed_batch : (size : ℕ) (b : Batch) → IsPlacedBatch size H b → IsPlacedBatch size kept b
  placed_batch size b is = record { begins = is.begins; alone = λ c there. is.alone c (batch_from c there).0; nested = λ c there. is.nested c (batch_from c there).0 }

  module _ (sum : List ℕ → ℕ) (size : ℕ) (log : List ℕ) where
    -- What is met below the cut is of what is kept.
    of_kept : (x : ScannedRecord) → x.place < cut → IsOfHistory sum size log H x → IsOfHistory sum size log kept x
    of_kept x under (inl (m, there, meets, stands, message, batch)) =
        let place = meets.place in
        inl (m, message_in m there (omega (arith, place, under)), meets, stands, no_message (x.place + 1) (x.place + x.len) message, no_batch x.place (x.place + x.len) batch)
    of_kept x under (inr (inl (b, there, place, what, message, batch))) =
        inr (inl (b, batch_in b there (omega (arith, place, under)), place, what, no_message x.place (x.place + x.len) message, no_batch (x.place + 1) (x.place + x.len) batch))
    of_kept x under (inr (inr (what, message, batch))) =
        inr (inr (what, no_message x.place (x.place + x.len) message, no_batch x.place (x.place + x.len) batch))

    -- what is met in a segment that ends below the cut lies below it
    reads_on : (s : Segment) → s.place + size ≤ cut → IsReadOn sum size log H s → IsReadOn sum size log kept s
    unfolding IsScan
    reads_on s under on = reads_on_in sum size log H kept s on (λ x met.
        let t : Scanned = on.scan in
        let to = path_to sum size log t.segment.slot t.segment.place 20 t.met t.stop on.read.0 x met in
        let room = to.2.1 in
        let at = to.2.2 in
        of_kept x (omega (arith, room, at, under, ap (λ (u : Segment). u.place) on.of)))

    segment_of : (m : Message) → IsSegmentOf sum size log H cut m → IsSegmentOf sum size log kept cut m
    segment_of m is = record {
      segment = is.segment;
      found = is.found;
      place = is.place;
      reached = is.reached;
      whole = λ n there. is.whole n (message_from n there).0;
      full = λ under. reads_on is.segment under (is.full under);
    }

-- The log file.
pub log_forgets : (sum : List ℕ → ℕ) (size : ℕ) (log : List ℕ) (H : History) (A : ℕ) (first : SnapshotModel) (cut : ℕ × Option ℕ) (is : IsRecoverableLog sum size log H A first cut)
    → ((s : Scanned) (x : ScannedRecord) → Contains is.scanned s → Contains s.met x → x.place < cut.0) → IsRecoverableLog sum size log (below H cut.0) A first cut
log_forgets sum size log H A first cut is lower = record {
  ordering = is.ordering;
  numbers = is.numbers;
  scanned = is.scanned;
  reads = is.reads;
  tail = is.tail;
  is_tail = is.is_tail;
  marks = λ s there. mark_of H cut.0 s (is.marks s there);
  truth = λ s x there met. of_kept H cut.0 sum size log x (lower s x there met) (is.truth s x there met);
  caps = λ s there. (
    (λ capped. let none = (is.caps s there).0 capped in (
      no_message H cut.0 (s.segment.place + s.stop) (s.segment.place + size) none.0,
      no_batch H cut.0 (s.segment.place + s.stop) (s.segment.place + size) none.1,
    )),
    (λ goes b at_b. (is.caps s there).1 goes b (batch_from H cut.0 b at_b).0),
  );
  tail_there = is.tail_there;
  is_cut = is.is_cut;
  not_below = is.not_below;
  passes = is.passes;
  marks_below = λ s there. mark_below H cut.0 size s.mark (is.marks_below s there);
  placed = λ m there under. is.placed m (message_from H cut.0 m there).0 under;
  batched = λ b there under. placed_batch H cut.0 size b (is.batched b (batch_from H cut.0 b there).0 under);
  needed = λ page m there.
      let had = is.needed page m (subst (λ (l : List Message). Contains l m) (table_kept H cut.0 page) there) in
      (segment_of H cut.0 sum size log m had.0, had.1);
}

-- And the blobs.
pub blobs_forget : (sum : List ℕ → ℕ) (blobs : ℤ → Option (List ℕ)) (H : History) (cut : ℕ) → AreRecoverableBlobs sum blobs H cut → AreRecoverableBlobs sum blobs (below H cut) cut
blobs_forget sum blobs H cut are = record {
  needed = λ page m there. are.needed page m (subst (λ (l : List Message). Contains l m) (table_kept H cut page) there);
  named = λ m there. are.named m (message_from H cut m there).0;
}
