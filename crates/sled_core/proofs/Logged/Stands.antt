-- What stands in a log file of a history stands there of each one that is alike: a reader meets records, and sees no item that a blob has.
use Rattle.std.proofs.Common.{◌≡◌, ◌∙◌, ◌⊎◌, ◌+◌, ◌*◌, ◌/◌, ◌%◌, ◌≤◌, ◌<◌, ◌≤ℤ◌, ℕ, ℤ, pos, List, refl, sym, ap, subst, inl, inr}
use Rattle.std.specs.List.{Contains}
use Rattle.sled_codec.specs.declared.result.DiskPtr.{DiskPtr}
use Rattle.sled_codec.specs.declared.result.DiskPtr.TheVariants.{Inline, Blob}
use Rattle.sled_codec.specs.History.{Message, Batch, History}
use Rattle.sled_codec.specs.Pointers.{lid_of}
use Rattle.sled_codec.specs.Snapshots.{SnapshotModel, stable_place}
use Rattle.sled_core.specs.declared.iobuf.SegmentPosition.{SegmentPosition}
use Rattle.sled_core.specs.declared.iterator.Segment.{Segment}
use Rattle.sled_core.specs.declared.iterator.scan.ScannedRecord.{ScannedRecord}
use Rattle.sled_core.specs.declared.iterator.scan.RecordContent.TheVariants.{Gives}
use Rattle.sled_core.specs.declared.iterator.scan.ScanEnd.{ScanEnd}
use Rattle.sled_core.specs.LogFile.{MessageStands}
use Rattle.sled_core.specs.Logged.{in_log, logged}
use Rattle.sled_core.specs.OpenBatches.{stable_below}
use Rattle.sled_core.specs.inside.Reached.{BegunSegment, BeginsNext, ReachesIn, StandsActive, StandsAmong, StandsTo}
use Rattle.sled_core.specs.inside.Recoverable.{BeginsInSegment, IsMarkBelow, IsMarkOf, IsOfHistory, IsPlacedBatch, IsReachedIn, IsReadOn, IsSegmentOf, LiesInSegment, MeetsMessage, NamesBlobOf, NothingBehind, StandsInline}
use Rattle.sled_core.specs.inside.Slots.{IsWholeSegment, marked_at}
use Rattle.sled_core.specs.Reading.{BlobIsBelow}
use Rattle.sled_core.proofs.Logged.Alike.{alike_all, alike_batch, alike_batches, alike_there, entry_alike, no_batch_alike, no_end_alike, no_message_alike}
use Rattle.sled_core.proofs.Logged.Messages.{inline_alike}

-- Two messages of which the log has the same.
module _ (m n : Message) (is : in_log n ≡ in_log m) where
  -- what a reader meets is the one where it is the other
  pub meets_alike : (x : ScannedRecord) → MeetsMessage x m → MeetsMessage x n
  meets_alike x meets = record {
    place = meets.place ∙ ap (λ (y : Message). y.place) (sym is);
    len = meets.len ∙ ap (λ (y : Message). y.size) (sym is);
    what = subst (λ (y : Message). (x.what ≡ Gives y.kind y.page y.pointer) ⊎ NamesBlobOf x.what y) (sym is) meets.what;
  }

  -- they lie in one segment, and their blobs were made no later
  pub lies_alike : (size : ℕ) → LiesInSegment size m → LiesInSegment size n
  lies_alike size lies = record {
    begins = subst (λ (y : Message). BeginsInSegment size y.place) (sym is) lies.begins;
    ends = subst (λ (y : Message). y.place % size + y.size ≤ size) (sym is) lies.ends;
    blob = subst (BlobIsBelow n) (ap (λ (y : Message). y.pointer) (sym is)) (by m.pointer lies.blob);
  } where
    by : (p : DiskPtr) → BlobIsBelow m p → BlobIsBelow n p
    by (Inline lid) low = tt
    by (Blob lid place) low = subst (λ (y : Message). place ≤ℤ pos y.place) (sym is) low

  module _ (sum : List ℕ → ℕ) (size : ℕ) (log : List ℕ) where
    -- the record of the one that has its item there stands where that of the other does
    pub inline_stands_alike : StandsInline sum size log m m.pointer → StandsInline sum size log n n.pointer
    inline_stands_alike stands = subst (StandsInline sum size log n) (ap (λ (y : Message). y.pointer) (sym is)) (by m.pointer refl stands) where
      by : (p : DiskPtr) → m.pointer ≡ p → StandsInline sum size log m p → StandsInline sum size log n p
      by (Inline lid) inline there = subst (λ (y : Message). MessageStands sum size log lid (y.place / size) y) (sym (inline_alike m n lid is inline)) there
      by (Blob lid place) blob there = tt

    -- a reader that comes to the one comes to the other
    pub reached_alike : (s : Segment) → IsReachedIn sum size log s m → IsReachedIn sum size log s n
    reached_alike s reached = record {
      before = reached.before;
      at = reached.at;
      path = reached.path;
      room = reached.room;
      place = ap (λ (y : Message). y.place) is ∙ reached.place;
      lid = ap (λ (y : Message). lid_of y.pointer) is ∙ reached.lid;
      met = reached.met;
      is_met = reached.is_met;
      meets = meets_alike reached.met reached.meets;
    }

-- Two histories of which the log has the same.
module _ (H R : History) (same : logged H ≡ logged R) where
  -- a mark lies in no batch of the one where it lies in none of the other
  pub mark_alike : (s : Segment) → IsMarkOf H s → IsMarkOf R s
  mark_alike s mark = record { least = mark.least; below = mark.below; apart = λ b there. mark.apart b (alike_batch R H (sym same) b there) }

  module _ (size : ℕ) where
    -- behind where the reading of a segment ends there is nothing of the one where there is nothing of the other
    pub nothing_behind_alike : (place stop : ℕ) (why : ScanEnd) → NothingBehind size H place stop why → NothingBehind size R place stop why
    nothing_behind_alike place stop why none = (
      λ capped. (no_message_alike H R same (place + stop) (place + size) (none.0 capped).0, no_batch_alike H R same (place + stop) (place + size) (none.0 capped).1),
      λ whole. no_end_alike H R same (place + stop) (place + size) (none.1 whole),
    )

    -- a mark lies below a cut, or nothing of the history lies between the two
    pub mark_below_alike : (cut : ℕ) (mark : ℤ) → IsMarkBelow size H cut mark → IsMarkBelow size R cut mark
    mark_below_alike cut mark (inl low) = inl low
    mark_below_alike cut mark (inr (n, is, low, no_message, no_batch, no_end)) =
        inr (n, is, low, no_message_alike H R same cut (n + 1) no_message, no_batch_alike H R same cut (n + 1) no_batch, no_end_alike H R same cut (n + 1) no_end)

    -- a segment begins behind what was reached, with nothing of the history between
    pub begins_next_alike : (reach place : ℕ) → BeginsNext size H reach place → BeginsNext size R reach place
    begins_next_alike reach place begins = record {
      above = begins.above;
      next = begins.next;
      no_message = no_message_alike H R same reach place begins.no_message;
      no_batch = no_batch_alike H R same reach place begins.no_batch;
      no_end = no_end_alike H R same reach place begins.no_end;
    }

    -- what was reached ends in a segment, or before it
    pub reaches_in_alike : (place from reach : ℕ) → ReachesIn size H place from reach → ReachesIn size R place from reach
    reaches_in_alike place from reach (inl there) = inl there
    reaches_in_alike place from reach (inr (none, begins)) = inr (none, begins_next_alike reach place begins)

    -- the messages lie in their segments
    pub placed_alike : ((m : Message) → Contains H.messages m → LiesInSegment size m) → (n : Message) → Contains R.messages n → LiesInSegment size n
    placed_alike placed = alike_all R H (sym same) (LiesInSegment size) (λ n m is lies. lies_alike m n (sym is) size lies) placed

    -- a batch is placed as a log places it
    pub placed_batch_alike : (b : Batch) → IsPlacedBatch size H b → IsPlacedBatch size R b
    placed_batch_alike b placed = record {
      begins = placed.begins;
      alone = λ c there at. placed.alone c (alike_batch R H (sym same) c there) at;
      nested = λ c there above inside. placed.nested c (alike_batch R H (sym same) c there) above inside;
    }

  module _ (sum : List ℕ → ℕ) (size : ℕ) (log : List ℕ) where
    -- What a reader meets is of the one where it is of the other.
    pub of_history_alike : (x : ScannedRecord) → IsOfHistory sum size log H x → IsOfHistory sum size log R x
    of_history_alike x (inl (m, there, meets, stands, no_message, no_batch)) =
        let other = alike_there H R same m there in
        inl (
          other.0,
          other.1,
          meets_alike m other.0 other.2 x meets,
          inline_stands_alike m other.0 other.2 sum size log stands,
          no_message_alike H R same (x.place + 1) (x.place + x.len) no_message,
          no_batch_alike H R same x.place (x.place + x.len) no_batch,
        )
    of_history_alike x (inr (inl (b, there, at, what, no_message, no_batch))) = inr (inl (
      b,
      alike_batch H R same b there,
      at,
      what,
      no_message_alike H R same x.place (x.place + x.len) no_message,
      no_batch_alike H R same (x.place + 1) (x.place + x.len) no_batch,
    ))
    of_history_alike x (inr (inr (what, no_message, no_batch))) =
        inr (inr (what, no_message_alike H R same x.place (x.place + x.len) no_message, no_batch_alike H R same x.place (x.place + x.len) no_batch))

    -- a segment is read to its end
    pub read_on_alike : (s : Segment) → IsReadOn sum size log H s → IsReadOn sum size log R s
    read_on_alike s read = record { scan = read.scan; of = read.of; read = read.read; goes = read.goes; truth = λ x there. of_history_alike x (read.truth x there) }

    -- The segment of a message is there, and in it each message below the cut is reached.
    pub segment_alike : (cut : ℕ) (m n : Message) → in_log n ≡ in_log m → IsSegmentOf sum size log H cut m → IsSegmentOf sum size log R cut n
    segment_alike cut m n is there = record {
      segment = there.segment;
      found = there.found;
      place = there.place ∙ ap (λ (x : Message). x.place / size * size) (sym is);
      reached = reached_alike m n is sum size log there.segment there.reached;
      whole = λ y found in_segment low.
          let other = alike_there R H (sym same) y found in
          let segments : other.0.place / size ≡ m.place / size = ap (λ (x : Message). x.place / size) other.2 ∙ in_segment ∙ ap (λ (x : Message). x.place / size) is in
          reached_alike other.0 y (sym other.2) sum size log there.segment (there.whole other.0 other.1 segments (subst (λ (x : Message). x.place < cut) (sym other.2) low));
      full = λ ends. read_on_alike there.segment (there.full ends);
    }

    -- A segment that is read to its end, with each message of it reached, is so.
    pub whole_alike : (slot place : ℕ) → IsWholeSegment sum size log H slot place → IsWholeSegment sum size log R slot place
    whole_alike slot place whole = record {
      mark = whole.mark;
      found = whole.found;
      read_on = read_on_alike (marked_at slot place whole.mark) whole.read_on;
      reached = λ y found own.
          let other = alike_there R H (sym same) y found in
          let here = ap (λ (x : Message). x.place / size * size) other.2 ∙ own in
          reached_alike other.0 y (sym other.2) sum size log (marked_at slot place whole.mark) (whole.reached other.0 other.1 here);
    }

    -- What a reader finds up to a place, for a stable place that is written in two ways. It reads the same segments.
    abbrev pub stands_alike_at : (A B : ℕ) (first : SnapshotModel) (reach : ℕ) → A ≡ B → StandsTo sum size log H A first reach → StandsTo sum size log R B first reach
    stands_alike_at A B first reach at stands = record {
      ordering = stands.ordering;
      numbers = stands.numbers;
      scanned = stands.scanned;
      reads = stands.reads;
      marks = λ s there. mark_alike s (stands.marks s there);
      truth = λ s x there met. of_history_alike x (stands.truth s x there met);
      caps = λ s there. nothing_behind_alike size s.segment.place s.stop s.why (stands.caps s there);
      not_below = subst (λ (a : ℕ). stable_place first.stable ≤ a) at stands.not_below;
      passes = subst (λ (a : ℕ). a ≤ reach) at stands.passes;
      marks_below = λ s there. subst (λ (a : ℕ). IsMarkBelow size R a s.mark) at (mark_below_alike size A s.mark (stands.marks_below s there));
      placed = placed_alike size stands.placed;
      batched = λ b there. placed_batch_alike size b (stands.batched b (alike_batch R H (sym same) b there));
      closed = λ b there low. subst (λ (a : ℕ). b.peg < a) at (stands.closed b (alike_batch R H (sym same) b there) (subst (λ (a : ℕ). b.low < a) (sym at) low));
      from = stands.from;
      from_low = stands.from_low;
      from_high = subst (λ (a : ℕ). stands.from ≤ a) at stands.from_high;
      tail_from = stands.tail_from;
      gapless = stands.gapless;
      needed = λ cut above below page m entry.
          let other = entry_alike R H (sym same) cut page m entry in
          let there = stands.needed cut above below page other.0 other.1 in
          (segment_alike cut other.0 m (sym other.2) there.0, inline_stands_alike other.0 m (sym other.2) sum size log there.1);
    }

    -- so for one that is written alike
    abbrev pub stands_alike : (A : ℕ) (first : SnapshotModel) (reach : ℕ) → StandsTo sum size log H A first reach → StandsTo sum size log R A first reach
    stands_alike A first reach stands = stands_alike_at A A first reach refl stands

    -- the stable place of the batches is the same
    stable_same : (reach : ℕ) → stable_below reach H.batches ≡ stable_below reach R.batches
    stable_same reach = ap (stable_below reach) (alike_batches H R same)

    -- The segments that were begun stand there.
    pub among_alike : (site : SegmentPosition) (from : ℕ) (others : List BegunSegment) (reach : ℕ) (first : SnapshotModel) → {held : ℕ} → StandsAmong sum held size log site from others reach H first → StandsAmong sum held size log site from others reach R first
    among_alike site from others reach first among = record {
      stands = stands_alike_at (stable_below reach H.batches) (stable_below reach R.batches) first reach (stable_same reach) among.stands;
      low = among.low;
      reached = reaches_in_alike size site.place from reach among.reached;
      led = among.led;
      here = among.here;
      behind = among.behind;
      apart = among.apart;
      last = among.last;
      below = among.below;
    }

    -- so where a log goes on from a snapshot
    pub active_alike : (s : SnapshotModel) → StandsActive sum size log s H → StandsActive sum size log s R
    active_alike s active = record { stands = stands_alike (stable_place s.stable) s (stable_place s.stable) active.stands; only = active.only; going = active.going }
