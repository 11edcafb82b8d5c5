-- A sealed buffer of a segment behind the first one is written, the first one that isn't or another: what a crash leaves of it stands as before, and so does the file behind it, with that segment as far as it is written then.
use Rattle.sled_core.proofs.Reserve.RecordEnds.{no_end_up}
use Rattle.sled_core.specs.declared.iterator.scan.ScanEnd.TheVariants.{Broken}
use Rattle.sled_core.proofs.Sealed.RecordsEnd.{records_covered, records_taken, records_why}
use Rattle.std.proofs.Common.{◌≢◌, ◌≡◌, ◌⊎◌, ◌≤◌, ◌<◌, ◌<ℤ◌, ◌+◌, ◌/◌, ◌^◌, ℕ, pos, max, Bool, true, false, if◌then◌else◌, List, [], ◌∷◌, ◌++◌, length, map, take, drop, Option, None, refl, sym, ap, subst, arith, inl, inr}
use Rattle.std.specs.List.{Contains}
use Rattle.std.specs.declared.io.Error.{Error as IoError}
use Rattle.std.proofs.lemmas.Bool.{cases_lt}
use Rattle.std.proofs.lemmas.List.Elements.{All-drop, Contains-append_left, Contains-append_right}
use Rattle.sled_codec.specs.History.{Batch, History, Message}
use Rattle.sled_codec.specs.Snapshots.{SnapshotModel}
use Rattle.sled_store.specs.Device.{State, LeavesLog, overwritten, Placement}
use Rattle.sled_store.specs.Foreign.{NoForeignLog}
use Rattle.sled_store.proofs.Segments.Elements.{in_first}
use Rattle.sled_core.specs.OpenBatches.{stable_below}
use Rattle.sled_core.specs.declared.iobuf.Reserved.{Reserved}
use Rattle.sled_core.specs.declared.iobuf.Sealed.{Sealed}
use Rattle.sled_core.specs.declared.iobuf.SegmentPosition.{SegmentPosition}
use Rattle.sled_core.specs.inside.Buffers.{records_end, IsChain, batches_in, completed_in}
use Rattle.sled_core.specs.Begun.{SegmentParts, records_to}
use Rattle.sled_core.specs.inside.Fits.{HasMark, HoldsIn, HoldsNext, begun_segment, log_parts}
use Rattle.sled_core.specs.inside.LogFile.{padded}
use Rattle.sled_core.specs.inside.Reached.{BegunSegment, StandsAmong}
use Rattle.sled_core.specs.inside.Recoverable.{NoBatchEnds}
use Rattle.sled_core.specs.Recoverable.{NoHeaderOfZeros}
use Rattle.sled_core.specs.inside.SealedBuffers.{AreSealed, FirstUnwritten, Laid, now_written, run_count, run_end}
use Rattle.sled_core.specs.SealedBuffers.{bytes_between, sealed_end}
use Rattle.sled_core.specs.declared.logger.joined_marks.JoinedMarks.{JoinedMarks}
use Rattle.sled_core.specs.Tail.{least_place}
use Rattle.sled_core.proofs.Line.HeldAround.{HoldAround, behind_place, held_around, held_here, stays_below}
use Rattle.sled_core.proofs.Line.FitsCompleted.{front_low, of_segment}
use Rattle.sled_core.proofs.Flush.Completed.{front_only, has_only}
use Rattle.sled_core.proofs.Line.FirstWritten.{none_or_begun}
use Rattle.sled_core.proofs.Flush.FlushLemmas.{on_file}
use Rattle.sled_core.proofs.Sealed.Padded.{length-padded, padded_get}
use Rattle.sled_core.proofs.Sealed.SealedFile.{chain_done}
use Rattle.sled_core.proofs.Holds.WholeHistory.{whole_ascends}
use Rattle.sled_core.proofs.Reached.BufferPath.{HasOnly, buffer_header, mark_same}
use Rattle.sled_core.proofs.Reached.SegmentsBeside.{grown_one}
use Rattle.sled_core.proofs.Reached.StandsTo.{StandsTo}
use Rattle.sled_core.proofs.Reserve.Entries.{some_long}
use Rattle.sled_core.proofs.Reserve.Ranges.{chain_grows}
use Rattle.sled_core.proofs.Sealed.Ended.{chain_rest, ends_rise}
use Rattle.sled_core.proofs.Sealed.HeadSealed.{run_below}
use Rattle.sled_core.proofs.Sealed.LaidLemmas.{EndsRise, laid_same}
use Rattle.sled_core.proofs.Sealed.OneWritten.{has_written, length-between, rises_at}
use Rattle.sled_core.proofs.Sealed.OtherBehind.{other_behind_written, torn_other_behind}
use Rattle.sled_core.proofs.Sealed.OtherSealed.{other_sealed_written, torn_other_sealed}
use Rattle.sled_core.proofs.Torn.TornLemmas.{after_write}

module _ (sum : List ℕ → ℕ) (size : ℕ) (site : SegmentPosition) (device : State) (fault : Option IoError) (bytes : List ℕ) (from : ℕ) (bs : List Sealed) (rs : List Reserved) (H : History)
    (pre : List SegmentParts) (s : SegmentParts) (post : List SegmentParts) {marks : JoinedMarks} (holds : HoldsIn sum marks (log_parts size site device fault bytes from bs rs) (pre ++ s ∷ post) H)
    (big : 256 ≤ size) (whole : fault ≡ None) (short : length bytes ≤ size) (place_small : s.site.place + size < 2 ^ 63) (slot_small : s.site.slot + size < 2 ^ 63) (fresh : FirstUnwritten s.sealed)
    (b : Sealed) (rest : List Sealed) (closed : b.open_count ≡ 0) (recorded : records_to s.filled (length s.bytes) ≤ records_end s.reserved (length s.bytes)) where
  abbrev stays : Message → Type 0
  stays = stays_below sum size site device fault bytes from bs rs H pre s post holds

  abbrev parts : HoldAround sum size device fault (site.place + size) pre s post stays H.batches holds.later
  parts = held_around sum size site device fault bytes from bs rs H pre s post holds

  abbrev here : HoldsNext sum size device fault (behind_place size (site.place + size) pre) s stays H.batches parts.own
  here = held_here sum size site device fault bytes from bs rs H pre s post holds

  abbrev own_history : History
  own_history = record { messages = parts.own; batches = H.batches }

  abbrev y : BegunSegment
  y = begun_segment s

  abbrev before : List BegunSegment
  before = map begun_segment pre

  abbrev after : List BegunSegment
  after = map begun_segment post

  abbrev old : List ℕ
  old = device.log.bytes

  -- where the buffer begins behind others, and its bytes
  abbrev at : List Sealed → ℕ
  at front = sealed_end s.written_len front

  abbrev asked : List Sealed → List ℕ
  asked front = bytes_between s.bytes (at front) b.end

  -- and how much of the segment is written then
  abbrev stop : List Sealed → ℕ
  stop front = run_end s.written_len (front ++ now_written b ∷ rest)

  header : s.written_len ≡ 0 → (m : HasMark sum s.site s.bytes H) × (m.mark <ℤ pos (site.place + from))
  header none =
      let m = here.segment.records.header none in (
        record { mark = m.mark; is = m.is; of_history = mark_same own_history H (record { place = s.site.place; slot = s.site.slot; mark = m.mark }) refl m.of_history },
        holds.marked s (Contains-append_right pre (s ∷ post) s (in_first s post)) none m.mark (buffer_header sum s.site s.bytes own_history m (omega (arith, place_small))),
      )

  begins : (s.written_len ≡ 0) ⊎ (20 ≤ s.written_len)
  begins = none_or_begun sum size old s.site s.written_len here.segment.records.earlier stays (on_file sum size device.log s.site s.written_len here.segment.records.earlier stays (here.segment.written whole))

  rise_all : EndsRise s.written_len s.sealed (length s.bytes)
  rise_all = ends_rise s.written_len s.reserved s.sealed (length s.bytes) here.are here.behind here.held

  rise_size : EndsRise s.written_len s.sealed size
  rise_size = let in_text = here.held in let behind = here.behind in let inside = here.inside in ends_rise s.written_len s.reserved s.sealed size here.are (omega (arith, behind, inside)) (omega (arith, in_text, inside))

  -- the file has of it what it has with zeros behind its end
  laid_in : (to : ℕ) → Laid (padded to old) s.site.slot s.bytes s.written_len s.sealed size
  laid_in to = laid_same s.site.slot old (padded to old) s.bytes s.written_len s.sealed size rise_size (record { grows = omega (arith, length-padded to old); same = λ i above below. padded_get to old (s.site.slot + i) }) (here.segment.laid whole)

  -- Of the history these are all that begins in a part of the segment.
  own_only : (ms : List Message) (batches : List Batch) (low high : ℕ) → s.site.place ≤ low → high ≤ s.site.place + size → HasOnly own_history ms batches low high → HasOnly H ms batches low high
  own_only ms batches low high above inside only = record {
    there = λ m its. subst (λ (l : List Message). Contains l m) (sym holds.messages)
        (Contains-append_right holds.head holds.later m (subst (λ (l : List Message). Contains l m) (sym parts.messages) (Contains-append_right parts.before (parts.own ++ parts.after) m (Contains-append_left parts.own parts.after m (only.there m its)))));
    only = λ m among. elim (cases_lt m.place low) [
      | inl lower ↦ inr (inl lower)
      | inr over ↦ elim (cases_lt m.place high) [
        | inl under ↦ only.only m (of_segment sum size site device fault bytes from bs rs H pre s post holds short m among (omega (arith, above, over)) (omega (arith, under, inside)))
        | inr past ↦ inr (inr past)
      ]
    ];
    noted = only.noted;
    begun = only.begun;
  }

  -- At these buffers.
  module _ (front : List Sealed) (split : s.sealed ≡ front ++ b ∷ rest) where
    are_split : AreSealed s.written_len s.reserved (front ++ b ∷ rest)
    are_split = subst (λ (cs : List Sealed). AreSealed s.written_len s.reserved cs) split here.are

    rise_split : EndsRise s.written_len (front ++ b ∷ rest) size
    rise_split = subst (λ (cs : List Sealed). EndsRise s.written_len cs size) split rise_size

    fresh_split : FirstUnwritten (front ++ b ∷ rest)
    fresh_split = subst FirstUnwritten split fresh

    laid_split : (to : ℕ) → Laid (padded to old) s.site.slot s.bytes s.written_len (front ++ b ∷ rest) size
    laid_split to = subst (λ (cs : List Sealed). Laid (padded to old) s.site.slot s.bytes s.written_len cs size) split (laid_in to)

    laid_old : Laid old s.site.slot s.bytes s.written_len (front ++ b ∷ rest) size
    laid_old = subst (λ (cs : List Sealed). Laid old s.site.slot s.bytes s.written_len cs size) split (here.segment.laid whole)

    pub lies : (s.written_len ≤ at front) × (at front < b.end) × (b.end ≤ length s.bytes)
    lies = rises_at s.written_len front b rest (length s.bytes) (subst (λ (cs : List Sealed). EndsRise s.written_len cs (length s.bytes)) split rise_all)

    pub some_asked : 0 < length (asked front)
    some_asked = let l = lies in omega (arith, l.1, length-between s.bytes (at front) b.end l.2)

    -- the file reaches its slot then
    pub reaches : s.site.slot ≤ length (overwritten old (s.site.slot + at front) (asked front))
    reaches = let agrees = has_written old s.site.slot s.bytes s.written_len front b rest size rise_split lies.2 in let in_file = agrees.in_file in omega (arith, in_file)

  -- Of the first one: it is all of the history that begins in what is written then.
  has_first : s.sealed ≡ b ∷ rest → HasOnly H (completed_in s.site s.bytes (take (b.count + run_count rest) s.reserved)) (batches_in s.site s.bytes (take (b.count + run_count rest) s.reserved)) (s.site.place + max 20 s.written_len) (s.site.place + run_end b.end rest)
  has_first split =
      let are = are_split [] split in
      let count : ℕ = b.count + run_count rest in
      let chain : IsChain (run_end b.end rest) (drop count s.reserved) (length s.bytes) =
      chain_rest (max 20 s.written_len) (length s.bytes) s.reserved count (run_end b.end rest) here.segment.records.chain (chain_done s.written_len s.reserved b rest closed are) in
      let low = run_below b.end rest size (rise_split [] split).1 in
      own_only (completed_in s.site s.bytes (take count s.reserved)) (batches_in s.site s.bytes (take count s.reserved)) (s.site.place + max 20 s.written_len) (s.site.place + run_end b.end rest) (omega arith) (omega (arith, low))
      (front_only s.site s.bytes own_history s.reserved count (s.site.place + max 20 s.written_len) (run_end b.end rest) (length s.bytes) chain
      (All-drop (λ (r : Reserved). 0 < r.len) count s.reserved (some_long sum size (s.site.place / size) s.bytes s.reserved here.segment.records.stand))
      (has_only sum size s.site device fault s.bytes s.written_len s.sealed s.reserved own_history here.segment here.inside))

  -- and where the reading ends there, but for want of a record, no batch ends behind that
  no_end_first : s.sealed ≡ b ∷ rest → records_why size (take (b.count + run_count rest) s.reserved) (run_end b.end rest) ≢ Broken
      → NoBatchEnds H (s.site.place + records_end (take (b.count + run_count rest) s.reserved) (run_end b.end rest)) (s.site.place + size)
  no_end_first split goes =
      let are = are_split [] split in
      let count : ℕ = b.count + run_count rest in
      let chain = chain_done s.written_len s.reserved b rest closed are in
      no_end_up H s.site.place (records_end s.reserved (length s.bytes)) (records_end (take count s.reserved) (run_end b.end rest)) (s.site.place + size)
      (records_covered sum size (s.site.place / size) s.bytes (max 20 s.written_len) s.reserved count (run_end b.end rest) (length s.bytes) chain
      (chain_rest (max 20 s.written_len) (length s.bytes) s.reserved count (run_end b.end rest) here.segment.records.chain chain) here.segment.records.stand goes) here.segment.records.no_end

  -- Where the segment is full then, it is read behind its records.
  up_to_first : s.sealed ≡ b ∷ rest → run_end b.end rest ≡ size → records_to s.filled size ≤ records_end (take (b.count + run_count rest) s.reserved) (run_end b.end rest)
  up_to_first split whole =
      let are = are_split [] split in
      let count : ℕ = b.count + run_count rest in
      let chain = chain_done s.written_len s.reserved b rest closed are in
      let others = chain_rest (max 20 s.written_len) (length s.bytes) s.reserved count (run_end b.end rest) here.segment.records.chain chain in
      let inside = here.inside in
      let far = chain_grows (run_end b.end rest) (length s.bytes) (drop count s.reserved) others in
      let long : length s.bytes ≡ size = omega (arith, inside, far, whole) in
      let up = subst (λ n. records_to s.filled n ≤ records_end s.reserved n) long recorded in
      let less = records_taken sum size (s.site.place / size) s.bytes (max 20 s.written_len) s.reserved count (run_end b.end rest) (length s.bytes) chain others here.segment.records.stand (omega (arith, whole, big)) in
      omega (arith, up, less, ap (records_end s.reserved) long)

  -- What a crash leaves of the write.
  pub torn_one : (front : List Sealed) → s.sealed ≡ front ++ b ∷ rest → NoHeaderOfZeros sum → (reach : ℕ) (first : SnapshotModel) → {held : ℕ} → StandsAmong sum held size old site from (before ++ y ∷ after) reach H first → (now left : List ℕ) → length now ≤ length (asked front)
      → LeavesLog (after_write old (s.site.slot + at front) (asked front) now) left → (placed : List Placement) → NoForeignLog sum size (after_write old (s.site.slot + at front) (asked front) now) placed left → StandsTo sum size left H (stable_below reach H.batches) first reach
  torn_one [] split none reach first among now left no_more leaves placed only_own =
      torn_other_sealed sum none size big old site from before y after here.segment.records.place_begins here.segment.records.slot_begins place_small slot_small s.bytes begins s.reserved b rest (fresh_split [] split) closed (are_split [] split) (rise_split [] split)
      (lies [] split).2 here.segment.records.stand header (laid_old [] split) reach first among (has_first split) (no_end_first split) now left no_more leaves {placed = placed} only_own
  torn_one (x ∷ xs) split none reach first among now left no_more leaves placed only_own =
      torn_other_behind sum none size big old site from (before ++ y ∷ after) y (Contains-append_right before (y ∷ after) y (in_first y after)) here.segment.records.slot_begins s.bytes begins s.reserved x xs b rest (fresh_split (x ∷ xs) split)
      (are_split (x ∷ xs) split) (rise_split (x ∷ xs) split) (lies (x ∷ xs) split).2 (s.site.place / size) here.segment.records.stand (laid_old (x ∷ xs) split) reach H first among now left no_more leaves {placed = placed} only_own

  -- All of it, with zeros behind the end of the file, where this reaches its slot.
  pub whole_one : (front : List Sealed) → s.sealed ≡ front ++ b ∷ rest → NoHeaderOfZeros sum → (reach : ℕ) (first : SnapshotModel) → least_place size first ≤ site.place → (to : ℕ) → s.site.slot ≤ length (padded to old)
      → {held : ℕ} → StandsAmong sum held size (padded to old) site from (before ++ y ∷ after) reach H first
      → StandsAmong sum held size (overwritten (padded to old) (s.site.slot + at front) (asked front)) site from (before ++ grown_one y (stop front) ∷ after) reach H first
  whole_one [] split none reach first least to there among =
      other_sealed_written sum none size big (padded to old) site from before y after here.segment.records.place_begins here.segment.records.slot_begins place_small slot_small s.bytes begins s.reserved b rest (fresh_split [] split) closed (are_split [] split) (rise_split [] split)
      (lies [] split).2 here.segment.records.stand header (laid_split [] split to) reach first among (has_first split) (no_end_first split) (whole_ascends sum size site device fault bytes from bs rs H holds short) there
      (let up = (front_low sum size site device fault bytes from bs rs H pre s post holds short).0 in omega (arith, least, up)) (up_to_first split)
  whole_one (x ∷ xs) split none reach first least to there {held} among =
      by x.is_written (fresh_split (x ∷ xs) split)
    where
      by : (o : Bool) → o ≡ false → StandsAmong sum held size (overwritten (padded to old) (s.site.slot + at (x ∷ xs)) (asked (x ∷ xs))) site from (before ++ grown_one y (if o then run_end x.end (xs ++ now_written b ∷ rest) else s.written_len) ∷ after) reach H first
      by true is = absurd (let never : ⊥ = cc in never)
      by false is =
          other_behind_written sum none size big (padded to old) site from (before ++ y ∷ after) y (Contains-append_right before (y ∷ after) y (in_first y after)) here.segment.records.slot_begins s.bytes begins s.reserved x xs b rest (fresh_split (x ∷ xs) split)
          (are_split (x ∷ xs) split) (rise_split (x ∷ xs) split) (lies (x ∷ xs) split).2 (s.site.place / size) here.segment.records.stand (laid_split (x ∷ xs) split to) reach H first among there
