-- What has the segments in some slots of another log file, with the bytes that lay there, stands up to the same place, where these slots have each segment that
-- is found and each that a table needs.
use Rattle.std.proofs.Common.{◌≡◌, ◌≢◌, ◌∙◌, ◌+◌, ◌*◌, ◌/◌, ◌%◌, ◌<◌, ◌≤◌, ℕ, pos, List, [], ◌∷◌, length, refl, sym, ap, subst, arith}
use Rattle.std.specs.List.{Contains}
use Rattle.sled_codec.specs.declared.result.DiskPtr.{DiskPtr}
use Rattle.sled_codec.specs.declared.result.DiskPtr.TheVariants.{Inline, Blob}
use Rattle.sled_codec.specs.declared.serialization.message.MessageHeader.{MessageHeader}
use Rattle.sled_codec.specs.History.{Message, History, table}
use Rattle.sled_codec.specs.Places.{part}
use Rattle.sled_codec.specs.Pointers.{lid_of}
use Rattle.sled_codec.specs.Record.{IsHeader}
use Rattle.sled_codec.specs.Snapshots.{SnapshotModel}
use Rattle.sled_core.specs.declared.iterator.Segment.{Segment}
use Rattle.sled_core.specs.declared.iterator.scan.ScannedRecord.{ScannedRecord}
use Rattle.sled_core.specs.declared.iterator.scan.ScanEnd.{ScanEnd}
use Rattle.sled_core.specs.declared.iterator.scan.ScanEnd.TheVariants.{Full, Capped, Broken}
use Rattle.sled_core.specs.Reading.{StandsAt}
use Rattle.sled_core.specs.inside.Hides.{IsTrueReading}
use Rattle.sled_core.specs.inside.Recoverable.{StandsInline, IsReachedIn, IsReadOn, IsSegmentOf}
use Rattle.sled_core.specs.inside.Scan.{IsFoundSegment}
use Rattle.sled_core.specs.Scan.{IsMet, IsPath, IsEnd, EndsThere, IsScan}
use Rattle.sled_core.proofs.Tail.LogFileLemmas.{record_moved}
use Rattle.sled_core.proofs.Torn.AlikeSlots.{SameIn, slot_found}
use Rattle.sled_core.proofs.Torn.KeptSlots.{KeepsSlots}
use Rattle.sled_core.proofs.Torn.TornRecords.{long_enough}
use Rattle.sled_core.proofs.Torn.WrittenParts.{all_there, in_this_file, in_segment}
use Rattle.sled_core.proofs.Torn.WrittenRecords.{AlikeAlong}
use Rattle.sled_core.specs.Tail.{Scanned, IsScanned, IsOrdering, least_place}
use Rattle.sled_core.proofs.Tail.Moved.{message_moved}
use Rattle.sled_core.proofs.Tail.OneTail.{scan_there, segment_there}
use Rattle.sled_core.proofs.Reached.LeftBeside.{truth_alike}
use Rattle.sled_core.proofs.Reached.Reread.{IsAsFar, stands_still}
use Rattle.sled_core.proofs.Reached.StandsTo.{StandsFrom, StandsTo}

-- what lay of these slots in one file is the same in another
abbrev pub SameInUsed : ℕ → (ℕ → Type 0) → List ℕ → List ℕ → Type 0
SameInUsed size Used old left = (j : ℕ) → Used j → SameIn size old left j

-- What lies in a slot that has the bytes that it had.
module _ (sum : List ℕ → ℕ) (size : ℕ) (old left : List ℕ) (slot : ℕ) (aligned : slot % size ≡ 0)
    (same : (lid len : ℕ) → slot ≤ lid → lid + len ≤ slot + size → lid + len ≤ length old → part left lid len ≡ part old lid len) where
  -- a record has its bytes, all of them
  record_kept : (from number : ℕ) → from < size → (h : MessageHeader) (body : List ℕ) (len : ℕ) → StandsAt sum size old (slot + from) number h body len
      → (part left (slot + from) len ≡ part old (slot + from) len) × (slot + from + len ≤ length left)
  record_kept from number below h body len s =
      let there = s.in_file in
      let fits = in_segment sum size old slot aligned from number h body len below s in
      let some = long_enough sum size old (slot + from) number h body len s in
      let alike = same (slot + from) len (omega arith) (omega (arith, fits)) there in
      (alike, in_this_file sum size left old (slot + from) len (omega (arith, some)) (all_there sum size old (slot + from) number h body len s) alike)

  -- what is met is met with the same bytes
  pub path_kept : (place from : ℕ) (ms : List ScannedRecord) (next : ℕ) → IsPath sum size old slot place from ms next
      → IsPath sum size left slot place from ms next
  unfolding IsMet
  path_kept place from [] next path = path
  path_kept place from (m ∷ ms) next (room, at_place, (h, body, stands, says), path) =
      let kept = record_kept from (place / size) (omega (arith, room)) h body m.len stands in (
        room,
        at_place,
        (h, body, record_moved sum size old left (slot + from) (place / size) h body m.len kept.0 kept.1 stands, says),
        path_kept place (from + m.len) ms next path,
      )

  pub alike_kept : (place from : ℕ) (ms : List ScannedRecord) (next : ℕ) → IsPath sum size old slot place from ms next → AlikeAlong old left slot from ms
  unfolding IsMet
  alike_kept place from [] next path = tt
  alike_kept place from (m ∷ ms) next (room, at_place, (h, body, stands, says), path) =
      let kept = record_kept from (place / size) (omega (arith, room)) h body m.len stands in
      (kept.0, kept.1, alike_kept place (from + m.len) ms next path)

  -- A message that a reader comes to is reached,
  pub reached_kept : (s : Segment) → s.slot ≡ slot → (n : Message) → IsReachedIn sum size old s n → IsReachedIn sum size left s n
  reached_kept s here n r =
      let path = subst (λ k. IsPath sum size old k s.place 20 r.before r.at) here r.path in
      let met = subst (λ k. IsMet sum size old (k + r.at) (s.place / size) r.met) here r.is_met in
      let one : IsPath sum size old slot s.place r.at (r.met ∷ []) (r.at + r.met.len) = (r.room, r.meets.place ∙ r.place, met, refl) in
      record {
        before = r.before;
        at = r.at;
        path = subst (λ k. IsPath sum size left k s.place 20 r.before r.at) (sym here) (path_kept s.place 20 r.before r.at path);
        room = r.room;
        place = r.place;
        lid = r.lid;
        met = r.met;
        is_met = subst (λ k. IsMet sum size left (k + r.at) (s.place / size) r.met) (sym here) (path_kept s.place r.at (r.met ∷ []) (r.at + r.met.len) one).2;
        meets = r.meets;
      }

  -- and has its item.
  pub item_kept : (s : Segment) → s.slot ≡ slot → (n : Message) → IsReachedIn sum size old s n → StandsInline sum size old n n.pointer
      → StandsInline sum size left n n.pointer
  item_kept s here n r = by n.pointer refl where
    by : (p : DiskPtr) → n.pointer ≡ p → StandsInline sum size old n p → StandsInline sum size left n p
    by (Inline lid) pointer stands =
        let at : lid ≡ slot + r.at = ap lid_of (sym pointer) ∙ r.lid ∙ ap (λ k. k + r.at) here in
        let room = r.room in
        let moved = subst (λ k. StandsAt sum size old k (n.place / size) stands.header n.bytes n.size) at stands.stands in
        let kept = record_kept r.at (n.place / size) (omega (arith, room)) stands.header n.bytes n.size moved in
        message_moved sum size old left lid (n.place / size) n (subst (λ k. part left k n.size ≡ part old k n.size) (sym at) kept.0) (omega (arith, at, kept.1))
        stands
    by (Blob lid place) pointer stands = tt

  -- where the reading ended and led on, it does so
  end_kept : (place from : ℕ) (why : ScanEnd) → why ≢ Broken → IsEnd sum size old slot place from why → IsEnd sum size left slot place from why
  unfolding EndsThere
  end_kept place from Full goes full = full
  end_kept place from Capped goes (room, (h, body, len, s, is_cap)) =
      let kept = record_kept from (place / size) (omega (arith, room)) h body len s in
      (room, (h, body, len, record_moved sum size old left (slot + from) (place / size) h body len kept.0 kept.1 s, is_cap))
  end_kept place from Broken goes broken = absurd (goes refl)

  -- So a segment that is read to its end is read so, and what is met in it is of the history.
  pub read_on_kept : (H : History) (s : Segment) → s.slot ≡ slot → IsReadOn sum size old H s → IsReadOn sum size left H s
  unfolding IsScan
  read_on_kept H s here on =
      let t : Scanned = on.scan in
      let in_slot : t.segment.slot ≡ slot = ap (λ (u : Segment). u.slot) on.of ∙ here in
      let path = subst (λ k. IsPath sum size old k t.segment.place 20 t.met t.stop) in_slot on.read.0 in
      let end = subst (λ k. IsEnd sum size old k t.segment.place t.stop t.why) in_slot on.read.1 in
      let again = path_kept t.segment.place 20 t.met t.stop path in
      record {
        scan = t;
        of = on.of;
        read = subst (λ k. IsScan sum size left k t.segment.place t.met t.stop t.why) (sym in_slot) (again, end_kept t.segment.place t.stop t.why on.goes end);
        goes = on.goes;
        truth = truth_alike sum size old left H slot t.segment.place 20 t.met t.stop (alike_kept t.segment.place 20 t.met t.stop path) again on.truth;
      }

module _ (sum : List ℕ → ℕ) (size : ℕ) (Used : ℕ → Type 0) (old left : List ℕ) (keeps : KeepsSlots sum size Used old left)
    (same : SameInUsed size Used old left) where
  -- One segment in a used slot.
  module _ (least : ℕ) (s : Segment) (found : IsFoundSegment sum size old least s) (used : Used (s.slot / size)) where
    abbrev here : s.slot ≡ s.slot / size * size
    here = slot_found sum size old least s found

    -- it is found
    pub found_kept : IsFoundSegment sum size left least s
    found_kept = keeps.found (s.slot / size) used least s here found

    bytes_kept : (lid len : ℕ) → s.slot ≤ lid → lid + len ≤ s.slot + size → lid + len ≤ length old → part left lid len ≡ part old lid len
    bytes_kept lid len low high there =
        let begins : s.slot ≡ s.slot / size * size = here in
        same (s.slot / size) used lid len (omega (arith, low, begins)) (omega (arith, high, begins)) there

    -- and read as before
    pub scan_kept : (met : List ScannedRecord) (stop : ℕ) (why : ScanEnd) → IsScan sum size old s.slot s.place met stop why
        → IsScan sum size left s.slot s.place met stop why
    scan_kept met stop why scan =
        let header = subst (λ n. IsHeader sum (part left n 20) (pos s.place) s.mark) here found_kept.header in
        let before = subst (λ n. IsScan sum size old n s.place met stop why) here scan in
        subst (λ n. IsScan sum size left n s.place met stop why) (sym here) (keeps.met (s.slot / size) used s.place s.mark header met stop why before)

  -- What a table needs is there.
  needed_kept : (H : History) (cut : ℕ) (m : Message) (of : IsSegmentOf sum size old H cut m) → Used (of.segment.slot / size)
      → StandsInline sum size old m m.pointer
      → IsSegmentOf sum size left H cut m × StandsInline sum size left m m.pointer
  needed_kept H cut m of used item =
      let s : Segment = of.segment in
      let was = of.found in
      let bytes = bytes_kept 0 s was used in (
        record {
          segment = s;
          found = found_kept 0 s was used;
          place = of.place;
          reached = reached_kept sum size old left s.slot was.slot bytes s refl m of.reached;
          whole = λ n known number lower. reached_kept sum size old left s.slot was.slot bytes s refl n (of.whole n known number lower);
          full = λ under. read_on_kept sum size old left s.slot was.slot bytes H s refl (of.full under);
        },
        item_kept sum size old left s.slot was.slot bytes s refl m of.reached item,
      )

  -- These segments are found in it, each in a used slot, and so is each that is held: the log file stands up to the same place. One in front of the segments
  -- that are held may be gone.
  module _ (H : History) (A : ℕ) (first : SnapshotModel) (reach : ℕ) (is : StandsTo sum size old H A first reach)
      (ordering : List Segment) (numbers : IsOrdering sum size left (least_place size first) ordering)
      (listed : (s : Segment) → Contains ordering s → Used (s.slot / size))
      (held : (s : Segment) → Contains is.ordering s → is.from / size * size ≤ s.place → Used (s.slot / size))
      (entered : (cut : ℕ) (low : is.from ≤ cut) (high : cut ≤ reach) (page : ℕ) (m : Message) (entry : Contains (table H cut page) m)
      → Used ((is.needed cut low high page m entry).0.segment.slot / size)) where
    abbrev least : ℕ
    least = least_place size first

    known : (t : Scanned) → Contains is.scanned t → Contains is.ordering t.segment × IsScanned sum size old t
    known t there = segment_there sum size old is.ordering is.scanned is.reads t there

    was : (s : Segment) → Contains ordering s → Contains is.ordering s
    was s there = (is.numbers.found s).1 (keeps.before least s ((numbers.found s).0 there))

    still_read : (t : Scanned) → Contains is.scanned t → Used (t.segment.slot / size) → IsScanned sum size left t
    still_read t there used =
        let had = known t there in
        scan_kept least t.segment ((is.numbers.found t.segment).0 had.0) used t.met t.stop t.why had.1

    reading_of : (t : Scanned) → Contains is.scanned t → Used (t.segment.slot / size) → IsTrueReading sum size left H t.segment
    unfolding IsScan
    reading_of t there used =
        let had = known t there in
        let found = (is.numbers.found t.segment).0 had.0 in
        let bytes = bytes_kept least t.segment found used in
        let alike = alike_kept sum size old left t.segment.slot found.slot bytes t.segment.place 20 t.met t.stop had.1.0 in
        let read = still_read t there used in
        record {
          scan = t;
          segment = refl;
          read = read;
          truth = truth_alike sum size old left H t.segment.slot t.segment.place 20 t.met t.stop alike read.0 (λ x met. is.truth t x there met);
          caps = is.caps t there;
        }

    each : (s : Segment) → Contains ordering s → IsTrueReading sum size left H s
    each s there =
        let t = scan_there sum size old is.ordering is.scanned is.reads s (was s there) in
        subst (IsTrueReading sum size left H) t.2 (reading_of t.0 t.1 (subst (λ (x : Segment). Used (x.slot / size)) (sym t.2) (listed s there)))

    as_far : (t : Scanned) → Contains is.scanned t → is.from / size * size ≤ t.segment.place → IsAsFar sum size left ordering t
    as_far t there low =
        let had = known t there in
        let used = held t.segment had.0 low in
        record {
          scan = t;
          segment = refl;
          there = (numbers.found t.segment).1 (found_kept least t.segment ((is.numbers.found t.segment).0 had.0) used);
          read = still_read t there used;
          far = omega arith;
          leads = λ goes. goes;
        }

    needed : (cut : ℕ) → is.from ≤ cut → cut ≤ reach → (page : ℕ) (m : Message) → Contains (table H cut page) m
        → IsSegmentOf sum size left H cut m × StandsInline sum size left m m.pointer
    needed cut low high page m entry = let had = is.needed cut low high page m entry in needed_kept H cut m had.0 (entered cut low high page m entry) had.1

    pub kept_among : 256 ≤ size → StandsFrom sum size left H A first reach is.from
    kept_among some =
        stands_still sum size old left H A first reach is ordering numbers each (λ s there. is.marks s (was s there)) as_far some
        (λ s there. is.marks_below s (was s there)) needed

  -- So it does where all that were found are in used slots.
  module _ (H : History) (A : ℕ) (first : SnapshotModel) (reach : ℕ) (is : StandsTo sum size old H A first reach)
      (listed : (s : Segment) → Contains is.ordering s → Used (s.slot / size))
      (entered : (cut : ℕ) (low : is.from ≤ cut) (high : cut ≤ reach) (page : ℕ) (m : Message) (entry : Contains (table H cut page) m)
      → Used ((is.needed cut low high page m entry).0.segment.slot / size)) where
    same_numbers : IsOrdering sum size left (least_place size first) is.ordering
    same_numbers = record {
      ascending = is.numbers.ascending;
      found = λ s. (
        λ there. found_kept (least_place size first) s ((is.numbers.found s).0 there) (listed s there),
        λ has. (is.numbers.found s).1 (keeps.before (least_place size first) s has),
      );
      placed = is.numbers.placed;
    }

    pub kept_stands : 256 ≤ size → StandsFrom sum size left H A first reach is.from
    kept_stands some = kept_among H A first reach is is.ordering same_numbers listed (λ s there low. listed s there) entered some
