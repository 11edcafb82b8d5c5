-- Where the entries of a snapshot lie, whose table stands in the log file: each in the segment of its message, and two in one slot just where they are of one segment.
use Rattle.std.proofs.Common.{◌≡◌, ◌≤◌, ◌<◌, ◌≤ℤ◌, ◌*◌, ◌/◌, ◌%◌, ◌∙◌, ℕ, ℤ, pos, List, length, sym, ap, subst, arith, inl, inr, unsigned_abs}
use Rattle.std.specs.List.{Contains}
use Rattle.std.proofs.Math.Nat.{mod-add-div'}
use Rattle.std.proofs.lemmas.Int.{ints}
use Rattle.sled_codec.specs.Pointers.{lid_of}
use Rattle.sled_codec.specs.History.{Message, History, table}
use Rattle.sled_codec.specs.PageTables.{IsTable}
use Rattle.sled_codec.specs.Snapshots.{Entry, SnapshotModel, stable_place}
use Rattle.sled_store.specs.Begin.{slots_of, slot_of, segment_number_of, entries_of, IsPlacedIn}
use Rattle.sled_store.proofs.Segments.SnapshotEntries.{IsEntryOf}
use Rattle.sled_store.proofs.Histories.TableParts.{from_table}
use Rattle.sled_core.specs.declared.iterator.Segment.{Segment}
use Rattle.sled_core.specs.inside.Reached.{StandsActive}
use Rattle.sled_core.specs.inside.Recoverable.{LiesInSegment, IsSegmentOf}
use Rattle.sled_core.proofs.Start.Entries.{entry_message}
use Rattle.sled_core.proofs.Reached.StartedStands.{found_inside, slot_needed}
use Rattle.sled_core.proofs.Read.ScanLemmas.{aligned_offset}
use Rattle.sled_core.proofs.Tail.Moved.{one_in_slot}
use Rattle.sled_core.proofs.Tail.Multiples.{same_number}
use Rattle.sled_core.proofs.Torn.AlikeSlots.{slot_found}

module _ (sum : List ℕ → ℕ) (size : ℕ) (log : List ℕ) (s : SnapshotModel) (H : History) (long : 256 ≤ size) (is : IsTable s.pages H (stable_place s.stable)) (alone : StandsActive sum size log s H) where
  abbrev stable : ℕ
  stable = stable_place s.stable

  abbrev slots : ℕ
  slots = slots_of size (length log)

  some : 0 < size
  some = omega (arith, long)

  -- An entry is of a message of the table, whose segment is found.
  pub record Known (e : Entry) : Type 0 where
    pub page : ℕ
    pub message : Message
    pub entry : Contains (table H stable page) message
    pub of : IsEntryOf message e
    pub segment : IsSegmentOf sum size log H stable message
    pub lies : LiesInSegment size message
    pub below : message.place < stable

  pub known : (e : Entry) → Contains (entries_of s.pages) e → Known e
  known e there =
      let m = entry_message s.pages H stable is e there in
      let from = from_table H stable m.0 m.1 m.2 in
      record {
        page = m.0;
        message = m.1;
        entry = m.2;
        of = m.3;
        segment = (alone.stands.needed stable alone.stands.from_high (omega arith) m.0 m.1 m.2).0;
        lies = alone.stands.placed m.1 from.0;
        below = from.2;
      }

  module _ (e : Entry) (k : Known e) where
    place_is : unsigned_abs e.0 ≡ k.message.place
    place_is = ap unsigned_abs k.of.place

    lid_is : lid_of e.1 ≡ lid_of k.message.pointer
    lid_is = ap lid_of k.of.pointer

    -- it lies in the slot of that segment
    pub slot_is : slot_of size e ≡ k.segment.segment.slot / size
    slot_is = ap (λ n. n / size) lid_is ∙ sym (slot_needed sum size log H stable k.message k.segment)

    -- and has its number
    pub number_is : segment_number_of size e ≡ k.message.place / size
    number_is = ap (λ n. n / size) place_is

    offset_is : lid_of e.1 % size ≡ k.message.place % size
    offset_is =
        let u : Segment = k.segment.segment in
        let at : ℕ = k.segment.reached.at in
        let room = k.segment.reached.room in
        let less : at < size = omega (arith, room) in
        let inside : lid_of e.1 % size ≡ at = ap (λ n. n % size) (lid_is ∙ k.segment.reached.lid) ∙ aligned_offset u.slot at size k.segment.found.slot less in
        let place = k.segment.reached.place in
        let begins = k.segment.place in
        omega (arith, inside, place, begins, mod-add-div' k.message.place size)

    pub placed : IsPlacedIn size slots stable e
    placed =
        let under = k.below in
        let behind = k.lies.begins.behind in
        let room = k.lies.begins.room in
        let ends = k.lies.ends in
        record {
          not_negative = subst (λ (z : ℤ). pos 0 ≤ℤ z) (sym k.of.place) (omega (arith, ints));
          below = omega (arith, place_is, under);
          offset = offset_is ∙ ap (λ n. n % size) (sym place_is);
          slot = let inside = found_inside sum size log 0 k.segment.segment (omega (arith, long)) k.segment.found in omega (arith, inside, slot_is);
          begins = record { behind_header = omega (arith, offset_is, behind); before_end = omega (arith, offset_is, room) };
          ends = elim k.of.size [ inl own ↦ omega (arith, own, offset_is, ends) | inr given_back ↦ omega (arith, given_back, offset_is, room) ];
        }

  -- Two entries lie in one slot just where they are of one segment.
  module _ (d e : Entry) (j : Known d) (k : Known e) where
    pub of_slot : slot_of size d ≡ slot_of size e → segment_number_of size d ≡ segment_number_of size e
    of_slot same =
        let slots_same : j.segment.segment.slot / size ≡ k.segment.segment.slot / size = sym (slot_is d j) ∙ same ∙ slot_is e k in
        let begins : j.segment.segment.slot ≡ k.segment.segment.slot =
        slot_found sum size log 0 j.segment.segment j.segment.found ∙ ap (λ n. n * size) slots_same ∙ sym (slot_found sum size log 0 k.segment.segment k.segment.found) in
        let one = one_in_slot sum size log 0 0 j.segment.segment k.segment.segment j.segment.found k.segment.found begins in
        number_is d j ∙ same_number size (j.message.place / size) (k.message.place / size) some (sym j.segment.place ∙ one ∙ k.segment.place) ∙ sym (number_is e k)

    pub of_number : segment_number_of size d ≡ segment_number_of size e → slot_of size d ≡ slot_of size e
    of_number same =
        let number : j.message.place / size ≡ k.message.place / size = sym (number_is d j) ∙ same ∙ number_is e k in
        let there : IsSegmentOf sum size log H stable k.message = record {
          segment = j.segment.segment;
          found = j.segment.found;
          place = j.segment.place ∙ ap (λ n. n * size) number;
          reached = j.segment.whole k.message (from_table H stable k.page k.message k.entry).0 (sym number) k.below;
          whole = λ n has is lower. j.segment.whole n has (is ∙ sym number) lower;
          full = j.segment.full;
        } in
        slot_is d j ∙ slot_needed sum size log H stable k.message there ∙ ap (λ n. n / size) (sym (lid_is e k))
