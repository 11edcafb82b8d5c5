-- A log can begin on what a recovery concludes from a content that can be read back, on the file as it was read. So an opening never takes such a content for damage.
use Rattle.std.proofs.Common.{◌≡◌, ◌↔◌, ◌≤◌, ◌<◌, ◌≤ℤ◌, ◌*◌, ◌/◌, ◌%◌, ◌^◌, ◌∙◌, ℕ, ℤ, pos, true, List, length, Option, Some, None, IfSome, refl, sym, ap, subst, arith, inl, inr, unsigned_abs}
use Rattle.std.specs.List.{All, Contains}
use Rattle.std.proofs.Math.Nat.{mod-add-div'}
use Rattle.std.proofs.lemmas.Int.{ints}
use Rattle.sled_codec.specs.Pointers.{lid_of}
use Rattle.sled_codec.specs.History.{Message, History, below, table}
use Rattle.sled_codec.specs.PageTables.{IsTable}
use Rattle.sled_codec.specs.Snapshots.{Entry, SnapshotModel, is_sound, sound_parts, stable_place}
use Rattle.sled_store.specs.Begin.{slots_of, slot_of, segment_number_of, entries_of, sizes_in, IsPlacedIn, MayBeActive, IsStartable}
use Rattle.sled_store.specs.Device.{Content}
use Rattle.sled_store.specs.SnapshotFiles.{BeginsFrom}
use Rattle.sled_store.proofs.Segments.Elements.{all_from_in}
use Rattle.sled_store.proofs.Segments.SnapshotEntries.{IsEntryOf, all_seen}
use Rattle.sled_store.proofs.Histories.TableParts.{from_table}
use Rattle.sled_core.specs.declared.iterator.Segment.{Segment}
use Rattle.sled_core.specs.inside.Recoverable.{ActiveFits, LiesInSegment, IsSegmentOf}
use Rattle.sled_core.specs.inside.Scan.{IsFoundSegment}
use Rattle.sled_core.specs.Tail.{least_place}
use Rattle.sled_core.proofs.Start.Entries.{entry_message}
use Rattle.sled_core.proofs.Start.SegmentSizes.{slot_counted}
use Rattle.sled_core.proofs.Reached.StartedStands.{found_inside, slot_needed}
use Rattle.sled_core.proofs.Read.ScanLemmas.{aligned_offset}
use Rattle.sled_core.proofs.Tail.Moved.{one_in_slot}
use Rattle.sled_core.proofs.Tail.Multiples.{same_number}
use Rattle.sled_core.proofs.Tail.OneTail.{one_at_place, rises_of}
use Rattle.sled_core.proofs.Torn.AlikeSlots.{slot_found}
use Rattle.sled_log.specs.Recovery.{RecoveryResult, Recovered, Recovers}
use Rattle.sled_log.proofs.Afterwards.OrderlyBelow.{orderly_below}
use Rattle.sled_log.proofs.Moments.ForgottenAbove.{message_from}
use Rattle.sled_log.proofs.PageTable.TableCuts.{table_below}
use Rattle.sled_log.proofs.Recovers.Readable.{CanRead}
use Rattle.sled_log.proofs.Recovers.RecoversGood.{RecoversWell, well_of}

-- The snapshot that recovery begins from is sound.
begins_sound : (sum : List ℕ → ℕ) (snapshots : ℤ → Option (List ℕ)) (s : SnapshotModel) → BeginsFrom sum snapshots s → is_sound s ≡ true
begins_sound sum snapshots s (inl none) = ap is_sound none.1
begins_sound sum snapshots s (inr newest) = newest.4

module _ (sum : List ℕ → ℕ) (size : ℕ) (content : Content) (H : History) (A f : ℕ) (long : 256 ≤ size) (most : size ≤ 8388608) (can : CanRead sum size content H A f) (x : RecoveryResult)
    (well : RecoversWell sum size content H A f long can.orderly can.first can.cut can.snapshots can.log can.blobs x) where
  abbrev cut : ℕ
  cut = can.cut.0

  abbrev slots : ℕ
  slots = slots_of size (length content.log)

  abbrev es : List Entry
  es = entries_of x.model.pages

  some : 0 < size
  some = omega (arith, long)

  is_table : IsTable x.model.pages H cut
  is_table = subst (IsTable x.model.pages H) well.place well.good.table

  -- An entry is of a message of the table, whose segment is found.
  record Known (e : Entry) : Type 0 where
    pub page : ℕ
    pub message : Message
    pub entry : Contains (table H cut page) message
    pub of : IsEntryOf message e
    pub segment : IsSegmentOf sum size content.log H cut message
    pub lies : LiesInSegment size message
    pub below : message.place < cut

  known : (e : Entry) → Contains es e → Known e
  known e there =
      let m = entry_message x.model.pages H cut is_table e there in
      let from = from_table H cut m.0 m.1 m.2 in
      record {
        page = m.0;
        message = m.1;
        entry = m.2;
        of = m.3;
        segment = (can.log.needed m.0 m.1 m.2).0;
        lies = can.log.placed m.1 from.0 from.2;
        below = from.2;
      }

  module _ (e : Entry) (k : Known e) where
    place_is : unsigned_abs e.0 ≡ k.message.place
    place_is = ap unsigned_abs k.of.place

    lid_is : lid_of e.1 ≡ lid_of k.message.pointer
    lid_is = ap lid_of k.of.pointer

    -- it lies in the slot of that segment
    slot_is : slot_of size e ≡ k.segment.segment.slot / size
    slot_is = ap (λ n. n / size) lid_is ∙ sym (slot_needed sum size content.log H cut k.message k.segment)

    -- and has its number
    number_is : segment_number_of size e ≡ k.message.place / size
    number_is = ap (λ n. n / size) place_is

    offset_is : lid_of e.1 % size ≡ k.message.place % size
    offset_is =
        let u : Segment = k.segment.segment in
        let at : ℕ = k.segment.reached.at in
        let room = k.segment.reached.room in
        let less : at < size = omega (arith, room) in
        let inside : lid_of e.1 % size ≡ at = ap (λ n. n % size) (lid_is ∙ k.segment.reached.lid) ∙ aligned_offset u.slot at size k.segment.found.slot less in
        let place = k.segment.reached.place in
        let begins = k.segment.place in
        omega (arith, inside, place, begins, mod-add-div' k.message.place size)

    placed : IsPlacedIn size slots cut e
    placed =
        let under = k.below in
        let behind = k.lies.begins.behind in
        let room = k.lies.begins.room in
        let ends = k.lies.ends in
        record {
          not_negative = subst (λ (z : ℤ). pos 0 ≤ℤ z) (sym k.of.place) (omega (arith, ints));
          below = omega (arith, place_is, under);
          offset = offset_is ∙ ap (λ n. n % size) (sym place_is);
          slot = let inside = found_inside sum size content.log 0 k.segment.segment (omega (arith, long)) k.segment.found in omega (arith, inside, slot_is);
          begins = record { behind_header = omega (arith, offset_is, behind); before_end = omega (arith, offset_is, room) };
          ends = elim k.of.size [ inl own ↦ omega (arith, own, offset_is, ends) | inr given_back ↦ omega (arith, given_back, offset_is, room) ];
        }

  -- A segment that is found has the number of an entry's if it lies in the same slot.
  of_slot : (least : ℕ) (s : Segment) (e : Entry) (k : Known e) → IsFoundSegment sum size content.log least s → slot_of size e ≡ s.slot / size → k.segment.segment.place ≡ s.place
  of_slot least s e k found same =
      let slots_same : k.segment.segment.slot / size ≡ s.slot / size = sym (slot_is e k) ∙ same in
      let begins : k.segment.segment.slot ≡ s.slot = slot_found sum size content.log 0 k.segment.segment k.segment.found ∙ ap (λ n. n * size) slots_same ∙ sym (slot_found sum size content.log least s found) in
      one_in_slot sum size content.log 0 least k.segment.segment s k.segment.found found begins

  -- Two entries lie in one slot just where they are of one segment.
  module _ (d e : Entry) (j : Known d) (k : Known e) where
    one_segment : slot_of size d ≡ slot_of size e → segment_number_of size d ≡ segment_number_of size e
    one_segment same =
        number_is d j
        ∙ same_number size (j.message.place / size) (k.message.place / size) some (sym j.segment.place ∙ of_slot 0 k.segment.segment d j k.segment.found (same ∙ slot_is e k) ∙ k.segment.place)
        ∙ sym (number_is e k)

    one_slot : segment_number_of size d ≡ segment_number_of size e → slot_of size d ≡ slot_of size e
    one_slot same =
        let number : j.message.place / size ≡ k.message.place / size = sym (number_is d j) ∙ same ∙ number_is e k in
        let there : IsSegmentOf sum size content.log H cut k.message = record {
          segment = j.segment.segment;
          found = j.segment.found;
          place = j.segment.place ∙ ap (λ n. n * size) number;
          reached = j.segment.whole k.message (from_table H cut k.page k.message k.entry).0 (sym number) k.below;
          whole = λ n has is lower. j.segment.whole n has (is ∙ sym number) lower;
          full = j.segment.full;
        } in
        slot_is d j ∙ slot_needed sum size content.log H cut k.message there ∙ ap (λ n. n / size) (sym (lid_is e k))

  -- The active segment.
  module _ (a : ℕ) (active : x.model.active ≡ Some a) where
    there : (s : Segment) × Contains can.log.ordering s × (s.slot ≡ a) × (s.place ≡ cut / size * size)
    there = well.is_active.there a (sym well.active ∙ active)

    found : IsFoundSegment sum size content.log (least_place size can.first) there.0
    found = (can.log.numbers.found there.0).0 there.1

    may_be : MayBeActive size slots cut a
    may_be =
        let fits : ActiveFits size cut (Some a) = subst (ActiveFits size cut) (sym well.active ∙ active) well.is_active.fits in
        let inside = found_inside sum size content.log (least_place size can.first) there.0 (omega (arith, long)) found in
        record {
          aligned = ap (λ n. n % size) (sym there.2) ∙ found.slot;
          slot = subst (λ n. n / size < slots) there.2 inside;
          offset = record { behind_header = fits.0; before_end = let room = fits.1 in omega (arith, room) };
        }

    of_active : (e : Entry) → Known e → (slot_of size e ≡ a / size) ↔ (segment_number_of size e ≡ cut / size)
    of_active e k = (in_slot, of_number) where
      in_slot : slot_of size e ≡ a / size → segment_number_of size e ≡ cut / size
      in_slot same =
          let one = of_slot (least_place size can.first) there.0 e k found (same ∙ ap (λ n. n / size) (sym there.2)) in
          number_is e k ∙ same_number size (k.message.place / size) (cut / size) some (sym k.segment.place ∙ one ∙ there.3)

      of_number : segment_number_of size e ≡ cut / size → slot_of size e ≡ a / size
      of_number same =
          let at : k.segment.segment.place ≡ there.0.place = k.segment.place ∙ ap (λ n. n * size) (sym (number_is e k) ∙ same) ∙ sym there.3 in
          let high = found.not_below in
          let listed : Contains can.log.ordering k.segment.segment = (can.log.numbers.found k.segment.segment).1 (record { slot = k.segment.found.slot; header = k.segment.found.header; not_below = omega (arith, at, high) }) in
          let one : k.segment.segment ≡ there.0 = one_at_place can.log.ordering (rises_of can.log.ordering can.log.numbers.ascending) k.segment.segment there.0 listed there.1 at in
          slot_is e k ∙ ap (λ (s : Segment). s.slot / size) one ∙ ap (λ n. n / size) there.2

  -- the snapshot is sound: it is the one that recovery began from, or has the cut for its place
  sound : is_sound x.model ≡ true
  sound = elim well.kind [
    | inl kept ↦ ap is_sound kept.0 ∙ begins_sound sum content.snapshots can.first can.snapshots.begins
    | inr made ↦ ap (λ (o : Option ℤ). sound_parts o x.model.active x.model.pages) made.0
  ]

  abbrev kept : History
  kept = below H cut

  -- what lies in one slot is counted in 63 bits
  counted : (k : ℕ) → sizes_in size k es < 2 ^ 63
  counted = slot_counted size most x.model.pages kept cut ((table_below H cut x.model.pages).1 is_table) (orderly_below H cut can.orderly).formed.apart
      (λ m within. let from = message_from H cut m within in (can.log.placed m from.0 from.1).ends)
      (λ d e has_d has_e same. one_segment d e (known d has_d) (known e has_e) same)

  at_cut : IsStartable size (length content.log) x.model
  at_cut = record {
    sound = sound;
    seen = all_seen x.model.pages H cut is_table;
    active = subst (λ n. IfSome x.model.active (MayBeActive size slots n)) (sym well.place) (by_active x.model.active refl);
    placed = subst (λ n. All (IsPlacedIn size slots n) es) (sym well.place) (all_from_in (IsPlacedIn size slots cut) es (λ e there. placed e (known e there)));
    apart = λ d e has_d has_e. (one_segment d e (known d has_d) (known e has_e), one_slot d e (known d has_d) (known e has_e));
    of_active = subst (λ n. IfSome x.model.active (λ a. All (λ e. (slot_of size e ≡ a / size) ↔ (segment_number_of size e ≡ n / size)) es)) (sym well.place) (by_entries x.model.active refl);
    counted = counted;
  } where
    by_active : (o : Option ℕ) → x.model.active ≡ o → IfSome o (MayBeActive size slots cut)
    by_active None none = tt
    by_active (Some a) active = may_be a active

    by_entries : (o : Option ℕ) → x.model.active ≡ o → IfSome o (λ a. All (λ e. (slot_of size e ≡ a / size) ↔ (segment_number_of size e ≡ cut / size)) es)
    by_entries None none = tt
    by_entries (Some a) active = all_from_in (λ e. (slot_of size e ≡ a / size) ↔ (segment_number_of size e ≡ cut / size)) es (λ e there. of_active a active e (known e there))

-- So it is of each recovery.
pub startable : (sum : List ℕ → ℕ) (size : ℕ) (content : Content) (H : History) (A f : ℕ) (long : 256 ≤ size) → size ≤ 8388608 → (can : CanRead sum size content H A f) → (x : RecoveryResult) → Recovers sum size content (Recovered x) → IsStartable size (length content.log) x.model
startable sum size content H A f long most can x recovers = at_cut sum size content H A f long most can x (well_of sum size content H A f long can x recovers)
