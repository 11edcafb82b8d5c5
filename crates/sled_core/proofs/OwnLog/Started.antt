-- Where a log starts on a file of which all that is read was placed, its file is own: its segment up to where the log goes on, and all other slots. Those that the snapshot uses are read to their ends, and the others have zeros.
use Rattle.std.proofs.Common.{◌≡◌, ◌≢◌, ◌∙◌, ◌≤◌, ◌<◌, ◌+◌, ◌*◌, ◌/◌, ◌%◌, ◌↔◌, ℕ, ℤ, pos, Bool, true, false, List, [], ◌∷◌, length, drop, Option, None, Some, IfSome, refl, sym, ap, subst, arith, inl, inr, length-take}
use Rattle.std.specs.Prelude.{unsigned_abs}
use Rattle.std.specs.List.{All, Contains}
use Rattle.std.proofs.Math.Nat.{div-mul-le_self, lt-div-mul-add, mod-add-div', mul-le-mul_right}
use Rattle.std.proofs.lemmas.Bool.{cases_lt, cases_order}
use Rattle.std.proofs.lemmas.List.Elements.{All-contains}
use Rattle.sled_codec.specs.History.{History}
use Rattle.sled_codec.specs.PageTables.{IsTable}
use Rattle.sled_codec.specs.Places.{part}
use Rattle.sled_codec.specs.Pointers.{lid_of}
use Rattle.sled_codec.specs.Record.{IsHeader}
use Rattle.sled_codec.specs.Snapshots.{Entry, SnapshotModel, stable_place}
use Rattle.sled_codec.proofs.Segments.{length-short_header}
use Rattle.sled_store.specs.Begin.{IsPlacedIn, IsStartable, MayBeActive, beginning_at, entries_of, is_used, offset_at, segment_number_of, slot_of, slots_of, unused}
use Rattle.sled_store.specs.Device.{State}
use Rattle.sled_store.specs.Foreign.{HeaderWasPlaced, RecordWasPlaced}
use Rattle.sled_store.specs.Readers.{IsOwnRange}
use Rattle.sled_store.proofs.Segments.Elements.{in_first}
use Rattle.sled_store.proofs.Segments.FilledLemmas.{free_has, slot_before}
use Rattle.sled_store.proofs.Accounts.StartedFile.{left_within, started_file, started_past, started_zero}
use Rattle.sled_core.specs.declared.iobuf.Sealed.{Sealed}
use Rattle.sled_core.specs.declared.iobuf.SegmentPosition.{SegmentPosition}
use Rattle.sled_core.specs.declared.iterator.Segment.{Segment}
use Rattle.sled_core.specs.declared.iterator.scan.ScannedRecord.{ScannedRecord}
use Rattle.sled_core.specs.declared.iterator.scan.ScanEnd.{ScanEnd}
use Rattle.sled_core.specs.Begun.{SegmentView}
use Rattle.sled_core.specs.Logged.{logged}
use Rattle.sled_core.specs.inside.OwnLog.{HasOwnSlot, HasPlacedFile, IsOwnFile, IsOwnSegment, ReadsOwn, ReadsPlaced}
use Rattle.sled_core.specs.inside.Reached.{StandsActive}
use Rattle.sled_core.specs.inside.Recoverable.{ActiveFits}
use Rattle.sled_core.specs.Recoverable.{NoHeaderOfZeros}
use Rattle.sled_core.specs.inside.Running.{IsReadyFor}
use Rattle.sled_core.specs.Scan.{IsScan}
use Rattle.sled_core.specs.Starts.{site_from}
use Rattle.sled_core.specs.Tail.{least_place}
use Rattle.sled_core.proofs.Holds.HoldsLemmas.{one}
use Rattle.sled_core.proofs.OwnLog.Kept.{part_in}
use Rattle.sled_core.proofs.OwnLog.ScanEnds.{reads_inside, scan_reads, slot_read_to_end}
use Rattle.sled_core.proofs.OwnLog.SlotEnds.{slot_unbegun}
use Rattle.sled_core.proofs.OwnLog.SlotOfRange.{range_before}
use Rattle.sled_core.proofs.Reached.StartedStands.{slot_needed}
use Rattle.sled_core.proofs.Start.Entries.{entry_message, used_cases}
use Rattle.sled_core.proofs.Start.StartedActive.{started_active}
use Rattle.sled_core.proofs.Tail.OneTail.{segment_there}
use Rattle.sled_core.proofs.Torn.AlikeSlots.{slot_found}

module _ (sum : List ℕ → ℕ) (size : ℕ) (Header : ℕ → List ℕ → Type 0) (Own : ℕ → ℕ → List ℕ → Type 0) (long : 256 ≤ size) (zeros : NoHeaderOfZeros sum) (log : List ℕ) (s : SnapshotModel) (H : History) (startable : IsStartable size (length log) s)
    (is : IsTable s.pages H (stable_place s.stable)) (alone : StandsActive sum size (started_file size log s) s H) (fits : ActiveFits size (stable_place s.stable) s.active) (own : (slot : ℕ) → ReadsOwn sum size Header Own (started_file size log s) slot) where
  abbrev new : List ℕ
  new = started_file size log s

  abbrev stable : ℕ
  stable = stable_place s.stable

  abbrev slots : ℕ
  slots = slots_of size (length log)

  abbrev free : List ℕ
  free = unused size slots s

  some : 0 < size
  some = omega (arith, long)

  twenty : 20 ≤ size
  twenty = omega (arith, long)

  -- the active slot begins where a slot does
  active_begins : (a : ℕ) → s.active ≡ Some a → a ≡ a / size * size
  active_begins a active =
      let may : MayBeActive size slots stable a = subst (λ (o : Option ℕ). IfSome o (MayBeActive size slots stable)) active startable.active in
      let aligned = may.aligned in
      omega (arith, mod-add-div' a size, aligned)

  -- An entry that doesn't lie in the active slot is of a segment that ends no higher than the stable place.
  ends_below : (e : Entry) → Contains (entries_of s.pages) e → ((a : ℕ) → s.active ≡ Some a → slot_of size e ≢ a / size) → segment_number_of size e * size + size ≤ stable
  ends_below e there apart = elim (cases_order (segment_number_of size e) (stable / size)) [
    | inl same ↦ absurd (by s.active refl fits startable.of_active same)
    | inr (inl lower) ↦ (let far = slot_before size (segment_number_of size e) (stable / size) lower in omega (arith, far, div-mul-le_self stable size))
    | inr (inr higher) ↦ absurd (
        let far = slot_before size (stable / size) (segment_number_of size e) higher in
        let past : stable < stable / size * size + size = lt-div-mul-add some in
        omega (arith, far, past, low, below))
  ]
    where
      placed : IsPlacedIn size slots stable e
      placed = All-contains (IsPlacedIn size slots stable) (entries_of s.pages) e startable.placed there

      below : unsigned_abs e.0 < stable
      below = placed.below

      low : segment_number_of size e * size ≤ unsigned_abs e.0
      low = div-mul-le_self (unsigned_abs e.0) size

      by : (o : Option ℕ) → s.active ≡ o → ActiveFits size stable o → IfSome o (λ a. All (λ d. (slot_of size d ≡ a / size) ↔ (segment_number_of size d ≡ stable / size)) (entries_of s.pages)) → segment_number_of size e ≡ stable / size → ⊥
      by None none begins of_active same = let at = ap (λ n. n * size) same in omega (arith, at, low, below, begins, mod-add-div' stable size)
      by (Some a) active begins of_active same = apart a active ((All-contains (λ d. (slot_of size d ≡ a / size) ↔ (segment_number_of size d ≡ stable / size)) (entries_of s.pages) e of_active there).1 same)

  -- So its slot is read to the end.
  entry_slot : (slot : ℕ) (e : Entry) → Contains (entries_of s.pages) e → slot_of size e ≡ slot → ((a : ℕ) → s.active ≡ Some a → slot_of size e ≢ a / size) → HasOwnSlot sum size Header Own new slot
  entry_slot slot e there lies apart =
      let m = entry_message s.pages H stable is e there in
      let of = (alone.stands.needed stable alone.stands.from_high (omega arith) m.0 m.1 m.2).0 in
      let in_slot : of.segment.slot / size ≡ slot = slot_needed sum size new H stable m.1 of ∙ ap (λ p. lid_of p / size) (sym m.3.pointer) ∙ lies in
      let begins : of.segment.slot ≡ slot * size = slot_found sum size new 0 of.segment of.found ∙ ap (λ n. n * size) in_slot in
      let number : segment_number_of size e * size ≡ m.1.place / size * size = ap (λ z. unsigned_abs z / size * size) m.3.place in
      let ends : of.segment.place + size ≤ stable = (let high = ends_below e there apart in let at = of.place in omega (arith, high, at, number)) in
      let on = of.full ends in
      let scan : IsScan sum size new of.segment.slot of.segment.place on.scan.met on.scan.stop on.scan.why = subst (λ (t : Segment). IsScan sum size new t.slot t.place on.scan.met on.scan.stop on.scan.why) on.of on.read in
      slot_read_to_end sum size Header Own new slot of.segment.place some of.segment.mark (subst (λ n. IsHeader sum (part new n 20) (pos of.segment.place) of.segment.mark) begins of.found.header) twenty on.scan.met on.scan.stop on.scan.why on.goes
      (subst (λ n. IsScan sum size new n of.segment.place on.scan.met on.scan.stop on.scan.why) begins scan) (own slot)

  -- Each slot is own but the active one.
  other_slot : (slot : ℕ) → ((a : ℕ) → s.active ≡ Some a → a ≢ slot * size) → HasOwnSlot sum size Header Own new slot
  other_slot slot apart = elim (cases_lt slot slots) [
    | inl inside ↦ by inside (is_used size s slot) refl
    | inr past ↦ (
        let up : slots * size ≤ slot * size = mul-le-mul_right size past in
        let within = mul-le-mul_right size (left_within size some log s) in
        slot_unbegun sum size Header Own new slot zeros (λ i above under. started_past size some log s i (omega (arith, up, within, above))))
  ]
    where
      by : slot < slots → (b : Bool) → is_used size s slot ≡ b → HasOwnSlot sum size Header Own new slot
      by inside true used = elim (used_cases size s slot used) [
        | inl (a, active, here) ↦ absurd (apart a active (active_begins a active ∙ ap (λ n. n * size) here))
        | inr (e, there, lies) ↦ entry_slot slot e there lies (λ a active at. apart a active (active_begins a active ∙ ap (λ n. n * size) (sym at ∙ lies)))
      ]
      by inside false unused_slot = slot_unbegun sum size Header Own new slot zeros (λ i above under. started_zero size some log s slot i (free_has (is_used size s) slots slot inside unused_slot) above (omega (arith, under, long)))

  -- What is read of a segment up to where its reading ends is own.
  read_before : (slot place from : ℕ) (mark : ℤ) → 20 ≤ from → IsHeader sum (part new (slot * size) 20) (pos place) mark → (ms : List ScannedRecord) (why : ScanEnd) → IsScan sum size new (slot * size) place ms from why
      → IsOwnRange sum size Header Own (place / size) (slot * size) (part new (slot * size) size) 0 from
  read_before slot place from mark low header ms why scan =
      let text : List ℕ = part new (slot * size) size in
      let comes = scan_reads sum size Header Own new slot place some ms from why scan in
      let twenty_long : length (part new (slot * size) 20) ≡ 20 = ap length header.is ∙ length-short_header sum (pos place) mark in
      let begun : 20 ≤ length text = omega (arith, twenty_long, long, length-take 20 (drop (slot * size) new), length-take size (drop (slot * size) new)) in
      range_before sum size Header Own (omega (arith, long)) new slot place from ((own slot).header (pos place) mark header) low (reads_inside sum size (place / size) 20 from text comes begun) comes (λ at len r.
      let inside = r.inside in
      let short : at + len ≤ size = omega (arith, inside, length-take size (drop (slot * size) new)) in
      subst (Own (place / size) (slot * size + at)) (sym (part_in size new (slot * size) at len short)) ((own slot).records place mark at len header r))

  -- So is the active one up to the stable place.
  active_before : (a : ℕ) → s.active ≡ Some a → IsOwnRange sum size Header Own (stable / size * size / size) a (part new a size) 0 (stable % size)
  active_before a active =
      let place : ℕ = stable / size * size in
      let g = alone.going a active in
      let had = segment_there sum size new alone.stands.ordering alone.stands.scanned alone.stands.reads g.scan g.there in
      let found = (alone.stands.numbers.found g.scan.segment).0 had.0 in
      let begins : g.scan.segment.slot ≡ a / size * size = slot_found sum size new (least_place size s) g.scan.segment found ∙ ap (λ n. n / size * size) g.in_slot in
      let room : ActiveFits size stable (Some a) = subst (ActiveFits size stable) active fits in
      let header : IsHeader sum (part new (a / size * size) 20) (pos place) g.scan.segment.mark =
      subst (λ n. IsHeader sum (part new n 20) (pos place) g.scan.segment.mark) begins (subst (λ n. IsHeader sum (part new g.scan.segment.slot 20) (pos n) g.scan.segment.mark) g.at_place found.header) in
      let scan : IsScan sum size new (a / size * size) place g.scan.met (stable % size) g.scan.why =
      subst (λ n. IsScan sum size new n place g.scan.met (stable % size) g.scan.why) begins
      (subst (λ n. IsScan sum size new g.scan.segment.slot n g.scan.met (stable % size) g.scan.why) g.at_place
      (subst (λ n. IsScan sum size new g.scan.segment.slot g.scan.segment.place g.scan.met n g.scan.why) g.ended had.1)) in
      subst (λ n. IsOwnRange sum size Header Own (place / size) n (part new n size) 0 (stable % size)) (sym (active_begins a active)) (read_before (a / size) place (stable % size) g.scan.segment.mark room.0 header g.scan.met g.scan.why scan)

  segment_front : (o : Option ℕ) → s.active ≡ o → 0 < offset_at size stable o → IsOwnRange sum size Header Own ((beginning_at size slots stable free o).place / size) (beginning_at size slots stable free o).slot (part new (beginning_at size slots stable free o).slot size) 0 (offset_at size stable o)
  segment_front None none more = absurd (omega (arith, more))
  segment_front (Some a) active more = active_before a active

  segment_own : IsOwnSegment sum size Header Own new (site_from size (length log) s) (offset_at size stable s.active) []
  segment_own = record { front = segment_front s.active refl; behind = tt }

  -- All of the file.
  pub file_own : (v : SegmentView) → v.parts.site ≡ site_from size (length log) s → v.parts.written_len ≡ offset_at size stable s.active → v.parts.sealed ≡ [] → IsOwnFile sum size Header Own new (v ∷ [])
  file_own v site from unsealed = record {
    segments = one (λ (x : SegmentView). IsOwnSegment sum size Header Own new x.parts.site x.parts.written_len x.parts.sealed) v
        (subst (λ (p : SegmentPosition). IsOwnSegment sum size Header Own new p v.parts.written_len v.parts.sealed) (sym site)
        (subst (λ n. IsOwnSegment sum size Header Own new (site_from size (length log) s) n v.parts.sealed) (sym from)
        (subst (λ (bs : List Sealed). IsOwnSegment sum size Header Own new (site_from size (length log) s) (offset_at size stable s.active) bs) (sym unsealed) segment_own)));
    others = λ slot apart. other_slot slot (λ a active same. apart v (in_first v []) (ap (λ (p : SegmentPosition). p.slot) site ∙ ap (λ (o : Option ℕ). (beginning_at size slots stable free o).slot) active ∙ same));
  }

-- So is that of a log that starts on what was ready for it.
pub started_own : (sum : List ℕ → ℕ) (size : ℕ) → 256 ≤ size → NoHeaderOfZeros sum → (old now : State) (s : SnapshotModel) (H : History) (A f : ℕ) → IsReadyFor sum size old s H A f → IsStartable size (length old.log.bytes) s
    → now.log.bytes ≡ started_file size old.log.bytes s → ReadsPlaced sum size now → (v : SegmentView) → v.parts.site ≡ site_from size (length old.log.bytes) s → v.parts.written_len ≡ offset_at size (stable_place s.stable) s.active → v.parts.sealed ≡ []
    → HasPlacedFile sum size now (v ∷ [])
started_own sum size long zeros old now s H A f ready startable bytes own v site from unsealed =
    subst (λ (l : List ℕ). IsOwnFile sum size (HeaderWasPlaced now.placed) (RecordWasPlaced sum size now.placed) l (v ∷ [])) (sym bytes)
    (file_own sum size (HeaderWasPlaced now.placed) (RecordWasPlaced sum size now.placed) long zeros old.log.bytes s (logged H) startable ready.ready.table (started_active sum size long zeros old.log.bytes s (logged H) ready.ready.table ready.alone) ready.active
    (subst (λ (l : List ℕ). (slot : ℕ) → ReadsOwn sum size (HeaderWasPlaced now.placed) (RecordWasPlaced sum size now.placed) l slot) bytes own) v site from unsealed)
