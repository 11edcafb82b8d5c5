-- A log still has the segment of each message that it has the record of: of one that isn't wholly on the device, and of an entry of the table of what was written.
use Rattle.std.proofs.Common.{◌≡◌, ◌∙◌, ◌⊎◌, ◌+◌, ◌*◌, ◌/◌, ◌%◌, ◌<◌, ◌≤◌, ℕ, zero, suc, pos, List, [], ◌∷◌, length, map, Some, refl, ap, arith, inl, inr, ◌≤ℤ◌}
use Rattle.std.specs.List.{Contains, slice_get}
use Rattle.std.proofs.Math.Nat.{suc-mul}
use Rattle.std.proofs.lemmas.Bool.{cases_lt}
use Rattle.std.proofs.lemmas.List.{length-map}
use Rattle.std.proofs.lemmas.List.Elements.{All-contains}
use Rattle.sled_codec.specs.History.{Message, History, table}
use Rattle.sled_store.specs.Device.{State, Trace}
use Rattle.sled_store.specs.SegmentStates.{Machine}
use Rattle.sled_store.proofs.Histories.Ascending.{apart_ascends}
use Rattle.sled_store.proofs.Histories.EarlierEntries.{entry_earlier}
use Rattle.sled_store.proofs.Histories.TableParts.{from_table}
use Rattle.sled_core.specs.inside.Shown.{shown_of}
use Rattle.sled_core.specs.Begun.{SegmentView, segment_view}
use Rattle.sled_core.specs.declared.logger.Log.{Log}
use Rattle.sled_core.specs.Fits.{HasRecordOf, current_of, held_of, line_of, machine_at, noted_in, segment_size_of, synced_end}
use Rattle.sled_core.specs.inside.FreeSlots.{HasSlot}
use Rattle.sled_core.specs.Logged.{in_log, logged}
use Rattle.sled_core.specs.OnFile.{HasSegment}
use Rattle.sled_core.specs.invariants.Running.{Fits}
use Rattle.sled_core.specs.inside.Running.{FitsWith}
use Rattle.sled_core.proofs.Holds.ReachLemmas.{line_below}
use Rattle.sled_core.proofs.Holds.WholeHistory.{whole_apart}
use Rattle.sled_core.proofs.Holds.Facts.{current_facts}
use Rattle.sled_core.proofs.Holds.HeldFrom.{held_under}
use Rattle.sled_core.proofs.Line.Segments.{AreSegments, line_segments}
use Rattle.sled_core.proofs.Logged.Messages.{logged_apart, logged_there}
use Rattle.sled_core.proofs.Reserve.Ranges.{at_there}
use Rattle.sled_core.proofs.Tail.Multiples.{apart, lower_multiple, next_multiple, put_down}
use Rattle.sled_core.specs.inside.Numbers.{IsInSlot}
use Rattle.sled_store.specs.Marks.{slot_with}

-- One of the segments of a line begins at a place.
record BeginsAt (vs : List SegmentView) (place : ℕ) : Type 0 where
  number : ℕ
  segment : SegmentView
  among : slice_get vs number ≡ Some segment
  at : segment.parts.site.place ≡ place

-- At each place where a segment can begin, from the first segment of a line up to where the last one ends, one of them does.
segment_at : (size : ℕ) → 0 < size → (place : ℕ) (vs : List SegmentView) → AreSegments size place vs → place % size ≡ 0 → (z : ℕ) → z % size ≡ 0 → place ≤ z → z < place + length vs * size → BeginsAt vs z
segment_at size some place [] are begins z aligned low high = absurd (omega (arith, low, high))
segment_at size some place (v ∷ vs) are begins z aligned low high = elim (cases_lt place z) [
  | inl over ↦ (
      let far = apart size some place z begins aligned over in
      let later = segment_at size some (place + size) vs are.1 (next_multiple size place begins) z aligned far (omega (arith, high, suc-mul (length vs) size)) in
      record { number = suc later.number; segment = later.segment; among = later.among; at = later.at })
  | inr le ↦ (let at = are.0.at in record { number = zero; segment = v; among = refl; at = omega (arith, at, le, low) })
]

module _ {D C : Type 0} (trace : D → Trace) (sum : List ℕ → ℕ) (log : Log D C) (H : History) (A f : ℕ) (U : List Message) where
  abbrev size : ℕ
  size = log.config.config.segment_size

  abbrev state : State
  state = shown_of trace log

  abbrev machine : Machine
  machine = machine_at log

  abbrev line : List SegmentView
  line = line_of log

  abbrev some : 256 ≤ size
  some = log.config.config.least

  module _ (fits : FitsWith sum log.marks (noted_in log) size state log.fault.kept line machine log.pins H A f U) where
    -- The segments of the line have slots,
    its_slot : (z : ℕ) (b : BeginsAt line z) → HasSlot size machine b.segment
    its_slot z b = at_there (HasSlot size machine) line b.number b.segment b.among fits.slots.taken

    -- and lie one behind another:
    begins_at : (z : ℕ) → z % size ≡ 0 → log.segments.first.site.place ≤ z → z < log.segments.first.site.place + length line * size → BeginsAt line z
    begins_at z aligned low high = segment_at size (omega (arith, some)) log.segments.first.site.place line (line_segments log) fits.parts.holds.own.records.place_begins z aligned low high

    -- so the log has the segment of a message that isn't of an earlier one.
    of_line : (m : Message) → Contains H.messages m → log.segments.first.site.place ≤ m.place → HasSegment machine (m.place / size * size)
    of_line m there above =
        let begins = fits.parts.holds.own.records.place_begins in
        let whole = put_down size log.segments.first.site.place in
        let parts = put_down size m.place in
        let up = lower_multiple size some log.segments.first.site.place m.place above in
        let end : ℕ = (current_of log).parts.site.place + length (current_of log).parts.bytes in
        let low : m.place < end = All-contains (λ (n : Message). n.place < end) (logged H).messages (in_log m) (line_below sum size state log.fault.kept _ (segment_view log.segments.first) (map segment_view log.segments.behind.items) (logged H) log.line.lies.in_segment fits.parts.holds) (logged_there H m there) in
        let current = current_facts log in
        let at = current.at in
        let short = current.short in
        let b = begins_at (m.place / size * size) parts.1 (omega (arith, up, whole.0, begins))
        (omega (arith, low, parts.0, at, short, ap (λ n. suc n * size) (length-map log.segments.behind.items segment_view), suc-mul (length log.segments.behind.items) size)) in
        let h = its_slot (m.place / size * size) b in
        (h.number, h.taken, h.is ∙ b.at)

    -- An entry of a table from where what is held counts is in its slot.
    pub entry_placed : (m : Message) → (cut : ℕ) → held_of fits.parts.holds.begun ≤ cut → Contains (table H cut m.page) m → IsInSlot size machine m
    entry_placed m cut far entry =
        let begun = fits.parts.holds.begun in
        let held : ℕ = held_of begun in
        let slots = fits.in_slots begun.first begun.begins in
        let lie = whole_apart sum size log.segments.first.site state log.fault.kept log.segments.first.buffer.bytes.items
        log.segments.first.buffer.written_len log.segments.first.buffer.sealed.items log.segments.first.buffer.reserved.items (logged H) fits.parts.holds
        log.line.lies.in_segment in
        elim (cases_lt m.place held) [
          | inl under ↦ slots.older m.page m (entry_earlier H (apart_ascends H.messages (logged_apart H lie)) held cut m.page far m under entry)
          | inr above ↦ slots.later m (from_table H cut m.page m entry).0 above
        ]

    -- So the log has its segment where the table is from the mark on, or of all that is synced, or of more.
    of_entry : (m : Message) → (cut : ℕ) → (log.marks.joined ≤ℤ pos cut) ⊎ (synced_end log ≤ cut) → Contains (table H cut m.page) m
        → HasSegment machine (m.place / size * size)
    of_entry m cut far entry =
        let is = entry_placed m cut (held_under log.marks.ordered fits.parts.holds.begun cut far) entry in
        (slot_with size m, is.taken, is.lsn)

-- A log still has the segment of each message that it has the record of.
pub still_there : {D C : Type 0} (trace : D → Trace) (sum : List ℕ → ℕ) (log : Log D C) (H : History) (A f : ℕ) (U : List Message) (m : Message)
    → Fits trace sum log H A f U → Contains H.messages m → HasRecordOf log H m
    → HasSegment (machine_at log) (m.place / segment_size_of log * segment_size_of log)
unfolding Fits
still_there trace sum log H A f U m fits there has = elim has [
  | inl above ↦ of_line trace sum log H A f U fits.shows m there above
  | inr (cut, far, entry) ↦ of_entry trace sum log H A f U fits.shows m cut far entry
]
