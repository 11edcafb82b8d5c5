-- A log whose segments hold or fit a history notes a batch: with the manifest's record ended they hold or fit the history with the batch, which is noted besides.
use Rattle.std.proofs.Common.{◌≡◌, ◌⊎◌, ◌≤◌, ◌<◌, ◌+◌, ◌*◌, ◌^◌, ap, sym, refl, arith, subst, inl, inr, ℕ, zero, suc, true, List, [], ◌∷◌, length, map, set, Option, None, Some}
use Rattle.std.specs.List.{Contains, slice_get}
use Rattle.std.specs.declared.io.Error.{Error as IoError}
use Rattle.std.proofs.lemmas.Bool.{cases_lt}
use Rattle.std.proofs.lemmas.List.Elements.{All-contains, Contains-append_cases}
use Rattle.sled_codec.specs.History.{Batch, History, Message, table}
use Rattle.sled_store.specs.Foreign.{HeaderWasPlaced, RecordWasPlaced}
use Rattle.sled_store.specs.Device.{State}
use Rattle.sled_store.specs.SegmentStates.{Machine}
use Rattle.sled_store.proofs.Segments.Elements.{in_first, in_rest}
use Rattle.sled_core.specs.declared.iobuf.ReservationState.TheVariants.{Manifest, Open}
use Rattle.sled_core.specs.declared.iobuf.Reserved.{Reserved}
use Rattle.sled_core.specs.Begun.{SegmentView}
use Rattle.sled_core.specs.inside.Buffers.{marking}
use Rattle.sled_core.specs.inside.Fits.{FitsBatches, HoldBehind, HoldsLine, HoldsWith, parts_in, written_to}
use Rattle.sled_core.specs.inside.Begun.{first_place, line_end}
use Rattle.sled_core.specs.Logged.{logged}
use Rattle.sled_core.specs.Manifests.{is_manifest}
use Rattle.sled_core.specs.NoForeign.{NoHeaderOfZeros}
use Rattle.sled_core.specs.OpenBatches.{stable_below, with_batch}
use Rattle.sled_core.specs.declared.logger.joined_marks.JoinedMarks.{JoinedMarks}
use Rattle.sled_core.specs.inside.Numbers.{HasNumbers, HaveSlots}
use Rattle.sled_core.specs.inside.Running.{FitsWith}
use Rattle.sled_core.specs.inside.Slots.{AreWhole}
use Rattle.sled_core.specs.inside.Turned.{ended_now}
use Rattle.sled_core.proofs.Flush.Completed.{all_below}
use Rattle.sled_core.proofs.Holds.FitsBatches.{batches_noted, batches_up}
use Rattle.sled_core.proofs.Line.FirstHoldsMarked.{begin_from, noted_adds, noted_history}
use Rattle.sled_core.proofs.Holds.MessagesBeside.{message_before}
use Rattle.sled_core.proofs.Holds.WholeHistory.{behind_above}
use Rattle.sled_core.proofs.Holds.PegLemmas.{IsOff}
use Rattle.sled_core.proofs.Line.EntryPlaces.{entry_low, line_unwritten}
use Rattle.sled_core.proofs.Line.Ends.{first_before, line_holds, slots_set, written_set}
use Rattle.sled_core.proofs.Holds.Facts.{IsSegment}
use Rattle.sled_core.proofs.Line.LineEnds.{end_set, first_set}
use Rattle.sled_core.proofs.Line.NeededSlots.{held_stable}
use Rattle.sled_core.proofs.Line.Noted.{mark_fits, mark_holds, mark_placed}
use Rattle.sled_core.proofs.Line.OlderSlots.{whole_grown}
use Rattle.sled_core.proofs.Reached.AddedBatch.{batch_grows, batch_above}
use Rattle.sled_core.proofs.OwnLog.Calls.{own_ended}
use Rattle.sled_core.proofs.Line.Accounts.{account_noted}
use Rattle.sled_core.proofs.Reached.GrowsAt.{GrowsAbove}
use Rattle.sled_core.specs.inside.LogSegments.{held_since}
use Rattle.sled_core.specs.inside.MarksFit.{MarksFitFrom}

-- one of these parts is of one of the segments
pub parts_there : (vs : List SegmentView) (k : ℕ) (v : SegmentView) → slice_get vs k ≡ Some v → Contains (map parts_in vs) v.parts
parts_there [] k v there = cc
parts_there (w ∷ ws) zero v there = let same : w ≡ v = cc in subst (λ (x : SegmentView). Contains (parts_in w ∷ map parts_in ws) x.parts) same (in_first (parts_in w) (map parts_in ws))
parts_there (w ∷ ws) (suc k) v there = in_rest (parts_in w) v.parts (map parts_in ws) (parts_there ws k v there)

module _ (sum : List ℕ → ℕ) (size : ℕ) (device : State) (fault : Option IoError) (v : SegmentView) (i : ℕ) (r : Reserved) (at : slice_get v.parts.reserved i ≡ Some r) (is_open : r.state ≡ Open) {own_place : ℕ} (own_facts : IsSegment size own_place v) where
  abbrev low : ℕ
  low = v.parts.site.place + r.from

  -- A message of segments that begins in front of an open reservation of one of them ends there.
  behind_before : (place : ℕ) (vs : List SegmentView) (stays : Message → Type 0) (batches : List Batch) (ms : List Message) → HoldBehind sum size device fault place (map parts_in vs) stays batches ms → (k : ℕ) → slice_get vs k ≡ Some v
      → (m : Message) → Contains ms m → m.place < low → m.place + m.size ≤ low
  behind_before place [] stays batches ms holds k there m known lower = cc
  behind_before place (w ∷ ws) stays batches ms (own, later, all, here, rest) zero there m known lower =
      let same : w ≡ v = cc in
      elim (Contains-append_cases own later m (subst (λ (l : List Message). Contains l m) all known)) [
        | inl mine ↦ subst (λ (x : SegmentView). (j : ℕ) (y : Reserved) → slice_get x.parts.reserved j ≡ Some y → y.state ≡ Open → m.place < x.parts.site.place + y.from → m.place + m.size ≤ x.parts.site.place + y.from) same
            (λ j y at_y open_y under. message_before sum size w.parts.site device fault w.parts.bytes w.parts.written_len w.parts.sealed w.parts.reserved (record { messages = own; batches = batches }) here.segment j y at_y open_y m mine under)
            i r at is_open lower
        | inr behind ↦ absurd (
            let far = All-contains (λ (x : Message). place + size ≤ x.place) later m (behind_above sum size device fault (place + size) (map parts_in ws) stays batches later rest) behind in
            let begins = subst (λ (x : SegmentView). x.parts.site.place ≡ place) same here.next in
            let inside = entry_low v i r own_facts at in
            omega (arith, far, begins, inside, lower))
      ]
  behind_before place (w ∷ ws) stays batches ms (own, later, all, here, rest) (suc k) there m known lower =
      elim (Contains-append_cases own later m (subst (λ (l : List Message). Contains l m) all known)) [
        | inl mine ↦ (
            let ends = (All-contains (λ (x : Message). (x.place < w.parts.site.place + length w.parts.bytes) × (x.place + x.size ≤ w.parts.site.place + length w.parts.bytes)) own m
            (all_below sum size w.parts.site device fault w.parts.bytes w.parts.written_len w.parts.sealed w.parts.reserved (record { messages = own; batches = batches }) here.segment) mine).1 in
            let next = here.next in
            let inside = here.inside in
            let far = begin_from sum size device fault (place + size) (map parts_in ws) stays batches later rest v.parts (parts_there ws k v there) in
            omega (arith, ends, next, inside, far))
        | inr behind ↦ behind_before (place + size) ws stays batches later rest k there m behind lower
      ]

  pub line_before : (marks : JoinedMarks) (line : List SegmentView) (n place : ℕ) (H : History) → slice_get line n ≡ Some v → ((k : ℕ) (x : SegmentView) → slice_get line k ≡ Some x → IsSegment size (place + k * size) x) → HoldsLine sum marks size device fault line H
      → (m : Message) → Contains H.messages m → m.place < low → m.place + m.size ≤ low
  line_before marks [] n place H there facts holds m known lower = cc
  line_before marks (w ∷ ws) zero place H there facts holds m known lower =
      let same : w ≡ v = cc in
      elim (Contains-append_cases holds.head holds.later m (subst (λ (l : List Message). Contains l m) holds.messages known)) [
        | inl mine ↦ subst (λ (x : SegmentView). (j : ℕ) (y : Reserved) → slice_get x.parts.reserved j ≡ Some y → y.state ≡ Open → m.place < x.parts.site.place + y.from → m.place + m.size ≤ x.parts.site.place + y.from) same
            (λ j y at_y open_y under. message_before sum size w.parts.site device fault w.parts.bytes w.parts.written_len w.parts.sealed w.parts.reserved (record { messages = holds.head; batches = H.batches }) holds.own j y at_y open_y m mine under)
            i r at is_open lower
        | inr behind ↦ absurd (
            let far = All-contains (λ (x : Message). w.parts.site.place + size ≤ x.place) holds.later m (behind_above sum size device fault (w.parts.site.place + size) (map parts_in ws) _ H.batches holds.later holds.others) behind in
            let begins = ap (λ (x : SegmentView). x.parts.site.place) same in
            let inside = entry_low v i r own_facts at in
            omega (arith, far, begins, inside, lower))
      ]
  line_before marks (w ∷ ws) (suc k) place H there facts holds m known lower =
      elim (Contains-append_cases holds.head holds.later m (subst (λ (l : List Message). Contains l m) holds.messages known)) [
        | inl mine ↦ (
            let ends = (All-contains (λ (x : Message). (x.place < w.parts.site.place + length w.parts.bytes) × (x.place + x.size ≤ w.parts.site.place + length w.parts.bytes)) holds.head m
            (all_below sum size w.parts.site device fault w.parts.bytes w.parts.written_len w.parts.sealed w.parts.reserved (record { messages = holds.head; batches = H.batches }) holds.own) mine).1 in
            let short = (facts zero w refl).short in
            let far = begin_from sum size device fault (w.parts.site.place + size) (map parts_in ws) _ H.batches holds.later holds.others v.parts (parts_there ws k v there) in
            omega (arith, ends, short, far))
        | inr behind ↦ behind_before (w.parts.site.place + size) ws _ H.batches holds.later holds.others k there m behind lower
      ]

-- The record of a manifest has ended with its peg.
module _ (sum : List ℕ → ℕ) (size : ℕ) (device : State) (fault : Option IoError) (line : List SegmentView) (n : ℕ) (v : SegmentView) (there : slice_get line n ≡ Some v) (place : ℕ)
    (facts : (k : ℕ) (x : SegmentView) → slice_get line k ≡ Some x → IsSegment size (place + k * size) x) (i : ℕ) (r : Reserved) (at : slice_get v.parts.reserved i ≡ Some r) (is_open : r.state ≡ Open)
    (manifest : is_manifest r.log_kind r.page ≡ true) (peg : ℕ) (small : peg < 2 ^ 63) (later : v.parts.site.place + r.from < peg) (short : peg < line_end size line) (machine : Machine) (noted : List Batch)
    (apart : (c : Batch) → Contains noted c → (c.peg < v.parts.site.place + r.from) ⊎ (peg < c.low)) where
  abbrev b : Batch
  b = record { low = v.parts.site.place + r.from; peg = peg }

  unwritten : written_to line ≤ b.low
  unwritten = line_unwritten size v i r at (facts n v there) line n place there facts

  -- The others lie apart from it: those that are noted, and those that end in front of it.
  others : (H : History) → FitsBatches (written_to line) (line_end size line) noted H → (c : Batch) → Contains H.batches c → (c.peg < b.low) ⊎ (peg < c.low)
  others H fits c known = elim (cases_lt c.peg (written_to line)) [
    | inl ended ↦ (let low = unwritten in inl (omega (arith, ended, low)))
    | inr open_yet ↦ apart c (fits.all c known open_yet)
  ]

  batches_now : (marks : JoinedMarks) (H : History) → HoldsLine sum marks size device fault line H → FitsBatches (written_to line) (line_end size line) noted H
      → FitsBatches (written_to (set line n (ended_now i r (marking sum v.parts.bytes r peg) Manifest v))) (line_end size (set line n (ended_now i r (marking sum v.parts.bytes r peg) Manifest v))) (with_batch (record { low = v.parts.site.place + r.from; peg = peg }) noted)
      (noted_history H (record { low = v.parts.site.place + r.from; peg = peg }))
  batches_now marks H holds fits =
      let marked : SegmentView = ended_now i r (marking sum v.parts.bytes r peg) Manifest v in
      let now : History = noted_history H b in
      batches_up (written_to line) (written_to (set line n marked)) (line_end size line) (line_end size (set line n marked)) (with_batch b noted) now
      (let same = written_set line n v marked there (λ j. v.parts.site) (λ j. v.parts.written_len) in omega (arith, same)) (let same = end_set size line n v marked there (λ j. v.parts.site) in omega (arith, same))
      (batches_noted (written_to line) (line_end size line) noted H now b (noted_adds H b later) unwritten short (λ c known open_yet. others H fits c known)
      (line_before sum size device fault v i r at is_open (facts n v there) _ line n place H there facts holds) fits)

  -- What is held then, and fitted, is the history with the batch.

  pub holds_noted : (H : History) → ((k : ℕ) (x : SegmentView) → slice_get line k ≡ Some x → IsOff size peg x.parts) → {marks : JoinedMarks} → HoldsWith sum marks noted size device fault line machine H
      → HoldsWith sum marks (with_batch (record { low = v.parts.site.place + r.from; peg = peg }) noted) size device fault (set line n (ended_now i r (marking sum v.parts.bytes r peg) Manifest v)) machine (noted_history H (record { low = v.parts.site.place + r.from; peg = peg }))
  holds_noted H offs holds = record {
    holds = mark_holds sum size device fault v i r at is_open manifest peg small later _ line n place H there facts offs holds.holds;
    batches = batches_now _ H holds.holds holds.batches;
    slots = slots_set size line device.log.bytes fault machine n v (ended_now i r (marking sum v.parts.bytes r peg) Manifest v) there (λ j. v.parts.site) holds.slots;
  }

  -- What that has more lies in no segment in front of them.
  pub grows_noted : (H : History) → GrowsAbove H (noted_history H b) (first_place line)
  grows_noted H =
      batch_above H (noted_history H b) b (noted_adds H b later) (first_place line)
      (first_before sum size device fault line n v there place facts i r at is_open machine noted)

  -- What tables need is in the slots still, with the stable place that it has.
  slots_noted : (base A : ℕ) (H : History) → HaveSlots sum size base H A machine → (B : ℕ) → (NoHeaderOfZeros sum → base ≤ B) → HaveSlots sum size base (noted_history H b) B machine
  unfolding table
  slots_noted base A H has B low = record { later = has.later; older = has.older; not_above = low }

  pub fits_noted : (pins : ℕ) (H : History) (A f : ℕ) (U : List Message) → 256 ≤ size → fault ≡ None → ((k : ℕ) (x : SegmentView) → slice_get line k ≡ Some x → IsOff size peg x.parts) → (marks : JoinedMarks)
      → (NoHeaderOfZeros sum → MarksFitFrom sum size device.snapshots.file device.log.bytes marks)
      → FitsWith sum marks noted size device fault line machine pins H A f U
      → FitsWith sum marks (with_batch (record { low = v.parts.site.place + r.from; peg = peg }) noted) size device fault (set line n (ended_now i r (marking sum v.parts.bytes r peg) Manifest v)) machine pins (noted_history H (record { low = v.parts.site.place + r.from; peg = peg })) A f U
  fits_noted pins H A f U least ok offs marks stand fits =
      let holds = line_holds sum size device fault _ line fits.reach pins H A f U fits.parts in
      let fitted =
      mark_fits sum size device fault v i r at is_open manifest peg small later _ line n place fits.reach pins H A f U least ok there facts offs
      (λ placed. mark_placed sum size device fault v i r at is_open manifest peg small later _ line n place (logged H) there facts offs holds placed (others (logged H) fits.batches)) fits.parts in
      record {
        reach = fits.reach;
        parts = fitted;
        batches = batches_now _ (logged H) holds fits.batches;
        slots = slots_set size line device.log.bytes fault machine n v (ended_now i r (marking sum v.parts.bytes r peg) Manifest v) there (λ j. v.parts.site) fits.slots;
        whole = λ none zeros. subst (λ p. AreWhole sum size device.log.bytes (noted_history (logged H) b) p machine) (sym (first_set line n v (ended_now i r (marking sum v.parts.bytes r peg) Manifest v) there (λ j. v.parts.site)))
            (whole_grown sum size least device.log.bytes (logged H) (noted_history (logged H) b) b.low (first_place line) machine
            (batch_grows (logged H) (noted_history (logged H) b) b (noted_adds (logged H) b later))
            (first_before sum size device fault line n v there place facts i r at is_open machine noted) (fits.whole none zeros));
        own = λ none zeros. own_ended sum size (HeaderWasPlaced device.placed) (RecordWasPlaced sum size device.placed) device.log.bytes line n v i r (marking sum v.parts.bytes r peg) Manifest there (fits.own none zeros);
        account = account_noted sum size device.snapshots.file H U machine fits.account (noted_history H b) refl;
        numbers = λ zeros. subst (HasNumbers sum size _ device machine) (sym (end_set size line n v (ended_now i r (marking sum v.parts.bytes r peg) Manifest v) there refl)) (fits.numbers zeros);
        in_slots = λ first begins. slots_noted (held_since size marks first) (stable_below fits.reach H.batches) H (fits.in_slots first begins) (stable_below fits.reach (noted_history H b).batches)
            (λ zeros. held_stable sum size least _ device fault ok (set line n (ended_now i r (marking sum v.parts.bytes r peg) Manifest v)) fits.reach pins (noted_history H b) A f U fitted zeros (stand zeros) first begins);
      }
