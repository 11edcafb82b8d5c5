-- A further segment is begun: the one that was being filled is filled to its end and sealed, and the log holds and fits what it did.
use Rattle.std.proofs.Common.{None, ◌≡◌, ◌∙◌, ◌<◌, ◌≤◌, ◌+◌, ◌-◌, ◌*◌, ◌/◌, ◌%◌, ◌^◌, ◌-ℤ◌, ap, sym, refl, arith, subst, inl, inr, ℕ, zero, suc, pos, ℤ, List, [], ◌∷◌, ◌++◌, length, map, Option, Some, false, if◌then◌else◌, Bool}
use Rattle.std.specs.List.{Contains, slice_get}
use Rattle.std.specs.declared.io.Error.{Error as IoError}
use Rattle.std.proofs.Math.Nat.{add-mul-mod_self_right, div-le_self, mod-add-div', mul-mod_left, suc-mul}
use Rattle.std.proofs.lemmas.List.{length-append, map-append, length-map, take_all}
use Rattle.std.proofs.lemmas.Bool.Decides.{nat_tests}
use Rattle.std.proofs.lemmas.List.Elements.{All-head, All-tail}
use Rattle.sled_codec.proofs.Segments.{length-short_header}
use Rattle.sled_codec.specs.History.{Batch, History, Message}
use Rattle.sled_codec.specs.Record.{short_header}
use Rattle.sled_store.specs.Foreign.{HeaderWasPlaced, RecordWasPlaced}
use Rattle.sled_store.specs.Accounts.{AreSlots}
use Rattle.sled_store.specs.declared.config.RunningConfig.{RunningConfig}
use Rattle.sled_store.specs.Device.{State, Trace, state_of}
use Rattle.sled_store.specs.SegmentStates.{Machine, SlotState, handed_out, next_slot}
use Rattle.sled_core.proofs.Line.FillingsAlong.{filling_at, fillings_begun, fillings_closed}
use Rattle.sled_core.proofs.Line.Heads.{heads_begun, heads_closed}
use Rattle.sled_store.proofs.Segments.Elements.{in_cases}
use Rattle.sled_core.proofs.Line.HeaderMarks.{FillsOnly, HasOnly, begun_marked}
use Rattle.sled_core.specs.Marked.{BeginsMarked, IsMarkedHead}
use Rattle.sled_core.specs.Fillings.{FillingAt, fillings_along}
use Rattle.sled_core.specs.Heads.{HeadAt, heads_along}
use Rattle.sled_core.specs.declared.iobuf.SegmentPosition.{SegmentPosition}
use Rattle.sled_core.specs.declared.logger.Log.{Log}
use Rattle.sled_core.specs.declared.reservation.Reservation.{Reservation}
use Rattle.sled_core.specs.Begun.{SegmentParts, SegmentView, begin_of, segment_view}
use Rattle.sled_core.specs.inside.Begun.{first_place, line_end}
use Rattle.sled_core.specs.inside.Buffers.{IsHeaded}
use Rattle.sled_core.specs.Logged.{logged, in_log}
use Rattle.sled_core.specs.Tickets.{IsFor, index_of}
use Rattle.sled_core.specs.declared.iobuf.Reserved.{Reserved}
use Rattle.sled_core.specs.inside.Fits.{written_to, FitsBatches, HasMark, HoldsIn, HoldsLine, HoldsWith, log_parts, parts_in}
use Rattle.sled_core.specs.Fits.{AwaitsIn, CloseBelow, KeepsAll, KeepsTickets, current_of, device_of, fault_of, given_up_of, line_of, noted_in, machine_at, pins_of, position_of, position_with, segment_size_of, stable_end, synced_end, current_begin, fillings_of, heads_of, reserved_end}
use Rattle.sled_core.specs.invariants.Fits.{Holds}
use Rattle.sled_core.specs.inside.FreeSlots.{HasSlot, HasSlots, HaveOwn}
use Rattle.sled_core.specs.GivenUp.{given_up_along}
use Rattle.sled_core.specs.Keeps.{Preserves}
use Rattle.sled_core.specs.OpenPlaces.{open_places_along}
use Rattle.sled_core.specs.Positions.{is_short, next_segment_at, position_in}
use Rattle.sled_core.specs.inside.Recoverable.{IsMarkOf}
use Rattle.sled_core.specs.OpenBatches.{stable_below}
use Rattle.sled_core.specs.invariants.Running.{Fits}
use Rattle.sled_core.specs.inside.Running.{FitsIn, FitsLine, FitsWith}
use Rattle.sled_core.specs.inside.Slots.{AreWhole, HasAccount}
use Rattle.sled_core.specs.inside.Shown.{shown_of}
use Rattle.sled_core.specs.inside.Turned.{ChangesSlots, begun_view, next_line}
use Rattle.sled_core.specs.Waiting.{at_last, closed_now, filled_now, last_of}
use Rattle.sled_core.specs.declared.logger.joined_marks.JoinedMarks.{JoinedMarks}
use Rattle.sled_core.proofs.Line.HeldAround.{behind_place, behind_place_is}
use Rattle.sled_core.proofs.Line.HoldsBegun.{behind-begins}
use Rattle.sled_core.proofs.Line.FitsBegun.{behind-fits-begun}
use Rattle.sled_core.proofs.Holds.FitsBatches.{batches_up, stable_noted}
use Rattle.sled_core.proofs.Line.KeptCalls.{goes_on_quietly}
use Rattle.sled_core.proofs.Line.Closes.{IsClosable, filled_gone, filled_length, filled_message, filled_site, filled_there, filled_written, line_closed, line_fits_closed}
use Rattle.sled_core.proofs.Holds.Facts.{IsSegment, current_facts, nth_facts}
use Rattle.sled_core.proofs.Line.Last.{All-at_last, last_behind_all, last_get_of}
use Rattle.sled_core.proofs.Line.LineEnds.{end_at_last, kept_same, noted_later, noted_same}
use Rattle.sled_core.proofs.Cleared.Calls.{cleared_next}
use Rattle.sled_core.proofs.Cleared.Shown.{ShowsSame}
use Rattle.sled_core.proofs.Line.Moves.{fits_as, holds_as}
use Rattle.sled_core.proofs.Line.NextDue.{none_next}
use Rattle.sled_core.proofs.Line.PassedMarks.{passed_up}
use Rattle.sled_core.specs.inside.MarksFit.{ArePassedFrom}
use Rattle.sled_core.proofs.Line.Among.{among_same}
use Rattle.sled_core.proofs.Line.GivenUp.{given_begun, given_closed}
use Rattle.sled_core.proofs.Line.OpenPlaces.{places_begun, places_closed}
use Rattle.sled_core.proofs.Line.Segments.{line_segments}
use Rattle.sled_core.proofs.Line.OlderSlots.{whole_handed}
use Rattle.sled_core.proofs.Line.Slots.{next_free, next_other, next_others, next_within, slots_begun}
use Rattle.sled_core.proofs.Reached.BufferPath.{buffer_mark, mark_lower}
use Rattle.sled_core.proofs.Reached.Marks.{less_than}
use Rattle.sled_core.proofs.Reached.OpenBatch.{stable_ends}
use Rattle.sled_core.proofs.Reached.StableBelow.{stable_low}
use Rattle.sled_core.proofs.Sealed.Ended.{ends_rise, ends_up}
use Rattle.sled_core.proofs.Reserve.Ranges.{at_there}
use Rattle.sled_core.proofs.Flush.Completed.{grows}
use Rattle.sled_core.proofs.Line.Entered.{filled_last, last_used_to}
use Rattle.sled_core.proofs.OwnLog.Calls.{own_next}
use Rattle.sled_core.proofs.Line.Accounts.{account_handed}
use Rattle.sled_core.proofs.Start.OwnSlots.{handed_other, handed_there}
use Rattle.sled_core.proofs.Start.HandedNumbers.{numbers_handed, slots_handed}
use Rattle.sled_core.specs.inside.Hides.{HidesFrom}
use Rattle.sled_core.specs.inside.Numbers.{HasNumbers}
use Rattle.sled_core.proofs.Numbers.HidesAs.{from_begun}
use Rattle.sled_store.specs.Marks.{IsNewPlace}
use Rattle.sled_core.proofs.Line.AccountBehind.{account_same}
use Rattle.sled_core.proofs.Line.HidesBeyond.{base_low}

-- the first of them is no longer than this
abbrev FirstShort : ℕ → List SegmentView → Type 0
FirstShort size [] = ⊥
FirstShort size (v ∷ vs) = length v.parts.bytes ≤ size

-- How far the first one is written doesn't go by those behind it.
written_append : (vs ws : List SegmentView) → 0 < length vs → written_to (vs ++ ws) ≡ written_to vs
written_append [] ws some = absurd (omega (arith, some))
written_append (v ∷ vs) ws some = refl

-- Nor does where it begins.
first_append : (vs ws : List SegmentView) → 0 < length vs → first_place (vs ++ ws) ≡ first_place vs
first_append [] ws some = absurd (omega (arith, some))
first_append (v ∷ vs) ws some = refl

-- A segment begins behind segments one behind another, in the slot that is handed out next, with a mark below what is written of the first one.
module _ (sum : List ℕ → ℕ) (size : ℕ) (device : State) (fault : Option IoError) (m : Machine) (big : 256 ≤ size) where
  abbrev header_at : ℕ → ℕ → List ℕ
  header_at place stable = short_header sum (pos place) (pos stable -ℤ pos 1)

  -- its mark lies in no batch
  marked : (H : History) (site : SegmentPosition) (stable : ℕ) → stable ≤ site.place → ((b : Batch) → Contains H.batches b → b.low < stable → b.peg < stable) → HasMark sum site (header_at site.place stable) H
  marked H site stable below ended =
      let is : IsMarkOf H (record { place = stable; slot = site.slot; mark = pos stable -ℤ pos 1 }) = buffer_mark H site.slot stable ended in
      record {
        mark = pos stable -ℤ pos 1;
        is = take_all 20 (header_at site.place stable) (omega (arith, length-short_header sum (pos site.place) (pos stable -ℤ pos 1)));
        of_history = record { least = is.least; below = less_than (pos stable -ℤ pos 1) stable site.place below is.below; apart = is.apart };
      }

  -- what begins there
  abbrev begun_at : ℕ → ℕ → SegmentView
  begun_at place stable = record {
    parts = record { site = record { place = place; slot = next_slot m * size }; bytes = header_at place stable; written_len = 0; filled = None; sealed = []; reserved = [] };
    gone = 0;
  }

  module _ (slots : AreSlots m.tip m.slots) (place : ℕ) where
    -- Where it begins, and how much is written before it.
    place_is : (v : SegmentView) (vs : List SegmentView) → place ≡ first_place (v ∷ vs) + length (v ∷ vs) * size → place ≡ behind_place size (v.parts.site.place + size) (map parts_in vs)
    place_is v vs at = omega (arith, at, behind_place_is size (v.parts.site.place + size) (map parts_in vs), ap (λ n. n * size) (length-map vs parts_in), suc-mul (length vs) size)

    above : (v : SegmentView) (vs : List SegmentView) → place ≡ first_place (v ∷ vs) + length (v ∷ vs) * size → v.parts.site.place + size ≤ place
    above v vs at = omega (arith, at, suc-mul (length vs) size)

    written_within : (marks : JoinedMarks) (H : History) (v : SegmentView) (vs : List SegmentView) → HoldsLine sum marks size device fault (v ∷ vs) H → v.parts.written_len ≤ length v.parts.bytes
    written_within marks H v vs holds =
        let grown = grows sum size v.parts.site device fault v.parts.bytes v.parts.written_len v.parts.sealed v.parts.reserved (record { messages = holds.head; batches = H.batches }) holds.own in
        omega (arith, grown)

    written_before : (marks : JoinedMarks) (H : History) (v : SegmentView) (vs : List SegmentView) → place ≡ first_place (v ∷ vs) + length (v ∷ vs) * size → length v.parts.bytes ≤ size → HoldsLine sum marks size device fault (v ∷ vs) H → written_to (v ∷ vs) ≤ place
    written_before marks H v vs at short holds =
        let up = above v vs at in
        let within = written_within _ H v vs holds in
        omega (arith, up, within, short)

    -- The mark is the place before this one, which is written, and in front of which no batch is open; and all batches end before the new segment.
    module _ (H : History) (stable : ℕ) (line : List SegmentView) (low : stable ≤ written_to line) (ended : (b : Batch) → Contains H.batches b → b.low < stable → b.peg < stable) (within : CloseBelow place H.batches)
        (at : place ≡ first_place line + length line * size) (short : FirstShort size line) (has : HasSlots size line device.log.bytes fault m) where
      mark_of : (marks : JoinedMarks) (v : SegmentView) (vs : List SegmentView) → line ≡ v ∷ vs → HoldsLine sum marks size device fault (v ∷ vs) H → HasMark sum (record { place = place; slot = next_slot m * size }) (header_at place stable) H
      mark_of marks v vs is holds =
          let before = written_before _ H v vs (subst (λ (l : List SegmentView). place ≡ first_place l + length l * size) is at) (subst (FirstShort size) is short) holds in
          let under = subst (λ (l : List SegmentView). stable ≤ written_to l) is low in
          marked H (record { place = place; slot = next_slot m * size }) stable (omega (arith, before, under)) ended

    -- What the others hold is held with it,
    pub line_begun : (marks : JoinedMarks) (H : History) (stable : ℕ) (line : List SegmentView) → stable ≤ written_to line → ((b : Batch) → Contains H.batches b → b.low < stable → b.peg < stable) → CloseBelow place H.batches
        → place ≡ first_place line + length line * size → place < 2 ^ 63 → FirstShort size line → HasSlots size line device.log.bytes fault m → HoldsLine sum marks size device fault line H
        → HoldsLine sum marks size device fault (line ++ begun_at place stable ∷ []) H
    unfolding mark_of marked
    line_begun marks H stable [] low ended within at small short has holds = absurd holds
    line_begun marks H stable (v ∷ vs) low ended within at small short has holds =
        subst (λ (ss : List SegmentParts). HoldsIn sum marks (log_parts size v.parts.site device fault v.parts.bytes v.parts.written_len v.parts.sealed v.parts.reserved) ss H) (sym (map-append parts_in vs (begun_at place stable ∷ [])))
        (behind-begins sum size v.parts.site device fault v.parts.bytes v.parts.written_len v.parts.sealed v.parts.reserved H (map parts_in vs) holds big short
        (record { place = place; slot = next_slot m * size }) (header_at place stable) (place_is v vs at) (mul-mod_left (next_slot m) size) (length-short_header sum (pos place) (pos stable -ℤ pos 1))
        (mark_of H stable (v ∷ vs) low ended within at short has _ v vs refl holds) (next_other m slots size (omega (arith, big)) v (All-head (HasSlot size m) v vs has.taken))
        (next_others m slots size (omega (arith, big)) vs (All-tail (HasSlot size m) v vs has.taken)) (λ none. has.zeros none (next_slot m) (next_free m slots)) within
        (mark_lower stable (v.parts.site.place + v.parts.written_len) low) small)

    -- and what they fit is fitted.
    pub line_fits_begun : (marks : JoinedMarks) (reach pins : ℕ) (H : History) (A f : ℕ) (U : List Message) (stable : ℕ) (line : List SegmentView) → stable ≤ written_to line → ((b : Batch) → Contains H.batches b → b.low < stable → b.peg < stable) → CloseBelow place H.batches
        → place ≡ first_place line + length line * size → place < 2 ^ 63 → FirstShort size line → HasSlots size line device.log.bytes fault m
        → FitsLine sum marks size device fault line reach pins H A f U → FitsLine sum marks size device fault (line ++ begun_at place stable ∷ []) reach pins H A f U
    unfolding mark_of marked
    line_fits_begun marks reach pins H A f U stable [] low ended within at small short has fits = absurd fits
    line_fits_begun marks reach pins H A f U stable (v ∷ vs) low ended within at small short has fits =
        subst (λ (ss : List SegmentParts). FitsIn sum marks (log_parts size v.parts.site device fault v.parts.bytes v.parts.written_len v.parts.sealed v.parts.reserved) ss reach pins H A f U) (sym (map-append parts_in vs (begun_at place stable ∷ [])))
        (behind-fits-begun sum size v.parts.site device fault v.parts.bytes v.parts.written_len v.parts.sealed v.parts.reserved pins H A f U (map parts_in vs) fits big short
        (record { place = place; slot = next_slot m * size }) (header_at place stable) (place_is v vs at) (mul-mod_left (next_slot m) size) (length-short_header sum (pos place) (pos stable -ℤ pos 1))
        (mark_of (logged H) stable (v ∷ vs) low ended within at short has _ v vs refl fits.holds) (next_other m slots size (omega (arith, big)) v (All-head (HasSlot size m) v vs has.taken))
        (next_others m slots size (omega (arith, big)) vs (All-tail (HasSlot size m) v vs has.taken)) (λ none. has.zeros none (next_slot m) (next_free m slots)) within
        (mark_lower stable (v.parts.site.place + v.parts.written_len) low) small)

-- The segments once the last one is filled and sealed: the first of them lies where it lay, as far written.
module _ (sum : List ℕ → ℕ) (size : ℕ) where
  abbrev closed : List SegmentView → List SegmentView
  closed line = at_last (closed_now sum size) line

  closed_first : (v : SegmentView) (vs : List SegmentView) → first_place (closed (v ∷ vs)) ≡ v.parts.site.place
  closed_first v [] = ap (λ p. p.place) (filled_site sum size v)
  closed_first v (w ∷ ws) = refl

  closed_written : (v : SegmentView) (vs : List SegmentView) → written_to (closed (v ∷ vs)) ≡ written_to (v ∷ vs)
  closed_written v [] = (λ i. (filled_site sum size v i).place + filled_written sum size v i)
  closed_written v (w ∷ ws) = refl

  closed_count : (v : SegmentView) (vs : List SegmentView) → length (closed (v ∷ vs)) ≡ suc (length vs)
  closed_count v [] = refl
  closed_count v (w ∷ ws) = ap suc (closed_count w ws)

  closed_some : (v : SegmentView) (vs : List SegmentView) → 0 < length (closed (v ∷ vs))
  closed_some v vs = omega (arith, closed_count v vs)

  closed_short : (v : SegmentView) (vs : List SegmentView) → length v.parts.bytes ≤ size → v.parts.site.place / size < 2 ^ 64 → FirstShort size (closed (v ∷ vs))
  closed_short v [] short small = let long = filled_length sum size v short small in omega (arith, long)
  closed_short v (w ∷ ws) short small = short

  closed_end : (line : List SegmentView) → line_end size (closed line) ≡ line_end size line
  closed_end line = end_at_last size (closed_now sum size) (filled_site sum size) line

  closed_slots : (line : List SegmentView) (log : List ℕ) (fault : Option IoError) (m : Machine) → HasSlots size line log fault m → HasSlots size (closed line) log fault m
  closed_slots line log fault m has = record {
    taken = All-at_last (HasSlot size m) (closed_now sum size) (λ v here. record { number = here.number; lies = ap (λ p. p.slot) (filled_site sum size v) ∙ here.lies; taken = here.taken; is = here.is ∙ ap (λ p. p.place) (sym (filled_site sum size v)) }) line has.taken;
    zeros = has.zeros;
    own = subst (λ e. HaveOwn size e m) (sym (closed_end line)) has.own;
  }

  -- What segments hold, in these slots, is held by those and one more.
  module _ (device : State) (fault : Option IoError) (m : Machine) (big : 256 ≤ size) (slots : AreSlots m.tip m.slots) (v : SegmentView) (vs : List SegmentView) (closable : IsClosable size (last_of v vs)) (short : length v.parts.bytes ≤ size) (small : v.parts.site.place / size < 2 ^ 64)
      (lies : (last_of v vs).parts.site.place ≡ v.parts.site.place + length vs * size) (in_reach : (last_of v vs).parts.site.place + size < 2 ^ 63) where
    abbrev place : ℕ
    place = (last_of v vs).parts.site.place + size

    at : place ≡ first_place (closed (v ∷ vs)) + length (closed (v ∷ vs)) * size
    at = omega (arith, lies, closed_first v vs, ap (λ n. n * size) (closed_count v vs), suc-mul (length vs) size)

    -- the batches that are noted, and the stable place
    module _ (noted : List Batch) where
      abbrev stable : ℕ
      stable = stable_below (written_to (v ∷ vs)) noted

      abbrev next : List SegmentView
      next = next_line sum size m stable (v ∷ vs)

      -- The segments end where the new one begins.
      ends_there : place ≡ line_end size (v ∷ vs)
      ends_there = omega (arith, lies, suc-mul (length vs) size)

      next_written : written_to next ≡ written_to (v ∷ vs)
      next_written = written_append (closed (v ∷ vs)) (begun_view sum size m stable (last_of v vs) ∷ []) (closed_some v vs) ∙ closed_written v vs

      -- So the marks stay passed.
      pub passed_next : (bs : List Batch) (snapshots : ℤ → Option (List ℕ)) (marks : JoinedMarks) → ArePassedFrom sum snapshots (written_to (v ∷ vs)) bs marks
          → ArePassedFrom sum snapshots (written_to next) bs marks
      passed_next bs snapshots marks =
          passed_up (written_to (v ∷ vs)) (written_to next) (let same = next_written in omega (arith, same)) bs sum snapshots marks

      -- The first one lies where it lay, and older slots are those that they were.
      first_there : first_place next ≡ v.parts.site.place
      first_there = first_append (closed (v ∷ vs)) (begun_view sum size m stable (last_of v vs) ∷ []) (closed_some v vs) ∙ closed_first v vs

      whole_next : (H : History) → AreWhole sum size device.log.bytes H v.parts.site.place m → AreWhole sum size device.log.bytes H (first_place next) (handed_out place m)
      whole_next H are =
          subst (λ p. AreWhole sum size device.log.bytes H p (handed_out place m)) (sym first_there)
          (whole_handed sum size m (next_within m slots) place device.log.bytes H v.parts.site.place (omega (arith, big)) (omega (arith, lies)) are)

      -- it begins at a multiple of the size
      begins_multiple : HasSlots size (v ∷ vs) device.log.bytes fault m → place % size ≡ 0
      begins_multiple has =
          let first = All-head (HasSlot size m) v vs has.taken in
          let begins : v.parts.site.place % size ≡ 0 = ap (λ n. n % size) (sym first.is) ∙ has.own.aligned first.number first.taken in
          ap (λ n. n % size) ends_there ∙ add-mul-mod_self_right v.parts.site.place (suc (length vs)) size ∙ begins

      -- it lies behind those of all slots
      is_new : HasSlots size (v ∷ vs) device.log.bytes fault m → IsNewPlace size place m
      is_new has =
          record {
            aligned = begins_multiple has;
            above = λ k taken. let low = has.own.below k taken in omega (arith, low, ends_there, big);
          }

      account_next : (H : History) (U : List Message) → HasSlots size (v ∷ vs) device.log.bytes fault m → {marks : JoinedMarks} → HasAccount sum marks size device.snapshots.file H U m
          → HasAccount sum marks size device.snapshots.file H U (handed_out place m)
      account_next H U has account = account_handed sum size device.snapshots.file H U m account place (is_new has)

      slots_next : HasSlots size (v ∷ vs) device.log.bytes fault m → HasSlots size next device.log.bytes fault (handed_out place m)
      slots_next has =
          slots_begun m slots size (omega (arith, big)) (closed (v ∷ vs)) device.log.bytes fault place (begun_view sum size m stable (last_of v vs))
          (begins_multiple has)
          (ends_there ∙ sym (closed_end (v ∷ vs))) refl refl (closed_slots (v ∷ vs) device.log.bytes fault m has)

      next_end : line_end size (v ∷ vs) ≤ line_end size next
      next_end = longer (closed (v ∷ vs)) (begun_view sum size m stable (last_of v vs)) (closed_some v vs) at where
        longer : (l : List SegmentView) (w : SegmentView) → 0 < length l → place ≡ first_place l + length l * size → line_end size (v ∷ vs) ≤ line_end size (l ++ w ∷ [])
        longer [] w some lies_there = absurd (omega (arith, some))
        longer (x ∷ xs) w some lies_there =
            let long : suc (length (xs ++ w ∷ [])) ≡ suc (suc (length xs)) = ap suc (length-append xs (w ∷ []) ∙ (let one : length xs + 1 ≡ suc (length xs) = omega arith in one)) in
            omega (arith, lies_there, ends_there, ap (λ n. n * size) long, suc-mul (suc (length xs)) size)

      -- What the file has besides what is shown it may have still.
      pub from_next : {base : ℕ} (d : State) (H : History) → base ≤ first_place (v ∷ vs) → HasSlots size (v ∷ vs) device.log.bytes fault m → ShowsSame size m (handed_out place m) (v ∷ vs) next
          → HidesFrom sum size base d m (v ∷ vs) H → HidesFrom sum size base d (handed_out place m) next H
      from_next d H under has same =
          from_begun sum size d m (handed_out place m) (v ∷ vs) next H (omega (arith, big)) (next_slot m) place
          (ap (λ (x : SlotState). x.lsn) (handed_there m (next_within m slots) place)) (handed_other m (next_within m slots) place) (same d.log.bytes)
          ends_there (begins_multiple has) next_end (omega (arith, ends_there, under))

      numbers_next : {base : ℕ} → HasSlots size (v ∷ vs) device.log.bytes fault m → HasNumbers sum size base device m (line_end size (v ∷ vs))
          → HasNumbers sum size base device (handed_out place m) (line_end size next)
      numbers_next {base} has_slots has =
          numbers_handed sum size (omega (arith, big)) m (next_within m slots) (next_free m slots) place device (line_end size next)
          (let aligned = begins_multiple has_slots in omega (arith, mod-add-div' place size, aligned))
          (let same = ends_there in let up = next_end in omega (arith, same, up)) (subst (HasNumbers sum size base device m) (sym ends_there) has)

      low : stable ≤ written_to (closed (v ∷ vs))
      low = let is = stable_low (written_to (v ∷ vs)) noted in omega (arith, is, closed_written v vs)

      module _ (H : History) (fits : FitsBatches (written_to (v ∷ vs)) (line_end size (v ∷ vs)) noted H) where
        ended : (b : Batch) → Contains H.batches b → b.low < stable → b.peg < stable
        ended b there lower =
            let same = stable_noted (written_to (v ∷ vs)) (line_end size (v ∷ vs)) noted H fits in
            subst (λ n. b.peg < n) same (stable_ends (written_to (v ∷ vs)) H.batches fits.apart b there (subst (λ n. b.low < n) (sym same) lower))

        within : CloseBelow place H.batches
        within = subst (λ n. CloseBelow n H.batches) (sym ends_there) fits.within

        batches_next : FitsBatches (written_to next) (line_end size next) noted H
        batches_next = batches_up (written_to (v ∷ vs)) (written_to next) (line_end size (v ∷ vs)) (line_end size next) noted H (let same = next_written in omega (arith, same)) next_end fits

      pub holds_next : (H : History) → {marks : JoinedMarks} → HoldsWith sum marks noted size device fault (v ∷ vs) m H → HoldsWith sum marks noted size device fault next (handed_out place m) H
      holds_next H holds = record {
        holds = line_begun sum size device fault m big slots place _ H stable (closed (v ∷ vs)) low (ended H holds.batches) (within H holds.batches) at in_reach (closed_short v vs short small) (closed_slots (v ∷ vs) device.log.bytes fault m holds.slots)
            (line_closed sum size device fault _ v vs closable H holds.holds);
        batches = batches_next H holds.batches;
        slots = slots_next holds.slots;
      }

      pub fits_next : (pins : ℕ) (H : History) (A f : ℕ) (U : List Message) → {marks : JoinedMarks} → FitsWith sum marks noted size device fault (v ∷ vs) m pins H A f U → FitsWith sum marks noted size device fault next (handed_out place m) pins H A f U
      fits_next pins H A f U fits = record {
        reach = fits.reach;
        parts = line_fits_begun sum size device fault m big slots place _ fits.reach pins H A f U stable (closed (v ∷ vs)) low (ended (logged H) fits.batches) (within (logged H) fits.batches) at in_reach (closed_short v vs short small) (closed_slots (v ∷ vs) device.log.bytes fault m fits.slots)
            (line_fits_closed sum size device fault _ v vs closable fits.reach pins H A f U fits.parts);
        batches = batches_next (logged H) fits.batches;
        slots = slots_next fits.slots;
        whole = λ none zeros. whole_next (logged H) (fits.whole none zeros);
        own = λ none zeros. own_next sum size (HeaderWasPlaced device.placed) (RecordWasPlaced sum size device.placed) device.log.bytes m stable (v ∷ vs) (fits.own none zeros);
        account = account_next H U fits.slots fits.account;
        numbers = λ zeros. numbers_next fits.slots (fits.numbers zeros);
        in_slots = λ first begins. slots_handed sum size (omega (arith, big)) m (next_within m slots) (next_free m slots) place _ H _ (fits.in_slots first begins);
      }

  -- Tickets are for what they were for,
  pub awaits_closed : (v : SegmentView) (vs : List SegmentView) (place : ℕ) → IsSegment size place (last_of v vs) → (ticket : Reservation) (m : Message) → AwaitsIn (v ∷ vs) ticket m → AwaitsIn (closed (v ∷ vs)) ticket m
  awaits_closed v vs place facts ticket m awaits = elim (last_get_of (closed_now sum size) v vs awaits.number awaits.segment awaits.among) [
    | inl still ↦ record { number = awaits.number; segment = awaits.segment; among = still; reserved = awaits.reserved; numbered = awaits.numbered; there = awaits.there; own = awaits.own; message = awaits.message }
    | inr changed ↦ (
        let w : SegmentView = awaits.segment in
        let r : Reserved = awaits.reserved in
        let f : IsSegment size place w = subst (IsSegment size place) (sym changed.0) facts in
        let i : ℕ = index_of ticket - w.gone in
        let gone : (filled_now sum size w).gone ≡ w.gone = filled_gone sum size w in
        let within : r.from + r.len ≤ length w.parts.bytes = at_there (λ (x : Reserved). x.from + x.len ≤ length w.parts.bytes) w.parts.reserved i r awaits.there f.within in
        let headed : r.header_len ≤ r.len = (let head = (at_there IsHeaded w.parts.reserved i r awaits.there f.headed).1 awaits.own.open_yet in head.1) in
        record {
          number = awaits.number;
          segment = closed_now sum size w;
          among = changed.1;
          reserved = r;
          numbered = (let numbered = awaits.numbered in omega (arith, numbered, gone));
          there = ap (λ n. slice_get (filled_now sum size w).parts.reserved (index_of ticket - n)) gone ∙ filled_there sum size w i r awaits.there;
          own = subst (λ (p : SegmentPosition). IsFor p r ticket) (sym (filled_site sum size w)) awaits.own;
          message = awaits.message ∙ filled_message sum size w r within headed;
        })
  ]

  get_front : (vs ws : List SegmentView) (n : ℕ) (w : SegmentView) → slice_get vs n ≡ Some w → slice_get (vs ++ ws) n ≡ Some w
  get_front [] ws n w there = cc
  get_front (v ∷ vs) ws zero w there = there
  get_front (v ∷ vs) ws (suc n) w there = get_front vs ws n w there

  pub awaits_more : (vs ws : List SegmentView) (ticket : Reservation) (m : Message) → AwaitsIn vs ticket m → AwaitsIn (vs ++ ws) ticket m
  awaits_more vs ws ticket m awaits = record {
    number = awaits.number;
    segment = awaits.segment;
    among = get_front vs ws awaits.number awaits.segment awaits.among;
    reserved = awaits.reserved;
    numbered = awaits.numbered;
    there = awaits.there;
    own = awaits.own;
    message = awaits.message;
  }

-- A segment of a log is closable where its current buffer begins within it.
pub closable : (size place : ℕ) (v : SegmentView) → IsSegment size place v → begin_of v < size → IsClosable size v
closable size place v f begins =
    let up = ends_up v.parts.written_len v.parts.reserved v.parts.sealed f.are in
    let within = f.begins in
    record {
      short = f.short;
      some = begins;
      small = (let small = f.place_small in omega (arith, small, div-le_self v.parts.site.place size));
      rise = ends_rise v.parts.written_len v.parts.reserved v.parts.sealed (length v.parts.bytes) f.are (omega (arith, up, within)) within;
      begun = f.begun;
      so_far = omega (arith, up, within);
      are = f.are;
    }

-- A log that has begun a further segment.
module _ {D C : Type 0} (trace : D → Trace) (sum : List ℕ → ℕ) (old new : Log D C) (line : line_of new ≡ next_line sum (segment_size_of old) (machine_at old) (stable_end old) (line_of old))
    (machine : machine_at new ≡ handed_out ((current_of old).parts.site.place + segment_size_of old) (machine_at old)) (rest : ChangesSlots old new) where
  abbrev its_size : ℕ
  its_size = segment_size_of old

  abbrev first : SegmentView
  first = segment_view old.segments.first

  abbrev behind : List SegmentView
  behind = map segment_view old.segments.behind.items

  big : 256 ≤ its_size
  big = old.config.config.least

  -- The new segment is the one that is being filled.
  pub begins_current : current_of new ≡ begun_view sum its_size (machine_at old) (stable_end old) (current_of old)
  begins_current = ap (last_of first) line ∙ last_behind_all first (begun_view sum its_size (machine_at old) (stable_end old) (current_of old)) (closed sum its_size (line_of old))

  same_size : segment_size_of new ≡ its_size
  same_size = ap (λ (x : RunningConfig D C). x.config.segment_size) rest.config

  -- The next record begins behind its header, whichever slots are left.
  pub begins_with : (m : Machine) → position_with new m ≡ record (next_segment_at its_size (current_of old).parts.site.place (machine_at old)) { machine = m }
  begins_with m =
      let b : SegmentView = begun_view sum its_size (machine_at old) (stable_end old) (current_of old) in
      let long = length-short_header sum (pos b.parts.site.place) (pos (stable_end old) -ℤ pos 1) in
      let room : is_short its_size (length b.parts.bytes) ≡ false = grind (arith, nat_tests, big, long) in
      (λ i. position_in (same_size i) (begins_current i) m)
      ∙ ap (λ (o : Bool). if o then next_segment_at its_size b.parts.site.place m else record { place = b.parts.site.place + length b.parts.bytes; begins = b.parts.site.place; slot = b.parts.site.slot; machine = m }) room
      ∙ ap (λ n. record { place = b.parts.site.place + n; begins = b.parts.site.place; slot = b.parts.site.slot; machine = m }) long

  pub begins_position : position_of new ≡ next_segment_at its_size (current_of old).parts.site.place (machine_at old)
  begins_position = begins_with (machine_at new) ∙ (λ i. record (next_segment_at its_size (current_of old).parts.site.place (machine_at old)) { machine = machine i })

  -- As much is written,
  pub begins_synced : synced_end new ≡ synced_end old
  begins_synced = ap written_to line ∙ kept (closed sum its_size (line_of old)) (closed_some sum its_size first behind) ∙ closed_written sum its_size first behind where
    kept : (vs : List SegmentView) → 0 < length vs → written_to (vs ++ begun_view sum its_size (machine_at old) (stable_end old) (current_of old) ∷ []) ≡ written_to vs
    kept [] none = absurd (omega (arith, none))
    kept (v ∷ vs) some = refl

  pub begins_noted : noted_in new ≡ noted_in old
  begins_noted = noted_same old new rest.noted begins_synced

  pub begins_same : KeepsAll old new
  begins_same = record { config = rest.config; synced = begins_synced; noted = begins_noted; kept = kept_same old new rest.noted; fault = rest.fault; pins = rest.pins; account = account_same old new rest.marks rest.pins }

  facts : IsSegment its_size (old.segments.first.site.place + length old.segments.behind.items * its_size) (current_of old)
  facts = current_facts old

  -- tickets are for what they were for,
  pub begins_tickets : KeepsTickets old new
  begins_tickets = record {
    awaits = λ ticket m awaits. subst (λ (l : List SegmentView). AwaitsIn l ticket (in_log m)) (sym line)
        (awaits_more sum its_size (closed sum its_size (line_of old)) (begun_view sum its_size (machine_at old) (stable_end old) (current_of old) ∷ []) ticket (in_log m)
        (awaits_closed sum its_size first behind (old.segments.first.site.place + length old.segments.behind.items * its_size) facts ticket (in_log m) awaits));
    opens = ap open_places_along line
        ∙ places_begun (closed sum its_size (line_of old)) (begun_view sum its_size (machine_at old) (stable_end old) (current_of old)) refl
        ∙ places_closed sum its_size first behind;
    given_up = among_same (given_up_of new) (given_up_of old)
        (ap given_up_along line
        ∙ given_begun (closed sum its_size (line_of old)) (begun_view sum its_size (machine_at old) (stable_end old) (current_of old)) refl
        ∙ given_closed sum its_size old.segments.first.site.place first behind (line_segments old));
  }

  closes : IsClosable its_size (current_of old)
  closes = closable its_size _ (current_of old) facts (filled_last its_size old.reserved_to first behind old.line.filled).0

  first_facts : IsSegment its_size (old.segments.first.site.place + 0 * its_size) first
  first_facts = nth_facts old 0 first refl

  -- The header of the new segment is the only one more that isn't on the device, and the current buffer begins with it.
  pub begins_heads : (h : HeadAt) → Contains (heads_of new) h → HasOnly sum old new h
  begins_heads h there =
      let b : SegmentView = begun_view sum its_size (machine_at old) (stable_end old) (current_of old) in
      let begin : current_begin new ≡ b.parts.site.place = ap (λ (v : SegmentView). v.parts.site.place + begin_of v) begins_current ∙ (let same : b.parts.site.place + 0 ≡ b.parts.site.place = omega arith in same) in
      let low = closes.some in
      elim (heads_begun (closed sum its_size (line_of old)) b h refl (subst (λ (l : List SegmentView). Contains (heads_along l) h) line there)) [
        | inl had ↦ inl (subst (λ (l : List HeadAt). Contains l h) (heads_closed sum its_size old.segments.first.site.place first behind (line_segments old)) had)
        | inr own ↦ inr (subst (λ n. (current_begin old < n) × IsMarkedHead sum n (stable_end old) h) (sym begin) (
          omega (arith, low),
          (ap (λ (x : HeadAt). x.place) own, ap (λ (x : HeadAt). x.bytes) own ∙ take_all 20 b.parts.bytes (omega (arith, length-short_header sum (pos b.parts.site.place) (pos (stable_end old) -ℤ pos 1)))),
        ))
      ]

  -- What fills the segment in front of it, which has more than its header, is the only other thing that fills one.
  pub begins_fillings : 20 < length (current_of old).parts.bytes → (f : FillingAt) → Contains (fillings_of new) f → FillsOnly sum old new f
  begins_fillings used f there =
      let v : SegmentView = current_of old in
      let b : SegmentView = begun_view sum its_size (machine_at old) (stable_end old) v in
      let begin : current_begin new ≡ v.parts.site.place + its_size = ap (λ (w : SegmentView). w.parts.site.place + begin_of w) begins_current ∙ (let same : b.parts.site.place + 0 ≡ b.parts.site.place = omega arith in same) in
      let low = closes.some in
      let end : reserved_end old ≡ v.parts.site.place + length v.parts.bytes = last_used_to its_size old.reserved_to first behind old.line.filled used in
      let left : List SegmentView = closed sum its_size (line_of old) in
      let is : fillings_of new ≡ fillings_along left = ap fillings_along line ∙ fillings_begun left b refl in
      elim (in_cases (filling_at its_size v) f (fillings_of old) (fillings_closed sum its_size first behind f (subst (λ (l : List FillingAt). Contains l f) is there))) [
        | inl own ↦ inr (omega (arith, begin, low), sym own ∙ (λ i. record { next = sym begin i; from = sym end i }))
        | inr had ↦ inl had
      ]

  pub begins_marked : 20 < length (current_of old).parts.bytes → BeginsMarked sum old new
  begins_marked used = begun_marked sum old its_size (machine_at old) new begins_current begins_heads (begins_fillings used)

  lies : (current_of old).parts.site.place ≡ first.parts.site.place + length behind * its_size
  lies = let at = facts.at in omega (arith, at, ap (λ n. n * its_size) (length-map old.segments.behind.items segment_view))

  -- The same counts for nothing in the log file: the slot was free, and nothing of the new segment is written.
  same_shown : ShowsSame its_size (machine_at old) (handed_out ((current_of old).parts.site.place + its_size) (machine_at old)) (line_of old)
      (next_line sum its_size (machine_at old) (stable_end old) (line_of old))
  same_shown log =
      let some : 0 < its_size = omega (arith, big) in
      cleared_next its_size (machine_at old) log sum first behind facts.begins facts.short
      (let small = facts.place_small in omega (arith, small, div-le_self (current_of old).parts.site.place its_size)) some
      ((current_of old).parts.site.place + its_size) (stable_end old)
      (next_free (machine_at old) old.account.slots) (next_within (machine_at old) old.account.slots)

  -- and the log holds and fits what it did.
  pub begins_keeps : Preserves trace sum old new
  unfolding Holds Fits
  begins_keeps =
      let device : State = shown_of trace old in
      let f = facts in
      let g = first_facts in
      let small : old.segments.first.site.place / its_size < 2 ^ 64 = (let small = g.place_small in omega (arith, small, div-le_self old.segments.first.site.place its_size)) in
      record {
        goes_on = goes_on_quietly trace sum old new (record { config = ap (λ (x : RunningConfig D C). x.config) rest.config; checksum = ap (λ (x : RunningConfig D C). x.checksum) rest.config })
            (ap (λ (x : RunningConfig D C). trace x.device) rest.config) (let same = begins_synced in omega (arith, same)) (λ none. sym rest.fault ∙ none);
        history = λ H holds. holds_as trace sum old new rest.config rest.fault rest.marks (noted_in old) begins_noted _ line _ machine same_shown holds.rests H
            (holds_next sum its_size device (fault_of old) (machine_at old) big old.account.slots first behind closes g.short small lies f.place_small (noted_in old) (logged H) holds.shows);
        fits = λ H A f' U fits. fits_as trace sum old new rest.config rest.fault rest.marks (noted_in old) begins_noted _ line _ machine same_shown fits.rests H
            A f' U rest.pins
            (λ none zeros. from_next sum its_size device (fault_of old) (machine_at old) big old.account.slots first behind closes g.short small lies
            f.place_small (noted_in old) (state_of (trace (device_of old))) (logged H)
            (base_low sum old.marks (noted_in old) its_size big (state_of (trace (device_of old))) (fault_of old) (line_of old) (machine_at old) (pins_of old) H A f' U fits)
            fits.shows.slots same_shown (fits.hides none zeros)) fits.marked
            (λ none. passed_next sum its_size device (fault_of old) (machine_at old) big old.account.slots first behind closes g.short small lies
            f.place_small (noted_in old) H.batches (state_of (trace (device_of old))).snapshots.file old.marks (fits.passed none))
            (λ none low.
            let its = fits.clean none low in (
              its.0,
              none_next sum old.marks (noted_in old) its_size (omega (arith, big)) (trace (device_of old)) (fault_of old) none first behind (machine_at old)
                  (pins_of old) H A f' U fits ((current_of old).parts.site.place + its_size) (omega (arith, lies))
                  (next_within (machine_at old) old.account.slots) its.1,
            ))
            (fits_next sum its_size device (fault_of old) (machine_at old) big old.account.slots first behind closes g.short small lies f.place_small (noted_in old) (pins_of old) H A f' U fits.shows);
        noted = noted_later old new rest.noted (let same = begins_synced in omega (arith, same));
        kept = kept_same old new rest.noted;
      }
