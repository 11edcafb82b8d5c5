-- The current buffer is sealed: the log holds and fits what it did.
use Rattle.std.proofs.Common.{◌≡◌, ◌∙◌, ◌<◌, ◌≤◌, ◌+◌, ap, sym, refl, arith, subst, inl, inr, ℕ, Bool, List, [], ◌∷◌, length, map, drop, Option, true, false, if◌then◌else◌}
use Rattle.std.specs.declared.io.Error.{Error as IoError}
use Rattle.std.proofs.lemmas.Bool.Decides.{nat_tests}
use Rattle.sled_codec.specs.History.{History, Message}
use Rattle.sled_store.specs.Foreign.{HeaderWasPlaced, RecordWasPlaced}
use Rattle.sled_store.specs.Device.{State, Trace, state_of}
use Rattle.sled_store.specs.SegmentStates.{Machine}
use Rattle.sled_store.specs.Accounts.{machine_of}
use Rattle.sled_store.specs.declared.config.RunningConfig.{RunningConfig}
use Rattle.sled_core.proofs.Line.FillingsAlong.{fillings_sealed}
use Rattle.sled_core.specs.Fillings.{fillings_along}
use Rattle.sled_core.proofs.Line.Heads.{heads_sealed}
use Rattle.sled_core.specs.Heads.{heads_along}
use Rattle.sled_core.specs.Among.{AreAmong}
use Rattle.sled_core.specs.Begun.{SegmentParts, SegmentView, begin_of, segment_view}
use Rattle.sled_core.specs.declared.logger.Log.{Log}
use Rattle.sled_core.specs.declared.reservation.Reservation.{Reservation}
use Rattle.sled_core.specs.inside.Numbers.{HasNumbers}
use Rattle.sled_core.specs.inside.Fits.{written_to, HoldsLine}
use Rattle.sled_core.specs.Fits.{AwaitsIn, KeepsAll, KeepsTickets, buffers_of, current_begin, current_of, device_of, fault_of, given_up_of, line_of, noted_in, machine_at, pins_of, position_sealed, position_with, segment_size_of, synced_end, waiting_of, fillings_of, heads_of}
use Rattle.sled_core.specs.invariants.Fits.{Holds}
use Rattle.sled_core.specs.inside.Begun.{line_end}
use Rattle.sled_core.specs.inside.FreeSlots.{HasSlot, HasSlots, HaveOwn}
use Rattle.sled_core.specs.GivenUp.{given_up_along}
use Rattle.sled_core.specs.Keeps.{Preserves, SamePosition}
use Rattle.sled_core.specs.Logged.{logged, in_log}
use Rattle.sled_core.specs.OpenPlaces.{open_places_along}
use Rattle.sled_core.specs.Positions.{Position, is_short, next_segment_at, position_in}
use Rattle.sled_core.specs.invariants.Running.{Fits}
use Rattle.sled_core.specs.inside.Running.{FitsLine}
use Rattle.sled_core.specs.inside.SealedBuffers.{AreSealed}
use Rattle.sled_core.specs.SealedBuffers.{seal_at, sealed_count}
use Rattle.sled_core.specs.inside.Shown.{shown_of}
use Rattle.sled_core.specs.inside.Slots.{AreWhole}
use Rattle.sled_core.specs.inside.Turned.{ChangesLine}
use Rattle.sled_core.specs.Waiting.{as_sealed, at_last, closed_now, holds_any, last_of, sealed_now, turned_now, unwritten}
use Rattle.sled_core.specs.declared.logger.joined_marks.JoinedMarks.{JoinedMarks}
use Rattle.sled_core.proofs.Cleared.Calls.{sealed_same as unwritten_sealed_now}
use Rattle.sled_core.proofs.Cleared.Moves.{cleared_line, line_last}
use Rattle.sled_core.proofs.Cleared.Shown.{ShowsSame}
use Rattle.sled_core.proofs.Holds.FitsBatches.{batches_up}
use Rattle.sled_core.proofs.Line.Among.{among_same}
use Rattle.sled_core.proofs.Line.GivenUp.{given_sealed}
use Rattle.sled_core.proofs.Line.KeptCalls.{goes_on_quietly}
use Rattle.sled_core.proofs.Holds.Facts.{current_facts}
use Rattle.sled_core.proofs.Line.OneChanged.{last_fits, last_holds}
use Rattle.sled_core.proofs.Line.SegmentKeeps.{sealed_also, segment_seals}
use Rattle.sled_core.proofs.Line.Last.{All-at_last, at_last_same, at_last_twice, last_changed, last_get_of}
use Rattle.sled_core.proofs.Line.LineEnds.{end_at_last, end_last, first_at_last, kept_same, noted_later, noted_same}
use Rattle.sled_core.proofs.Numbers.HidesAs.{from_as}
use Rattle.sled_core.proofs.Line.Moves.{fits_as, holds_as}
use Rattle.sled_core.proofs.Line.PassedMarks.{passed_up}
use Rattle.sled_core.proofs.Line.OpenPlaces.{places_sealed}
use Rattle.sled_core.proofs.OwnLog.Calls.{own_sealed}
use Rattle.sled_core.proofs.Sealed.Appended.{end_one}
use Rattle.sled_core.proofs.Line.AccountBehind.{account_same}
use Rattle.sled_core.specs.LogSegments.{begins_from}

-- The current buffer holds something, in a segment of this size.
pub record IsFilledSome (size : ℕ) (v : SegmentView) : Type 0 where
  pub short : length v.parts.bytes ≤ size
  pub some : begin_of v < length v.parts.bytes
  pub are : AreSealed v.parts.written_len v.parts.reserved v.parts.sealed

module _ (sum : List ℕ → ℕ) (size : ℕ) (device : State) (fault : Option IoError) where
  -- What segments hold they hold then,
  pub line_sealed : (marks : JoinedMarks) (H : History) (v : SegmentView) (vs : List SegmentView) → IsFilledSome size (last_of v vs) → HoldsLine sum marks size device fault (v ∷ vs) H → HoldsLine sum marks size device fault (at_last sealed_now (v ∷ vs)) H
  line_sealed marks H v vs its =
      let s : SegmentParts = (last_of v vs).parts in
      last_holds sum size device fault marks v vs s.bytes s.filled (sealed_also s) s.reserved sealed_now refl (segment_seals sum size device fault s its.short its.some its.are) H

  -- and what they fit they fit.
  pub line_fits_sealed : (marks : JoinedMarks) (reach pins : ℕ) (H : History) (A f : ℕ) (U : List Message) (v : SegmentView) (vs : List SegmentView) → IsFilledSome size (last_of v vs) → FitsLine sum marks size device fault (v ∷ vs) reach pins H A f U
      → FitsLine sum marks size device fault (at_last sealed_now (v ∷ vs)) reach pins H A f U
  line_fits_sealed marks reach pins H A f U v vs its =
      let s : SegmentParts = (last_of v vs).parts in
      last_fits sum size device fault marks v vs s.bytes s.filled (sealed_also s) s.reserved sealed_now refl (segment_seals sum size device fault s its.short its.some its.are) (inl refl)
      reach pins H A f U

-- Their slots are the same.
pub slots_sealed : (size : ℕ) (line : List SegmentView) (log : List ℕ) (fault : Option IoError) (m : Machine) → HasSlots size line log fault m → HasSlots size (at_last sealed_now line) log fault m
slots_sealed size line log fault m slots = record {
  taken = All-at_last (HasSlot size m) sealed_now (λ v here. record { number = here.number; lies = here.lies; taken = here.taken; is = here.is }) line slots.taken;
  zeros = slots.zeros;
  own = subst (λ n. HaveOwn size n m) (sym (end_at_last size sealed_now (λ _. refl) line)) slots.own;
}

-- Tickets are for what they were for.
pub awaits_sealed : (v : SegmentView) (vs : List SegmentView) (ticket : Reservation) (m : Message) → AwaitsIn (v ∷ vs) ticket m → AwaitsIn (at_last sealed_now (v ∷ vs)) ticket m
awaits_sealed v vs ticket m awaits = elim (last_get_of sealed_now v vs awaits.number awaits.segment awaits.among) [
  | inl still ↦ record { number = awaits.number; segment = awaits.segment; among = still; reserved = awaits.reserved; numbered = awaits.numbered; there = awaits.there; own = awaits.own; message = awaits.message }
  | inr changed ↦ record { number = awaits.number; segment = sealed_now awaits.segment; among = changed.1; reserved = awaits.reserved; numbered = awaits.numbered; there = awaits.there; own = awaits.own; message = awaits.message }
]

-- As much is written.
kept_written : (v : SegmentView) (vs : List SegmentView) → written_to (at_last sealed_now (v ∷ vs)) ≡ written_to (v ∷ vs)
kept_written v [] = refl
kept_written v (w ∷ ws) = refl

-- A log whose current buffer was sealed.
module _ {D C : Type 0} (trace : D → Trace) (sum : List ℕ → ℕ) (old new : Log D C) (rest : ChangesLine old new) (line : line_of new ≡ at_last sealed_now (line_of old)) (some : holds_any (current_of old) ≡ true) where
  abbrev size : ℕ
  size = segment_size_of old

  abbrev v : SegmentView
  v = segment_view old.segments.first

  abbrev vs : List SegmentView
  vs = map segment_view old.segments.behind.items

  its : IsFilledSome size (current_of old)
  its = let f = current_facts old in let short = f.short in record { short = short; some = grind (arith, nat_tests, some); are = f.are }

  machine : machine_at new ≡ machine_at old
  machine = ap machine_of rest.accountant

  -- As much is written,
  pub sealed_synced : synced_end new ≡ synced_end old
  sealed_synced = ap written_to line ∙ kept_written v vs

  kept_noted : noted_in new ≡ noted_in old
  kept_noted = noted_same old new rest.noted sealed_synced

  pub sealed_same : KeepsAll old new
  sealed_same = record { config = rest.config; synced = sealed_synced; noted = kept_noted; kept = kept_same old new rest.noted; fault = rest.fault; pins = rest.pins; account = account_same old new rest.marks rest.pins }

  -- and the current segment is the same but for that.
  pub sealed_current : current_of new ≡ sealed_now (current_of old)
  sealed_current = ap (last_of v) line ∙ last_changed sealed_now v v vs

  pub sealed_position : SamePosition old new
  sealed_position = record {
    position = (λ i. position_in (size_same i) (sealed_current i) (machine i));
    reserved = rest.reserved;
    pins = rest.pins;
    joined = ap (λ (x : JoinedMarks). x.joined) rest.marks;
    size = size_same;
  } where
    size_same : segment_size_of new ≡ size
    size_same = ap (λ (x : RunningConfig D C). x.config.segment_size) rest.config

  pub sealed_with : is_short size (length (current_of old).parts.bytes) ≡ false → (m : Machine) → position_with new m ≡ position_sealed old m
  sealed_with room m =
      let w : SegmentView = current_of old in
      let here : Machine → Position = λ x. record { place = w.parts.site.place + length w.parts.bytes; begins = w.parts.site.place; slot = w.parts.site.slot; machine = x } in
      let sizes : segment_size_of new ≡ size = ap (λ (x : RunningConfig D C). x.config.segment_size) rest.config in
      (λ i. position_in (sizes i) (sealed_current i) m)
      ∙ ap (λ (o : Bool). if o then next_segment_at size w.parts.site.place m else here m) room
      ∙ sym (ap (λ (o : Bool). record (if o then next_segment_at size w.parts.site.place (machine_at old) else here (machine_at old)) { machine = m }) room)

  -- The current buffer begins behind all bytes now.
  pub sealed_begins : current_begin new ≡ (current_of old).parts.site.place + length (current_of old).parts.bytes
  sealed_begins =
      let w : SegmentView = current_of old in
      let end = end_one w.parts.written_len w.parts.sealed (seal_at (length w.parts.bytes) (drop (sealed_count w.parts.sealed) w.parts.reserved)) in
      ap (λ (x : SegmentView). x.parts.site.place + begin_of x) sealed_current ∙ ap (λ n. w.parts.site.place + n) end

  -- Tickets are for what they were for, the same reservations are open, and the same messages were given up,
  pub sealed_tickets : KeepsTickets old new
  sealed_tickets = record {
    awaits = λ ticket m awaits. subst (λ (l : List SegmentView). AwaitsIn l ticket (in_log m)) (sym line) (awaits_sealed v vs ticket (in_log m) awaits);
    opens = ap open_places_along line ∙ places_sealed v vs;
    given_up = among_same (given_up_of new) (given_up_of old) (ap given_up_along line ∙ given_sealed v vs);
  }

  -- no header is another that isn't on the device,
  pub sealed_heads : AreAmong (heads_of new) (heads_of old)
  sealed_heads = among_same (heads_of new) (heads_of old) (ap heads_along line ∙ heads_sealed v vs)

  -- nothing else fills a segment,
  pub sealed_fillings : AreAmong (fillings_of new) (fillings_of old)
  sealed_fillings = among_same (fillings_of new) (fillings_of old) (ap fillings_along line ∙ fillings_sealed v vs)

  -- the same counts for nothing in the log file,
  same_shown : ShowsSame size (machine_at old) (machine_at old) (line_of old) (at_last sealed_now (line_of old))
  same_shown log =
      let f = current_facts old in
      cleared_line size (machine_at old) (machine_at old) (line_of old) (at_last sealed_now (line_of old)) log (λ k. refl)
      (λ i. line_last size sealed_now v vs i (unwritten_sealed_now size (current_of old) i f.begins f.short))

  -- and the log holds and fits what it did.
  pub sealed_keeps : Preserves trace sum old new
  unfolding Holds Fits
  sealed_keeps = record {
    goes_on = goes_on_quietly trace sum old new (record { config = ap (λ (x : RunningConfig D C). x.config) rest.config; checksum = ap (λ (x : RunningConfig D C). x.checksum) rest.config })
        (ap (λ (x : RunningConfig D C). trace x.device) rest.config) (let same = sealed_synced in omega (arith, same)) (λ none. sym rest.fault ∙ none);
    history = λ H holds. holds_as trace sum old new rest.config rest.fault rest.marks (noted_in old) kept_noted (at_last sealed_now (line_of old)) line
        (machine_at old) machine same_shown holds.rests H
        (record {
          holds = line_sealed sum size (shown_of trace old) (fault_of old) _ (logged H) v vs its holds.shows.holds;
          batches = batches_up (written_to (line_of old)) (written_to (at_last sealed_now (line_of old))) (line_end size (line_of old)) (line_end size (at_last sealed_now (line_of old))) (noted_in old) (logged H) (let same = kept_written v vs in omega (arith, same))
              (let same = end_last size sealed_now (λ _. refl) v vs in omega (arith, same)) holds.shows.batches;
          slots = slots_sealed size (line_of old) (shown_of trace old).log.bytes (fault_of old) (machine_at old) holds.shows.slots;
        });
    fits = λ H A f U fits. fits_as trace sum old new rest.config rest.fault rest.marks (noted_in old) kept_noted (at_last sealed_now (line_of old)) line
        (machine_at old) machine same_shown fits.rests H A f U rest.pins
        (λ none zeros. from_as sum size (state_of (trace (device_of old))) (machine_at old) (machine_at old)
        (line_of old) (at_last sealed_now (line_of old)) (logged H) (λ k. refl) (λ k. refl)
        (same_shown (state_of (trace (device_of old))).log.bytes) (omega (arith, end_at_last size sealed_now (λ _. refl) (line_of old)))
        (fits.hides none zeros)) fits.marked
        (λ none. passed_up (written_to (line_of old)) (written_to (at_last sealed_now (line_of old))) (let same = kept_written v vs in omega (arith, same))
        H.batches sum (state_of (trace (device_of old))).snapshots.file old.marks (fits.passed none)) fits.clean
        (record {
          reach = fits.shows.reach;
          parts = line_fits_sealed sum size (shown_of trace old) (fault_of old) _ fits.shows.reach (pins_of old) H A f U v vs its fits.shows.parts;
          batches = batches_up (written_to (line_of old)) (written_to (at_last sealed_now (line_of old))) (line_end size (line_of old)) (line_end size (at_last sealed_now (line_of old))) (noted_in old) (logged H) (let same = kept_written v vs in omega (arith, same))
              (let same = end_last size sealed_now (λ _. refl) v vs in omega (arith, same)) fits.shows.batches;
          slots = slots_sealed size (line_of old) (shown_of trace old).log.bytes (fault_of old) (machine_at old) fits.shows.slots;
          whole = λ none zeros. subst (λ p. AreWhole sum size (shown_of trace old).log.bytes (logged H) p (machine_at old)) (sym (first_at_last sealed_now (λ _. refl) (line_of old))) (fits.shows.whole none zeros);
          own = λ none zeros. own_sealed sum size (HeaderWasPlaced (shown_of trace old).placed) (RecordWasPlaced sum size (shown_of trace old).placed) (shown_of trace old).log.bytes (line_of old) (fits.shows.own none zeros);
          account = fits.shows.account;
          numbers = λ zeros. subst (HasNumbers sum size (begins_from size old.marks.joined) (shown_of trace old) (machine_at old)) (sym (end_at_last size sealed_now (λ _. refl) (line_of old))) (fits.shows.numbers zeros);
          in_slots = fits.shows.in_slots;
        });
    noted = noted_later old new rest.noted (let same = sealed_synced in omega (arith, same));
    kept = kept_same old new rest.noted;
  }

  -- What it held that wasn't sealed is among the sealed buffers, where a further record has room behind it.
  module _ (room : is_short size (length (current_of old).parts.bytes) ≡ false) where
    as_it_is : as_sealed sum size (current_of old) ≡ sealed_now (current_of old)
    as_it_is = ap (λ b. if b then turned_now sum size (current_of old) else current_of old) some ∙ ap (λ b. if b then closed_now sum size (current_of old) else sealed_now (current_of old)) room

    pub sealed_waiting : waiting_of new ≡ buffers_of sum old
    sealed_waiting = ap unwritten line ∙ ap unwritten (sym (at_last_same (as_sealed sum size) sealed_now v vs as_it_is))

  nothing_more : as_sealed sum size (sealed_now (current_of old)) ≡ sealed_now (current_of old)
  nothing_more =
      let w : SegmentView = current_of old in
      let end = end_one w.parts.written_len w.parts.sealed (seal_at (length w.parts.bytes) (drop (sealed_count w.parts.sealed) w.parts.reserved)) in
      let none : holds_any (sealed_now w) ≡ false = grind (arith, nat_tests, end) in
      ap (λ b. if b then turned_now sum size (sealed_now w) else sealed_now w) none

  pub sealed_buffers : buffers_of sum new ≡ waiting_of new
  sealed_buffers =
      (λ i. unwritten (at_last (as_sealed sum (segment_size_same i)) (line i)))
      ∙ ap unwritten (at_last_twice sealed_now (as_sealed sum size) v vs)
      ∙ ap unwritten (at_last_same (λ x. as_sealed sum size (sealed_now x)) sealed_now v vs nothing_more)
      ∙ ap unwritten (sym line)
    where
      segment_size_same : segment_size_of new ≡ size
      segment_size_same = ap (λ (x : RunningConfig D C). x.config.segment_size) rest.config
