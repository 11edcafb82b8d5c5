-- The reservation of a ticket ends, whatever is written over the beginning of its record: what is seen of the log then, and what it holds and fits.
use Rattle.std.proofs.Common.{◌≡◌, ◌∙◌, ◌+◌, ◌-◌, ◌/◌, ◌≤◌, ap, sym, subst, ℕ, pos, false, List, length, set, Ok, Some, ◌<◌, ◌^◌, arith, to_z, of_z, w64, ℤ, None}
use lib.Signed.{mag}
use Rattle.std.specs.Prelude.{unsigned_abs}
use Rattle.std.specs.List.{slice_get}
use Rattle.sled_codec.specs.History.{History, Message}
use Rattle.sled_store.specs.Accounts.{machine_of}
use Rattle.sled_store.specs.Device.{Trace, state_of}
use Rattle.sled_core.specs.Pool.{Pool}
use Rattle.sled_core.specs.Among.{AreAmong}
use Rattle.sled_core.specs.Begun.{SegmentView}
use Rattle.sled_core.specs.Buffers.{open_state, padding_state}
use Rattle.sled_core.specs.declared.iobuf.ReservationState.{ReservationState}
use Rattle.sled_core.specs.declared.iobuf.Reserved.{Reserved}
use Rattle.sled_core.specs.declared.logger.Log.{Log}
use Rattle.sled_core.specs.declared.reservation.Reservation.{Reservation}
use Rattle.sled_core.specs.Endings.{EndsTicket}
use Rattle.sled_core.specs.Fillings.{fillings_along}
use Rattle.sled_core.specs.Fits.{Awaits, AwaitsIn, KeepsAll, fillings_of, given_up_of, heads_of, line_of, noted_in, open_places, synced_end}
use Rattle.sled_core.specs.GivenUp.{canceled_state, given_up_along}
use Rattle.sled_core.specs.Heads.{heads_along}
use Rattle.sled_core.specs.invariants.Fits.{Holds}
use Rattle.sled_core.specs.invariants.Running.{Fits}
use Rattle.sled_core.specs.inside.Fits.{HoldsWith}
use Rattle.sled_core.specs.inside.Running.{FitsWith}
use Rattle.sled_core.specs.Recoverable.{NoHeaderOfZeros}
use Rattle.sled_core.specs.inside.Hides.{HidesFrom}
use Rattle.sled_core.specs.inside.Shown.{RestsWhole, shown_of}
use Rattle.sled_core.specs.OpenBatches.{not_whole}
use Rattle.sled_core.specs.Keeps.{GoesOn, KeepsOthers}
use Rattle.sled_core.specs.Logged.{in_log, logged}
use Rattle.sled_core.specs.Manifests.{is_manifest}
use Rattle.sled_core.specs.OpenPlaces.{TakesOut, open_places_along}
use Rattle.sled_core.specs.Tickets.{IsFor, index_of, is_manifest_of, place_of}
use Rattle.sled_core.specs.inside.Turned.{ChangesLine, HasOpenIn, ended_now}
use Rattle.sled_core.proofs.Holds.Facts.{nth_facts}
use Rattle.sled_core.proofs.Line.EndedKeeps.{fits_ended, goes_on_ended, holds_ended, keeps_ended, left_ended, position_ended}
use Rattle.sled_core.proofs.Line.EndedTickets.{ended_fillings, ended_heads, ended_keeps_given, ended_takes, others_await, says_place, ticket_among, ticket_there}
use Rattle.sled_core.proofs.Line.LogSpans.{ended_buffers}
use Rattle.sled_core.proofs.Line.Moves.{LogFreesNothing, MarksPass, MarksStand}
use Rattle.sled_core.specs.LogSegments.{begins_from}

-- The reservation of a ticket, by numbers.
pub record IsReservedAt {D C : Type 0} (log : Log D C) (ticket : Reservation) (n index : ℕ) : Type 0 where
  pub segment : SegmentView
  pub reserved : Reserved
  pub among : slice_get (line_of log) n ≡ Some segment
  pub numbered : segment.gone ≤ index
  pub there : slice_get segment.parts.reserved (index - segment.gone) ≡ Some reserved
  pub own : IsFor segment.parts.site reserved ticket

-- It is that of a message which the ticket awaits.
abbrev pub reserved_at : {D C : Type 0} (log : Log D C) (ticket : Reservation) (m : Message) → Awaits log ticket m → (place n index : ℕ)
    → place ≡ unsigned_abs (place_of ticket) → n ≡ (place - log.segments.first.site.place) / log.config.config.segment_size → index ≡ index_of ticket
    → IsReservedAt log ticket n index
reserved_at log ticket m awaits place n index place_is n_is index_is = record {
  segment = awaits.segment;
  reserved = awaits.reserved;
  among = ticket_among log ticket m awaits place n index place_is n_is index_is;
  numbered = (let numbered = awaits.numbered in omega (arith, numbered, index_is));
  there = ticket_there log ticket m awaits place n index place_is n_is index_is;
  own = awaits.own;
}

-- Code finds it by the place that it reads of the ticket, and by its index.
abbrev pub found_at : {D C : Type 0} (log : Log D C) (ticket : Reservation) (m : Message) → Awaits log ticket m → (z : ℤ) {place n index : ℕ} → mag z < 2 ^ 63
    → z ≡ place_of ticket → place ≡ unsigned_abs (to_z w64 (of_z w64 z)) → n ≡ (place - log.segments.first.site.place) / log.config.config.segment_size
    → index ≡ index_of ticket → IsReservedAt log ticket n index
found_at log ticket m awaits z {place} {n} {index} small same read n_is index_is =
    reserved_at log ticket m awaits place n index (read ∙ says_place z (place_of ticket) small same) n_is index_is

-- It is open,
abbrev pub open_at : {D C : Type 0} (log : Log D C) (ticket : Reservation) {n index : ℕ} → IsReservedAt log ticket n index → HasOpenIn (line_of log) n index
open_at log ticket f = record { segment = f.segment; among = f.among; reserved = f.reserved; numbered = f.numbered; there = f.there; open_yet = f.own.open_yet }

-- it is whichever reservation is there,
module _ {D C : Type 0} (log : Log D C) (ticket : Reservation) (n index : ℕ) (f : IsReservedAt log ticket n index) (v : SegmentView) (r : Reserved)
    (among : slice_get (line_of log) n ≡ Some v) (there : slice_get v.parts.reserved (index - v.gone) ≡ Some r) where
  pub is_there : f.reserved ≡ r
  is_there =
      let both : Some f.segment ≡ Some v = sym f.among ∙ among in
      let same : f.segment ≡ v = cc in
      let both_there : Some f.reserved ≡ Some r = sym f.there ∙ ap (λ (x : SegmentView). slice_get x.parts.reserved (index - x.gone)) same ∙ there in
      cc

  -- and the ticket says whether that is of a manifest.
  pub kind_there : is_manifest r.log_kind r.page ≡ is_manifest_of ticket
  kind_there = ap (λ (x : Reserved). is_manifest x.log_kind x.page) (sym is_there) ∙ sym f.own.manifest

-- It has ended so, with this text over the beginning of its record.
pub record EndsAt {D C : Type 0} (old new : Log D C) (ticket : Reservation) (n index : ℕ) (state : ReservationState) : Type 0 where
  pub at : IsReservedAt old ticket n index
  pub text : List ℕ
  pub short : length text ≤ at.reserved.len
  pub line : line_of new ≡ set (line_of old) n (ended_now (index - at.segment.gone) at.reserved text state at.segment)

module _ {D C : Type 0} {old new : Log D C} {ticket : Reservation} {n index : ℕ} {state : ReservationState} (e : EndsAt old new ticket n index state) where
  abbrev v : SegmentView
  v = e.at.segment

  abbrev r : Reserved
  r = e.at.reserved

  abbrev i : ℕ
  i = index - e.at.segment.gone

  -- Its place isn't open any more,
  pub ticket_opens : open_state state ≡ false → (place : ℕ) → pos place ≡ place_of ticket → TakesOut place (open_places old) (open_places new)
  ticket_opens closed place is =
      let here : v.parts.site.place + r.from ≡ place = sym (ap unsigned_abs (is ∙ e.at.own.place)) in
      subst (λ (p : ℕ). TakesOut p (open_places old) (open_places new)) here
      (subst (λ (l : List SegmentView). TakesOut (v.parts.site.place + r.from) (open_places old) (open_places_along l)) (sym e.line)
      (ended_takes old.config.config.segment_size (line_of old) old.segments.first.site.place n v e.at.among (nth_facts old) i r e.at.there
      e.at.own.open_yet e.text e.short state closed))

  -- no message is given up that wasn't, unless it is its own,
  pub ticket_given : canceled_state state ≡ false → AreAmong (given_up_of new) (given_up_of old)
  ticket_given none =
      subst (λ (l : List SegmentView). AreAmong (given_up_along l) (given_up_of old)) (sym e.line)
      (ended_keeps_given old.config.config.segment_size (line_of old) old.segments.first.site.place n v e.at.among (nth_facts old) i r e.at.there
      e.at.own.open_yet e.text e.short state none)

  -- no header is another that isn't on the device,
  pub ticket_heads : AreAmong (heads_of new) (heads_of old)
  ticket_heads =
      subst (λ (l : List SegmentView). AreAmong (heads_along l) (heads_of old)) (sym e.line)
      (ended_heads old.config.config.segment_size (line_of old) old.segments.first.site.place n v e.at.among (nth_facts old) i r e.at.there
      e.at.own.open_yet e.text e.short state)

  -- nor does anything else fill a segment,
  pub ticket_fillings : padding_state state ≡ false → AreAmong (fillings_of new) (fillings_of old)
  ticket_fillings plain =
      subst (λ (l : List SegmentView). AreAmong (fillings_along l) (fillings_of old)) (sym e.line)
      (ended_fillings old.config.config.segment_size (line_of old) old.segments.first.site.place n v e.at.among (nth_facts old) i r e.at.there
      e.at.own.open_yet e.text e.short state plain)

  -- and other tickets are for what they were for.
  pub ticket_others : (trace : D → Trace) (sum : List ℕ → ℕ) → KeepsOthers trace sum ticket old new
  unfolding Holds
  ticket_others trace sum H other m holds awaits apart =
      subst (λ (l : List SegmentView). AwaitsIn l other (in_log m)) (sym e.line)
      (others_await old.config.config.segment_size (line_of old) old.segments.first.site.place n v e.at.among (nth_facts old) i r e.at.there
      e.at.own.open_yet e.text e.short state sum _ (shown_of trace old) old.fault.kept (logged H) holds.shows.holds ticket other (in_log m)
      e.at.own.place awaits apart)

  -- Where nothing else of the log changes, all is kept that isn't of its segment,
  module _ (rest : ChangesLine old new) where
    pub ticket_keeps : KeepsAll old new
    ticket_keeps = keeps_ended old new n v e.at.among i r e.at.there e.at.own.open_yet e.text e.short state e.line rest

    -- and of the batches those stay noted that a log notes.
    pub ticket_left : noted_in new ≡ not_whole (synced_end new) (noted_in old)
    ticket_left = left_ended old new n v e.at.among i r e.at.there e.at.own.open_yet e.text e.short state e.line rest

    module _ (trace : D → Trace) (sum : List ℕ → ℕ) where
      -- The log goes on,
      pub ticket_goes_on : GoesOn trace sum old new
      ticket_goes_on = goes_on_ended old new n v e.at.among i r e.at.there e.at.own.open_yet e.text e.short state e.line rest trace sum

      -- holds what the changed segments hold,
      pub ticket_holds : (H : History)
          → RestsWhole old.fault.kept (state_of (trace old.config.device)).log
          → HoldsWith sum old.marks (noted_in old) old.config.config.segment_size (shown_of trace old) old.fault.kept
          (set (line_of old) n (ended_now i r e.text state v)) (machine_of old.accountant) (logged H)
          → Holds trace sum new H
      ticket_holds = holds_ended old new n v e.at.among i r e.at.there e.at.own.open_yet e.text e.short state e.line rest trace sum

      -- and fits what they fit.
      pub ticket_fits : (H : History) (A f : ℕ) (U : List Message)
          → (old.fault.kept ≡ None → NoHeaderOfZeros sum → HidesFrom sum old.config.config.segment_size (begins_from old.config.config.segment_size old.marks.joined) (state_of (trace old.config.device))
          (machine_of old.accountant) (line_of old) (logged H))
          → MarksStand trace sum old
          → MarksPass trace sum old (line_of old) H
          → LogFreesNothing trace old (machine_of old.accountant) f
          → RestsWhole old.fault.kept (state_of (trace old.config.device)).log
          → FitsWith sum old.marks (noted_in old) old.config.config.segment_size (shown_of trace old) old.fault.kept
          (set (line_of old) n (ended_now i r e.text state v)) (machine_of old.accountant) old.pins H A f U
          → Fits trace sum new H A f U
      ticket_fits = fits_ended old new n v e.at.among i r e.at.there e.at.own.open_yet e.text e.short state e.line rest trace sum

      -- A call that answers so has ended the ticket.
      pub ticket_ends : {T : Type 0} (answer : T) → open_state state ≡ false → padding_state state ≡ false → EndsTicket trace sum (Ok answer) ticket old new
      ticket_ends answer closed plain = record {
        others = ticket_others trace sum;
        opens = ticket_opens closed;
        position = position_ended old new n v e.at.among i r e.at.there e.at.own.open_yet e.text e.short state e.line rest;
        buffers = ended_buffers old new n v i r e.text state e.at.among e.line;
        heads = ticket_heads;
        fillings = ticket_fillings plain;
        machine = ap machine_of rest.accountant;
        pooled = ap (λ (x : Pool). x.count) rest.pool;
      }
