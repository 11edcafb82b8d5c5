-- The manifest of a ticket ends, and its batch is noted: what is seen of the log then, and that it holds and fits the history with the batch.
use Rattle.std.proofs.Common.{◌≡◌, ◌∙◌, ◌⊎◌, ◌≤◌, ◌<◌, ◌+◌, ◌-◌, ◌*◌, ◌<ℤ◌, ap, sym, refl, arith, subst, inl, inr, ℕ, pos, Bool, true, List, length, map, set, None, Some}
use Rattle.std.specs.Prelude.{int_lt, unsigned_abs, if◌then◌else◌}
use Rattle.std.specs.List.{Contains, slice_get}
use Rattle.std.proofs.lemmas.Int.{ints}
use Rattle.sled_codec.specs.History.{AddsBatch, Batch, Batched, History, Message, Step}
use Rattle.sled_store.specs.Accounts.{machine_of}
use Rattle.sled_store.specs.Device.{Trace, state_of}
use Rattle.sled_store.specs.declared.config.RunningConfig.{RunningConfig}
use Rattle.sled_core.specs.Pool.{Pool}
use Rattle.sled_core.specs.Batches.{LiesInNoFilling, NotesBatchOf, batch_for}
use Rattle.sled_core.specs.Begun.{SegmentView, line_in, segment_view}
use Rattle.sled_core.specs.inside.Buffers.{IsHeaded, marking}
use Rattle.sled_core.specs.declared.iobuf.ReservationState.TheVariants.{Manifest}
use Rattle.sled_core.specs.declared.iobuf.Reserved.{Reserved}
use Rattle.sled_core.specs.declared.logger.Log.{Log}
use Rattle.sled_core.specs.declared.logger.joined_marks.JoinedMarks.{JoinedMarks}
use Rattle.sled_core.specs.declared.reservation.Reservation.{Reservation}
use Rattle.sled_core.specs.Fits.{KeepsAll, KeepsBuffers, config_of, current_of, fault_of, fillings_of, given_up_of, kept_batches, line_of, machine_at, pooled_of, noted_in, open_places, reserved_end, synced_end, heads_of}
use Rattle.sled_core.specs.invariants.Fits.{Holds}
use Rattle.sled_core.specs.Among.{AreAmong}
use Rattle.sled_core.specs.Keeps.{GoesOn, KeepsOthers, SamePosition}
use Rattle.sled_core.specs.Logged.{logged}
use Rattle.sled_core.specs.Manifests.{is_manifest}
use Rattle.sled_core.specs.OpenBatches.{stable_below, with_batch}
use Rattle.sled_core.specs.OpenPlaces.{TakesOut}
use Rattle.sled_core.specs.Positions.{position_in}
use Rattle.sled_core.specs.invariants.Running.{Fits}
use Rattle.sled_core.specs.Tickets.{is_manifest_of, place_of}
use Rattle.sled_core.specs.inside.Shown.{shown_of}
use Rattle.sled_core.specs.inside.Turned.{ChangesLine, NotesBatch, ended_now}
use Rattle.sled_core.specs.Waiting.{last_of, spans, start_in, unwritten}
use Rattle.sled_core.proofs.Line.FirstHoldsMarked.{noted_adds, noted_history}
use Rattle.sled_core.proofs.Cleared.Calls.{cleared_ended}
use Rattle.sled_core.proofs.Cleared.Shown.{ShowsSame, shown_bytes}
use Rattle.sled_core.proofs.Line.AccountBehind.{account_same}
use Rattle.sled_core.proofs.Line.KeptCalls.{goes_on_quietly, position_further}
use Rattle.sled_core.proofs.Line.EndedKeeps.{keeps_ended, position_ended}
use Rattle.sled_core.proofs.Line.EndedLine.{marking_short}
use Rattle.sled_core.proofs.Line.EndsBatch.{fits_noted, grows_noted, holds_noted}
use Rattle.sled_core.proofs.Line.EntryPlaces.{line_unwritten}
use Rattle.sled_core.proofs.Holds.Facts.{IsSegment, nth_facts}
use Rattle.sled_core.proofs.Line.Fillings.{log_off}
use Rattle.sled_core.proofs.Line.HidesBeyond.{hides_beyond}
use Rattle.sled_core.proofs.Line.LogSpans.{ended_buffers}
use Rattle.sled_core.proofs.Line.LineEnds.{end_set}
use Rattle.sled_core.proofs.Numbers.HidesAs.{from_as}
use Rattle.sled_core.proofs.Line.Moves.{fits_as, holds_as}
use Rattle.sled_core.proofs.Line.PassedMarks.{passed_further}
use Rattle.sled_core.proofs.Line.Ends.{written_set}
use Rattle.sled_core.proofs.Reached.AddedBatch.{was_or_batch}
use Rattle.sled_core.specs.inside.Fits.{written_to}
use Rattle.sled_core.proofs.Reached.ByPlace.{stable_with_batch}
use Rattle.sled_core.proofs.Reserve.Ranges.{at_there}
use Rattle.sled_core.proofs.Line.Places.{reserved_ends, reserved_in_reach}
use Rattle.sled_core.proofs.Line.TicketEnds.{EndsAt, IsReservedAt, is_there, ticket_fillings, ticket_given, ticket_heads, ticket_opens, ticket_others}
use Rattle.sled_core.specs.inside.MarksFit.{MarksFitFrom}

-- A log has noted a batch, and is otherwise what it was.
module _ {D C : Type 0} (mid new : Log D C) (rest : NotesBatch mid new) where
  -- Its segments lie where they lay, with what they had,
  pub noted_line : line_of new ≡ line_of mid
  noted_line = λ i. line_in (rest.segments i)

  noted_current : current_of new ≡ current_of mid
  noted_current = λ i. last_of (segment_view (rest.segments i).first) (map segment_view (rest.segments i).behind.items)

  pub noted_synced : synced_end new ≡ synced_end mid
  noted_synced = λ i. (rest.segments i).first.site.place + (rest.segments i).first.buffer.written_len

  -- the next record begins where it would have begun,
  pub noted_position : SamePosition mid new
  noted_position = record {
    position = λ i. position_in (rest.config i).config.segment_size (noted_current i) (machine_of (rest.accountant i));
    reserved = rest.reserved;
    pins = rest.pins;
    joined = ap (λ (x : JoinedMarks). x.joined) rest.marks;
    size = ap (λ (c : RunningConfig D C). c.config.segment_size) rest.config;
  }

  -- its buffers are the same,
  pub noted_buffers : KeepsBuffers mid new
  noted_buffers = record { waiting = ap (λ (l : List SegmentView). spans (unwritten l)) noted_line; start = ap start_in noted_current }

-- A manifest has 8 bytes behind its header.
module _ {D C : Type 0} (log : Log D C) (ticket : Reservation) (n index : ℕ) (f : IsReservedAt log ticket n index) (manifest : is_manifest_of ticket ≡ true) where
  pub of_manifest : is_manifest f.reserved.log_kind f.reserved.page ≡ true
  of_manifest = sym f.own.manifest ∙ manifest

  pub manifest_body : f.reserved.len ≡ f.reserved.header_len + 8
  manifest_body = (at_there IsHeaded f.segment.parts.reserved (index - f.segment.gone) f.reserved f.there (nth_facts log n f.segment f.among).headed).2 of_manifest

  -- whichever reservation is there
  pub body_there : (v : SegmentView) (r : Reserved) → slice_get (line_of log) n ≡ Some v → slice_get v.parts.reserved (index - v.gone) ≡ Some r → r.len ≡ r.header_len + 8
  body_there v r among there = subst (λ (x : Reserved). x.len ≡ x.header_len + 8) (is_there log ticket n index f v r among there) manifest_body

-- What is seen of a log whose batch was noted: the manifest isn't open any more, and all else is as it was.
pub record IsBatchNoted {D C : Type 0} (trace : D → Trace) (sum : List ℕ → ℕ) (old new : Log D C) (ticket : Reservation) (peg : ℕ) : Type 0 where
  pub same : NotesBatchOf ticket (pos peg) old new
  pub position : SamePosition old new
  pub buffers : KeepsBuffers old new
  pub goes_on : GoesOn trace sum old new
  pub opens : (place : ℕ) → pos place ≡ place_of ticket → TakesOut place (open_places old) (open_places new)
  pub given_up : AreAmong (given_up_of new) (given_up_of old)
  pub heads : AreAmong (heads_of new) (heads_of old)
  pub fillings : AreAmong (fillings_of new) (fillings_of old)
  pub others : KeepsOthers trace sum ticket old new
  pub machine : machine_at new ≡ machine_at old
  pub pooled : pooled_of new ≡ pooled_of old

-- It ends with a peg, and then the batch is noted.
module _ {D C : Type 0} (trace : D → Trace) (sum : List ℕ → ℕ) (old mid new : Log D C) (ticket : Reservation) (n index : ℕ) (f : IsReservedAt old ticket n index) (manifest : is_manifest_of ticket ≡ true) (peg : ℕ)
    (line : line_of mid ≡ set (line_of old) n (ended_now (index - f.segment.gone) f.reserved (marking sum f.segment.parts.bytes f.reserved peg) Manifest f.segment)) (ended : ChangesLine old mid) where
  abbrev v : SegmentView
  v = f.segment

  abbrev r : Reserved
  r = f.reserved

  abbrev i : ℕ
  i = index - f.segment.gone

  facts : IsSegment old.config.config.segment_size (old.segments.first.site.place + n * old.config.config.segment_size) f.segment
  facts = nth_facts old n f.segment f.among

  short : length (marking sum f.segment.parts.bytes f.reserved peg) ≤ f.reserved.len
  short = marking_short sum v i r peg facts f.there f.own.open_yet (manifest_body old ticket n index f manifest)

  ended_same : KeepsAll old mid
  ended_same = keeps_ended old mid n v f.among i r f.there f.own.open_yet (marking sum v.parts.bytes r peg) short Manifest line ended

  low_unwritten : synced_end old ≤ v.parts.site.place + r.from
  low_unwritten = line_unwritten old.config.config.segment_size v i r f.there facts (line_of old) n old.segments.first.site.place f.among (nth_facts old)

  -- The batch begins behind what is written, ends no further in front than there, and has no place in common with those that were noted.
  module _ (low : ℕ) (low_is : low ≡ unsigned_abs (place_of ticket)) where
    low_here : low ≡ v.parts.site.place + r.from
    low_here = low_is ∙ ap unsigned_abs f.own.place

    pub note_unwritten : synced_end mid ≤ low
    note_unwritten = let past = low_unwritten in let here = low_here in let same = ended_same.synced in omega (arith, past, here, same)

    pub note_above : place_of ticket <ℤ pos peg → low ≤ peg
    note_above above = let at = f.own.place in let here = low_here in omega (arith, ints, at, here, above)

    pub note_apart : ((b : Batch) → Contains (noted_in old) b → (pos b.peg <ℤ place_of ticket) ⊎ (peg < b.low)) → (b : Batch) → Contains (noted_in mid) b → (b.peg < low) ⊎ (peg < b.low)
    note_apart apart b known = elim (apart b (subst (λ (l : List Batch). Contains l b) ended_same.noted known)) [
      | inl front ↦ (let at = f.own.place in let here = low_here in inl (omega (arith, ints, at, here, front)))
      | inr behind ↦ inr behind
    ]

  module _ (rest : NotesBatch mid new) (low : ℕ) (low_is : low ≡ unsigned_abs (place_of ticket)) (noted : noted_in new ≡ with_batch (record { low = low; peg = peg }) (noted_in mid)) (above : place_of ticket <ℤ pos peg) where
    begins : low ≡ v.parts.site.place + r.from
    begins = low_is ∙ ap unsigned_abs f.own.place

    later : v.parts.site.place + r.from < peg
    later = let at = f.own.place in omega (arith, ints, at, above)

    now_synced : synced_end new ≡ synced_end old
    now_synced = noted_synced mid new rest ∙ ended_same.synced

    now_ended : EndsAt old new ticket n index Manifest
    now_ended = record { at = f; text = marking sum v.parts.bytes r peg; short = short; line = noted_line mid new rest ∙ line }

    now_config : config_of new ≡ config_of old
    now_config = rest.config ∙ ended.config

    -- The batch is noted,
    now_noted : noted_in new ≡ with_batch (record { low = v.parts.site.place + r.from; peg = peg }) (noted_in old)
    now_noted = noted ∙ (λ j. with_batch (record { low = begins j; peg = peg }) (ended_same.noted j))

    goes_up : int_lt (place_of ticket) (pos peg) ≡ true
    goes_up = grind (arith, ints, above)

    batch_same : kept_batches new ≤ 2 * length (noted_in new) → NotesBatchOf ticket (pos peg) old new
    batch_same few = record {
      config = now_config;
      synced = now_synced;
      noted = now_noted ∙ (λ j. with_batch (record { low = (sym begins ∙ low_is) j; peg = peg }) (noted_in old)) ∙ sym (ap (λ (o : Bool). if o then with_batch (batch_for ticket (pos peg)) (noted_in old) else noted_in old) goes_up);
      stable = (λ j. stable_below (now_synced j) (now_noted j)) ∙ stable_with_batch (synced_end old) (noted_in old) (record { low = v.parts.site.place + r.from; peg = peg }) low_unwritten;
      fault = rest.fault ∙ ended.fault;
      pins = rest.pins ∙ ended.pins;
      account = account_same old new (rest.marks ∙ ended.marks) (rest.pins ∙ ended.pins);
      few = λ later. few;
    }

    batch_position : SamePosition old new
    batch_position = position_further old mid new (position_ended old mid n v f.among i r f.there f.own.open_yet (marking sum v.parts.bytes r peg) short Manifest line ended) (noted_position mid new rest)

    batch_buffers : KeepsBuffers old new
    batch_buffers =
        let one = ended_buffers old mid n v i r (marking sum v.parts.bytes r peg) Manifest f.among line in
        let other = noted_buffers mid new rest in
        record { waiting = other.waiting ∙ one.waiting; start = other.start ∙ one.start }

    batch_goes_on : GoesOn trace sum old new
    batch_goes_on = goes_on_quietly trace sum old new (record { config = ap (λ (c : RunningConfig D C). c.config) now_config; checksum = ap (λ (c : RunningConfig D C). c.checksum) now_config })
        (ap (λ (c : RunningConfig D C). trace c.device) now_config) (let same = now_synced in omega (arith, same)) (λ none. sym (rest.fault ∙ ended.fault) ∙ none)

    -- the reservation isn't open any more, and the others are for what they were for,
    batch_opens : (place : ℕ) → pos place ≡ place_of ticket → TakesOut place (open_places old) (open_places new)
    batch_opens place is = ticket_opens now_ended refl place is

    batch_given : AreAmong (given_up_of new) (given_up_of old)
    batch_given = ticket_given now_ended refl

    batch_heads : AreAmong (heads_of new) (heads_of old)
    batch_heads = ticket_heads now_ended

    batch_fillings : AreAmong (fillings_of new) (fillings_of old)
    batch_fillings = ticket_fillings now_ended refl

    batch_others : KeepsOthers trace sum ticket old new
    batch_others = ticket_others now_ended trace sum

    -- so much is seen,
    pub batch_seen : kept_batches new ≤ 2 * length (noted_in new) → IsBatchNoted trace sum old new ticket peg
    batch_seen few = record { same = batch_same few; position = batch_position; buffers = batch_buffers; goes_on = batch_goes_on; opens = batch_opens; given_up = batch_given; heads = batch_heads; fillings = batch_fillings; others = batch_others; machine = ap machine_of (rest.accountant ∙ ended.accountant); pooled = ap (λ (x : Pool). x.count) (rest.pool ∙ ended.pool) }

    -- The same counts for nothing in the log file,
    same_shown : ShowsSame old.config.config.segment_size (machine_of old.accountant) (machine_of old.accountant) (line_of old)
        (set (line_of old) n (ended_now i r (marking sum v.parts.bytes r peg) Manifest v))
    same_shown log =
        cleared_ended old.config.config.segment_size (machine_of old.accountant) log (line_of old) n v i r (marking sum v.parts.bytes r peg) Manifest f.among

    -- and the log holds the history with the batch,
    pub batch_holds : peg < reserved_end old → ((b : Batch) → Contains (noted_in old) b → (pos b.peg <ℤ place_of ticket) ⊎ (peg < b.low)) → LiesInNoFilling old.config.config.segment_size (line_of old) (pos peg) → (H : History) → Holds trace sum old H
        → (H' : History) × Step H (Batched (batch_for ticket (pos peg))) H' × Holds trace sum new H'
    unfolding Holds Step
    batch_holds within apart lies H holds =
        let b : Batch = record { low = v.parts.site.place + r.from; peg = peg } in
        let at = f.own.place in
        let reach = reserved_in_reach old in
        let ends = reserved_ends old in
        let now = holds_noted sum old.config.config.segment_size (shown_of trace old) old.fault.kept (line_of old) n v f.among old.segments.first.site.place (nth_facts old) i r f.there f.own.open_yet (of_manifest old ticket n index f manifest) peg (omega (arith, within, reach)) later (omega (arith, within, ends)) (machine_of old.accountant) (noted_in old)
        (λ c known. elim (apart c known) [ inl front ↦ inl (omega (arith, ints, front, at)) | inr behind ↦ inr behind ]) (logged H) (log_off old peg within lies) holds.shows in (
          noted_history H b,
          subst (λ (x : Batch). AddsBatch H x (noted_history H b)) (λ j. record { low = (sym begins ∙ low_is) j; peg = peg }) (noted_adds H b later),
          holds_as trace sum old new now_config (rest.fault ∙ ended.fault) (rest.marks ∙ ended.marks) (with_batch b (noted_in old)) now_noted (set (line_of old) n (ended_now i r (marking sum v.parts.bytes r peg) Manifest v)) (noted_line mid new rest ∙ line) (machine_of old.accountant)
              (ap machine_of (rest.accountant ∙ ended.accountant)) same_shown holds.rests (noted_history H b) now,
        )

    -- and fits it.
    pub batch_fits : fault_of old ≡ None → peg < reserved_end old → ((b : Batch) → Contains (noted_in old) b → (pos b.peg <ℤ place_of ticket) ⊎ (peg < b.low)) → LiesInNoFilling old.config.config.segment_size (line_of old) (pos peg) → (H : History) (A f' : ℕ) (U : List Message) → Fits trace sum old H A f' U
        → (H' : History) × Step H (Batched (batch_for ticket (pos peg))) H' × Fits trace sum new H' A f' U
    unfolding Fits Step
    batch_fits none within apart lies H A f' U fits =
        let b : Batch = record { low = v.parts.site.place + r.from; peg = peg } in
        let size : ℕ = old.config.config.segment_size in
        let at = f.own.place in
        let reach = reserved_in_reach old in
        let ends = reserved_ends old in
        let now = fits_noted sum size (shown_of trace old) old.fault.kept (line_of old) n v f.among old.segments.first.site.place (nth_facts old) i r f.there f.own.open_yet (of_manifest old ticket n index f manifest) peg (omega (arith, within, reach)) later (omega (arith, within, ends)) (machine_of old.accountant) (noted_in old)
        (λ c known. elim (apart c known) [ inl front ↦ inl (omega (arith, ints, front, at)) | inr behind ↦ inr behind ]) old.pins H A f' U old.config.config.least none (log_off old peg within lies) old.marks
        (λ zeros. subst (λ (l : List ℕ). MarksFitFrom sum size (state_of (trace old.config.device)).snapshots.file l old.marks)
        (sym (shown_bytes size old.fault.kept (machine_of old.accountant) (line_of old) (state_of (trace old.config.device)) none)) (fits.marked none zeros))
        fits.shows in (
          noted_history H b,
          subst (λ (x : Batch). AddsBatch H x (noted_history H b)) (λ j. record { low = (sym begins ∙ low_is) j; peg = peg }) (noted_adds H b later),
          fits_as trace sum old new now_config (rest.fault ∙ ended.fault) (rest.marks ∙ ended.marks) (with_batch b (noted_in old)) now_noted (set (line_of old) n (ended_now i r (marking sum v.parts.bytes r peg) Manifest v)) (noted_line mid new rest ∙ line) (machine_of old.accountant)
              (ap machine_of (rest.accountant ∙ ended.accountant)) same_shown fits.rests (noted_history H b) A f' U (rest.pins ∙ ended.pins)
              (λ whole zeros. from_as sum size
              (state_of (trace old.config.device)) (machine_of old.accountant) (machine_of old.accountant)
              (line_of old) (set (line_of old) n (ended_now i r (marking sum v.parts.bytes r peg) Manifest v)) (logged (noted_history H b))
              (λ j. refl) (λ j. refl) (same_shown (state_of (trace old.config.device)).log.bytes)
              (omega (arith, end_set size (line_of old) n v (ended_now i r (marking sum v.parts.bytes r peg) Manifest v) f.among refl))
              (hides_beyond sum old.marks (noted_in old) size old.config.config.least (state_of (trace old.config.device)) old.fault.kept (line_of old)
              (machine_of old.accountant) old.pins H A f' U fits (noted_history H b)
              (grows_noted sum size (shown_of trace old) old.fault.kept (line_of old) n v f.among old.segments.first.site.place (nth_facts old) i r f.there f.own.open_yet
              (of_manifest old ticket n index f manifest) peg (omega (arith, within, reach)) later (omega (arith, within, ends)) (machine_of old.accountant) (noted_in old)
              (λ c known. elim (apart c known) [ inl front ↦ inl (omega (arith, ints, front, at)) | inr behind ↦ inr behind ]) (logged H)) whole zeros)) fits.marked
              (λ whole. passed_further (written_to (line_of old))
              (written_to (set (line_of old) n (ended_now i r (marking sum v.parts.bytes r peg) Manifest v)))
              (let same = written_set (line_of old) n v (ended_now i r (marking sum v.parts.bytes r peg) Manifest v) f.among (λ j. v.parts.site)
              (λ j. v.parts.written_len) in omega (arith, same))
              H.batches (noted_history H b).batches
              (λ c there. elim (was_or_batch H (noted_history H b) b (noted_adds H b later) c there) [
                | inl was ↦ inl was
                | inr own ↦ inr (let low = low_unwritten in let same = ap (λ (d : Batch). d.low) own in omega (arith, low, same))
              ])
              sum (state_of (trace old.config.device)).snapshots.file old.marks (fits.passed whole)) fits.clean now,
        )
