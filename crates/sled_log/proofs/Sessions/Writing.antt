-- What writing buffers comes to in a session: what is seen of those that are written and of those that are left, what holds them up, and where the run stands then.
use Rattle.std.proofs.Common.{◌≡◌, ◌∙◌, ◌≤◌, ◌<◌, ◌+◌, ◌-◌, ◌/◌, ◌^◌, ◌⊎◌, inl, inr, nat_lt, if◌then◌else◌, max, ℕ, zero, suc, Bool, true, false, List, [], ◌∷◌, ◌++◌, length, map, take, Option, None, Some, ap, sym, subst, refl, arith}
use Rattle.std.specs.Prelude.{Err}
use Rattle.std.specs.List.{All, Contains, slice_get}
use Rattle.std.specs.declared.io.Error.{Error as IoError}
use Rattle.std.proofs.lemmas.Bool.Decides.{nat_tests}
use Rattle.std.proofs.lemmas.Bool.{cases_lt}
use Rattle.std.proofs.lemmas.List.Elements.{All-weaker}
use Rattle.sled_codec.specs.declared.result.Error.{Error}
use Rattle.sled_codec.specs.declared.result.Error.TheVariants as error
use Rattle.sled_codec.specs.History.{Batch, History, Message}
use Rattle.sled_codec.specs.Record.{short_record}
use Rattle.sled_store.specs.Accounts.{machine_of}
use Rattle.sled_store.specs.Blobs.{UnlessFault}
use Rattle.sled_store.specs.Device.{Event, Synced, Trace}
use Rattle.sled_store.specs.Script.{Performs, after_all}
use Rattle.sled_core.specs.Account.{account_of}
use Rattle.sled_core.specs.Among.{AreAmong}
use Rattle.sled_core.specs.Begun.{segment_view}
use Rattle.sled_core.specs.Causes.{Answers, HeldAnswers, IsHeld, OnDone}
use Rattle.sled_core.specs.declared.logger.Log.{Log}
use Rattle.sled_core.specs.Fillings.{FillingAt}
use Rattle.sled_core.specs.Fits.{IsUsedUp, IsUsedUpBelow, KeepsTickets, buffers_of, current_begin, current_of, fault_of, fillings_of, given_up_of, heads_of, held_len, holding_below, ledger_for, ledger_of, machine_at, noted_in, open_places, pending_of, pins_of, reserved_end, sealing_end, segment_size_of, stable_end, start_of, synced_end, waiting_of, writing_below, writing_some, device_of}
use Rattle.sled_core.specs.Freeing.{Ledger}
use Rattle.sled_core.specs.Fronts.{CameTo, synced_writes, syncs}
use Rattle.sled_core.specs.Heads.{HeadAt}
use Rattle.sled_core.specs.Keeps.{KeepsWriting, sealed_for}
use Rattle.sled_core.specs.Ledger.{ledger_behind, writings}
use Rattle.sled_core.specs.OpenBatches.{not_whole}
use Rattle.sled_core.specs.Positions.{next_segment_at, is_short}
use Rattle.sled_core.specs.invariants.Running.{Fits}
use Rattle.sled_core.specs.Running.{IsStored, end_below}
use Rattle.sled_core.specs.Waiting.{BufferAt, HasLength, Span, free_below, spans}
use Rattle.sled_core.specs.WholeBuffers.{AreRecordsAmong, IsWholeBuffer, RecordParts}
use Rattle.sled_core.specs.LogStatus.{LogStatus, current_span, failing, ledger_below, sealed_below, stable_in, status_below, status_of, wrote_front}
use Rattle.sled_core.specs.Spans.{held_among, spans_below}
use Rattle.sled_core.proofs.Line.Among.{among_behind}
use Rattle.sled_core.proofs.Line.Current.{current_free}
use Rattle.sled_core.proofs.Holds.Facts.{current_facts}
use Rattle.sled_core.proofs.Line.Segments.{line_segments}
use Rattle.sled_core.proofs.PublicLaws.{buffers_whole, fits_holds, shows_current, shows_empty, shows_long}
use Rattle.sled_core.proofs.Reached.OpenBatch.{whole_not}
use Rattle.sled_log.specs.declared.session.opened.Opened.{Opened}
use Rattle.sled_log.specs.declared.session.marking.Due.{Due}
use Rattle.sled_log.specs.declared.session.command.Refusal.{Refusal}
use Rattle.sled_log.specs.Refusals.{when}
use Rattle.sled_log.specs.RunPhases.{AreUnmarked, HasHeads, IsOpenAt, IsTicketFor, Unstored, seen_log, seen}
use Rattle.sled_log.specs.RunStates.{DeviceView, DueMark, EndsInReach, LogView, MarkAt, RunState, heads_at, open_messages, pending_in_view, with_status, with_log}
use Rattle.sled_log.specs.WriteSteps.{FailsTo, HasWrittenTo, IfHeld, IsWhy, KeepsFailing, ShowsBuffers, filled_by, fillings_seen, headed, holding, stable_from, synced_from}
use Rattle.sled_log.proofs.Sessions.BegunHeads.{HasOnlyBegun, heads_kept, heads_still}
use Rattle.sled_core.proofs.Line.StatusSeen.{IsHeldBy, all_held, below_front, below_held, count_seen, ledger_below_seen, sealed_seen, sealed_too, shows_current, span_seen, waiting_held}
use Rattle.sled_log.proofs.Sessions.FailedSteps.{step_failed}

-- What was reserved of a log ends there, tickets are for what they were for, and as many pins are out. While one is no crash takes an item that none took.
pub record StaysPut {D C : Type 0} (trace : D → Trace) (sum : List ℕ → ℕ) (old new : Log D C) : Type 0 where
  pub tickets : KeepsTickets old new
  pub reserved : reserved_end new ≡ reserved_end old
  pub opens : open_places new ≡ open_places old
  -- of the batches those are left that aren't wholly on the device
  pub noted : noted_in new ≡ not_whole (synced_end new) (noted_in old)
  pub pins : pins_of new ≡ pins_of old
  pub size : segment_size_of new ≡ segment_size_of old
  -- a log that keeps no failure kept none
  pub sound : fault_of new ≡ None → fault_of old ≡ None
  pub items : fault_of new ≡ None → (m : Message) → 0 < pins_of old → IsStored trace sum old m → IsStored trace sum new m

-- So it is with a call that writes.
pub put_writing : {D C : Type 0} (trace : D → Trace) (sum : List ℕ → ℕ) (old new : Log D C) → KeepsWriting trace sum old new → StaysPut trace sum old new
put_writing trace sum old new keeps = record {
  tickets = keeps.tickets;
  reserved = keeps.position.reserved;
  opens = keeps.tickets.opens;
  noted = keeps.preserves.noted;
  pins = keeps.position.pins;
  size = keeps.position.size;
  sound = keeps.preserves.goes_on.sound;
  items = λ none m out. keeps.preserves.goes_on.items none m (inl out);
}

-- A buffer that is whole where these were given up is where more were.
more_records : (sum : List ℕ → ℕ) (number : ℕ) (these all : List Message) → AreAmong these all → (place : ℕ) (rs : List RecordParts) → AreRecordsAmong sum number these place rs → AreRecordsAmong sum number all place rs
more_records sum number these all among place [] are = tt
more_records sum number these all among place (r ∷ rs) are = (
  (are.0.0, are.0.1, are.0.2, λ is. (let one = are.0.3 is in (one.0, among one.0 one.1, one.2, one.3, one.4))),
  more_records sum number these all among (place + length (short_record sum r.kind r.page number r.body)) rs are.1,
)

more_given : (sum : List ℕ → ℕ) (size : ℕ) (these all : List Message) (fewer heads : List HeadAt) (few fillings : List FillingAt) (b : BufferAt) → AreAmong these all → AreAmong fewer heads → AreAmong few fillings → IsWholeBuffer sum size these fewer few b → IsWholeBuffer sum size all heads fillings b
more_given sum size these all fewer heads few fillings b among further fills is =
    let whole = is.0 in (
      record {
        head = whole.head;
        records = whole.records;
        rest = whole.rest;
        is = whole.is;
        headed = elim whole.headed [
          | inl first ↦ inl (first.0, further (record { place = b.place; bytes = whole.head }) first.1, first.2, first.3, first.4)
          | inr behind ↦ inr behind
        ];
        each = more_records sum (b.place / size) these all among (b.place + length whole.head) whole.records whole.each;
        filled = elim whole.filled [ inl none ↦ inl none | inr some ↦ inr (some.0, some.1, fills _ some.2) ];
      },
      is.1,
    )

-- what fills the segments of a log, with the current one as it would be sealed, where these buffers were begun
abbrev pub fillings_with : {D C : Type 0} → Log D C → List MarkAt → List FillingAt
fillings_with log heads = record { next = sealing_end log; from = reserved_end log } ∷ map filled_by heads

-- Each buffer of a log that nothing holds up is whole records, those of messages that were given up with the bodies of these, and headers with the marks that
-- their segments were begun with, and what fills the one in front of those from where what was reserved ended,
abbrev pub AreWhole : {D C : Type 0} → (List ℕ → ℕ) → Log D C → List Message → List MarkAt → Type 0
AreWhole sum log given_up heads = All (λ b. b.held ≡ None → IsWholeBuffer sum (segment_size_of log) given_up (map (headed sum) heads) (fillings_with log heads) b) (buffers_of sum log)

-- where it fits a history and keeps no failure, what it counts as given up was, and its headers and fillings that aren't on the device were begun so.
pub whole_of : {D C : Type 0} (trace : D → Trace) (sum : List ℕ → ℕ) (log : Log D C) (given_up : List Message) (heads : List MarkAt) (H : History) (A f : ℕ) (U : List Message) → AreAmong (given_up_of log) given_up → HasHeads sum log heads
    → Fits trace sum log H A f U → fault_of log ≡ None → AreWhole sum log given_up heads
whole_of trace sum log given_up heads H A f U among has fits none =
    let one : FillingAt = record { next = sealing_end log; from = reserved_end log } in
    let marks : List HeadAt = map (headed sum) heads in
    All-weaker (λ b. b.held ≡ None → IsWholeBuffer sum (segment_size_of log) (given_up_of log) (heads_of log) (one ∷ fillings_of log) b) (λ b. b.held ≡ None → IsWholeBuffer sum (segment_size_of log) given_up marks (one ∷ map filled_by heads) b)
    (λ b whole free. more_given sum (segment_size_of log) (given_up_of log) given_up (heads_of log) marks (one ∷ fillings_of log) (one ∷ map filled_by heads) b among has.marked (among_behind (one ∷ []) (fillings_of log) (map filled_by heads) has.filled) (whole free))
    (buffers_of sum log) (buffers_whole trace sum log H (fits_holds trace sum log H A f U fits) none)

-- A call that was held up sealed the current buffer, where that begins below its place.
not_held : (e : Error) (old new to : ℕ) → old < to → new ≡ old → (IsHeld {T = ℕ} (Err e) → to ≤ new) → IfHeld e ⊥
not_held (error.Held at) old new to below same sealed = let past = sealed tt in omega (arith, below, same, past)
not_held _ old new to below same sealed = tt

-- A log as it is seen.

module _ {D C : Type 0} (log : Log D C) (sum : List ℕ → ℕ) (begun : ℕ) (tickets : List (Option Message)) (given_up : List Message) (heads : List MarkAt) where
  abbrev pub l : LogView
  l = seen_log log begun tickets given_up heads

  abbrev size : ℕ
  size = segment_size_of log

  -- A flush needs a further segment where the next record would begin one that isn't in reach.
  pub flush_out : IsUsedUp log → EndsInReach size l.status.position → ⊥
  flush_out used reach = by used.0 reach where
    by : is_short size (length (current_of log).parts.bytes) ≡ true → EndsInReach size l.status.position → ⊥
    by short ends =
        let at : l.status.position ≡ next_segment_at size (current_of log).parts.site.place (machine_of log.accountant) =
        ap (λ (b : Bool). if b then next_segment_at size (current_of log).parts.site.place (machine_of log.accountant)
        else record { place = (current_of log).parts.site.place + length (current_of log).parts.bytes; begins = (current_of log).parts.site.place; slot = (current_of log).parts.site.slot; machine = machine_of log.accountant }) short in
        let begins = ap (λ x. x.begins) at in
        let slot = ap (λ x. x.slot) at in
        let low = ends.place in
        let high = ends.slot in
        used.1 (record { place = omega (arith, low, begins); offset = omega (arith, high, slot) })

  -- Where it needs none, the segment ends in reach in which the next record would begin.
  pub flush_in : (IsUsedUp log → ⊥) → EndsInReach size l.status.position
  flush_in free = by (is_short size (length (current_of log).parts.bytes)) refl where
    by : (o : Bool) → is_short size (length (current_of log).parts.bytes) ≡ o → EndsInReach size l.status.position
    by true short =
        let at : l.status.position ≡ next_segment_at size (current_of log).parts.site.place (machine_of log.accountant) =
        ap (λ (b : Bool). if b then next_segment_at size (current_of log).parts.site.place (machine_of log.accountant)
        else record { place = (current_of log).parts.site.place + length (current_of log).parts.bytes; begins = (current_of log).parts.site.place; slot = (current_of log).parts.site.slot; machine = machine_of log.accountant }) short in
        let begins = ap (λ x. x.begins) at in
        let slot = ap (λ x. x.slot) at in
        record {
          place = elim (cases_lt (l.status.position.begins + size) (2 ^ 63)) [
            | inl below ↦ below
            | inr above ↦ absurd (free (short, λ may. let low = may.place in omega (arith, low, begins, above)))
          ];
          slot = elim (cases_lt (l.status.position.slot + size) (2 ^ 63)) [
            | inl below ↦ below
            | inr above ↦ absurd (free (short, λ may. let low = may.offset in omega (arith, low, slot, above)))
          ];
        }
    by false long =
        let at : l.status.position ≡ record { place = (current_of log).parts.site.place + length (current_of log).parts.bytes; begins = (current_of log).parts.site.place; slot = (current_of log).parts.site.slot; machine = machine_of log.accountant } =
        ap (λ (b : Bool). if b then next_segment_at size (current_of log).parts.site.place (machine_of log.accountant)
        else record { place = (current_of log).parts.site.place + length (current_of log).parts.bytes; begins = (current_of log).parts.site.place; slot = (current_of log).parts.site.slot; machine = machine_of log.accountant }) long in
        let begins = ap (λ x. x.begins) at in
        let slot = ap (λ x. x.slot) at in
        let place_small = (current_facts log).place_small in
        let slot_small = (current_facts log).slot_small in
        record { place = omega (arith, begins, place_small); slot = omega (arith, slot, slot_small) }

  -- each is whole, and so it is seen
  abbrev pub SeenWhole : BufferAt → Type 0
  SeenWhole b = b.held ≡ None → IsWholeBuffer sum size given_up (map (headed sum) heads) (fillings_seen l) b

  pub whole_seen : AreWhole sum log given_up heads → All SeenWhole (buffers_of sum log)
  whole_seen whole =
      subst (λ n. All (λ b. b.held ≡ None → IsWholeBuffer sum size given_up (map (headed sum) heads) (record { next = n; from = reserved_end log } ∷ map filled_by heads) b) (buffers_of sum log))
      (ap (λ (s : Span). s.end) (span_seen log)) whole

  pub shows_waiting : AreWhole sum log given_up heads → ShowsBuffers sum size l l.status.waiting (waiting_of log)
  shows_waiting whole = record { are = refl; long = sealed_too log sum HasLength (shows_long sum log); held = waiting_held log sum; whole = sealed_too log sum SeenWhole (whole_seen whole) }

  pub pending_seen : pending_of log ≡ pending_in_view l
  pending_seen = count_seen l.status.opens (waiting_of log) (waiting_held log sum)

  -- Where a run stands that goes on with another log, over a device that is seen so.
  module _ (trace : D → Trace) (new : Log D C) (device now : DeviceView) (H : History) (A f : ℕ) (due : Option DueMark) (put : StaysPut trace sum log new) where
    abbrev pub before : RunState
    before = record { device = device; history = H; acknowledged = A; floor = f; log = Some l; due = due }

    abbrev pub after : ℕ → RunState
    after reached = record { device = now; history = H; acknowledged = reached; floor = f; log = Some (seen_log new begun tickets given_up (heads_at l (start_of new))); due = due }

    -- where that stands so
    pub stands_left : (reached : ℕ) (s : LogStatus) → status_of new ≡ s
        → after reached ≡ record { device = now; history = H; acknowledged = reached; floor = f; log = Some (with_status l s); due = due }
    stands_left reached s is =
        λ i. record {
          device = now;
          history = H;
          acknowledged = reached;
          floor = f;
          log = Some (record { status = is i; begun = begun; tickets = tickets; given_up = given_up; heads = heads_at l (is i).start });
          due = due;
        }

    -- or as it was
    pub left_alone : status_of new ≡ status_of log → after A ≡ with_log before now (Some l)
    left_alone is =
        stands_left A l.status is
        ∙ ap (λ (hs : List MarkAt). record { device = now; history = H; acknowledged = A; floor = f; log = Some (record l { heads = hs }); due = due }) (heads_still l)

  -- Once what begins below a place is sealed.
  module _ (to : ℕ) where
    -- the sealed buffers then, and the calls that write those of them that begin below the place
    abbrev pub its_buffers : List BufferAt
    its_buffers = sealed_for sum to log

    abbrev pub its_writings : List Event
    its_writings = writings size (free_below to its_buffers) (ledger_below to l.status)

    sealed_all : (P : BufferAt → Type 0) → All P (buffers_of sum log) → All P its_buffers
    sealed_all P all = by (nat_lt (current_begin log) to) where
      by : (o : Bool) → All P (if o then buffers_of sum log else waiting_of log)
      by true = all
      by false = sealed_too log sum P all

    -- The current buffer is none of these where it begins at the place or behind it.
    pub free_seen : free_below to (buffers_of sum log) ≡ free_below to its_buffers
    free_seen = by (nat_lt (current_begin log) to) refl where
      by : (o : Bool) → nat_lt (current_begin log) to ≡ o → free_below to (buffers_of sum log) ≡ free_below to (if o then buffers_of sum log else waiting_of log)
      by true is = refl
      by false is =
          let far : to ≤ current_begin log = grind (arith, nat_tests, is) in
          current_free sum size log.segments.first.site.place to (segment_view log.segments.first) (map segment_view log.segments.behind.items) (line_segments log) far

    pub writes_seen : writing_below sum log to ≡ its_writings
    writes_seen = λ i. writings size (free_seen i) (ledger_below_seen log to i)

    pub made_seen : (old new : Trace) → new ≡ after_all (writing_below sum log to) old → new ≡ after_all its_writings old
    made_seen old new made = subst (λ (es : List Event). new ≡ after_all es old) writes_seen made

    -- so many of them at the front
    pub some_seen : (count : ℕ) → writing_some count sum log to ≡ writings size (take count (free_below to its_buffers)) (ledger_below to l.status)
    some_seen count = λ i. writings size (take count (free_seen i)) (ledger_below_seen log to i)

    module _ (some : current_begin log < to → 0 < held_len log) where
      -- of all buffers those that begin below the place are seen, whether the current one is among them or not
      pub flushed_seen : spans_below to (spans (buffers_of sum log)) ≡ spans_below to (sealed_below to l.status)
      flushed_seen = by (nat_lt (current_begin log) to) refl (cases_lt 0 (held_len log)) where
        by : (o : Bool) → nat_lt (current_begin log) to ≡ o → (0 < held_len log) ⊎ (held_len log ≤ 0)
            → spans_below to (spans (buffers_of sum log)) ≡ spans_below to (if o then spans (waiting_of log) ++ current_span l.status l.status.position ∷ [] else spans (waiting_of log))
        by true is any = ap (spans_below to) (shows_current sum log (some (grind (arith, nat_tests, is))) ∙ ap (λ (s : Span). spans (waiting_of log) ++ s ∷ []) (span_seen log))
        by false is (inl any) =
            ap (spans_below to) (shows_current sum log any)
            ∙ below_front to (spans (waiting_of log)) (record { place = current_begin log; end = sealing_end log; lid = (start_of log).lid }) (grind (arith, nat_tests, is))
        by false is (inr none) = ap (λ (bs : List BufferAt). spans_below to (spans bs)) (shows_empty sum log (omega (arith, none)))

      pub shows_below : AreWhole sum log given_up heads → ShowsBuffers sum size l (sealed_below to l.status) its_buffers
      shows_below whole = record {
        are = sealed_seen log sum to some;
        long = sealed_all HasLength (shows_long sum log);
        held = sealed_all (IsHeldBy l.status.opens) (all_held log sum);
        whole = sealed_all SeenWhole (whole_seen whole);
      }

      pub holding_seen : holding_below sum log to ≡ holding to l
      holding_seen = below_held l.status.opens to (buffers_of sum log) (all_held log sum) ∙ ap (held_among l.status.opens) flushed_seen

      -- What is left of it.
      module _ (new : Log D C) where
        pub synced_seen : status_of new ≡ status_below sum to log → synced_end new ≡ synced_from to l
        synced_seen is = ap (λ (s : LogStatus). s.synced) is

        -- Where the run stands then.
        module _ (trace : D → Trace) (device now : DeviceView) (H : History) (A f : ℕ) (due : Option DueMark) (put : StaysPut trace sum log new) where
          pub stable_seen : status_of new ≡ status_below sum to log → stable_end new ≡ stable_from to l
          stable_seen is = ap stable_in is

          pub has_written : AreWhole sum log given_up heads → (n : ℕ) → fault_of log ≡ None → fault_of new ≡ None → (IsUsedUpBelow log to → ⊥) → holding_below sum log to ≡ None → now.trace ≡ after_all its_writings device.trace → now.failures ≡ device.failures
              → stable_end new ≡ stable_end log + n → to ≤ synced_end new → A ≤ stable_end log → status_of new ≡ status_below sum to log
              → HasWrittenTo sum size (before trace new device now H A f due put) l to n now (after trace new device now H A f due put (max A (end_below (stable_end new) H)))
          has_written records n none still unused free made failures answer whole past is =
              let ends = synced_seen is in
              let stable = stable_seen is in
              let sound : status_of new ≡ failing None (status_below sum to log) = is ∙ ap (λ (f : Option IoError). failing f (status_below sum to log)) none in
              record {
                sound = none;
                in_reach = λ less. flush_in (λ used. unused (less, used));
                free = sym holding_seen ∙ free;
                writes = record { buffers = its_buffers; shown = shows_below records; made = made };
                failures = failures;
                growth = sym answer ∙ stable;
                reaches = omega (arith, whole, ends);
                more = omega (arith, past, answer, stable);
                leads =
                    stands_left trace new device now H A f due put (max A (end_below (stable_end new) H)) (failing None (status_below sum to log)) sound
                    ∙ ap (λ reached. record { device = now; history = H; acknowledged = max A (end_below reached H); floor = f; log = Some (with_status l (failing None (status_below sum to log))); due = due }) stable;
              }

          -- It failed.

          pub fails_to : AreWhole sum log given_up heads → (e : Error) → device.trace ≡ trace (device_of log) → now.trace ≡ trace (device_of new) → fault_of log ≡ None
              → IsWhy e (holding to l) ((current_begin log < to) × (EndsInReach size l.status.position → ⊥)) (fault_of new) device.failures now.failures → Performs its_writings device.trace now.trace
              → IfHeld e (now.trace ≡ after_all its_writings device.trace) → (IsHeld {T = ℕ} (Err e) → to ≤ current_begin new) → CameTo trace sum to log new
              → FailsTo sum size (before trace new device now H A f due put) l to e now (after trace new device now H A f due put A)
          fails_to records e was is none why made held sealed came = record {
            sound = none;
            fault = fault_of new;
            why = why;
            came = elim came [
              | inl same ↦ (
                  let still : now.trace ≡ device.trace = is ∙ same.still ∙ sym was in (
                    0,
                    record {
                      buffers = its_buffers;
                      shown = shows_below records;
                      made = made;
                      written = (let same_writes : synced_writes now.trace ≡ synced_writes device.trace = ap synced_writes still in omega (arith, same_writes));
                      whole = λ sound. still;
                      held = held;
                    },
                    (let below : current_begin log < to = same.due none in
                        inr (inr (
                          refl,
                          below,
                          not_held e (current_begin log) (current_begin new) to below (ap (λ (x : LogStatus). x.start.place) same.stands.1) sealed,
                          left_alone trace new device now H A f due put same.stands.1,
                          ap (λ (x : LogStatus). x.fault) same.stands.1 ∙ none,
                        ))),
                  ))
              | inr front ↦ (
                  let view : Ledger → RunState = λ x. record (before trace new device now H A f due put) { device = now; log = Some (with_status l (failing (fault_of new) (wrote_front size to front.count x l.status))) } in
                  let stands : after trace new device now H A f due put A ≡ view (ledger_of new) = stands_left trace new device now H A f due put A _ front.stands.1 in
                  let seen = ledger_below_seen log to in (
                    front.count,
                    record {
                      buffers = its_buffers;
                      shown = shows_below records;
                      made = made;
                      written = ap synced_writes is ∙ front.written ∙ ap (λ (t : Trace). front.count + synced_writes t) (sym was);
                      whole = λ sound. is ∙ front.whole sound ∙ (λ i. after_all (some_seen front.count i) (sym was i));
                      held = held;
                    },
                    elim front.ledger.1 [
                      | inl all ↦ (
                          let behind : ledger_of new ≡ ledger_behind size (take front.count its_buffers) (ledger_for to log) = λ i. record { machine = all.0 i; account = front.ledger.0 i } in
                          inl (
                            stands ∙ ap view (behind ∙ ap (ledger_behind size (take front.count its_buffers)) seen),
                            subst (λ n. n < to) (ap (λ (x : LogStatus). x.synced) front.stands.1) all.1,
                          ))
                      | inr failed ↦ inr (inl (
                        failed.1,
                        account_of new,
                        front.ledger.0 ∙ ap (λ (x : Ledger). (ledger_behind size (take front.count its_buffers) x).account) seen,
                        machine_at new,
                        step_failed log begun tickets given_up heads trace new _ _ now.trace (ap (λ (x : Ledger). (ledger_behind size (take (front.count - 1) its_buffers) x).machine) seen) put.size (sym is) failed.0 failed.2,
                        stands,
                      ))
                    ],
                  ))
            ];
          }

-- Why a call failed: the log kept a failure, or it kept none.
pub kept_or_none : (T : Type 0) (e : Error) (held : Option ℕ) (used : Type 0) (old new : Option IoError) (before after : ℕ) → HeldAnswers {T = T} (Err e) held used old new before after
    → ((x : IoError) × (e ≡ error.Io x) × (old ≡ Some x)) ⊎ (old ≡ None)
kept_or_none T (error.Io x) held used old new _ _ (inl kept) = inl (x, refl, kept.0)
kept_or_none T (error.Io x) held used old new _ _ (inr failed) = inr failed.0
kept_or_none T error.OutOfMemory held used old new _ _ answers = inr answers.1
kept_or_none T error.PlacesUsedUp held used old new _ _ answers = inr answers.1
kept_or_none T (error.Held at) held used old new _ _ answers = inr answers.2
kept_or_none T _ held used old new _ _ answers = absurd answers

-- Where it kept none, this is why.
pub why_of : (T : Type 0) (e : Error) (held up : Option ℕ) (used needs : Type 0) (old new : Option IoError) (before after : ℕ) → old ≡ None → held ≡ up → (used → needs) → ((used → ⊥) → needs → ⊥) → HeldAnswers {T = T} (Err e) held used old new before after → IsWhy e up needs new before after
why_of T (error.Io x) held up used needs old new _ _ none same out back (inl kept) = absurd (let bad : None ≡ Some x = sym none ∙ kept.0 in cc)
why_of T (error.Io x) held up used needs old new _ _ none same out back (inr failed) = (failed.1, failed.3, failed.2)
why_of T error.OutOfMemory held up used needs old new _ _ none same out back answers = (back answers.0, answers.2, answers.3)
why_of T error.PlacesUsedUp held up used needs old new _ _ none same out back answers = (out answers.0, answers.2, answers.3)
why_of T (error.Held at) held up used needs old new _ _ none same out back answers = ((answers.0.0, sym same ∙ answers.0.1, answers.0.2), back answers.1, answers.3, answers.4)
why_of T _ held up used needs old new _ _ none same out back answers = absurd answers

-- Where it was held up all was made that was to be.
pub if_held : (T : Type 0) (e : Error) (P Q : Type 0) → (P → Q) → OnDone {T = T} (Err e) P → IfHeld e Q
if_held T (error.Held at) P Q more done = more done
if_held T _ P Q more done = tt

-- A call that nothing holds up, and that needs no further segment.
pub held_none : (T : Type 0) (e : Error) (old new : Option IoError) (before after : ℕ) → Answers {T = T} (Err e) old new before after → HeldAnswers {T = T} (Err e) None ⊥ old new before after
held_none T (error.Io x) old new _ _ answers = answers
held_none T error.OutOfMemory old new _ _ answers = (λ never. never, answers.0, answers.1, answers.2)
held_none T _ old new _ _ answers = absurd answers

-- it isn't held up
pub never_held : (T : Type 0) (e : Error) (old new : Option IoError) (before after : ℕ) (P : Type 0) → Answers {T = T} (Err e) old new before after → IfHeld e P
never_held T (error.Held at) old new _ _ P answers = absurd answers
never_held T _ old new _ _ P answers = tt

-- A write that was refused, and not for a failure of the device, asked nothing of it.
pub spared : (T : Type 0) (e : Error) (old new : Option IoError) (before after : ℕ) (t now : Trace) → old ≡ None → new ≡ None → Answers {T = T} (Err e) old new before after → UnlessFault {T = T} (Err e) t now → now ≡ t
spared T (error.Io x) old new _ _ t now none sound (inl kept) still = absurd (let bad : None ≡ Some x = sym none ∙ kept.0 in cc)
spared T (error.Io x) old new _ _ t now none sound (inr failed) still = absurd (let bad : None ≡ Some x = sym sound ∙ failed.1 in cc)
spared T error.OutOfMemory old new _ _ t now none sound answers still = still
spared T _ old new _ _ t now none sound answers still = absurd answers

-- Where nothing was synced no write was.
syncs_more : (es : List Event) (t : Trace) → syncs t ≤ syncs (es ++ t)
syncs_more [] t = omega arith
syncs_more (Synced ∷ es) t = let more = syncs_more es t in omega (arith, more)
syncs_more (_ ∷ es) t = syncs_more es t

pub unsynced : (es : List Event) (t : Trace) → syncs (es ++ t) ≡ syncs t → synced_writes (es ++ t) ≡ synced_writes t
unsynced [] t same = refl
unsynced (Synced ∷ es) t same = absurd (let more = syncs_more es t in omega (arith, same, more))
unsynced (_ ∷ es) t same = unsynced es t same

-- A log that keeps a failure is as it was.
pub keeps_failing : {D C : Type 0} (log new : Log D C) (begun : ℕ) (tickets : List (Option Message)) (given_up : List Message) (heads : List MarkAt) (device now : DeviceView) (H : History) (A f : ℕ) (due : Option DueMark) (e : Error) (x : IoError) → e ≡ error.Io x → fault_of log ≡ Some x → new ≡ log → now ≡ device
    → KeepsFailing (record { device = device; history = H; acknowledged = A; floor = f; log = Some (seen_log log begun tickets given_up heads); due = due }) (seen_log log begun tickets given_up heads) e now
    (record { device = now; history = H; acknowledged = A; floor = f; log = Some (seen_log new begun tickets given_up (heads_at (seen_log log begun tickets given_up heads) (start_of new))); due = due })
keeps_failing log new begun tickets given_up heads device now H A f due e x is kept same still =
    let l : LogView = seen_log log begun tickets given_up heads in
    let a : RunState = record { device = device; history = H; acknowledged = A; floor = f; log = Some l; due = due } in
    let b : RunState = record { device = now; history = H; acknowledged = A; floor = f; log = Some (seen_log new begun tickets given_up (heads_at l (start_of new))); due = due } in
    subst (λ (y : Error). KeepsFailing a l y now b) (sym is) (
      kept,
      still,
      (λ i. record { device = still i; history = H; acknowledged = A; floor = f; log = Some (seen_log (same i) begun tickets given_up (heads_at l (start_of (same i)))); due = due })
          ∙ ap (λ (hs : List MarkAt). record { device = device; history = H; acknowledged = A; floor = f; log = Some (seen_log log begun tickets given_up hs); due = due }) (heads_still l),
    )

-- a command that isn't refused has an index that fits
pub index_fits : (stopped above : Bool) (w v : Refusal) → when stopped w (when above v None) ≡ None → above ≡ false
index_fits true above w v free = cc
index_fits false true w v free = cc
index_fits false false w v free = refl

-- what is open, with another log
abbrev pub over : {D C : Type 0} → Opened D C → Log D C → Opened D C
over opened log = record { alloc = opened.alloc; log = log; origin = opened.origin; pages = opened.pages; busy = opened.busy; batch = opened.batch; tickets = opened.tickets; due = opened.due }

-- messages are open where one has a ticket
some_open : (ts : List (Option Message)) (n : ℕ) (m : Message) → slice_get ts n ≡ Some (Some m) → 0 < length (open_messages ts)
some_open [] n m there = cc
some_open (None ∷ ts) zero m there = cc
some_open (Some x ∷ ts) zero m there = omega arith
some_open (None ∷ ts) (suc n) m there = some_open ts n m there
some_open (Some x ∷ ts) (suc n) m there = omega arith

-- no mark is due, whatever the log has
pub due_none : {D C : Type 0} (old new : Log D C) (H : History) (due : Option Due) (U : List Message) → due ≡ None → AreUnmarked old H due U → AreUnmarked new H due U
due_none old new H None U none are = are
due_none old new H (Some d) U none are = cc

-- It stays open so, where that has the same tickets, and as many pins are out.
module _ {D C : Type 0} (trace : D → Trace) (sum : List ℕ → ℕ) (opened : Opened D C) (log : Log D C) (k : Unstored) (A : ℕ) where
  -- with these buffers begun
  abbrev pub kept_with : List MarkAt → Unstored
  kept_with heads = record { history = k.history; acknowledged = A; floor = k.floor; tickets = k.tickets; given_up = k.given_up; heads = heads }

  abbrev pub kept : Unstored
  kept = kept_with (heads_at (seen opened k.tickets k.given_up k.heads) (start_of log))

  -- a ticket has its pin, so its item stays
  ticket_still : StaysPut trace sum opened.log log → 0 < pins_of opened.log → (n : ℕ) (m : Message) → IsTicketFor trace sum opened k.history n m → IsTicketFor trace sum (over opened log) k.history n m
  ticket_still put out n m is = record {
    ticket = is.ticket;
    there = is.there;
    kind = is.kind;
    page = is.page;
    awaits = put.tickets.awaits is.ticket.reservation m is.awaits;
    own = is.own;
    stored = λ none. put.items none m out (is.stored (put.sound none));
    joins = is.joins;
    begins_batch = λ batch. let begun = is.begins_batch batch in
        record { kind = begun.kind; inline = begun.inline; apart = λ b known. begun.apart b (whole_not (synced_end log) (noted_in opened.log) b (subst (λ (bs : List Batch). Contains bs b) put.noted known)).0 };
    begins = (let low = is.begins in let same = put.reserved in omega (arith, low, same));
    ends = (let low = is.ends in let same = put.reserved in omega (arith, low, same));
  }

  pub still_with : (heads : List MarkAt) → HasHeads sum log heads → (at : IsOpenAt trace sum opened k) → StaysPut trace sum opened.log log → AreUnmarked log k.history opened.due at.unmarked → Fits trace sum log k.history A k.floor at.unmarked
      → IsOpenAt trace sum (over opened log) (kept_with heads)
  still_with heads has at put due fits = record {
    made = at.made;
    unmarked = at.unmarked;
    due = due;
    fits = fits;
    zeros = at.zeros;
    pinned = put.pins ∙ at.pinned;
    origin = at.origin ∙ ap (λ (n : ℕ). record { size = n; floor = k.floor }) (sym put.size);
    table = at.table;
    tickets = record {
      as_many = at.tickets.as_many;
      each = λ n m there. ticket_still put (let out = some_open k.tickets n m there in let pins = at.pinned in omega (arith, out, pins)) n m (at.tickets.each n m there);
      gone = at.tickets.gone;
      apart = at.tickets.apart;
      rising = at.tickets.rising;
      are_all = λ none. put.opens ∙ at.tickets.are_all (put.sound none);
      busy = at.tickets.busy;
      batch = at.tickets.batch;
    };
    given_up = λ m there. at.given_up m (put.tickets.given_up m there);
    heads = has;
    ends = λ i d lt. let low = at.ends i d lt in let same = put.reserved in omega (arith, low, same);
  }

  pub still_open : (at : IsOpenAt trace sum opened k) → HasOnlyBegun sum opened.log log → StaysPut trace sum opened.log log → opened.due ≡ None → Fits trace sum log k.history A k.floor at.unmarked → IsOpenAt trace sum (over opened log) kept
  still_open at only put none fits =
      still_with (heads_at (seen opened k.tickets k.given_up k.heads) (start_of log)) (heads_kept sum opened.log log (length opened.pages.items) k.tickets k.given_up k.heads only at.heads)
      at put (due_none opened.log log k.history opened.due at.unmarked none at.due) fits
