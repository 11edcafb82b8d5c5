-- What a read leaves of a log, as it is seen.
use Rattle.std.proofs.Common.{◌≡◌, ◌∙◌, ◌≤◌, ◌<◌, ◌+◌, ◌&&◌, ◌⊎◌, inl, inr, ℕ, ℤ, pos, Bool, true, false, nat_lt, nat_le, if◌then◌else◌, List, [], ◌∷◌, ◌++◌, length, map, Option, Some, None, Result, Ok, Err, OnErr, refl, sym, ap, subst, arith, append_assoc, get_or, to_z, of_z}
use Rattle.std.specs.Prelude.{Vec, take, unsigned_abs}
use Rattle.std.specs.Int.{w64}
use Rattle.std.specs.List.{All, Contains}
use Rattle.std.specs.declared.alloc.Global.{Global}
use Rattle.std.specs.declared.io.Error.{Error as IoError}
use Rattle.std.proofs.lemmas.Bool.Decides.{nat_tests}
use Rattle.std.proofs.lemmas.Bool.{cases_lt}
use Rattle.std.proofs.lemmas.Int.{ints}
use Rattle.std.proofs.lemmas.List.{append-nil, get_or-map, map-append}
use Rattle.std.proofs.lemmas.List.Elements.{All-cons, All-contains, All-contains_itself, All-head, All-nil, All-tail, All-weaker}
use Rattle.sled_codec.specs.declared.result.DiskPtr.{DiskPtr}
use Rattle.sled_codec.specs.declared.result.DiskPtr.TheVariants as ptr
use Rattle.sled_codec.specs.declared.result.Error.{Error}
use Rattle.sled_codec.specs.declared.result.Error.TheVariants as error
use Rattle.sled_codec.specs.Errors.{IsCorruption}
use Rattle.sled_codec.specs.History.{History, Message, page_state, table}
use Rattle.sled_codec.specs.WellFormed.{LieApart}
use Rattle.sled_codec.specs.declared.serialization.snapshot.PageState.{PageState}
use Rattle.sled_codec.specs.PageTables.{entry_of}
use Rattle.sled_codec.specs.Snapshots.{Entry, Page, Present, Uninitialized, page_of}
use Rattle.sled_store.specs.Device.{Event, Trace}
use Rattle.sled_store.specs.Script.{Performs, after_all}
use Rattle.sled_store.specs.SegmentStates.{Machine}
use Rattle.sled_store.proofs.Segments.TableEntries.{from_table}
use Rattle.sled_log.proofs.Sessions.BegunHeads.{begun_with, heads_kept, heads_still, only_begun}
use Rattle.sled_core.specs.Account.{account_behind, account_of}
use Rattle.sled_core.specs.Causes.{IsFault, IsFaultAt, IsHeld, OnDone}
use Rattle.sled_core.specs.Reading.{GivesMessage, IsInline}
use Rattle.sled_core.specs.ReadPointer.{GivesBlobOrWaits, IsKeptBlob, place_read}
use Rattle.sled_core.specs.declared.logger.read_message.LogRead.{LogRead}
use Rattle.sled_core.specs.declared.logger.Log.{Log}
use Rattle.sled_core.specs.Begun.{segment_view}
use Rattle.sled_core.specs.Fits.{HasRecordOf, buffers_of, current_begin, current_of, device_of, fault_of, held_len, machine_at, next_place, reserved_end, segment_size_of, start_of, synced_end, waiting_of}
use Rattle.sled_core.specs.Freeing.{Ledger}
use Rattle.sled_core.specs.Keeps.{KeepsWriting, SamePlace}
use Rattle.sled_core.specs.Ledger.{ledger_behind, writings}
use Rattle.sled_core.specs.OpenPlaces.{first_between}
use Rattle.sled_core.specs.Fronts.{CameAround, synced_writes}
use Rattle.sled_core.specs.Positions.{Position}
use Rattle.sled_core.specs.ReadBuffer.{IsUsedUpAt, LeavesSealed, ReadAnswers, Settles, WritesAround, held_at, ledger_at, sealed_at, settling, ledger_written}
use Rattle.sled_core.specs.Waiting.{BufferAt, BufferStart, HasLength, Span, free_around, has_place, held_around, one_around, span_of, spans, unless_held}
use Rattle.sled_core.proofs.Holds.BufferEnds.{written_behind}
use Rattle.sled_core.proofs.Line.KeptCalls.{writing_further, writing_still}
use Rattle.sled_core.proofs.Line.Entered.{filled_last}
use Rattle.sled_core.proofs.Holds.Facts.{current_facts}
use Rattle.sled_core.specs.WholeBuffers.{IsWholeBuffer}
use Rattle.sled_core.specs.LogStatus.{LogStatus, failing, ledger_around, ledger_in, ledger_sealed_in, position_around, seal_around, sealed_around, start_around, status_of, wrote_around}
use Rattle.sled_core.specs.Spans.{held}
use Rattle.sled_core.proofs.Line.Shows.{buffers_add}
use Rattle.sled_core.proofs.PublicLaws.{fits_reach, ledger_account, place_back, record_of_entry, reserved_small, shows_empty, shows_long}
use Rattle.sled_log.proofs.Sessions.MadeHistories.{of_page_same}
use Rattle.sled_log.proofs.Sessions.MadePages.{page_present}
use Rattle.sled_log.specs.Made.{HasBlobIn, IsMade}
use Rattle.sled_log.specs.declared.session.Phase.TheVariants.{Open}
use Rattle.sled_log.specs.declared.session.opened.Opened.{Opened}
use Rattle.sled_core.proofs.Line.StatusSeen.{IsHeldBy, all_held, ledger_around_seen, sealed_around_seen, sealed_too}
use Rattle.sled_log.proofs.Sessions.FailedSteps.{step_failed}
use Rattle.sled_log.proofs.Sessions.Writing.{AreWhole, StaysPut, due_none, flush_in, flush_out, if_held, kept_with, over, put_writing, still_with, whole_seen, stands_left}
use Rattle.sled_log.specs.Readings.{IsOfPage, IsRead, ReadsEntries, ReadsItem, page_told}
use Rattle.sled_log.specs.RunPhases.{IsOpenAt, Unstored, seen, seen_log, stands, traces, HasHeads}
use Rattle.sled_log.specs.RunStates.{DeviceView, EndsInReach, LogView, MarkAt, RunState, heads_at, is_present, page_now, top, with_status, with_log}
use Rattle.sled_log.specs.ReadSteps.{FailsAt, ReadStep, ReadsAll, BringsToDevice, chosen_around, held_around_place, holding_read, read_around, read_at}
use Rattle.sled_log.specs.WriteSteps.{IfHeld, IsWhy, ShowsBuffers, WritesSome, headed, fillings_seen}

-- Buffers that have a place.

-- what holds that one up
held_seen : (places : List ℕ) (at : ℕ) (bs : List BufferAt) → All (IsHeldBy places) bs → held_around at bs ≡ held_around_place places at (spans bs)
held_seen places at [] all = refl
held_seen places at (b ∷ bs) all = by (All-head (IsHeldBy places) b bs all) (held_seen places at bs (All-tail (IsHeldBy places) b bs all)) (has_place at b) where
  by : b.held ≡ first_between b.place b.end places → held_around at bs ≡ held_around_place places at (spans bs) → (o : Bool)
      → (if o then b.held else held_around at bs) ≡ (if o then held places (span_of b) else held_around_place places at (spans bs))
  by here rest true = here
  by here rest false = rest

-- a buffer behind the place doesn't have it
not_behind : (at : ℕ) (b : BufferAt) → at < b.place → has_place at b ≡ false
not_behind at b far = by (nat_le b.place at) refl where
  by : (o : Bool) → nat_le b.place at ≡ o → (o && nat_lt at b.end) ≡ false
  by true is = absurd (grind (arith, nat_tests, far, is))
  by false is = refl

free_front : (at : ℕ) (bs : List BufferAt) (b : BufferAt) → at < b.place → free_around at (bs ++ b ∷ []) ≡ free_around at bs
free_front at [] b far = ap (λ (o : Bool). if o then unless_held b.held (b ∷ []) else []) (not_behind at b far)
free_front at (x ∷ xs) b far = ap (λ (cs : List BufferAt). if has_place at x then unless_held x.held (x ∷ []) else cs) (free_front at xs b far)

around_front : (at : ℕ) (bs : List BufferAt) (b : BufferAt) → at < b.place → held_around at (bs ++ b ∷ []) ≡ held_around at bs
around_front at [] b far = ap (λ (o : Bool). if o then b.held else None) (not_behind at b far)
around_front at (x ∷ xs) b far = ap (λ (o : Option ℕ). if has_place at x then x.held else o) (around_front at xs b far)

-- A message of what a page is has its record.
pub has_record : {D C : Type 0} (log : Log D C) (H : History) (end page : ℕ) (m : Message) → IsOfPage H end page m → HasRecordOf log H m
has_record log H end page m of =
    let low = log.line.lies.place_in_reach in
    let inside = log.line.lies.in_segment in
    let written = written_behind log.segments.first.buffer in
    record_of_entry log H m top (omega (arith, low, inside, written)) of.entry

module _ {D C : Type 0} (log : Log D C) (sum : List ℕ → ℕ) (at begun : ℕ) (k : Unstored) (below : at < reserved_end log) where
  abbrev l : LogView
  l = seen_log log begun k.tickets k.given_up k.heads

  -- what is reserved of the current buffer has bytes
  some_held : current_begin log ≤ at → 0 < held_len log
  some_held le =
      let inside : reserved_end log ≤ (current_of log).parts.site.place + length (current_of log).parts.bytes = (filled_last (segment_size_of log) (reserved_end log) (segment_view log.segments.first) (map segment_view log.segments.behind.items) log.line.filled).1 in
      let low = (current_facts log).begins in
      omega (arith, le, below, inside, low)

  -- The sealed buffers and where the current one begins, once that of the place is sealed.

  are_seen : spans (sealed_at sum at log) ≡ sealed_around at l.status
  are_seen = sealed_around_seen log sum at some_held

  of_all : (P : BufferAt → Type 0) → All P (buffers_of sum log) → All P (sealed_at sum at log)
  of_all P all = by (nat_le (current_begin log) at) where
    by : (o : Bool) → All P (if o then buffers_of sum log else waiting_of log)
    by true = all
    by false = sealed_too log sum P all

  are_held : All (IsHeldBy l.status.opens) (sealed_at sum at log)
  are_held = of_all (IsHeldBy l.status.opens) (all_held log sum)

  shows : AreWhole sum log k.given_up k.heads → ShowsBuffers sum (segment_size_of log) l (sealed_around at l.status) (sealed_at sum at log)
  shows whole = record {
    are = are_seen;
    long = of_all HasLength (shows_long sum log);
    held = are_held;
    whole = of_all (λ b. b.held ≡ None → IsWholeBuffer sum (segment_size_of log) k.given_up (map (headed sum) k.heads) (fillings_seen l) b) (whole_seen log sum begun k.tickets k.given_up k.heads whole);
  }

  -- the one behind them doesn't have the place
  module _ {T : Type 0} (f : List BufferAt → T) (front : (bs : List BufferAt) (b : BufferAt) → at < b.place → f (bs ++ b ∷ []) ≡ f bs) where
    of_sealed : f (buffers_of sum log) ≡ f (sealed_at sum at log)
    of_sealed = by (nat_le (current_begin log) at) refl where
      by : (o : Bool) → nat_le (current_begin log) at ≡ o → f (buffers_of sum log) ≡ f (if o then buffers_of sum log else waiting_of log)
      by true is = refl
      by false is = elim (cases_lt 0 (held_len log)) [
        | inl some ↦ (
            let adds = buffers_add sum log some in
            let place : adds.more.place ≡ current_begin log = ap (λ (s : Span). s.place) adds.seen in
            ap f adds.is ∙ front (waiting_of log) adds.more (grind (arith, nat_tests, is, place)))
        | inr none ↦ ap f (shows_empty sum log (omega (arith, none)))
      ]

  calls_seen : settling sum log (pos at) ≡ writings (segment_size_of log) (chosen_around l at (sealed_at sum at log)) (ledger_around at l.status)
  calls_seen = by (nat_lt at l.status.synced) where
    by : (o : Bool) → (if o then [] else writings (segment_size_of log) (free_around at (buffers_of sum log)) (ledger_at at log))
        ≡ writings (segment_size_of log) (if o then [] else free_around at (sealed_at sum at log)) (ledger_around at l.status)
    by true = refl
    by false = ap (λ (bs : List BufferAt). writings (segment_size_of log) bs (ledger_at at log)) (of_sealed (free_around at) (free_front at))

  holding_seen : held_at sum log (pos at) ≡ holding_read l at
  holding_seen = ap (λ (o : Option ℕ). if nat_lt at l.status.synced then None else o)
      (of_sealed (held_around at) (around_front at) ∙ held_seen l.status.opens at (sealed_at sum at log) are_held ∙ ap (held_around_place l.status.opens at) are_seen)

  -- what is sealed brings no mark to the device
  marks_seen : (ledger_around at l.status).account ≡ account_of log
  marks_seen = by (nat_le (current_begin log) at) where
    by : (o : Bool) → (if o then ledger_sealed_in l.status else ledger_in l.status).account ≡ account_of log
    by true = refl
    by false = refl

-- Its item is there: why it wasn't read is neither damage nor a blob that is missing.
abbrev pub IsWhole : DiskPtr → Message → Option IoError → Error → Type 0
IsWhole (ptr.Inline lid) m kept e = IsCorruption {T = LogRead} (Err e) → ⊥
IsWhole (ptr.Blob lid place) m kept e = GivesBlobOrWaits m kept (Err e)

not_damaged : (p : DiskPtr) (m : Message) (kept : Option IoError) (at : Option DiskPtr) → IsWhole p m kept (error.Corruption at) → ⊥
not_damaged (ptr.Inline lid) m kept at whole = whole tt
not_damaged (ptr.Blob lid place) m kept at whole = whole

not_missed : (blobs : ℤ → Option (List ℕ)) (p : DiskPtr) (m : Message) (e : IoError) (so : Type 0) (old new : Option IoError) (before after : ℕ) → IsWhole p m old (error.Io e)
    → IsFaultAt blobs p e so old new before after → IsFault e old new before after
not_missed blobs (ptr.Inline lid) m e so old new before after whole is = is
not_missed blobs (ptr.Blob lid place) m e so old new before after whole is = elim is [ inl fault ↦ fault | inr missed ↦ absurd (whole missed.3 missed.0) ]

-- A read of a pointer says so of a message with it: of one that has its item in its record by that, and else by its blob.
module _ {D C : Type 0} (trace : D → Trace) (sum : List ℕ → ℕ) (log : Log D C) (k : Unstored) (page : ℕ) (m : Message) (place : ℤ) (is : IsRead trace sum log k) (of : IsOfPage k.history (reserved_end log) page m) (here : pos m.place ≡ place) where
  -- the table of all that there is has its entry
  entry_now : Contains (table k.history (next_place log) m.page) m
  unfolding table
  entry_now =
      let reach = fits_reach trace sum log k.history k.acknowledged k.floor is.unmarked is.fits in
      subst (λ (ms : List Message). Contains ms m) (ap page_state (of_page_same k.history.messages top (next_place log) m.page (λ x there same. (
        All-contains (λ y. y.place < top) k.history.messages x is.made.low there,
        All-contains (λ y. y.place < next_place log) k.history.messages x reach there,
      )))) of.entry

  kept_blob : (p : DiskPtr) → m.pointer ≡ p → (IsInline p → ⊥) → IsKeptBlob log k.history m page place p
  kept_blob p points beside = record { entry = entry_now; page = of.of; place = here; pointer = points; beside = beside }

  pub is_given : (p : DiskPtr) (r : LogRead) → m.pointer ≡ p → (IsInline p → GivesMessage m r) → (IsKeptBlob log k.history m page place p → GivesBlobOrWaits m (fault_of log) (Ok r)) → GivesMessage m r
  is_given (ptr.Inline lid) r points inline blob = inline tt
  is_given (ptr.Blob lid at) r points inline blob = blob (kept_blob (ptr.Blob lid at) points (λ no. no))

  pub is_whole : (p : DiskPtr) (e : Error) → m.pointer ≡ p → (IsInline p → IsCorruption {T = LogRead} (Err e) → ⊥) → (IsKeptBlob log k.history m page place p → GivesBlobOrWaits m (fault_of log) (Err e)) → IsWhole p m (fault_of log) e
  is_whole (ptr.Inline lid) e points inline blob = inline tt
  is_whole (ptr.Blob lid at) e points inline blob = blob (kept_blob (ptr.Blob lid at) points (λ no. no))

-- the log of a run, where one is open
abbrev log_or : LogView → RunState → LogView
log_or l a = elim a.log [ Some x ↦ x | None ↦ l ]

-- One message is read.
module _ {D C : Type 0} (view : D → DeviceView) (sum : List ℕ → ℕ) (old new : Log D C) (k : Unstored) (page : ℕ) (m : Message) (begun : ℕ) (of : IsOfPage k.history (reserved_end old) page m)
    (records : fault_of old ≡ None → AreWhole sum old k.given_up k.heads) (keeps : KeepsWriting (traces view) sum old new) where
  abbrev at : ℕ
  at = read_at m

  abbrev before : LogView
  before = seen_log old begun k.tickets k.given_up k.heads

  abbrev after : LogView
  after = seen_log new begun k.tickets k.given_up (heads_at before (start_of new))

  abbrev old_view : DeviceView
  old_view = view (device_of old)

  abbrev new_view : DeviceView
  new_view = view (device_of new)

  put : StaysPut (traces view) sum old new
  put = put_writing (traces view) sum old new keeps

  -- where it stands then
  leaves : (s : LogStatus) → status_of new ≡ s → after ≡ with_status before s
  leaves s is =
      ap (log_or before)
      (stands_left old sum begun k.tickets k.given_up k.heads (traces view) new old_view new_view k.history k.acknowledged k.floor None put k.acknowledged s is)

  -- the calls that bring its place to the device
  settling_seen : settling sum old (place_read (pos m.place) m.pointer) ≡ writings (segment_size_of old) (chosen_around before at (sealed_at sum at old)) (ledger_around at before.status)
  settling_seen = ap (settling sum old) of.read ∙ calls_seen old sum at begun k of.read_below

  -- It failed, where the log kept no failure.

  why_at : (blobs : ℤ → Option (List ℕ)) (e : Error)
      → ReadAnswers {T = LogRead} sum blobs m.pointer (Err e) (pos at) (synced_end old) (reserved_end old) (held_at sum old (pos at)) (IsUsedUpAt old (pos at)) (fault_of old) (fault_of new) old_view.failures new_view.failures
      → IsWhole m.pointer m (fault_of old) e → fault_of old ≡ None
      → IsWhy e (holding_read before at) ((current_begin old ≤ at) × (EndsInReach (segment_size_of old) before.status.position → ⊥)) (fault_of new) old_view.failures new_view.failures
  why_at blobs (error.Io x) answers whole none = elim (not_missed blobs m.pointer m x _ (fault_of old) (fault_of new) old_view.failures new_view.failures whole answers) [
    | inl kept ↦ absurd (let bad : None ≡ Some x = sym none ∙ kept.0 in cc)
    | inr failed ↦ (failed.1, failed.3, failed.2)
  ]
  why_at blobs error.OutOfMemory answers whole none =
      let unused = answers.1 in
      (λ needs. needs.1 (flush_in old sum begun k.tickets k.given_up k.heads (λ used. unused ((let low = needs.0 in omega (arith, ints, low)), used))), answers.3, answers.4)
  why_at blobs error.PlacesUsedUp answers whole none =
      let used = answers.1 in
      (((let low = used.0 in omega (arith, ints, low)), flush_out old sum begun k.tickets k.given_up k.heads used.1), answers.3, answers.4)
  why_at blobs (error.Held place) answers whole none =
      let up = answers.1 in
      let unused = answers.2 in (
        (up.0, sym (holding_seen old sum at begun k of.read_below) ∙ up.1, up.2),
        (λ needs. needs.1 (flush_in old sum begun k.tickets k.given_up k.heads (λ used. unused ((let low = needs.0 in omega (arith, ints, low)), used)))),
        answers.4,
        answers.5,
      )
  why_at blobs (error.NotReserved place) answers whole none = let high = answers.2 in let low = of.read_below in absurd (omega (arith, ints, high, low))
  why_at blobs (error.Corruption place) answers whole none = absurd (not_damaged m.pointer m (fault_of old) place whole)
  why_at blobs _ answers whole none = absurd answers

  -- one that was held up sealed the buffer
  was_sealed : (e : Error) → (IsHeld {T = LogRead} (Err e) → LeavesSealed sum at old new) → IfHeld e ⊥ ⊎ LeavesSealed sum at old new
  was_sealed (error.Held place) sealed = inr (sealed tt)
  was_sealed _ sealed = inl tt

  failed_at : (blobs : ℤ → Option (List ℕ)) (e : Error) → (IsHeld {T = LogRead} (Err e) → LeavesSealed sum at old new) → Performs (settling sum old (place_read (pos m.place) m.pointer)) old_view.trace new_view.trace → CameAround (traces view) sum (pos at) old new
      → ReadAnswers {T = LogRead} sum blobs m.pointer (Err e) (pos at) (synced_end old) (reserved_end old) (held_at sum old (pos at)) (IsUsedUpAt old (pos at)) (fault_of old) (fault_of new) old_view.failures new_view.failures
      → IsWhole m.pointer m (fault_of old) e → fault_of old ≡ None → OnDone {T = LogRead} (Err e) (new_view.trace ≡ after_all (settling sum old (place_read (pos m.place) m.pointer)) old_view.trace)
      → (a : RunState) → FailsAt sum (segment_size_of old) a before at e old_view new_view (with_log a new_view (Some after))
  failed_at blobs e seals made came answers whole none done a =
      let seen_so = shows old sum at begun k of.read_below (records none) in
      let size : ℕ = segment_size_of old in
      let ss : List Span = sealed_around at before.status in
      let start : BufferStart = start_around at before.status in
      let position : Machine → Position = position_around size at before.status in
      let from : Ledger = ledger_around at before.status in
      let some : (count : ℕ) → synced_writes new_view.trace ≡ count + synced_writes old_view.trace
      → (fault_of new ≡ None → new_view.trace ≡ after_all (writings size (take count (chosen_around before at (sealed_at sum at old))) from) old_view.trace)
      → WritesSome sum size before ss (chosen_around before at) from count e (fault_of new) old_view new_view =
      λ count written whole. record {
        buffers = sealed_at sum at old;
        shown = seen_so;
        made = subst (λ (es : List Event). Performs es old_view.trace new_view.trace) settling_seen made;
        written = written;
        whole = whole;
        held = if_held LogRead e _ _ (λ all. all ∙ ap (λ (es : List Event). after_all es old_view.trace) settling_seen) done;
      } in
      let over_it : LogView → RunState = λ x. with_log a new_view (Some x) in
      let unheld : held_at sum old (pos at) ≡ None → holding_read before at ≡ None = λ free. sym (holding_seen old sum at begun k of.read_below) ∙ free in
      let leaves_sealed : LeavesSealed sum at old new → with_log a new_view (Some after) ≡ with_log a new_view (Some (with_status before (failing (fault_of new) (seal_around size at before.status)))) =
      λ sealed. ap over_it (leaves _ sealed.1) in
      record {
        sound = none;
        fault = fault_of new;
        why = why_at blobs e answers whole none;
        came = elim came [
          | inl same ↦ inl (
            some 0 (let still = ap synced_writes same.1 in omega (arith, still)) (λ sound. same.1),
            elim (was_sealed e seals) [
              | inl free ↦ inl (
                free,
                ap over_it (leaves _ same.0.1),
                λ above. same.2 (omega (arith, ints, above)) ∙ none,
              )
              | inr sealed ↦ inr (leaves_sealed sealed)
            ],
          )
          | inr (inl sealed) ↦ inl (some 0 (let still = sealed.1.written in omega (arith, still)) sealed.1.still, inr (leaves_sealed sealed.0))
          | inr (inr (inl written)) ↦ inr (inl (
            unheld written.2,
            record {
              buffers = sealed_at sum at old;
              shown = seen_so;
              made = written.1 ∙ ap (λ (es : List Event). after_all es old_view.trace) (calls_seen old sum at begun k of.read_below);
            },
            ap over_it (leaves _ written.0.1),
          ))
          | inr (inr (inr step)) ↦ inr (inr (
            unheld step.1,
            some 1 (let more = step.2 in omega (arith, more)) (λ sound. absurd (let bad : None ≡ Some step.0.0.fault = sym sound ∙ step.0.0.kept in cc)),
            account_of new,
            step.0.2 ∙ ledger_account size (one_around at (sealed_at sum at old)) from ∙ ap (account_behind (one_around at (sealed_at sum at old))) (marks_seen old sum at begun k of.read_below),
            machine_at new,
            step_failed old begun k.tickets k.given_up k.heads (traces view) new (ledger_at at old).machine from.machine new_view.trace (ap (λ (x : Ledger). x.machine) (ledger_around_seen old at)) keeps.position.size refl step.0.0 step.3,
            ap over_it (leaves _ step.0.1.1),
          ))
        ];
      }

  -- what is told of a read of a pointer, and of the place that it brings to the device
  abbrev AnswersAt : (ℤ → Option (List ℕ)) → Result LogRead Error → DiskPtr → ℤ → Type 0
  AnswersAt blobs r p z = WritesAround sum r z old new
      × ReadAnswers sum blobs p r z (synced_end old) (reserved_end old) (held_at sum old z) (IsUsedUpAt old z) (fault_of old) (fault_of new) old_view.failures new_view.failures
      × OnErr r (CameAround (traces view) sum z old new)

  abbrev pub Told : (ℤ → Option (List ℕ)) → Result LogRead Error → ℤ → DiskPtr → Type 0
  Told blobs r z p = Settles (traces view) sum r z p old new × AnswersAt blobs r p (place_read z p)

  -- it is so of the message's own
  told_own : (blobs : ℤ → Option (List ℕ)) (r : Result LogRead Error) (z : ℤ) (p : DiskPtr) → pos m.place ≡ z → m.pointer ≡ p → Told blobs r z p → Settles (traces view) sum r (pos m.place) m.pointer old new × AnswersAt blobs r m.pointer (pos at)
  told_own blobs r z p here points told =
      let own = subst (λ (x : ℤ × DiskPtr). Told blobs r x.0 x.1) (λ i. (sym here i, sym points i)) told in
      (own.0, subst (AnswersAt blobs r m.pointer) of.read own.1)

  pub read_failed : (blobs : ℤ → Option (List ℕ)) (e : Error) (z : ℤ) (p : DiskPtr) → pos m.place ≡ z → m.pointer ≡ p → Told blobs (Err e) z p → IsWhole p m (fault_of old) e → fault_of old ≡ None
      → (a : RunState) → FailsAt sum (segment_size_of old) a before at e old_view new_view (with_log a new_view (Some after))
  read_failed blobs e z p here points told whole none a =
      let own = told_own blobs (Err e) z p here points told in
      failed_at blobs e own.1.0.held own.0.at_most own.1.2 own.1.1 (subst (λ (x : DiskPtr). IsWhole x m (fault_of old) e) (sym points) whole) none own.0.made a

  -- It was read.

  around : {T : Type 0} (r : T) → WritesAround sum (Ok r) (pos at) old new → fault_of new ≡ fault_of old → after ≡ read_around (segment_size_of old) before at (sealed_at sum at old)
  around r writes kept = by (nat_lt at (synced_end old)) refl where
    by : (o : Bool) → nat_lt at (synced_end old) ≡ o
        → after ≡ (if o then before else with_status before (wrote_around (segment_size_of old) at (ledger_written sum at old) (status_of old)))
    by true below =
        let low = writes.still (grind (arith, ints, nat_tests, below)) in
        leaves (status_of old) (low.1 ∙ ap (λ (f : Option IoError). failing f (status_of old)) kept)
        ∙ ap (λ (hs : List MarkAt). record before { heads = hs }) (heads_still before)
    by false beyond =
        let high = writes.written (grind (arith, ints, nat_tests, beyond)) in
        leaves _ (high.1 ∙ ap (λ (f : Option IoError). failing f (wrote_around (segment_size_of old) at (ledger_written sum at old) (status_of old))) kept)

  pub was_read : (blobs : ℤ → Option (List ℕ)) (r : LogRead) (z : ℤ) (p : DiskPtr) → pos m.place ≡ z → m.pointer ≡ p → Told blobs (Ok r) z p → (before.status.fault ≡ None) × (reads : BringsToDevice sum (segment_size_of old) before at old_view new_view) × (after ≡ read_around (segment_size_of old) before at reads.writes.buffers)
  was_read blobs r z p here points told =
      let own = told_own blobs (Ok r) z p here points told in
      let answers = own.1.1 in (
        answers.3,
        record {
          free = sym (holding_seen old sum at begun k of.read_below) ∙ answers.1;
          writes = record {
            buffers = sealed_at sum at old;
            shown = shows old sum at begun k of.read_below (records answers.3);
            made = own.0.made ∙ ap (λ (es : List Event). after_all es old_view.trace) settling_seen;
          };
          failures = answers.5;
        },
        around r own.1.0 (answers.4 ∙ sym answers.3),
      )

-- Several messages are read, one behind another.

-- one more
reads_more : (sum : List ℕ → ℕ) (size : ℕ) (done : List Message) (m : Message) (l end : LogView) (old mid new : DeviceView) → ReadsAll sum size l done old mid end → (more : BringsToDevice sum size end (read_at m) mid new)
    → ReadsAll sum size l (done ++ m ∷ []) old new (read_around size end (read_at m) more.writes.buffers)
reads_more sum size [] m l end old mid new is more = (
  new,
  record {
    free = subst (λ (x : LogView). holding_read x (read_at m) ≡ None) is.2 more.free;
    writes = record {
      buffers = more.writes.buffers;
      shown = subst (λ (x : LogView). ShowsBuffers sum size x (sealed_around (read_at m) x.status) more.writes.buffers) is.2 more.writes.shown;
      made = more.writes.made ∙ (λ i. after_all (writings size (chosen_around (is.2 i) (read_at m) more.writes.buffers) (ledger_around (read_at m) (is.2 i).status)) (is.0 i));
    };
    failures = more.failures ∙ is.1;
  },
  (refl, refl, ap (λ (x : LogView). read_around size x (read_at m) more.writes.buffers) is.2),
)
reads_more sum size (n ∷ done) m l end old mid new is more = (is.0, is.1, reads_more sum size done m (read_around size l (read_at n) is.1.writes.buffers) end is.0 mid new is.2 more)

-- a message was read, with segments of this size, which leads from one log to another
abbrev WasRead : (List ℕ → ℕ) → ℕ → LogView → ℕ → DeviceView → DeviceView → LogView → Type 0
WasRead sum size l at old new l' = (reads : BringsToDevice sum size l at old new) × (l' ≡ read_around size l at reads.writes.buffers)

-- what all have this one has
all_at : (P : Message → Type 0) (done : List Message) (m : Message) (rest : List Message) → All P (done ++ m ∷ rest) → P m
all_at P [] m rest all = All-head P m rest all
all_at P (n ∷ done) m rest all = all_at P done m rest (All-tail P n (done ++ m ∷ rest) all)

-- Of these messages some were read, and the others have the entries that are left.
pub record AreRead (sum : List ℕ → ℕ) (size : ℕ) (l : LogView) (ms : List Message) (rest : List Entry) (old now : DeviceView) (items : List (Vec ℕ Global)) (l' : LogView) : Type 0 where
  pub done : List Message
  pub left : List Message
  pub split : ms ≡ done ++ left
  pub entries : map entry_of left ≡ rest
  pub reads : ReadsAll sum size l done old now l'
  pub items_are : map (λ v. v.items) items ≡ map (λ m. m.bytes) done
  pub sound : l'.status.fault ≡ None

-- So many of a page's entries are read.
pub record HasReadSome {D C : Type 0} (view : D → DeviceView) (sum : List ℕ → ℕ) (old : Log D C) (page : ℕ) (entries : List Entry) (now : Log D C) (items : List (Vec ℕ Global)) (rest : List Entry) : Type 0 where
  pub free : fault_of old ≡ None
  pub only : KeepsWriting (traces view) sum old now
  pub so_far : (k : Unstored) (ms : List Message) (begun : ℕ) → IsRead (traces view) sum old k → All (IsOfPage k.history (reserved_end old) page) ms → map entry_of ms ≡ entries
      → (heads : List MarkAt) × HasHeads sum now heads
      × AreRead sum (segment_size_of old) (seen_log old begun k.tickets k.given_up k.heads) ms rest (view (device_of old)) (view (device_of now)) items (seen_log now begun k.tickets k.given_up heads)

-- of what a page is that is present there is a first message
first_there : (ms : List Message) → is_present ms ≡ true → (m : Message) × (rest : List Message) × (ms ≡ m ∷ rest)
first_there [] present = cc
first_there (m ∷ ms) present = (m, ms, refl)

-- a read keeps what failure is kept
fault_around : (size : ℕ) (l : LogView) (at : ℕ) (bs : List BufferAt) → (read_around size l at bs).status.fault ≡ l.status.fault
fault_around size l at bs = by (nat_lt at l.status.synced) where
  by : (o : Bool) → (if o then l else with_status l (wrote_around size at (ledger_behind size (one_around at bs) (ledger_around at l.status)) l.status)).status.fault ≡ l.status.fault
  by true = refl
  by false = refl

module _ {D C : Type 0} (view : D → DeviceView) (sum : List ℕ → ℕ) (old : Log D C) (page : ℕ) where
  pub none_read : (entries : List Entry) → fault_of old ≡ None → HasReadSome view sum old page entries old [] entries
  none_read entries free = record {
    free = free;
    only = writing_still (traces view) sum old;
    so_far = λ k ms begun is all are. (k.heads, is.heads, record { done = []; left = ms; split = refl; entries = are; reads = (refl, refl, refl); items_are = refl; sound = free });
  }

  -- for want of memory for the list of items
  pub unread : (entries : List Entry) → fault_of old ≡ None → ReadsEntries view sum old page entries old (Err error.OutOfMemory)
  unread entries free = record {
    only = writing_still (traces view) sum old;
    step = λ k ms begun a is all are present device log. (k.heads, is.heads, inr (inl (free, sym device, λ i. record a { device = sym device i; log = sym log i })));
  }

  -- or since the log keeps a failure
  pub kept_unread : (entries : List Entry) (x : IoError) → fault_of old ≡ Some x → ReadsEntries view sum old page entries old (Err (error.Io x))
  kept_unread entries x kept = record {
    only = writing_still (traces view) sum old;
    step = λ k ms begun a is all are present device log. (k.heads, is.heads, inl (kept, sym device, λ i. record a { device = sym device i; log = sym log i }));
  }

  module _ (entries : List Entry) (mid : Log D C) (items : List (Vec ℕ Global)) where
    is_read : (k : Unstored) (heads : List MarkAt) → HasHeads sum mid heads → KeepsWriting (traces view) sum old mid → IsRead (traces view) sum old k → IsRead (traces view) sum mid (begun_with k heads)
    is_read k heads among only is = record {
      made = is.made;
      zeros = is.zeros;
      unmarked = is.unmarked;
      fits = only.preserves.fits k.history k.acknowledged k.floor is.unmarked is.fits;
      given_up = λ m given. is.given_up m (only.tickets.given_up m given);
      heads = among;
    }

    -- the next message, at the place that code has of its entry
    pub record IsNext (H : History) (ms done : List Message) (e : Entry) (rest : List Entry) : Type 0 where
      pub message : Message
      pub later : List Message
      pub split : ms ≡ done ++ message ∷ later
      pub place : pos message.place ≡ to_z w64 (of_z w64 e.0)
      pub pointer : message.pointer ≡ e.1
      pub others : map entry_of later ≡ rest
      pub of : IsOfPage H (reserved_end mid) page message

    next : (H : History) (ms done left : List Message) (e : Entry) (rest : List Entry) → ms ≡ done ++ left → map entry_of left ≡ e ∷ rest → SamePlace old mid → All (IsOfPage H (reserved_end old) page) ms → IsNext H ms done e rest
    next H ms done [] e rest split are position all = absurd (let bad : [] ≡ e ∷ rest = are in cc)
    next H ms done (m ∷ later) e rest split are position all =
        let own : entry_of m ≡ e = cc in
        let of : IsOfPage H (reserved_end mid) page m = subst (λ n. IsOfPage H n page m) (sym position.reserved) (all_at (IsOfPage H (reserved_end old) page) done m later (subst (All (IsOfPage H (reserved_end old) page)) split all)) in
        let small = reserved_small mid in
        let low = of.below in
        record {
          message = m;
          later = later;
          split = split;
          place = place_back e.0 m.place (sym (ap (λ (x : Entry). x.0) own)) (omega (arith, small, low));
          pointer = ap (λ (x : Entry). x.1) own;
          others = cc;
          of = of;
        }

    pub one_more : (new : Log D C) (e : Entry) (rest : List Entry) (item : Vec ℕ Global) → HasReadSome view sum old page entries mid items (e ∷ rest) → ReadsItem view sum mid page (to_z w64 (of_z w64 e.0)) e.1 new (Ok item)
        → HasReadSome view sum old page entries new (items ++ item ∷ []) rest
    one_more new e rest item some reads = record {
      free = some.free;
      only = writing_further (traces view) sum old mid new some.only reads.only;
      so_far = λ k ms begun is all are.
          let so = some.so_far k ms begun is all are in
          let heads : List MarkAt = so.0 in
          let came = so.2 in
          let one = next k.history ms came.done came.left e rest came.split came.entries some.only.position all in
          let l : LogView = seen_log old begun k.tickets k.given_up k.heads in
          let now : LogView = seen_log mid begun k.tickets k.given_up heads in
          let got = reads.item (begun_with k heads) one.message begun (is_read k heads so.1 some.only is) one.of one.place one.pointer in
          let end : LogView = seen_log new begun k.tickets k.given_up (heads_at now (start_of new)) in
          let so_read = subst (λ n. WasRead sum n now (read_at one.message) (view (device_of mid)) (view (device_of new)) end) some.only.position.size (got.2, got.3) in (
            heads_at now (start_of new),
            heads_kept sum mid new begun k.tickets k.given_up heads (only_begun sum mid new reads.marked) so.1,
            record {
              done = came.done ++ one.message ∷ [];
              left = one.later;
              split = one.split ∙ sym (append_assoc came.done (one.message ∷ []) one.later);
              entries = one.others;
              reads = subst (λ (x : LogView). ReadsAll sum (segment_size_of old) l (came.done ++ one.message ∷ []) (view (device_of old)) (view (device_of new)) x) (sym so_read.1)
                  (reads_more sum (segment_size_of old) came.done one.message l now (view (device_of old)) (view (device_of mid)) (view (device_of new)) came.reads so_read.0);
              items_are = map-append (λ (v : Vec ℕ Global). v.items) items (item ∷ []) ∙ (λ i. came.items_are i ++ got.0 i ∷ []) ∙ sym (map-append (λ (m : Message). m.bytes) came.done (one.message ∷ []));
              sound = ap (λ (x : LogView). x.status.fault) so_read.1 ∙ fault_around (segment_size_of old) now (read_at one.message) so_read.0.writes.buffers ∙ came.sound;
            },
          );
    }

    pub one_failed : (new : Log D C) (e : Entry) (rest : List Entry) (why : Error) → HasReadSome view sum old page entries mid items (e ∷ rest) → ReadsItem view sum mid page (to_z w64 (of_z w64 e.0)) e.1 new (Err why)
        → ReadsEntries view sum old page entries new (Err why)
    one_failed new e rest why some reads = record {
      only = writing_further (traces view) sum old mid new some.only reads.only;
      step = λ k ms begun a is all are present device log.
          let so = some.so_far k ms begun is all are in
          let heads : List MarkAt = so.0 in
          let came = so.2 in
          let one = next k.history ms came.done came.left e rest came.split came.entries some.only.position all in
          let l : LogView = seen_log old begun k.tickets k.given_up k.heads in
          let now : LogView = seen_log mid begun k.tickets k.given_up heads in
          let b : RunState = with_log a (view (device_of new)) (Some (seen_log new begun k.tickets k.given_up (heads_at now (start_of new)))) in (
            heads_at now (start_of new),
            heads_kept sum mid new begun k.tickets k.given_up heads (only_begun sum mid new reads.marked) so.1,
            inr (inr (record {
              done = came.done;
              message = one.message;
              rest = one.later;
              split = one.split;
              mid = view (device_of mid);
              log = now;
              so_far = subst (λ (x : DeviceView). ReadsAll sum (segment_size_of old) l came.done x (view (device_of mid)) now) (sym device) came.reads;
              fails = subst (λ n. FailsAt sum n a now (read_at one.message) why (view (device_of mid)) (view (device_of new)) b) some.only.position.size
                  (reads.item (begun_with k heads) one.message begun (is_read k heads so.1 some.only is) one.of one.place one.pointer came.sound a);
            })),
          );
    }

    pub all_read : (vs : Vec (Vec ℕ Global) Global) → vs.items ≡ items → HasReadSome view sum old page entries mid items [] → ReadsEntries view sum old page entries mid (Ok vs)
    all_read vs items_is some = record {
      only = some.only;
      step = λ k ms begun a is all are present device log.
          let so = some.so_far k ms begun is all are in
          let now : LogView = seen_log mid begun k.tickets k.given_up so.0 in
          let came = so.2 in
          let l : LogView = seen_log old begun k.tickets k.given_up k.heads in
          let done : ms ≡ came.done = came.split ∙ ap (λ xs. came.done ++ xs) (none_left came.left came.entries) ∙ append-nil came.done in (
            so.0,
            so.1,
            record {
              present = present;
              sound = some.free;
              items_are = ap (map (λ (v : Vec ℕ Global). v.items)) items_is ∙ came.items_are ∙ ap (map (λ m. m.bytes)) (sym done);
              log = now;
              reads = subst (λ xs. ReadsAll sum (segment_size_of old) l xs a.device (view (device_of mid)) now) (sym done) (subst (λ (x : DeviceView). ReadsAll sum (segment_size_of old) l came.done x (view (device_of mid)) now) (sym device) came.reads);
              leads = refl;
            },
          );
    } where
      none_left : (left : List Message) → map entry_of left ≡ [] → left ≡ []
      none_left [] are = refl
      none_left (m ∷ left) are = absurd (let bad : entry_of m ∷ map entry_of left ≡ [] = are in cc)

-- The messages of a page.

-- each message has a size where they lie apart
pub sized : (ms : List Message) → LieApart ms → All (λ m. 0 < m.size) ms
sized [] apart = All-nil (λ m. 0 < m.size)
sized (m ∷ ms) apart = All-cons (λ x. 0 < x.size) m ms apart.0 (sized ms apart.2)

-- a blob that is at the place of a message was reserved, as that was
reads_reserved : (H : History) (end : ℕ) (m : Message) (p : DiskPtr) → m.place < end → ((x : Message) → Contains H.messages x → x.place < end) → HasBlobIn H m p
    → (place_read (pos m.place) p ≡ pos (unsigned_abs (place_read (pos m.place) p))) × (unsigned_abs (place_read (pos m.place) p) < end)
reads_reserved H end m (ptr.Inline lid) low all has = (refl, low)
reads_reserved H end m (ptr.Blob lid place) low all has =
    let at : place ≡ pos has.0.place = has.3 in
    (at ∙ sym (ap (λ (z : ℤ). pos (unsigned_abs z)) at), subst (λ (z : ℤ). unsigned_abs z < end) (sym at) (all has.0 has.1))

all_of_page : (H : History) (end page : ℕ) → IsMade H → All (λ m. m.place + m.size ≤ end) H.messages → All (IsOfPage H end page) (page_now H page)
all_of_page H end page made ends = All-weaker (Contains (page_now H page)) (IsOfPage H end page) each (page_now H page) (All-contains_itself (page_now H page)) where
  low : (x : Message) → Contains H.messages x → x.place < end
  low x there =
      let some = All-contains (λ y. 0 < y.size) H.messages x (sized H.messages made.orderly.formed.apart) there in
      let below = All-contains (λ y. y.place + y.size ≤ end) H.messages x ends there in
      omega (arith, some, below)

  each : (m : Message) → Contains (page_now H page) m → IsOfPage H end page m
  each m there =
      let found = from_table H top page m there in
      let reads = reads_reserved H end m m.pointer (low m found.0) low (made.blobs m found.0) in
      record {
        there = found.0;
        entry = subst (λ n. Contains (table H top n) m) (sym found.1) there;
        of = found.1;
        below = low m found.0;
        read = reads.0;
        read_below = reads.1;
      }

-- a page that code finds among those that it has
pub page_found : (states seen : List PageState) (page : ℕ) (s : PageState) (p : Page) → seen ≡ states → page < length seen → s ≡ get_or seen page s → page_of s ≡ p → get_or (map page_of states) page Uninitialized ≡ p
page_found states seen page s p same lt at is =
    subst (λ xs. get_or (map page_of xs) page Uninitialized ≡ p) same (get_or-map page_of seen page s Uninitialized lt ∙ ap page_of (sym at) ∙ is)

-- The messages of a page that is present are read, and the log stays open.
module _ {D C : Type 0} (view : D → DeviceView) (sum : List ℕ → ℕ) (opened : Opened D C) (page : ℕ) (k : Unstored) (at : IsOpenAt (traces view) sum opened k) (none : opened.due ≡ None) (new : Log D C) (base : Entry) (frags : List Entry) (r : Result (Vec (Vec ℕ Global) Global) Error)
    (has : get_or (map page_of opened.pages.items) page Uninitialized ≡ Present base frags) (reads : ReadsEntries view sum opened.log page (base ∷ frags) new r) where
  -- what is kept in mind then
  abbrev pub read_with : List MarkAt → Unstored
  read_with = kept_with (traces view) sum opened new k k.acknowledged

  pub page_read : (heads : List MarkAt) × HasHeads sum new heads
      × ReadStep sum (segment_size_of opened.log) (stands view (Open opened) k) (seen opened k.tickets k.given_up k.heads) (page_now k.history page) (page_told r) (view (device_of new)) (stands view (Open (over opened new)) (read_with heads))
  page_read =
      let present = page_present k.history (map page_of opened.pages.items) page base frags at.table has in
      reads.step k (page_now k.history page) (length opened.pages.items) (stands view (Open opened) k) (record { made = at.made; zeros = at.zeros; unmarked = at.unmarked; fits = at.fits; given_up = at.given_up; heads = at.heads })
      (all_of_page k.history (reserved_end opened.log) page at.made at.ends) (sym present.entries) present.present refl refl

  pub open_still : IsOpenAt (traces view) sum (over opened new) (read_with page_read.0)
  open_still =
      still_with (traces view) sum opened new k k.acknowledged page_read.0 page_read.1 at (put_writing (traces view) sum opened.log new reads.only)
      (due_none opened.log new k.history opened.due at.unmarked none at.due) (reads.only.preserves.fits k.history k.acknowledged k.floor at.unmarked at.fits)
