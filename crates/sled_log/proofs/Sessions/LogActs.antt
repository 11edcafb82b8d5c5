-- What the calls of an open log come to for its device, whatever that has.
use Rattle.std.proofs.Common.{◌≡◌, ◌∙◌, ◌⊎◌, ◌+◌, ◌*◌, ◌%◌, ◌^◌, ◌<ℤ◌, ℕ, ℤ, pos, Bool, true, false, IsTrue, List, [], ◌∷◌, ◌++◌, length, is_some, Option, None, Some, Ok, Err, refl, sym, ap, subst, inl, inr, append_assoc, if◌then◌else◌}
use Rattle.std.specs.Bool.{MatchBool}
use Rattle.std.specs.List.{All}
use Rattle.std.specs.IoError.{error_kind}
use Rattle.std.specs.Prelude.{IsSome, Vec, int_lt, unsigned_abs}
use Rattle.std.specs.declared.alloc.Global.{Global}
use Rattle.std.specs.declared.io.Error.{Error as IoError}
use Rattle.std.specs.declared.io.ErrorKind.TheVariants.{AlreadyExists, NotFound}
use Rattle.std.proofs.lemmas.List.Elements.{All-nil, All-cons, All-head, All-tail, All-append, All-push, All-weaker}
use Rattle.sled_codec.specs.declared.result.DiskPtr.{DiskPtr}
use Rattle.sled_codec.specs.declared.result.DiskPtr.TheVariants as ptr
use Rattle.sled_codec.specs.declared.result.Error.{Error}
use Rattle.sled_codec.specs.declared.result.Error.TheVariants as error
use Rattle.sled_codec.specs.declared.serialization.message.LogKind.{LogKind}
use Rattle.sled_codec.specs.declared.serialization.message.LogKind.TheVariants as does
use Rattle.sled_codec.specs.Spelling.{short_bytes}
use Rattle.sled_store.specs.Answers.{Tears, is_fault}
use Rattle.sled_store.specs.Device.{BlobMade, BlobRemoved, BlobSynced, Crashed, Cut, Event, NamesSynced, SnapshotFilled, SnapshotPublished, SnapshotRemoved, StopAsked, Synced, Trace, Wrote, state_of}
use Rattle.sled_store.specs.Moments.{IsLater}
use Rattle.sled_store.specs.Script.{Performs, Stops, after_all}
use Rattle.sled_store.proofs.Marks.StepCalls.{cuts, no_call, removes}
use Rattle.sled_core.specs.declared.logger.Log.{Log}
use Rattle.sled_core.specs.declared.logger.read_message.LogRead.{LogRead}
use Rattle.sled_core.specs.declared.reservation.Guard.{Guard}
use Rattle.sled_core.specs.declared.reservation.Reservation.{Reservation}
use Rattle.sled_core.specs.Causes.{Answers, HeldAnswers, IsFault, IsFaultAt}
use Rattle.sled_core.specs.Fits.{body_length, buffers_of, device_of, fault_of, in_blob, in_blob_of, ledger_for, segment_size_of, stable_end, synced_end, writing_below}
use Rattle.sled_core.specs.Freeing.{Ledger}
use Rattle.sled_core.specs.Ledger.{marked_ledger, written_ledger, written_step, writings}
use Rattle.sled_core.specs.Manifests.{kind_for, manifest_page}
use Rattle.sled_core.specs.OwnBlobs.{RemovedAnswers, removing}
use Rattle.sled_core.specs.ReadBuffer.{ReadAnswers, ledger_at, settling}
use Rattle.sled_core.specs.Reading.{data_of}
use Rattle.sled_core.specs.ReadPointer.{IsReadOf}
use Rattle.sled_core.specs.Reserves.{ReservesAs}
use Rattle.sled_core.specs.Stable.{StableAnswers, stabilizing, target_for}
use Rattle.sled_core.specs.Tickets.{place_of, pointer_of}
use Rattle.sled_core.specs.Waiting.{BufferAt, free_around, free_below}
use Rattle.sled_core.proofs.Line.FreeingStep.{AreOfStep, step_any}
use Rattle.sled_log.specs.declared.session.opened.Opened.{Opened}
use Rattle.sled_log.specs.declared.session.command.Command.{Command}
use Rattle.sled_log.specs.declared.session.command.Command.TheVariants as command
use Rattle.sled_log.specs.declared.session.command.Refusal.{Refusal}
use Rattle.sled_log.specs.declared.session.command.Reply.{Reply}
use Rattle.sled_log.specs.declared.session.command.Reply.TheVariants as reply
use Rattle.sled_log.specs.LogActs.{ActsOver, IsBlobError, IsCausedBy, IsWriting, ItemWasRead, KeepsPlaceBy, KeepsPlaceOver, LogActs, LogCalls, MakesSomeBlob, OnlyWrites, ReadsEntriesOver, ReadsItemOver, ReadsSomeOver}
use Rattle.sled_log.specs.Reservations.{GivesBack, HoldsTicket, MakesRoom}
use Rattle.sled_log.specs.RunPhases.{seen_log, traces}
use Rattle.sled_log.specs.RunStates.{DeviceView, LogView, body_length_in, target_in}
use Rattle.sled_log.specs.TicketActs.{BlobActs, RemoveActs, making_for}
use Rattle.sled_log.specs.TicketSteps.{blank_manifest}
use Rattle.sled_log.proofs.Sessions.EndedTickets.{removal_done, removal_failed}
use Rattle.sled_log.proofs.Sessions.KeptPlaces.{over_log}
use Rattle.sled_log.proofs.Sessions.PinsTaken.{pinned_log, unpinned_log}
use Rattle.sled_log.proofs.Sessions.Reserving.{blob_same, counts, either, failed_acts, made_acts, short_acts}
use Rattle.sled_log.proofs.Sessions.RunLemmas.{later_both, later_is, later_same}

-- Writes alone.

-- none at first,
pub no_writes : (old new : Trace) → new ≡ old → OnlyWrites old new
no_writes old new is = ([], is, All-nil IsWriting)

-- and more behind others
pub more_writes : (old mid new : Trace) → OnlyWrites old mid → OnlyWrites mid new → OnlyWrites old new
more_writes old mid new first second =
    (second.0 ++ first.0, second.1 ∙ ap (λ (t : Trace). second.0 ++ t) first.1 ∙ sym (append_assoc second.0 first.0 old), All-append IsWriting second.0 first.0 second.2 first.2)

pub later_written : (old new : Trace) → OnlyWrites old new → IsLater old new
later_written old new writes = (writes.0, writes.1)

-- what a failure leaves of such a call is one
torn_writing : (e torn : Event) → IsWriting e → Tears e torn → IsWriting torn
torn_writing (Wrote at asked now) torn is tears = subst IsWriting (sym tears.2) tt
torn_writing (Cut asked now) torn is tears = subst IsWriting (sym tears.2) tt
torn_writing (BlobRemoved place done) torn is tears = subst IsWriting (sym tears.1) tt
torn_writing Synced torn is tears = absurd tears
torn_writing e torn is tears = absurd is

-- Such calls were made, or some of them.
pub writes_made : (es : List Event) → All IsWriting es → (old new : Trace) → Performs es old new → OnlyWrites old new
unfolding Performs Stops
writes_made [] are old new came = no_writes old new came
writes_made (e ∷ es) are old new (inl (inl same)) = no_writes old new same
writes_made (e ∷ es) are old new (inl (inr (torn, tears, is))) =
    (torn ∷ [], is, All-cons IsWriting torn [] (torn_writing e torn (All-head IsWriting e es are) tears) (All-nil IsWriting))
writes_made (e ∷ es) are old new (inr came) =
    more_writes old (e ∷ old) new (e ∷ [], refl, All-cons IsWriting e [] (All-head IsWriting e es are) (All-nil IsWriting)) (writes_made es (All-tail IsWriting e es are) (e ∷ old) new came)

-- the calls of an accountant's step,
step_writes : (size : ℕ) (es : List Event) → AreOfStep size es → All IsWriting es
step_writes size es no_call = All-nil IsWriting
step_writes size es (removes blob rest may are) = All-cons IsWriting (BlobRemoved blob true) rest tt (step_writes size rest are)
step_writes size es (cuts k rest may are) = All-cons IsWriting (Cut (k * size) (k * size)) (Synced ∷ rest) tt (All-cons IsWriting Synced rest tt (step_writes size rest are))

-- and those that write buffers
pub writings_write : (size : ℕ) (bs : List BufferAt) (l : Ledger) → All IsWriting (writings size bs l)
writings_write size [] l = All-nil IsWriting
writings_write size (b ∷ bs) l =
    let rest : List Event = writings size bs (written_ledger size b.mark l) in
    let step : List Event = (written_step size b.mark l).calls in
    All-cons IsWriting (Wrote b.lid b.bytes b.bytes) (Synced ∷ (step ++ rest)) tt
    (All-cons IsWriting Synced (step ++ rest) tt (All-append IsWriting step rest (step_writes size step (step_any size (marked_ledger b.mark l))) (writings_write size bs (written_ledger size b.mark l))))

pub writings_unless : (b : Bool) (es : List Event) → All IsWriting es → All IsWriting (if b then [] else es)
writings_unless true es are = All-nil IsWriting
writings_unless false es are = are

-- So it is with a write up to a place, and with a read that writes the one buffer of its place.
pub stabilizing_writes : {D C : Type 0} (sum : List ℕ → ℕ) (log : Log D C) (place : ℤ) → All IsWriting (stabilizing sum log place)
stabilizing_writes sum log place =
    let to : ℕ = target_for log place in
    writings_unless (int_lt place (pos (stable_end log))) (writing_below sum log to) (writings_write (segment_size_of log) (free_below to (buffers_of sum log)) (ledger_for to log))

pub settling_writes : {D C : Type 0} (sum : List ℕ → ℕ) (log : Log D C) (place : ℤ) → All IsWriting (settling sum log place)
settling_writes sum log place =
    let at : ℕ = unsigned_abs place in
    let bs : List BufferAt = free_around at (buffers_of sum log) in
    writings_unless (int_lt place (pos (synced_end log))) (writings (segment_size_of log) bs (ledger_at at log)) (writings_write (segment_size_of log) bs (ledger_at at log))

-- Nothing was done.

module _ (sum : List ℕ → ℕ) (size : ℕ) (old new : DeviceView) (same : new ≡ old) where
  trace_same : new.trace ≡ old.trace
  trace_same = ap (λ (d : DeviceView). d.trace) same

  failures_same : new.failures ≡ old.failures
  failures_same = ap (λ (d : DeviceView). d.failures) same

  later : IsLater old.trace new.trace
  later = later_is old.trace new.trace trace_same

  pub no_cause : (Beside : IoError → Type 0) (e : Error) → IsCausedBy Beside (reply.Failed e) old new
  no_cause Beside (error.Io x) = inr (inl same)
  no_cause Beside e = failures_same

  pub no_blob : (kind : LogKind) (page : ℕ) (bytes : List ℕ) (e : Error) → MakesSomeBlob sum size kind page bytes (reply.Failed e) old new
  no_blob kind page bytes e = either (in_blob size (length bytes)) _ _ (λ goes. (pos 0, blob_same (making_for sum (kind_for kind page true 8) (pos 0) bytes) None old new e same)) (λ stays. same)

  no_calls : (c : Command) (e : Error) → LogCalls sum size c (reply.Failed e) old new
  no_calls (command.Replace page item) e = no_blob does.Replace page (short_bytes item.items) e
  no_calls (command.Link page item) e = no_blob does.Link page (short_bytes item.items) e
  no_calls (command.Abort t) e = (None, same)
  no_calls (command.Write i) e = no_writes old.trace new.trace trace_same
  no_calls command.Flush e = no_writes old.trace new.trace trace_same
  no_calls (command.Stable place) e = no_writes old.trace new.trace trace_same
  no_calls (command.Read page) e = no_writes old.trace new.trace trace_same
  no_calls c e = same

  -- So it is where a command is refused,
  pub refused_acts : (c : Command) (w : Refusal) → LogActs sum size c (reply.Refused w) old new
  refused_acts c w = record { shape = tt; cause = failures_same; calls = same; later = later }

  -- where one fails with nothing done,
  pub failed_still : (c : Command) (e : Error) → LogActs sum size c (reply.Failed e) old new
  failed_still c e = record { shape = tt; cause = no_cause (IsBlobError c) e; calls = no_calls c e; later = later }

  -- and where one asks nothing of the device.
  pub rewritten_still : (page number : ℕ) (place : ℤ) (pointer : DiskPtr) → LogActs sum size (command.Rewrite page) (reply.Reserved number place pointer) old new
  rewritten_still page number place pointer = record { shape = tt; cause = failures_same; calls = same; later = later }

  pub completed_still : (t : ℕ) (place : ℤ) (pointer : DiskPtr) → LogActs sum size (command.Complete t) (reply.Done place pointer) old new
  completed_still t place pointer = record { shape = tt; cause = failures_same; calls = same; later = later }

  pub ended_still : (place : ℤ) (pointer : DiskPtr) → LogActs sum size command.EndBatch (reply.Done place pointer) old new
  ended_still place pointer = record { shape = tt; cause = failures_same; calls = same; later = later }

  pub free_still : (page : ℕ) → LogActs sum size (command.Read page) reply.FreePage old new
  free_still page = record { shape = tt; cause = failures_same; calls = same; later = later }

-- Causes.

-- A failure that a log answers is kept, and then nothing was done, or the device failed.
fault_cause : (Beside : IoError → Type 0) (e : IoError) (kept after : Option IoError) (old new : DeviceView) → (kept ≡ Some e → new ≡ old) → IsFault e kept after old.failures new.failures
    → IsCausedBy Beside (reply.Failed (error.Io e)) old new
fault_cause Beside e kept after old new still (inl was) = inr (inl (still was.0))
fault_cause Beside e kept after old new still (inr failed) = inl (failed.3, failed.2)

pub answers_cause : (T : Type 0) (Beside : IoError → Type 0) (e : Error) (kept after : Option IoError) (old new : DeviceView) → ((x : IoError) → kept ≡ Some x → new ≡ old)
    → Answers {T = T} (Err e) kept after old.failures new.failures → IsCausedBy Beside (reply.Failed e) old new
answers_cause T Beside (error.Io x) kept after old new still answers = fault_cause Beside x kept after old new (still x) answers
answers_cause T Beside error.OutOfMemory kept after old new still answers = answers.2
answers_cause T Beside e kept after old new still answers = absurd answers

pub held_cause : (T : Type 0) (Beside : IoError → Type 0) (e : Error) (held : Option ℕ) (used : Type 0) (kept after : Option IoError) (old new : DeviceView) → ((x : IoError) → kept ≡ Some x → new ≡ old)
    → HeldAnswers {T = T} (Err e) held used kept after old.failures new.failures → IsCausedBy Beside (reply.Failed e) old new
held_cause T Beside (error.Io x) held used kept after old new still answers = fault_cause Beside x kept after old new (still x) answers
held_cause T Beside error.OutOfMemory held used kept after old new still answers = answers.3
held_cause T Beside error.PlacesUsedUp held used kept after old new still answers = answers.3
held_cause T Beside (error.Held at) held used kept after old new still answers = answers.4
held_cause T Beside e held used kept after old new still answers = absurd answers

pub stable_cause : (T : Type 0) (Beside : IoError → Type 0) (e : Error) (lsn : ℤ) (stable end : ℕ) (held : Option ℕ) (used : Type 0) (kept after : Option IoError) (old new : DeviceView)
    → ((x : IoError) → kept ≡ Some x → new ≡ old)
    → StableAnswers {T = T} (Err e) lsn stable end held used kept after old.failures new.failures → IsCausedBy Beside (reply.Failed e) old new
stable_cause T Beside (error.Io x) lsn stable end held used kept after old new still answers = fault_cause Beside x kept after old new (still x) answers.1
stable_cause T Beside error.OutOfMemory lsn stable end held used kept after old new still answers = answers.5
stable_cause T Beside error.PlacesUsedUp lsn stable end held used kept after old new still answers = answers.2.3
stable_cause T Beside (error.Held at) lsn stable end held used kept after old new still answers = answers.2.4
stable_cause T Beside (error.NotReserved at) lsn stable end held used kept after old new still answers = answers.5
stable_cause T Beside e lsn stable end held used kept after old new still answers = absurd answers

-- Places.

-- what holds besides in one of two cases
match_more : (b : Bool) (A B C : Type 0) → (A → C) → MatchBool b A B → MatchBool b C B
match_more true A B C more holds = more holds
match_more false A B C more holds = holds

-- a failure of which less is known
cause_more : (P Q : IoError → Type 0) (old new : DeviceView) → ((x : IoError) → P x → Q x) → (e : Error) → IsCausedBy P (reply.Failed e) old new → IsCausedBy Q (reply.Failed e) old new
cause_more P Q old new more (error.Io x) (inl failed) = inl failed
cause_more P Q old new more (error.Io x) (inr (inl same)) = inr (inl same)
cause_more P Q old new more (error.Io x) (inr (inr beside)) = inr (inr (more x beside.0, beside.1))
cause_more P Q old new more e cause = cause

module _ {D C : Type 0} (view : D → DeviceView) (sum : List ℕ → ℕ) (old new : Log D C) (kind : LogKind) (page : ℕ) (bytes : List ℕ) where
  abbrev size : ℕ
  size = segment_size_of old

  abbrev there : LogView
  there = seen_log old 0 [] [] []

  abbrev blob_place : ℤ
  blob_place = pos (target_in size there page (body_length_in size (length bytes))).place

  abbrev Came : Reply → Type 0
  Came r = KeepsPlaceOver view sum old kind page bytes r new

  pub place_made : (reservation : Reservation) (number : ℕ) (place : ℤ) (pointer : DiskPtr)
      → ReservesAs (traces view) (counts view) sum (Ok reservation) kind page bytes (in_blob_of old (length bytes)) (body_length old (length bytes)) old new → Came (reply.Reserved number place pointer)
  place_made reservation number place pointer came = record {
    shape = tt;
    cause = came.answers.0.2;
    calls = match_more (in_blob size (length bytes)) _ _ _ (λ acts. (blob_place, acts)) (made_acts view sum old new kind page bytes 0 [] [] [] reservation number place pointer came);
    later = came.keeps.goes_on.later;
  }

  place_still : (e : Error) → new.config ≡ old.config → Came (reply.Failed e)
  place_still e same = record {
    shape = tt;
    cause = no_cause sum size (view (device_of old)) (view (device_of new)) (ap (λ x. view x.device) same) _ e;
    calls = no_blob sum size (view (device_of old)) (view (device_of new)) (ap (λ x. view x.device) same) kind page bytes e;
    later = later_is (view (device_of old)).trace (view (device_of new)).trace (ap (λ x. (view x.device).trace) same);
  }

  module _ (none : fault_of old ≡ None) where
    blob_failed : (x : IoError) → in_blob_of old (length bytes) ≡ true
        → ReservesAs (traces view) (counts view) sum (Err (error.Io x)) kind page bytes (in_blob_of old (length bytes)) (body_length old (length bytes)) old new → Came (reply.Failed (error.Io x))
    blob_failed x is came = elim came.answers [
      | inl kept ↦ (let clash : None ≡ Some x = sym none ∙ kept.0 in cc)
      | inr refused ↦ record {
        shape = tt;
        cause = elim refused.refused [ inl failed ↦ inl (failed.1, failed.2) | inr beside ↦ inr (inr ((is, beside.1), beside.3)) ];
        calls = either (in_blob size (length bytes)) _ _
            (λ goes. (
              blob_place,
              subst (λ (f : Option IoError). BlobActs (making_for sum (kind_for kind page true 8) blob_place bytes) f (view (device_of old)) (reply.Failed (error.Io x)) (view (device_of new))) none
                  (failed_acts view sum old new kind page bytes 0 [] [] [] x is none refused.room.0 came),
            ))
            (λ stays. (let clash : true ≡ false = sym is ∙ stays in cc));
        later = came.keeps.goes_on.later;
      }
    ]

    pub place_failed : (e : Error) → ReservesAs (traces view) (counts view) sum (Err e) kind page bytes (in_blob_of old (length bytes)) (body_length old (length bytes)) old new → Came (reply.Failed e)
    place_failed (error.Io x) came = elim came.left [
      | inl same ↦ place_still (error.Io x) same.1.config
      | inr ready ↦ blob_failed x ready.0 came
    ]
    place_failed error.OutOfMemory came = elim came.left [
      | inl same ↦ place_still error.OutOfMemory same.config
      | inr ready ↦ record {
        shape = tt;
        cause = came.answers.0.2;
        calls = either (in_blob size (length bytes)) _ _ (λ goes. (blob_place, short_acts view sum old new kind page bytes 0 [] [] [] ready.0 came))
            (λ stays. (let clash : true ≡ false = sym ready.0 ∙ stays in cc));
        later = came.keeps.goes_on.later;
      }
    ]
    place_failed e came = place_still e came.left.config

-- From where room was made for a ticket and a pin was taken, to where the ticket is held or the pin went back.
module _ {D C : Type 0} (view : D → DeviceView) (sum : List ℕ → ℕ) (old mid new : Opened D C) (pinned log : Log D C) (kind : LogKind) (page : ℕ) (bytes : List ℕ) (room : MakesRoom old mid) where
  -- only room was made
  pub place_roomless : (e : Error) → KeepsPlaceOver view sum old.log kind page bytes (reply.Failed e) mid.log
  place_roomless e = place_still view sum old.log mid.log kind page bytes e (ap (λ (x : Log D C). x.config) room.log)

  module _ (taken : pinned ≡ pinned_log mid.log) where
    from_room : (r : Reply) → KeepsPlaceOver view sum pinned kind page bytes r log → KeepsPlaceOver view sum old.log kind page bytes r log
    from_room r came =
        let first : KeepsPlaceOver view sum mid.log kind page bytes r log = subst (λ (x : Log D C). KeepsPlaceOver view sum x kind page bytes r log) taken came in
        subst (λ (x : Log D C). KeepsPlaceOver view sum x kind page bytes r log) room.log first

    pub place_held : (reservation : Reservation) (guard : Guard) (result : Reply)
        → ReservesAs (traces view) (counts view) sum (Ok reservation) kind page bytes (in_blob_of pinned (length bytes)) (body_length pinned (length bytes)) pinned log
        → HoldsTicket (over_log mid log) new kind page reservation guard result → KeepsPlaceOver view sum old.log kind page bytes result new.log
    place_held reservation guard result came holds =
        let number : ℕ = length mid.tickets.items in
        subst (λ (r : Reply). KeepsPlaceOver view sum old.log kind page bytes r new.log) (sym holds.told)
        (subst (λ (x : Log D C). KeepsPlaceOver view sum old.log kind page bytes (reply.Reserved number (place_of reservation) (pointer_of reservation)) x) (sym holds.log)
        (from_room (reply.Reserved number (place_of reservation) (pointer_of reservation)) (place_made view sum pinned log kind page bytes reservation number (place_of reservation) (pointer_of reservation) came)))

    pub place_refused : (e : Error) (result : Reply) → fault_of pinned ≡ None
        → ReservesAs (traces view) (counts view) sum (Err e) kind page bytes (in_blob_of pinned (length bytes)) (body_length pinned (length bytes)) pinned log
        → GivesBack (traces view) sum (over_log mid log) new e result → KeepsPlaceOver view sum old.log kind page bytes result new.log
    place_refused e result none came gives =
        subst (λ (r : Reply). KeepsPlaceOver view sum old.log kind page bytes r new.log) (sym gives.told)
        (subst (λ (o : Opened D C). KeepsPlaceOver view sum old.log kind page bytes (reply.Failed e) o.log) (sym gives.given)
        (from_room (reply.Failed e) (place_failed view sum pinned log kind page bytes none e came)))

-- So a message of a page is reserved, or the manifest of a batch.
module _ (sum : List ℕ → ℕ) (size : ℕ) (old new : DeviceView) where
  pub replace_acts : (page : ℕ) (item : Vec ℕ Global) (r : Reply) → KeepsPlaceBy sum size does.Replace page (short_bytes item.items) r old new → LogActs sum size (command.Replace page item) r old new
  replace_acts page item (reply.Reserved number place pointer) keeps = record { shape = tt; cause = keeps.cause; calls = keeps.calls; later = keeps.later }
  replace_acts page item (reply.Failed e) keeps = record { shape = tt; cause = cause_more _ _ old new (λ x beside. beside.1) e keeps.cause; calls = keeps.calls; later = keeps.later }
  replace_acts page item _ keeps = absurd keeps.shape

  pub link_acts : (page : ℕ) (item : Vec ℕ Global) (r : Reply) → KeepsPlaceBy sum size does.Link page (short_bytes item.items) r old new → LogActs sum size (command.Link page item) r old new
  link_acts page item (reply.Reserved number place pointer) keeps = record { shape = tt; cause = keeps.cause; calls = keeps.calls; later = keeps.later }
  link_acts page item (reply.Failed e) keeps = record { shape = tt; cause = cause_more _ _ old new (λ x beside. beside.1) e keeps.cause; calls = keeps.calls; later = keeps.later }
  link_acts page item _ keeps = absurd keeps.shape

  -- an item in its record leaves the device alone
  in_record : (b : Bool) (A B : Type 0) → b ≡ false → MatchBool b A B → B
  in_record true A B is holds = cc
  in_record false A B is holds = holds

  never_blob : (b : Bool) (e : IoError) → b ≡ false → (b ≡ true) × (error_kind e ≡ AlreadyExists) → ⊥
  never_blob b e is beside = let clash : true ≡ false = sym beside.0 ∙ is in cc

  pub free_acts : (page : ℕ) (r : Reply) → in_blob size (length {A = ℕ} []) ≡ false → KeepsPlaceBy sum size does.Free page [] r old new → LogActs sum size (command.Free page) r old new
  free_acts page (reply.Reserved number place pointer) short keeps = record { shape = tt; cause = keeps.cause; calls = in_record (in_blob size (length {A = ℕ} [])) _ _ short keeps.calls; later = keeps.later }
  free_acts page (reply.Failed e) short keeps = record {
    shape = tt;
    cause = cause_more _ _ old new (λ x beside. never_blob (in_blob size (length {A = ℕ} [])) x short beside) e keeps.cause;
    calls = in_record (in_blob size (length {A = ℕ} [])) _ _ short keeps.calls;
    later = keeps.later;
  }
  free_acts page _ short keeps = absurd keeps.shape

  pub begin_acts : (r : Reply) → in_blob size (length blank_manifest) ≡ false → KeepsPlaceBy sum size does.Skip manifest_page blank_manifest r old new → LogActs sum size command.BeginBatch r old new
  begin_acts (reply.Reserved number place pointer) short keeps = record { shape = tt; cause = keeps.cause; calls = in_record (in_blob size (length blank_manifest)) _ _ short keeps.calls; later = keeps.later }
  begin_acts (reply.Failed e) short keeps = record {
    shape = tt;
    cause = cause_more _ _ old new (λ x beside. never_blob (in_blob size (length blank_manifest)) x short beside) e keeps.cause;
    calls = in_record (in_blob size (length blank_manifest)) _ _ short keeps.calls;
    later = keeps.later;
  }
  begin_acts _ short keeps = absurd keeps.shape

-- A message is given up.
module _ (sum : List ℕ → ℕ) (size t : ℕ) (old new : DeviceView) (blob : Option ℤ) (none : blob ≡ None → new ≡ old) (on : IsLater old.trace new.trace) where
  pub aborted_acts : (place : ℤ) (pointer : DiskPtr) → new.trace ≡ after_all (removing blob) old.trace → new.failures ≡ old.failures → LogActs sum size (command.Abort t) (reply.Done place pointer) old new
  aborted_acts place pointer done failures = record { shape = tt; cause = failures; calls = (blob, removal_done blob None old new place pointer none done failures); later = on }

  -- where that failed with nothing known of what was kept
  without_fault : (b : Option ℤ) (fault : Option IoError) (e : IoError) → RemoveActs b fault old (reply.Failed (error.Io e)) new → RemoveActs b None old (reply.Failed (error.Io e)) new
  without_fault None fault e acts = acts
  without_fault (Some p) fault e acts = (acts.0, acts.1, λ some. (let clash : false ≡ true = some in cc))

  abort_cause : (e : IoError) (fault after : Option IoError) → (IsSome fault → new ≡ old) → RemovedAnswers {T = Unit {0}} (Err (error.Io e)) blob fault after old.failures new.failures
      → IsCausedBy (IsBlobError (command.Abort t)) (reply.Failed (error.Io e)) old new
  abort_cause e fault after still (inl kept) = inr (inl (still (ap is_some kept.0)))
  abort_cause e fault after still (inr failed) = inl (failed.3, failed.4)

  -- its failure is that which is kept
  kept_then : (e : IoError) (fault after : Option IoError) → RemovedAnswers {T = Unit {0}} (Err (error.Io e)) blob fault after old.failures new.failures
      → RemovedAnswers {T = Unit {0}} (Err (error.Io e)) blob fault (Some e) old.failures new.failures
  kept_then e fault after (inl kept) = inl (kept.0, refl, kept.2)
  kept_then e fault after (inr failed) = inr (failed.0, failed.1, refl, failed.3, failed.4)

  pub abort_failed_acts : (T : Type 0) (e : Error) (fault after : Option IoError) → Performs (removing blob) old.trace new.trace → (IsSome fault → new ≡ old)
      → RemovedAnswers {T = T} (Err e) blob fault after old.failures new.failures → LogActs sum size (command.Abort t) (reply.Failed e) old new
  abort_failed_acts T (error.Io e) fault after calls still answers = record {
    shape = tt;
    cause = abort_cause e fault after still answers;
    calls = (blob, without_fault blob fault e (removal_failed blob fault old new e none calls (kept_then e fault after answers) still));
    later = on;
  }
  abort_failed_acts T _ fault after calls still answers = absurd answers

-- Buffers are written.
module _ (sum : List ℕ → ℕ) (size : ℕ) (old new : DeviceView) (writes : OnlyWrites old.trace new.trace) where
  pub written_acts : (i : ℕ) → new.failures ≡ old.failures → LogActs sum size (command.Write i) reply.Written old new
  written_acts i failures = record { shape = tt; cause = failures; calls = writes; later = later_written old.trace new.trace writes }

  pub write_failed_acts : (i : ℕ) (e : Error) → IsCausedBy (IsBlobError (command.Write i)) (reply.Failed e) old new → LogActs sum size (command.Write i) (reply.Failed e) old new
  write_failed_acts i e cause = record { shape = tt; cause = cause; calls = writes; later = later_written old.trace new.trace writes }

  pub flushed_acts : (n : ℕ) → new.failures ≡ old.failures → LogActs sum size command.Flush (reply.Flushed n) old new
  flushed_acts n failures = record { shape = tt; cause = failures; calls = writes; later = later_written old.trace new.trace writes }

  pub flush_failed_acts : (e : Error) → IsCausedBy (IsBlobError command.Flush) (reply.Failed e) old new → LogActs sum size command.Flush (reply.Failed e) old new
  flush_failed_acts e cause = record { shape = tt; cause = cause; calls = writes; later = later_written old.trace new.trace writes }

  pub stable_acts : (place : ℤ) (n : ℕ) → new.failures ≡ old.failures → LogActs sum size (command.Stable place) (reply.Flushed n) old new
  stable_acts place n failures = record { shape = tt; cause = failures; calls = writes; later = later_written old.trace new.trace writes }

  pub stable_failed_acts : (place : ℤ) (e : Error) → IsCausedBy (IsBlobError (command.Stable place)) (reply.Failed e) old new → LogActs sum size (command.Stable place) (reply.Failed e) old new
  stable_failed_acts place e cause = record { shape = tt; cause = cause; calls = writes; later = later_written old.trace new.trace writes }

  pub read_failed_acts : (page : ℕ) (e : Error) → IsCausedBy (IsBlobError (command.Read page)) (reply.Failed e) old new → LogActs sum size (command.Read page) (reply.Failed e) old new
  read_failed_acts page e cause = record { shape = tt; cause = cause; calls = writes; later = later_written old.trace new.trace writes }

-- Items are read.

-- Why one wasn't: the device failed, or there is no blob of that name.
pub item_cause : (T : Type 0) (sum : List ℕ → ℕ) (blobs : ℤ → Option (List ℕ)) (p : DiskPtr) (e : IoError) (lsn : ℤ) (stable end : ℕ) (held : Option ℕ) (used : Type 0) (kept after : Option IoError) (before now : ℕ)
    → ReadAnswers {T = T} sum blobs p (Err (error.Io e)) lsn stable end held used kept after before now → kept ≡ None
    → (IsTrue (is_fault e) × (now ≡ (before + 1) % 2 ^ 64)) ⊎ ((error_kind e ≡ NotFound) × (now ≡ before))
item_cause T sum blobs p e lsn stable end held used kept after before now answers none = by p answers where
  fault : IsFault e kept after before now → IsTrue (is_fault e) × (now ≡ (before + 1) % 2 ^ 64)
  fault (inl was) = let clash : None ≡ Some e = sym none ∙ was.0 in cc
  fault (inr failed) = (failed.3, failed.2)

  by : (q : DiskPtr) → IsFaultAt blobs q e (((lsn <ℤ pos stable) ⊎ (lsn <ℤ pos end)) × (held ≡ None) × (used → ⊥)) kept after before now
      → (IsTrue (is_fault e) × (now ≡ (before + 1) % 2 ^ 64)) ⊎ ((error_kind e ≡ NotFound) × (now ≡ before))
  by (ptr.Inline lid) answers = inl (fault answers)
  by (ptr.Blob lid place) (inl failed) = inl (fault failed)
  by (ptr.Blob lid place) (inr missing) = inr (missing.0, missing.5)

module _ {D C : Type 0} (view : D → DeviceView) (sum : List ℕ → ℕ) (old : Log D C) (page : ℕ) where
  -- none at first,
  pub some_none : fault_of old ≡ None → ReadsSomeOver view sum old page old []
  some_none none = record {
    sound = none;
    size = refl;
    failures = refl;
    writes = no_writes (view (device_of old)).trace (view (device_of old)).trace refl;
    read = All-nil (λ (item : Vec ℕ Global). ItemWasRead sum (segment_size_of old) page (view (device_of old)).trace (view (device_of old)).trace item.items);
  }

  module _ (mid : Log D C) (items : List (Vec ℕ Global)) (some : ReadsSomeOver view sum old page mid items) (new : Log D C) where
    abbrev first : Trace
    first = (view (device_of old)).trace

    abbrev second : Trace
    second = (view (device_of mid)).trace

    abbrev third : Trace
    third = (view (device_of new)).trace

    -- one more,
    pub some_more : (item : Vec ℕ Global) → segment_size_of new ≡ segment_size_of mid → ReadsItemOver view sum mid page new (Ok item) → ReadsSomeOver view sum old page new (items ++ item ∷ [])
    some_more item sized reads = record {
      sound = reads.0;
      size = sized ∙ some.size;
      failures = reads.1 ∙ some.failures;
      writes = more_writes first second third some.writes reads.2;
      read = All-push (λ (v : Vec ℕ Global). ItemWasRead sum (segment_size_of old) page first third v.items) items item
          (All-weaker (λ (v : Vec ℕ Global). ItemWasRead sum (segment_size_of old) page first second v.items) (λ (v : Vec ℕ Global). ItemWasRead sum (segment_size_of old) page first third v.items)
          (λ v was. record {
            moment = was.moment;
            behind = was.behind;
            before = later_both was.moment second third was.before (later_written second third reads.2);
            number = was.number;
            pointer = was.pointer;
            read = was.read;
            is = was.is;
            item_is = was.item_is;
          }) items some.read)
          (let was = subst (λ (n : ℕ). ItemWasRead sum n page second third item.items) some.size reads.3 in record {
            moment = was.moment;
            behind = later_both first second was.moment (later_written first second some.writes) was.behind;
            before = was.before;
            number = was.number;
            pointer = was.pointer;
            read = was.read;
            is = was.is;
            item_is = was.item_is;
          });
    }

    -- and one that failed.
    pub some_failed : (e : Error) → ReadsItemOver view sum mid page new (Err e) → ReadsEntriesOver view sum old page new (Err e)
    some_failed (error.Io x) reads = (
      elim (reads.0 some.sound) [
        | inl failed ↦ inl (failed.0, failed.1 ∙ ap (λ (n : ℕ). (n + 1) % 2 ^ 64) some.failures)
        | inr missing ↦ inr (inr (missing.0, missing.1 ∙ some.failures))
      ],
      more_writes first second third some.writes reads.1,
    )
    some_failed e reads = (reads.0 ∙ some.failures, more_writes first second third some.writes reads.1)

-- All were read, and are answered.
pub page_acts : {D C : Type 0} (view : D → DeviceView) (sum : List ℕ → ℕ) (old : Log D C) (page : ℕ) (new : Log D C) (items : Vec (Vec ℕ Global) Global) → ReadsSomeOver view sum old page new items.items
    → ActsOver view sum old (command.Read page) (reply.Page items) new
page_acts view sum old page new items some = record {
  shape = tt;
  cause = some.failures;
  calls = (some.writes, some.read);
  later = later_written (view (device_of old)).trace (view (device_of new)).trace some.writes;
}

-- Of an item that was read, and of one that wasn't.
module _ {D C : Type 0} (view : D → DeviceView) (sum : List ℕ → ℕ) (old : Log D C) (page : ℕ) (new : Log D C) where
  pub item_read : (number : ℕ) (p : DiskPtr) (r : LogRead) (item : Vec ℕ Global) → fault_of new ≡ None → (view (device_of new)).failures ≡ (view (device_of old)).failures
      → OnlyWrites (view (device_of old)).trace (view (device_of new)).trace → IsReadOf sum (segment_size_of old) (state_of (view (device_of new)).trace) page number p r → data_of r ≡ Some item.items
      → ReadsItemOver view sum old page new (Ok item)
  item_read number p r item sound failures writes reads has = (
    sound,
    failures,
    writes,
    record {
      moment = (view (device_of new)).trace;
      behind = later_written (view (device_of old)).trace (view (device_of new)).trace writes;
      before = later_same (view (device_of new)).trace;
      number = number;
      pointer = p;
      read = r;
      is = reads;
      item_is = has;
    },
  )

  pub item_failed : (blobs : ℤ → Option (List ℕ)) (p : DiskPtr) (e : Error) (lsn : ℤ) (stable end : ℕ) (held : Option ℕ) (used : Type 0)
      → ReadAnswers {T = LogRead} sum blobs p (Err e) lsn stable end held used (fault_of old) (fault_of new) (view (device_of old)).failures (view (device_of new)).failures
      → OnlyWrites (view (device_of old)).trace (view (device_of new)).trace → ReadsItemOver view sum old page new (Err e)
  item_failed blobs p (error.Io x) lsn stable end held used answers writes = (
    λ none. item_cause LogRead sum blobs p x lsn stable end held used (fault_of old) (fault_of new) (view (device_of old)).failures (view (device_of new)).failures answers none,
    writes,
  )
  item_failed blobs p error.OutOfMemory lsn stable end held used answers writes = (answers.4, writes)
  item_failed blobs p (error.Corruption at) lsn stable end held used answers writes = (answers.2, writes)
  item_failed blobs p (error.Held at) lsn stable end held used answers writes = (answers.5, writes)
  item_failed blobs p error.PlacesUsedUp lsn stable end held used answers writes = (answers.4, writes)
  item_failed blobs p (error.NotReserved at) lsn stable end held used answers writes = (answers.5, writes)
  item_failed blobs p e lsn stable end held used answers writes = absurd answers

-- From where a ticket was taken to where its pin went back.
pub from_taken : {D C : Type 0} (view : D → DeviceView) (sum : List ℕ → ℕ) (old mid new last : Log D C) (c : Command) (r : Reply) → mid ≡ old → last ≡ unpinned_log new
    → ActsOver view sum mid c r new → ActsOver view sum old c r last
from_taken {D} {C} view sum old mid new last c r taken given acts =
    subst (λ (x : Log D C). ActsOver view sum x c r last) taken (subst (λ (x : Log D C). ActsOver view sum mid c r x) (sym given) acts)

-- the same command under another name
pub acts_as : {D C : Type 0} (view : D → DeviceView) (sum : List ℕ → ℕ) (old new : Log D C) (c d : Command) (r : Reply) → d ≡ c → ActsOver view sum old c r new → ActsOver view sum old d r new
acts_as view sum old new c d r is acts = subst (λ (x : Command). ActsOver view sum old x r new) (sym is) acts
