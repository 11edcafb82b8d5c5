-- What it comes to where a ticket is ended: its message is completed, or given up.
use Rattle.std.proofs.Common.{⊎_elim, ◌≡◌, ◌⊎◌, ◌∙◌, ◌≢◌, ◌==◌, ◌&&◌, not, ◌<◌, ◌≤◌, ◌+◌, ◌-◌, ℕ, ℤ, pos, Bool, true, false, if◌then◌else◌, is_some, List, [], ◌∷◌, ◌++◌, length, map, get_or, set, sym, ap, subst, arith, refl, inl, inr, Option, None, Some, Result, Ok, Err, Vec, Global}
use Rattle.std.specs.Prelude.{IsSome, OnErr}
use Rattle.std.specs.List.{All, Contains, slice_get}
use Rattle.std.specs.declared.io.Error.{Error as IoError}
use Rattle.std.proofs.lemmas.Bool.{cases_eq, ne_eqb}
use Rattle.std.proofs.lemmas.List.{length-map, length-set, length_push}
use Rattle.std.proofs.lemmas.List.Elements.{All-contains}
use Rattle.sled_codec.specs.declared.result.DiskPtr.{DiskPtr}
use Rattle.sled_codec.specs.declared.result.Error.{Error}
use Rattle.sled_codec.specs.declared.result.Error.TheVariants as error
use Rattle.sled_codec.specs.declared.serialization.message.LogKind.{LogKind}
use Rattle.sled_codec.specs.declared.serialization.message.LogKind.TheVariants as does
use Rattle.sled_codec.specs.declared.serialization.snapshot.PageState.{PageState}
use Rattle.sled_codec.specs.History.{Batch, Message, History, Completed, Step, ChangesPage}
use Rattle.sled_codec.specs.PageTables.{IsTable, entry_of}
use Rattle.sled_codec.specs.Snapshots.{Entry, Page, page_of}
use Rattle.sled_store.specs.Script.{Performs, after_all}
use Rattle.sled_store.proofs.Segments.Elements.{all_from_in, in_cases, in_first, in_rest}
use Rattle.sled_store.specs.Marks.{IsFormerList, info_of}
use Rattle.sled_core.specs.declared.logger.Log.{Log}
use Rattle.sled_core.specs.declared.reservation.Reservation.{Reservation}
use Rattle.sled_core.specs.Causes.{FaultAnswers}
use Rattle.sled_core.specs.Fits.{Awaits, KeepsBuffers, KeepsTickets, config_of, device_of, fault_of, given_up_of, line_of, machine_at, noted_in, open_places, pins_of, reserved_end, segment_size_of}
use Rattle.sled_core.specs.Among.{AreAmong}
use Rattle.sled_core.specs.Keeps.{KeepsSeen, SamePosition}
use Rattle.sled_core.specs.Logged.{in_log}
use Rattle.sled_core.specs.OpenPlaces.{TakesOut}
use Rattle.sled_core.specs.Unmarked.{without}
use Rattle.sled_core.specs.OwnBlobs.{AreBeside, IsBeside, PreservesWithout, RemovedAnswers, RemovesBlob, removing}
use Rattle.sled_core.specs.Manifests.{is_manifest, manifest_page}
use Rattle.sled_core.specs.invariants.Running.{Fits}
use Rattle.sled_core.specs.Tickets.{is_manifest_of, own_blob, place_of}
use Rattle.sled_core.proofs.Line.Among.{among_further}
use Rattle.sled_core.proofs.PublicLaws.{awaited, fits_apart, fits_holds}
use Rattle.sled_core.proofs.Read.FoundLemmas.{pos_injective}
use Rattle.sled_log.specs.declared.session.marking.Due.{Due}
use Rattle.sled_log.specs.declared.session.opened.Opened.{Opened}
use Rattle.sled_log.specs.declared.session.tickets.Ticket.{Ticket}
use Rattle.sled_log.specs.declared.session.Phase.{Phase}
use Rattle.sled_log.specs.declared.session.Phase.TheVariants.{Open}
use Rattle.sled_log.specs.declared.session.command.Command.{Command}
use Rattle.sled_log.specs.declared.session.command.Command.TheVariants as command
use Rattle.sled_log.specs.declared.session.command.Refusal.TheVariants as why
use Rattle.sled_log.specs.declared.session.command.Reply.{Reply}
use Rattle.sled_log.specs.declared.session.command.Reply.TheVariants as reply
use Rattle.sled_log.specs.Endings.{KeepsPages, TakesTicket, applied_to, batch_left, put_at}
use Rattle.sled_log.specs.Made.{IsMade, MayJoin}
use Rattle.sled_log.specs.Marking.{IsMarked, KeepsBeside, Settles, StaysUnmarked, mark_of}
use Rattle.sled_log.specs.Refusals.{when}
use Rattle.sled_log.specs.RunPhases.{AreRising, AreUnmarked, BeginsBatch, DoesHere, HasBatch, HasHeads, HasTickets, IsOpenAt, IsSafe, IsTicketFor, IsUnmarked, Unstored, device_in, seen, seen_log, shown_due, stands, traces}
use Rattle.sled_log.specs.RunStates.{DeviceView, DueMark, RunState, has_message, has_ticket, open_messages, page_now, places_without, top, with_log}
use Rattle.sled_log.specs.Runs.{StaysWithin, StepBy}
use Rattle.sled_log.specs.SessionMarks.{mark_for, marking, replacing, told_message, told_state, without_pin}
use Rattle.sled_log.specs.TicketActs.{RemoveActs, own_by}
use Rattle.sled_log.specs.TicketSteps.{IsAnswerFor, own_of, spent}
use Rattle.sled_log.proofs.Sessions.Endings.{one_there}
use Rattle.sled_log.proofs.Sessions.FormerPages.{former_told, replacing_all, state_told, was_there}
use Rattle.sled_log.proofs.Sessions.MadeHistories.{came, join_still, made_completed, new_there}
use Rattle.sled_log.proofs.Sessions.MadeMarks.{goes_beside, line_same, noted_same, seen_marked, seen_same, size_same, tickets_same, unmarked_beside}
use Rattle.sled_log.proofs.Sessions.MadeTables.{page_of_replace, table_completed}
use Rattle.sled_log.proofs.Sessions.OpenApart.{all_beside, inline_none, none_there, ticket_beside}
use Rattle.sled_log.proofs.Sessions.SafeItems.{safe_on}
use Rattle.sled_log.proofs.Sessions.SpentTickets.{spent_count, spent_places, spent_tickets, taken_out, ticket_there}
use Rattle.sled_log.proofs.Sessions.TicketsSeen.{message_there}
use Rattle.sled_log.proofs.Sessions.Within.{untouched}
use Rattle.sled_log.proofs.Sessions.BegunHeads.{HasNoOther, heads_left, other_same}

-- A ticket that may be ended is open.
pub open_there : (stopped : Bool) (n : ℕ) (ts : List (Option Message)) → when (stopped && true) why.Stopped (when (not (has_ticket n ts)) why.Ticket None) ≡ None → (m : Message) × (slice_get ts n ≡ Some (Some m))
open_there stopped n ts asked = ticket_there n ts (by stopped (has_ticket n ts) asked) where
  by : (s b : Bool) → when (s && true) why.Stopped (when (not b) why.Ticket None) ≡ None → b ≡ true
  by s true is = refl
  by true false is = cc
  by false false is = cc

-- One that may be completed is, and is no manifest's.
pub message_open : (stopped : Bool) (n : ℕ) (ts : List (Option Message)) → when (stopped && true) why.Stopped (when (not (has_message n ts)) why.Ticket None) ≡ None
    → (m : Message) × (slice_get ts n ≡ Some (Some m)) × (m.page ≢ manifest_page)
message_open stopped n ts asked = message_there n ts (by stopped (has_message n ts) asked) where
  by : (s b : Bool) → when (s && true) why.Stopped (when (not b) why.Ticket None) ≡ None → b ≡ true
  by s true is = refl
  by true false is = cc
  by false false is = cc

-- How many pages are known once an entry came.

put_length : (ps : List Page) (page : ℕ) (s : Page) → length (put_at ps page s) ≡ (if page == length ps then length ps + 1 else length ps)
put_length ps page s = by (page == length ps) where
  by : (o : Bool) → length (if o then ps ++ s ∷ [] else set ps page s) ≡ (if o then length ps + 1 else length ps)
  by true = let long = length_push ps s in omega (arith, long)
  by false = length-set ps page s

applied_length : (ps : List Page) (kind : LogKind) (page : ℕ) (e : Entry) → ChangesPage kind → (kind ≡ does.Link → page < length ps)
    → length (applied_to ps kind page e) ≡ (if page == length ps then length ps + 1 else length ps)
applied_length ps does.Replace page e changes known = put_length ps page _
applied_length ps does.Free page e changes known = put_length ps page _
applied_length ps does.Link page e changes known =
    length-set ps page _ ∙ sym (ap (λ (o : Bool). if o then length ps + 1 else length ps) (ne_eqb page (length ps) (λ same. let lt = known refl in omega (arith, lt, same))))
applied_length ps does.Skip page e changes known = ⊎_elim (λ is. cc) (λ rest. ⊎_elim (λ is. cc) (λ is. cc) rest) changes
applied_length ps does.Corrupted page e changes known = ⊎_elim (λ is. cc) (λ rest. ⊎_elim (λ is. cc) (λ is. cc) rest) changes

-- what changes a page is no manifest
no_manifest : (kind : LogKind) (page : ℕ) → ChangesPage kind → is_manifest kind page ≡ false
no_manifest does.Replace page changes = refl
no_manifest does.Free page changes = refl
no_manifest does.Link page changes = refl
no_manifest does.Corrupted page changes = refl
no_manifest does.Skip page changes = ⊎_elim (λ is. cc) (λ rest. ⊎_elim (λ is. cc) (λ is. cc) rest) changes

-- What a call of a log says that gives a message up, and first removes the blob that the message has of its own.
pub record GivesUp {T D C : Type 0} (view : D → DeviceView) (sum : List ℕ → ℕ) (result : Result T Error) (blob : Option ℤ) (old new : Log D C) : Type 0 where
  pub answers : RemovedAnswers result blob (fault_of old) (fault_of new) (view (device_of old)).failures (view (device_of new)).failures
  pub removes : RemovesBlob (traces view) result blob old new
  pub keeps : PreservesWithout (traces view) sum blob old new
  pub seen : KeepsSeen old new
  pub buffers : KeepsBuffers old new
  pub position : SamePosition old new
  pub heads : HasNoOther old new
  pub err : OnErr result (KeepsTickets old new × (IsSome (fault_of old) → new ≡ old))

-- What is among some and one more is among others and that one, where those are among these.
one_more : (m : Message) (these those all : List Message) → AreAmong these (m ∷ those) → AreAmong those all → AreAmong these (m ∷ all)
one_more m these those all first second = λ x there. ⊎_elim (λ is. subst (Contains (m ∷ all)) is (in_first m all)) (λ later. in_rest m x all (second x later)) (in_cases m x those (first x there))

-- Where it fails the log keeps that failure.
failure_kept : (e : IoError) (blob : Option ℤ) (old new : Option IoError) (before after : ℕ) → RemovedAnswers {T = Unit {0}} (Err (error.Io e)) blob old new before after → new ≡ Some e
failure_kept e blob old new before after (inl kept) = kept.1
failure_kept e blob old new before after (inr failed) = failed.2

-- What it did to the device, where it removed the blob, if there was one,
pub removal_done : (blob : Option ℤ) (fault : Option IoError) (old new : DeviceView) (place : ℤ) (pointer : DiskPtr) → (blob ≡ None → new ≡ old) → new.trace ≡ after_all (removing blob) old.trace → new.failures ≡ old.failures
    → RemoveActs blob fault old (reply.Done place pointer) new
removal_done None fault old new place pointer none done failures = none refl
removal_done (Some p) fault old new place pointer none done failures = (done, failures)

-- and where it failed.
pub removal_failed : (blob : Option ℤ) (fault : Option IoError) (old new : DeviceView) (e : IoError) → (blob ≡ None → new ≡ old) → Performs (removing blob) old.trace new.trace
    → RemovedAnswers {T = Unit {0}} (Err (error.Io e)) blob fault (Some e) old.failures new.failures → (IsSome fault → new ≡ old) → RemoveActs blob fault old (reply.Failed (error.Io e)) new
removal_failed None fault old new e none calls cause same = none refl
removal_failed (Some p) fault old new e none calls (inl kept) same = (calls, inr (ap (λ (d : DeviceView). d.trace) (same (ap is_some kept.0))), same)
removal_failed (Some p) fault old new e none calls (inr failed) same = (calls, inl failed.3, same)

module _ {D C : Type 0} (view : D → DeviceView) (sum : List ℕ → ℕ) (old : Opened D C) (k : Unstored) (at : IsOpenAt (traces view) sum old k) (n : ℕ) (m : Message) (there : slice_get k.tickets n ≡ Some (Some m)) where
  abbrev pub had : IsTicketFor (traces view) sum old k.history n m
  had = at.tickets.each n m there

  -- its pin is out
  pub is_pinned : 0 < pins_of old.log
  is_pinned = let out = at.pinned in let less = spent_count k.tickets n m there in omega (arith, out, less)

  -- it is taken
  pub takes_it : (mid : Opened D C) (result : Option Ticket) → TakesTicket old n mid result → result ≡ Some had.ticket
  takes_it mid result takes = takes.taken had.ticket had.there (m, had.awaits)

  module _ (mid : Opened D C) (ticket : Ticket) (takes : TakesTicket old n mid (Some ticket)) where
    same_ticket : had.ticket ≡ ticket
    same_ticket = one_there old.tickets.items n had.ticket ticket had.there takes.there

    -- for its message
    pub awaits_it : Awaits old.log ticket.reservation m
    awaits_it = subst (λ (t : Ticket). Awaits old.log t.reservation m) same_ticket had.awaits

    pub of_kind : ticket.kind ≡ m.kind
    of_kind = sym (ap (λ (t : Ticket). t.kind) same_ticket) ∙ had.kind

    pub of_page : ticket.page ≡ m.page
    of_page = sym (ap (λ (t : Ticket). t.page) same_ticket) ∙ had.page

    -- it is no manifest's, where its message changes a page
    pub is_message : m.page ≢ manifest_page → is_manifest_of ticket.reservation ≡ false
    is_message changes = (awaited old.log ticket.reservation m awaits_it).3 ∙ no_manifest m.kind m.page (had.joins changes).changes

    -- no completed message lies at its place, so none has a blob of its own, and no other ticket's message has it
    nothing_there : m.page ≢ manifest_page → (x : Message) → Contains k.history.messages x → x.place ≡ m.place → ⊥
    nothing_there changes = none_there (traces view) sum old.log k.history (fits_holds (traces view) sum old.log k.history k.acknowledged k.floor at.unmarked at.fits) ticket.reservation m awaits_it (is_message changes)

    own_is : own_of m ≡ own_blob ticket.reservation
    own_is = sym had.own ∙ ap (λ (t : Ticket). own_blob t.reservation) same_ticket

    -- a manifest has none
    manifest_alone : m.page ≡ manifest_page → own_blob ticket.reservation ≡ None
    manifest_alone manifest = sym own_is ∙ inline_none (pos m.place) m.pointer (had.begins_batch manifest).inline

    pub beside_history : AreBeside (own_blob ticket.reservation) k.history
    beside_history = ⊎_elim
        (λ manifest. subst (λ (o : Option ℤ). AreBeside o k.history) (sym (manifest_alone manifest)) (λ x among. tt))
        (λ message. subst (λ (o : Option ℤ). AreBeside o k.history) own_is (all_beside k.history m m.pointer (nothing_there message) at.made)) (cases_eq m.page manifest_page)

    pub beside_ticket : (j : ℕ) (x : Message) → (x.place ≡ m.place → ⊥) → IsTicketFor (traces view) sum old k.history j x → IsBeside (own_blob ticket.reservation) x
    beside_ticket j x apart is = ⊎_elim
        (λ manifest. subst (λ (o : Option ℤ). IsBeside o x) (sym (manifest_alone manifest)) tt)
        (λ message. subst (λ (o : Option ℤ). IsBeside o x) own_is (ticket_beside k.history m m.pointer (nothing_there message) (traces view) sum old j x is apart)) (cases_eq m.page manifest_page)

    busy : mid.busy.items ≡ set old.busy.items m.page false
    busy = takes.busy ∙ ap (λ page. set old.busy.items page false) of_page

    batch : mid.batch ≡ batch_left m.page old.batch
    batch = takes.batch ∙ ap (λ page. batch_left page old.batch) of_page

    -- another ticket is for another place
    other_place : (t : Reservation) (x : Message) → Awaits old.log t x → (x.place ≡ m.place → ⊥) → place_of t ≢ place_of ticket.reservation
    other_place t x awaits apart same = apart (pos_injective x.place m.place ((awaited old.log t x awaits).0 ∙ same ∙ sym (awaited old.log ticket.reservation m awaits_it).0))

    -- what is kept in mind then
    abbrev pub left : History → Unstored
    left H = record { history = H; acknowledged = k.acknowledged; floor = k.floor; tickets = set k.tickets n None; given_up = k.given_up; heads = k.heads }

    -- and where these were given up
    abbrev pub left_with : History → List Message → Unstored
    left_with H given = record { history = H; acknowledged = k.acknowledged; floor = k.floor; tickets = set k.tickets n None; given_up = given; heads = k.heads }

    -- the session with this log then, with these pages and this mark due
    abbrev pub now : Log D C → Vec PageState Global → Option Due → Opened D C
    now log pages due = record { alloc = mid.alloc; log = log; origin = mid.origin; pages = pages; busy = mid.busy; batch = mid.batch; tickets = mid.tickets; due = due }

    -- What the log keeps of the other tickets.
    pub record Keeps (log : Log D C) : Type 0 where
      pub size : segment_size_of log ≡ segment_size_of old.log
      pub reserved : reserved_end log ≡ reserved_end old.log
      pub others : (t : Ticket) (x : Message) → Awaits old.log t.reservation x → (x.place ≡ m.place → ⊥) → Awaits log t.reservation x
      pub safe : (j : ℕ) (x : Message) → (x.place ≡ m.place → ⊥) → IsTicketFor (traces view) sum old k.history j x → IsSafe (traces view) sum log x
      pub begun : (x : Message) → x.page ≡ manifest_page → (m.page ≡ x.page → ⊥) → BeginsBatch old.log x → BeginsBatch log x
      pub are_all : fault_of log ≡ None → open_places log ≡ map (λ x. x.place) (open_messages (set k.tickets n None))
      pub heads : HasNoOther old.log log

    -- what is noted stays, so a manifest that is open begins its batch behind it
    begun_still : (log : Log D C) → noted_in log ≡ noted_in old.log → (x : Message) → BeginsBatch old.log x → BeginsBatch log x
    begun_still log noted x begun = record { kind = begun.kind; inline = begun.inline; apart = λ b known. begun.apart b (subst (λ (bs : List Batch). Contains bs b) noted known) }

    -- Where the log keeps a failure its reservations stay open, and no item has to be safe from a crash.
    keeps_failed : (log : Log D C) (e : IoError) → fault_of log ≡ Some e → KeepsTickets old.log log → HasNoOther old.log log → noted_in log ≡ noted_in old.log
        → reserved_end log ≡ reserved_end old.log → segment_size_of log ≡ segment_size_of old.log → Keeps log
    keeps_failed log e fault kept heads noted reserved size =
        let failed : fault_of log ≡ None → ⊥ = λ none. let both : None ≡ Some e = sym none ∙ fault in cc in
        record {
          size = size;
          reserved = reserved;
          others = λ t x awaits apart. kept.awaits t.reservation x awaits;
          safe = λ j x apart open_yet none. absurd (failed none);
          begun = λ x of ne begun. begun_still log noted x begun;
          are_all = λ none. absurd (failed none);
          heads = heads;
        }

    -- Where it keeps none, the reservation is ended.
    module _ (log : Log D C) (position : SamePosition old.log log) (fault : fault_of old.log ≡ None)
        (others : (t : Reservation) (x : Message) → Awaits old.log t x → place_of t ≢ place_of ticket.reservation → Awaits log t x)
        (safe : (j : ℕ) (x : Message) → (x.place ≡ m.place → ⊥) → IsTicketFor (traces view) sum old k.history j x → IsSafe (traces view) sum log x)
        (opens_left : TakesOut m.place (open_places old.log) (open_places log)) where
      pub outstanding : open_places log ≡ places_without m.place (open_places old.log)
      outstanding = taken_out m.place (open_places old.log) (open_places log) (subst AreRising (sym (at.tickets.are_all fault)) at.tickets.rising) opens_left

      pub keeps_ended : HasNoOther old.log log → ((x : Message) → x.page ≡ manifest_page → (m.page ≡ x.page → ⊥) → BeginsBatch old.log x → BeginsBatch log x) → Keeps log
      keeps_ended heads begun = record {
        size = position.size;
        reserved = position.reserved;
        others = λ t x awaits apart. others t.reservation x awaits (other_place t.reservation x awaits apart);
        safe = safe;
        begun = begun;
        are_all = λ none. outstanding ∙ ap (places_without m.place) (at.tickets.are_all fault) ∙ sym (spent_places k.tickets n m there at.tickets.rising);
        heads = heads;
      }

    -- So it is behind a mark, and once a pin went back.
    pub keeps_beside : (log new : Log D C) → KeepsBeside log new → Keeps log → Keeps new
    keeps_beside log new beside keeps =
        let kept = tickets_same log new beside in
        let on = goes_beside log new beside (traces view) sum in
        record {
          size = size_same log new beside ∙ keeps.size;
          reserved = beside.reserved ∙ keeps.reserved;
          others = λ t x awaits apart. kept.awaits t.reservation x (keeps.others t x awaits apart);
          safe = λ j x apart had_it. safe_on (traces view) sum log new x on (keeps.safe j x apart had_it);
          begun = λ x of ne was. let begins = keeps.begun x of ne was in record {
            kind = begins.kind;
            inline = begins.inline;
            apart = λ b known. begins.apart b (subst (λ (bs : List Batch). Contains bs b) (noted_same log new beside) known);
          };
          are_all = λ none. kept.opens ∙ keeps.are_all (on.sound none);
          heads = record {
            heads = among_further _ _ _ (other_same log new (line_same log new beside)).heads keeps.heads.heads;
            fillings = among_further _ _ _ (other_same log new (line_same log new beside)).fillings keeps.heads.fillings;
          };
        }

    -- A session is open with it.
    pub left_open : (log : Log D C) (pages : Vec PageState Global) (due : Option Due) → Keeps log → (H' : History) (U given : List Message) → AreUnmarked log H' due U
        → Fits (traces view) sum log H' k.acknowledged k.floor U → pins_of log ≡ length (open_messages (set k.tickets n None)) + length U
        → AreAmong (given_up_of log) given → IsMade H' → IsTable (map page_of pages.items) H' top
        → ((x : Message) → (m.page ≡ x.page → ⊥) → MayJoin k.history x → MayJoin H' x) → All (λ x. x.place + x.size ≤ reserved_end old.log) H'.messages
        → IsOpenAt (traces view) sum (now log pages due) (left_with H' given)
    left_open log pages due keeps H' U given unmarked fits pinned among made table joins ends = record {
      made = made;
      unmarked = U;
      due = unmarked;
      fits = fits;
      zeros = at.zeros;
      pinned = pinned;
      origin = takes.origin ∙ at.origin ∙ (λ i. record { size = sym keeps.size i; floor = k.floor });
      table = table;
      tickets = spent_tickets (traces view) sum old (now log pages due) k.history H' k.tickets n m there at.tickets takes.tickets busy batch keeps.reserved
          keeps.others keeps.safe joins keeps.begun keeps.are_all;
      given_up = among;
      heads = heads_left sum old.log log k.heads keeps.heads at.heads;
      ends = subst (λ e. All (λ x. x.place + x.size ≤ e) H'.messages) (sym keeps.reserved) ends;
    }

    -- its ticket is spent
    fewer : length (open_messages k.tickets) ≡ length (open_messages (set k.tickets n None)) + 1
    fewer = spent_count k.tickets n m there

    -- as many pages are begun
    as_many : (pages : Vec PageState Global) → map page_of pages.items ≡ map page_of old.pages.items → length pages.items ≡ length old.pages.items
    as_many pages pages_are = sym (length-map pages.items page_of) ∙ ap length pages_are ∙ length-map old.pages.items page_of

    -- Where no mark is due.
    module _ (none : old.due ≡ None) where
      pub all_marked : at.unmarked ≡ []
      all_marked = subst (λ (d : Option Due). AreUnmarked old.log k.history d at.unmarked) none at.due

      pub none_left : (log : Log D C) (H : History) → AreUnmarked log H mid.due at.unmarked
      none_left log H = subst (λ (d : Option Due). AreUnmarked log H d at.unmarked) (sym (takes.due ∙ none)) all_marked

      module _ (log : Log D C) (pages : Vec PageState Global) where
        -- the log with the pin of the ticket back
        abbrev pub given_back : Log D C
        given_back = record log { pins = pins_of log - 1 }

        -- and the session with it
        abbrev pub after : Opened D C
        after = now given_back pages mid.due

        pub back_beside : KeepsBeside log given_back
        back_beside = record { config = refl; segments = refl; reserved = refl; fault = refl; pins = refl; marks = refl; batches = refl; pool = refl }

        -- what the log fitted it fits
        pub back_pinned : pins_of log ≡ pins_of old.log → pins_of log - 1 ≡ length (open_messages (set k.tickets n None)) + length at.unmarked
        back_pinned pins = let out = at.pinned in let less = fewer in let all = ap (λ (U : List Message). length U) all_marked in omega (arith, pins, out, less, all)

        -- whatever gave it back
        pub back_from : (new : Log D C) → new ≡ given_back
            → ((H : History) (A f : ℕ) (U : List Message) → Fits (traces view) sum log H A f U → (U ≢ [] → 1 < pins_of log) → Fits (traces view) sum new H A f U)
            → (H : History) → Fits (traces view) sum log H k.acknowledged k.floor at.unmarked → Fits (traces view) sum given_back H k.acknowledged k.floor at.unmarked
        back_from new is fits H had_fits =
            subst (λ (x : Log D C). Fits (traces view) sum x H k.acknowledged k.floor at.unmarked) is (fits H k.acknowledged k.floor at.unmarked had_fits (λ some. absurd (some all_marked)))

        pub does_back : (new : Log D C) → new ≡ given_back → (c : Command) (r : Reply) → DoesHere view sum (Open old) c (Open after, r) k
            → DoesHere view sum (Open old) c (Open (now new pages mid.due), r) k
        does_back new is c r does = subst (λ (x : Log D C). DoesHere view sum (Open old) c (Open (now x pages mid.due), r) k) (sym is) does

        -- Where the log keeps a failure, the reservation stays open.
        module _ (back_fits : (H : History) → Fits (traces view) sum log H k.acknowledged k.floor at.unmarked → Fits (traces view) sum given_back H k.acknowledged k.floor at.unmarked) where
          kept_open : Keeps log → pins_of log ≡ pins_of old.log → AreAmong (given_up_of log) (given_up_of old.log) → map page_of pages.items ≡ map page_of old.pages.items
              → Fits (traces view) sum log k.history k.acknowledged k.floor at.unmarked → IsOpenAt (traces view) sum after (left k.history)
          kept_open keeps pins among pages_are fits =
              left_open given_back pages mid.due (keeps_beside log given_back back_beside keeps) k.history at.unmarked k.given_up (none_left given_back k.history) (back_fits k.history fits)
              (back_pinned pins) (λ x given. at.given_up x (among x given)) at.made (subst (λ (ps : List Page). IsTable ps k.history top) (sym pages_are) at.table) (λ x ne may. may) at.ends

          -- Where it kept one before nothing but the ticket and its pin is another.
          module _ (is : log ≡ old.log) (pages_are : map page_of pages.items ≡ map page_of old.pages.items) (e : IoError) (fault : fault_of old.log ≡ Some e) where
            pub failed_open : IsOpenAt (traces view) sum after (left k.history)
            failed_open = kept_open
                (keeps_failed log e (ap fault_of is ∙ fault)
                (record { awaits = λ t x awaits. subst (λ (y : Log D C). Awaits y t x) (sym is) awaits; opens = ap open_places is; given_up = λ x given. subst (λ (y : Log D C). Contains (given_up_of y) x) is given })
                (other_same old.log log (ap line_of is)) (ap noted_in is) (ap reserved_end is) (ap segment_size_of is))
                (ap pins_of is) (λ x given. subst (λ (y : Log D C). Contains (given_up_of y) x) is given) pages_are
                (subst (λ (x : Log D C). Fits (traces view) sum x k.history k.acknowledged k.floor at.unmarked) (sym is) at.fits)

            pub failed_leads : stands view (Open after) (left k.history)
                ≡ with_log (stands view (Open old) k) (view (config_of log).device) (Some (without_pin (spent (seen old k.tickets k.given_up k.heads) n ((seen old k.tickets k.given_up k.heads).status.opens) (length old.pages.items))))
            failed_leads i = record {
              device = view (config_of log).device;
              history = k.history;
              acknowledged = k.acknowledged;
              floor = k.floor;
              log = Some (without_pin (seen_log (is i) (as_many pages pages_are i) (set k.tickets n None) k.given_up k.heads));
              due = shown_due (takes.due i);
            }

          -- The blob that its reservation made is that of its message.
          removes_own : (r : Reply) (fault : Option IoError) (before after : DeviceView) → RemoveActs (own_blob ticket.reservation) fault before r after → RemoveActs (own_by (slice_get k.tickets n)) fault before r after
          removes_own r fault before after acts = subst (λ (o : Option ℤ). RemoveActs o fault before r after) (sym (ap own_by there ∙ own_is)) acts

          -- Its message isn't given up where the log kept a failure, or the device fails to remove its blob, which the log keeps now: the reservation stays open.
          pub abort_fails : (T : Type 0) (e : Error) → GivesUp {T = T} view sum (Err e) (own_blob ticket.reservation) old.log log → machine_at log ≡ machine_at old.log → map page_of pages.items ≡ map page_of old.pages.items
              → DoesHere view sum (Open old) (command.Abort n) (Open after, reply.Failed e) k
          abort_fails T (error.Io x) did machine pages_are =
              let before : DeviceView = view (config_of old.log).device in
              let behind : DeviceView = view (config_of log).device in
              let fault : fault_of log ≡ Some x = failure_kept x (own_blob ticket.reservation) (fault_of old.log) (fault_of log) before.failures behind.failures did.answers in
              let cause : RemovedAnswers {T = Unit {0}} (Err (error.Io x)) (own_blob ticket.reservation) (fault_of old.log) (Some x) before.failures behind.failures =
              subst (λ (o : Option IoError). RemovedAnswers {T = Unit {0}} (Err (error.Io x)) (own_blob ticket.reservation) (fault_of old.log) o before.failures behind.failures) fault did.answers in
              record {
                not_refused = refl;
                next = left k.history;
                step = (
                  removes_own (reply.Failed (error.Io x)) (fault_of old.log) before behind (removal_failed (own_blob ticket.reservation) (fault_of old.log) before behind x
                      (λ none. ap (λ c. view c.device) (did.removes.none none)) did.removes.calls cause (λ some. ap (λ (y : Log D C). view (config_of y).device) (did.err.1 some))),
                  record {
                    message = m;
                    reserved = there;
                    cause = subst (λ (o : Option ℤ). RemovedAnswers {T = Unit {0}} (Err (error.Io x)) o (fault_of old.log) (Some x) before.failures behind.failures) (sym own_is) cause;
                    leads = λ i. record {
                      device = behind;
                      history = k.history;
                      acknowledged = k.acknowledged;
                      floor = k.floor;
                      log = Some (without_pin (record {
                        status = record {
                          position = did.position.position i;
                          machine = machine i;
                          reserved = did.position.reserved i;
                          synced = did.seen.synced i;
                          noted = did.seen.noted i;
                          waiting = did.buffers.waiting i;
                          start = did.buffers.start i;
                          opens = did.err.0.opens i;
                          fault = fault i;
                          pins = did.seen.pins i;
                          account = did.seen.account i;
                        };
                        begun = as_many pages pages_are i;
                        tickets = set k.tickets n None;
                        given_up = k.given_up;
                        heads = k.heads;
                      }));
                      due = shown_due (takes.due i);
                    };
                  },
                );
                at = λ own. kept_open (keeps_failed log x fault did.err.0 did.heads did.seen.noted did.position.reserved did.position.size) did.seen.pins did.err.0.given_up pages_are
                    (did.keeps.fits k.history k.acknowledged k.floor at.unmarked at.fits beside_history);
                crash = λ own. did.keeps.crash k.history k.acknowledged k.floor at.unmarked at.fits beside_history;
              }
          abort_fails T _ did machine pages_are = absurd did.answers

          -- Its message isn't completed where the log keeps a failure.
          pub complete_fails : (T : Type 0) (e : Error) → FaultAnswers {T = T} (Err e) (fault_of old.log) → log ≡ old.log → map page_of pages.items ≡ map page_of old.pages.items
              → DoesHere view sum (Open old) (command.Complete n) (Open after, reply.Failed e) k
          complete_fails T (error.Io x) answers is pages_are = record {
            not_refused = refl;
            next = left k.history;
            step = (ap (λ (y : Log D C). view (config_of y).device) is, (answers, failed_leads is pages_are x answers));
            at = λ own. failed_open is pages_are x answers;
            crash = λ own. untouched (traces view) sum old k at (traces view (device_of log)) (ap (λ (y : Log D C). traces view (device_of y)) is);
          }
          complete_fails T _ answers is pages_are = absurd answers

      -- Where it keeps none, all else of the log stays as it is seen.
      module _ (log : Log D C) (pages : Vec PageState Global) (same : KeepsSeen old.log log) (kept : fault_of log ≡ fault_of old.log) (machine : machine_at log ≡ machine_at old.log)
          (position : SamePosition old.log log) (buffers : KeepsBuffers old.log log) (fault : fault_of old.log ≡ None)
          (others : (t : Reservation) (x : Message) → Awaits old.log t x → place_of t ≢ place_of ticket.reservation → Awaits log t x)
          (safe : (j : ℕ) (x : Message) → (x.place ≡ m.place → ⊥) → IsTicketFor (traces view) sum old k.history j x → IsSafe (traces view) sum log x)
          (opens_left : TakesOut m.place (open_places old.log) (open_places log)) where
        ended_view : (count : ℕ) (given : List Message) → length pages.items ≡ count
            → seen_log log (length pages.items) (set k.tickets n None) given k.heads
            ≡ record (spent (seen old k.tickets k.given_up k.heads) n (places_without m.place ((seen old k.tickets k.given_up k.heads).status.opens)) count) { given_up = given }
        ended_view count given is i = record {
          status = record {
            position = position.position i;
            machine = machine i;
            reserved = position.reserved i;
            synced = same.synced i;
            noted = same.noted i;
            waiting = buffers.waiting i;
            start = buffers.start i;
            opens = outstanding log position fault others safe opens_left i;
            fault = kept i;
            pins = same.pins i;
            account = same.account i;
          };
          begun = is i;
          tickets = set k.tickets n None;
          given_up = given;
          heads = k.heads;
        }

        -- Its message is given up.
        pub aborts : (place : ℤ) (pointer : DiskPtr) → IsAnswerFor m place pointer → map page_of pages.items ≡ map page_of old.pages.items
            → (Fits (traces view) sum log k.history k.acknowledged k.floor at.unmarked → Fits (traces view) sum (given_back log pages) k.history k.acknowledged k.floor at.unmarked)
            → GivesUp {T = ℤ × DiskPtr} view sum (Ok (place, pointer)) (own_blob ticket.reservation) old.log log → AreAmong (given_up_of log) (in_log m ∷ given_up_of old.log)
            → DoesHere view sum (Open old) (command.Abort n) (Open (after log pages), reply.Done place pointer) k
        aborts place pointer answer pages_are back did gives =
            let given : List Message = in_log m ∷ k.given_up in
            let seen_is = ended_view (length old.pages.items) given (as_many pages pages_are) in
            record {
              not_refused = refl;
              next = left_with k.history given;
              step = (
                subst (λ (o : Option ℤ). RemoveActs o (fault_of old.log) (view (config_of old.log).device) (reply.Done place pointer) (view (config_of log).device)) (sym (ap own_by there ∙ own_is))
                    (removal_done (own_blob ticket.reservation) (fault_of old.log) (view (config_of old.log).device) (view (config_of log).device) place pointer
                    (λ none. ap (λ c. view c.device) (did.removes.none none)) did.removes.done did.answers.2),
                record {
                  message = m;
                  reserved = there;
                  fault = fault;
                  answer = answer;
                  leads = λ i. record {
                    device = view (config_of log).device;
                    history = k.history;
                    acknowledged = k.acknowledged;
                    floor = k.floor;
                    log = Some (without_pin (seen_is i));
                    due = shown_due (takes.due i);
                  };
                },
              );
              at = λ own. left_open (given_back log pages) pages mid.due
                  (keeps_beside log (given_back log pages) (back_beside log pages) (keeps_ended log position fault others safe opens_left did.heads (λ x of ne begun. begun_still log same.noted x begun)))
                  k.history at.unmarked given (none_left (given_back log pages) k.history) (back (did.keeps.fits k.history k.acknowledged k.floor at.unmarked at.fits beside_history)) (back_pinned log pages same.pins)
                  (one_more (in_log m) (given_up_of log) (given_up_of old.log) k.given_up gives at.given_up) at.made
                  (subst (λ (ps : List Page). IsTable ps k.history top) (sym pages_are) at.table) (λ x ne may. may) at.ends;
              crash = λ own. did.keeps.crash k.history k.acknowledged k.floor at.unmarked at.fits beside_history;
            }

        -- It comes to the history, and is marked, or its mark is due.
        module _ (config : config_of log ≡ config_of old.log) (among : AreAmong (given_up_of log) (given_up_of old.log)) (heads : HasNoOther old.log log) (changes : m.page ≢ manifest_page)
            (place : ℤ) (pointer : DiskPtr) (answer : IsAnswerFor m place pointer) (H' : History) (step : Step k.history (Completed m) H')
            (fits : Fits (traces view) sum log H' k.acknowledged k.floor (m ∷ at.unmarked)) (e : Entry) (e_is : e ≡ entry_of m)
            (applied : map page_of pages.items ≡ applied_to (map page_of old.pages.items) ticket.kind ticket.page e)
            (d : Due) (d_kind : d.kind ≡ ticket.kind) (d_page : d.page ≡ ticket.page) (d_new : d.new ≡ record { lsn = e.0; pointer = e.1; log_size = e.2 })
            (d_old : d.old.items ≡ replacing ticket.kind (told_state old.origin.size old.origin.floor ticket.page (slice_get old.pages.items ticket.page))) where
          abbrev known : List Page
          known = map page_of old.pages.items

          may : MayJoin k.history m
          may = had.joins changes

          made : IsMade H'
          made = made_completed k.history H' m at.made may step (fits_apart (traces view) sum log H' k.acknowledged k.floor (m ∷ at.unmarked) fits)

          entry : map page_of pages.items ≡ applied_to known m.kind m.page (entry_of m)
          entry = applied ∙ (λ i. applied_to known (of_kind i) (of_page i) (e_is i))

          completed_table : IsTable (map page_of pages.items) H' top
          completed_table = subst (λ (ps : List Page). IsTable ps H' top) (sym entry) (table_completed k.history H' m known at.made may step at.table)

          begun_count : length pages.items ≡ (if m.page == length old.pages.items then length old.pages.items + 1 else length old.pages.items)
          begun_count =
              let linked : m.kind ≡ does.Link → m.page < length known = λ link. ⊎_elim (λ replaces. absurd (let both : does.Link ≡ does.Replace = sym link ∙ replaces in cc))
              (λ has. (at.table.begun m.page).1 (page_of_replace k.history m.page m.place at.made has)) may.own in
              let count : length known ≡ length old.pages.items = length-map old.pages.items page_of in
              sym (length-map pages.items page_of) ∙ ap length entry ∙ applied_length known m.kind m.page (entry_of m) may.changes linked
              ∙ ap (λ j. if m.page == j then j + 1 else j) count

          completed_ends : All (λ x. x.place + x.size ≤ reserved_end old.log) H'.messages
          completed_ends = all_from_in (λ x. x.place + x.size ≤ reserved_end old.log) H'.messages (λ x there_now. ⊎_elim
              (λ is. subst (λ (z : Message). z.place + z.size ≤ reserved_end old.log) is had.ends)
              (λ was. All-contains (λ z. z.place + z.size ≤ reserved_end old.log) k.history.messages x at.ends was) (came k.history H' m step x there_now))

          -- its mark takes the place of all that its page was
          former_is : d.old.items ≡ replacing m.kind (map (told_message (segment_size_of old.log) k.floor) (page_now k.history m.page))
          former_is =
              d_old ∙ (λ i. replacing (of_kind i) (told_state (at.origin i).size (at.origin i).floor (of_page i) (slice_get old.pages.items (of_page i))))
              ∙ ap (replacing m.kind) (state_told (segment_size_of old.log) k.floor k.history old.pages.items m.page at.made at.table)

          info_is : d.new ≡ info_of m
          info_is = d_new ∙ (λ i. record { lsn = (e_is i).0; pointer = (e_is i).1; log_size = (e_is i).2 })

          mark_is : mark_of d ≡ mark_for (segment_size_of old.log) k.floor k.history m
          mark_is i = record { kind = (d_kind ∙ of_kind) i; page = (d_page ∙ of_page) i; old = former_is i; new = info_is i }

          -- so it is the one message that isn't marked
          pub unmarked_now : IsUnmarked log H' d m
          unmarked_now = record {
            there = new_there k.history H' m step;
            is = (sym (d_page ∙ of_page), info_is);
            kind = d_kind ∙ of_kind;
            newest = λ x there_now page. may.later x (was_there k.history H' m step x there_now) page;
            beside = λ link. former_is ∙ ap (λ (kind : LogKind). replacing kind (map (told_message (segment_size_of old.log) k.floor) (page_now k.history m.page))) link;
            former = λ begins. subst (IsFormerList (without (m ∷ []) H') m.page) (sym (former_is ∙ replacing_all m.kind _ begins)) (former_told k.history H' m step (segment_size_of old.log) k.floor at.made);
            sound = kept ∙ fault;
          }

          abbrev count_now : ℕ
          count_now = if m.page == length old.pages.items then length old.pages.items + 1 else length old.pages.items

          keeps_now : (new : Log D C) → KeepsBeside log new → Keeps new
          keeps_now new beside = keeps_beside log new beside (keeps_ended log position fault others safe opens_left heads (λ x of ne begun. begun_still log same.noted x begun))

          open_now : (new : Log D C) (due : Option Due) (U : List Message) → KeepsBeside log new → AreUnmarked new H' due U → Fits (traces view) sum new H' k.acknowledged k.floor U
              → pins_of new ≡ length (open_messages (set k.tickets n None)) + length U → IsOpenAt (traces view) sum (now new pages due) (left H')
          open_now new due U beside unmarked fits_now pinned =
              left_open new pages due (keeps_now new beside) H' U k.given_up unmarked fits_now pinned
              (λ x given. at.given_up x (among x ((tickets_same log new beside).given_up x given))) made completed_table
              (λ x ne next. join_still k.history H' m x may step ne next) completed_ends

          -- the log then, as it is seen, but for the mark
          completed_seen : seen_log log (length pages.items) (set k.tickets n None) k.given_up k.heads
              ≡ spent (seen old k.tickets k.given_up k.heads) n (places_without m.place ((seen old k.tickets k.given_up k.heads).status.opens)) count_now
          completed_seen = ended_view count_now k.given_up begun_count

          device_now : (new : Log D C) → KeepsBeside log new → view (config_of new).device ≡ view (config_of old.log).device
          device_now new beside = ap (λ c. view c.device) (beside.config ∙ config)

          now_pinned : pins_of log ≡ length (open_messages (set k.tickets n None)) + 1
          now_pinned = let pins = same.pins in let out = at.pinned in let less = fewer in let all = ap (λ (U : List Message). length U) all_marked in omega (arith, pins, out, less, all)

          does_now : (new : Log D C) (due : Option Due) → (beside : KeepsBeside log new)
              → ((stands view (Open (now new pages due)) (left H') ≡ record (stands view (Open old) k) {
                device = view (config_of new).device;
                history = H';
                log = Some (marking (segment_size_of old.log) (mark_for (segment_size_of old.log) k.floor k.history m) (spent (seen old k.tickets k.given_up k.heads) n (places_without m.place ((seen old k.tickets k.given_up k.heads).status.opens)) count_now));
              })
              ⊎ (stands view (Open (now new pages due)) (left H') ≡ record (stands view (Open old) k) {
                device = view (config_of new).device;
                history = H';
                log = Some (spent (seen old k.tickets k.given_up k.heads) n (places_without m.place ((seen old k.tickets k.given_up k.heads).status.opens)) count_now);
                due = Some (mark_for (segment_size_of old.log) k.floor k.history m);
              }))
              → IsOpenAt (traces view) sum (now new pages due) (left H')
              → DoesHere view sum (Open old) (command.Complete n) (Open (now new pages due), reply.Done place pointer) k
          does_now new due beside leads open_then = record {
            not_refused = refl;
            next = left H';
            step = (
              device_now new beside,
              record {
                message = m;
                reserved = there;
                fault = fault;
                answer = answer;
                history = H';
                step = step;
                log = spent (seen old k.tickets k.given_up k.heads) n (places_without m.place ((seen old k.tickets k.given_up k.heads).status.opens)) count_now;
                is = refl;
                leads = leads;
              },
            );
            at = λ own. open_then;
            crash = λ own. untouched (traces view) sum old k at (traces view (device_of new)) (ap (λ c. traces view c.device) (beside.config ∙ config));
          }

          completes_marked : (new : Log D C) (due : Option Due) → KeepsBeside log new → IsMarked (traces view) sum log d new H' k.acknowledged k.floor → due ≡ mid.due
              → DoesHere view sum (Open old) (command.Complete n) (Open (now new pages due), reply.Done place pointer) k
          completes_marked new due beside marked same_due =
              let none_now : due ≡ None = same_due ∙ takes.due ∙ none in
              does_now new due beside
              (inl (λ i. record {
                device = view (config_of new).device;
                history = H';
                acknowledged = k.acknowledged;
                floor = k.floor;
                log = Some ((seen_marked log new beside (length pages.items) (set k.tickets n None) k.given_up k.heads (mark_of d) marked.machine marked.pins
                    ∙ (λ j. marking (position.size j) (mark_is j) (completed_seen j))) i);
                due = shown_due ((same_due ∙ takes.due) i);
              }))
              (open_now new due [] beside (subst (λ (o : Option Due). AreUnmarked new H' o []) (sym none_now) refl) marked.fits
              (let pins = marked.pins in let out = now_pinned in omega (arith, pins, out)))

          completes_due : (new : Log D C) (due : Option Due) → KeepsBeside log new → StaysUnmarked (traces view) sum log d d new H' k.acknowledged k.floor m → due ≡ Some d
              → DoesHere view sum (Open old) (command.Complete n) (Open (now new pages due), reply.Done place pointer) k
          completes_due new due beside stays due_is =
              does_now new due beside
              (inr (λ i. record {
                device = view (config_of new).device;
                history = H';
                acknowledged = k.acknowledged;
                floor = k.floor;
                log = Some ((seen_same log new beside (length pages.items) (set k.tickets n None) k.given_up k.heads stays.machine stays.pins ∙ completed_seen) i);
                due = (ap shown_due due_is ∙ ap (λ (x : DueMark). Some x) mark_is) i;
              }))
              (open_now new due (m ∷ []) beside (subst (λ (o : Option Due). AreUnmarked new H' o (m ∷ [])) (sym due_is) (m, refl, unmarked_beside log new beside H' d m unmarked_now)) stays.fits
              (let pins = stays.pins in let out = now_pinned in omega (arith, pins, out)))

          pub completes : (new : Opened D C) (made_it : Bool) → new ≡ record (now log pages mid.due) { log = new.log; due = new.due } → KeepsBeside log new.log
              → ((H : History) (A f : ℕ) (x : Message) → Fits (traces view) sum log H A f (x ∷ []) → IsUnmarked log H d x → IsMade H → Settles (traces view) sum (now log pages mid.due) d made_it new H A f x)
              → DoesHere view sum (Open old) (command.Complete n) (Open new, reply.Done place pointer) k
          completes new made_it rest beside settles =
              subst (λ (o : Opened D C). DoesHere view sum (Open old) (command.Complete n) (Open o, reply.Done place pointer) k) (sym rest)
              (by made_it (settles H' k.acknowledged k.floor m (subst (λ (U : List Message). Fits (traces view) sum log H' k.acknowledged k.floor (m ∷ U)) all_marked fits) unmarked_now made)) where
                by : (b : Bool) → Settles (traces view) sum (now log pages mid.due) d b new H' k.acknowledged k.floor m
                    → DoesHere view sum (Open old) (command.Complete n) (Open (now new.log pages new.due), reply.Done place pointer) k
                by true settled = completes_marked new.log new.due beside settled.0 settled.1
                by false settled = completes_due new.log new.due beside settled.0 settled.1

-- Room for a page.

module _ {D C : Type 0} (view : D → DeviceView) (sum : List ℕ → ℕ) (old new : Opened D C) (kept : KeepsPages old new) (k : Unstored) where
  kept_tickets : HasTickets (traces view) sum old k.history k.tickets → HasTickets (traces view) sum new k.history k.tickets
  kept_tickets was = record {
    as_many = ap (λ x. length x.items) kept.tickets ∙ was.as_many;
    each = λ n m at. let had = was.each n m at in record {
      ticket = had.ticket;
      there = ap (λ x. slice_get x.items n) kept.tickets ∙ had.there;
      kind = had.kind;
      page = had.page;
      awaits = subst (λ (x : Log D C). Awaits x had.ticket.reservation m) (sym kept.log) had.awaits;
      own = had.own;
      stored = subst (λ (x : Log D C). IsSafe (traces view) sum x m) (sym kept.log) had.stored;
      joins = had.joins;
      begins_batch = λ is. subst (λ (x : Log D C). BeginsBatch x m) (sym kept.log) (had.begins_batch is);
      begins = subst (λ (x : Log D C). m.place + 1 < reserved_end x) (sym kept.log) had.begins;
      ends = subst (λ (x : Log D C). m.place + m.size ≤ reserved_end x) (sym kept.log) had.ends;
    };
    gone = λ n at. ap (λ x. slice_get x.items n) kept.tickets ∙ was.gone n at;
    apart = was.apart;
    rising = was.rising;
    are_all = subst (λ (x : Log D C). fault_of x ≡ None → open_places x ≡ map (λ m. m.place) (open_messages k.tickets)) (sym kept.log) was.are_all;
    busy = λ page message. ap (λ x. get_or x.items page false) kept.busy ∙ was.busy page message;
    batch = subst (HasBatch k.tickets) (sym kept.batch) was.batch;
  }

  -- leaves all as it is seen,
  room_due : (U : List Message) → AreUnmarked old.log k.history old.due U → AreUnmarked new.log k.history new.due U
  room_due U due = subst (λ (o : Option Due). AreUnmarked new.log k.history o U) (sym kept.due) (subst (λ (x : Log D C). AreUnmarked x k.history old.due U) (sym kept.log) due)

  pub room_open : IsOpenAt (traces view) sum old k → IsOpenAt (traces view) sum new k
  room_open at = record {
    made = at.made;
    unmarked = at.unmarked;
    due = room_due at.unmarked at.due;
    fits = subst (λ (x : Log D C). Fits (traces view) sum x k.history k.acknowledged k.floor at.unmarked) (sym kept.log) at.fits;
    zeros = at.zeros;
    pinned = ap pins_of kept.log ∙ at.pinned;
    origin = kept.origin ∙ at.origin ∙ (λ i. record { size = segment_size_of (sym kept.log i); floor = k.floor });
    table = subst (λ (ps : List Page). IsTable ps k.history top) (sym kept.pages) at.table;
    tickets = kept_tickets at.tickets;
    given_up = subst (λ (x : Log D C). AreAmong (given_up_of x) k.given_up) (sym kept.log) at.given_up;
    heads = subst (λ (x : Log D C). HasHeads sum x k.heads) (sym kept.log) at.heads;
    ends = subst (λ (x : Log D C). All (λ y. y.place + y.size ≤ reserved_end x) k.history.messages) (sym kept.log) at.ends;
  }

  room_begun : length new.pages.items ≡ length old.pages.items
  room_begun = sym (length-map new.pages.items page_of) ∙ ap length kept.pages ∙ length-map old.pages.items page_of

  room_stands : stands view (Open new) k ≡ stands view (Open old) k
  room_stands i = record {
    device = view (config_of (kept.log i)).device;
    history = k.history;
    acknowledged = k.acknowledged;
    floor = k.floor;
    log = Some (seen_log (kept.log i) (room_begun i) k.tickets k.given_up k.heads);
    due = shown_due (kept.due i);
  }

  -- so what a completion comes to then it comes to,
  pub room_does : (n : ℕ) (result : Phase D C × Reply) → DoesHere view sum (Open new) (command.Complete n) result k → DoesHere view sum (Open old) (command.Complete n) result k
  room_does n result did =
      let same : (segment_size_of new.log, stands view (Open new) k) ≡ (segment_size_of old.log, stands view (Open old) k) = λ i. (segment_size_of (kept.log i), room_stands i) in
      record {
        not_refused = did.not_refused;
        next = did.next;
        step = subst (λ (z : ℕ × RunState). StepBy sum z.0 z.1 z.1.log (command.Complete n) result.1 (device_in view result.0) (stands view result.0 did.next)) same did.step;
        at = λ own. did.at tt;
        crash = λ own. subst (λ (z : ℕ × RunState). StaysWithin sum z.0 z.1 (command.Complete n) (device_in view result.0) (stands view result.0 did.next)) same (did.crash tt);
      }

  -- and where memory for it was refused nothing is done.
  pub room_fails : (n : ℕ) → fault_of old.log ≡ None → IsOpenAt (traces view) sum old k → DoesHere view sum (Open old) (command.Complete n) (Open new, reply.Failed error.OutOfMemory) k
  room_fails n whole at = record {
    not_refused = refl;
    next = k;
    step = (ap (λ (y : Log D C). view (config_of y).device) kept.log, (whole, room_stands));
    at = λ own. room_open at;
    crash = λ own. untouched (traces view) sum old k at (traces view (device_of new.log)) (ap (λ (y : Log D C). traces view (device_of y)) kept.log);
  }
