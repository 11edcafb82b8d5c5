-- What it comes to where a batch is ended.
use Rattle.std.proofs.Common.{◌≡◌, ◌≢◌, ◌∙◌, ◌<◌, ◌≤◌, ◌&&◌, ◌-◌, ◌+◌, ◌-ℤ◌, ◌<ℤ◌, int_lt, unsigned_abs, ⊎_elim, inl, ℕ, ℤ, pos, zero, suc, Bool, true, false, not, if◌then◌else◌, List, length, map, set, refl, sym, ap, subst, arith, Option, None, Some, Err}
use Rattle.std.specs.List.{All, slice_get}
use Rattle.std.proofs.lemmas.Int.{ints}
use Rattle.sled_codec.specs.declared.result.DiskPtr.{DiskPtr}
use Rattle.sled_codec.specs.declared.result.Error.{Error}
use Rattle.sled_codec.specs.declared.result.Error.TheVariants as error
use Rattle.sled_codec.specs.History.{Batch, Batched, History, Message, Step}
use Rattle.sled_codec.specs.PageTables.{IsTable}
use Rattle.sled_codec.specs.Snapshots.{page_of}
use Rattle.sled_core.specs.declared.logger.Log.{Log}
use Rattle.sled_core.specs.declared.reservation.Reservation.{Reservation}
use Rattle.sled_core.specs.Batches.{EndsBatch, MayEndAt, NotesBatchOf, batch_for, with_batch_for}
use Rattle.sled_core.specs.Causes.{FaultAnswers}
use Rattle.sled_core.specs.Fits.{Awaits, KeepsBuffers, config_of, device_of, fault_of, given_up_of, machine_at, noted_in, open_places, reserved_end}
use Rattle.sled_core.specs.Among.{AreAmong}
use Rattle.sled_core.specs.Keeps.{SamePosition}
use Rattle.sled_core.specs.Manifests.{is_manifest, manifest_page}
use Rattle.sled_core.specs.OpenBatches.{with_batch}
use Rattle.sled_core.specs.OpenPlaces.{TakesOut}
use Rattle.sled_core.specs.invariants.Running.{Fits}
use Rattle.sled_core.specs.Tickets.{is_manifest_of, place_of}
use Rattle.sled_core.proofs.PublicLaws.{awaited, end_off}
use Rattle.sled_log.specs.declared.session.opened.Opened.{Opened}
use Rattle.sled_log.specs.declared.session.tickets.Ticket.{Ticket}
use Rattle.sled_log.specs.declared.session.Phase.TheVariants.{Open}
use Rattle.sled_log.specs.declared.session.command.Command.TheVariants as command
use Rattle.sled_log.specs.declared.session.command.Refusal.TheVariants as why
use Rattle.sled_log.specs.declared.session.command.Reply.TheVariants as reply
use Rattle.sled_log.specs.Endings.{TakesTicket}
use Rattle.sled_log.specs.Refusals.{when}
use Rattle.sled_log.specs.RunPhases.{DoesHere, HasBatch, IsOpenAt, IsSafe, IsTicketFor, Unstored, seen, seen_log, shown_due, traces}
use Rattle.sled_log.specs.SessionMarks.{without_pin}
use Rattle.sled_log.specs.RunStates.{DeviceView, LogView, in_batch, places_without, top}
use Rattle.sled_log.specs.TicketSteps.{HasBegun, IsAnswerFor, batch_ended_by, noting, spent}
use Rattle.sled_log.proofs.Sessions.EndedTickets.{after, awaits_it, back_beside, back_pinned, failed_leads, failed_open, given_back, keeps_beside, keeps_ended, left, left_open, none_left, outstanding}
use Rattle.sled_log.proofs.Sessions.MadeBatches.{joins_still, made_still, table_still}
use Rattle.sled_log.proofs.Sessions.Within.{untouched}
use Rattle.sled_log.proofs.Sessions.BegunHeads.{HasNoOther}

-- one less than a place that isn't the first
one_less : (e : ℕ) → 0 < e → pos e -ℤ pos 1 ≡ pos (e - 1)
one_less zero some = absurd (omega (arith, some))
one_less (suc e) some = omega (arith, ints)

-- The manifest of a batch that may be ended has an open ticket, which the session knows.
pub batch_there : (stopped : Bool) (ts : List (Option Message)) (batch : Option ℕ) → HasBatch ts batch → when (stopped && true) why.Stopped (when (not (in_batch ts)) why.Batch None) ≡ None
    → (n : ℕ) × (batch ≡ Some n) × ((m : Message) × (slice_get ts n ≡ Some (Some m)) × (m.page ≡ manifest_page))
batch_there stopped ts (Some n) has asked = (n, refl, has)
batch_there stopped ts None has asked = absurd (by stopped (in_batch ts) has asked) where
  by : (s b : Bool) → b ≡ false → when (s && true) why.Stopped (when (not b) why.Batch None) ≡ None → ⊥
  by true b none is = cc
  by false true none is = cc
  by false false none is = cc

module _ {D C : Type 0} (view : D → DeviceView) (sum : List ℕ → ℕ) (old : Opened D C) (k : Unstored) (at : IsOpenAt (traces view) sum old k) (n : ℕ) (m : Message) (there : slice_get k.tickets n ≡ Some (Some m)) (manifest : m.page ≡ manifest_page)
    (mid : Opened D C) (ticket : Ticket) (takes : TakesTicket old n mid (Some ticket)) where
  abbrev l : LogView
  l = seen old k.tickets k.given_up k.heads

  abbrev begun : HasBegun l
  begun = record { ticket = n; message = m; reserved = there; manifest = manifest }

  abbrev peg : ℤ
  peg = pos (reserved_end old.log) -ℤ pos 1

  had : IsTicketFor (traces view) sum old k.history n m
  had = at.tickets.each n m there

  awaits : Awaits old.log ticket.reservation m
  awaits = awaits_it view sum old k at n m there mid ticket takes

  placed : pos m.place ≡ place_of ticket.reservation
  placed = (awaited old.log ticket.reservation m awaits).0

  -- It is a manifest's,
  pub is_batch : is_manifest_of ticket.reservation ≡ true
  is_batch = (awaited old.log ticket.reservation m awaits).3 ∙ (λ i. is_manifest ((had.begins_batch manifest).kind i) (manifest i))

  -- which lies in front of its peg,
  pub behind : place_of ticket.reservation <ℤ peg
  behind = let low = had.begins in subst (λ (z : ℤ). z <ℤ peg) placed (omega (arith, ints, low))

  -- and its batch may end there.
  pub may_end : MayEndAt old.log ticket.reservation peg
  may_end = record {
    above = (let low = behind in omega (arith, ints, low));
    reserved = omega (arith, ints);
    filled = end_off old.log;
    apart = λ b known. inl (subst (λ (z : ℤ). pos b.peg <ℤ z) placed (let low = (had.begins_batch manifest).apart b known in omega (arith, ints, low)));
  }

  -- The batch is seen.
  batch_is : batch_for ticket.reservation peg ≡ batch_ended_by l m
  batch_is =
      let some : 0 < reserved_end old.log = (let low = had.begins in omega (arith, low)) in
      λ i. record { low = unsigned_abs (sym placed i); peg = unsigned_abs (one_less (reserved_end old.log) some i) }

  noted_one : (bs : List Batch) → with_batch_for ticket.reservation peg bs ≡ with_batch (batch_ended_by l m) bs
  noted_one bs = by (int_lt (place_of ticket.reservation) peg) refl ∙ ap (λ b. with_batch b bs) batch_is where
    by : (o : Bool) → int_lt (place_of ticket.reservation) peg ≡ o → (if o then with_batch (batch_for ticket.reservation peg) bs else bs) ≡ with_batch (batch_for ticket.reservation peg) bs
    by true is = refl
    by false is = absurd (let low = behind in grind (arith, ints, is, low))

  -- Where no mark is due.
  module _ (none : old.due ≡ None) where
    -- Where the log keeps a failure the ticket is spent, with its pin.
    pub end_fails : (log : Log D C) (T : Type 0) (e : Error)
        → ((H : History) → Fits (traces view) sum log H k.acknowledged k.floor at.unmarked → Fits (traces view) sum (given_back view sum old k at n m there mid ticket takes none log mid.pages) H k.acknowledged k.floor at.unmarked)
        → FaultAnswers {T = T} (Err e) (fault_of old.log) → log ≡ old.log
        → DoesHere view sum (Open old) command.EndBatch (Open (after view sum old k at n m there mid ticket takes none log mid.pages), reply.Failed e) k
    end_fails log T (error.Io x) back answers is =
        let pages = ap (λ p. map page_of p.items) takes.pages in
        record {
          not_refused = refl;
          next = left view sum old k at n m there mid ticket takes k.history;
          step = (ap (λ (y : Log D C). view (config_of y).device) is, (answers, (begun, failed_leads view sum old k at n m there mid ticket takes none log mid.pages back is pages x answers)));
          at = λ own. failed_open view sum old k at n m there mid ticket takes none log mid.pages back is pages x answers;
          crash = λ own. untouched (traces view) sum old k at (traces view (device_of log)) (ap (λ (y : Log D C). traces view (device_of y)) is);
        }
    end_fails log T _ back answers is = absurd answers

    -- Where it keeps none, the batch comes to the history, and is noted.
    module _ (log : Log D C) (notes : NotesBatchOf ticket.reservation peg old.log log) (machine : machine_at log ≡ machine_at old.log) (position : SamePosition old.log log)
        (buffers : KeepsBuffers old.log log) (fault : fault_of old.log ≡ None)
        (others : (t : Reservation) (x : Message) → Awaits old.log t x → place_of t ≢ place_of ticket.reservation → Awaits log t x)
        (safe : (j : ℕ) (x : Message) → (x.place ≡ m.place → ⊥) → IsTicketFor (traces view) sum old k.history j x → IsSafe (traces view) sum log x)
        (opens_left : TakesOut m.place (open_places old.log) (open_places log)) (among : AreAmong (given_up_of log) (given_up_of old.log)) (heads : HasNoOther old.log log) where
      ended_view : seen_log log (length mid.pages.items) (set k.tickets n None) k.given_up k.heads ≡ noting (batch_ended_by l m) (spent l n (places_without m.place l.status.opens) (length old.pages.items))
      ended_view i = record {
        status = record {
          position = position.position i;
          machine = machine i;
          reserved = position.reserved i;
          synced = notes.synced i;
          noted = (notes.noted ∙ noted_one (noted_in old.log)) i;
          waiting = buffers.waiting i;
          start = buffers.start i;
          opens = outstanding view sum old k at n m there mid ticket takes log position fault others safe opens_left i;
          fault = notes.fault i;
          pins = notes.pins i;
          account = notes.account i;
        };
        begun = length (takes.pages i).items;
        tickets = set k.tickets n None;
        given_up = k.given_up;
        heads = k.heads;
      }

      step_from : (H' : History) → EndsBatch k.history ticket.reservation peg H' → Step k.history (Batched (batch_ended_by l m)) H'
      step_from H' ends = ⊎_elim
          (λ canceled. absurd (let low = behind in let same = canceled.0 in omega (arith, ints, low, same)))
          (λ step. subst (λ b. Step k.history (Batched b) H') batch_is step.1) ends

      messages_stay : (H' : History) → Step k.history (Batched (batch_ended_by l m)) H' → H'.messages ≡ k.history.messages
      unfolding Step
      messages_stay H' step = step.messages

      pub ends_batch : (place : ℤ) (pointer : DiskPtr) → IsAnswerFor m place pointer → (H' : History) → EndsBatch k.history ticket.reservation peg H'
          → Fits (traces view) sum (given_back view sum old k at n m there mid ticket takes none log mid.pages) H' k.acknowledged k.floor at.unmarked
          → DoesHere view sum (Open old) command.EndBatch (Open (after view sum old k at n m there mid ticket takes none log mid.pages), reply.Done place pointer) k
      ends_batch place pointer answer H' ends fits =
          let step = step_from H' ends in
          let same = messages_stay H' step in
          let back : Log D C = given_back view sum old k at n m there mid ticket takes none log mid.pages in
          record {
            not_refused = refl;
            next = left view sum old k at n m there mid ticket takes H';
            step = (
              ap (λ c. view c.device) notes.config,
              record {
                begun = begun;
                fault = fault;
                answer = answer;
                history = H';
                step = step;
                leads = λ i. record {
                  device = view (config_of log).device;
                  history = H';
                  acknowledged = k.acknowledged;
                  floor = k.floor;
                  log = Some (without_pin (ended_view i));
                  due = shown_due (takes.due i);
                };
              },
            );
            at = λ own. left_open view sum old k at n m there mid ticket takes back mid.pages mid.due
                (keeps_beside view sum old k at n m there mid ticket takes log back (back_beside view sum old k at n m there mid ticket takes none log mid.pages)
                (keeps_ended view sum old k at n m there mid ticket takes log position fault others safe opens_left heads (λ x of ne was. absurd (ne (manifest ∙ sym of)))))
                H' at.unmarked k.given_up (none_left view sum old k at n m there mid ticket takes none back H') fits
                (back_pinned view sum old k at n m there mid ticket takes none log mid.pages notes.pins) (λ x given. at.given_up x (among x given))
                (made_still k.history H' same at.made)
                (subst (λ p. IsTable (map page_of p.items) H' top) (sym takes.pages) (table_still k.history H' same (map page_of old.pages.items) top at.table))
                (λ x ne may. joins_still k.history H' same x may)
                (subst (λ ms. All (λ x. x.place + x.size ≤ reserved_end old.log) ms) (sym same) at.ends);
            crash = λ own. untouched (traces view) sum old k at (traces view (device_of log)) (ap (λ c. traces view c.device) notes.config);
          }
