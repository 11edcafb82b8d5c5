-- The headline of a run follows from what each of its commands comes to.
use Rattle.std.proofs.Common.{rules, ◌≡◌, ◌∙◌, ◌⊎◌, ◌+◌, ◌≤◌, ◌<◌, nat_lt, if◌then◌else◌, arith, ℕ, ℤ, pos, max, Bool, true, false, List, [], ◌∷◌, length, Option, None, Some, refl, sym, ap, subst, inl, inr}
use Rattle.std.specs.List.{Contains}
use Rattle.std.specs.Prelude.{◌≤ℤ◌, ◌<ℤ◌, IsTrue, is_none, not, set, slice_get}
use Rattle.std.specs.declared.io.Error.{Error as IoError}
use Rattle.std.proofs.lemmas.Int.{ints}
use Rattle.std.proofs.lemmas.List.Elements.{All-contains}
use Rattle.std.proofs.lemmas.Option.{same_Some}
use Rattle.sled_codec.specs.declared.result.DiskPtr.{DiskPtr}
use Rattle.sled_codec.specs.declared.result.Error.{Error}
use Rattle.sled_codec.specs.declared.result.Error.TheVariants as error
use Rattle.sled_codec.specs.declared.serialization.message.LogKind.{LogKind}
use Rattle.sled_codec.specs.declared.serialization.message.LogKind.TheVariants as does
use Rattle.sled_codec.specs.Spelling.{short_bytes}
use Rattle.sled_codec.specs.History.{Batch, Batched, Completed, History, HistoryEvent, Message, Step}
use Rattle.sled_store.specs.declared.device.choice.Choice.{Choice}
use Rattle.sled_store.specs.Device.{State, state_of}
use Rattle.sled_core.specs.Fits.{reserved_end}
use Rattle.sled_core.specs.Ledger.{ledger_behind}
use Rattle.sled_core.specs.Manifests.{manifest_page}
use Rattle.sled_core.specs.Positions.{Position}
use Rattle.sled_core.specs.Recoverable.{ReadsOnlyOwn}
use Rattle.sled_core.specs.Running.{end_below}
use Rattle.sled_core.specs.Waiting.{BufferAt, front_below, one_around}
use Rattle.sled_core.specs.LogStatus.{failing, ledger_around, ledger_below, stable_in, wrote_around, wrote_below}
use Rattle.sled_core.proofs.PublicLaws.{message_acknowledged}
use Rattle.sled_log.specs.declared.session.Session.{Session}
use Rattle.sled_log.specs.declared.session.Phase.{Phase}
use Rattle.sled_log.specs.declared.session.Phase.TheVariants as phase
use Rattle.sled_log.specs.declared.session.command.Command.{Command}
use Rattle.sled_log.specs.declared.session.command.Command.TheVariants as command
use Rattle.sled_log.specs.declared.session.command.Refusal.{Refusal}
use Rattle.sled_log.specs.declared.session.command.Reply.{Reply}
use Rattle.sled_log.specs.declared.session.command.Reply.TheVariants as reply
use Rattle.sled_log.specs.Devices.{IsOver, SomeStandsOver, StandsOver}
use Rattle.sled_log.specs.Headline.{Acknowledges, Comes, MeansStep, Moves, Outcomes, GivesTicket, RecoveryGives, Stays, Tells}
use Rattle.sled_log.specs.OpenSteps.{HasOpened, IsStartCause, OpenStep, log_opened}
use Rattle.sled_log.specs.ReadSteps.{FailsAt, ReadStep, ReadsAll, read_around, read_at}
use Rattle.sled_log.specs.Refusals.{reason_of}
use Rattle.sled_log.specs.RunStates.{DeviceView, DueMark, HasAll, LogView, RunState, body_length_in, closed, length_of, made_ready, message_at, page_now, places_without, rewriting_at, target_in, tickets_in, tickets_of, with_status, with_log}
use Rattle.sled_log.specs.Runs.{CrashActs, CrashStep, HaltStep, IsOwn, IsStep, Postpones, Runs, StepBy, StepFrom, StopStep, calls_log, told}
use Rattle.sled_log.specs.SessionMarks.{mark_for, marking, marking_in, with_mark, without_pin}
use Rattle.sled_log.specs.RunPhases.{IsAt, SomeStands, StandsAt, StandsAtPhase, Unstored, device_in, seen, stands, traces}
use Rattle.sled_log.specs.WriteSteps.{FailsTo, FlushStep, HasWrittenTo, KeepsFailing, StableStep, WriteStep, stable_from, target_by}
use Rattle.sled_log.specs.TicketSteps.{AbortStep, CompleteStep, EndStep, HasReserved, RefusedStep, ReserveStep, RewriteStep, batch_ended_by, blank_manifest, giving_up, keeping, noting, spent}
use Rattle.sled_log.proofs.Sessions.Reading.{sized}
use Rattle.sled_log.proofs.Sessions.RunLemmas.{own_read, start_cause_of}

-- What is known of the messages of a run where a log is open: they end at or below what was reserved, and each has a size.
pub record EndsIn (H : History) (l : LogView) : Type 0 where
  pub completed : (x : Message) → Contains H.messages x → x.place + x.size ≤ l.status.reserved
  pub reserved : (n : ℕ) (x : Message) → slice_get l.tickets n ≡ Some (Some x) → x.place + x.size ≤ l.status.reserved
  pub sized : (x : Message) → Contains H.messages x → 0 < x.size

abbrev pub Known : RunState → Type 0
Known a = (l : LogView) → a.log ≡ Some l → EndsIn a.history l

-- A run that stands in a session knows that.
module _ {D C : Type 0} (view : D → DeviceView) (sum : List ℕ → ℕ) where
  known_in : (p : Phase D C) (k : Unstored) → IsAt (traces view) sum p k → Known (stands view p k)
  known_in (phase.Closed config) k at l is = cc
  known_in (phase.Open opened) k at l is =
      let here : seen opened k.tickets k.given_up k.heads ≡ l = same_Some (seen opened k.tickets k.given_up k.heads) l is in
      subst (EndsIn k.history) here (record {
        completed = λ x there. All-contains (λ (m : Message). m.place + m.size ≤ reserved_end opened.log) k.history.messages x at.ends there;
        reserved = λ n x there. (at.tickets.each n x there).ends;
        sized = λ x there. All-contains (λ (m : Message). 0 < m.size) k.history.messages x (sized k.history.messages at.made.orderly.formed.apart) there;
      })

  known_at : (o : Option (Phase D C)) (a : RunState) → StandsAtPhase view sum o a → Known a
  known_at None a at = absurd at
  known_at (Some p) a at = subst Known (sym at.1) (known_in p at.0 at.2)

  pub known : (session : Session D C) (a : RunState) → StandsAt view sum session a → Known a
  unfolding StandsAt
  known session a at = known_at session.phase a at

-- Where a command leads, the device is as it is then, or nothing changed.
abbrev pub Led : RunState → DeviceView → RunState → Type 0
Led a new b = (b ≡ a) ⊎ (b.device ≡ new)

module _ (sum : List ℕ → ℕ) (size : ℕ) (device : DeviceView) (H : History) (A f : ℕ) (due : Option DueMark) where
  -- the run with a log, or with none
  abbrev at_log : Option LogView → RunState
  at_log log = record { device = device; history = H; acknowledged = A; floor = f; log = log; due = due }

  -- Nothing changed.
  same : (log : Option LogView) (new : DeviceView) (b : RunState) → b ≡ at_log log → Stays (at_log log) b × Led (at_log log) new b
  same log new b is = (subst (Stays (at_log log)) (sym is) (inl refl, refl), inl is)

  -- The log is another, with the same tickets, with none, or with one that is spent.
  keeps : (log after : Option LogView) (new : DeviceView) (b : RunState) → b ≡ with_log (at_log log) new after
      → (tickets_in after ≡ tickets_in log) ⊎ (tickets_in after ≡ []) ⊎ ((t : ℕ) × (tickets_in after ≡ set (tickets_in log) t None))
      → Stays (at_log log) b × Led (at_log log) new b
  keeps log after new b is tickets = (subst (Stays (at_log log)) (sym is) (tickets, refl), inr (ap (λ (x : RunState). x.device) is))

  -- It is closed.
  closes : (log : Option LogView) (new : DeviceView) (b : RunState) → b ≡ closed (at_log log) new → Stays (at_log log) b × Led (at_log log) new b
  closes log new b is = (subst (Stays (at_log log)) (sym is) (inr (inl refl), refl), inr (ap (λ (x : RunState). x.device) is))

  crash : (log : Option LogView) (choice : Choice) (r : Reply) (new : DeviceView) (b : RunState) → CrashStep (at_log log) choice r new b
      → Stays (at_log log) b × Led (at_log log) new b
  crash log choice (reply.Crashed taken) new b step = closes log new b step.1
  crash log choice (reply.Failed error.OutOfMemory) new b step = same log new b step.1
  crash log choice _ new b step = absurd step.0

  stop : (log : Option LogView) (n : ℕ) (r : Reply) (new : DeviceView) (b : RunState) → StopStep (at_log log) n r new b
      → Stays (at_log log) b × Led (at_log log) new b
  stop log n reply.Armed new b step = keeps log log new b step.1 (inl refl)
  stop log n _ new b step = absurd step

  halt : (log : Option LogView) (r : Reply) (new : DeviceView) (b : RunState) → HaltStep (at_log log) r new b → Stays (at_log log) b × Led (at_log log) new b
  halt log reply.Halted new b step = closes log new b step.1
  halt log _ new b step = absurd step

  -- An opening of a device on which only what the log itself wrote passes as its own.
  module _ (own : ReadsOnlyOwn sum size (state_of device.trace)) where
    restores : (r : Reply) (new : DeviceView) (b : RunState) (opened : HasOpened sum size (at_log None) r new b)
        → RecoveryGives sum size (at_log None) opened.opens.snapshot b
    restores r new b opened =
        let goes = opened.good own in
        subst (λ (x : RunState). RecoveryGives sum size (at_log None) opened.opens.snapshot x) (sym goes.leads) (goes.good, none r, refl)
      where
        none : (q : Reply) → tickets_in (log_opened size (length_of opened.opens.mid) opened.opens.snapshot q) ≡ []
        none (reply.Opened stable active pages) = refl
        none _ = refl

    opened_device : (r : Reply) (new : DeviceView) (b : RunState) → HasOpened sum size (at_log None) r new b → b.device ≡ new
    opened_device r new b opened = ap (λ (x : RunState). x.device) (opened.good own).leads

    opening : (r : Reply) (new : DeviceView) (b : RunState) → OpenStep sum size (at_log None) r new b
        → Moves sum size (at_log None) command.Open r b × (b.device ≡ new)
    opening (reply.Opened stable active pages) new b step = (
      (step.opens.snapshot, step.opens.starts.0, restores (reply.Opened stable active pages) new b step),
      opened_device (reply.Opened stable active pages) new b step,
    )
    opening (reply.Failed e) new b (inl not) =
        let now : b.device ≡ new = ap (λ (x : RunState). x.device) not.leads in (
          (
            subst (λ (d : DeviceView). IsStartCause e device.failures d.failures) (sym now) (start_cause_of e device.failures new.failures (not.cause own)),
            inl (closes None new b not.leads).0,
          ),
          now,
        )
    opening (reply.Failed e) new b (inr only) =
        let now = opened_device (reply.Failed e) new b only in (
          (
            subst (λ (d : DeviceView). IsStartCause e device.failures d.failures) (sym now) (only.good own).why,
            inr (only.opens.snapshot, restores (reply.Failed e) new b only),
          ),
          now,
        )
    opening _ new b step = absurd step.opens.starts

  -- It is none that is refused.
  not_refused : (r : Reply) (new : DeviceView) (b : RunState) → OpenStep sum size (at_log None) r new b → reason_of r ≡ None
  not_refused (reply.Refused w) new b step = absurd step.opens.starts
  not_refused r new b step = refl

  module _ (l : LogView) where
    abbrev a : RunState
    a = at_log (Some l)

    -- Where the log keeps a failure nothing changed.
    keeping_on : (e : Error) (new : DeviceView) (b : RunState) → KeepsFailing a l e new b → Stays a b × Led a new b
    keeping_on (error.Io e) new b step = same (Some l) new b step.2
    keeping_on _ new b step = absurd step

    -- Reservations.

    refused : (q : Position) (e : Error) (new : DeviceView) (b : RunState) → RefusedStep size a l q e b → Stays a b × Led a new b
    refused q (error.Io e) new b step = same (Some l) new b step.1
    refused q error.OutOfMemory new b step = same (Some l) new b step.1
    refused q error.PlacesUsedUp new b step = same (Some l) new b step.2
    refused q (error.Held at) new b step = same (Some l) new b step.1
    refused q _ new b step = absurd step

    reserves : (q : Position) (m : Message) (n : ℕ) (place : ℤ) (pointer : DiskPtr) (new : DeviceView) (b : RunState)
        → HasReserved size a l q m n place pointer new b
        → GivesTicket a m.kind m.page m.bytes (reply.Reserved n place pointer) b × Led a new b
    reserves q m n place pointer new b has = (
      (
        m,
        refl,
        refl,
        refl,
        sym has.answer.0,
        sym has.answer.1,
        has.number,
        ap tickets_of has.leads,
        subst (λ (x : RunState). x ≡ record a { device = x.device; log = x.log; due = x.due }) (sym has.leads) refl,
      ),
      inr (ap (λ (x : RunState). x.device) has.leads),
    )

    reserve : (kind : LogKind) (page : ℕ) (bytes : List ℕ) (r : Reply) (new : DeviceView) (b : RunState) → ReserveStep size a l kind page bytes r new b
        → GivesTicket a kind page bytes r b × Led a new b
    reserve kind page bytes (reply.Reserved n place pointer) new b has =
        reserves (target_in size l page (body_length_in size (length bytes))) (message_at size l kind page bytes) n place pointer new b has
    reserve kind page bytes (reply.Failed e) new b (inl step) = refused (target_in size l page (body_length_in size (length bytes))) e new b step
    reserve kind page bytes (reply.Failed e) new b (inr blob) =
        keeps (Some l) (Some (made_ready l (target_in size l page (body_length_in size (length bytes))) blob.1.kept)) new b blob.1.leads (inl refl)
    reserve kind page bytes _ new b step = absurd step

    rewrite : (page : ℕ) (r : Reply) (new : DeviceView) (b : RunState) → RewriteStep size a l page r new b
        → Moves sum size a (command.Rewrite page) r b × Led a new b
    rewrite page (reply.Reserved n place pointer) new b has =
        let kept = reserves (target_in size l page 8) (rewriting_at size l page has.blob has.message.bytes) n place pointer new b has.reserved in
        ((has.message, has.is, kept.0), kept.1)
    rewrite page (reply.Failed e) new b step = refused (target_in size l page 8) e new b step
    rewrite page _ new b step = absurd step

    -- Tickets are spent.

    comes : (t : ℕ) (m : Message) (event : HistoryEvent) (H' : History) (log : LogView) (mark : Option DueMark) (new : DeviceView) (b : RunState)
        → slice_get l.tickets t ≡ Some (Some m) → Step H event H' → log.tickets ≡ set l.tickets t None
        → b ≡ record a { device = new; history = H'; log = Some log; due = mark } → Comes a t m event b × Led a new b
    comes t m event H' log mark new b there step spends leads = (
      (
        there,
        subst (λ (x : RunState). Step H event x.history) (sym leads) step,
        ap tickets_of leads ∙ spends,
        subst (λ (x : RunState). x ≡ record a { device = x.device; history = x.history; log = x.log; due = x.due }) (sym leads) refl,
      ),
      inr (ap (λ (x : RunState). x.device) leads),
    )

    complete : (t : ℕ) (r : Reply) (new : DeviceView) (b : RunState) → CompleteStep size a l t r new b → Moves sum size a (command.Complete t) r b × Led a new b
    complete t (reply.Done place pointer) new b has =
        let spends : has.log.tickets ≡ set l.tickets t None = ap (λ (x : LogView). x.tickets) has.is in
        let mark : DueMark = mark_for size f H has.message in
        let came : Comes a t has.message (Completed has.message) b × Led a new b = elim has.leads [
          | inl now ↦ comes t has.message (Completed has.message) has.history (marking size mark has.log) due new b has.reserved has.step spends now
          | inr late ↦ comes t has.message (Completed has.message) has.history has.log (Some mark) new b has.reserved has.step spends late
        ] in
        ((has.message, came.0), came.1)
    complete t (reply.Failed (error.Io e)) new b step = keeps (Some l) (Some (without_pin (spent l t l.status.opens l.begun))) new b step.1 (inr (inr (t, refl)))
    complete t (reply.Failed error.OutOfMemory) new b step = same (Some l) new b step.1
    complete t _ new b step = absurd step

    abort : (t : ℕ) (r : Reply) (new : DeviceView) (b : RunState) → AbortStep a l t r new b → Moves sum size a (command.Abort t) r b × Led a new b
    abort t (reply.Done place pointer) new b has =
        keeps (Some l) (Some (giving_up has.message (without_pin (spent l t (places_without has.message.place l.status.opens) l.begun)))) new b has.leads (inr (inr (t, refl)))
    abort t (reply.Failed (error.Io e)) new b fails = keeps (Some l) (Some (keeping e (without_pin (spent l t l.status.opens l.begun)))) new b fails.leads (inr (inr (t, refl)))
    abort t _ new b step = absurd step

    end : EndsIn H l → (r : Reply) (new : DeviceView) (b : RunState) → EndStep a l r new b → Moves sum size a command.EndBatch r b × Led a new b
    end ends (reply.Done place pointer) new b has =
        let t : ℕ = has.begun.ticket in
        let m : Message = has.begun.message in
        let came =
        comes t m (Batched (batch_ended_by l m)) has.history (noting (batch_ended_by l m) (without_pin (spent l t (places_without m.place l.status.opens) l.begun))) due new b has.begun.reserved
        has.step refl has.leads in
        let all : HasAll a (batch_ended_by l m) = record {
          completed = λ x there. (let le = ends.completed x there in omega (arith, le));
          reserved = λ n x there. (let le = ends.reserved n x there in omega (arith, le));
        } in
        ((t, m, batch_ended_by l m, has.begun.manifest, sym has.answer.0, refl, all, came.0), came.1)
    end ends (reply.Failed (error.Io e)) new b step =
        keeps (Some l) (Some (without_pin (spent l step.1.0.ticket l.status.opens l.begun))) new b step.1.1 (inr (inr (step.1.0.ticket, refl)))
    end ends _ new b step = absurd step

    -- Writing.

    written : (Meant : Message → Type 0) (to n : ℕ) (new : DeviceView) (b : RunState)
        → ((m : Message) → Contains H.messages m → Meant m → m.place < stable_from to l) → HasWrittenTo sum size a l to n new b
        → Acknowledges a Meant b × Led a new b
    written Meant to n new b low has =
        let end : ℕ = end_below (stable_from to l) H in
        let here : Acknowledges a Meant
        (record a { device = new; acknowledged = max A end; log = Some (with_status l (failing None (wrote_below size to (ledger_behind size (front_below to has.writes.buffers) (ledger_below to l.status)) l.status))) }) = (
          omega arith,
          λ m there meant. (let le = message_acknowledged (stable_from to l) H m there (low m there meant) in omega (arith, le)),
          refl,
          refl,
        ) in
        (subst (Acknowledges a Meant) (sym has.leads) here, inr (ap (λ (x : RunState). x.device) has.leads))

    fails_to : (to : ℕ) (e : Error) (new : DeviceView) (b : RunState) → FailsTo sum size a l to e new b → Stays a b × Led a new b
    fails_to to e new b step = elim step.came.2 [
      | inl sealed ↦ keeps (Some l) _ new b sealed.0 (inl refl)
      | inr (inl failed) ↦ keeps (Some l) _ new b failed.5 (inl refl)
      | inr (inr none) ↦ keeps (Some l) _ new b none.3 (inl refl)
    ]

    flush : EndsIn H l → (r : Reply) (new : DeviceView) (b : RunState) → FlushStep sum size a l r new b → Moves sum size a command.Flush r b × Led a new b
    flush ends (reply.Flushed n) new b has =
        written (λ m. Unit {0}) l.status.reserved n new b (λ m there meant.
        (let some = ends.sized m there in
        let le = All-contains (λ (x : Message). x.place + x.size ≤ stable_from l.status.reserved l) H.messages m has.all there in omega (arith, some, le))) has.written
    flush ends (reply.Failed e) new b (inl kept) = keeping_on e new b kept
    flush ends (reply.Failed e) new b (inr fails) = fails_to l.status.reserved e new b fails
    flush ends _ new b step = absurd step

    stable_fails : (place : ℤ) (e : Error) (new : DeviceView) (b : RunState)
        → KeepsFailing a l e new b ⊎ ((pos (stable_in l.status) ≤ℤ place) × (place <ℤ pos l.status.reserved) × FailsTo sum size a l (target_by l place) e new b)
        → Stays a b × Led a new b
    stable_fails place e new b (inl kept) = keeping_on e new b kept
    stable_fails place e new b (inr fails) = fails_to (target_by l place) e new b fails.2

    stable : (place : ℤ) (r : Reply) (new : DeviceView) (b : RunState) → StableStep sum size a l place r new b
        → Moves sum size a (command.Stable place) r b × Led a new b
    stable place (reply.Flushed n) new b has =
        written (λ m. pos m.place ≤ℤ place) (target_by l place) n new b (λ m there meant. omega (arith, ints, meant, has.2)) has.1
    stable place (reply.Failed (error.NotReserved at)) new b step = same (Some l) new b step.5
    stable place (reply.Failed e) new b step = stable_fails place e new b step
    stable place _ new b step = absurd step

    write : (i : ℕ) (r : Reply) (new : DeviceView) (b : RunState) → WriteStep sum size a l i r new b → Stays a b × Led a new b
    write i reply.Written new b step = keeps (Some l) _ new b step.3 (inl refl)
    write i (reply.Failed e) new b (inl kept) = keeping_on e new b kept
    write i (reply.Failed e) new b (inr fails) = elim fails.came [
      | inl unwritten ↦ keeps (Some l) _ new b unwritten.1 (inl refl)
      | inr failed ↦ keeps (Some l) _ new b failed.5 (inl refl)
    ]
    write i _ new b step = absurd step

    -- Reading.

    around : (o : LogView) (at : ℕ) (bs : List BufferAt) → (read_around size o at bs).tickets ≡ o.tickets
    around o at bs = by (nat_lt at o.status.synced) (with_status o (wrote_around size at (ledger_behind size (one_around at bs) (ledger_around at o.status)) o.status)) refl where
      by : (x : Bool) (v : LogView) → v.tickets ≡ o.tickets → (if x then o else v).tickets ≡ o.tickets
      by true v is = refl
      by false v is = is

    reads : (o : LogView) (ms : List Message) (old new : DeviceView) (end : LogView) → ReadsAll sum size o ms old new end → end.tickets ≡ o.tickets
    reads o [] old new end all = ap (λ (x : LogView). x.tickets) all.2
    reads o (m ∷ ms) old new end all = reads (read_around size o (read_at m) all.1.writes.buffers) ms all.0 new end all.2 ∙ around o (read_at m) all.1.writes.buffers

    fails_at : (o : LogView) → o.tickets ≡ l.tickets → (at : ℕ) (e : Error) (old new : DeviceView) (b : RunState) → FailsAt sum size a o at e old new b
        → Stays a b × Led a new b
    fails_at o is at e old new b step = elim step.came [
      | inl some ↦ elim some.1 [ inl none ↦ keeps (Some l) _ new b none.1 (inl is) | inr sealed ↦ keeps (Some l) _ new b sealed (inl is) ]
      | inr (inl written) ↦ keeps (Some l) _ new b written.2 (inl is)
      | inr (inr failed) ↦ keeps (Some l) _ new b failed.6 (inl is)
    ]

    read : (ms : List Message) (r : Reply) (new : DeviceView) (b : RunState) → ReadStep sum size a l ms r new b → Stays a b × Led a new b
    read ms (reply.Page items) new b step = keeps (Some l) (Some step.log) new b step.leads (inl (reads l ms device new step.log step.reads))
    read ms reply.FreePage new b step = same (Some l) new b step.2
    read ms (reply.Failed e) new b (inl kept) = keeping_on e new b kept
    read ms (reply.Failed error.OutOfMemory) new b (inr (inl none)) = same (Some l) new b none.2
    read ms (reply.Failed e) new b (inr (inl none)) = absurd none
    read ms (reply.Failed e) new b (inr (inr step)) =
        fails_at step.log (reads l step.done device step.mid step.log step.so_far) (read_at step.message) e step.mid new b step.fails
    read ms _ new b step = absurd step

  -- Each command.
  by_log : (log : Option LogView) (c : Command) (r : Reply) (new : DeviceView) (b : RunState) → Known (at_log log) → IsOwn sum size (state_of device.trace) c r
      → StepBy sum size (at_log log) log c r new b
      → Moves sum size (at_log log) c r b × Led (at_log log) new b
  by_log log (command.Crash choice) r new b ends own step = crash log choice r new b step
  by_log log (command.Stop n) r new b ends own step = stop log n r new b step
  by_log None command.Open r new b ends own step =
      let done = opening (own_read sum size (state_of device.trace) r (not_refused r new b step) own) r new b step in
      (done.0, inr done.1)
  by_log (Some l) (command.Replace page item) r new b ends own step = reserve l does.Replace page (short_bytes item.items) r new b step.1
  by_log (Some l) (command.Link page item) r new b ends own step = reserve l does.Link page (short_bytes item.items) r new b step.1
  by_log (Some l) (command.Free page) r new b ends own step = reserve l does.Free page [] r new b step.1
  by_log (Some l) (command.Rewrite page) r new b ends own step = rewrite l page r new b step.1
  by_log (Some l) command.BeginBatch r new b ends own step = reserve l does.Skip manifest_page blank_manifest r new b step.1
  by_log (Some l) command.EndBatch r new b ends own step = end l (ends l refl) r new b step.1
  by_log (Some l) (command.Complete t) r new b ends own step = complete l t r new b step.1
  by_log (Some l) (command.Abort t) r new b ends own step = abort l t r new b step.1
  by_log (Some l) (command.Write i) r new b ends own step = write l i r new b step
  by_log (Some l) command.Flush r new b ends own step = flush l (ends l refl) r new b step
  by_log (Some l) (command.Stable place) r new b ends own step = stable l place r new b step
  by_log (Some l) (command.Read page) r new b ends own step = read l (page_now H page) r new b step
  by_log (Some l) command.Halt r new b ends own step = halt (Some l) r new b step
  by_log log _ r new b ends own step = absurd step

  led_by : (log : Option LogView) (r : Reply) (new : DeviceView) (b : RunState) → ReadsOnlyOwn sum size (state_of device.trace)
      → StepBy sum size (at_log log) log command.Open r new b → b.device ≡ new
  led_by None r new b own step = (opening own r new b step).1
  led_by (Some l) r new b own step = absurd step

  -- A failure of a device that is stopped is told as that.
  stop_told : (log : Option LogView) (c : Command) (e : IoError) (new : DeviceView) (b : RunState)
      → IsOwn sum size (state_of device.trace) c (reply.Failed (error.Io e)) → StepBy sum size (at_log log) log c (reply.Failed (error.Io e)) new b
      → new.is_stopped ≡ true → Moves sum size (at_log log) c (reply.Failed (error.Io e)) b → Moves sum size (at_log log) c reply.Stopped b
  stop_told log command.Open e new b own step is moves = (
    subst (λ (d : DeviceView). IsTrue d.is_stopped) (sym (led_by log (reply.Failed (error.Io e)) new b own step)) is,
    moves.1,
  )
  stop_told log _ e new b own step is moves = moves

-- A mark that is made moves nothing that is told of a run.

known_marked : (size : ℕ) (d : DueMark) (H : History) (log : Option LogView) → ((l : LogView) → log ≡ Some l → EndsIn H l) → (l : LogView) → marking_in size d log ≡ Some l → EndsIn H l
known_marked size d H None ends l is = cc
known_marked size d H (Some o) ends l is =
    let was : EndsIn H o = ends o refl in
    subst (EndsIn H) (same_Some (marking size d o) l is) (record { completed = was.completed; reserved = was.reserved; sized = was.sized })

module _ (sum : List ℕ → ℕ) (size : ℕ) (d : DueMark) (device : DeviceView) (H : History) (A f : ℕ) (due : Option DueMark) (q : RunState) where
  -- where the run stood before it, and behind it
  abbrev was : Option LogView → RunState
  was log = record { device = device; history = H; acknowledged = A; floor = f; log = log; due = due }

  abbrev marked : Option LogView → RunState
  marked log = record { device = device; history = H; acknowledged = A; floor = f; log = marking_in size d log; due = None }

  stays_before : (log : Option LogView) → Stays (marked log) q → Stays (was log) q
  stays_before None stays = stays
  stays_before (Some l) stays = stays

  reserves_before : (log : Option LogView) (kind : LogKind) (page : ℕ) (bytes : List ℕ) (r : Reply) → GivesTicket (marked log) kind page bytes r q → GivesTicket (was log) kind page bytes r q
  reserves_before None kind page bytes (reply.Reserved n place pointer) reserves = reserves
  reserves_before (Some l) kind page bytes (reply.Reserved n place pointer) reserves = reserves
  reserves_before log kind page bytes _ stays = stays_before log stays

  comes_before : (log : Option LogView) (t : ℕ) (m : Message) (event : HistoryEvent) → Comes (marked log) t m event q → Comes (was log) t m event q
  comes_before None t m event comes = comes
  comes_before (Some l) t m event comes = comes

  all_before : (log : Option LogView) (b : Batch) → HasAll (marked log) b → HasAll (was log) b
  all_before None b all = record { completed = all.completed; reserved = all.reserved }
  all_before (Some l) b all = record { completed = all.completed; reserved = all.reserved }

  acknowledges_before : (log : Option LogView) (Meant : Message → Type 0) → Acknowledges (marked log) Meant q → Acknowledges (was log) Meant q
  acknowledges_before None Meant acknowledges = acknowledges
  acknowledges_before (Some l) Meant acknowledges = acknowledges

  before_mark : (log : Option LogView) (c : Command) (r : Reply) → calls_log c ≡ true → Moves sum size (marked log) c r q → Moves sum size (was log) c r q
  before_mark log (command.Replace page item) r calls moves = reserves_before log does.Replace page (short_bytes item.items) r moves
  before_mark log (command.Link page item) r calls moves = reserves_before log does.Link page (short_bytes item.items) r moves
  before_mark log (command.Free page) r calls moves = reserves_before log does.Free page [] r moves
  before_mark log command.BeginBatch r calls moves = reserves_before log does.Skip manifest_page blank_manifest r moves
  before_mark log (command.Rewrite page) (reply.Reserved n place pointer) calls moves =
      (moves.0, moves.1, reserves_before log does.Replace page moves.0.bytes (reply.Reserved n place pointer) moves.2)
  before_mark log (command.Rewrite page) _ calls moves = stays_before log moves
  before_mark log command.EndBatch (reply.Done z pointer) calls moves =
      (moves.0, moves.1, moves.2, moves.3, moves.4, moves.5, all_before log moves.2 moves.6, comes_before log moves.0 moves.1 (Batched moves.2) moves.7)
  before_mark log command.EndBatch _ calls moves = stays_before log moves
  before_mark log (command.Complete t) (reply.Done place pointer) calls moves = (moves.0, comes_before log t moves.0 (Completed moves.0) moves.1)
  before_mark log (command.Complete t) _ calls moves = stays_before log moves
  before_mark log command.Flush (reply.Flushed n) calls moves = acknowledges_before log (λ m. Unit {0}) moves
  before_mark log command.Flush _ calls moves = stays_before log moves
  before_mark log (command.Stable z) (reply.Flushed n) calls moves = acknowledges_before log (λ m. pos m.place ≤ℤ z) moves
  before_mark log (command.Stable z) _ calls moves = stays_before log moves
  before_mark log command.Open r calls moves = cc
  before_mark log c r calls moves = stays_before log moves

-- What holds of a reply holds of how it is told, where it holds of a stop that a failure is told as.
tells : (M : Reply → Type 0) (b : Bool) (r : Reply) → M r → ((e : IoError) → r ≡ reply.Failed (error.Io e) → b ≡ true → M reply.Stopped) → M (told b r)
tells M true (reply.Failed (error.Io e)) holds stops = stops e refl refl
tells M true r holds stops = holds
tells M false r holds stops = holds

module _ (sum : List ℕ → ℕ) (size : ℕ) where
  -- A command that is refused changes nothing.
  refused_moves : (p q : RunState) (c : Command) (w : Refusal) → Stays p q → Moves sum size p c (reply.Refused w) q
  refused_moves p q command.Open w stays = stays
  refused_moves p q command.EndBatch w stays = stays
  refused_moves p q _ w stays = stays

  -- What a command comes to with no mark made first,
  told_by : (a : RunState) (c : Command) (came : Reply) (new : DeviceView) (b : RunState) → Known a → IsOwn sum size (state_of a.device.trace) c came
      → StepBy sum size a a.log c came new b → Moves sum size a c (told new.is_stopped came) b
  told_by a c came new b ends own step =
      let moves = by_log sum size a.device a.history a.acknowledged a.floor a.due a.log c came new b ends own step in
      let stops = λ (e : IoError) (is : came ≡ reply.Failed (error.Io e)) (stopped : new.is_stopped ≡ true).
      stop_told sum size a.device a.history a.acknowledged a.floor a.due a.log c e new b (subst (IsOwn sum size (state_of a.device.trace) c) is own)
      (subst (λ (r : Reply). StepBy sum size a a.log c r new b) is step) stopped
      (subst (λ (r : Reply). Moves sum size a c r b) is moves.0) in
      tells (λ r. Moves sum size a c r b) new.is_stopped came moves.0 stops

  -- where it is postponed with the mark that is due,
  stays_late : (p q : RunState) (c : Command) → calls_log c ≡ true → Stays p q → Moves sum size p c (reply.Failed error.OutOfMemory) q
  stays_late p q command.Open calls stays = cc
  stays_late p q command.EndBatch calls stays = stays
  stays_late p q c calls stays = stays

  late : (a : RunState) (c : Command) (came : Reply) (new : DeviceView) (b : RunState) → calls_log c ≡ true → Postpones a came new b → Moves sum size a c (told new.is_stopped came) b
  late a c (reply.Failed error.OutOfMemory) new b calls postpones =
      tells (λ r. Moves sum size a c r b) new.is_stopped (reply.Failed error.OutOfMemory)
      (stays_late a b c calls (same sum size a.device a.history a.acknowledged a.floor a.due a.log new b postpones.1).0) (λ e no. cc)
  late a c _ new b calls postpones = absurd postpones

  -- and with that made first.
  from_due : (a : RunState) (c : Command) (came : Reply) (new : DeviceView) (b : RunState) → Known a → IsOwn sum size (state_of a.device.trace) c came
      → (calls : Bool) → (calls ≡ true → calls_log c ≡ true) → (due : Option DueMark) → StepFrom sum size a calls due c came new b → Moves sum size a c (told new.is_stopped came) b
  from_due a c came new b ends own true calls (Some d) (inl postpones) = late a c came new b (calls refl) postpones
  from_due a c came new b ends own true calls (Some d) (inr step) =
      before_mark sum size d a.device a.history a.acknowledged a.floor a.due b a.log c (told new.is_stopped came) (calls refl)
      (told_by (with_mark size a d) c came new b (known_marked size d a.history a.log ends) own step)
  from_due a c came new b ends own true calls None step = told_by a c came new b ends own step
  from_due a c came new b ends own false calls due step = told_by a c came new b ends own step

  answered : (a : RunState) (c : Command) (came : Reply) (new : DeviceView) (b : RunState) → Known a → IsOwn sum size (state_of a.device.trace) c came
      → IsStep sum size a c came new b → Moves sum size a c (told new.is_stopped came) b
  answered a c (reply.Refused w) new b ends own is =
      let kept = same sum size a.device a.history a.acknowledged a.floor a.due a.log new b is.1 in
      tells (λ r. Moves sum size a c r b) new.is_stopped (reply.Refused w) (refused_moves a b c w kept.0) (λ e no. cc)
  answered a c came new b ends own step = from_due a c came new b ends own (calls_log c) (λ asks. asks) a.due step

  -- What is told of what came is told of what is answered.
  told_too : (b : Bool) (came : Reply) → (p : RunState) (c : Command) (q : RunState) → Tells p c came q → Tells p c (told b came) q
  told_too true (reply.Failed (error.Io e)) p c q row = stopped c where
    stopped : (c : Command) → Tells p c reply.Stopped q
    stopped (command.Read page) = tt
    stopped (command.Crash choice) = tt
    stopped command.Halt = tt
    stopped c = tt
  told_too true came p c q row = row
  told_too false came p c q row = row

  -- What a command tells with no mark made first: a page that is read,
  read_tells : (p : RunState) (log : Option LogView) (page : ℕ) (r : Reply) (new : DeviceView) (q : RunState) → StepBy sum size p log (command.Read page) r new q → Tells p (command.Read page) r q
  read_tells p (Some l) page (reply.Page items) new q step = step.items_are
  read_tells p (Some l) page reply.FreePage new q step = step.0
  read_tells p log page r new q step = search rules

  -- a crash, and a halt,
  crash_tells : (p : RunState) (choice : Choice) (r : Reply) (new : DeviceView) (q : RunState) → CrashStep p choice r new q → Tells p (command.Crash choice) r q
  crash_tells p choice (reply.Crashed taken) new q step = (
    subst (λ (x : RunState). CrashActs choice p.device (reply.Crashed taken) x.device) (sym step.1) step.0,
    ap (λ (x : RunState). x.log) step.1,
  )
  crash_tells p choice r new q step = search rules

  halt_tells : (p : RunState) (log : Option LogView) (r : Reply) (new : DeviceView) (q : RunState) → StepBy sum size p log command.Halt r new q → Tells p command.Halt r q
  halt_tells p (Some l) reply.Halted new q step = ap (λ (x : RunState). x.log) step.1
  halt_tells p log r new q step = search rules

  -- and with that made first, which changes no page.
  due_tells : (p : RunState) (due : Option DueMark) (page : ℕ) (r : Reply) (new : DeviceView) (q : RunState) → StepFrom sum size p true due (command.Read page) r new q → Tells p (command.Read page) r q
  due_tells p None page r new q step = read_tells p p.log page r new q step
  due_tells p (Some d) page (reply.Page items) new q (inr step) = read_tells (with_mark size p d) (with_mark size p d).log page (reply.Page items) new q step
  due_tells p (Some d) page (reply.Page items) new q (inl postpones) = absurd postpones
  due_tells p (Some d) page reply.FreePage new q (inr step) = read_tells (with_mark size p d) (with_mark size p d).log page reply.FreePage new q step
  due_tells p (Some d) page reply.FreePage new q (inl postpones) = absurd postpones
  due_tells p (Some d) page r new q step = search rules

  step_tells : (p : RunState) (c : Command) (r : Reply) (new : DeviceView) (q : RunState) → IsStep sum size p c r new q → Tells p c r q
  step_tells p (command.Read page) (reply.Refused w) new q step = tt
  step_tells p (command.Read page) r new q step = due_tells p p.due page r new q step
  step_tells p (command.Crash choice) (reply.Refused w) new q step = tt
  step_tells p (command.Crash choice) r new q step = crash_tells p choice r new q step
  step_tells p command.Halt (reply.Refused w) new q step = tt
  step_tells p command.Halt r new q step = halt_tells p p.log r new q step
  step_tells p c r new q step = search rules

  -- A step that a run makes from where some session stands means what the headline says.
  pub step_means : {D C : Type 0} (view : D → DeviceView) (a : RunState) (c : Command) (came : Reply) (new : DeviceView) (b : RunState)
      → SomeStands D C view sum size a → IsStep sum size a c came new b → MeansStep sum size a c came new b
  step_means view a c came new b at step = record {
    tells = told_too new.is_stopped came a c b (step_tells a c came new b step);
    means = λ own. answered a c came new b (known view sum at.0 a at.2) own step;
  }

  -- What is told to be the log's own is, where it isn't told that the device is stopped.
  own_told : (s : State) (c : Command) (b : Bool) (came : Reply) → IsOwn sum size s c (told b came) → IsOwn sum size s c came
  own_told s command.Open true (reply.Failed (error.Io e)) own = own
  own_told s c true (reply.Failed (error.Io e)) own = search rules
  own_told s c b came own = own

  -- Where some session stands, some session has the device.
  stands_over : {D C : Type 0} (view : D → DeviceView) (a : RunState) → SomeStands D C view sum size a → SomeStandsOver D C view a
  unfolding StandsAt StandsOver
  stands_over {D} {C} view run some = by some.0.phase refl some.2 where
    over : (p : Phase D C) (k : Unstored) → IsOver view (Some p) (not (is_none (stands view p k).log)) (device_in view p)
    over (phase.Closed config) k = (refl, refl)
    over (phase.Open opened) k = (refl, refl)

    by : (o : Option (Phase D C)) → some.0.phase ≡ o → StandsAtPhase view sum o run → SomeStandsOver D C view run
    by None is at = absurd at
    by (Some p) is at = (
      some.0,
      subst (λ (x : Option (Phase D C)). IsOver view x (not (is_none run.log)) run.device) (sym is)
          (subst (λ (x : RunState). IsOver view (Some p) (not (is_none x.log)) x.device) (sym at.1) (over p at.0)),
    )

  -- So a run comes to what the headline says.
  pub outcomes : {D C : Type 0} (view : D → DeviceView) (Leads : RunState → Type 0) → (a : RunState) (cs : List Command) (rs : List Reply)
      → SomeStands D C view sum size a → Runs sum size (SomeStands D C view sum size) a cs rs Leads
      → Outcomes sum size (SomeStandsOver D C view) a cs rs Leads
  unfolding Runs Outcomes
  outcomes view Leads a [] [] at runs = runs
  outcomes view Leads a (c ∷ cs) (r ∷ rs) at runs =
      let b : RunState = runs.after in
      let step = step_means view a c runs.came runs.new b at runs.step in
      let came = λ (own : IsOwn sum size (state_of a.device.trace) c r).
      own_told (state_of a.device.trace) c runs.new.is_stopped runs.came (subst (λ (x : Reply). IsOwn sum size (state_of a.device.trace) c x) runs.is_told own) in
      record {
        after = b;
        tells = subst (λ (x : Reply). Tells a c x b) (sym runs.is_told) step.tells;
        means = λ own. subst (λ (x : Reply). Moves sum size a c x b) (sym runs.is_told) (step.means (came own));
        leads = λ own. let leads = runs.leads (came own) in (stands_over view b leads.0, outcomes view Leads b cs rs leads.0 leads.1);
      }
  outcomes view Leads a [] (r ∷ rs) at runs = absurd runs
  outcomes view Leads a (c ∷ cs) [] at runs = absurd runs
