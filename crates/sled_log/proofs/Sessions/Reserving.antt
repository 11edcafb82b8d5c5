-- What a reservation makes of a session: the tickets with the one that comes, or all as it was, or the log ready for a record that it has none of.
use Rattle.std.proofs.Common.{◌≡◌, ◌≢◌, ◌∙◌, ◌≤◌, ◌<◌, ◌+◌, ◌==◌, inl, inr, ℕ, ℤ, pos, Bool, true, false, if◌then◌else◌, List, [], ◌∷◌, length, map, get_or, Option, is_some, Some, None, Result, Ok, Err, Vec, Global, refl, sym, ap, subst, arith}
use Rattle.std.proofs.lemmas.Bool.Decides.{Decides-int_eq}
use Rattle.std.specs.Bool.{MatchBool}
use Rattle.std.specs.Prelude.{IsSome}
use Rattle.std.specs.List.{Contains, slice_get}
use Rattle.std.specs.declared.io.Error.{Error as IoError}
use Rattle.std.proofs.lemmas.List.Elements.{All-weaker}
use Rattle.sled_codec.specs.declared.result.DiskPtr.{DiskPtr}
use Rattle.sled_codec.specs.declared.serialization.message.LogKind.{LogKind}
use Rattle.sled_codec.specs.declared.serialization.message.LogKind.TheVariants as does
use Rattle.sled_codec.specs.declared.serialization.message.MessageKind.{MessageKind}
use Rattle.sled_codec.specs.declared.serialization.message.MessageKind.TheVariants as written
use Rattle.sled_codec.specs.declared.result.Error.{Error}
use Rattle.sled_codec.specs.declared.result.Error.TheVariants as error
use Rattle.sled_codec.specs.History.{Batch, ChangesPage, History, Message}
use Rattle.sled_codec.specs.Kinds.{code_of}
use Rattle.sled_codec.specs.PageTables.{IsTable}
use Rattle.sled_codec.specs.Snapshots.{page_of}
use Rattle.sled_store.specs.Blobs.{blob_bytes, making}
use Rattle.sled_store.specs.Device.{Event, Trace, state_of}
use Rattle.sled_store.specs.Script.{Performs, after_all}
use Rattle.sled_store.proofs.Traces.ScriptLemmas.{performs_nothing}
use Rattle.sled_log.proofs.Sessions.BegunHeads.{HasOnlyBegun, begun_with, heads_kept, heads_left, other_same}
use Rattle.sled_core.specs.Begun.{SegmentView}
use Rattle.sled_core.specs.declared.logger.Log.{Log}
use Rattle.sled_core.specs.declared.reservation.Guard.{Guard}
use Rattle.sled_core.specs.declared.reservation.Reservation.{Reservation}
use Rattle.sled_core.specs.Buffers.{pointer_as}
use Rattle.sled_core.specs.Causes.{FaultOrMemory}
use Rattle.sled_core.specs.Fits.{Awaits, AwaitsIn, FitsInline, IsUnchanged, blob_at, body_length, config_of, device_of, fault_of, given_up_of, in_blob, in_blob_of, message_for, noted_in, open_places, pins_of, reserved_end, segment_size_of, target_of, start_of}
use Rattle.sled_core.specs.Among.{AreAmong}
use Rattle.sled_core.specs.GivenUp.{given_up_along}
use Rattle.sled_core.specs.Keeps.{ConfigKept, GoesOn, IsUnchangedOver, KeepsLog, KeepsSeen, Preserves}
use Rattle.sled_core.specs.Logged.{in_log}
use Rattle.sled_core.specs.LogStatus.{LogStatus}
use Rattle.sled_core.specs.Manifests.{kind_for, manifest_page}
use Rattle.sled_core.specs.Marked.{BeginsMarked}
use Rattle.sled_core.specs.OpenPlaces.{open_places_along}
use Rattle.sled_core.specs.Positions.{Position, lid_at, position_in}
use Rattle.sled_core.specs.Prepared.{IsMadeReady}
use Rattle.sled_core.specs.Reading.{IsInline}
use Rattle.sled_core.specs.Reserves.{MadeAnswers, MakesBlob, ReservesAs, TouchesBlob}
use Rattle.sled_core.specs.invariants.Running.{Fits}
use Rattle.sled_core.specs.Tickets.{place_of, pointer_of}
use Rattle.sled_core.specs.Waiting.{last_of, spans, start_in, unwritten}
use Rattle.sled_core.proofs.PublicLaws.{kept_further, not_in_blob}
use Rattle.sled_log.specs.declared.session.marking.Due.{Due}
use Rattle.sled_log.specs.declared.session.opened.Opened.{Opened}
use Rattle.sled_log.specs.declared.session.tickets.Ticket.{Ticket}
use Rattle.sled_log.specs.declared.session.command.Reply.{Reply}
use Rattle.sled_log.specs.declared.session.command.Reply.TheVariants as reply
use Rattle.sled_log.specs.declared.session.Phase.TheVariants as phase
use Rattle.sled_log.specs.Made.{JoinsWithBlob}
use Rattle.sled_log.specs.Reservations.{GivesBack, HasTried, HoldsTicket, MakesRoom, MayReserve}
use Rattle.sled_log.specs.RunPhases.{AreUnmarked, HasBatch, IsOpenAt, IsSafe, Unstored, device_in, seen, seen_log, shown_due, stands, traces, HasHeads}
use Rattle.sled_log.specs.RunStates.{DeviceView, LogView, RunState, has_message_for, open_messages, target_in, top, MarkAt, heads_at}
use Rattle.sled_log.specs.Runs.{StaysRecoverable}
use Rattle.sled_log.specs.TicketActs.{BlobActs, ReserveActs, making_for}
use Rattle.sled_log.specs.TicketSteps.{HasRecordPlace, RefusedStep, ReserveStep, own_in}
use Rattle.sled_log.proofs.Sessions.KeptPlaces.{HasHeld, KeptPlace, held_manifest, held_message, over_log, with_ticket}
use Rattle.sled_log.proofs.Sessions.ReservedPlaces.{beside_count, beside_least, body_fits, in_reach, out_of_reach}
use Rattle.sled_log.proofs.Sessions.PinsTaken.{IsMadeWithPin, back_account, back_fits, back_on, back_pins, origin_kept, out_for, pinned_log, unmarked_kept, unmarked_none, unpinned_log}
use Rattle.sled_log.proofs.Sessions.SafeItems.{safe_on}
use Rattle.sled_log.proofs.Sessions.Within.{going_on, untouched}

-- the last of these segments, of which there is one
abbrev current_in : List SegmentView → SegmentView
current_in [] = record { parts = record { site = record { place = 0; slot = 0 }; bytes = []; written_len = 0; filled = None; sealed = []; reserved = [] }; gone = 0 }
current_in (v ∷ vs) = last_of v vs

-- how often a device that is seen failed
abbrev pub counts : {D : Type 0} → (D → DeviceView) → D → ℕ
counts view device = (view device).failures

-- what holds in each of two cases holds where it goes by them
pub either : (b : Bool) (A B : Type 0) → (b ≡ true → A) → (b ≡ false → B) → MatchBool b A B
either true A B first second = first refl
either false A B first second = second refl

-- Kinds.

-- A Replace, a Link and a Free are written, and the last has no blob.
pub kind_some : (kind : LogKind) (page n : ℕ) (blob : Bool) → ChangesPage kind → (kind ≡ does.Free → blob ≡ false) → kind_for kind page blob n ≡ None → ⊥
kind_some does.Replace page n blob changes plain none = by (page == 1) (page == 0) (if blob then written.BlobNode else written.Counter) (if blob then written.BlobMeta else written.InlineMeta) (if blob then written.BlobNode else written.InlineNode) none where
  by : (a b : Bool) (x y z : MessageKind) → (if a then Some x else (if b then Some y else Some z)) ≡ None → ⊥
  by true b x y z is = cc
  by false true x y z is = cc
  by false false x y z is = cc
kind_some does.Link page n blob changes plain none = cc
kind_some does.Free page n blob changes plain none = by blob (plain refl) none where
  by : (b : Bool) → b ≡ false → (if b then None else Some written.Free) ≡ None → ⊥
  by true is none = cc
  by false is none = cc
kind_some does.Skip page n blob changes plain none = elim changes [ inl is ↦ cc | inr (inl is) ↦ cc | inr (inr is) ↦ cc ]
kind_some does.Corrupted page n blob changes plain none = elim changes [ inl is ↦ cc | inr (inl is) ↦ cc | inr (inr is) ↦ cc ]

-- no item is too short for a record
pub none_inline : {D C : Type 0} (log : Log D C) (bytes : List ℕ) → bytes ≡ [] → in_blob_of log (length bytes) ≡ false
none_inline log bytes is = ap (λ (b : List ℕ). in_blob_of log (length b)) is ∙ not_in_blob log 0 (let big = log.config.config.least in omega (arith, big))

-- What it does to the device.

-- where nothing was done
pub blob_same : (es : List Event) (fault : Option IoError) (old new : DeviceView) (e : Error) → new ≡ old → BlobActs es fault old (reply.Failed e) new
blob_same es fault old new (error.Io x) same = (performs_nothing es old.trace new.trace (ap (λ (d : DeviceView). d.trace) same), inr (ap (λ (d : DeviceView). d.trace) same), λ some. same)
blob_same es fault old new error.OutOfMemory same = (ap (λ (d : DeviceView). d.trace) same, ap (λ (d : DeviceView). d.failures) same)
blob_same es fault old new _ same = same

pub acts_same : (sum : List ℕ → ℕ) (size : ℕ) (l : LogView) (kind : LogKind) (page : ℕ) (bytes : List ℕ) (old new : DeviceView) (e : Error) → new ≡ old → ReserveActs sum size l kind page bytes old (reply.Failed e) new
acts_same sum size l kind page bytes old new e same = either (in_blob size (length bytes)) _ _ (λ goes. blob_same _ l.status.fault old new e same) (λ stays. same)

-- what holds of the calls that make a blob for a kind that is there
making_by : (P : List Event → Type 0) (sum : List ℕ → ℕ) (kind : Option MessageKind) (place : ℤ) (bytes : List ℕ) → IsSome kind
    → ((k : MessageKind) → kind ≡ Some k → P (making place (blob_bytes sum (code_of k) bytes))) → P (making_for sum kind place bytes)
making_by P sum None place bytes some each = cc
making_by P sum (Some k) place bytes some each = each k refl

module _ {D C : Type 0} (view : D → DeviceView) (sum : List ℕ → ℕ) (old new : Log D C) (kind : LogKind) (page : ℕ) (bytes : List ℕ) (begun : ℕ) (tickets : List (Option Message)) (given_up : List Message) (heads : List MarkAt) where
  abbrev there : LogView
  there = seen_log old begun tickets given_up heads

  abbrev goes : Bool
  goes = in_blob_of old (length bytes)

  abbrev body : ℕ
  body = body_length old (length bytes)

  abbrev blob_place : ℤ
  blob_place = pos (target_of old page body).place

  abbrev calls : List Event
  calls = making_for sum (kind_for kind page true 8) blob_place bytes

  -- a blob was made, or the device left alone
  blob_made : (T : Type 0) (r : Result T Error) (b : Bool) → b ≡ true → TouchesBlob (traces view) sum r b (kind_for kind page true 8) blob_place bytes old new → MakesBlob (traces view) sum r (kind_for kind page true 8) blob_place bytes old new
  blob_made T r true is touched = touched
  blob_made T r false is touched = cc

  alone : (T : Type 0) (r : Result T Error) (b : Bool) → b ≡ false → TouchesBlob (traces view) sum r b (kind_for kind page true 8) blob_place bytes old new → config_of new ≡ config_of old
  alone T r true is touched = cc
  alone T r false is touched = touched

  -- the kind of a message that has a blob
  kind_there : goes ≡ true → IsSome (kind_for kind page goes body) → IsSome (kind_for kind page true 8)
  kind_there is some = subst (λ (b : Bool). IsSome (kind_for kind page b (if b then 8 else length bytes))) is some

  -- Where it was made,
  pub made_acts : (reservation : Reservation) (number : ℕ) (place : ℤ) (pointer : DiskPtr) → ReservesAs (traces view) (counts view) sum (Ok reservation) kind page bytes goes body old new
      → ReserveActs sum (segment_size_of old) there kind page bytes (view old.config.device) (reply.Reserved number place pointer) (view new.config.device)
  made_acts reservation number place pointer came = either goes _ _
      (λ is. (
        making_by (λ es. (view new.config.device).trace ≡ after_all es (view old.config.device).trace) sum (kind_for kind page true 8) blob_place bytes (kind_there is came.answers.1.0) (blob_made Reservation (Ok reservation) goes is came.device).done,
        came.answers.0.2,
      ))
      (λ is. ap (λ x. view x.device) (alone Reservation (Ok reservation) goes is came.device))

  -- and where the device failed, or there was one.
  pub failed_acts : (x : IoError) → goes ≡ true → fault_of old ≡ None → IsSome (kind_for kind page goes body) → ReservesAs (traces view) (counts view) sum (Err (error.Io x)) kind page bytes goes body old new
      → BlobActs calls (fault_of old) (view old.config.device) (reply.Failed (error.Io x)) (view new.config.device)
  failed_acts x is none some came =
      let made = blob_made Reservation (Err (error.Io x)) goes is came.device in (
        making_by (λ es. Performs es (view old.config.device).trace (view new.config.device).trace) sum (kind_for kind page true 8) blob_place bytes (kind_there is some) made.calls,
        made.refused,
        λ kept. (let clash : false ≡ true = sym (ap is_some none) ∙ kept in cc),
      )

  -- Without memory for it nothing was done.
  pub short_acts : goes ≡ true → ReservesAs (traces view) (counts view) sum (Err error.OutOfMemory) kind page bytes goes body old new
      → BlobActs calls (fault_of old) (view old.config.device) (reply.Failed error.OutOfMemory) (view new.config.device)
  short_acts is came = ((blob_made Reservation (Err error.OutOfMemory) goes is came.device).refused, came.answers.0.2)

-- Where a place was kept.

-- The blob that a reservation makes has the place of its message.
own_here : (b : Bool) (place lid : ℕ) → blob_at b place ≡ own_in (pos place) (pointer_as (blob_at b place) lid)
own_here false place lid = refl
own_here true place lid = sym (ap (λ (o : Bool). if o then Some (pos place) else None) ((Decides-int_eq (pos place) (pos place)).1 refl))

-- A reservation that succeeds keeps one for its message, with the pin that was taken for it.
pub kept_place : {D C : Type 0} (trace : D → Trace) (faults : D → ℕ) (sum : List ℕ → ℕ) (old new : Log D C) (kind : LogKind) (page : ℕ) (bytes : List ℕ) (reservation : Reservation)
    → Preserves trace sum old (pinned_log old)
    → ReservesAs trace faults sum (Ok reservation) kind page bytes (in_blob_of old (length bytes)) (body_length old (length bytes)) (pinned_log old) new
    → KeptPlace trace sum old new (body_length old (length bytes)) (message_for old kind page bytes) reservation
kept_place trace faults sum old new kind page bytes reservation pin came = record {
  place = refl;
  size = refl;
  ticket = came.ticket;
  own = came.own ∙ own_here (in_blob_of old (length bytes)) (target_of old page (body_length old (length bytes))).place (lid_at (target_of old page (body_length old (length bytes))));
  stored = came.stored;
  behind = came.behind;
  others = came.others;
  fault = came.answers.0.0;
  sound = came.answers.0.1;
  free = came.answers.1.1;
  few = came.answers.1.2;
  keeps = kept_further trace sum old (pinned_log old) new pin came.keeps;
  seen = came.seen;
}

-- its blob, if it has one, is its own
own_blob : {D C : Type 0} (log : Log D C) (H : History) (kind : LogKind) (page : ℕ) (bytes : List ℕ) → JoinsWithBlob H (message_for log kind page bytes) (message_for log kind page bytes).pointer
own_blob log H kind page bytes = by (in_blob_of log (length bytes)) where
  by : (b : Bool)
      → JoinsWithBlob H (message_for log kind page bytes) (pointer_as (blob_at b (target_of log page (body_length log (length bytes))).place) (lid_at (target_of log page (body_length log (length bytes)))))
  by true = inl refl
  by false = tt

module _ {D C : Type 0} (view : D → DeviceView) (sum : List ℕ → ℕ) (old new : Opened D C) (log : Log D C) (kind : LogKind) (page : ℕ) (bytes : List ℕ) (reservation : Reservation) (guard : Guard) (result : Reply) (k : Unstored)
    (pin : Preserves (traces view) sum old.log (pinned_log old.log))
    (came : ReservesAs (traces view) (counts view) sum (Ok reservation) kind page bytes (in_blob_of old.log (length bytes)) (body_length old.log (length bytes)) (pinned_log old.log) log)
    (holds : HoldsTicket (over_log old log) new kind page reservation guard result) (none : old.due ≡ None) (at : IsOpenAt (traces view) sum old k) where
  abbrev its : Message
  its = message_for old.log kind page bytes

  abbrev long : ℕ
  long = body_length old.log (length bytes)

  kept : KeptPlace (traces view) sum old.log log long its reservation
  kept = kept_place (traces view) (counts view) sum old.log log kind page bytes reservation pin came

  inline : FitsInline (segment_size_of old.log) long
  inline = body_fits old.log (length bytes)

  tried_by : HasHeld view sum old new long its reservation k → HasTried view sum old kind page bytes new result k
  tried_by held =
      let number : ℕ = length old.tickets.items in
      subst (λ r. HasTried view sum old kind page bytes new r k) (sym holds.told) (record {
        not_refused = refl;
        acts = subst (λ (x : Log D C). ReserveActs sum (segment_size_of old.log) (seen old k.tickets k.given_up k.heads) kind page bytes (view old.log.config.device) (reply.Reserved number (place_of reservation) (pointer_of reservation)) (view x.config.device)) (sym holds.log)
            (made_acts view sum (pinned_log old.log) log kind page bytes (length old.pages.items) k.tickets k.given_up k.heads reservation number (place_of reservation) (pointer_of reservation) came);
        tickets = with_ticket k its (heads_at (seen old k.tickets k.given_up k.heads) (start_of new.log));
        step = held.reserved;
        at = held.at;
        crash = subst (λ (x : Log D C). StaysRecoverable sum (segment_size_of old.log) (stands view (phase.Open old) k) (traces view (device_of old.log)) (traces view (device_of x))) (sym holds.log) (going_on (traces view) sum old k at log kept.keeps.goes_on);
      })

  -- A message of a page has a ticket then,
  pub held_tried : ChangesPage kind → page < length old.busy.items → page ≢ manifest_page → MayReserve k.history (seen old k.tickets k.given_up k.heads) kind page → HasTried view sum old kind page bytes new result k
  held_tried changes small message may =
      tried_by (held_message view sum old new log long its reservation guard result k kept holds none at inline changes (own_blob old.log k.history kind page bytes) small message may)

  -- or the manifest of a batch, whose item is in its record.
  pub manifest_tried : kind ≡ does.Skip → page ≡ manifest_page → in_blob_of old.log (length bytes) ≡ false → has_message_for page (open_messages k.tickets) ≡ false → HasTried view sum old kind page bytes new result k
  manifest_tried skip manifest short idle =
      let q : Position = target_of old.log page long in
      let plain : IsInline its.pointer = subst (λ (b : Bool). IsInline (pointer_as (blob_at b q.place) (lid_at q))) (sym short) tt in
      tried_by (held_manifest view sum old new log long its reservation guard result k kept holds none at inline skip manifest plain idle)

-- What stays.

-- A log goes on with its tickets, and with all that they and the history of a session rest on. A pin is out where a message isn't marked yet.
pub record StillHolds {D C : Type 0} (trace : D → Trace) (sum : List ℕ → ℕ) (old new : Log D C) : Type 0 where
  pub fits : (H : History) (A f : ℕ) (U : List Message) → (U ≢ [] → 0 < pins_of old) → Fits trace sum old H A f U → Fits trace sum new H A f U
  pub awaits : (ticket : Reservation) (m : Message) → Awaits old ticket m → Awaits new ticket m
  pub opens : open_places new ≡ open_places old
  pub given_up : AreAmong (given_up_of new) (given_up_of old)
  pub grown : reserved_end old ≤ reserved_end new
  pub config : ConfigKept (config_of old) (config_of new)
  pub pins : pins_of new ≡ pins_of old
  pub noted : noted_in new ≡ noted_in old
  pub sound : fault_of new ≡ None → fault_of old ≡ None
  pub safe : (m : Message) → IsSafe trace sum old m → IsSafe trace sum new m

-- What a session keeps beside its log: its pages, tickets, notes, and what it was opened on; and which messages aren't marked yet.
pub record KeepsOpened {D C : Type 0} (old new : Opened D C) (H : History) : Type 0 where
  pub pages : new.pages ≡ old.pages
  pub tickets : new.tickets.items ≡ old.tickets.items
  pub busy : (page : ℕ) → get_or new.busy.items page false ≡ get_or old.busy.items page false
  pub batch : new.batch ≡ old.batch
  pub origin : new.origin ≡ old.origin
  pub due : (U : List Message) → AreUnmarked old.log H old.due U → AreUnmarked new.log H new.due U

-- So it does over another log, where no mark is due.
pub beside_log : {D C : Type 0} (old : Opened D C) (log : Log D C) (H : History) → old.due ≡ None → KeepsOpened old (over_log old log) H
beside_log old log H none =
    record { pages = refl; tickets = refl; busy = λ p. refl; batch = refl; origin = refl; due = unmarked_none old.log log H old.due old.due refl none }

-- So does a session over it, with the same tickets and pages, with the buffers that were begun.
pub still_at : {D C : Type 0} (trace : D → Trace) (sum : List ℕ → ℕ) (old new : Opened D C) (k : Unstored) (heads : List MarkAt) → HasHeads sum new.log heads → StillHolds trace sum old.log new.log
    → KeepsOpened old new k.history → IsOpenAt trace sum old k → IsOpenAt trace sum new (begun_with k heads)
still_at trace sum old new k heads among still beside at =
    let up = still.grown in
    record {
      made = at.made;
      unmarked = at.unmarked;
      due = beside.due at.unmarked at.due;
      fits = still.fits k.history k.acknowledged k.floor at.unmarked (out_for at.unmarked (length (open_messages k.tickets)) (pins_of old.log) at.pinned) at.fits;
      zeros = at.zeros;
      pinned = still.pins ∙ at.pinned;
      origin = origin_kept old.log new.log k.floor new.origin still.config (beside.origin ∙ at.origin);
      table = subst (λ p. IsTable (map page_of p.items) k.history top) (sym beside.pages) at.table;
      tickets = record {
        as_many = ap length beside.tickets ∙ at.tickets.as_many;
        each = λ n m there.
            let is = at.tickets.each n m there in
            let low = is.begins in
            let end = is.ends in
            record {
              ticket = is.ticket;
              there = ap (λ (l : List (Option Ticket)). slice_get l n) beside.tickets ∙ is.there;
              kind = is.kind;
              page = is.page;
              awaits = still.awaits is.ticket.reservation m is.awaits;
              own = is.own;
              stored = still.safe m is.stored;
              joins = is.joins;
              begins_batch = λ of. let begun = is.begins_batch of in record { kind = begun.kind; inline = begun.inline; apart = λ b known. begun.apart b (subst (λ (bs : List Batch). Contains bs b) still.noted known) };
              begins = omega (arith, low, up);
              ends = omega (arith, end, up);
            };
        gone = λ n there. ap (λ (l : List (Option Ticket)). slice_get l n) beside.tickets ∙ at.tickets.gone n there;
        apart = at.tickets.apart;
        rising = at.tickets.rising;
        are_all = λ none. still.opens ∙ at.tickets.are_all (still.sound none);
        busy = λ page message. beside.busy page ∙ at.tickets.busy page message;
        batch = subst (HasBatch k.tickets) (sym beside.batch) at.tickets.batch;
      };
      given_up = λ m given. at.given_up m (still.given_up m given);
      heads = among;
      ends = All-weaker (λ m. m.place + m.size ≤ reserved_end old.log) (λ m. m.place + m.size ≤ reserved_end new.log) (λ m low. omega (arith, low, up)) k.history.messages at.ends;
    }

-- So does a log of which nothing is another, once the pin went back that was taken,
pub unchanged_holds : {D C : Type 0} (trace : D → Trace) (sum : List ℕ → ℕ) (old log : Log D C) → IsUnchanged (pinned_log old) log → IsMadeWithPin trace sum old log → StillHolds trace sum old (unpinned_log log)
unchanged_holds trace sum old log unchanged made =
    let on : GoesOn trace sum old (unpinned_log log) = back_on trace sum old log made in
    record {
      fits = back_fits trace sum old log made;
      awaits = λ ticket m awaits. subst (λ (l : List SegmentView). AwaitsIn l ticket (in_log m)) (sym unchanged.line) awaits;
      opens = ap open_places_along unchanged.line;
      given_up = λ m given. subst (λ (l : List SegmentView). Contains (given_up_along l) m) unchanged.line given;
      grown = let same = unchanged.reserved in omega (arith, same);
      config = on.config;
      pins = back_pins trace sum old log made;
      noted = unchanged.noted;
      sound = on.sound;
      safe = λ m. safe_on trace sum old (unpinned_log log) m on;
    }

-- whose headers that aren't on the device are what they were,
pub unchanged_heads : {D C : Type 0} (sum : List ℕ → ℕ) (old log : Log D C) (heads : List MarkAt) → IsUnchanged (pinned_log old) log → HasHeads sum old heads → HasHeads sum (unpinned_log log) heads
unchanged_heads sum old log heads unchanged = heads_left sum old (unpinned_log log) heads (other_same old (unpinned_log log) unchanged.line)

-- which has only what was begun, however many pins are out,
begun_back : {D C : Type 0} (sum : List ℕ → ℕ) (old log : Log D C) → BeginsMarked sum (pinned_log old) log → HasOnlyBegun sum old (unpinned_log log)
begun_back sum old log marked = record { marked = marked.heads; filled = marked.fillings }

-- and one that was made ready for a record.
ready_holds : {D C : Type 0} (trace : D → Trace) (sum : List ℕ → ℕ) (old log : Log D C) (page n : ℕ) → IsMadeReady sum (pinned_log old) log page n → IsMadeWithPin trace sum old log → StillHolds trace sum old (unpinned_log log)
ready_holds trace sum old log page n ready made =
    let on : GoesOn trace sum old (unpinned_log log) = back_on trace sum old log made in
    record {
      fits = back_fits trace sum old log made;
      awaits = ready.tickets.awaits;
      opens = ready.tickets.opens;
      given_up = ready.tickets.given_up;
      grown = let end = ap (λ (x : LogStatus). x.reserved) ready.stands.1 in omega (arith, end);
      config = on.config;
      pins = back_pins trace sum old log made;
      noted = made.seen.noted;
      sound = on.sound;
      safe = λ m. safe_on trace sum old (unpinned_log log) m on;
    }

-- Where nothing is another the run stands where it stood.
pub unchanged_stands : {D C : Type 0} (view : D → DeviceView) (sum : List ℕ → ℕ) (old : Opened D C) (log : Log D C) (k : Unstored) → IsUnchanged (pinned_log old.log) log → IsMadeWithPin (traces view) sum old.log log
    → stands view (phase.Open (over_log old (unpinned_log log))) k ≡ stands view (phase.Open old) k
unchanged_stands view sum old log k unchanged made =
    let pins = back_pins (traces view) sum old.log log made in
    let account = back_account (traces view) sum old.log log made in
    λ i. record {
      device = view (unchanged.config i).device;
      history = k.history;
      acknowledged = k.acknowledged;
      floor = k.floor;
      log = Some (record {
        status = record {
          position = position_in (unchanged.config i).config.segment_size (current_in (unchanged.line i)) (unchanged.machine i);
          machine = unchanged.machine i;
          reserved = unchanged.reserved i;
          synced = made.seen.synced i;
          noted = made.seen.noted i;
          waiting = spans (unwritten (unchanged.line i));
          start = start_in (current_in (unchanged.line i));
          opens = open_places_along (unchanged.line i);
          fault = unchanged.fault i;
          pins = pins i;
          account = account i;
        };
        begun = length old.pages.items;
        tickets = k.tickets;
        given_up = k.given_up;
        heads = k.heads;
      });
      due = shown_due old.due;
    }

-- Where a place was refused, and the pin went back.

module _ {D C : Type 0} (view : D → DeviceView) (sum : List ℕ → ℕ) (old : Opened D C) (log : Log D C) (kind : LogKind) (page : ℕ) (bytes : List ℕ) (k : Unstored)
    (none_due : old.due ≡ None) (at : IsOpenAt (traces view) sum old k) (made : IsMadeWithPin (traces view) sum old.log log) where
  abbrev size : ℕ
  size = segment_size_of old.log

  abbrev begun : ℕ
  begun = length old.pages.items

  abbrev blob : Bool
  blob = in_blob_of old.log (length bytes)

  abbrev n : ℕ
  n = body_length old.log (length bytes)

  abbrev l : LogView
  l = seen old k.tickets k.given_up k.heads

  abbrev q : Position
  q = target_in size l page n

  abbrev back : Log D C
  back = unpinned_log log

  abbrev after : Opened D C
  after = over_log old back

  abbrev a : RunState
  a = stands view (phase.Open old) k

  abbrev now : DeviceView
  now = device_in view (phase.Open after)

  abbrev Came : Error → Type 0
  Came e = ReservesAs (traces view) (counts view) sum (Err e) kind page bytes blob n (pinned_log old.log) log

  fits : FitsInline size n
  fits = body_fits old.log (length bytes)

  beside : KeepsOpened old after k.history
  beside = beside_log old back k.history none_due

  goes_back : StaysRecoverable sum size a a.device.trace now.trace
  goes_back = going_on (traces view) sum old k at back (back_on (traces view) sum old.log log made)

  -- with nothing done
  unchanged_tried : (e : Error) → IsUnchanged (pinned_log old.log) log → ((b : RunState) → b ≡ a → RefusedStep size a l q e b) → HasTried view sum old kind page bytes after (reply.Failed e) k
  unchanged_tried e unchanged refused = record {
    not_refused = refl;
    acts = acts_same sum size l kind page bytes a.device now e (ap (λ x. view x.device) unchanged.config);
    tickets = k;
    step = inl (refused (stands view (phase.Open after) k) (unchanged_stands view sum old log k unchanged made));
    at = still_at (traces view) sum old after k k.heads (unchanged_heads sum old.log log k.heads unchanged at.heads) (unchanged_holds (traces view) sum old.log log unchanged made) beside at;
    crash = goes_back;
  }

  -- with the log made ready
  ready_tried : (e : Error) → blob ≡ true → IsMadeReady sum (pinned_log old.log) log page n → fault_of old.log ≡ None
      → BlobActs (making_for sum (kind_for kind page true 8) (pos q.place) bytes) l.status.fault a.device (reply.Failed e) now
      → HasRecordPlace size l q e → MadeAnswers {T = Unit {0}} (Err e) ((state_of a.device.trace).blobs.file (pos q.place)) (fault_of log) a.device.failures now.failures → HasTried view sum old kind page bytes after (reply.Failed e) k
  ready_tried e is ready none acts room cause =
      let pins = back_pins (traces view) sum old.log log made in
      let account = back_account (traces view) sum old.log log made in
      record {
        not_refused = refl;
        acts = either blob _ _ (λ goes. acts) (λ stays. (let clash : true ≡ false = sym is ∙ stays in cc));
        tickets = begun_with k (heads_at l (start_of log));
        step = inr (
          is,
          record {
            fault = none;
            room = room;
            kept = fault_of log;
            cause = cause;
            leads = λ i. record {
              device = now;
              history = k.history;
              acknowledged = k.acknowledged;
              floor = k.floor;
              log = Some (record {
                status = record (ready.stands.1 i) { pins = pins i; account = account i };
                begun = begun;
                tickets = k.tickets;
                given_up = k.given_up;
                heads = heads_at l (ready.stands.1 i).start;
              });
              due = shown_due old.due;
            };
          },
        );
        at = still_at (traces view) sum old after k (heads_at l (start_of log)) (heads_kept sum old.log back begun k.tickets k.given_up k.heads (begun_back sum old.log log ready.marked) at.heads)
            (ready_holds (traces view) sum old.log log page n ready made) beside at;
        crash = goes_back;
      }

  -- a device that failed, or a blob of that name
  blob_tried : (x : IoError) → Came (error.Io x) → blob ≡ true → IsMadeReady sum (pinned_log old.log) log page n → fault_of old.log ≡ None
      → HasTried view sum old kind page bytes after (reply.Failed (error.Io x)) k
  blob_tried x came is ready none = elim came.answers [
    | inl kept ↦ (let clash : None ≡ Some x = sym none ∙ kept.0 in cc)
    | inr refused ↦ (
        let same = beside_count old.log begun k.tickets k.given_up k.heads sum page n fits in
        let less = refused.room.2 in
        ready_tried (error.Io x) is ready none (failed_acts view sum (pinned_log old.log) log kind page bytes begun k.tickets k.given_up k.heads x is none refused.room.0 came)
        (in_reach old.log begun k.tickets k.given_up k.heads sum page n fits refused.room.1, omega (arith, same, less)) refused.refused)
  ]

  pub failed_tried : (e : Error) → (kind_for kind page blob n ≡ None → ⊥) → Came e
      → HasTried view sum old kind page bytes after (reply.Failed e) k
  failed_tried (error.Io x) written came = elim came.left [
    | inl same ↦ unchanged_tried (error.Io x) same.1 (λ b is. (same.0, is))
    | inr ready ↦ blob_tried x came ready.0 ready.2 ready.1
  ]
  failed_tried error.OutOfMemory written came = elim came.left [
    | inl same ↦ unchanged_tried error.OutOfMemory same (λ b is. (came.answers.0.0, is))
    | inr ready ↦ (
        ready_tried error.OutOfMemory ready.0 ready.1 came.answers.0.0 (short_acts view sum (pinned_log old.log) log kind page bytes begun k.tickets k.given_up k.heads ready.0 came) tt
        (came.answers.0.1, came.answers.0.2))
  ]
  failed_tried error.PlacesUsedUp written came =
      unchanged_tried error.PlacesUsedUp came.left (λ b is. (came.answers.0.0, out_of_reach old.log begun k.tickets k.given_up k.heads sum page n fits came.answers.2, is))
  failed_tried (error.Held p) written came =
      unchanged_tried (error.Held p) came.left (λ b is. (beside_least old.log begun k.tickets k.given_up k.heads sum page n fits p came.answers.0.0 came.answers.3 came.answers.4, is))
  failed_tried (error.Unsupported text) written came = absurd (written came.answers.1)
  failed_tried _ written came = absurd came.answers

-- A pin is taken first.

-- What a reservation comes to of a log with a pin more it comes to of a log that is the same.
pub came_pinned : {D C : Type 0} (trace : D → Trace) (faults : D → ℕ) (sum : List ℕ → ℕ) (result : Result Reservation Error) (kind : LogKind) (page : ℕ) (bytes : List ℕ) (old pinned new : Log D C) → pinned ≡ pinned_log old
    → ReservesAs trace faults sum result kind page bytes (in_blob_of pinned (length bytes)) (body_length pinned (length bytes)) pinned new
    → ReservesAs trace faults sum result kind page bytes (in_blob_of old (length bytes)) (body_length old (length bytes)) (pinned_log old) new
came_pinned {D} {C} trace faults sum result kind page bytes old pinned new taken came =
    subst (λ (x : Log D C). ReservesAs trace faults sum result kind page bytes (in_blob_of x (length bytes)) (body_length x (length bytes)) x new) taken came

pub pin_taken : {D C : Type 0} (trace : D → Trace) (sum : List ℕ → ℕ) (old pinned : Log D C) → pinned ≡ pinned_log old → Preserves trace sum old pinned → Preserves trace sum old (pinned_log old)
pin_taken {D} {C} trace sum old pinned taken keeps = subst (λ (x : Log D C). Preserves trace sum old x) taken keeps

-- And where no place was kept it goes back.
module _ {D C : Type 0} (trace : D → Trace) (sum : List ℕ → ℕ) (old new : Opened D C) (log : Log D C) (why : Error) (result : Reply) (gives : GivesBack trace sum (over_log old log) new why result) where
  pub went_back : Preserves trace sum old.log (pinned_log old.log) → Preserves trace sum (pinned_log old.log) log → KeepsSeen (pinned_log old.log) log → IsMadeWithPin trace sum old.log log
  went_back pin keeps seen = record {
    pin = pin;
    keeps = keeps;
    seen = seen;
    back = λ H A f U fits out. subst (λ (x : Log D C). Fits trace sum x H A f U) (ap (λ (o : Opened D C). o.log) gives.given) (gives.fits H A f U fits out);
    goes_on = subst (λ (x : Log D C). GoesOn trace sum log x) (ap (λ (o : Opened D C). o.log) gives.given) gives.goes_on;
  }

-- what it comes to then
pub given_tried : {D C : Type 0} (view : D → DeviceView) (sum : List ℕ → ℕ) (old new : Opened D C) (log : Log D C) (kind : LogKind) (page : ℕ) (bytes : List ℕ) (k : Unstored) (why : Error) (result : Reply)
    → GivesBack (traces view) sum (over_log old log) new why result → HasTried view sum old kind page bytes (over_log old (unpinned_log log)) (reply.Failed why) k → HasTried view sum old kind page bytes new result k
given_tried {D} {C} view sum old new log kind page bytes k why result gives tried =
    subst (λ r. HasTried view sum old kind page bytes new r k) (sym gives.told)
    (subst (λ (o : Opened D C). HasTried view sum old kind page bytes o (reply.Failed why) k) (sym gives.given) tried)

-- A call that asks nothing of a log but of its device keeps all.
pub still_over : {D C : Type 0} (trace : D → Trace) (sum : List ℕ → ℕ) (old new : Log D C) → KeepsLog trace sum old new → IsUnchangedOver old new → StillHolds trace sum old new
still_over trace sum old new keeps rest = record {
  fits = λ H A f U out. keeps.preserves.fits H A f U;
  awaits = keeps.tickets.awaits;
  opens = keeps.tickets.opens;
  given_up = keeps.tickets.given_up;
  grown = let same = rest.reserved in omega (arith, same);
  config = keeps.preserves.goes_on.config;
  pins = rest.pins;
  noted = rest.noted;
  sound = keeps.preserves.goes_on.sound;
  safe = λ m. safe_on trace sum old new m keeps.preserves.goes_on;
}

-- Room.

-- where only room was made all holds that did
pub room_at : {D C : Type 0} (trace : D → Trace) (sum : List ℕ → ℕ) (old new : Opened D C) (k : Unstored) → MakesRoom old new → IsOpenAt trace sum old k → IsOpenAt trace sum new k
room_at {D} {C} trace sum old new k room at = still_at trace sum old new k k.heads (subst (λ x. HasHeads sum x k.heads) (sym room.log) at.heads) same beside at where
  same : StillHolds trace sum old.log new.log
  same = record {
    fits = λ H A f U out. subst (λ x. Fits trace sum x H A f U) (sym room.log);
    awaits = λ ticket m. subst (λ x. Awaits x ticket m) (sym room.log);
    opens = ap open_places room.log;
    given_up = λ m given. subst (λ x. Contains (given_up_of x) m) room.log given;
    grown = let end = ap reserved_end room.log in omega (arith, end);
    config = record { config = ap (λ (x : Log D C). x.config.config) room.log; checksum = ap (λ (x : Log D C). x.config.checksum) room.log };
    pins = ap pins_of room.log;
    noted = ap noted_in room.log;
    sound = λ none. ap fault_of (sym room.log) ∙ none;
    safe = λ m. subst (λ x. IsSafe trace sum x m) (sym room.log);
  }

  beside : KeepsOpened old new k.history
  beside = record {
    pages = room.pages;
    tickets = room.tickets;
    busy = room.busy;
    batch = room.batch;
    origin = room.origin;
    due = unmarked_kept old.log new.log k.history old.due new.due room.due (λ none. ap fault_of room.log ∙ none);
  }

-- what holds of the log, of how many pages are begun and of the mark that is due holds as before
pub by_room : {D C : Type 0} (old new : Opened D C) (P : Log D C → ℕ → Option Due → Type 0) → MakesRoom old new → P new.log (length new.pages.items) new.due → P old.log (length old.pages.items) old.due
by_room old new P room holds =
    subst (λ d. P old.log (length old.pages.items) d) room.due (subst (λ p. P old.log (length p.items) new.due) room.pages (subst (λ x. P x (length new.pages.items) new.due) room.log holds))

-- and a reservation comes to the same
pub room_may : {D C : Type 0} (old new : Opened D C) (k : Unstored) (kind : LogKind) (page : ℕ) → MakesRoom old new → MayReserve k.history (seen old k.tickets k.given_up k.heads) kind page → MayReserve k.history (seen new k.tickets k.given_up k.heads) kind page
room_may old new k kind page room may =
    subst (λ x. MayReserve k.history (seen_log x (length new.pages.items) k.tickets k.given_up k.heads) kind page) (sym room.log)
    (subst (λ p. MayReserve k.history (seen_log old.log (length p.items) k.tickets k.given_up k.heads) kind page) (sym room.pages) may)

-- where a run stands with a log that is open
abbrev pub run_over : {D C : Type 0} → (D → DeviceView) → Unstored → Log D C → ℕ → Option Due → RunState
run_over view k log begun due = record {
  device = view log.config.device;
  history = k.history;
  acknowledged = k.acknowledged;
  floor = k.floor;
  log = Some (seen_log log begun k.tickets k.given_up k.heads);
  due = shown_due due;
}

-- no room was made for a place, for want of memory, or since the log keeps a failure
pub roomless_step : (segment : ℕ) (run : RunState) (log : LogView) (at : Position) (e : Error) (b : RunState) → FaultOrMemory {T = Unit {0}} (Err e) ⊥ log.status.fault → b ≡ run → RefusedStep segment run log at e b
roomless_step segment run log at (error.Io x) b whole is = (whole, is)
roomless_step segment run log at error.OutOfMemory b whole is = (whole.1, is)
roomless_step segment run log at error.PlacesUsedUp b whole is = absurd whole.0
roomless_step segment run log at _ b whole is = absurd whole

pub room_tried : {D C : Type 0} (view : D → DeviceView) (sum : List ℕ → ℕ) (old mid new : Opened D C) (kind : LogKind) (page : ℕ) (bytes : List ℕ) (result : Reply) (k : Unstored) → MakesRoom old mid
    → HasTried view sum mid kind page bytes new result k → HasTried view sum old kind page bytes new result k
room_tried {D = D} {C = C} view sum old mid new kind page bytes result k room tried =
    let now : DeviceView = device_in view (phase.Open new) in
    let run : Log D C → ℕ → Option Due → RunState = λ x begun due. run_over view k x begun due in
    record {
      not_refused = tried.not_refused;
      acts = by_room old mid (λ x begun due. ReserveActs sum (segment_size_of x) (seen_log x begun k.tickets k.given_up k.heads) kind page bytes (view x.config.device) result now) room tried.acts;
      tickets = tried.tickets;
      step = by_room old mid (λ x begun due. ReserveStep (segment_size_of x) (run x begun due) (seen_log x begun k.tickets k.given_up k.heads) kind page bytes result now (stands view (phase.Open new) tried.tickets)) room tried.step;
      at = tried.at;
      crash = by_room old mid (λ x begun due. StaysRecoverable sum (segment_size_of x) (run x begun due) (view x.config.device).trace now.trace) room tried.crash;
    }

-- the run stands where it stood
pub room_stands : {D C : Type 0} (view : D → DeviceView) (old new : Opened D C) (k : Unstored) → MakesRoom old new → stands view (phase.Open new) k ≡ stands view (phase.Open old) k
room_stands view old new k room = λ i. run_over view k (room.log i) (length (room.pages i).items) (room.due i)

-- without room for a ticket, or where the log keeps a failure
pub roomless_tried : {D C : Type 0} (view : D → DeviceView) (sum : List ℕ → ℕ) (old new : Opened D C) (kind : LogKind) (page : ℕ) (bytes : List ℕ) (k : Unstored) (e : Error) → MakesRoom old new
    → FaultOrMemory {T = Unit {0}} (Err e) ⊥ (fault_of old.log) → IsOpenAt (traces view) sum old k → HasTried view sum old kind page bytes new (reply.Failed e) k
roomless_tried view sum old new kind page bytes k e room whole at =
    let size : ℕ = segment_size_of old.log in
    let l : LogView = seen old k.tickets k.given_up k.heads in
    record {
      not_refused = refl;
      acts = acts_same sum size l kind page bytes (device_in view (phase.Open old)) (device_in view (phase.Open new)) e (ap (λ x. view x.config.device) room.log);
      tickets = k;
      step = inl (roomless_step size (stands view (phase.Open old) k) l (target_in size l page (body_length old.log (length bytes))) e (stands view (phase.Open new) k) whole (room_stands view old new k room));
      at = room_at (traces view) sum old new k room at;
      crash = untouched (traces view) sum old k at (traces view (device_of new.log)) (ap (λ x. traces view x.config.device) room.log);
    }

-- A page that is noted is never that of manifests.
pub noted_page : (busy : Vec Bool Global) (page : ℕ) → page < length busy.items → page ≢ manifest_page
noted_page busy page low is = let most = busy.small in omega (arith, low, most, is)
