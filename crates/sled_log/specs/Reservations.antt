-- How a session keeps a place for a message.
use Rattle.std.specs.Prelude.{◌≡◌, ◌≢◌, ◌⊎◌, ◌-◌, ◌<◌, ◌≤◌, ◌==◌, if◌then◌else◌, ℕ, true, false, List, [], ◌∷◌, ◌++◌, length, get_or, set, ℤ, Option, None}
use Rattle.std.specs.Prelude.{Some}
use Rattle.sled_codec.specs.declared.result.Error.{Error}
use Rattle.sled_codec.specs.declared.serialization.message.LogKind.{LogKind}
use Rattle.sled_codec.specs.declared.serialization.message.LogKind.TheVariants.{Link, Replace}
use Rattle.sled_codec.specs.History.{History, Message}
use Rattle.sled_codec.specs.Snapshots.{Page, Present}
use Rattle.sled_core.specs.declared.reservation.Guard.{Guard}
use Rattle.sled_core.specs.declared.reservation.Reservation.{Reservation}
use Rattle.sled_store.specs.Device.{Trace}
use Rattle.sled_core.specs.Fits.{pins_of, segment_size_of}
use Rattle.sled_core.specs.invariants.Running.{Fits}
use Rattle.sled_core.specs.Keeps.{GoesOn}
use Rattle.sled_core.specs.Manifests.{manifest_page}
use Rattle.sled_core.specs.Tickets.{place_of, pointer_of}
use Rattle.sled_log.specs.declared.session.Phase.TheVariants.{Open}
use Rattle.sled_log.specs.declared.session.opened.Opened.{Opened}
use Rattle.sled_log.specs.declared.session.command.Reply.{Reply}
use Rattle.sled_log.specs.declared.session.command.Reply.TheVariants as reply
use Rattle.sled_log.specs.Refusals.{is_busy, reason_of}
use Rattle.sled_log.specs.RunPhases.{IsOpenAt, Unstored, device_in, seen, stands, traces}
use Rattle.sled_log.specs.RunStates.{DeviceView, LogView, blob_in, is_present, page_now}
use Rattle.sled_log.specs.Runs.{StaysRecoverable}
use Rattle.sled_log.specs.TicketActs.{ReserveActs}
use Rattle.sled_log.specs.TicketSteps.{ReserveStep}

-- A message of this kind and page isn't refused.
pub record MayReserve (H : History) (l : LogView) (kind : LogKind) (page : ℕ) : Type 0 where
  pub known : ((kind ≡ Replace) × (page ≤ l.begun)) ⊎ (is_present (page_now H page) ≡ true)
  pub idle : is_busy l page ≡ false
  pub few : kind ≡ Link → length (page_now H page) ≤ 254

-- the blob of a page that is one item in it, by its state
abbrev pub blob_shown : Page → Option ℤ
blob_shown (Present base []) = blob_in base.1
blob_shown _ = None

-- Only room was made.
pub record MakesRoom {D C : Type 0} (old new : Opened D C) : Type 0 where
  pub log : new.log ≡ old.log
  pub pages : new.pages ≡ old.pages
  pub tickets : new.tickets.items ≡ old.tickets.items
  pub busy : (page : ℕ) → get_or new.busy.items page false ≡ get_or old.busy.items page false
  pub batch : new.batch ≡ old.batch
  pub origin : new.origin ≡ old.origin
  pub due : new.due ≡ old.due

-- A ticket came under the next number; its page is noted, or that it begins a batch.
pub record HoldsTicket {D C : Type 0} (old new : Opened D C) (kind : LogKind) (page : ℕ) (reservation : Reservation) (guard : Guard)
    (result : Reply) : Type 0 where
  pub log : new.log ≡ old.log
  pub pages : new.pages ≡ old.pages
  pub tickets : new.tickets.items ≡ old.tickets.items ++ Some (record { kind = kind; page = page; reservation = reservation; guard = guard }) ∷ []
  pub busy : new.busy.items ≡ (if page == manifest_page then old.busy.items else set old.busy.items page true)
  pub batch : new.batch ≡ (if page == manifest_page then Some (length old.tickets.items) else old.batch)
  pub origin : new.origin ≡ old.origin
  pub due : new.due ≡ old.due
  pub told : result ≡ reply.Reserved (length old.tickets.items) (place_of reservation) (pointer_of reservation)

-- A pin went back, and this error is told.
pub record GivesBack {D C : Type 0} (trace : D → Trace) (sum : List ℕ → ℕ) (old new : Opened D C) (why : Error) (result : Reply) : Type 0 where
  pub given : new ≡ record old { log = record old.log { pins = pins_of old.log - 1 } }
  pub fits : (H : History) (A f : ℕ) (U : List Message) → Fits trace sum old.log H A f U → (U ≢ [] → 1 < pins_of old.log) → Fits trace sum new.log H A f U
  pub goes_on : GoesOn trace sum old.log new.log
  pub told : result ≡ reply.Failed why

-- What a reservation comes to.
pub record HasTried {D C : Type 0} (view : D → DeviceView) (sum : List ℕ → ℕ) (old : Opened D C) (kind : LogKind) (page : ℕ) (bytes : List ℕ)
    (new : Opened D C) (result : Reply) (k : Unstored) : Type 0 where
  pub not_refused : reason_of result ≡ None
  pub acts : ReserveActs sum (segment_size_of old.log) (seen old k.tickets k.given_up k.heads) kind page bytes
      (device_in view (Open old)) result (device_in view (Open new))
  pub tickets : Unstored
  pub step : ReserveStep (segment_size_of old.log) (stands view (Open old) k) (seen old k.tickets k.given_up k.heads)
      kind page bytes result (device_in view (Open new)) (stands view (Open new) tickets)
  pub at : IsOpenAt (traces view) sum new tickets
  pub crash : StaysRecoverable sum (segment_size_of old.log) (stands view (Open old) k) (device_in view (Open old)).trace (device_in view (Open new)).trace

abbrev pub Reserves : {D C : Type 0} → (D → DeviceView) → (List ℕ → ℕ) → Opened D C → LogKind → ℕ → List ℕ → Opened D C → Reply → Type 0
Reserves view sum old kind page bytes new result =
    (k : Unstored) → IsOpenAt (traces view) sum old k → MayReserve k.history (seen old k.tickets k.given_up k.heads) kind page
    → HasTried view sum old kind page bytes new result k
