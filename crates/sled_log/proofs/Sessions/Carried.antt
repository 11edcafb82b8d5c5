-- What a command comes to that isn't refused: what its refusal would say, and how a reservation is carried out.
use Rattle.std.proofs.Common.{◌≡◌, nat_le, nat_lt, arith, subst, ℕ, pos, Bool, true, false, List, [], ◌∷◌, length, Option, None, refl, sym, inl, inr}
use Rattle.std.specs.Bool.{MatchBool}
use Rattle.std.specs.Prelude.{Vec, not, ◌&&◌}
use Rattle.std.specs.declared.alloc.Global.{Global}
use Rattle.std.proofs.lemmas.Bool.Decides.{nat_tests}
use Rattle.sled_codec.specs.declared.serialization.message.LogKind.{LogKind}
use Rattle.sled_codec.specs.declared.serialization.message.LogKind.TheVariants as does
use Rattle.sled_codec.specs.Spelling.{short_bytes}
use Rattle.sled_store.specs.Device.{Trace, StopAsked}
use Rattle.sled_store.proofs.Traces.StopLemmas.{asked_behind}
use Rattle.sled_core.specs.declared.logger.Log.{Log}
use Rattle.sled_core.specs.Fits.{in_blob, segment_size_of}
use Rattle.sled_core.specs.Manifests.{kind_for, manifest_page}
use Rattle.sled_core.proofs.PublicLaws.{not_in_blob}
use Rattle.sled_log.specs.declared.session.Phase.TheVariants.{Open}
use Rattle.sled_log.specs.declared.session.opened.Opened.{Opened}
use Rattle.sled_log.specs.declared.session.command.Command.TheVariants as command
use Rattle.sled_log.specs.declared.session.command.Refusal.{Refusal}
use Rattle.sled_log.specs.declared.session.command.Refusal.TheVariants as why
use Rattle.sled_log.specs.declared.session.command.Reply.{Reply}
use Rattle.sled_log.specs.Refusals.{is_absent, is_busy, refusal_for, when}
use Rattle.sled_log.specs.Reservations.{HasTried, MayReserve}
use Rattle.sled_log.specs.RunStates.{DeviceView, LogView, RunState, body_length_in, in_batch, is_present, page_now, target_in}
use Rattle.sled_log.specs.TicketActs.{BlobActs, ReserveActs, making_for}
use Rattle.sled_log.specs.TicketSteps.{blank_manifest}
use Rattle.sled_log.specs.RunPhases.{DoesHere, Unstored, device_in, seen, size_of, stands}

-- Where no reason is told the first one doesn't fit, and none of the others is told.
pub passes : (b : Bool) (w : Refusal) (o : Option Refusal) → when b w o ≡ None → (b ≡ false) × (o ≡ None)
passes true w o none = cc
passes false w o none = (refl, none)

-- A stop that isn't refused is asked of a device that isn't stopped.
pub asked_going : (stopped : Bool) (n : ℕ) (old new : Trace) (o : Option Refusal) → when (stopped && true) why.Stopped o ≡ None → new ≡ asked_behind stopped n old → new ≡ StopAsked n ∷ old
asked_going true n old new o free asked = cc
asked_going false n old new o free asked = asked

-- A reservation of an item that goes to no blob leaves the device alone.
alone : (sum : List ℕ → ℕ) (size : ℕ) (l : LogView) (kind : LogKind) (page : ℕ) (bytes : List ℕ) (old : DeviceView) (r : Reply) (new : DeviceView) → in_blob size (length bytes) ≡ false → ReserveActs sum size l kind page bytes old r new → new ≡ old
alone sum size l kind page bytes old r new short acts =
    let acting : Type 0 = BlobActs (making_for sum (kind_for kind page true 8) (pos (target_in size l page (body_length_in size (length bytes))).place) bytes) l.status.fault old r new in
    subst (λ (b : Bool). MatchBool b acting (new ≡ old)) short acts

module _ {D C : Type 0} (view : D → DeviceView) (sum : List ℕ → ℕ) (old : Opened D C) (k : Unstored) (page : ℕ) where
  abbrev l : LogView
  l = seen old k.tickets k.given_up k.heads

  abbrev size : ℕ
  size = size_of (Open old)

  -- What may be reserved.

  pub replace_may : (item : Vec ℕ Global) → refusal_for (stands view (Open old) k) (command.Replace page item) ≡ None → MayReserve k.history l does.Replace page
  replace_may item free =
      let first = passes _ _ _ free in
      let above = passes (nat_lt l.begun page) _ _ first.1 in
      let busy = passes (is_busy l page) _ _ above.1 in
      let low = above.0 in
      record { known = inl (refl, grind (arith, nat_tests, low)); idle = busy.0; few = λ is. cc }

  present : is_absent k.history page ≡ false → is_present (page_now k.history page) ≡ true
  present here = by (is_present (page_now k.history page)) here where
    by : (b : Bool) → not b ≡ false → b ≡ true
    by true is = refl
    by false is = sym is

  pub link_may : (item : Vec ℕ Global) → refusal_for (stands view (Open old) k) (command.Link page item) ≡ None → MayReserve k.history l does.Link page
  link_may item free =
      let first = passes _ _ _ free in
      let absent = passes (is_absent k.history page) _ _ first.1 in
      let busy = passes (is_busy l page) _ _ absent.1 in
      let many = passes (nat_le 255 (length (page_now k.history page))) _ _ busy.1 in
      let few = many.0 in
      record { known = inr (present absent.0); idle = busy.0; few = λ is. grind (arith, nat_tests, few) }

  pub free_may : refusal_for (stands view (Open old) k) (command.Free page) ≡ None → MayReserve k.history l does.Free page
  free_may free =
      let first = passes _ _ _ free in
      let absent = passes (is_absent k.history page) _ _ first.1 in
      let busy = passes (is_busy l page) _ _ absent.1 in
      record { known = inr (present absent.0); idle = busy.0; few = λ is. cc }

  -- A reservation is what the command comes to.
  module _ (new : Opened D C) (result : Reply) where
    abbrev a : RunState
    a = stands view (Open old) k

    abbrev now : DeviceView
    now = device_in view (Open new)

    pub replace_does : (item : Vec ℕ Global) → HasTried view sum old does.Replace page (short_bytes item.items) new result k → DoesHere view sum (Open old) (command.Replace page item) (Open new, result) k
    replace_does item tried = record {
      not_refused = tried.not_refused;
      next = tried.tickets;
      step = (tried.acts, tried.step);
      at = λ own. tried.at;
      crash = λ own. tried.crash;
    }

    pub link_does : (item : Vec ℕ Global) → HasTried view sum old does.Link page (short_bytes item.items) new result k → DoesHere view sum (Open old) (command.Link page item) (Open new, result) k
    link_does item tried = record {
      not_refused = tried.not_refused;
      next = tried.tickets;
      step = (tried.acts, tried.step);
      at = λ own. tried.at;
      crash = λ own. tried.crash;
    }

    -- that of a Free has no item
    pub free_does : HasTried view sum old does.Free page [] new result k → DoesHere view sum (Open old) (command.Free page) (Open new, result) k
    free_does tried = record {
      not_refused = tried.not_refused;
      next = tried.tickets;
      step = (alone sum size l does.Free page [] a.device result now (not_in_blob old.log 0 (let big = old.log.config.config.least in omega (arith, big))) tried.acts, tried.step);
      at = λ own. tried.at;
      crash = λ own. tried.crash;
    }

-- A manifest has its item in its record.
pub manifest_inline : {D C : Type 0} (log : Log D C) → in_blob (segment_size_of log) (length blank_manifest) ≡ false
manifest_inline log = not_in_blob log (length blank_manifest) (let big = log.config.config.least in omega (arith, big))

-- The beginning of a batch.
module _ {D C : Type 0} (view : D → DeviceView) (sum : List ℕ → ℕ) (old : Opened D C) (k : Unstored) where
  -- Where it isn't refused none is begun,
  pub begin_idle : refusal_for (stands view (Open old) k) command.BeginBatch ≡ None → in_batch k.tickets ≡ false
  begin_idle free = let first = passes _ _ _ free in (passes (in_batch k.tickets) _ _ first.1).0

  -- and it comes to a reservation.
  pub begin_does : (new : Opened D C) (result : Reply) → HasTried view sum old does.Skip manifest_page blank_manifest new result k → DoesHere view sum (Open old) command.BeginBatch (Open new, result) k
  begin_does new result tried =
      let size : ℕ = size_of (Open old) in
      let a : RunState = stands view (Open old) k in
      let now : DeviceView = device_in view (Open new) in
      record {
        not_refused = tried.not_refused;
        next = tried.tickets;
        step = (alone sum size (seen old k.tickets k.given_up k.heads) does.Skip manifest_page blank_manifest a.device result now (manifest_inline old.log) tried.acts, tried.step);
        at = λ own. tried.at;
        crash = λ own. tried.crash;
      }
