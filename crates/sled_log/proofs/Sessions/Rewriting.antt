-- A page that is one item in a blob: its message may come again behind all that was reserved, with the item of that blob, which no crash takes.
use Rattle.std.proofs.Common.{◌≡◌, ◌≢◌, ◌∙◌, ◌<◌, ℕ, ℤ, pos, Bool, true, false, if◌then◌else◌, List, [], ◌∷◌, Err, None, Ok, Some, ap, arith, inl, inr, length, refl, subst, sym}
use Rattle.std.specs.List.{Contains}
use Rattle.std.specs.Ordering.{int_eq}
use Rattle.std.proofs.lemmas.Bool.Decides.{Decides-int_eq}
use Rattle.std.proofs.lemmas.Int.{ints}
use Rattle.std.proofs.lemmas.List.Elements.{All-contains}
use Rattle.std.proofs.lemmas.Option.{same_Some}
use Rattle.sled_codec.specs.declared.result.DiskPtr.{DiskPtr}
use Rattle.sled_codec.specs.declared.result.DiskPtr.TheVariants.{Inline, Blob}
use Rattle.sled_codec.specs.declared.result.Error.{Error}
use Rattle.sled_codec.specs.declared.result.Error.TheVariants as error
use Rattle.sled_codec.specs.declared.serialization.message.LogKind.{LogKind}
use Rattle.sled_codec.specs.declared.serialization.message.LogKind.TheVariants as does
use Rattle.sled_codec.specs.History.{History, Message, is_replace, page_state, table}
use Rattle.sled_store.specs.Device.{Trace}
use Rattle.sled_store.proofs.Segments.TableEntries.{from_table}
use Rattle.sled_core.specs.declared.logger.Log.{Log}
use Rattle.sled_core.specs.declared.reservation.Guard.{Guard}
use Rattle.sled_core.specs.declared.reservation.Reservation.{Reservation}
use Rattle.sled_core.specs.Causes.{FaultOrMemory, RewriteAnswers}
use Rattle.sled_core.specs.Fits.{Awaits, FitsInline, IsLeastOpen, IsUnchanged, IsUsedUpFor, KeepsAll, fault_of, message_rewriting, next_place, open_for, segment_size_of, target_of, start_of}
use Rattle.sled_core.specs.Keeps.{KeepsSeen, Preserves}
use Rattle.sled_core.specs.Manifests.{manifest_page}
use Rattle.sled_core.specs.Reserves.{StandsBehind}
use Rattle.sled_core.specs.invariants.Running.{Fits}
use Rattle.sled_core.specs.Running.{IsStored}
use Rattle.sled_core.specs.Tickets.{own_blob}
use Rattle.sled_core.proofs.PublicLaws.{can_rewrite, fits_reach, kept_further, target_above}
use Rattle.sled_log.specs.declared.session.Phase.TheVariants.{Open}
use Rattle.sled_log.specs.declared.session.command.Command.TheVariants as command
use Rattle.sled_log.specs.declared.session.command.Reply.{Reply}
use Rattle.sled_log.specs.declared.session.command.Reply.TheVariants as reply
use Rattle.sled_log.specs.declared.session.opened.Opened.{Opened}
use Rattle.sled_log.specs.Made.{HasBlobIn, IsMade, JoinsWithBlob}
use Rattle.sled_log.specs.Refusals.{has_no_blob, is_busy, reason_of, refusal_for}
use Rattle.sled_log.specs.Reservations.{GivesBack, HoldsTicket, MakesRoom}
use Rattle.sled_log.specs.RunPhases.{DoesHere, IsOpenAt, Unstored, device_in, seen, seen_log, stands, traces}
use Rattle.sled_log.specs.RunStates.{DeviceView, LogView, RunState, blob_in, is_present, one_blob, page_now, target_in, top, heads_at}
use Rattle.sled_log.specs.TicketSteps.{RefusedStep, RewriteStep, own_of}
use Rattle.sled_log.proofs.Sessions.Carried.{passes}
use Rattle.sled_log.proofs.Sessions.KeptPlaces.{KeptPlace, held_message, over_log, with_ticket}
use Rattle.sled_log.proofs.Sessions.MadeHistories.{of_page_same}
use Rattle.sled_log.proofs.Sessions.ReservedPlaces.{beside_least, out_of_reach}
use Rattle.sled_log.proofs.Sessions.Reserving.{beside_log, by_room, room_at, room_stands, roomless_step, run_over, still_at, unchanged_heads, unchanged_holds, unchanged_stands, went_back}
use Rattle.sled_log.proofs.Sessions.PinsTaken.{IsMadeWithPin, pinned_log, unpinned_log}
use Rattle.sled_log.proofs.Sessions.Within.{untouched}

-- only a Replace begins a page with something on it
replace_kind : (k : LogKind) → is_replace k ≡ true → k ≡ does.Replace
replace_kind does.Replace is = refl
replace_kind does.Link is = cc
replace_kind does.Free is = cc
replace_kind does.Skip is = cc
replace_kind does.Corrupted is = cc

-- What a page is that is one item in a blob: a Replace that names it.
pub record IsOneBlob (ms : List Message) (blob : ℤ) : Type 0 where
  pub message : Message
  pub is : ms ≡ message ∷ []
  pub replaces : message.kind ≡ does.Replace
  pub lid : ℕ
  pub points : message.pointer ≡ Blob lid blob

pub one_blob_is : (ms : List Message) (blob : ℤ) → one_blob ms ≡ Some blob → IsOneBlob ms blob
one_blob_is [] blob is = cc
one_blob_is (m ∷ n ∷ ms) blob is = cc
one_blob_is (m ∷ []) blob is = by (is_replace m.kind) refl m.pointer refl is where
  by : (t : Bool) → is_replace m.kind ≡ t → (p : DiskPtr) → m.pointer ≡ p → (if t then blob_in p else None) ≡ Some blob → IsOneBlob (m ∷ []) blob
  by true replaces (Blob lid place) points same =
      record { message = m; is = refl; replaces = replace_kind m.kind replaces; lid = lid; points = points ∙ ap (λ (z : ℤ). Blob lid z) (same_Some place blob same) }
  by true replaces (Inline lid) points same = cc
  by false replaces p points same = cc

-- it is present
pub one_present : (ms : List Message) (blob : ℤ) → IsOneBlob ms blob → is_present ms ≡ true
one_present ms blob one = ap is_present one.is ∙ ap is_replace one.replaces

-- The table of all that there is up to the next record has what the page is.
pub table_now : {D C : Type 0} (trace : D → Trace) (sum : List ℕ → ℕ) (log : Log D C) (H : History) (A f : ℕ) (U : List Message) → Fits trace sum log H A f U → IsMade H → (page : ℕ) → table H (next_place log) page ≡ page_now H page
unfolding table
table_now trace sum log H A f U fits made page =
    let reach = fits_reach trace sum log H A f U fits in
    ap page_state (of_page_same H.messages (next_place log) top page (λ x there same. (
      All-contains (λ y. y.place < next_place log) H.messages x reach there,
      All-contains (λ y. y.place < top) H.messages x made.low there,
    )))

module _ {D C : Type 0} (trace : D → Trace) (sum : List ℕ → ℕ) (opened : Opened D C) (k : Unstored) (at : IsOpenAt trace sum opened k) (page : ℕ) (blob : ℤ) (one : IsOneBlob (page_now k.history page) blob) where
  -- its message is of the history, and of the page
  there : Contains (table k.history top page) one.message
  there = subst (λ ms. Contains ms one.message) (sym one.is) (0, omega (arith), refl)

  found : Contains k.history.messages one.message × (one.message.page ≡ page) × (one.message.place < top)
  found = from_table k.history top page one.message there

  -- The message that comes for it is stored,
  pub rewriting_stored : IsStored trace sum opened.log (message_rewriting opened.log page blob one.message.bytes)
  rewriting_stored =
      subst (λ p. IsStored trace sum opened.log (message_rewriting opened.log p blob one.message.bytes)) found.1
      (can_rewrite trace sum opened.log k.history k.acknowledged k.floor at.unmarked one.message one.lid blob at.fits
      (subst (λ p. Contains (table k.history (next_place opened.log) p) one.message) (sym found.1)
      (subst (λ ms. Contains ms one.message) (sym (table_now trace sum opened.log k.history k.acknowledged k.floor at.unmarked at.fits at.made page)) there))
      one.replaces one.points)

  -- and its blob is at the place of a message of the page below it,
  rewriting_below : (x : Message) × Contains k.history.messages x × (x.place < (target_of opened.log page 8).place) × (blob ≡ pos x.place) × (x.page ≡ page)
  rewriting_below =
      let has = subst (HasBlobIn k.history one.message) one.points (at.made.blobs one.message found.0) in
      let reach = All-contains (λ y. y.place < next_place opened.log) k.history.messages has.0 (fits_reach trace sum opened.log k.history k.acknowledged k.floor at.unmarked at.fits) has.1 in
      let up = target_above opened.log page 8 (let least = opened.log.config.config.least in omega (arith, least)) in
      (has.0, has.1, omega (arith, reach, up), has.3, has.4 ∙ found.1)

  pub rewriting_joins : JoinsWithBlob k.history (message_rewriting opened.log page blob one.message.bytes) (message_rewriting opened.log page blob one.message.bytes).pointer
  rewriting_joins = let low = rewriting_below in inr (low.0, low.1, low.2, low.3, low.4, (one.message, there, (one.lid, one.points)))

  -- and not at its own.
  pub rewriting_apart : own_of (message_rewriting opened.log page blob one.message.bytes) ≡ None
  rewriting_apart =
      let below = rewriting_below in
      let place : ℕ = (target_of opened.log page 8).place in
      by place (λ same. (let at_other = below.3 in let low = below.2 in let is : pos below.0.place ≡ pos place = sym at_other ∙ same in absurd (omega (arith, ints, low, is)))) (int_eq blob (pos place)) refl
    where
      by : (place : ℕ) → (blob ≡ pos place → ⊥) → (o : Bool) → int_eq blob (pos place) ≡ o → (if o then Some blob else None) ≡ None
      by place other true is = absurd (other ((Decides-int_eq blob (pos place)).0 is))
      by place other false is = refl

-- What a Rewrite comes to: the device is left alone.
pub record HasTriedAgain {D C : Type 0} (view : D → DeviceView) (sum : List ℕ → ℕ) (old : Opened D C) (page : ℕ) (new : Opened D C) (result : Reply) (k : Unstored) : Type 0 where
  pub not_refused : reason_of result ≡ None
  pub device : device_in view (Open new) ≡ device_in view (Open old)
  pub tickets : Unstored
  pub step : RewriteStep (segment_size_of old.log) (stands view (Open old) k) (seen old k.tickets k.given_up k.heads) page result (device_in view (Open new)) (stands view (Open new) tickets)
  pub at : IsOpenAt (traces view) sum new tickets

-- It is what the command comes to.
pub rewrite_does : {D C : Type 0} (view : D → DeviceView) (sum : List ℕ → ℕ) (old : Opened D C) (page : ℕ) (new : Opened D C) (result : Reply) (k : Unstored) → IsOpenAt (traces view) sum old k → HasTriedAgain view sum old page new result k
    → DoesHere view sum (Open old) (command.Rewrite page) (Open new, result) k
rewrite_does view sum old page new result k at tried =
    let now : DeviceView = device_in view (Open new) in
    record {
      not_refused = tried.not_refused;
      next = tried.tickets;
      step = (tried.device, tried.step);
      at = λ own. tried.at;
      crash = λ own. untouched (traces view) sum old k at now.trace (ap (λ (d : DeviceView). d.trace) tried.device);
    }

-- Where it isn't refused, the page is one item in a blob and has no open ticket.
pub rewrite_may : {D C : Type 0} (view : D → DeviceView) (old : Opened D C) (k : Unstored) (page : ℕ) → refusal_for (stands view (Open old) k) (command.Rewrite page) ≡ None
    → (has_no_blob k.history page ≡ false) × (is_busy (seen old k.tickets k.given_up k.heads) page ≡ false)
rewrite_may view old k page free =
    let first = passes _ _ _ free in
    let blob = passes (has_no_blob k.history page) _ _ first.1 in
    (blob.0, (passes (is_busy (seen old k.tickets k.given_up k.heads) page) _ _ blob.1).0)

-- A place was tried to be kept with a pin that was taken for it.
pub record IsPinnedAgain {D C : Type 0} (trace : D → Trace) (sum : List ℕ → ℕ) (old log : Log D C) : Type 0 where
  pub pin : Preserves trace sum old (pinned_log old)
  pub same : KeepsAll (pinned_log old) log
  pub keeps : Preserves trace sum (pinned_log old) log

pub pinned_again : {D C : Type 0} (trace : D → Trace) (sum : List ℕ → ℕ) (old pinned log : Log D C) → pinned ≡ pinned_log old → Preserves trace sum old pinned → KeepsAll pinned log → Preserves trace sum pinned log
    → IsPinnedAgain trace sum old log
pinned_again {D} {C} trace sum old pinned log taken pin same keeps = record {
  pin = subst (λ (x : Log D C). Preserves trace sum old x) taken pin;
  same = subst (λ (x : Log D C). KeepsAll x log) taken same;
  keeps = subst (λ (x : Log D C). Preserves trace sum x log) taken keeps;
}

-- Room for its ticket is made first.
module _ {D C : Type 0} (view : D → DeviceView) (sum : List ℕ → ℕ) (old mid : Opened D C) (k : Unstored) (page : ℕ) (room : MakesRoom old mid) (at : IsOpenAt (traces view) sum old k) where
  -- What it comes to once room was made it comes to before.
  over_room : (new : Opened D C) (result : Reply) → HasTriedAgain view sum mid page new result k → HasTriedAgain view sum old page new result k
  over_room new result tried =
      let now : DeviceView = device_in view (Open new) in
      record {
        not_refused = tried.not_refused;
        device = tried.device ∙ ap (λ x. view x.config.device) room.log;
        tickets = tried.tickets;
        step = by_room old mid (λ x begun due. RewriteStep (segment_size_of x) (run_over view k x begun due) (seen_log x begun k.tickets k.given_up k.heads) page result now (stands view (Open new) tried.tickets)) room tried.step;
        at = tried.at;
      }

  -- Without room, or where the log keeps a failure, nothing is done.
  pub roomless_again : (e : Error) → FaultOrMemory {T = Unit {0}} (Err e) ⊥ (fault_of old.log) → HasTriedAgain view sum old page mid (reply.Failed e) k
  roomless_again e whole =
      let size : ℕ = segment_size_of old.log in
      let l : LogView = seen old k.tickets k.given_up k.heads in
      record {
        not_refused = refl;
        device = ap (λ x. view x.config.device) room.log;
        tickets = k;
        step = roomless_step size (stands view (Open old) k) l (target_in size l page 8) e (stands view (Open mid) k) whole (room_stands view old mid k room);
        at = room_at (traces view) sum old mid k room at;
      }

  module _ (none_due : old.due ≡ None) (log : Log D C) (came : IsPinnedAgain (traces view) sum mid.log log) where
    pin : Preserves (traces view) sum mid.log (pinned_log mid.log)
    pin = came.pin

    same : KeepsAll (pinned_log mid.log) log
    same = came.same

    keeps : Preserves (traces view) sum (pinned_log mid.log) log
    keeps = came.keeps

    at_mid : IsOpenAt (traces view) sum mid k
    at_mid = room_at (traces view) sum old mid k room at

    none_mid : mid.due ≡ None
    none_mid = room.due ∙ none_due

    eight : FitsInline (segment_size_of mid.log) 8
    eight = let least = mid.log.config.config.least in omega (arith, least)

    kept_seen : KeepsSeen (pinned_log mid.log) log
    kept_seen = record { synced = same.synced; noted = same.noted; pins = same.pins; account = same.account }

    -- A log that kept no place is as it was.
    refused_step : (a b : RunState) (e : Error) → b ≡ a → RewriteAnswers {T = Reservation} (Err e) (fault_of mid.log) (IsUsedUpFor mid.log page 8) (open_for mid.log page 8) (IsLeastOpen mid.log)
        → RefusedStep (segment_size_of mid.log) a (seen mid k.tickets k.given_up k.heads) (target_in (segment_size_of mid.log) (seen mid k.tickets k.given_up k.heads) page 8) e b
    refused_step a b (error.Io x) is answers = (answers, is)
    refused_step a b error.OutOfMemory is answers = (answers.0, is)
    refused_step a b error.PlacesUsedUp is answers = (answers.0, out_of_reach mid.log (length mid.pages.items) k.tickets k.given_up k.heads sum page 8 eight answers.1, is)
    refused_step a b (error.Held p) is answers = (beside_least mid.log (length mid.pages.items) k.tickets k.given_up k.heads sum page 8 eight p answers.0 answers.2 answers.3, is)
    refused_step a b _ is answers = absurd answers

    pub failed_again : (pinned : Log D C) → pinned ≡ pinned_log mid.log → (e : Error) → RewriteAnswers {T = Reservation} (Err e) (fault_of pinned) (IsUsedUpFor pinned page 8) (open_for pinned page 8) (IsLeastOpen pinned)
        → IsUnchanged pinned log
        → (new : Opened D C) (result : Reply) → GivesBack (traces view) sum (over_log mid log) new e result → HasTriedAgain view sum old page new result k
    failed_again pinned taken e answered unchanged_pinned new result gives =
        let unchanged : IsUnchanged (pinned_log mid.log) log = subst (λ (x : Log D C). IsUnchanged x log) taken unchanged_pinned in
        let answers : RewriteAnswers {T = Reservation} (Err e) (fault_of mid.log) (IsUsedUpFor mid.log page 8) (open_for mid.log page 8) (IsLeastOpen mid.log) =
        subst (λ (x : Log D C). RewriteAnswers {T = Reservation} (Err e) (fault_of x) (IsUsedUpFor x page 8) (open_for x page 8) (IsLeastOpen x)) taken answered in
        let made : IsMadeWithPin (traces view) sum mid.log log = went_back (traces view) sum mid new log e result gives pin keeps kept_seen in
        let back : Opened D C = over_log mid (unpinned_log log) in
        over_room new result (subst (λ r. HasTriedAgain view sum mid page new r k) (sym gives.told) (subst (λ (o : Opened D C). HasTriedAgain view sum mid page o (reply.Failed e) k) (sym gives.given) (record {
          not_refused = refl;
          device = ap (λ x. view x.device) same.config;
          tickets = k;
          step = refused_step (stands view (Open mid) k) (stands view (Open back) k) e (unchanged_stands view sum mid log k unchanged made) answers;
          at = still_at (traces view) sum mid back k k.heads (unchanged_heads sum mid.log log k.heads unchanged at_mid.heads) (unchanged_holds (traces view) sum mid.log log unchanged made)
              (beside_log mid (unpinned_log log) k.history none_mid) at_mid;
        })))

    -- The place that it kept has a ticket.
    module _ (pinned : Log D C) (taken : pinned ≡ pinned_log mid.log) (blob : ℤ) (one : one_blob (page_now k.history page) ≡ Some blob) (reservation : Reservation)
        (awaited : (item : List ℕ) → Awaits log reservation (message_rewriting pinned page blob item)) (own : own_blob reservation ≡ None)
        (answered : RewriteAnswers (Ok reservation) (fault_of pinned) (IsUsedUpFor pinned page 8) (open_for pinned page 8) (IsLeastOpen pinned)) (stands_behind : StandsBehind sum pinned log page 8)
        (others_pinned : (ticket : Reservation) (m : Message) → Awaits pinned ticket m → Awaits log ticket m) where
      awaits : (item : List ℕ) → Awaits log reservation (message_rewriting mid.log page blob item)
      awaits = subst (λ (x : Log D C). (item : List ℕ) → Awaits log reservation (message_rewriting x page blob item)) taken awaited

      answers : RewriteAnswers (Ok reservation) (fault_of mid.log) (IsUsedUpFor mid.log page 8) (open_for mid.log page 8) (IsLeastOpen mid.log)
      answers = subst (λ (x : Log D C). RewriteAnswers (Ok reservation) (fault_of x) (IsUsedUpFor x page 8) (open_for x page 8) (IsLeastOpen x)) taken answered

      behind : StandsBehind sum (pinned_log mid.log) log page 8
      behind = subst (λ (x : Log D C). StandsBehind sum x log page 8) taken stands_behind

      others : (ticket : Reservation) (m : Message) → Awaits mid.log ticket m → Awaits log ticket m
      others = subst (λ (x : Log D C). (ticket : Reservation) (m : Message) → Awaits x ticket m → Awaits log ticket m) taken others_pinned

      its_one : IsOneBlob (page_now k.history page) blob
      its_one = one_blob_is (page_now k.history page) blob one

      abbrev its : Message
      its = message_rewriting mid.log page blob its_one.message.bytes

      none : fault_of log ≡ None
      none = same.fault ∙ answers.0

      kept_all : Preserves (traces view) sum mid.log log
      kept_all = kept_further (traces view) sum mid.log (pinned_log mid.log) log pin keeps

      kept : KeptPlace (traces view) sum mid.log log 8 its reservation
      kept = record {
        place = refl;
        size = refl;
        ticket = awaits its_one.message.bytes;
        own = own ∙ sym (rewriting_apart (traces view) sum mid k at_mid page blob its_one);
        stored = kept_all.goes_on.items none its tt (rewriting_stored (traces view) sum mid k at_mid page blob its_one);
        behind = behind;
        others = others;
        fault = answers.0;
        sound = none;
        free = answers.1;
        few = answers.2;
        keeps = kept_all;
        seen = kept_seen;
      }

      pub held_again : (new : Opened D C) (guard : Guard) (result : Reply) → HoldsTicket (over_log mid log) new does.Replace page reservation guard result → page < length mid.busy.items → page ≢ manifest_page
          → is_busy (seen old k.tickets k.given_up k.heads) page ≡ false → HasTriedAgain view sum old page new result k
      held_again new guard result holds small message idle =
          let held = held_message view sum mid new log 8 its reservation guard result k kept holds none_mid at_mid eight (inl refl) (rewriting_joins (traces view) sum mid k at_mid page blob its_one) small message
          (record { known = inr (one_present (page_now k.history page) blob its_one); idle = idle; few = λ is. cc }) in
          over_room new result (subst (λ r. HasTriedAgain view sum mid page new r k) (sym holds.told) (record {
            not_refused = refl;
            device = ap (λ x. view x.config.device) holds.log ∙ ap (λ x. view x.device) same.config;
            tickets = with_ticket k its (heads_at (seen mid k.tickets k.given_up k.heads) (start_of new.log));
            step = record { message = its_one.message; is = its_one.is; blob = blob; there = ap one_blob (sym its_one.is) ∙ one; reserved = held.reserved };
            at = held.at;
          }))
