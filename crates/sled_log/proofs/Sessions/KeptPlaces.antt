-- Where a log kept a place for a message, the session has a ticket for it, and all holds that did.
use Rattle.std.proofs.Common.{◌≡◌, ◌≢◌, eq-eqb, ◌∙◌, ◌≤◌, ◌<◌, ◌+◌, ◌==◌, ◌⊎◌, inl, inr, ℕ, pos, Bool, true, false, if◌then◌else◌, List, [], ◌∷◌, ◌++◌, length, map, set, get_or, Option, Some, None, refl, sym, ap, subst, arith, length-append}
use Rattle.std.specs.List.{All, Contains, slice_get}
use Rattle.std.proofs.lemmas.Bool.{cases_lt, ne_eqb}
use Rattle.std.proofs.lemmas.List.{length-map, map-append}
use Rattle.std.proofs.lemmas.List.Elements.{All-contains, All-weaker}
use Rattle.std.proofs.lemmas.Option.{same_Some}
use Rattle.std.proofs.Math.ListN.{get_or-eq_default}
use Rattle.sled_codec.specs.declared.serialization.message.LogKind.TheVariants as does
use Rattle.sled_codec.specs.History.{Batch, ChangesPage, History, Message}
use Rattle.sled_codec.specs.PageTables.{IsTable, entry_of, page_with}
use Rattle.sled_codec.specs.Snapshots.{Free, Page, Present, Uninitialized, page_of}
use Rattle.sled_store.specs.Device.{Trace}
use Rattle.sled_store.proofs.Histories.TableParts.{from_page}
use Rattle.sled_log.proofs.Sessions.BegunHeads.{HasOnlyBegun, heads_kept}
use Rattle.sled_log.proofs.Sessions.PinsTaken.{origin_kept, pinned_log, some_out, unmarked_none}
use Rattle.sled_core.specs.declared.logger.Log.{Log}
use Rattle.sled_core.specs.declared.reservation.Guard.{Guard}
use Rattle.sled_core.specs.declared.reservation.Reservation.{Reservation}
use Rattle.sled_core.specs.Buffers.{most_open}
use Rattle.sled_core.specs.Fits.{Awaits, FitsInline, IsUsedUpFor, fault_of, next_place, open_for, open_places, pins_of, reserved_end, segment_size_of, size_for, target_of, start_of}
use Rattle.sled_core.specs.Keeps.{KeepsSeen, Preserves}
use Rattle.sled_core.specs.LogStatus.{LogStatus, failing, pinned as pinned_too, reserving_at, status_of}
use Rattle.sled_core.specs.Manifests.{manifest_page}
use Rattle.sled_core.specs.Marked.{BeginsMarked}
use Rattle.sled_core.specs.Positions.{Position}
use Rattle.sled_core.specs.Reading.{IsInline}
use Rattle.sled_core.specs.Reserves.{StandsBehind}
use Rattle.sled_core.specs.Running.{IsStored}
use Rattle.sled_core.specs.Tickets.{own_blob, place_of, pointer_of}
use Rattle.sled_core.proofs.PublicLaws.{awaited, awaited_small, fits_reach, noted_pegs, target_above as put_above}
use Rattle.sled_core.proofs.Reserve.ReserveLemmas.{there_append, there_last}
use Rattle.sled_log.specs.declared.session.opened.Opened.{Opened}
use Rattle.sled_log.specs.declared.session.tickets.Ticket.{Ticket}
use Rattle.sled_log.specs.declared.session.command.Reply.{Reply}
use Rattle.sled_log.specs.declared.session.Phase.TheVariants as phase
use Rattle.sled_log.specs.Made.{HasReplaceBelow, JoinsWithBlob, MayJoin}
use Rattle.sled_log.specs.Reservations.{HoldsTicket, MayReserve}
use Rattle.sled_log.specs.RunPhases.{AreRising, BeginsBatch, HasBatch, HasTickets, IsOpenAt, IsTicketFor, Unstored, device_in, seen, shown_due, stands, traces}
use Rattle.sled_log.specs.RunStates.{DeviceView, has_message_for, is_present, open_messages, page_now, target_in, top, MarkAt, heads_at}
use Rattle.sled_log.specs.TicketSteps.{HasReserved, own_of}
use Rattle.sled_log.proofs.Sessions.SafeItems.{safe_on}
use Rattle.sled_log.proofs.Sessions.TicketsSeen.{page_has}
use Rattle.sled_log.proofs.Sessions.ReservedPlaces.{beside_count, in_reach, reserved_below}
use Rattle.sled_log.proofs.Sessions.MoreTickets.{batch_push, busy_set, open_all, open_push, page_push, push_cases, rising_push}

-- Pages.

-- a page that is present is begun
present_begun : (H : History) (pages : List Page) (page : ℕ) → IsTable pages H top → is_present (page_now H page) ≡ true → page < length pages
present_begun H pages page table present = elim (cases_lt page (length pages)) [
  | inl less ↦ less
  | inr past ↦ absurd (by (page_now H page) present (sym (get_or-eq_default pages Uninitialized past) ∙ table.states page))
] where
  by : (ms : List Message) → is_present ms ≡ true → Uninitialized ≡ page_with ms → ⊥
  by [] is none = cc
  by (m ∷ ms) is none = let whole : Uninitialized ≡ Present (entry_of m) (map entry_of ms) = none ∙ ap (λ (b : Bool). if b then Present (entry_of m) (map entry_of ms) else Free (pos m.place) m.pointer) is in cc

-- a page that is begun has a Replace, below any place above all messages
replace_below : (H : History) (pages : List Page) (page place : ℕ) → IsTable pages H top → page < length pages → All (λ m. m.place < place) H.messages → HasReplaceBelow H page place
replace_below H pages page place table less below =
    let has = (table.begun page).0 less in
    let found = from_page H.messages top page has.message has.there in
    record { message = has.message; there = found.0; of = found.1; replaces = has.replaces; below = All-contains (λ m. m.place < place) H.messages has.message below found.0 }

-- A log kept a place for a message whose record has a body of n bytes, with a pin that was taken for it, and kept no failure.
pub record KeptPlace {D C : Type 0} (trace : D → Trace) (sum : List ℕ → ℕ) (old new : Log D C) (n : ℕ) (m : Message) (reservation : Reservation) : Type 0 where
  pub place : m.place ≡ (target_of old m.page n).place
  pub size : m.size ≡ size_for old m.page n
  pub ticket : Awaits new reservation m
  pub own : own_blob reservation ≡ own_of m
  pub stored : IsStored trace sum new m
  pub behind : StandsBehind sum (pinned_log old) new m.page n
  pub others : (ticket : Reservation) (x : Message) → Awaits old ticket x → Awaits new ticket x
  pub fault : fault_of old ≡ None
  pub sound : fault_of new ≡ None
  pub free : IsUsedUpFor old m.page n → ⊥
  pub few : open_for old m.page n < most_open
  pub keeps : Preserves trace sum old new
  pub seen : KeepsSeen (pinned_log old) new

-- A session is another one but for its log, its tickets, and what is noted of them; and no mark was due.
pub record IsSameBut {D C : Type 0} (old new : Opened D C) : Type 0 where
  pub pages : new.pages ≡ old.pages
  pub origin : new.origin ≡ old.origin
  pub due : new.due ≡ old.due
  pub none : old.due ≡ None

-- A log has only what was begun, however many pins are out.
pub begun_pinned : {D C : Type 0} (sum : List ℕ → ℕ) (old new : Log D C) → BeginsMarked sum (pinned_log old) new → HasOnlyBegun sum old new
begun_pinned sum old new marked = record { marked = marked.heads; filled = marked.fillings }

-- with one more ticket, for this message, and with these buffers begun
abbrev pub with_ticket : Unstored → Message → List MarkAt → Unstored
with_ticket k m heads = record { history = k.history; acknowledged = k.acknowledged; floor = k.floor; tickets = k.tickets ++ Some m ∷ []; given_up = k.given_up; heads = heads }

-- The record of a message that comes is put behind all messages.
put_behind : {D C : Type 0} (trace : D → Trace) (sum : List ℕ → ℕ) (opened : Opened D C) (k : Unstored) → IsOpenAt trace sum opened k → (page n : ℕ) → FitsInline (segment_size_of opened.log) n
    → All (λ m. m.place < (target_of opened.log page n).place) k.history.messages
put_behind trace sum opened k at page n inline =
    let place : ℕ = (target_of opened.log page n).place in
    let reach = fits_reach trace sum opened.log k.history k.acknowledged k.floor at.unmarked at.fits in
    let up = put_above opened.log page n inline in
    All-weaker (λ m. m.place < next_place opened.log) (λ m. m.place < place) (λ m low. omega (arith, low, up)) k.history.messages reach

-- The session with a ticket for it.
module _ {D C : Type 0} (view : D → DeviceView) (sum : List ℕ → ℕ) (old new : Opened D C) (n : ℕ) (its : Message) (reservation : Reservation)
    (guard : Guard) (kept : KeptPlace (traces view) sum old.log new.log n its reservation) (same : IsSameBut old new)
    (tickets : new.tickets.items ≡ old.tickets.items ++ Some (record { kind = its.kind; page = its.page; reservation = reservation; guard = guard }) ∷ [])
    (k : Unstored) (at : IsOpenAt (traces view) sum old k) (inline : FitsInline (segment_size_of old.log) n) (idle : has_message_for its.page (open_messages k.tickets) ≡ false) where
  abbrev begun_pages : ℕ
  begun_pages = length old.pages.items

  abbrev more : Unstored
  more = with_ticket k its (heads_at (seen old k.tickets k.given_up k.heads) (start_of new.log))

  abbrev its_ticket : Ticket
  its_ticket = record { kind = its.kind; page = its.page; reservation = reservation; guard = guard }

  -- its place lies behind all that was reserved
  behind : reserved_end old.log ≤ its.place
  behind =
      let low = reserved_below old.log begun_pages k.tickets k.given_up k.heads sum its.page n inline in
      let place = kept.place in
      omega (arith, low, place)

  -- what was reserved ends behind that
  grown : reserved_end old.log ≤ reserved_end new.log
  grown =
      let end = ap (λ (x : LogStatus). x.reserved) kept.behind.stands.1 in
      let low = reserved_below old.log begun_pages k.tickets k.given_up k.heads sum its.page n inline in
      omega (arith, end, low)

  ends_with : reserved_end new.log ≡ its.place + its.size
  ends_with = ap (λ (x : LogStatus). x.reserved) kept.behind.stands.1 ∙ sym (λ i. kept.place i + kept.size i)

  -- The tickets, where its message may come to the history, or it begins a batch, and where that is noted.
  module _ (joins : its.page ≢ manifest_page → MayJoin k.history its) (begins : its.page ≡ manifest_page → BeginsBatch new.log its)
      (busy : (p : ℕ) → p ≢ manifest_page → get_or new.busy.items p false ≡ (if its.page == p then true else get_or old.busy.items p false)) (batch : HasBatch more.tickets new.batch) where
    old_ticket : (i : ℕ) (m : Message) → slice_get k.tickets i ≡ Some (Some m) → IsTicketFor (traces view) sum new k.history i m
    old_ticket i m there =
        let is = at.tickets.each i m there in
        let up = grown in
        let low = is.begins in
        let end = is.ends in
        record {
          ticket = is.ticket;
          there = ap (λ (l : List (Option Ticket)). slice_get l i) tickets ∙ there_append old.tickets.items (Some its_ticket ∷ []) i (Some is.ticket) is.there;
          kind = is.kind;
          page = is.page;
          awaits = kept.others is.ticket.reservation m is.awaits;
          own = is.own;
          stored = safe_on (traces view) sum old.log new.log m kept.keeps.goes_on is.stored;
          joins = is.joins;
          begins_batch = λ of. let begun = is.begins_batch of in record { kind = begun.kind; inline = begun.inline; apart = λ b known. begun.apart b (subst (λ (bs : List Batch). Contains bs b) kept.seen.noted known) };
          begins = omega (arith, up, low);
          ends = omega (arith, up, end);
        }

    new_ticket : IsTicketFor (traces view) sum new k.history (length k.tickets) its
    new_ticket =
        let end = ap (λ (x : LogStatus). x.reserved) kept.behind.stands.1 in
        let place = kept.place in
        let long = ends_with in
        record {
          ticket = its_ticket;
          there = ap (λ (l : List (Option Ticket)). slice_get l (length k.tickets)) tickets
              ∙ ap (slice_get (old.tickets.items ++ Some its_ticket ∷ [])) (sym at.tickets.as_many)
              ∙ there_last old.tickets.items (Some its_ticket);
          kind = refl;
          page = refl;
          awaits = kept.ticket;
          own = kept.own;
          stored = λ none. kept.stored;
          joins = joins;
          begins_batch = begins;
          begins = omega (arith, end, place);
          ends = omega (arith, long);
        }

    each : (i : ℕ) (m : Message) → slice_get (k.tickets ++ Some its ∷ []) i ≡ Some (Some m) → IsTicketFor (traces view) sum new k.history i m
    each i m there = elim (push_cases k.tickets (Some its) (Some m) i there) [
      | inl was ↦ old_ticket i m was
      | inr last ↦ subst (λ x. IsTicketFor (traces view) sum new k.history i x) (same_Some its m last.1) (subst (λ n. IsTicketFor (traces view) sum new k.history n its) (sym last.0) new_ticket)
    ]

    -- none of the old ones is of its page
    alone : (i : ℕ) (m : Message) → slice_get k.tickets i ≡ Some (Some m) → m.page ≡ its.page → ⊥
    alone i m there of = let has = page_has k.tickets i its.page m there of in cc

    apart : (i j : ℕ) (m n : Message) → slice_get (k.tickets ++ Some its ∷ []) i ≡ Some (Some m) → slice_get (k.tickets ++ Some its ∷ []) j ≡ Some (Some n) → m.page ≡ n.page → i ≡ j
    apart i j m n one two same = by (push_cases k.tickets (Some its) (Some m) i one) (push_cases k.tickets (Some its) (Some n) j two) where
      by : (slice_get k.tickets i ≡ Some (Some m)) ⊎ ((i ≡ length k.tickets) × (Some its ≡ Some m)) → (slice_get k.tickets j ≡ Some (Some n)) ⊎ ((j ≡ length k.tickets) × (Some its ≡ Some n)) → i ≡ j
      by (inl a) (inl b) = at.tickets.apart i j m n a b same
      by (inl a) (inr b) = absurd (alone i m a (same ∙ ap (λ (x : Message). x.page) (sym (same_Some its n b.1))))
      by (inr a) (inl b) = absurd (alone j n b (sym same ∙ ap (λ (x : Message). x.page) (sym (same_Some its m a.1))))
      by (inr a) (inr b) = a.0 ∙ sym b.0

    gone : (i : ℕ) → slice_get (k.tickets ++ Some its ∷ []) i ≡ Some None → slice_get new.tickets.items i ≡ Some None
    gone i there = elim (push_cases k.tickets (Some its) None i there) [
      | inl was ↦ (ap (λ (l : List (Option Ticket)). slice_get l i) tickets ∙ there_append old.tickets.items (Some its_ticket ∷ []) i None (at.tickets.gone i was))
      | inr last ↦ (let none = last.1 in cc)
    ]

    places_push : map (λ m. m.place) (open_messages (k.tickets ++ Some its ∷ [])) ≡ map (λ m. m.place) (open_messages k.tickets) ++ its.place ∷ []
    places_push = ap (map (λ m. m.place)) (open_push k.tickets its) ∙ map-append (λ m. m.place) (open_messages k.tickets) (its ∷ [])

    rising : AreRising (map (λ m. m.place) (open_messages (k.tickets ++ Some its ∷ [])))
    rising =
        let below = open_all (λ p. p < its.place) k.tickets (λ i m there. let low = (at.tickets.each i m there).begins in let up = behind in omega (arith, low, up)) in
        subst AreRising (sym places_push) (rising_push (map (λ m. m.place) (open_messages k.tickets)) its.place at.tickets.rising below)

    noted : (p : ℕ) → p ≢ manifest_page → get_or new.busy.items p false ≡ has_message_for p (open_messages (k.tickets ++ Some its ∷ []))
    noted p message =
        busy p message ∙ ap (λ (b : Bool). if its.page == p then true else b) (at.tickets.busy p message) ∙ sym (ap (has_message_for p) (open_push k.tickets its) ∙ page_push p (open_messages k.tickets) its)

    -- a pin is out for it
    pinned : pins_of new.log ≡ length (open_messages more.tickets) + length at.unmarked
    pinned =
        let one = kept.seen.pins in
        let were = at.pinned in
        let long = ap length (open_push k.tickets its) ∙ length-append (open_messages k.tickets) (its ∷ []) in
        omega (arith, one, were, long)

    opens_with : open_places new.log ≡ open_places old.log ++ its.place ∷ []
    opens_with = ap (λ (x : LogStatus). x.opens) kept.behind.stands.1 ∙ ap (λ p. open_places old.log ++ p ∷ []) (sym kept.place)

    has_tickets : HasTickets (traces view) sum new k.history more.tickets
    has_tickets = record {
      as_many = ap length tickets ∙ length-append old.tickets.items _ ∙ ap (λ n. n + 1) at.tickets.as_many ∙ sym (length-append k.tickets (Some its ∷ []));
      each = each;
      gone = gone;
      apart = apart;
      rising = rising;
      are_all = λ none. opens_with ∙ ap (λ (l : List ℕ). l ++ its.place ∷ []) (at.tickets.are_all kept.fault) ∙ sym places_push;
      busy = noted;
      batch = batch;
    }

    pub reserved_at : IsOpenAt (traces view) sum new more
    reserved_at =
        let up = grown in
        record {
          made = at.made;
          unmarked = at.unmarked;
          due = unmarked_none old.log new.log k.history old.due new.due same.due same.none at.unmarked at.due;
          fits = kept.keeps.fits k.history k.acknowledged k.floor at.unmarked at.fits;
          zeros = at.zeros;
          pinned = pinned;
          origin = origin_kept old.log new.log k.floor new.origin kept.keeps.goes_on.config (same.origin ∙ at.origin);
          table = subst (λ p. IsTable (map page_of p.items) k.history top) (sym same.pages) at.table;
          tickets = has_tickets;
          given_up = λ m given. at.given_up m (kept.behind.given_up m given);
          heads = heads_kept sum old.log new.log begun_pages k.tickets k.given_up k.heads (begun_pinned sum old.log new.log kept.behind.marked) at.heads;
          ends = All-weaker (λ m. m.place + m.size ≤ reserved_end old.log) (λ m. m.place + m.size ≤ reserved_end new.log) (λ m low. omega (arith, low, up)) k.history.messages at.ends;
        }

    pub reserved_step : HasReserved (segment_size_of old.log) (stands view (phase.Open old) k) (seen old k.tickets k.given_up k.heads) (target_in (segment_size_of old.log) (seen old k.tickets k.given_up k.heads) its.page n) its
        (length old.tickets.items) (place_of reservation) (pointer_of reservation) (device_in view (phase.Open new)) (stands view (phase.Open new) more)
    reserved_step =
        let q : Position = target_of old.log its.page n in
        let both = awaited new.log reservation its kept.ticket in
        let stands : status_of new.log ≡ failing (fault_of new.log) (reserving_at (segment_size_of old.log) q q.place (size_for old.log its.page n) (status_of (pinned_log old.log))) = kept.behind.stands.1 in
        let fault = kept.sound ∙ sym kept.fault in
        let pinned = some_out (pins_of old.log) in
        let status : status_of new.log ≡ pinned_too (reserving_at (segment_size_of old.log) q its.place its.size (status_of old.log)) =
        stands
        ∙ (λ i. record (reserving_at (segment_size_of old.log) q (sym kept.place i) (sym kept.size i) (status_of (pinned_log old.log))) {
          fault = fault i;
          account = record { mark = old.log.marks.joined; durable = old.log.marks.durable; pinned = pinned i };
        }) in
        record {
          fault = kept.fault;
          in_reach = in_reach old.log begun_pages k.tickets k.given_up k.heads sum its.page n inline kept.free;
          few = let same = beside_count old.log begun_pages k.tickets k.given_up k.heads sum its.page n inline in let less = kept.few in omega (arith, same, less);
          number = at.tickets.as_many;
          answer = (sym both.0, sym both.1);
          leads = λ i. record {
            device = view new.log.config.device;
            history = k.history;
            acknowledged = k.acknowledged;
            floor = k.floor;
            log = Some (record {
              status = status i;
              begun = length (same.pages i).items;
              tickets = k.tickets ++ Some its ∷ [];
              given_up = k.given_up;
              heads = heads_at (seen old k.tickets k.given_up k.heads) (status i).start;
            });
            due = shown_due (same.due i);
          };
        }

-- A message of a page that may be reserved may come to the history.
module _ {D C : Type 0} (view : D → DeviceView) (sum : List ℕ → ℕ) (old new : Opened D C) (n : ℕ) (comes : Message) (reservation : Reservation)
    (changes : ChangesPage comes.kind) (kept : KeptPlace (traces view) sum old.log new.log n comes reservation) (inline : FitsInline (segment_size_of old.log) n)
    (small : comes.page < length old.busy.items) (k : Unstored) (at : IsOpenAt (traces view) sum old k) (may : MayReserve k.history (seen old k.tickets k.given_up k.heads) comes.kind comes.page) where
  below : All (λ m. m.place < comes.place) k.history.messages
  below = subst (λ p. All (λ m. m.place < p) k.history.messages) (sym kept.place) (put_behind (traces view) sum old k at comes.page n inline)

  -- a page that is begun has a Replace below its place
  replaced : (p : ℕ) → p < length (map page_of old.pages.items) → HasReplaceBelow k.history p comes.place
  replaced p less = replace_below k.history (map page_of old.pages.items) p comes.place at.table less below

  known : (comes.kind ≡ does.Replace) ⊎ (comes.page < length (map page_of old.pages.items))
  known = elim may.known [ inl first ↦ inl first.0 | inr present ↦ inr (present_begun k.history (map page_of old.pages.items) comes.page at.table present) ]

  known_below : (p : ℕ) → p < comes.page → p < length (map page_of old.pages.items)
  known_below p less = elim may.known [
    | inl first ↦ (let le : comes.page ≤ length old.pages.items = first.1 in let long = length-map old.pages.items page_of in omega (arith, le, less, long))
    | inr present ↦ (let lt = present_begun k.history (map page_of old.pages.items) comes.page at.table present in omega (arith, lt, less))
  ]

  pub may_join : JoinsWithBlob k.history comes comes.pointer → MayJoin k.history comes
  may_join blob = record {
    changes = changes;
    small = let most = old.busy.small in omega (arith, small, most);
    blob = blob;
    low = awaited_small new.log reservation comes kept.ticket;
    own = elim known [ inl first ↦ inl first | inr less ↦ inr (replaced comes.page less) ];
    lower = λ p less. replaced p (known_below p less);
    later = λ x there of. All-contains (λ m. m.place < comes.place) k.history.messages x below there;
    few = may.few;
  }

-- A place was kept for a message, which has a ticket now, and all holds that did.
pub record HasHeld {D C : Type 0} (view : D → DeviceView) (sum : List ℕ → ℕ) (old new : Opened D C) (n : ℕ) (m : Message) (reservation : Reservation) (k : Unstored) : Type 0 where
  pub reserved : HasReserved (segment_size_of old.log) (stands view (phase.Open old) k) (seen old k.tickets k.given_up k.heads) (target_in (segment_size_of old.log) (seen old k.tickets k.given_up k.heads) m.page n) m
      (length old.tickets.items) (place_of reservation) (pointer_of reservation) (device_in view (phase.Open new)) (stands view (phase.Open new) (with_ticket k m (heads_at (seen old k.tickets k.given_up k.heads) (start_of new.log))))
  pub at : IsOpenAt (traces view) sum new (with_ticket k m (heads_at (seen old k.tickets k.given_up k.heads) (start_of new.log)))

-- a session over another log
abbrev pub over_log : {D C : Type 0} → Opened D C → Log D C → Opened D C
over_log old log =
    record { alloc = old.alloc; log = log; origin = old.origin; pages = old.pages; busy = old.busy; batch = old.batch; tickets = old.tickets; due = old.due }

-- With a ticket held in it, a reservation of a log is one of the session.
module _ {D C : Type 0} (view : D → DeviceView) (sum : List ℕ → ℕ) (old new : Opened D C) (log : Log D C) (n : ℕ) (m : Message) (reservation : Reservation) (guard : Guard) (result : Reply) (k : Unstored)
    (kept : KeptPlace (traces view) sum old.log log n m reservation) (holds : HoldsTicket (over_log old log) new m.kind m.page reservation guard result) (none : old.due ≡ None) (at : IsOpenAt (traces view) sum old k)
    (inline : FitsInline (segment_size_of old.log) n) where
  kept_new : KeptPlace (traces view) sum old.log new.log n m reservation
  kept_new = subst (λ x. KeptPlace (traces view) sum old.log x n m reservation) (sym holds.log) kept

  same_but : IsSameBut old new
  same_but = record { pages = holds.pages; origin = holds.origin; due = holds.due; none = none }

  -- a message of a page, whose blob is its own or that of another message, if it has one,
  pub held_message : ChangesPage m.kind → JoinsWithBlob k.history m m.pointer → m.page < length old.busy.items → m.page ≢ manifest_page → MayReserve k.history (seen old k.tickets k.given_up k.heads) m.kind m.page
      → HasHeld view sum old new n m reservation k
  held_message changes blob small message may =
      let other : (m.page == manifest_page) ≡ false = ne_eqb m.page manifest_page message in
      let set_busy : new.busy.items ≡ set old.busy.items m.page true = holds.busy ∙ ap (λ (b : Bool). if b then old.busy.items else set old.busy.items m.page true) other in
      let same_batch : new.batch ≡ old.batch = holds.batch ∙ ap (λ (b : Bool). if b then Some (length old.tickets.items) else old.batch) other in
      let joins : m.page ≢ manifest_page → MayJoin k.history m = λ ne. may_join view sum old new n m reservation changes kept_new inline small k at may blob in
      let busy : (p : ℕ) → p ≢ manifest_page → get_or new.busy.items p false ≡ (if m.page == p then true else get_or old.busy.items p false) = λ p ne. busy_set old.busy.items new.busy.items m.page p set_busy small in
      let batch = subst (HasBatch (k.tickets ++ Some m ∷ [])) (sym same_batch) (batch_push k.tickets m old.batch message at.tickets.batch) in
      record {
        reserved = reserved_step view sum old new n m reservation guard kept_new same_but holds.tickets k at inline may.idle joins (λ is. absurd (message is)) busy batch;
        at = reserved_at view sum old new n m reservation guard kept_new same_but holds.tickets k at inline may.idle joins (λ is. absurd (message is)) busy batch;
      }

  -- or the manifest of a batch
  pub held_manifest : m.kind ≡ does.Skip → m.page ≡ manifest_page → IsInline m.pointer → has_message_for m.page (open_messages k.tickets) ≡ false → HasHeld view sum old new n m reservation k
  held_manifest skip manifest plain idle =
      let same : (m.page == manifest_page) ≡ true = eq-eqb m.page manifest_page manifest in
      let same_busy : new.busy.items ≡ old.busy.items = holds.busy ∙ ap (λ (b : Bool). if b then old.busy.items else set old.busy.items m.page true) same in
      let is_batch : new.batch ≡ Some (length k.tickets) = holds.batch ∙ ap (λ (b : Bool). if b then Some (length old.tickets.items) else old.batch) same ∙ ap (λ x. Some x) at.tickets.as_many in
      let low = reserved_below old.log (length old.pages.items) k.tickets k.given_up k.heads sum m.page n inline in
      let place = kept.place in
      let up : reserved_end old.log ≤ m.place = omega (arith, low, place) in
      let begins : m.page ≡ manifest_page → BeginsBatch new.log m = λ is. record {
        kind = skip;
        inline = plain;
        apart = λ b known. let peg = noted_pegs old.log b (subst (λ (bs : List Batch). Contains bs b) kept_new.seen.noted known) in omega (arith, peg, up);
      } in
      let busy : (p : ℕ) → p ≢ manifest_page → get_or new.busy.items p false ≡ (if m.page == p then true else get_or old.busy.items p false) = λ p ne. ap (λ (l : List Bool). get_or l p false) same_busy
      ∙ sym (ap (λ (b : Bool). if b then true else get_or old.busy.items p false) (ne_eqb m.page p (λ is. ne (sym is ∙ manifest)))) in
      let batch = subst (HasBatch (k.tickets ++ Some m ∷ [])) (sym is_batch) (m, there_last k.tickets (Some m), manifest) in
      record {
        reserved = reserved_step view sum old new n m reservation guard kept_new same_but holds.tickets k at inline idle (λ ne. absurd (ne manifest)) begins busy batch;
        at = reserved_at view sum old new n m reservation guard kept_new same_but holds.tickets k at inline idle (λ ne. absurd (ne manifest)) begins busy batch;
      }
