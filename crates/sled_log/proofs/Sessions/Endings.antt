-- Tickets that end, and what comes to the table.
use Rattle.std.proofs.Common.{◌≡◌, ◌∙◌, ◌<◌, ℕ, Bool, false, if◌then◌else◌, List, [], ◌∷◌, ◌++◌, length, map, get_or, set, sym, ap, subst, arith, refl, Option, None, Some}
use Rattle.std.specs.Prelude.{IfSome}
use Rattle.std.specs.List.{slice_get}
use Rattle.std.proofs.lemmas.Bool.{ne_eqb}
use Rattle.std.proofs.lemmas.List.{get_or-map, map-set, length-map}
use Rattle.std.proofs.lemmas.Option.{slice_get_read}
use Rattle.sled_codec.specs.declared.serialization.snapshot.PageState.{PageState}
use Rattle.sled_codec.specs.Snapshots.{Page, Uninitialized, page_of}
use Rattle.sled_core.specs.Fits.{IsOpen}
use Rattle.sled_core.proofs.Holds.Nth.{set_get}
use Rattle.sled_log.specs.declared.session.opened.Opened.{Opened}
use Rattle.sled_log.specs.declared.session.tickets.Ticket.{Ticket}
use Rattle.sled_log.specs.Endings.{HasRoomOn, TakesTicket, batch_left, put_at}

-- The table.

-- a page that is known is set
pub put_known : (pages : List PageState) (page : ℕ) (s : PageState) → page < length pages → map page_of (set pages page s) ≡ put_at (map page_of pages) page (page_of s)
put_known pages page s known =
    map-set page_of pages page s
    ∙ sym (ap (λ (b : Bool). if b then map page_of pages ++ page_of s ∷ [] else set (map page_of pages) page (page_of s))
    (ne_eqb page (length (map page_of pages)) (λ same. omega (arith, known, same, length-map pages page_of))))

-- one that is there is set to what another is
pub set_seen : (pages : List PageState) (page : ℕ) (x y : PageState) (p : Page → Page) → page < length pages → x ≡ get_or pages page x → page_of y ≡ p (page_of x)
    → map page_of (set pages page y) ≡ set (map page_of pages) page (p (get_or (map page_of pages) page Uninitialized))
set_seen pages page x y p lt at is =
    let there : get_or (map page_of pages) page Uninitialized ≡ page_of x = get_or-map page_of pages page x Uninitialized lt ∙ ap page_of (sym at) in
    map-set page_of pages page y ∙ ap (set (map page_of pages) page) (is ∙ ap p (sym there))

-- a page with room for one more fragment, where it was put
pub room_there : (pages : List PageState) (page : ℕ) (x y s : PageState) → page < length pages → x ≡ get_or pages page x → HasRoomOn y → slice_get (set pages page y) page ≡ Some s → HasRoomOn s
room_there pages page x y s lt at room is =
    let got : slice_get (set pages page y) page ≡ Some y = set_get pages page x y (slice_get_read pages (length pages) page x refl lt at) in
    let same : y ≡ s = cc in
    subst HasRoomOn same room

-- Tickets.

-- what holds where there is nothing
pub if_none : {X : Type 0} (P : X → Type 0) (r : Option X) → r ≡ None → IfSome r P
if_none P None is = tt
if_none P (Some x) is = cc

-- what is there twice is one
pub one_there : {X : Type 0} (xs : List (Option X)) (n : ℕ) (x y : X) → slice_get xs n ≡ Some (Some x) → slice_get xs n ≡ Some (Some y) → x ≡ y
one_there xs n x y first second = cc

module _ {D C : Type 0} (old new : Opened D C) (number : ℕ) (log : new.log ≡ old.log) (pages : new.pages ≡ old.pages) (origin : new.origin ≡ old.origin) (due : new.due ≡ old.due) (tickets : new.tickets.items ≡ set old.tickets.items number None) where
  -- none is taken where none of this number is open
  pub takes_none : (result : Option Ticket) → result ≡ None
      → ((t : Ticket) → slice_get old.tickets.items number ≡ Some (Some t) → IsOpen old.log t.reservation → ⊥) → TakesTicket old number new result
  takes_none result is never = record {
    log = log;
    pages = pages;
    origin = origin;
    due = due;
    tickets = tickets;
    there = if_none (λ t. slice_get old.tickets.items number ≡ Some (Some t)) result is;
    is_open = if_none (λ t. IsOpen new.log t.reservation) result is;
    busy = if_none (λ t. new.busy.items ≡ set old.busy.items t.page false) result is;
    batch = if_none (λ t. new.batch ≡ batch_left t.page old.batch) result is;
    taken = λ t at is_open. absurd (never t at is_open);
  }

  -- or the one that is
  pub takes_some : (t : Ticket) → slice_get old.tickets.items number ≡ Some (Some t) → IsOpen old.log t.reservation → new.busy.items ≡ set old.busy.items t.page false → new.batch ≡ batch_left t.page old.batch
      → TakesTicket old number new (Some t)
  takes_some t there is_open busy batch = record {
    log = log;
    pages = pages;
    origin = origin;
    due = due;
    tickets = tickets;
    there = there;
    is_open = subst (λ l. IsOpen l t.reservation) (sym log) is_open;
    busy = busy;
    batch = batch;
    taken = λ u at also. ap (λ x. Some x) (one_there old.tickets.items number t u there at);
  }
