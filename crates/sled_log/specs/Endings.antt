-- How a session ends a ticket, and what comes to its table.
use Rattle.std.specs.Prelude.{◌≡◌, ◌<◌, ◌==◌, if◌then◌else◌, ℕ, false, List, [], ◌∷◌, ◌++◌, length, map, get_or, set, slice_get, Vec, vec_len, vec_capacity}
use Rattle.std.specs.Prelude.{Option, None, Some, IfSome}
use Rattle.std.specs.declared.alloc.Global.{Global}
use Rattle.sled_codec.specs.declared.serialization.message.LogKind.{LogKind}
use Rattle.sled_codec.specs.declared.serialization.message.LogKind.TheVariants as does
use Rattle.sled_codec.specs.declared.serialization.snapshot.PageState.{PageState}
use Rattle.sled_codec.specs.declared.serialization.snapshot.PageState.TheVariants as state
use Rattle.sled_codec.specs.Snapshots.{Entry, Free, Page, Present, Uninitialized, page_of}
use Rattle.sled_store.specs.declared.segment.slot.CacheInfo.{CacheInfo}
use Rattle.sled_core.specs.Fits.{IsOpen}
use Rattle.sled_core.specs.Manifests.{manifest_page}
use Rattle.sled_log.specs.declared.session.opened.Opened.{Opened}
use Rattle.sled_log.specs.declared.session.tickets.Ticket.{Ticket}
use Rattle.sled_log.specs.SessionMarks.{replacing, told_state}

-- The table.

-- a page of it, or the next one, is this
abbrev pub put_at : List Page → ℕ → Page → List Page
put_at pages page s = if page == length pages then pages ++ s ∷ [] else set pages page s

-- a page that is present gets one more fragment
abbrev pub put_on : Entry → Page → Page
put_on e (Present base frags) = Present base (frags ++ e ∷ [])
put_on e (Free place pointer) = Free place pointer
put_on e Uninitialized = Uninitialized

-- the entry of a message of this kind comes to it
abbrev pub applied_to : List Page → LogKind → ℕ → Entry → List Page
applied_to pages does.Replace page e = put_at pages page (Present e [])
applied_to pages does.Free page e = put_at pages page (Free e.0 e.1)
applied_to pages does.Link page e = set pages page (put_on e (get_or pages page Uninitialized))
applied_to pages does.Skip page e = pages
applied_to pages does.Corrupted page e = pages

-- a page has room for one more fragment
abbrev pub HasRoomOn : PageState → Type 0
HasRoomOn (state.Present base frags) = vec_len frags < vec_capacity frags
HasRoomOn (state.Free place pointer) = Unit {0}
HasRoomOn state.Uninitialized = Unit {0}

-- the table has room for that entry
abbrev pub HasRoomToApply : Vec PageState Global → LogKind → ℕ → Type 0
HasRoomToApply pages does.Link page = (s : PageState) → slice_get pages.items page ≡ Some s → HasRoomOn s
HasRoomToApply pages does.Replace page = page ≡ length pages.items → vec_len pages < vec_capacity pages
HasRoomToApply pages does.Free page = page ≡ length pages.items → vec_len pages < vec_capacity pages
HasRoomToApply pages does.Skip page = Unit {0}
HasRoomToApply pages does.Corrupted page = Unit {0}

-- Tickets.

-- Only room was made in the table.
pub record KeepsPages {D C : Type 0} (old new : Opened D C) : Type 0 where
  pub log : new.log ≡ old.log
  pub pages : map page_of new.pages.items ≡ map page_of old.pages.items
  pub tickets : new.tickets ≡ old.tickets
  pub busy : new.busy ≡ old.busy
  pub batch : new.batch ≡ old.batch
  pub origin : new.origin ≡ old.origin
  pub due : new.due ≡ old.due

-- there is room for the entry of the message of a ticket
abbrev pub HasRoomFor : {D C : Type 0} → Opened D C → ℕ → Type 0
HasRoomFor opened number = (ticket : Ticket) → slice_get opened.tickets.items number ≡ Some (Some ticket) → HasRoomToApply opened.pages ticket.kind ticket.page

-- the message of a ticket takes the place of these
abbrev pub IsFormerFor : {D C : Type 0} → Opened D C → ℕ → List CacheInfo → Type 0
IsFormerFor opened number old = (ticket : Ticket) → slice_get opened.tickets.items number ≡ Some (Some ticket)
    → old ≡ replacing ticket.kind (told_state opened.origin.size opened.origin.floor ticket.page (slice_get opened.pages.items ticket.page))

-- the number of the open manifest's ticket, once a ticket of this page is taken
abbrev pub batch_left : ℕ → Option ℕ → Option ℕ
batch_left page batch = if page == manifest_page then None else batch

-- A ticket is taken, where its reservation is open. Its page has no open ticket then, and the batch that it began is ended.
pub record TakesTicket {D C : Type 0} (old : Opened D C) (number : ℕ) (new : Opened D C) (result : Option Ticket) : Type 0 where
  pub log : new.log ≡ old.log
  pub pages : new.pages ≡ old.pages
  pub origin : new.origin ≡ old.origin
  pub due : new.due ≡ old.due
  pub tickets : new.tickets.items ≡ set old.tickets.items number None
  pub there : IfSome result (λ ticket. slice_get old.tickets.items number ≡ Some (Some ticket))
  pub is_open : IfSome result (λ ticket. IsOpen new.log ticket.reservation)
  pub busy : IfSome result (λ ticket. new.busy.items ≡ set old.busy.items ticket.page false)
  pub batch : IfSome result (λ ticket. new.batch ≡ batch_left ticket.page old.batch)
  pub taken : (ticket : Ticket) → slice_get old.tickets.items number ≡ Some (Some ticket) → IsOpen old.log ticket.reservation → result ≡ Some ticket
