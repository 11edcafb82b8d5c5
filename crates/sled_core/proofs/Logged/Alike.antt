-- Histories of which the log has the same: what the one has of places, kinds, pages and pointers the other one has.
use Rattle.std.proofs.Common.{◌≡◌, ◌∙◌, ◌+◌, ◌<◌, ◌≤◌, ◌⊎◌, ℕ, List, map, sym, ap, subst}
use Rattle.std.specs.List.{Contains}
use Rattle.sled_codec.specs.History.{Message, Batch, History, CutFits, HasPage, of_page, table}
use Rattle.sled_codec.specs.PageTables.{IsTable, page_with}
use Rattle.sled_codec.specs.Snapshots.{Page}
use Rattle.sled_codec.specs.WellFormed.{LieApart}
use Rattle.sled_store.proofs.Marks.DeactivationSteps.{from_map}
use Rattle.sled_store.proofs.Segments.Elements.{in_map}
use Rattle.sled_core.specs.Fits.{EndBelow}
use Rattle.sled_core.specs.Logged.{in_log, logged}
use Rattle.sled_core.specs.inside.Recoverable.{NoMessageBegins, NoBatchBegins, NoBatchEnds}
use Rattle.sled_core.proofs.Logged.Messages.{from_logged, logged_there, logged_apart, apart_logged, logged_below, below_logged, of_page_logged, page_with_logged, table_logged}

-- A history is alike to what the log has of it, by logged_twice.

module _ (H R : History) (same : logged H ≡ logged R) where
  -- Messages and batches.

  -- a message of the one has one of the other that is alike
  pub alike_there : (m : Message) → Contains H.messages m → (n : Message) × Contains R.messages n × (in_log n ≡ in_log m)
  alike_there m there = from_logged R (in_log m) (subst (λ (x : History). Contains x.messages (in_log m)) same (logged_there H m there))

  -- the batches are the same
  pub alike_batches : H.batches ≡ R.batches
  alike_batches = ap (λ (x : History). x.batches) same

  -- so a batch of the one is one of the other
  pub alike_batch : (b : Batch) → Contains H.batches b → Contains R.batches b
  alike_batch b there = subst (λ (l : List Batch). Contains l b) alike_batches there

  -- what is so of each message of the other one, and sees no item, is so of each of this one
  pub alike_all : (P : Message → Type 0) → ((m n : Message) → in_log n ≡ in_log m → P n → P m) → ((n : Message) → Contains R.messages n → P n) → (m : Message) → Contains H.messages m → P m
  alike_all P turns each m there = let other = alike_there m there in turns m other.0 other.2 (each other.0 other.1)

  -- messages of the one lie apart where those of the other do
  pub alike_apart : LieApart H.messages → LieApart R.messages
  alike_apart apart = logged_apart R (subst (λ (x : History). LieApart x.messages) same (apart_logged H apart))

  -- and end below a place where they do
  pub alike_below : (place : ℕ) → EndBelow place H.messages → EndBelow place R.messages
  alike_below place below = logged_below place R (subst (λ (x : History). EndBelow place x.messages) same (below_logged place H below))

  -- Tables.

  -- an entry of the table of the one has one of that of the other
  pub entry_alike : (cut page : ℕ) (m : Message) → Contains (table H cut page) m → (n : Message) × Contains (table R cut page) n × (in_log n ≡ in_log m)
  entry_alike cut page m there =
      let tables : map in_log (table H cut page) ≡ map in_log (table R cut page) = sym (table_logged H cut page) ∙ ap (λ (x : History). table x cut page) same ∙ table_logged R cut page in
      from_map in_log (table R cut page) (in_log m) (subst (λ (l : List Message). Contains l (in_log m)) tables (in_map in_log (table H cut page) m there))

  -- the page is the same
  pub page_alike : (cut page : ℕ) → page_with (table H cut page) ≡ page_with (table R cut page)
  page_alike cut page =
      sym (page_with_logged (table H cut page)) ∙ ap page_with (sym (table_logged H cut page) ∙ ap (λ (x : History). table x cut page) same ∙ table_logged R cut page) ∙ page_with_logged (table R cut page)

  -- a page of the table of the one is a page of that of the other
  pub has_page_alike : (cut page : ℕ) → HasPage H cut page → HasPage R cut page
  has_page_alike cut page has =
      let pages : map in_log (of_page H.messages cut page) ≡ map in_log (of_page R.messages cut page) =
      sym (of_page_logged H.messages cut page) ∙ ap (λ (x : History). of_page x.messages cut page) same ∙ of_page_logged R.messages cut page in
      let other = from_map in_log (of_page R.messages cut page) (in_log has.message)
      (subst (λ (l : List Message). Contains l (in_log has.message)) pages (in_map in_log (of_page H.messages cut page) has.message has.there)) in
      record { message = other.0; there = other.1; replaces = ap (λ (x : Message). x.kind) other.2 ∙ has.replaces }

module _ (H R : History) (same : logged H ≡ logged R) where
  -- pages that are the table of the one are that of the other
  pub table_alike : (pages : List Page) (cut : ℕ) → IsTable pages H cut → IsTable pages R cut
  table_alike pages cut is = record {
    states = λ page. is.states page ∙ page_alike H R same cut page;
    begun = λ page. (λ below. has_page_alike H R same cut page ((is.begun page).0 below), λ has. (is.begun page).1 (has_page_alike R H (sym same) cut page has));
  }

  -- Where nothing begins or ends.

  -- a cut splits nothing of the one where it splits nothing of the other
  pub cut_alike : (cut : ℕ) → CutFits H cut → CutFits R cut
  cut_alike cut fits = record {
    batches = λ b there low. fits.batches b (alike_batch R H (sym same) b there) low;
    messages = alike_all R H (sym same) (λ m. m.place < cut → m.place + m.size ≤ cut) (λ m n is ends. turn m n is ends) fits.messages;
  } where
    turn : (m n : Message) → in_log n ≡ in_log m → (n.place < cut → n.place + n.size ≤ cut) → m.place < cut → m.place + m.size ≤ cut
    turn m n is ends = subst (λ (x : Message). x.place < cut → x.place + x.size ≤ cut) is ends

  -- no message begins from one place up to another
  pub no_message_alike : (from to : ℕ) → NoMessageBegins H from to → NoMessageBegins R from to
  no_message_alike from to none = alike_all R H (sym same) (λ m. (m.place < from) ⊎ (to ≤ m.place)) (λ m n is out. subst (λ (x : Message). (x.place < from) ⊎ (to ≤ x.place)) is out) none

  -- no batch begins there
  pub no_batch_alike : (from to : ℕ) → NoBatchBegins H from to → NoBatchBegins R from to
  no_batch_alike from to none b there = none b (alike_batch R H (sym same) b there)

  -- no batch ends there
  pub no_end_alike : (from to : ℕ) → NoBatchEnds H from to → NoBatchEnds R from to
  no_end_alike from to none b there = none b (alike_batch R H (sym same) b there)
