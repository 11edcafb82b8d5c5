-- The table of an orderly history is one that a snapshot can say: no message has the page that no table has, and each page is in a state that is spelled.
use Rattle.std.proofs.Common.{◌≡◌, ◌≢◌, ◌≤◌, ◌<◌, ◌-◌, ◌^◌, ◌∙◌, ◌==◌, ◌&&◌, ◌||◌, ℕ, suc, pos, Bool, true, false, if◌then◌else◌, List, [], ◌∷◌, length, map, get_or, Option, Some, None, refl, ap, arith}
use Rattle.std.specs.List.{All}
use Rattle.std.proofs.lemmas.Bool.Decides.{nat_tests}
use Rattle.std.proofs.lemmas.List.{length-map}
use Rattle.std.proofs.lemmas.List.Elements.{All-tail}
use Rattle.sled_codec.specs.History.{Message, History, HasPage, table, of_page, page_state, last_beginning, entries_from, is_replace, begins_page}
use Rattle.sled_codec.specs.PageTables.{entry_of, page_with, IsTable}
use Rattle.sled_codec.specs.Snapshots.{Page, Present, Free, Uninitialized}
use Rattle.sled_log.specs.Orderly.{IsOrderly}
use Rattle.sled_log.specs.Recovery.{applied, has_no_table, is_whole_page, are_whole}
use Rattle.sled_store.proofs.Histories.PageStates.{none_begins, begins_false}

-- messages of pages that a table can have
pub have_tables : (ms : List Message) → All (λ m. m.page ≢ 2 ^ 64 - 1) ms → has_no_table (map applied ms) ≡ false
have_tables [] pages = refl
have_tables (m ∷ ms) pages =
    let other : m.page ≢ 2 ^ 64 - 1 = pages 0 m (omega arith) in
    let test : (m.page == 2 ^ 64 - 1) ≡ false = grind (arith, nat_tests, other) in
    ap (λ (b : Bool). b || has_no_table (map applied ms)) test ∙ have_tables ms (All-tail (λ x. x.page ≢ 2 ^ 64 - 1) m ms pages)

-- a page that has an entry, and not too many
whole_with : (b : Message) (ms : List Message) → length (b ∷ ms) ≤ 255 → is_whole_page (page_with (b ∷ ms)) ≡ true
whole_with b ms few = by (is_replace b.kind) where
  by : (t : Bool) → is_whole_page (if t then Present (entry_of b) (map entry_of ms) else Free (pos b.place) b.pointer) ≡ true
  by true = let count : length (map entry_of ms) < 255 = omega (arith, few, length-map ms entry_of) in grind (arith, nat_tests, count)
  by false = refl

-- each page of a table has one
whole_page : (H : History) (cut page : ℕ) → length (table H cut page) ≤ 255 → HasPage H cut page → is_whole_page (page_with (table H cut page)) ≡ true
unfolding table page_state
whole_page H cut page few has = by (last_beginning ms) refl few where
  ms : List Message
  ms = of_page H.messages cut page

  by : (o : Option Message) → last_beginning ms ≡ o → length (entries_from o ms) ≤ 255 → is_whole_page (page_with (entries_from o ms)) ≡ true
  by None none short = absurd (begins_false has.message ms (none_begins ms none) has.there (ap begins_page has.replaces))
  by (Some b) last short = whole_with b _ short

-- pages each of which is whole
all_whole : (pages : List Page) → ((page : ℕ) → page < length pages → is_whole_page (get_or pages page Uninitialized) ≡ true) → are_whole pages ≡ true
all_whole [] each = refl
all_whole (p ∷ ps) each = ap (λ (b : Bool). b && are_whole ps) (each 0 (omega arith)) ∙ all_whole ps (λ page lt. each (suc page) (omega (arith, lt)))

pub table_whole : (H : History) (cut : ℕ) (pages : List Page) → IsOrderly H → IsTable pages H cut → are_whole pages ≡ true
table_whole H cut pages orderly is = all_whole pages (λ page lt. ap is_whole_page (is.states page) ∙ whole_page H cut page (orderly.few cut page) ((is.begun page).0 lt))
