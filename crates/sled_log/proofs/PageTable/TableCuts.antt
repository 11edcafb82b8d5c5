-- The table of a history below a cut does not depend on what the history has from there on.
use Rattle.std.proofs.Common.{◌≡◌, ◌∙◌, ◌↔◌, ◌≤◌, ℕ, Bool, true, false, ◌&&◌, ◌==◌, cond, nat_lt, List, [], ◌∷◌, refl, sym, ap, subst, arith, ltb-true, lt-ltb, true≢false}
use Rattle.std.specs.List.{Contains, filter}
use Rattle.std.proofs.lemmas.Bool.{and_parts, and_right, le-ltb}
use Rattle.sled_codec.specs.History.{Message, History, no_history, page_state, of_page, table, HasPage, below}
use Rattle.sled_codec.specs.PageTables.{page_with, IsTable}
use Rattle.sled_codec.specs.Snapshots.{Page}
use Rattle.sled_store.proofs.Histories.Ascending.{none_kept, all_from_in}
use Rattle.sled_core.proofs.Start.FreshLemmas.{no_pages}

-- Two histories with the same messages of each page below a cut have one table there.
module _ (H K : History) (cut : ℕ) (same : (page : ℕ) → of_page H.messages cut page ≡ of_page K.messages cut page) where
  has_too : (page : ℕ) → HasPage H cut page → HasPage K cut page
  has_too page has = record { message = has.message; there = subst (λ (ms : List Message). Contains ms has.message) (same page) has.there; replaces = has.replaces }

  had_too : (page : ℕ) → HasPage K cut page → HasPage H cut page
  had_too page has = record { message = has.message; there = subst (λ (ms : List Message). Contains ms has.message) (sym (same page)) has.there; replaces = has.replaces }

  pub same_table : (pages : List Page) → IsTable pages H cut → IsTable pages K cut
  unfolding table
  same_table pages is = record {
    states = λ page. is.states page ∙ ap (λ (ms : List Message). page_with (page_state ms)) (same page);
    begun = λ page. (λ lt. has_too page ((is.begun page).0 lt), λ has. (is.begun page).1 (had_too page has));
  }

-- below place 0 there is no message, so that the table is empty
pub no_pages_at_first : (H : History) → IsTable [] H 0
unfolding of_page
no_pages_at_first H =
    same_table no_history H 0 (λ page. sym (none_kept (λ m. (m.page == page) && nat_lt m.place 0) H.messages (all_from_in (λ m. ((m.page == page) && nat_lt m.place 0) ≡ false) H.messages (λ m there. and_right (m.page == page) (nat_lt m.place 0) (le-ltb m.place 0 (omega arith)))))) [] (no_pages 0)

-- A message at or above the cut.

-- What lies below a place.

-- a filter that keeps all that a second one keeps
pub filter_twice : {X : Type 0} (p q : X → Bool) → ((x : X) → p x ≡ true → q x ≡ true) → (xs : List X) → filter p (filter q xs) ≡ filter p xs
filter_twice p q weaker [] = refl
filter_twice p q weaker (x ∷ xs) = by_tests (p x) (q x) refl refl (weaker x) (filter_twice p q weaker xs) where
  by_tests : (s t : Bool) → p x ≡ s → q x ≡ t → (s ≡ true → t ≡ true) → filter p (filter q xs) ≡ filter p xs → filter p (cond t (x ∷ filter q xs) (filter q xs)) ≡ cond s (x ∷ filter p xs) (filter p xs)
  by_tests true true passes kept weaker rest = ap (λ (b : Bool). cond b (x ∷ filter p (filter q xs)) (filter p (filter q xs))) passes ∙ ap (λ l. x ∷ l) rest
  by_tests false true passes kept weaker rest = ap (λ (b : Bool). cond b (x ∷ filter p (filter q xs)) (filter p (filter q xs))) passes ∙ rest
  by_tests true false passes kept weaker rest = absurd (true≢false (sym (weaker refl)))
  by_tests false false passes kept weaker rest = rest

pub below_same : (H : History) (bound cut page : ℕ) → cut ≤ bound → of_page (below H bound).messages cut page ≡ of_page H.messages cut page
unfolding of_page below
below_same H bound cut page le =
    filter_twice (λ m. (m.page == page) && nat_lt m.place cut) (λ m. nat_lt m.place bound)
    (λ m passes. let lt = ltb-true m.place cut (and_parts (m.page == page) (nat_lt m.place cut) passes).1 in lt-ltb m.place bound (omega (arith, lt, le))) H.messages

-- What lies below a place at or above the cut has the same table below the cut.
pub table_below_place : (H : History) (bound cut : ℕ) (pages : List Page) → cut ≤ bound → IsTable pages (below H bound) cut ↔ IsTable pages H cut
table_below_place H bound cut pages le = (
  same_table (below H bound) H cut (λ page. below_same H bound cut page le) pages,
  same_table H (below H bound) cut (λ page. sym (below_same H bound cut page le)) pages,
)

-- What lies below the cut has the table of the history.
pub table_below : (H : History) (cut : ℕ) (pages : List Page) → IsTable pages (below H cut) cut ↔ IsTable pages H cut
table_below H cut pages = table_below_place H cut cut pages (omega arith)
