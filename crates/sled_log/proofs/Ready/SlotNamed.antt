-- A table uses the slot of each of its entries.
use Rattle.std.proofs.Common.{⊎_elim, ◌≡◌, ◌∙◌, ◌||◌, ◌==◌, ◌/◌, ◌&&◌, ℕ, zero, suc, pos, Bool, true, false, nat_lt, if◌then◌else◌, List, [], ◌∷◌, map, get_or, Option, Some, None, ap, eq-eqb, refl}
use Rattle.std.specs.List.{Contains, list_any, filter}
use Rattle.std.proofs.Math.Bool.{or-true}
use Rattle.std.proofs.lemmas.List.Folds.{list_any-append}
use Rattle.sled_codec.specs.Pointers.{lid_of}
use Rattle.sled_codec.specs.History.{Message, History, table, of_page, page_state, last_beginning, entries_from, is_replace, is_link}
use Rattle.sled_codec.specs.PageTables.{entry_of, page_with, IsTable}
use Rattle.sled_codec.specs.Snapshots.{Entry, Page, Present, Free, Uninitialized, SnapshotModel}
use Rattle.sled_store.specs.Begin.{entries_in, entries_of, slot_of, is_active, is_used}
use Rattle.sled_store.proofs.Segments.Elements.{in_cases, in_nothing}

module _ (test : Entry → Bool) where
  -- an entry that passes is found in the page that has it
  pub any_page : (pages : List Page) (p : ℕ) → list_any test (entries_in (get_or pages p Uninitialized)) ≡ true → list_any test (entries_of pages) ≡ true
  any_page [] p is = cc
  any_page (page ∷ pages) zero is = list_any-append test (entries_in page) (entries_of pages) ∙ ap (λ (b : Bool). b || list_any test (entries_of pages)) is
  any_page (page ∷ pages) (suc p) is =
      list_any-append test (entries_in page) (entries_of pages) ∙ ap (λ (b : Bool). list_any test (entries_in page) || b) (any_page pages p is) ∙ or-true (list_any test (entries_in page))

module _ (size : ℕ) (m : Message) where
  -- an entry lies in the slot of a message
  abbrev in_slot : Entry → Bool
  in_slot e = slot_of size e == lid_of m.pointer / size

  own : in_slot (entry_of m) ≡ true
  own = eq-eqb (lid_of m.pointer / size) (lid_of m.pointer / size) refl

  among : (ms : List Message) → Contains ms m → list_any in_slot (map entry_of ms) ≡ true
  among [] there = absurd (in_nothing m there)
  among (x ∷ ms) there = ⊎_elim
      (λ same. ap (λ (b : Bool). b || list_any in_slot (map entry_of ms)) (ap (λ (y : Message). in_slot (entry_of y)) same ∙ own))
      (λ later. ap (λ (b : Bool). in_slot (entry_of x) || b) (among ms later) ∙ or-true (in_slot (entry_of x)))
      (in_cases x m ms there)

  of_state : (base : Message) (links : List Message) (t : Bool) → Contains (base ∷ (if t then links else [])) m → list_any in_slot (entries_in (if t then Present (entry_of base) (map entry_of (if t then links else [])) else Free (pos base.place) base.pointer)) ≡ true
  of_state base links true there = among (base ∷ links) there
  of_state base links false there = ⊎_elim
      (λ same. ap (λ (b : Bool). b || false) (ap (λ (y : Message). in_slot (entry_of y)) same ∙ own))
      (λ none. absurd (in_nothing m none))
      (in_cases base m [] there)

  of_entries : (o : Option Message) (ps : List Message) → Contains (entries_from o ps) m → list_any in_slot (entries_in (page_with (entries_from o ps))) ≡ true
  of_entries None ps there = absurd (in_nothing m there)
  of_entries (Some base) ps there = of_state base (filter (λ x. is_link x.kind && nat_lt base.place x.place) ps) (is_replace base.kind) there

  in_page : (H : History) (cut page : ℕ) → Contains (table H cut page) m → list_any in_slot (entries_in (page_with (table H cut page))) ≡ true
  unfolding table page_state
  in_page H cut page there = of_entries (last_beginning (of_page H.messages cut page)) (of_page H.messages cut page) there

-- So does a snapshot with these pages.
pub uses_entry : (size : ℕ) (s : SnapshotModel) (H : History) (cut page : ℕ) (m : Message) → IsTable s.pages H cut → Contains (table H cut page) m → is_used size s (lid_of m.pointer / size) ≡ true
uses_entry size s H cut page m is there =
    let k : ℕ = lid_of m.pointer / size in
    let found = any_page (in_slot size m) s.pages page (ap (λ (p : Page). list_any (in_slot size m) (entries_in p)) (is.states page) ∙ in_page size m H cut page there) in
    ap (λ (b : Bool). is_active size s.active k || b) found ∙ or-true (is_active size s.active k)
