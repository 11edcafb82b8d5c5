-- The table of a history uses the slots that its entries name.
use Rattle.std.proofs.Common.{◌≡◌, ◌∙◌, ◌||◌, ◌&&◌, ◌==◌, ◌/◌, ℕ, zero, suc, pos, Bool, true, false, nat_lt, if◌then◌else◌, List, [], ◌∷◌, map, get_or, Option, Some, None, refl, ap, inl, inr}
use Rattle.std.specs.List.{Contains, list_any, filter}
use Rattle.std.proofs.Math.Bool.{or-true}
use Rattle.std.proofs.lemmas.Bool.Decides.{eqb_tells}
use Rattle.std.proofs.lemmas.List.Folds.{list_any-append}
use Rattle.sled_codec.specs.Pointers.{lid_of}
use Rattle.sled_codec.specs.History.{Message, History, table, of_page, page_state, last_beginning, entries_from, is_replace, is_link}
use Rattle.sled_codec.specs.PageTables.{entry_of, page_with, IsTable}
use Rattle.sled_codec.specs.Snapshots.{Entry, Page, SnapshotModel, Present, Free, Uninitialized}
use Rattle.sled_store.specs.Begin.{entries_in, entries_of, slot_of, is_active, is_used}
use Rattle.sled_store.proofs.Segments.Elements.{in_cases, in_nothing}

-- an entry that passes is found in the page that has it
pub any_page : (test : Entry → Bool) (pages : List Page) (p : ℕ) → list_any test (entries_in (get_or pages p Uninitialized)) ≡ true → list_any test (entries_of pages) ≡ true
any_page test [] p is = cc
any_page test (page ∷ pages) zero is = list_any-append test (entries_in page) (entries_of pages) ∙ ap (λ (b : Bool). b || list_any test (entries_of pages)) is
any_page test (page ∷ pages) (suc p) is =
    list_any-append test (entries_in page) (entries_of pages) ∙ ap (λ (b : Bool). list_any test (entries_in page) || b) (any_page test pages p is) ∙ or-true (list_any test (entries_in page))

module _ (size k : ℕ) where
  -- the entry of a message lies in this slot
  abbrev in_slot : Entry → Bool
  in_slot e = slot_of size e == k

  of_list : (m : Message) → (lid_of m.pointer / size == k) ≡ true → (ms : List Message) → Contains ms m → list_any in_slot (map entry_of ms) ≡ true
  of_list m lies [] there = absurd (in_nothing m there)
  of_list m lies (x ∷ ms) there = elim (in_cases x m ms there) [
    | inl same ↦ ap (λ (b : Bool). b || list_any in_slot (map entry_of ms)) (ap (λ (y : Message). lid_of y.pointer / size == k) same ∙ lies)
    | inr rest ↦ ap (λ (b : Bool). (lid_of x.pointer / size == k) || b) (of_list m lies ms rest) ∙ or-true (lid_of x.pointer / size == k)
  ]

  -- an entry of a page's state is one of the page
  of_state : (m : Message) → (lid_of m.pointer / size == k) ≡ true → (o : Option Message) (ms : List Message) → Contains (entries_from o ms) m → list_any in_slot (entries_in (page_with (entries_from o ms))) ≡ true
  of_state m lies None ms there = absurd (in_nothing m there)
  of_state m lies (Some base) ms there = by (is_replace base.kind) there where
    links : List Message
    links = filter (λ x. is_link x.kind && nat_lt base.place x.place) ms

    by : (b : Bool) → Contains (base ∷ (if b then links else [])) m → list_any in_slot (entries_in (if b then Present (entry_of base) (map entry_of (if b then links else [])) else Free (pos base.place) base.pointer)) ≡ true
    by true at = of_list m lies (base ∷ links) at
    by false at = elim (in_cases base m [] at) [
      | inl same ↦ ap (λ (b : Bool). b || false) (ap (λ (y : Message). lid_of y.pointer / size == k) same ∙ lies)
      | inr rest ↦ absurd (in_nothing m rest)
    ]

-- A page of which an entry's pointer names a slot has an entry there, where the pages are the table,
pub page_used : (size : ℕ) (pages : List Page) (H : History) (cut : ℕ) → IsTable pages H cut → (page : ℕ) (m : Message) → Contains (table H cut page) m
    → list_any (λ e. slot_of size e == lid_of m.pointer / size) (entries_in (get_or pages page Uninitialized)) ≡ true
unfolding table page_state
page_used size pages H cut is page m there =
    let k : ℕ = lid_of m.pointer / size in
    let lies : (lid_of m.pointer / size == k) ≡ true = elim (eqb_tells k k) [ inl same ↦ same.0 | inr other ↦ absurd (other.1 refl) ] in
    let has = of_state size k m lies (last_beginning (of_page H.messages cut page)) (of_page H.messages cut page) there in
    ap (λ (p : Page). list_any (λ e. slot_of size e == k) (entries_in p)) (is.states page) ∙ has

-- so the snapshot uses the slot.
pub entry_used : (size : ℕ) (s : SnapshotModel) (H : History) (cut : ℕ) → IsTable s.pages H cut → (page : ℕ) (m : Message) → Contains (table H cut page) m → is_used size s (lid_of m.pointer / size) ≡ true
entry_used size s H cut is page m there =
    let k : ℕ = lid_of m.pointer / size in
    let found : list_any (λ e. slot_of size e == k) (entries_of s.pages) ≡ true = any_page (λ e. slot_of size e == k) s.pages page (page_used size s.pages H cut is page m there) in
    ap (λ (b : Bool). is_active size s.active k || b) found ∙ or-true (is_active size s.active k)
