-- Each message of a table is an entry of a snapshot that is this table, so the snapshot uses its slot.
use Rattle.std.proofs.Common.{◌≡◌, ◌⊎◌, ◌∙◌, ◌||◌, ◌==◌, ◌/◌, ℕ, zero, suc, pos, Bool, true, false, if◌then◌else◌, List, [], ◌∷◌, map, get_or, Option, Some, None, refl, sym, ap, subst, inl, inr, eqb-true}
use Rattle.std.specs.List.{Contains, list_any}
use Rattle.std.proofs.Math.Bool.{or-true}
use Rattle.std.proofs.lemmas.Bool.Decides.{eqb_tells}
use Rattle.std.proofs.lemmas.List.Concat.{flat_map-cons}
use Rattle.std.proofs.lemmas.List.Elements.{Contains-append_left, Contains-append_right, Contains-append_cases}
use Rattle.sled_codec.specs.History.{Message, History, is_replace, last_beginning, entries_from, page_state, of_page, table}
use Rattle.sled_codec.specs.PageTables.{entry_of, page_with, IsTable}
use Rattle.sled_codec.specs.Snapshots.{Entry, Page, Present, Free, Uninitialized, SnapshotModel}
use Rattle.sled_store.specs.Begin.{entries_in, entries_of, slot_of, is_active, is_used}
use Rattle.sled_store.proofs.Segments.Elements.{in_first, in_rest, in_cases, in_nothing}
use Rattle.sled_store.proofs.Segments.EntryLemmas.{same_number}
use Rattle.sled_store.proofs.Segments.SnapshotEntries.{IsEntryOf}
pub use Rattle.sled_core.proofs.Start.UsedEntries.{entry_used as message_used}

-- these entries have one with the place and the pointer of a message
pub record HasEntry (es : List Entry) (m : Message) : Type 0 where
  pub entry : Entry
  pub there : Contains es entry
  pub place : entry.0 ≡ pos m.place
  pub pointer : entry.1 ≡ m.pointer

-- entries of messages
mapped : (ms : List Message) (m : Message) → Contains ms m → HasEntry (map entry_of ms) m
mapped [] m there = absurd (in_nothing m there)
mapped (x ∷ ms) m there = elim (in_cases x m ms there) [
  | inl same ↦ record { entry = entry_of x; there = in_first (entry_of x) (map entry_of ms); place = ap (λ (y : Message). pos y.place) same; pointer = ap (λ (y : Message). y.pointer) same }
  | inr rest ↦ (let e = mapped ms m rest in record { entry = e.entry; there = in_rest (entry_of x) e.entry (map entry_of ms) e.there; place = e.place; pointer = e.pointer })
]

-- those of a page
of_base : (b : Message) (links : List Message) (t : Bool) (m : Message) → Contains (b ∷ (if t then links else [])) m
    → HasEntry (entries_in (if t then Present (entry_of b) (map entry_of (if t then links else [])) else Free (pos b.place) b.pointer)) m
of_base b links true m there = mapped (b ∷ links) m there
of_base b links false m there = elim (in_cases b m [] there) [
  | inl same ↦ record { entry = (pos b.place, b.pointer, 32); there = in_first (pos b.place, b.pointer, 32) []; place = ap (λ (y : Message). pos y.place) same; pointer = ap (λ (y : Message). y.pointer) same }
  | inr none ↦ absurd (in_nothing m none)
]

of_state : (ms : List Message) (m : Message) → Contains (page_state ms) m → HasEntry (entries_in (page_with (page_state ms))) m
unfolding page_state
of_state ms m there = by (last_beginning ms) there
  where
    by : (o : Option Message) → Contains (entries_from o ms) m → HasEntry (entries_in (page_with (entries_from o ms))) m
    by None there = absurd (in_nothing m there)
    by (Some b) there = of_base b _ (is_replace b.kind) m there

-- an entry of one page is one of all
in_pages : (pages : List Page) (k : ℕ) (e : Entry) → Contains (entries_in (get_or pages k Uninitialized)) e → Contains (entries_of pages) e
in_pages [] k e there = absurd (in_nothing e there)
in_pages (p ∷ ps) zero e there = subst (λ (l : List Entry). Contains l e) (sym (flat_map-cons entries_in p ps)) (Contains-append_left (entries_in p) (entries_of ps) e there)
in_pages (p ∷ ps) (suc k) e there = subst (λ (l : List Entry). Contains l e) (sym (flat_map-cons entries_in p ps)) (Contains-append_right (entries_in p) (entries_of ps) e (in_pages ps k e there))

-- A message of a table is an entry of the pages that are this table.
pub table_entry : (pages : List Page) (H : History) (cut : ℕ) → IsTable pages H cut → (page : ℕ) (m : Message) → Contains (table H cut page) m → HasEntry (entries_of pages) m
unfolding table
table_entry pages H cut is page m there =
    let e = of_state (of_page H.messages cut page) m there in
    let here = subst (λ (p : Page). Contains (entries_in p) e.entry) (sym (is.states page)) e.there in
    record { entry = e.entry; there = in_pages pages page e.entry here; place = e.place; pointer = e.pointer }

-- The other way round: each entry is of a message of the table.

from_map : (ms : List Message) (e : Entry) → Contains (map entry_of ms) e → (m : Message) × Contains ms m × IsEntryOf m e
from_map [] e there = absurd (in_nothing e there)
from_map (x ∷ ms) e there = elim (in_cases (entry_of x) e (map entry_of ms) there) [
  | inl same ↦ (x, in_first x ms, record { place = ap (λ (d : Entry). d.0) (sym same); pointer = ap (λ (d : Entry). d.1) (sym same); size = inl (ap (λ (d : Entry). d.2) (sym same)) })
  | inr rest ↦ (let found = from_map ms e rest in (found.0, in_rest x found.0 ms found.1, found.2))
]

from_state : (ms : List Message) (e : Entry) → Contains (entries_in (page_with ms)) e → (m : Message) × Contains ms m × IsEntryOf m e
from_state [] e there = absurd (in_nothing e there)
from_state (b ∷ ms) e there = by (is_replace b.kind) there
  where
    by : (t : Bool) → Contains (entries_in (if t then Present (entry_of b) (map entry_of ms) else Free (pos b.place) b.pointer)) e → (m : Message) × Contains (b ∷ ms) m × IsEntryOf m e
    by true there = from_map (b ∷ ms) e there
    by false there = elim (in_cases (pos b.place, b.pointer, 32) e [] there) [
      | inl same ↦ (b, in_first b ms, record { place = ap (λ (d : Entry). d.0) (sym same); pointer = ap (λ (d : Entry). d.1) (sym same); size = inr (ap (λ (d : Entry). d.2) (sym same)) })
      | inr none ↦ absurd (in_nothing e none)
    ]

from_pages : (pages : List Page) (e : Entry) → Contains (entries_of pages) e → (k : ℕ) × Contains (entries_in (get_or pages k Uninitialized)) e
from_pages [] e there = absurd (in_nothing e there)
from_pages (p ∷ ps) e there = elim (Contains-append_cases (entries_in p) (entries_of ps) e (subst (λ (l : List Entry). Contains l e) (flat_map-cons entries_in p ps) there)) [
  | inl first ↦ (0, first)
  | inr rest ↦ (let found = from_pages ps e rest in (suc found.0, found.1))
]

pub entry_message : (pages : List Page) (H : History) (cut : ℕ) → IsTable pages H cut → (e : Entry) → Contains (entries_of pages) e → (page : ℕ) × (m : Message) × Contains (table H cut page) m × IsEntryOf m e
entry_message pages H cut is e there =
    let at = from_pages pages e there in
    let found = from_state (table H cut at.0) e (subst (λ (p : Page). Contains (entries_in p) e) (is.states at.0) at.1) in
    (at.0, found.0, found.1, found.2)

-- an element that passes is found
any_of : (test : Entry → Bool) (es : List Entry) (e : Entry) → Contains es e → test e ≡ true → list_any test es ≡ true
any_of test [] e there is = absurd (in_nothing e there)
any_of test (x ∷ es) e there is = elim (in_cases x e es there) [
  | inl same ↦ ap (λ (b : Bool). b || list_any test es) (ap test same ∙ is)
  | inr rest ↦ ap (λ (b : Bool). test x || b) (any_of test es e rest is) ∙ or-true (test x)
]

-- the slot of an entry is used
pub entry_used : (size : ℕ) (s : SnapshotModel) (e : Entry) → Contains (entries_of s.pages) e → is_used size s (slot_of size e) ≡ true
entry_used size s e there =
    ap (λ (b : Bool). is_active size s.active (slot_of size e) || b) (any_of (λ d. slot_of size d == slot_of size e) (entries_of s.pages) e there (same_number (slot_of size e))) ∙ or-true (is_active size s.active (slot_of size e))

-- where an element passes, there is one
pub from_any : {X : Type 0} (test : X → Bool) (xs : List X) → list_any test xs ≡ true → (x : X) × Contains xs x × (test x ≡ true)
from_any test [] is = absurd (cc)
from_any test (x ∷ xs) is = by (test x) refl is (from_any test xs)
  where
    by : (b : Bool) → test x ≡ b → (b || list_any test xs) ≡ true → (list_any test xs ≡ true → (y : _) × Contains xs y × (test y ≡ true)) → (y : _) × Contains (x ∷ xs) y × (test y ≡ true)
    by true passes is rest = (x, in_first x xs, passes)
    by false fails is rest = let found = rest is in (found.0, in_rest x found.0 xs found.1, found.2)

-- Where no segment is active, a slot that is used has an entry.
used_entry : (size : ℕ) (s : SnapshotModel) (k : ℕ) → s.active ≡ None → is_used size s k ≡ true → (e : Entry) × Contains (entries_of s.pages) e × (slot_of size e ≡ k)
used_entry size s k none used =
    let listed : list_any (λ e. slot_of size e == k) (entries_of s.pages) ≡ true = subst (λ (o : Option ℕ). (is_active size o k || list_any (λ e. slot_of size e == k) (entries_of s.pages)) ≡ true) none used in
    let found = from_any (λ e. slot_of size e == k) (entries_of s.pages) listed in
    (found.0, found.1, eqb-true (slot_of size found.0) k found.2)

-- a slot that is used is the active one, or has an entry
pub used_cases : (size : ℕ) (s : SnapshotModel) (k : ℕ) → is_used size s k ≡ true → ((a : ℕ) × (s.active ≡ Some a) × (a / size ≡ k)) ⊎ ((e : Entry) × Contains (entries_of s.pages) e × (slot_of size e ≡ k))
used_cases size s k used = by s.active refl used where
  by : (o : Option ℕ) → s.active ≡ o → (is_active size o k || list_any (λ e. slot_of size e == k) (entries_of s.pages)) ≡ true
      → ((a : ℕ) × (s.active ≡ Some a) × (a / size ≡ k)) ⊎ ((e : Entry) × Contains (entries_of s.pages) e × (slot_of size e ≡ k))
  by None none used_k = inr (used_entry size s k none used)
  by (Some a) is used_k = elim (eqb_tells (a / size) k) [
    | inl here ↦ inl (a, is, here.1)
    | inr other ↦ inr (let found = from_any (λ e. slot_of size e == k) (entries_of s.pages) (ap (λ (b : Bool). b || list_any (λ e. slot_of size e == k) (entries_of s.pages)) (sym other.0) ∙ used_k) in (found.0, found.1, eqb-true (slot_of size found.0) k found.2))
  ]

-- an active slot is used
pub active_used : (size : ℕ) (s : SnapshotModel) (a : ℕ) → s.active ≡ Some a → is_used size s (a / size) ≡ true
active_used size s a is =
    let here : is_active size s.active (a / size) ≡ true = ap (λ (o : Option ℕ). is_active size o (a / size)) is ∙ same_number (a / size) in
    ap (λ (b : Bool). b || list_any (λ e. slot_of size e == a / size) (entries_of s.pages)) here
