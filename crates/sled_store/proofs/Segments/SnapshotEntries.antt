-- Each entry of a snapshot is of a message of the history that it is the table of, and each of its pages was seen.
use Rattle.std.proofs.Common.{◌≡◌, ◌≢◌, ◌⊎◌, ◌<◌, ◌∙◌, ℕ, suc, pos, Bool, true, false, if◌then◌else◌, List, [], ◌∷◌, length, map, get_or, Option, Some, None, refl, sym, ap, subst, arith, inl, inr}
use Rattle.std.specs.List.{All, Contains}
use Rattle.std.proofs.lemmas.List.{get_or_default}
use Rattle.std.proofs.lemmas.List.Concat.{flat_map-cons}
use Rattle.std.proofs.lemmas.List.Elements.{Contains-append_cases}
use Rattle.sled_codec.specs.declared.serialization.message.LogKind.TheVariants.{Replace}
use Rattle.sled_codec.specs.History.{Message, History, begins_page, is_replace, later_or, last_beginning, entries_from, page_state, of_page, table}
use Rattle.sled_codec.specs.PageTables.{entry_of, page_with, IsTable}
use Rattle.sled_codec.specs.Snapshots.{Entry, Page, Present, Free, Uninitialized}
use Rattle.sled_store.specs.Begin.{entries_in, entries_of}
use Rattle.sled_store.proofs.Segments.Elements.{in_cases, in_nothing}

-- an entry is that of a message, or counts as one of 32 bytes
pub record IsEntryOf (m : Message) (e : Entry) : Type 0 where
  pub place : e.0 ≡ pos m.place
  pub pointer : e.1 ≡ m.pointer
  pub size : (e.2 ≡ m.size) ⊎ (e.2 ≡ 32)

-- The entries of one page.

own_entry : (m : Message) (e : Entry) → entry_of m ≡ e → IsEntryOf m e
own_entry m e same = record { place = ap (λ (d : Entry). d.0) (sym same); pointer = ap (λ (d : Entry). d.1) (sym same); size = inl (ap (λ (d : Entry). d.2) (sym same)) }

-- A page with a message that replaces it was seen.

-- where no last beginning is found, no message begins the page
pub none_begins : (ms : List Message) (r : Message) → last_beginning ms ≡ None → Contains ms r → begins_page r.kind ≡ true → ⊥
none_begins [] r is there begins = in_nothing r there
none_begins (m ∷ ms) r is there begins = by (last_beginning ms) (begins_page m.kind) refl is (none_begins ms r)
  where
    by : (o : Option Message) (t : Bool) → begins_page m.kind ≡ t → later_or o (if t then Some m else None) ≡ None → (o ≡ None → Contains ms r → begins_page r.kind ≡ true → ⊥) → ⊥
    by None true of is rest = let no : Some m ≡ None = is in cc
    by None false of is rest = elim (in_cases m r ms there) [
      | inl same ↦ (let both : true ≡ false = sym begins ∙ ap (λ (x : Message). begins_page x.kind) (sym same) ∙ of in cc)
      | inr later ↦ rest refl later begins
    ]
    by (Some x) t of is rest = let no : Some x ≡ None = is in cc

some_page : (b : Message) (ms : List Message) → page_with (b ∷ ms) ≢ Uninitialized
some_page b ms = by (is_replace b.kind)
  where
    by : (t : Bool) → (if t then Present (entry_of b) (map entry_of ms) else Free (pos b.place) b.pointer) ≢ Uninitialized
    by true = λ is. cc
    by false = λ is. cc

state_seen : (ms : List Message) (r : Message) → Contains ms r → r.kind ≡ Replace → page_with (page_state ms) ≢ Uninitialized
unfolding page_state
state_seen ms r there replaces = by (last_beginning ms) refl
  where
    by : (o : Option Message) → last_beginning ms ≡ o → page_with (entries_from o ms) ≢ Uninitialized
    by None none = absurd (none_begins ms r none there (ap begins_page replaces))
    by (Some b) is = some_page b _

-- All pages.

-- an entry is of a page
in_page : (pages : List Page) (e : Entry) → Contains (entries_of pages) e → (k : ℕ) × (k < length pages) × Contains (entries_in (get_or pages k Uninitialized)) e
in_page [] e there = absurd (in_nothing e there)
in_page (p ∷ ps) e there = elim (Contains-append_cases (entries_in p) (entries_of ps) e (subst (λ (l : List Entry). Contains l e) (flat_map-cons entries_in p ps) there)) [
  | inl first ↦ (0, omega arith, first)
  | inr rest ↦ (let found = in_page ps e rest in let lt = found.1 in (suc found.0, omega (arith, lt), found.2))
]

module _ (pages : List Page) (H : History) (cut : ℕ) (is : IsTable pages H cut) where
  -- Each page was seen.
  pub all_seen : All (λ p. p ≢ Uninitialized) pages
  unfolding table
  all_seen = λ k d lt same.
      let has = (is.begun k).0 lt in
      state_seen (of_page H.messages cut k) has.message has.there has.replaces (sym (is.states k) ∙ get_or_default pages k Uninitialized d lt ∙ same)
