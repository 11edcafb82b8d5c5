-- What the table of a history that a session makes says of a page, and the page that code has of it.
use Rattle.std.proofs.Common.{⊎_elim, ◌≡◌, ◌∙◌, ◌⊎◌, ◌<◌, ◌≤◌, ◌+◌, ℕ, ℤ, pos, Bool, true, false, ◌&&◌, if◌then◌else◌, nat_lt, List, [], ◌∷◌, length, map, get_or, Option, Some, None, refl, sym, ap, inl, inr, arith}
use Rattle.std.specs.List.{Contains, filter}
use Rattle.std.proofs.lemmas.Bool.{true≢false, cases_lt}
use Rattle.std.proofs.lemmas.List.{length-map, get_or_past}
use Rattle.sled_codec.specs.declared.result.DiskPtr.{DiskPtr}
use Rattle.sled_codec.specs.declared.serialization.message.LogKind.{LogKind}
use Rattle.sled_codec.specs.declared.serialization.message.LogKind.TheVariants as does
use Rattle.sled_codec.specs.History.{Message, History, begins_page, is_replace, is_link, last_beginning, entries_from, page_state, of_page, table, HasPage}
use Rattle.sled_codec.specs.PageTables.{entry_of, page_with, IsTable}
use Rattle.sled_codec.specs.Snapshots.{Entry, Page, Present, Free, Uninitialized}
use Rattle.sled_store.proofs.Histories.Ascending.{Ascends, apart_ascends}
use Rattle.sled_store.proofs.Histories.PageStates.{none_begins, begins_false, IsLast, last_found}
use Rattle.sled_store.proofs.Histories.TableParts.{page_ascends}
use Rattle.sled_log.specs.Made.{IsMade}
use Rattle.sled_log.specs.RunStates.{is_present, page_now, top}

-- Messages and the page with them.

-- a page that is present
pub record IsPresent (es : List Message) (base : Entry) (frags : List Entry) : Type 0 where
  pub present : is_present es ≡ true
  pub count : length es ≡ length frags + 1
  pub entries : base ∷ frags ≡ map entry_of es

pub present_is : (es : List Message) (base : Entry) (frags : List Entry) → page_with es ≡ Present base frags → IsPresent es base frags
present_is [] base frags is = cc
present_is (b ∷ es) base frags is = by (is_replace b.kind) refl is where
  by : (t : Bool) → is_replace b.kind ≡ t → (if t then Present (entry_of b) (map entry_of es) else Free (pos b.place) b.pointer) ≡ Present base frags → IsPresent (b ∷ es) base frags
  by true replaces same =
      let first : entry_of b ≡ base = cc in
      let rest : map entry_of es ≡ frags = cc in
      record {
        present = replaces;
        count = omega (arith, length-map es entry_of, ap (λ (l : List Entry). length l) rest);
        entries = λ i. sym first i ∷ sym rest i;
      }
  by false replaces same = cc

-- one that was given back, or not begun, is not present
pub free_absent : (es : List Message) (place : ℤ) (pointer : DiskPtr) → page_with es ≡ Free place pointer → is_present es ≡ false
free_absent [] place pointer is = cc
free_absent (b ∷ es) place pointer is = by (is_replace b.kind) is where
  by : (t : Bool) → (if t then Present (entry_of b) (map entry_of es) else Free (pos b.place) b.pointer) ≡ Free place pointer → t ≡ false
  by true same = cc
  by false same = refl

pub nothing_absent : (es : List Message) → page_with es ≡ Uninitialized → is_present es ≡ false
nothing_absent [] is = refl
nothing_absent (b ∷ es) is = by (is_replace b.kind) is where
  by : (t : Bool) → (if t then Present (entry_of b) (map entry_of es) else Free (pos b.place) b.pointer) ≡ Uninitialized → t ≡ false
  by true same = cc
  by false same = refl

-- A page that is begun.

-- it is present, with a Replace and the entries behind it, or was given back by a Free
pub record IsReplaced (es : List Message) : Type 0 where
  pub base : Message
  pub rest : List Message
  pub are : es ≡ base ∷ rest
  pub replaces : base.kind ≡ does.Replace

pub record IsFree (es : List Message) : Type 0 where
  pub message : Message
  pub are : es ≡ message ∷ []
  pub frees : message.kind ≡ does.Free

kind_begins : (k : LogKind) → begins_page k ≡ true → (k ≡ does.Replace) ⊎ (k ≡ does.Free)
kind_begins does.Replace begins = inl refl
kind_begins does.Free begins = inr refl
kind_begins does.Link begins = cc
kind_begins does.Skip begins = cc
kind_begins does.Corrupted begins = cc

-- the messages of a page, where one of them begins it
state_begun : (ms : List Message) (x : Message) → Ascends ms → Contains ms x → begins_page x.kind ≡ true → IsReplaced (page_state ms) ⊎ IsFree (page_state ms)
unfolding page_state
state_begun ms x order there begins = by_last (last_beginning ms) (λ none. begins_false x ms (none_begins ms none) there begins) (λ b. last_found ms b order) where
  by_last : (o : Option Message) → (o ≡ None → ⊥) → ((b : Message) → o ≡ Some b → IsLast ms b) → IsReplaced (entries_from o ms) ⊎ IsFree (entries_from o ms)
  by_last None none found = absurd (none refl)
  by_last (Some b) none found = ⊎_elim
      (λ is. inl (record { base = b; rest = if is_replace b.kind then filter (λ m. is_link m.kind && nat_lt b.place m.place) ms else []; are = refl; replaces = is }))
      (λ is. inr (record {
        message = b;
        are = ap (λ (k : LogKind). b ∷ (if is_replace k then filter (λ m. is_link m.kind && nat_lt b.place m.place) ms else [])) is;
        frees = is;
      })) (kind_begins b.kind (found b refl).begins)

-- Where a page is begun, it is one or the other.
pub page_begun : (H : History) (page : ℕ) → IsMade H → HasPage H top page → IsReplaced (page_now H page) ⊎ IsFree (page_now H page)
unfolding table
page_begun H page made has =
    state_begun (of_page H.messages top page) has.message (page_ascends H.messages top page (apart_ascends H.messages made.orderly.formed.apart)) has.there (ap begins_page has.replaces)

-- The pages of the table.

-- each is what the history says of it
pub page_is : (H : History) (pages : List Page) → IsTable pages H top → (page : ℕ) → get_or pages page Uninitialized ≡ page_with (page_now H page)
page_is H pages is page = is.states page

-- a page that is there is begun
pub within_begun : (H : History) (pages : List Page) (page : ℕ) → IsMade H → IsTable pages H top → page < length pages → IsReplaced (page_now H page) ⊎ IsFree (page_now H page)
within_begun H pages page made is lt = page_begun H page made ((is.begun page).0 lt)

-- a page that is present
pub page_present : (H : History) (pages : List Page) (page : ℕ) (base : Entry) (frags : List Entry) → IsTable pages H top → get_or pages page Uninitialized ≡ Present base frags
    → IsPresent (page_now H page) base frags
page_present H pages page base frags is has = present_is (page_now H page) base frags (sym (is.states page) ∙ has)

-- a page that was given back
pub page_free : (H : History) (pages : List Page) (page : ℕ) (place : ℤ) (pointer : DiskPtr) → IsMade H → IsTable pages H top → get_or pages page Uninitialized ≡ Free place pointer
    → IsFree (page_now H page)
page_free H pages page place pointer made is has = ⊎_elim
    (λ r. let absent : is_present (page_now H page) ≡ false = free_absent (page_now H page) place pointer (sym (is.states page) ∙ has) in
    let present : is_present (page_now H page) ≡ true = ap is_present r.are ∙ ap is_replace r.replaces in
    absurd (true≢false (sym present ∙ absent)))
    (λ free. free) (within_begun H pages page made is within) where
      within : page < length pages
      within = ⊎_elim (λ lt. lt) beyond (cases_lt page (length pages)) where
        beyond : length pages ≤ page → page < length pages
        beyond le = let none : Free place pointer ≡ Uninitialized = sym has ∙ get_or_past pages page Uninitialized le in cc

-- and a page that is there is not one without an entry
pub page_not_nothing : (H : History) (pages : List Page) (page : ℕ) → IsMade H → IsTable pages H top → page < length pages → get_or pages page Uninitialized ≡ Uninitialized → ⊥
page_not_nothing H pages page made is lt has = ⊎_elim replaced freed (within_begun H pages page made is lt) where
  none : page_with (page_now H page) ≡ Uninitialized
  none = sym (is.states page) ∙ has

  replaced : IsReplaced (page_now H page) → ⊥
  replaced r =
      let present : is_present (page_now H page) ≡ true = ap is_present r.are ∙ ap is_replace r.replaces in
      true≢false (sym present ∙ nothing_absent (page_now H page) none)

  freed : IsFree (page_now H page) → ⊥
  freed f =
      let same : (if is_replace f.message.kind then Present (entry_of f.message) [] else Free (pos f.message.place) f.message.pointer) ≡ Uninitialized = sym (ap page_with f.are) ∙ none in
      let plain : Free (pos f.message.place) f.message.pointer ≡ Uninitialized =
      ap (λ (k : LogKind). if is_replace k then Present (entry_of f.message) [] else Free (pos f.message.place) f.message.pointer) (sym f.frees) ∙ same in
      cc
