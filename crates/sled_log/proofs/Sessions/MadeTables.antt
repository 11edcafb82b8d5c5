-- The table of a history that a session makes: what a message that is completed or a recovery makes of it, and what it says of a page.
use Rattle.std.proofs.Common.{⊎_elim, ◌≡◌, ◌∙◌, ◌⊎◌, ◌<◌, ◌≤◌, ◌-◌, ℕ, pos, Bool, true, false, ◌==◌, if◌then◌else◌, List, [], ◌∷◌, ◌++◌, length, map, get_or, set, refl, sym, ap, subst, inl, inr, arith, eqb-true, length-set}
use Rattle.std.specs.List.{Contains}
use Rattle.std.proofs.lemmas.Bool.{eqb-false, cases_lt, cases_eq}
use Rattle.std.proofs.lemmas.List.{map-append, get_or_push, get_or_append_left, get_or_past, get_or-set_same, get_or-set_other, set_past, length_push}
use Rattle.std.proofs.lemmas.List.Elements.{All-contains}
use Rattle.sled_codec.specs.declared.serialization.message.LogKind.{LogKind}
use Rattle.sled_codec.specs.declared.serialization.message.LogKind.TheVariants as does
use Rattle.sled_codec.specs.History.{Message, History, is_replace, page_state, of_page, table, HasPage, below, Completed, Step}
use Rattle.sled_codec.specs.PageTables.{entry_of, page_with, IsTable}
use Rattle.sled_codec.specs.Snapshots.{Entry, Page, Present, Free, Uninitialized}
use Rattle.sled_store.proofs.Histories.TableParts.{from_page, has_page}
use Rattle.sled_log.specs.Endings.{applied_to, put_at, put_on}
use Rattle.sled_log.specs.Made.{HasReplaceBelow, IsMade, MayJoin}
use Rattle.sled_log.specs.RunStates.{page_now, top}
use Rattle.sled_log.proofs.Sessions.MadeHistories.{below_whole, came, joined, new_there, page_joined, page_others, stays}

-- One entry more.

-- the page that is put there
put_own : (pages : List Page) (page : ℕ) (s : Page) → page ≤ length pages → get_or (put_at pages page s) page Uninitialized ≡ s
put_own pages page s le = by (page == length pages) refl where
  by : (t : Bool) → (page == length pages) ≡ t → get_or (if t then pages ++ s ∷ [] else set pages page s) page Uninitialized ≡ s
  by true is = get_or_push pages s Uninitialized page (sym (eqb-true page (length pages) is))
  by false is = let ne = eqb-false page (length pages) is in get_or-set_same pages page s Uninitialized (omega (arith, le, ne))

-- and the others
put_other : (pages : List Page) (page p : ℕ) (s : Page) → (p ≡ page → ⊥) → page ≤ length pages → get_or (put_at pages page s) p Uninitialized ≡ get_or pages p Uninitialized
put_other pages page p s ne le = by (page == length pages) refl where
  by : (t : Bool) → (page == length pages) ≡ t → get_or (if t then pages ++ s ∷ [] else set pages page s) p Uninitialized ≡ get_or pages p Uninitialized
  by true is = let at = eqb-true page (length pages) is in ⊎_elim
      (λ lt. get_or_append_left pages (s ∷ []) Uninitialized p lt)
      (λ ge. get_or_past (pages ++ s ∷ []) p Uninitialized (omega (arith, ge, ne, at, length_push pages s)) ∙ sym (get_or_past pages p Uninitialized ge)) (cases_lt p (length pages))
  by false is = get_or-set_other pages page p s Uninitialized ne

put_long : (pages : List Page) (page : ℕ) (s : Page) → length pages ≤ length (put_at pages page s)
put_long pages page s = by (page == length pages) where
  by : (t : Bool) → length pages ≤ length (if t then pages ++ s ∷ [] else set pages page s)
  by true = omega (arith, length_push pages s)
  by false = omega (arith, length-set pages page s)

put_there : (pages : List Page) (page : ℕ) (s : Page) → page ≤ length pages → page < length (put_at pages page s)
put_there pages page s le = by (page == length pages) refl where
  by : (t : Bool) → (page == length pages) ≡ t → page < length (if t then pages ++ s ∷ [] else set pages page s)
  by true is = omega (arith, le, length_push pages s)
  by false is = let ne = eqb-false page (length pages) is in omega (arith, le, ne, length-set pages page s)

put_which : (pages : List Page) (page p : ℕ) (s : Page) → p < length (put_at pages page s) → (p < length pages) ⊎ (p ≡ page)
put_which pages page p s lt = by (page == length pages) refl lt where
  by : (t : Bool) → (page == length pages) ≡ t → p < length (if t then pages ++ s ∷ [] else set pages page s) → (p < length pages) ⊎ (p ≡ page)
  by true is low = let at = eqb-true page (length pages) is in ⊎_elim inl (λ ge. inr (omega (arith, ge, at, low, length_push pages s))) (cases_lt p (length pages))
  by false is low = inl (omega (arith, low, length-set pages page s))

-- what a page is with a Link on it
put_with : (m : Message) (es : List Message) → put_on (entry_of m) (page_with es) ≡ page_with (joined does.Link m es)
put_with m [] = refl
put_with m (b ∷ es) = by (is_replace b.kind) refl where
  by : (t : Bool) → is_replace b.kind ≡ t → put_on (entry_of m) (if t then Present (entry_of b) (map entry_of es) else Free (pos b.place) b.pointer) ≡ page_with (if t then b ∷ (es ++ m ∷ []) else b ∷ es)
  by true is =
      ap (Present (entry_of b)) (sym (map-append entry_of es (m ∷ [])))
      ∙ ap (λ (t : Bool). if t then Present (entry_of b) (map entry_of (es ++ m ∷ [])) else Free (pos b.place) b.pointer) (sym is)
  by false is = ap (λ (t : Bool). if t then Present (entry_of b) (map entry_of es) else Free (pos b.place) b.pointer) (sym is)

link_own : (pages : List Page) (page : ℕ) (e : Entry) → get_or (set pages page (put_on e (get_or pages page Uninitialized))) page Uninitialized ≡ put_on e (get_or pages page Uninitialized)
link_own pages page e = ⊎_elim (λ lt. get_or-set_same pages page (put_on e (get_or pages page Uninitialized)) Uninitialized lt) beyond (cases_lt page (length pages)) where
  beyond : length pages ≤ page → get_or (set pages page (put_on e (get_or pages page Uninitialized))) page Uninitialized ≡ put_on e (get_or pages page Uninitialized)
  beyond le =
      ap (λ (l : List Page). get_or l page Uninitialized) (set_past pages page (put_on e (get_or pages page Uninitialized)) le)
      ∙ get_or_past pages page Uninitialized le ∙ ap (put_on e) (sym (get_or_past pages page Uninitialized le))

-- an entry of a message comes to its page
apply_own : (k : LogKind) (m : Message) (pages : List Page) (es : List Message) → m.kind ≡ k → m.page ≤ length pages → get_or pages m.page Uninitialized ≡ page_with es
    → get_or (applied_to pages k m.page (entry_of m)) m.page Uninitialized ≡ page_with (joined k m es)
apply_own does.Replace m pages es is le has =
    put_own pages m.page (Present (entry_of m) []) le ∙ ap (λ (k : LogKind). if is_replace k then Present (entry_of m) [] else Free (pos m.place) m.pointer) (sym is)
apply_own does.Free m pages es is le has =
    put_own pages m.page (Free (pos m.place) m.pointer) le ∙ ap (λ (k : LogKind). if is_replace k then Present (entry_of m) [] else Free (pos m.place) m.pointer) (sym is)
apply_own does.Link m pages es is le has = link_own pages m.page (entry_of m) ∙ ap (put_on (entry_of m)) has ∙ put_with m es
apply_own does.Skip m pages es is le has = has
apply_own does.Corrupted m pages es is le has = has

-- and to no other one
apply_other : (k : LogKind) (pages : List Page) (page p : ℕ) (e : Entry) → (p ≡ page → ⊥) → page ≤ length pages → get_or (applied_to pages k page e) p Uninitialized ≡ get_or pages p Uninitialized
apply_other does.Replace pages page p e ne le = put_other pages page p (Present e []) ne le
apply_other does.Free pages page p e ne le = put_other pages page p (Free e.0 e.1) ne le
apply_other does.Link pages page p e ne le = get_or-set_other pages page p (put_on e (get_or pages page Uninitialized)) Uninitialized ne
apply_other does.Skip pages page p e ne le = refl
apply_other does.Corrupted pages page p e ne le = refl

apply_long : (k : LogKind) (pages : List Page) (page : ℕ) (e : Entry) → length pages ≤ length (applied_to pages k page e)
apply_long does.Replace pages page e = put_long pages page (Present e [])
apply_long does.Free pages page e = put_long pages page (Free e.0 e.1)
apply_long does.Link pages page e = omega (arith, length-set pages page (put_on e (get_or pages page Uninitialized)))
apply_long does.Skip pages page e = omega arith
apply_long does.Corrupted pages page e = omega arith

apply_which : (k : LogKind) (pages : List Page) (page p : ℕ) (e : Entry) → p < length (applied_to pages k page e) → (p < length pages) ⊎ (p ≡ page)
apply_which does.Replace pages page p e lt = put_which pages page p (Present e []) lt
apply_which does.Free pages page p e lt = put_which pages page p (Free e.0 e.1) lt
apply_which does.Link pages page p e lt = inl (omega (arith, lt, length-set pages page (put_on e (get_or pages page Uninitialized))))
apply_which does.Skip pages page p e lt = inl lt
apply_which does.Corrupted pages page p e lt = inl lt

-- Pages that are begun.

-- where a Replace of a page lies below any place, the page is begun
pub page_of_replace : (H : History) (page place : ℕ) → IsMade H → HasReplaceBelow H page place → HasPage H top page
page_of_replace H page place made has =
    has_page H top page has.message has.there has.of (All-contains (λ x. x.place < top) H.messages has.message made.low has.there) has.replaces

-- a message that may come is of a page of the table, or of the next one
pub join_within : (H : History) (m : Message) (pages : List Page) → IsMade H → MayJoin H m → IsTable pages H top → m.page ≤ length pages
join_within H m pages made may is = ⊎_elim higher (λ le. omega (arith, le)) (cases_lt 0 m.page) where
  higher : 0 < m.page → m.page ≤ length pages
  higher lt =
      let before : m.page - 1 < m.page = omega (arith, lt) in
      let there : m.page - 1 < length pages = (is.begun (m.page - 1)).1 (page_of_replace H (m.page - 1) m.place made (may.lower (m.page - 1) before)) in
      omega (arith, there, lt)

-- The table with the message that is completed.

module _ (H H' : History) (m : Message) (pages : List Page) (made : IsMade H) (may : MayJoin H m) (step : Step H (Completed m) H') (is : IsTable pages H top) where
  page_still : (page : ℕ) → HasPage H top page → HasPage H' top page
  page_still page has =
      let found = from_page H.messages top page has.message has.there in
      has_page H' top page has.message (stays H H' m step has.message found.0) found.1 found.2 has.replaces

  -- its own page is begun
  own_page : HasPage H' top m.page
  own_page = ⊎_elim (λ replaces. has_page H' top m.page m (new_there H H' m step) refl may.low replaces) (λ has. page_still m.page (page_of_replace H m.page m.place made has)) may.own

  state_now : (page : ℕ) → get_or (applied_to pages m.kind m.page (entry_of m)) page Uninitialized ≡ page_with (page_now H' page)
  state_now page = ⊎_elim same other (cases_eq m.page page) where
    within : m.page ≤ length pages
    within = join_within H m pages made may is

    own : get_or (applied_to pages m.kind m.page (entry_of m)) m.page Uninitialized ≡ page_with (page_now H' m.page)
    own = apply_own m.kind m pages (page_now H m.page) refl within (is.states m.page) ∙ ap page_with (sym (page_joined H H' m may step))

    same : m.page ≡ page → get_or (applied_to pages m.kind m.page (entry_of m)) page Uninitialized ≡ page_with (page_now H' page)
    same of = subst (λ (n : ℕ). get_or (applied_to pages m.kind m.page (entry_of m)) n Uninitialized ≡ page_with (page_now H' n)) of own

    other : (m.page ≡ page → ⊥) → get_or (applied_to pages m.kind m.page (entry_of m)) page Uninitialized ≡ page_with (page_now H' page)
    other ne = apply_other m.kind pages m.page page (entry_of m) (λ at. ne (sym at)) within ∙ is.states page ∙ ap page_with (sym (page_others H H' m step page ne))

  begun_now : (page : ℕ) → page < length (applied_to pages m.kind m.page (entry_of m)) → HasPage H' top page
  begun_now page lt = ⊎_elim
      (λ there. page_still page ((is.begun page).0 there))
      (λ at. subst (λ (n : ℕ). HasPage H' top n) (sym at) own_page) (apply_which m.kind pages m.page page (entry_of m) lt)

  there_now : (page : ℕ) → HasPage H' top page → page < length (applied_to pages m.kind m.page (entry_of m))
  there_now page has = ⊎_elim
      (λ same. subst (λ (n : ℕ). n < length (applied_to pages m.kind m.page (entry_of m))) (ap (λ (x : Message). x.page) same ∙ found.1) (own (ap (λ (x : Message). x.kind) same ∙ has.replaces)))
      (λ was. let low = (is.begun page).1 (has_page H top page has.message was found.1 found.2 has.replaces) in omega (arith, low, apply_long m.kind pages m.page (entry_of m)))
      (came H H' m step has.message found.0) where
        found : Contains H'.messages has.message × (has.message.page ≡ page) × (has.message.place < top)
        found = from_page H'.messages top page has.message has.there

        own : m.kind ≡ does.Replace → m.page < length (applied_to pages m.kind m.page (entry_of m))
        own replaces = subst (λ (k : LogKind). m.page < length (applied_to pages k m.page (entry_of m))) (sym replaces) (put_there pages m.page (Present (entry_of m) []) (join_within H m pages made may is))

-- It is the table with its entry.
pub table_completed : (H H' : History) (m : Message) (pages : List Page) → IsMade H → MayJoin H m → Step H (Completed m) H' → IsTable pages H top → IsTable (applied_to pages m.kind m.page (entry_of m)) H' top
table_completed H H' m pages made may step is = record {
  states = state_now H H' m pages made may step is;
  begun = λ page. (begun_now H H' m pages made may step is page, there_now H H' m pages made may step is page);
}

-- What lies below a cut has the table below that cut.
pub table_below : (H : History) (cut : ℕ) (pages : List Page) → cut ≤ top → IsTable pages H cut → IsTable pages (below H cut) top
unfolding table
table_below H cut pages le is = record {
  states = λ page. is.states page ∙ ap (λ (ms : List Message). page_with (page_state ms)) (sym (whole page));
  begun = λ page. (λ lt. has_too page ((is.begun page).0 lt), λ has. (is.begun page).1 (had_too page has));
} where
  whole : (page : ℕ) → of_page (below H cut).messages top page ≡ of_page H.messages cut page
  whole page = below_whole H cut top page le

  has_too : (page : ℕ) → HasPage H cut page → HasPage (below H cut) top page
  has_too page has = record { message = has.message; there = subst (λ (ms : List Message). Contains ms has.message) (sym (whole page)) has.there; replaces = has.replaces }

  had_too : (page : ℕ) → HasPage (below H cut) top page → HasPage H cut page
  had_too page has = record { message = has.message; there = subst (λ (ms : List Message). Contains ms has.message) (whole page) has.there; replaces = has.replaces }
