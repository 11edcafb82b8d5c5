-- What messages that are applied to a table make of one page, and how many pages the table has then.
use Rattle.std.proofs.Common.{⊎_elim, ◌≡◌, ◌≢◌, ◌∙◌, ◌⊎◌, ◌+◌, ◌-◌, ◌<◌, ◌≤◌, ℕ, Bool, true, ◌==◌, cond, List, [], ◌∷◌, length, map, get_or, set, replicate, refl, sym, ap, subst, arith, inl, inr, length-append, length-set, eq-eqb, ne_eqb}
use Rattle.std.specs.List.{Contains, filter}
use Rattle.std.proofs.lemmas.Bool.{false≢true, cases_lt, cases_eq}
use Rattle.std.proofs.lemmas.List.{length-replicate, get_or-replicate, get_or_append_left, get_or-append_right, get_or_past, get_or-set_same, get_or-set_other}
use Rattle.sled_codec.specs.declared.serialization.message.LogKind.{LogKind}
use Rattle.sled_codec.specs.declared.serialization.message.LogKind.TheVariants as does
use Rattle.sled_codec.specs.History.{Message, begins_page}
use Rattle.sled_codec.specs.PageTables.{entry_of}
use Rattle.sled_codec.specs.Snapshots.{Entry, Page, Present, Free, Uninitialized}
use Rattle.sled_log.specs.Recovery.{applied, grown, with_fragment, table_with, table_of}
use Rattle.sled_store.proofs.Histories.Ascending.{in_first, in_rest, in_cases, in_nothing}
use Rattle.sled_log.proofs.PageTable.PageRuns.{turned, run}

-- A table that grows.

filled_at : (n p : ℕ) → get_or (replicate n Uninitialized) p Uninitialized ≡ Uninitialized
filled_at n p = ⊎_elim (λ lt. get_or-replicate n p Uninitialized Uninitialized lt) (λ le. get_or_past (replicate n Uninitialized) p Uninitialized (omega (arith, le, length-replicate n Uninitialized))) (cases_lt p n)

-- a table that grows has the pages that it had
grown_at : (pages : List Page) (n p : ℕ) → get_or (grown pages n) p Uninitialized ≡ get_or pages p Uninitialized
grown_at pages n p = ⊎_elim inside beyond (cases_lt p (length pages)) where
  inside : p < length pages → get_or (grown pages n) p Uninitialized ≡ get_or pages p Uninitialized
  inside lt = get_or_append_left pages (replicate (n - length pages) Uninitialized) Uninitialized p lt

  beyond : length pages ≤ p → get_or (grown pages n) p Uninitialized ≡ get_or pages p Uninitialized
  beyond le =
      get_or-append_right pages (replicate (n - length pages) Uninitialized) (length pages) p Uninitialized refl le
      ∙ filled_at (n - length pages) (p - length pages) ∙ sym (get_or_past pages p Uninitialized le)

length-grown : (pages : List Page) (n : ℕ) → length (grown pages n) ≡ length pages + (n - length pages)
length-grown pages n = length-append pages (replicate (n - length pages) Uninitialized) ∙ ap (λ k. length pages + k) (length-replicate (n - length pages) Uninitialized)

-- One message.

set_in_grown : (pages : List Page) (page : ℕ) (x : Page) → get_or (set (grown pages (page + 1)) page x) page Uninitialized ≡ x
set_in_grown pages page x = get_or-set_same (grown pages (page + 1)) page x Uninitialized (omega (arith, length-grown pages (page + 1)))

link_at : (pages : List Page) (page : ℕ) (e : Entry) (x : Page) → with_fragment (get_or pages page Uninitialized) e ≡ x → get_or (set pages page x) page Uninitialized ≡ x
link_at pages page e x is = ⊎_elim (λ lt. get_or-set_same pages page x Uninitialized lt) beyond (cases_lt page (length pages)) where
  beyond : length pages ≤ page → get_or (set pages page x) page Uninitialized ≡ x
  beyond le =
      get_or_past (set pages page x) page Uninitialized (omega (arith, le, length-set pages page x))
      ∙ ap (λ (s : Page). with_fragment s e) (sym (get_or_past pages page Uninitialized le)) ∙ is

-- a message changes its page
at_same : (k : LogKind) (pages : List Page) (page : ℕ) (e : Entry) → get_or (table_with pages k page e) page Uninitialized ≡ turned k e (get_or pages page Uninitialized)
at_same does.Replace pages page e = set_in_grown pages page (Present e [])
at_same does.Free pages page e = set_in_grown pages page (Free e.0 e.1)
at_same does.Link pages page e = grown_at (set pages page (with_fragment (get_or pages page Uninitialized) e)) page page ∙ link_at pages page e (with_fragment (get_or pages page Uninitialized) e) refl
at_same does.Skip pages page e = refl
at_same does.Corrupted pages page e = refl

-- and no other one
at_other : (k : LogKind) (pages : List Page) (page p : ℕ) (e : Entry) → p ≢ page → get_or (table_with pages k page e) p Uninitialized ≡ get_or pages p Uninitialized
at_other does.Replace pages page p e ne = get_or-set_other (grown pages (page + 1)) page p (Present e []) Uninitialized ne ∙ grown_at pages (page + 1) p
at_other does.Free pages page p e ne = get_or-set_other (grown pages (page + 1)) page p (Free e.0 e.1) Uninitialized ne ∙ grown_at pages (page + 1) p
at_other does.Link pages page p e ne =
    grown_at (set pages page (with_fragment (get_or pages page Uninitialized) e)) page p ∙ get_or-set_other pages page p (with_fragment (get_or pages page Uninitialized) e) Uninitialized ne
at_other does.Skip pages page p e ne = refl
at_other does.Corrupted pages page p e ne = refl

-- Each page has what its own messages make of it.
pub at_page : (pages : List Page) (ms : List Message) (p : ℕ) → get_or (table_of pages (map applied ms)) p Uninitialized ≡ run (get_or pages p Uninitialized) (filter (λ m. m.page == p) ms)
at_page pages [] p = refl
at_page pages (m ∷ ms) p = at_page (table_with pages m.kind m.page (entry_of m)) ms p ∙ ⊎_elim same other (cases_eq m.page p) where
  same : m.page ≡ p → run (get_or (table_with pages m.kind m.page (entry_of m)) p Uninitialized) (filter (λ x. x.page == p) ms)
      ≡ run (get_or pages p Uninitialized) (cond (m.page == p) (m ∷ filter (λ x. x.page == p) ms) (filter (λ x. x.page == p) ms))
  same is =
      let now : get_or (table_with pages m.kind m.page (entry_of m)) p Uninitialized ≡ turned m.kind (entry_of m) (get_or pages p Uninitialized) =
      subst (λ (n : ℕ). get_or (table_with pages m.kind m.page (entry_of m)) n Uninitialized ≡ turned m.kind (entry_of m) (get_or pages n Uninitialized)) is (at_same m.kind pages m.page (entry_of m)) in
      ap (λ (s : Page). run s (filter (λ x. x.page == p) ms)) now
      ∙ ap (λ (b : Bool). run (get_or pages p Uninitialized) (cond b (m ∷ filter (λ x. x.page == p) ms) (filter (λ x. x.page == p) ms))) (sym (eq-eqb m.page p is))

  other : (m.page ≡ p → ⊥) → run (get_or (table_with pages m.kind m.page (entry_of m)) p Uninitialized) (filter (λ x. x.page == p) ms)
      ≡ run (get_or pages p Uninitialized) (cond (m.page == p) (m ∷ filter (λ x. x.page == p) ms) (filter (λ x. x.page == p) ms))
  other ne =
      ap (λ (s : Page). run s (filter (λ x. x.page == p) ms)) (at_other m.kind pages m.page p (entry_of m) (λ is. ne (sym is)))
      ∙ ap (λ (b : Bool). run (get_or pages p Uninitialized) (cond b (m ∷ filter (λ x. x.page == p) ms) (filter (λ x. x.page == p) ms))) (sym (ne_eqb m.page p ne))

-- How many pages.

-- a table has a page since this message: the message is of a higher page, or begins the page
abbrev pub BatchStart : ℕ → LogKind → ℕ → Type 0
BatchStart p k page = (p < page) ⊎ (p ≡ page) × (begins_page k ≡ true)

length_set_grown : (pages : List Page) (page : ℕ) (x : Page) → length (set (grown pages (page + 1)) page x) ≡ length pages + (page + 1 - length pages)
length_set_grown pages page x = length-set (grown pages (page + 1)) page x ∙ length-grown pages (page + 1)

length_linked : (pages : List Page) (page : ℕ) (x : Page) → length (grown (set pages page x) page) ≡ length pages + (page - length pages)
length_linked pages page x = length-grown (set pages page x) page ∙ ap (λ n. n + (page - n)) (length-set pages page x)

no_fewer : (k : LogKind) (pages : List Page) (page : ℕ) (e : Entry) → length pages ≤ length (table_with pages k page e)
no_fewer does.Replace pages page e = omega (arith, length_set_grown pages page (Present e []))
no_fewer does.Free pages page e = omega (arith, length_set_grown pages page (Free e.0 e.1))
no_fewer does.Link pages page e = omega (arith, length_linked pages page (with_fragment (get_or pages page Uninitialized) e))
no_fewer does.Skip pages page e = omega arith
no_fewer does.Corrupted pages page e = omega arith

begun_there : (k : LogKind) (pages : List Page) (page : ℕ) (e : Entry) → begins_page k ≡ true → page < length (table_with pages k page e)
begun_there does.Replace pages page e begins = omega (arith, length_set_grown pages page (Present e []))
begun_there does.Free pages page e begins = omega (arith, length_set_grown pages page (Free e.0 e.1))
begun_there does.Link pages page e begins = absurd (false≢true begins)
begun_there does.Skip pages page e begins = absurd (false≢true begins)
begun_there does.Corrupted pages page e begins = absurd (false≢true begins)

begun_by : (p n page k : ℕ) → k ≡ n + (page + 1 - n) → p < k → (p < n) ⊎ ((p < page) ⊎ (p ≡ page) × (true ≡ true))
begun_by p n page k is lt = ⊎_elim inl (λ le. inr (⊎_elim inl (λ ge. inr (omega (arith, is, lt, le, ge), refl)) (cases_lt p page))) (cases_lt p n)

-- a page of the new table is one of the old, or there since the message
since_one : (k : LogKind) (pages : List Page) (page : ℕ) (e : Entry) (p : ℕ) → p < length (table_with pages k page e) → (p < length pages) ⊎ BatchStart p k page
since_one does.Replace pages page e p lt = begun_by p (length pages) page (length (table_with pages does.Replace page e)) (length_set_grown pages page (Present e [])) lt
since_one does.Free pages page e p lt = begun_by p (length pages) page (length (table_with pages does.Free page e)) (length_set_grown pages page (Free e.0 e.1)) lt
since_one does.Link pages page e p lt =
    let long = length_linked pages page (with_fragment (get_or pages page Uninitialized) e) in
    ⊎_elim inl (λ le. inr (inl (omega (arith, long, lt, le)))) (cases_lt p (length pages))
since_one does.Skip pages page e p lt = inl lt
since_one does.Corrupted pages page e p lt = inl lt

-- the table loses no page
pub table_keeps : (pages : List Page) (ms : List Message) (p : ℕ) → p < length pages → p < length (table_of pages (map applied ms))
table_keeps pages [] p lt = lt
table_keeps pages (m ∷ ms) p lt = table_keeps (table_with pages m.kind m.page (entry_of m)) ms p (omega (arith, lt, no_fewer m.kind pages m.page (entry_of m)))

-- it has the page of each message that begins one
pub table_begins : (pages : List Page) (ms : List Message) (m : Message) → Contains ms m → begins_page m.kind ≡ true → m.page < length (table_of pages (map applied ms))
table_begins pages [] m there begins = absurd (in_nothing m there)
table_begins pages (x ∷ ms) m there begins = by_cases (λ later. table_begins (table_with pages x.kind x.page (entry_of x)) ms m later begins) (in_cases x m ms there) where
  by_cases : (Contains ms m → m.page < length (table_of (table_with pages x.kind x.page (entry_of x)) (map applied ms))) → (x ≡ m) ⊎ Contains ms m
      → m.page < length (table_of (table_with pages x.kind x.page (entry_of x)) (map applied ms))
  by_cases rest (inl is) =
      let first : x.page < length (table_with pages x.kind x.page (entry_of x)) = begun_there x.kind pages x.page (entry_of x) (ap (λ (z : Message). begins_page z.kind) is ∙ begins) in
      table_keeps (table_with pages x.kind x.page (entry_of x)) ms m.page (subst (λ (z : Message). z.page < length (table_with pages x.kind x.page (entry_of x))) is first)
  by_cases rest (inr later) = rest later

-- each of its pages was there, or is there since one of the messages
pub table_since : (pages : List Page) (ms : List Message) (p : ℕ) → p < length (table_of pages (map applied ms)) → (p < length pages) ⊎ ((m : Message) × Contains ms m × BatchStart p m.kind m.page)
table_since pages [] p lt = inl lt
table_since pages (x ∷ ms) p lt = ⊎_elim before later (table_since (table_with pages x.kind x.page (entry_of x)) ms p lt) where
  before : p < length (table_with pages x.kind x.page (entry_of x)) → (p < length pages) ⊎ ((m : Message) × Contains (x ∷ ms) m × BatchStart p m.kind m.page)
  before there = ⊎_elim inl (λ since. inr (x, in_first x ms, since)) (since_one x.kind pages x.page (entry_of x) p there)

  later : ((m : Message) × Contains ms m × BatchStart p m.kind m.page) → (p < length pages) ⊎ ((m : Message) × Contains (x ∷ ms) m × BatchStart p m.kind m.page)
  later since = inr (since.0, in_rest x since.0 ms since.1, since.2)
