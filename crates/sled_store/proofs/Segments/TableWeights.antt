-- What the entries of a snapshot sum up to is no more than the sizes of the history's messages, and 32 bytes for each of them.
use Rattle.std.proofs.Common.{◌≡◌, ◌≤◌, ◌<◌, ◌+◌, ◌∙◌, ◌&&◌, ◌==◌, ℕ, suc, pos, Bool, true, false, cond, if◌then◌else◌, nat_lt, nat_le, List, [], ◌∷◌, length, map, get_or, Option, Some, None, refl, sym, ap, subst, arith, inl, inr}
use Rattle.std.specs.List.{Contains, filter, sum_by}
use Rattle.std.proofs.lemmas.Bool.Decides.{nat_tests}
use Rattle.std.proofs.lemmas.List.Concat.{flat_map-cons}
use Rattle.std.proofs.lemmas.List.Sums.{sum_by-cons, sum_by-append}
use Rattle.sled_codec.specs.declared.serialization.message.LogKind.{LogKind}
use Rattle.sled_codec.specs.declared.serialization.message.LogKind.TheVariants.{Replace, Link, Free, Skip, Corrupted}
use Rattle.sled_codec.specs.History.{Message, History, is_replace, is_link, last_beginning, entries_from, page_state, of_page, table}
use Rattle.sled_codec.specs.PageTables.{entry_of, page_with, IsTable}
use Rattle.sled_codec.specs.Snapshots.{Entry, Page, Present, Free as FreePage, Uninitialized}
use Rattle.sled_store.specs.Begin.{entries_in, entries_of}
use Rattle.sled_store.proofs.Segments.Elements.{in_cases, in_nothing}
use Rattle.sled_store.proofs.Segments.TableEntries.{beginning_there}

-- what an entry of a message may count as
abbrev pub weight : Message → ℕ
weight m = m.size + 32

-- Messages that are kept weigh no more than all.

module _ {X : Type 0} (w : X → ℕ) where
  kept_one : (b : Bool) (x : X) (xs : List X) → sum_by w (cond b (x ∷ xs) xs) ≤ w x + sum_by w xs
  kept_one true x xs = omega (arith, sum_by-cons w x xs)
  kept_one false x xs = omega arith

  pub kept_less : (p : X → Bool) (xs : List X) → sum_by w (filter p xs) ≤ sum_by w xs
  kept_less p [] = omega arith
  kept_less p (x ∷ xs) = omega (arith, kept_one (p x) x (filter p xs), kept_less p xs, sum_by-cons w x xs)

  -- one that isn't kept, and those that are
  left_and_kept : (p : X → Bool) (xs : List X) (y : X) → Contains xs y → p y ≡ false → w y + sum_by w (filter p xs) ≤ sum_by w xs
  left_and_kept p [] y there left = absurd (in_nothing y there)
  left_and_kept p (x ∷ xs) y there left = elim (in_cases x y xs there) [
    | inl same ↦ (
        let dropped : filter p (x ∷ xs) ≡ filter p xs = ap (λ (b : Bool). cond b (x ∷ filter p xs) (filter p xs)) (ap p same ∙ left) in
        omega (arith, ap (sum_by w) dropped, ap w same, kept_less p xs, sum_by-cons w x xs))
    | inr rest ↦ omega (arith, kept_one (p x) x (filter p xs), left_and_kept p xs y rest left, sum_by-cons w x xs)
  ]

  -- two filters that keep different ones of those that a third keeps
  kept_apart : (p q r : X → Bool) → ((x : X) → p x ≡ true → r x ≡ true) → ((x : X) → q x ≡ true → (r x ≡ true) × (p x ≡ false)) → (xs : List X)
      → sum_by w (filter p xs) + sum_by w (filter q xs) ≤ sum_by w (filter r xs)
  kept_apart p q r first second [] = omega arith
  kept_apart p q r first second (x ∷ xs) = by (p x) (q x) (r x) (first x) (second x) (kept_apart p q r first second xs)
    where
      by : (a b c : Bool) → (a ≡ true → c ≡ true) → (b ≡ true → (c ≡ true) × (a ≡ false)) → sum_by w (filter p xs) + sum_by w (filter q xs) ≤ sum_by w (filter r xs)
          → sum_by w (cond a (x ∷ filter p xs) (filter p xs)) + sum_by w (cond b (x ∷ filter q xs) (filter q xs)) ≤ sum_by w (cond c (x ∷ filter r xs) (filter r xs))
      by true true c one two rest = absurd (let no = (two refl).1 in cc)
      by true false true one two rest = omega (arith, rest, sum_by-cons w x (filter p xs), sum_by-cons w x (filter r xs))
      by true false false one two rest = absurd (let no = one refl in cc)
      by false true true one two rest = omega (arith, rest, sum_by-cons w x (filter q xs), sum_by-cons w x (filter r xs))
      by false true false one two rest = absurd (let no = (two refl).0 in cc)
      by false false true one two rest = omega (arith, rest, sum_by-cons w x (filter r xs))
      by false false false one two rest = rest

-- the messages behind a beginning that are links on it
abbrev links_on : Message → Message → Bool
links_on b m = is_link m.kind && nat_lt b.place m.place

-- a message that replaces its page is no link on it
not_link : (b : Message) → is_replace b.kind ≡ true → links_on b b ≡ false
not_link b replaces = by b.kind replaces
  where
    by : (k : LogKind) → is_replace k ≡ true → is_link k && nat_lt b.place b.place ≡ false
    by Replace is = refl
    by Link is = absurd (let no : false ≡ true = is in cc)
    by Free is = refl
    by Skip is = refl
    by Corrupted is = refl

-- the state of a page is some of its messages
pub state_less : (w : Message → ℕ) (ms : List Message) → sum_by w (page_state ms) ≤ sum_by w ms
unfolding page_state
state_less w ms = by (last_beginning ms) refl
  where
    some : (b : Message) → Contains ms b → (t : Bool) → is_replace b.kind ≡ t → sum_by w (b ∷ (if t then filter (links_on b) ms else [])) ≤ sum_by w ms
    some b here true is = omega (arith, sum_by-cons w b (filter (links_on b) ms), left_and_kept w (links_on b) ms b here (not_link b is))
    some b here false is = omega (arith, sum_by-cons w b [], left_and_kept w (λ _. false) ms b here refl)

    by : (o : Option Message) → last_beginning ms ≡ o → sum_by w (entries_from o ms) ≤ sum_by w ms
    by None none = omega arith
    by (Some b) is = some b (beginning_there ms b is) (is_replace b.kind) refl

-- the messages of the pages from one on
abbrev from_page : ℕ → Message → Bool
from_page first m = nat_le first m.page

-- The entries of pages, where each counts as no more than its message.
module _ (v : Entry → ℕ) (w : Message → ℕ) (own : (m : Message) → v (entry_of m) ≤ w m) (given_back : (m : Message) → v (pos m.place, m.pointer, 32) ≤ w m) where
  map_sizes : (ms : List Message) → sum_by v (map entry_of ms) ≤ sum_by w ms
  map_sizes [] = omega arith
  map_sizes (m ∷ ms) = omega (arith, map_sizes ms, own m, sum_by-cons v (entry_of m) (map entry_of ms), sum_by-cons w m ms)

  page_sizes : (ms : List Message) → sum_by v (entries_in (page_with ms)) ≤ sum_by w ms
  page_sizes [] = omega arith
  page_sizes (b ∷ ms) = by (is_replace b.kind)
    where
      by : (t : Bool) → sum_by v (entries_in (if t then Present (entry_of b) (map entry_of ms) else FreePage (pos b.place) b.pointer)) ≤ sum_by w (b ∷ ms)
      by true = map_sizes (b ∷ ms)
      by false = omega (arith, given_back b, sum_by-cons w b ms, sum_by-cons v (pos b.place, b.pointer, 32) [])

  page_within : (ms : List Message) → sum_by v (entries_in (page_with (page_state ms))) ≤ sum_by w ms
  page_within ms = omega (arith, page_sizes (page_state ms), state_less w ms)

  pages_sizes : (H : History) (cut : ℕ) (pages : List Page) (first : ℕ) → ((k : ℕ) → k < length pages → get_or pages k Uninitialized ≡ page_with (table H cut (first + k)))
      → sum_by v (entries_of pages) ≤ sum_by w (filter (from_page first) H.messages)
  unfolding table of_page
  pages_sizes H cut [] first states = omega arith
  pages_sizes H cut (p ∷ ps) first states =
      let here : p ≡ page_with (table H cut first) = states 0 (omega arith) ∙ ap (λ n. page_with (table H cut n)) (omega arith) in
      let rest = pages_sizes H cut ps (suc first) (λ k lt. states (suc k) (omega (arith, lt)) ∙ ap (λ n. page_with (table H cut n)) (omega arith)) in
      let one : sum_by v (entries_in p) ≤ sum_by w (of_page H.messages cut first) = subst (λ (x : Page). sum_by v (entries_in x) ≤ sum_by w (of_page H.messages cut first)) (sym here) (page_within (of_page H.messages cut first)) in
      let all = ap (sum_by v) (flat_map-cons entries_in p ps) ∙ sum_by-append v (entries_in p) (entries_of ps) in
      let apart = kept_apart w (λ m. (m.page == first) && nat_lt m.place cut) (from_page (suc first)) (from_page first)
      (λ m of. grind (arith, nat_tests)) (λ m later. (grind (arith, nat_tests), grind (arith, nat_tests))) H.messages in
      omega (arith, all, one, rest, apart)

  -- What the entries of a table count as.
  pub table_counts : (pages : List Page) (H : History) (cut : ℕ) → IsTable pages H cut → sum_by v (entries_of pages) ≤ sum_by w H.messages
  table_counts pages H cut is = omega (arith, pages_sizes H cut pages 0 (λ k lt. is.states k ∙ ap (λ n. page_with (table H cut n)) (omega arith)), kept_less w (from_page 0) H.messages)
