-- What the messages of one page make of it, one after another.
use Rattle.std.proofs.Common.{◌≡◌, ◌∙◌, ◌<◌, ◌≤◌, ℕ, ℤ, pos, Bool, true, false, ◌&&◌, if◌then◌else◌, cond, nat_lt, List, [], ◌∷◌, ◌++◌, map, Option, Some, None, refl, sym, ap, arith, append_assoc, append-nil}
use Rattle.std.specs.List.{All, filter}
use Rattle.std.proofs.lemmas.Bool.{false≢true, and_right}
use Rattle.std.proofs.lemmas.Bool.Decides.{nat_tests}
use Rattle.std.proofs.lemmas.List.Elements.{All-head, All-tail}
use Rattle.std.specs.Prelude.{int_lt}
use Rattle.sled_codec.specs.declared.result.DiskPtr.{DiskPtr}
use Rattle.sled_codec.specs.declared.serialization.message.LogKind.{LogKind}
use Rattle.sled_codec.specs.declared.serialization.message.LogKind.TheVariants as does
use Rattle.sled_codec.specs.History.{Message, begins_page, is_replace, is_link, later_or, last_beginning, entries_from, page_state}
use Rattle.sled_codec.specs.PageTables.{entry_of, page_with}
use Rattle.sled_codec.specs.Snapshots.{Entry, Page, Present, Free, Uninitialized}
use Rattle.sled_log.specs.Recovery.{last_entry, with_fragment}
use Rattle.sled_store.proofs.Histories.Ascending.{Ascends, later_above}
use Rattle.sled_store.proofs.Histories.PageStates.{none_begins, IsLast, last_found}

-- what a message makes of its page
abbrev pub turned : LogKind → Entry → Page → Page
turned does.Replace e s = Present e []
turned does.Free e s = Free e.0 e.1
turned does.Link e s = with_fragment s e
turned does.Skip e s = s
turned does.Corrupted e s = s

-- what messages make of their page, the first one first
abbrev pub run : Page → List Message → Page
run s [] = s
run s (m ∷ ms) = run (turned m.kind (entry_of m) s) ms

pub run-append : (s : Page) (xs ys : List Message) → run s (xs ++ ys) ≡ run (run s xs) ys
run-append s [] ys = refl
run-append s (x ∷ xs) ys = run-append (turned x.kind (entry_of x) s) xs ys

-- Messages that don't begin the page.

turned_nothing : (k : LogKind) (e : Entry) → begins_page k ≡ false → turned k e Uninitialized ≡ Uninitialized
turned_nothing does.Replace e none = absurd (false≢true (sym none))
turned_nothing does.Free e none = absurd (false≢true (sym none))
turned_nothing does.Link e none = refl
turned_nothing does.Skip e none = refl
turned_nothing does.Corrupted e none = refl

turned_free : (k : LogKind) (e : Entry) (place : ℤ) (pointer : DiskPtr) → begins_page k ≡ false → turned k e (Free place pointer) ≡ Free place pointer
turned_free does.Replace e place pointer none = absurd (false≢true (sym none))
turned_free does.Free e place pointer none = absurd (false≢true (sym none))
turned_free does.Link e place pointer none = refl
turned_free does.Skip e place pointer none = refl
turned_free does.Corrupted e place pointer none = refl

-- a page that was not begun stays so
run_nothing : (ms : List Message) → All (λ m. begins_page m.kind ≡ false) ms → run Uninitialized ms ≡ Uninitialized
run_nothing [] none = refl
run_nothing (m ∷ ms) none =
    ap (λ (s : Page). run s ms) (turned_nothing m.kind (entry_of m) (All-head (λ m. begins_page m.kind ≡ false) m ms none))
    ∙ run_nothing ms (All-tail (λ m. begins_page m.kind ≡ false) m ms none)

-- a page that was given back stays so
run_free : (ms : List Message) (place : ℤ) (pointer : DiskPtr) → All (λ m. begins_page m.kind ≡ false) ms → run (Free place pointer) ms ≡ Free place pointer
run_free [] place pointer none = refl
run_free (m ∷ ms) place pointer none =
    ap (λ (s : Page). run s ms) (turned_free m.kind (entry_of m) place pointer (All-head (λ m. begins_page m.kind ≡ false) m ms none))
    ∙ run_free ms place pointer (All-tail (λ m. begins_page m.kind ≡ false) m ms none)

last-push : (base : Entry) (es : List Entry) (e : Entry) → last_entry base (es ++ e ∷ []) ≡ e
last-push base [] e = refl
last-push base (x ∷ es) e = last-push x es e

-- the Links behind a place
abbrev pub links_behind : ℕ → List Message → List Message
links_behind n ms = filter (λ m. is_link m.kind && nat_lt n m.place) ms

linked_behind : (base : Entry) (frags : List Entry) (e : Entry) (low high : ℕ) → (last_entry base frags).0 ≡ pos low → e.0 ≡ pos high → low < high → with_fragment (Present base frags) e ≡ Present base (frags ++ e ∷ [])
linked_behind base frags e low high last at lt =
    let test : int_lt (last_entry base frags).0 e.0 ≡ true = ap (λ z. int_lt z e.0) last ∙ ap (λ z. int_lt (pos low) z) at ∙ below in
    ap (λ (b : Bool). if b then Present base (frags ++ e ∷ []) else Present base frags) test where
      below : int_lt (pos low) (pos high) ≡ true
      below = grind (arith, nat_tests, lt)

-- the Links of a page that was replaced are put on it, one behind another
run_present : (ms : List Message) (base : Entry) (frags : List Entry) (first last : ℕ) → Ascends ms → All (λ m. begins_page m.kind ≡ false) ms → All (λ m. last < m.place) ms
    → (last_entry base frags).0 ≡ pos last → first ≤ last → run (Present base frags) ms ≡ Present base (frags ++ map entry_of (links_behind first ms))
run_present [] base frags first last order none above at le = ap (Present base) (sym (append-nil frags))
run_present (m ∷ ms) base frags first last order none above at le =
    let rest_none : All (λ m. begins_page m.kind ≡ false) ms = All-tail (λ m. begins_page m.kind ≡ false) m ms none in
    let e : Entry = entry_of m in
    let lt : last < m.place = All-head (λ m. last < m.place) m ms above in
    by_kind m.kind (All-head (λ m. begins_page m.kind ≡ false) m ms none) lt
    (run_present ms base frags first last order.1 rest_none (All-tail (λ m. last < m.place) m ms above) at le)
    (run_present ms base (frags ++ e ∷ []) first m.place order.1 rest_none order.0 (ap (λ (x : Entry). x.0) (last-push base frags e)) (omega (arith, le, lt))) where
      by_kind : (k : LogKind) → begins_page k ≡ false → last < m.place → run (Present base frags) ms ≡ Present base (frags ++ map entry_of (links_behind first ms))
          → run (Present base (frags ++ entry_of m ∷ [])) ms ≡ Present base ((frags ++ entry_of m ∷ []) ++ map entry_of (links_behind first ms))
          → run (turned k (entry_of m) (Present base frags)) ms ≡ Present base (frags ++ map entry_of (cond (is_link k && nat_lt first m.place) (m ∷ links_behind first ms) (links_behind first ms)))
      by_kind does.Replace begins lt stays more = absurd (false≢true (sym begins))
      by_kind does.Free begins lt stays more = absurd (false≢true (sym begins))
      by_kind does.Link begins lt stays more =
          let kept : nat_lt first m.place ≡ true = grind (arith, nat_tests, le, lt) in
          ap (λ (s : Page). run s ms) (linked_behind base frags (entry_of m) last m.place at refl lt)
          ∙ more ∙ ap (Present base) (append_assoc frags (entry_of m ∷ []) (map entry_of (links_behind first ms)))
          ∙ ap (λ (b : Bool). Present base (frags ++ map entry_of (cond b (m ∷ links_behind first ms) (links_behind first ms)))) (sym kept)
      by_kind does.Skip begins lt stays more = stays
      by_kind does.Corrupted begins lt stays more = stays

-- Messages from the last beginning on.

-- what a first message of this kind and the Links behind it make
abbrev begun_page : LogKind → Message → List Message → Page
begun_page k m ms = if is_replace k then Present (entry_of m) (map entry_of (if is_replace k then cond (is_link k && nat_lt m.place m.place) (m ∷ links_behind m.place ms) (links_behind m.place ms) else [])) else Free (pos m.place) m.pointer

-- a page is begun
begun_now : (s : Page) (m : Message) (ms : List Message) → Ascends (m ∷ ms) → begins_page m.kind ≡ true → All (λ x. begins_page x.kind ≡ false) ms
    → run s (m ∷ ms) ≡ page_with (entries_from (Some m) (m ∷ ms))
begun_now s m ms order begins none = by_kind m.kind begins where
  by_kind : (k : LogKind) → begins_page k ≡ true → run (turned k (entry_of m) s) ms ≡ begun_page k m ms
  by_kind does.Replace begins = run_present ms (entry_of m) [] m.place m.place order.1 none order.0 refl (omega arith)
  by_kind does.Free begins = run_free ms (pos m.place) m.pointer none
  by_kind does.Link begins = absurd (false≢true begins)
  by_kind does.Skip begins = absurd (false≢true begins)
  by_kind does.Corrupted begins = absurd (false≢true begins)

-- a message below the last beginning is none of its Links
not_behind : (b m : Message) (ms : List Message) → m.place < b.place → entries_from (Some b) (m ∷ ms) ≡ entries_from (Some b) ms
not_behind b m ms lt =
    let below : nat_lt b.place m.place ≡ false = grind (arith, nat_tests, lt) in
    ap (λ (t : Bool). b ∷ (if is_replace b.kind then cond t (m ∷ links_behind b.place ms) (links_behind b.place ms) else [])) (and_right (is_link m.kind) (nat_lt b.place m.place) below)

-- from any state messages make what the last beginning among them and the Links behind it say
run_last : (s : Page) (ms : List Message) (b : Message) → Ascends ms → last_beginning ms ≡ Some b → run s ms ≡ page_with (entries_from (Some b) ms)
run_last s [] b order is = cc
run_last s (m ∷ ms) b order is = by_cases (last_beginning ms) (begins_page m.kind) refl is (none_begins ms) (λ x found. last_found ms x order.1 found) (λ x. run_last (turned m.kind (entry_of m) s) ms x order.1) where
  by_cases : (o : Option Message) (t : Bool) → begins_page m.kind ≡ t → later_or o (if t then Some m else None) ≡ Some b → (o ≡ None → All (λ x. begins_page x.kind ≡ false) ms)
      → ((x : Message) → o ≡ Some x → IsLast ms x)
      → ((x : Message) → o ≡ Some x → run (turned m.kind (entry_of m) s) ms ≡ page_with (entries_from (Some x) ms)) → run s (m ∷ ms) ≡ page_with (entries_from (Some b) (m ∷ ms))
  by_cases None true of is none found rest =
      let same : m ≡ b = cc in
      begun_now s m ms order of (none refl) ∙ ap (λ (x : Message). page_with (entries_from (Some x) (m ∷ ms))) same
  by_cases None false of is none found rest = cc
  by_cases (Some x) t of is none found rest =
      rest b is ∙ ap page_with (sym (not_behind b m ms (later_above m ms b order (found b is).there)))

-- The messages of a page make the state of it that the table has.
pub run_is : (ms : List Message) → Ascends ms → run Uninitialized ms ≡ page_with (page_state ms)
unfolding page_state
run_is ms order = by_cases (last_beginning ms) (none_begins ms) (λ b. run_last Uninitialized ms b order) where
  by_cases : (o : Option Message) → (o ≡ None → All (λ x. begins_page x.kind ≡ false) ms) → ((b : Message) → o ≡ Some b → run Uninitialized ms ≡ page_with (entries_from (Some b) ms))
      → run Uninitialized ms ≡ page_with (entries_from o ms)
  by_cases None none found = run_nothing ms (none refl)
  by_cases (Some b) none found = found b refl
