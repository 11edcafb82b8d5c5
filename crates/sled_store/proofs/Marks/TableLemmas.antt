-- An entry of a table isn't below any message that begins its page, where the messages ascend.
use Rattle.std.proofs.Common.{if◌then◌else◌, ⊎_elim, ◌≡◌, ◌∙◌, ◌⊎◌, ◌&&◌, ◌==◌, ◌<◌, ◌≤◌, ℕ, Bool, true, false, nat_lt, List, [], ◌∷◌, ◌++◌, Option, Some, None, refl, sym, ap, subst, arith, inl, inr, eq-eqb, lt-ltb}
use Rattle.std.specs.List.{Contains, filter}
use Rattle.std.proofs.lemmas.Bool.{and_from, and_parts, ltb-true}
use Rattle.std.proofs.lemmas.List.Elements.{All-contains, Contains-append_left, Contains-append_right, Contains-append_cases}
use Rattle.sled_codec.specs.History.{Message, History, begins_page, is_replace, is_link, later_or, last_beginning, entries_from, page_state, of_page, table, AddsMessage}
pub use Rattle.sled_store.proofs.Histories.Ascending.{Ascends, apart_ascends}
use Rattle.sled_store.proofs.Histories.Ascending.{filter_ascends}
use Rattle.sled_store.proofs.Segments.Elements.{in_first, in_rest, in_cases, in_nothing, in_filter, from_filter, all_from_in}
use Rattle.sled_store.proofs.Segments.SnapshotEntries.{none_begins}
use Rattle.sled_store.proofs.Segments.TableEntries.{beginning_there, from_table}

-- a message is put in at its place
put_ascends : (before : List Message) (m : Message) (after : List Message) → Ascends (before ++ after)
    → ((x : Message) → Contains before x → x.place < m.place) → ((x : Message) → Contains after x → m.place < x.place)
    → Ascends (before ++ m ∷ after)
put_ascends [] m after order lower higher = (all_from_in (λ n. m.place < n.place) after higher, order)
put_ascends (x ∷ before) m after order lower higher = (
  all_from_in (λ n. x.place < n.place) (before ++ m ∷ after) (λ n there. ⊎_elim (λ low. All-contains (λ y. x.place < y.place) (before ++ after) n order.0 (Contains-append_left before after n low))
      (λ high. ⊎_elim (λ is. subst (λ (y : Message). x.place < y.place) is (lower x (in_first x before))) (λ rest. All-contains (λ y. x.place < y.place) (before ++ after) n order.0 (Contains-append_right before after n rest)) (in_cases m n after high))
      (Contains-append_cases before (m ∷ after) n there)),
  put_ascends before m after order.1 (λ y there. lower y (in_rest x y before there)) higher,
)

module _ (H : History) (m : Message) (H' : History) (adds : AddsMessage H m H') where
  pub added_ascends : Ascends H.messages → Ascends H'.messages
  added_ascends order = subst Ascends (sym adds.new) (put_ascends adds.before m adds.after (subst Ascends adds.old order) adds.lower adds.higher)

  pub added_keeps : (x : Message) → Contains H.messages x → Contains H'.messages x
  added_keeps x there =
      subst (λ (ms : List Message). Contains ms x) (sym adds.new)
      (⊎_elim (λ low. Contains-append_left adds.before (m ∷ adds.after) x low) (λ high. Contains-append_right adds.before (m ∷ adds.after) x (in_rest m x adds.after high))
      (Contains-append_cases adds.before adds.after x (subst (λ (ms : List Message). Contains ms x) adds.old there)))

  pub added_there : Contains H'.messages m
  added_there = subst (λ (ms : List Message). Contains ms m) (sym adds.new) (Contains-append_right adds.before (m ∷ adds.after) m (in_first m adds.after))

  pub added_cases : (x : Message) → Contains H'.messages x → (m ≡ x) ⊎ Contains H.messages x
  added_cases x there =
      ⊎_elim (λ low. inr (back (Contains-append_left adds.before adds.after x low))) (λ high. ⊎_elim (λ is. inl is) (λ rest. inr (back (Contains-append_right adds.before adds.after x rest))) (in_cases m x adds.after high))
      (Contains-append_cases adds.before (m ∷ adds.after) x (subst (λ (ms : List Message). Contains ms x) adds.new there)) where
        back : Contains (adds.before ++ adds.after) x → Contains H.messages x
        back found = subst (λ (ms : List Message). Contains ms x) (sym adds.old) found

-- no message that begins the page lies above the last one
last_above : (ms : List Message) (b : Message) → Ascends ms → last_beginning ms ≡ Some b → (x : Message) → Contains ms x → begins_page x.kind ≡ true → x.place ≤ b.place
last_above [] b order is x there begins = absurd (in_nothing x there)
last_above (m ∷ ms) b order is x there begins = by (last_beginning ms) (begins_page m.kind) refl is (last_above ms b order.1) where
  by : (o : Option Message) (t : Bool) → last_beginning ms ≡ o → later_or o (if t then Some m else None) ≡ Some b
      → (o ≡ Some b → (y : Message) → Contains ms y → begins_page y.kind ≡ true → y.place ≤ b.place) → x.place ≤ b.place
  by (Some y) t found same rest =
      ⊎_elim (λ first. omega (arith, ap (λ (z : Message). z.place) first, All-contains (λ n. m.place < n.place) ms b order.0 (beginning_there ms b (found ∙ same)))) (λ later. rest same x later begins) (in_cases m x ms there)
  by None true none same rest =
      let first : m ≡ b = cc in
      ⊎_elim (λ is_first. omega (arith, ap (λ (z : Message). z.place) (sym is_first ∙ first))) (λ later. absurd (none_begins ms x none later begins)) (in_cases m x ms there)
  by None false none same rest = cc

-- nor above an entry of the page's state
state_above : (ms : List Message) (e : Message) → Ascends ms → Contains (page_state ms) e → (x : Message) → Contains ms x → begins_page x.kind ≡ true → x.place ≤ e.place
unfolding page_state
state_above ms e order entry x there begins = by (last_beginning ms) (λ b is. last_above ms b order is x there begins) entry where
  links : (b : Message) (t : Bool) → x.place ≤ b.place → Contains (b ∷ (if t then filter (λ m. is_link m.kind && nat_lt b.place m.place) ms else [])) e → x.place ≤ e.place
  links b true le found =
      ⊎_elim (λ is. subst (λ (m : Message). x.place ≤ m.place) is le)
      (λ rest.
      let passes = (from_filter (λ m. is_link m.kind && nat_lt b.place m.place) ms e rest).1 in
      let above : b.place < e.place = ltb-true b.place e.place (and_parts (is_link e.kind) (nat_lt b.place e.place) passes).1 in
      omega (arith, le, above))
      (in_cases b e (filter (λ m. is_link m.kind && nat_lt b.place m.place) ms) found)
  links b false le found = ⊎_elim (λ is. subst (λ (m : Message). x.place ≤ m.place) is le) (λ rest. absurd (in_nothing e rest)) (in_cases b e [] found)

  by : (o : Option Message) → ((b : Message) → o ≡ Some b → x.place ≤ b.place) → Contains (entries_from o ms) e → x.place ≤ e.place
  by None le found = absurd (in_nothing e found)
  by (Some b) le found = links b (is_replace b.kind) (le b refl) found

-- A message below the cut that begins an entry's page doesn't lie above the entry.
pub entry_above : (H : History) (cut page : ℕ) (e : Message) → Ascends H.messages → Contains (table H cut page) e → (x : Message)
    → Contains H.messages x → x.page ≡ e.page → begins_page x.kind ≡ true → x.place < cut → x.place ≤ e.place
unfolding table of_page
entry_above H cut page e order entry x there same begins lt =
    let found = from_table H cut page e entry in
    let p : Message → Bool = λ m. (m.page == page) && nat_lt m.place cut in
    state_above (of_page H.messages cut page) e (filter_ascends p H.messages order) entry x
    (in_filter p H.messages x there (and_from (x.page == page) (nat_lt x.place cut) (eq-eqb x.page page (same ∙ found.1)) (lt-ltb x.place cut lt))) begins
