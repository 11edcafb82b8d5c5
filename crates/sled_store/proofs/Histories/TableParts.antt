-- What a table of a history has of its messages, and which pages.
use Rattle.std.proofs.Common.{if◌then◌else◌, ◌≡◌, ◌⊎◌, ◌<◌, ◌≤◌, ℕ, ◌&&◌, ◌==◌, nat_lt, List, [], ◌∷◌, ◌++◌, Option, Some, sym, ap, subst, arith, inl, inr, eq-eqb, lt-ltb}
use Rattle.std.specs.List.{Contains, filter}
use Rattle.std.proofs.lemmas.Bool.{and_from}
use Rattle.std.proofs.lemmas.List.Elements.{Contains-append_left, Contains-append_right}
use Rattle.sled_codec.specs.declared.serialization.message.LogKind.TheVariants as does
use Rattle.sled_codec.specs.History.{Message, History, is_replace, is_link, last_beginning, entries_from, page_state, of_page, HasPage}
use Rattle.sled_codec.specs.WellFormed.{HasReplace}
pub use Rattle.sled_store.proofs.Segments.TableEntries.{from_page, state_from, from_table}
use Rattle.sled_store.proofs.Histories.Ascending.{in_first, in_cases, in_nothing, in_filter, Ascends, later_above, filter_ascends}

-- The messages of a page below a cut.

pub in_page : (ms : List Message) (cut page : ℕ) (m : Message) → Contains ms m → m.page ≡ page → m.place < cut → Contains (of_page ms cut page) m
unfolding of_page
in_page ms cut page m there of lt =
    in_filter (λ x. (x.page == page) && nat_lt x.place cut) ms m there (and_from (m.page == page) (nat_lt m.place cut) (eq-eqb m.page page of) (lt-ltb m.place cut lt))

pub page_ascends : (ms : List Message) (cut page : ℕ) → Ascends ms → Ascends (of_page ms cut page)
unfolding of_page
page_ascends ms cut page order = filter_ascends (λ x. (x.page == page) && nat_lt x.place cut) ms order

-- the last message that begins the page is in its state
pub last_in_state : (ms : List Message) (b : Message) → last_beginning ms ≡ Some b → Contains (page_state ms) b
unfolding page_state
last_in_state ms b is = subst (λ (o : Option Message). Contains (entries_from o ms) b) (sym is) (in_first b (if is_replace b.kind then filter (λ x. is_link x.kind && nat_lt b.place x.place) ms else []))

-- Pages.

-- an element of a list splits it
pub split_at : (ms : List Message) (m : Message) → Contains ms m → (before : List Message) × (after : List Message) × (ms ≡ before ++ m ∷ after)
split_at [] m there = absurd (in_nothing m there)
split_at (x ∷ ms) m there = by_cases (λ rest. split_at ms m rest) (in_cases x m ms there) where
  by_cases : (Contains ms m → (before : List Message) × (after : List Message) × (ms ≡ before ++ m ∷ after)) → (x ≡ m) ⊎ Contains ms m → (before : List Message) × (after : List Message) × (x ∷ ms ≡ before ++ m ∷ after)
  by_cases split (inl is) = ([], ms, ap (λ (z : Message). z ∷ ms) is)
  by_cases split (inr rest) = let parts = split rest in (x ∷ parts.0, parts.1, ap (λ (l : List Message). x ∷ l) parts.2)

-- what comes before a message lies below it
pub earlier_below : (before : List Message) (m : Message) (after : List Message) (x : Message) → Ascends (before ++ m ∷ after) → Contains before x → x.place < m.place
earlier_below [] m after x order there = absurd (in_nothing x there)
earlier_below (y ∷ before) m after x order there = by_cases (λ rest. earlier_below before m after x order.1 rest) (in_cases y x before there) where
  by_cases : (Contains before x → x.place < m.place) → (y ≡ x) ⊎ Contains before x → x.place < m.place
  by_cases earlier (inl is) =
      subst (λ (z : Message). z.place < m.place) is (later_above y (before ++ m ∷ after) m order (Contains-append_right before (m ∷ after) m (in_first m after)))
  by_cases earlier (inr rest) = earlier rest

-- a message that replaces its page gives the table that page
pub has_page : (H : History) (cut page : ℕ) (m : Message) → Contains H.messages m → m.page ≡ page → m.place < cut → m.kind ≡ does.Replace → HasPage H cut page
has_page H cut page m there of lt is = record { message = m; there = in_page H.messages cut page m there of lt; replaces = is }

-- a table has the pages that it had below a lower cut
pub page_stays : (H : History) (low cut page : ℕ) → low ≤ cut → HasPage H low page → HasPage H cut page
page_stays H low cut page le has =
    let found = from_page H.messages low page has.message has.there in
    let lt = found.2 in
    has_page H cut page has.message found.0 found.1 (omega (arith, le, lt)) has.replaces

-- a page that messages before one have replaced is in a table that has the message
pub replaced_before : (H : History) (cut page : ℕ) (before : List Message) (m : Message) (after : List Message) → Ascends H.messages → H.messages ≡ before ++ m ∷ after → m.place < cut
    → HasReplace before page → HasPage H cut page
replaced_before H cut page before m after order is lt has =
    let below : has.message.place < m.place = earlier_below before m after has.message (subst Ascends is order) has.there in
    let there : Contains H.messages has.message = subst (λ (ms : List Message). Contains ms has.message) (sym is) (Contains-append_left before (m ∷ after) has.message has.there) in
    has_page H cut page has.message there has.of (omega (arith, below, lt)) has.replaces
