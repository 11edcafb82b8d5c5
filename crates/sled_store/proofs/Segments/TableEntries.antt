-- Each entry of a table is a message of the history that lies below the cut.
use Rattle.std.proofs.Common.{if◌then◌else◌, ⊎_elim, ◌≡◌, ◌<◌, ℕ, Bool, true, false, ◌&&◌, ◌==◌, nat_lt, List, [], ◌∷◌, Option, Some, None, subst, refl, eqb-true, ltb-true}
use Rattle.std.specs.List.{Contains, filter}
use Rattle.std.proofs.lemmas.Bool.{and_parts}
use Rattle.sled_codec.specs.History.{Message, History, begins_page, is_replace, is_link, later_or, last_beginning, entries_from, page_state, of_page, table}
use Rattle.sled_store.proofs.Segments.Elements.{in_first, in_rest, in_cases, in_nothing, from_filter}

-- a message of a page below a cut
pub from_page : (ms : List Message) (cut page : ℕ) (m : Message) → Contains (of_page ms cut page) m → Contains ms m × (m.page ≡ page) × (m.place < cut)
unfolding of_page
from_page ms cut page m there =
    let found = from_filter (λ x. (x.page == page) && nat_lt x.place cut) ms m there in
    let passes = and_parts (m.page == page) (nat_lt m.place cut) found.1 in
    (found.0, eqb-true m.page page passes.0, ltb-true m.place cut passes.1)

-- the message that last gave its page a new beginning is one of them
pub beginning_there : (ms : List Message) (b : Message) → last_beginning ms ≡ Some b → Contains ms b
beginning_there [] b is = cc
beginning_there (m ∷ ms) b is = by_cases (last_beginning ms) (begins_page m.kind) (beginning_there ms) is where
  by_cases : (o : Option Message) (t : Bool) → ((x : Message) → o ≡ Some x → Contains ms x) → later_or o (if t then Some m else None) ≡ Some b → Contains (m ∷ ms) b
  by_cases (Some x) t rest is = in_rest m b ms (rest b is)
  by_cases None true rest is = let same : m ≡ b = cc in subst (Contains (m ∷ ms)) same (in_first m ms)
  by_cases None false rest is = cc

-- the state of a page is made of its messages
pub state_from : (ms : List Message) (m : Message) → Contains (page_state ms) m → Contains ms m
unfolding page_state
state_from ms m there = by_cases (last_beginning ms) (beginning_there ms) there where
  links : (b : Message) (t : Bool) → Contains ms b → Contains (b ∷ (if t then filter (λ x. is_link x.kind && nat_lt b.place x.place) ms else [])) m → Contains ms m
  links b true base found =
      ⊎_elim (λ is. subst (Contains ms) is base) (λ rest. (from_filter (λ x. is_link x.kind && nat_lt b.place x.place) ms m rest).0)
      (in_cases b m (filter (λ x. is_link x.kind && nat_lt b.place x.place) ms) found)
  links b false base found = ⊎_elim (λ is. subst (Contains ms) is base) (λ rest. absurd (in_nothing m rest)) (in_cases b m [] found)

  by_cases : (o : Option Message) → ((b : Message) → o ≡ Some b → Contains ms b) → Contains (entries_from o ms) m → Contains ms m
  by_cases None found at = absurd (in_nothing m at)
  by_cases (Some b) found at = links b (is_replace b.kind) (found b refl) at

pub from_table : (H : History) (cut page : ℕ) (m : Message) → Contains (table H cut page) m → Contains H.messages m × (m.page ≡ page) × (m.place < cut)
unfolding table
from_table H cut page m there = from_page H.messages cut page m (state_from (of_page H.messages cut page) m there)
