-- An entry of the table below a cut that lies below an earlier one is an entry of the table there.
use Rattle.std.proofs.Common.{⊎_elim, ◌≡◌, ◌<◌, ◌≤◌, ℕ, Bool, true, false, ◌&&◌, nat_lt, if◌then◌else◌, List, [], ◌∷◌, Option, Some, None, refl, sym, ap, subst, arith, ltb-true}
use Rattle.std.specs.List.{Contains, filter}
use Rattle.std.proofs.lemmas.Bool.{and_parts}
use Rattle.sled_codec.specs.History.{Message, History, is_link, is_replace, last_beginning, entries_from, page_state, of_page, table}
use Rattle.sled_store.proofs.Histories.Ascending.{Ascends, in_first, in_rest, in_cases, in_nothing, in_filter, from_filter}
use Rattle.sled_store.proofs.Histories.PageStates.{last_found, last_is}
use Rattle.sled_store.proofs.Histories.TableParts.{from_page, in_page, page_ascends}

module _ (H : History) (order : Ascends H.messages) (low cut page : ℕ) (not_above : low ≤ cut) where
  -- the messages of the page below the cut, and below the earlier one

  abbrev all : List Message
  all = of_page H.messages cut page

  abbrev early : List Message
  early = of_page H.messages low page

  in_early : (m : Message) → Contains all m → m.place < low → Contains early m
  in_early m there lt = let from = from_page H.messages cut page m there in in_page H.messages low page m from.0 from.1 lt

  in_all : (m : Message) → Contains early m → Contains all m
  in_all m there = let from = from_page H.messages low page m there in in_page H.messages cut page m from.0 from.1 (omega (arith, from.2, not_above))

  -- where the page began last, it did so for the earlier cut
  began : (b : Message) → last_beginning all ≡ Some b → b.place < low → last_beginning early ≡ Some b
  began b is lt =
      let found = last_found all b (page_ascends H.messages cut page order) is in
      last_is early b (page_ascends H.messages low page order) (record { there = in_early b found.there lt; begins = found.begins; last = λ x there begins. found.last x (in_all x there) begins })

  pub entry_earlier : (e : Message) → e.place < low → Contains (table H cut page) e → Contains (table H low page) e
  unfolding table page_state
  entry_earlier e under entry = by (last_beginning all) refl entry where
    Entry : Option Message → Type 0
    Entry o = Contains (entries_from o early) e

    links : (b : Message) → last_beginning all ≡ Some b → (t : Bool) → Contains (b ∷ (if t then filter (λ m. is_link m.kind && nat_lt b.place m.place) all else [])) e
        → (b.place < low) × Contains (b ∷ (if t then filter (λ m. is_link m.kind && nat_lt b.place m.place) early else [])) e
    links b is false found = ⊎_elim
        (λ same. (omega (arith, under, ap (λ (m : Message). m.place) same), subst (Contains (b ∷ [])) same (in_first b [])))
        (λ none. absurd (in_nothing e none))
        (in_cases b e [] found)
    links b is true found =
        let link : Message → Bool = λ m. is_link m.kind && nat_lt b.place m.place in
        ⊎_elim
        (λ same. (omega (arith, under, ap (λ (m : Message). m.place) same), subst (Contains (b ∷ filter link early)) same (in_first b (filter link early))))
        (λ later.
        let from = from_filter link all e later in
        let above : b.place < e.place = ltb-true b.place e.place (and_parts (is_link e.kind) (nat_lt b.place e.place) from.1).1 in
        (omega (arith, above, under), in_rest b e (filter link early) (in_filter link early e (in_early e from.0 under) from.1)))
        (in_cases b e (filter link all) found)

    by : (o : Option Message) → last_beginning all ≡ o → Contains (entries_from o all) e → Entry (last_beginning early)
    by None none found = absurd (in_nothing e found)
    by (Some b) is found = let both = links b is (is_replace b.kind) found in subst Entry (sym (began b is both.0)) both.1
