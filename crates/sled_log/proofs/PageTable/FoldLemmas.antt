-- Applying a history's messages from one cut to another to the table of the first makes the table of the second.
use Rattle.std.proofs.Common.{⊎_elim, ◌≡◌, ◌∙◌, ◌<◌, ◌≤◌, ℕ, true, ◌==◌, List, ◌∷◌, ◌++◌, length, map, get_or, Option, Some, None, refl, sym, ap, subst, arith, eqb-true, eq-eqb}
use Rattle.std.specs.List.{All, Contains, filter}
use Rattle.std.proofs.lemmas.Bool.{cases_lt}
use Rattle.std.proofs.lemmas.List.Elements.{All-contains, Contains-append_left, Contains-append_right, Contains-append_cases}
use Rattle.sled_codec.specs.History.{Message, History, begins_page, last_beginning, page_state, of_page, table, HasPage}
use Rattle.sled_codec.specs.PageTables.{page_with, IsTable}
use Rattle.sled_codec.specs.Snapshots.{Page, Uninitialized}
use Rattle.sled_codec.specs.WellFormed.{IsWellFormed, MayFollow}
use Rattle.sled_log.specs.Recovery.{applied, table_of}
use Rattle.sled_store.proofs.Histories.Ascending.{IsSublist, in_filter, from_filter, all_from_in, sublist_in, Ascends, apart_ascends, sublist_ascends, filter_ascends, append_ascends}
use Rattle.sled_store.proofs.Histories.PageStates.{none_begins, begins_false, IsLast, last_found, same_state}
use Rattle.sled_log.proofs.PageTable.PageRuns.{run, run-append, run_is}
use Rattle.sled_log.proofs.PageTable.PageWise.{at_page, BatchStart, table_keeps, table_begins, table_since}
use Rattle.sled_store.proofs.Histories.TableParts.{in_page, from_page, page_ascends, state_from, last_in_state, split_at, has_page, page_stays, replaced_before}

-- The messages L are a history's, lie at or above the place low and below cut, and have all entries of the table that lie there.
module _ (H : History) (low cut : ℕ) (first : List Page) (L : List Message) (formed : IsWellFormed H) (le : low ≤ cut) (is : IsTable first H low) (sub : IsSublist L H.messages)
    (within : All (λ m. (low ≤ m.place) × (m.place < cut)) L) (entries : (page : ℕ) (m : Message) → Contains (table H cut page) m → low ≤ m.place → Contains L m) where
  -- the history's messages stand by place
  ordered : Ascends H.messages
  ordered = apart_ascends H.messages formed.apart

  -- each message of L lies between the cuts
  in_within : (m : Message) → Contains L m → (low ≤ m.place) × (m.place < cut)
  in_within m there = All-contains (λ x. (low ≤ x.place) × (x.place < cut)) L m within there

  module _ (page : ℕ) where
    -- the messages of the page: those below the first cut, those of L, both, and those below the second cut
    abbrev old : List Message
    old = of_page H.messages low page

    abbrev new : List Message
    new = filter (λ m. m.page == page) L

    abbrev all : List Message
    all = of_page H.messages cut page

    old_ascends : Ascends old
    old_ascends = page_ascends H.messages low page ordered

    all_ascends : Ascends all
    all_ascends = page_ascends H.messages cut page ordered

    both_ascend : Ascends (old ++ new)
    both_ascend = append_ascends old new low old_ascends (filter_ascends (λ m. m.page == page) L (sublist_ascends L H.messages sub ordered))
        (all_from_in (λ m. m.place < low) old (λ m there. (from_page H.messages low page m there).2))
        (all_from_in (λ m. low ≤ m.place) new (λ m there. (in_within m (from_filter (λ x. x.page == page) L m there).0).0))

    -- the old messages and those of L are messages of the page below the second cut
    both_in_all : (m : Message) → Contains (old ++ new) m → Contains all m
    both_in_all m there = ⊎_elim from_old from_new (Contains-append_cases old new m there) where
      from_old : Contains old m → Contains all m
      from_old at =
          let found = from_page H.messages low page m at in
          let lt = found.2 in
          in_page H.messages cut page m found.0 found.1 (omega (arith, le, lt))

      from_new : Contains new m → Contains all m
      from_new at =
          let found = from_filter (λ x. x.page == page) L m at in
          in_page H.messages cut page m (sublist_in L H.messages m sub found.0) (eqb-true m.page page found.1) (in_within m found.0).1

    -- and all that make its state are among them
    state_in_both : (m : Message) → Contains (page_state all) m → Contains (old ++ new) m
    unfolding table
    state_in_both m there = ⊎_elim before after (cases_lt m.place low) where
      found : Contains H.messages m × (m.page ≡ page) × (m.place < cut)
      found = from_page H.messages cut page m (state_from all m there)

      before : m.place < low → Contains (old ++ new) m
      before lt = Contains-append_left old new m (in_page H.messages low page m found.0 found.1 lt)

      after : low ≤ m.place → Contains (old ++ new) m
      after above = Contains-append_right old new m (in_filter (λ x. x.page == page) L m (entries page m there above) (eq-eqb m.page page found.1))

    -- so the page is in its state
    state_is : get_or (table_of first (map applied L)) page Uninitialized ≡ page_with (table H cut page)
    unfolding table
    state_is =
        at_page first L page ∙ ap (λ (s : Page). run s new) (is.states page ∙ sym (run_is old old_ascends))
        ∙ sym (run-append Uninitialized old new) ∙ run_is (old ++ new) both_ascend
        ∙ ap page_with (same_state (old ++ new) all both_ascend all_ascends both_in_all state_in_both)

    -- a page of the new table was replaced below the cut
    was_begun : page < length (table_of first (map applied L)) → HasPage H cut page
    was_begun lt = ⊎_elim (λ there. page_stays H low cut page le ((is.begun page).0 there)) since (table_since first L page lt) where
      followed : (m : Message) → Contains H.messages m → m.place < cut → BatchStart page m.kind m.page → HasPage H cut page
      followed m there below begins = ⊎_elim lower own begins where
        split : (before : List Message) × (after : List Message) × (H.messages ≡ before ++ m ∷ after)
        split = split_at H.messages m there

        follows : MayFollow split.0 m
        follows = formed.begun split.0 m split.1 split.2

        lower : page < m.page → HasPage H cut page
        lower lt = replaced_before H cut page split.0 m split.1 ordered split.2 below (follows.lower page lt)

        own : (page ≡ m.page) × (begins_page m.kind ≡ true) → HasPage H cut page
        own same = subst (λ (n : ℕ). HasPage H cut n) (sym same.0)
            (⊎_elim (λ replaces. has_page H cut m.page m there refl below replaces) (λ has. replaced_before H cut m.page split.0 m split.1 ordered split.2 below has) follows.own)

      since : ((m : Message) × Contains L m × BatchStart page m.kind m.page) → HasPage H cut page
      since at = followed at.0 (sublist_in L H.messages at.0 sub at.1) (in_within at.0 at.1).1 at.2

    -- a page that was replaced below the cut is in the new table
    is_there : HasPage H cut page → page < length (table_of first (map applied L))
    unfolding table
    is_there has = by_last (last_beginning all) refl where
      begins : begins_page has.message.kind ≡ true
      begins = ap begins_page has.replaces

      by_place : (b : Message) → last_beginning all ≡ Some b → IsLast all b → page < length (table_of first (map applied L))
      by_place b last is_last = ⊎_elim before after (cases_lt b.place low) where
        before : b.place < low → page < length (table_of first (map applied L))
        before lt =
            let found = from_page H.messages cut page has.message has.there in
            let under : has.message.place < low = omega (arith, lt, is_last.last has.message has.there begins) in
            table_keeps first L page ((is.begun page).1 (has_page H low page has.message found.0 found.1 under has.replaces))

        after : low ≤ b.place → page < length (table_of first (map applied L))
        after above =
            let found = from_page H.messages cut page b is_last.there in
            subst (λ (n : ℕ). n < length (table_of first (map applied L))) found.1 (table_begins first L b (entries page b (last_in_state all b last) above) is_last.begins)

      by_last : (o : Option Message) → last_beginning all ≡ o → page < length (table_of first (map applied L))
      by_last None none = absurd (begins_false has.message all (none_begins all none) has.there begins)
      by_last (Some b) last = by_place b last (last_found all b all_ascends last)

  -- Applied to the table of the first cut they make the table of the second.
  pub fold : IsTable (table_of first (map applied L)) H cut
  fold = record { states = state_is; begun = λ page. (was_begun page, is_there page) }
