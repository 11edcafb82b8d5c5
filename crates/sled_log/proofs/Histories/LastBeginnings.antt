-- The table below a cut has the last message there that begins a page, and of a page that it replaces also the Links behind it; and so it has a message that was just completed.
use Rattle.std.proofs.Common.{⊎_elim, ◌≡◌, ◌∙◌, ◌⊎◌, ◌<◌, ◌≤◌, ℕ, Bool, true, ◌&&◌, if◌then◌else◌, nat_lt, List, [], ◌∷◌, Option, Some, refl, sym, ap, subst, arith, lt-ltb}
use Rattle.std.specs.List.{Contains, filter}
use Rattle.std.proofs.lemmas.Bool.{and_from, cases_lt, false≢true}
use Rattle.sled_codec.specs.declared.serialization.message.LogKind.{LogKind}
use Rattle.sled_codec.specs.declared.serialization.message.LogKind.TheVariants as does
use Rattle.sled_codec.specs.History.{Message, History, Completed, Step, begins_page, is_replace, is_link, last_beginning, entries_from, page_state, of_page, table}
use Rattle.sled_codec.specs.WellFormed.{LieApart}
use Rattle.sled_store.proofs.Histories.Ascending.{apart_ascends, in_filter, in_rest}
use Rattle.sled_store.proofs.Histories.PageStates.{last_is}
use Rattle.sled_store.proofs.Histories.TableParts.{from_page, in_page, last_in_state, page_ascends}
use Rattle.sled_log.specs.PageHistories.{IsLastBeginning}
use Rattle.sled_log.proofs.Sessions.MadeHistories.{came, new_there}

-- a Replace or a Free begins its page
begun_by : (k : LogKind) → (k ≡ does.Replace) ⊎ (k ≡ does.Free) → begins_page k ≡ true
begun_by k is = ⊎_elim (λ replaces. ap begins_page replaces) (λ frees. ap begins_page frees) is

module _ (H : History) (cut page : ℕ) (b : Message) (apart : LieApart H.messages) (is : IsLastBeginning H cut page b) where
  -- the messages of the page below the cut
  abbrev its : List Message
  its = of_page H.messages cut page

  -- none that begins the page lies behind the last beginning
  none_behind : (x : Message) → Contains its x → begins_page x.kind ≡ true → x.place ≤ b.place
  none_behind x there begins = let from = from_page H.messages cut page x there in ⊎_elim
      (λ lt. absurd (false≢true (sym (ap begins_page (is.last x from.0 from.1 from.2 lt)) ∙ begins)))
      (λ le. omega (arith, le)) (cases_lt b.place x.place)

  found : last_beginning its ≡ Some b
  found = last_is its b (page_ascends H.messages cut page (apart_ascends H.messages apart)) (record {
    there = in_page H.messages cut page b is.there is.of is.below;
    begins = begun_by b.kind is.begins;
    last = none_behind;
  })

  -- The last beginning is in the table,
  pub beginning_in_table : Contains (table H cut page) b
  unfolding table
  beginning_in_table = last_in_state its b found

  -- and so is a Link behind it, where it is a Replace.
  pub link_in_table : b.kind ≡ does.Replace → (m : Message) → Contains H.messages m → m.page ≡ page → m.kind ≡ does.Link → b.place < m.place → m.place < cut → Contains (table H cut page) m
  unfolding table page_state
  link_in_table replaces m there of links above low =
      let p : Message → Bool = λ x. is_link x.kind && nat_lt b.place x.place in
      let kept : Contains (filter p its) m = in_filter p its m (in_page H.messages cut page m there of low) (and_from (is_link m.kind) (nat_lt b.place m.place) (ap is_link links) (lt-ltb b.place m.place above)) in
      subst (λ (o : Option Message). Contains (entries_from o its) m) (sym found)
      (subst (λ (k : LogKind). Contains (b ∷ (if is_replace k then filter p its else [])) m) (sym replaces) (in_rest b m (filter p its) kept))

-- A message that was just completed, behind all of its page, is the last one that begins it, where it is a Replace or a Free.
pub new_in_table : (H H' : History) (m : Message) (cut : ℕ) → Step H (Completed m) H' → LieApart H'.messages → (m.kind ≡ does.Replace) ⊎ (m.kind ≡ does.Free)
    → ((x : Message) → Contains H.messages x → x.page ≡ m.page → x.place < m.place) → m.place < cut → Contains (table H' cut m.page) m
new_in_table H H' m cut step apart begins later low = beginning_in_table H' cut m.page m apart (record {
  there = new_there H H' m step;
  of = refl;
  below = low;
  begins = begins;
  last = λ x there of under above. absurd (⊎_elim
      (λ is. omega (arith, above, ap (λ (z : Message). z.place) is))
      (λ was. let lower = later x was of in omega (arith, above, lower)) (came H H' m step x there));
})
