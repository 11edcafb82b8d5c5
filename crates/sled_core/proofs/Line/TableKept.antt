-- A log goes on having the record of each entry of a table from the mark on, while the mark stays and the history grows from there on.
use Rattle.std.proofs.Common.{◌≡◌, ◌∙◌, ◌⊎◌, ◌≤◌, ◌<◌, ◌≤ℤ◌, ◌<ℤ◌, ◌-◌, ◌&&◌, nat_lt, if◌then◌else◌, ℕ, ℤ, pos, negsuc, zero, suc, Bool, true, false, List, [], ◌∷◌, ◌++◌, Option, None, Some, refl, sym, ap, subst, arith, inl, inr, lt-ltb}
use Rattle.std.specs.List.{All, Contains, filter}
use Rattle.std.proofs.lemmas.Bool.{and_from, and_parts, cases_lt, false≢true}
use Rattle.std.proofs.lemmas.Int.{ints}
use Rattle.std.proofs.lemmas.List.Elements.{Contains-append_cases, Contains-append_left, Contains-append_right}
use Rattle.sled_codec.specs.declared.serialization.message.LogKind.{LogKind}
use Rattle.sled_codec.specs.declared.serialization.message.LogKind.TheVariants.{Corrupted, Free, Link, Replace, Skip}
use Rattle.sled_codec.specs.History.{Completed, History, Message, Step, begins_page, entries_from, is_link, is_replace, last_beginning, of_page, page_state, table}
use Rattle.sled_store.specs.Device.{Trace}
use Rattle.sled_store.proofs.Histories.Ascending.{Ascends, from_filter, in_cases, in_filter, in_first, in_nothing, in_rest, one_at_place, same_messages}
use Rattle.sled_store.proofs.Histories.EarlierEntries.{entry_earlier}
use Rattle.sled_store.proofs.Histories.PageStates.{IsLast, begins_false, last_found, last_is, none_begins}
use Rattle.sled_store.proofs.Histories.TableParts.{from_page, from_table, in_page, last_in_state, page_ascends}
use Rattle.sled_core.specs.declared.logger.Log.{Log}
use Rattle.sled_core.specs.declared.reservation.Reservation.{Reservation}
use Rattle.sled_core.specs.Account.{account_of}
use Rattle.sled_core.specs.Fits.{Awaits, HasRecordOf, line_of, synced_end}
use Rattle.sled_core.specs.Grown.{GrowsFrom}
use Rattle.sled_core.specs.Logged.{logged}
use Rattle.sled_core.specs.inside.Shown.{shown_of}
use Rattle.sled_core.specs.invariants.Fits.{Holds}
use Rattle.sled_core.specs.Tickets.{index_of}
use Rattle.sled_core.proofs.Holds.Facts.{nth_facts}
use Rattle.sled_core.proofs.Holds.WholeHistory.{whole_ascends}
use Rattle.sled_core.proofs.Line.EntryPlaces.{line_unwritten}
use Rattle.sled_core.proofs.Line.MarksJoin.{mark_synced}
use Rattle.sled_core.proofs.Logged.Messages.{logged_ascends}

-- A Link begins no page.
link_begins : (k : LogKind) → is_link k ≡ true → begins_page k ≡ false
link_begins Link is = refl
link_begins Replace is = cc
link_begins Free is = cc
link_begins Skip is = cc
link_begins Corrupted is = cc

is_a_link : (k : LogKind) → is_link k ≡ true → k ≡ Link
is_a_link Link is = refl
is_a_link Replace is = cc
is_a_link Free is = cc
is_a_link Skip is = cc
is_a_link Corrupted is = cc

-- What begins a page and doesn't replace it gives it back.
gives_back : (k : LogKind) → begins_page k ≡ true → is_replace k ≡ false → k ≡ Free
gives_back Free begins other = refl
gives_back Replace begins other = cc
gives_back Link begins other = cc
gives_back Skip begins other = cc
gives_back Corrupted begins other = cc

module _ (H H' : History) (order : Ascends H.messages) (order' : Ascends H'.messages) (mark : ℤ) (e : Message) (grows : GrowsFrom mark e H H') where
  -- Below the mark both have the same messages of the page, so one table of it at the mark.
  same_page : (low : ℕ) → mark ≡ pos low → of_page H.messages low e.page ≡ of_page H'.messages low e.page
  same_page low is =
      same_messages (of_page H.messages low e.page) (of_page H'.messages low e.page) (page_ascends H.messages low e.page order)
      (page_ascends H'.messages low e.page order')
      (λ m there.
      let from = from_page H.messages low e.page m there in in_page H'.messages low e.page m (grows.has m from.0 from.1) from.1 from.2)
      (λ m there.
      let from = from_page H'.messages low e.page m there in
      let lt : pos m.place <ℤ pos low = (let far = from.2 in omega (arith, ints, far)) in
      in_page H.messages low e.page m (grows.below m from.0 from.1 (subst (λ z. pos m.place <ℤ z) (sym is) lt)) from.1 from.2)

  same_table : (low : ℕ) → mark ≡ pos low → table H low e.page ≡ table H' low e.page
  unfolding table
  same_table low is = ap page_state (same_page low is)

  -- An entry of the table behind itself is the last of its page there, and the other history has nothing in front of it that would leave it out.
  module _ (entry : Contains (table H (suc e.place) e.page) e) where
    abbrev few : List Message
    few = of_page H.messages (suc e.place) e.page

    abbrev many : List Message
    many = of_page H'.messages (suc e.place) e.page

    rising : Ascends few
    rising = page_ascends H.messages (suc e.place) e.page order

    rising' : Ascends many
    rising' = page_ascends H'.messages (suc e.place) e.page order'

    in_many : (m : Message) → Contains few m → Contains many m
    in_many m there =
        let from = from_page H.messages (suc e.place) e.page m there in in_page H'.messages (suc e.place) e.page m (grows.has m from.0 from.1) from.1 from.2

    at_most : (m : Message) → Contains many m → m.place ≤ e.place
    at_most m there = let far = (from_page H'.messages (suc e.place) e.page m there).2 in omega (arith, far)

    here : Contains many e
    here = in_page H'.messages (suc e.place) e.page e (grows.has e (from_table H (suc e.place) e.page e entry).0 refl) refl (omega arith)

    -- Where it begins its page, none does so behind it.
    begins_there : begins_page e.kind ≡ true → Contains (page_state many) e
    begins_there begins = last_in_state many e (last_is many e rising' (record { there = here; begins = begins; last = λ x there _. at_most x there }))

    -- Where it is a Link on what began the page last, what does so in the other history lies between the two
    module _ (b : Message) (last : IsLast few b) (replaces : is_replace b.kind ≡ true) (link : is_link e.kind ≡ true)
        (c : Message) (latest : IsLast many c) where
      under : c.place < e.place
      under = elim (cases_lt c.place e.place) [
        | inl lt ↦ lt
        | inr le ↦ (let most = at_most c latest.there in let same : c ≡ e = one_at_place many c e rising' latest.there here (omega (arith, le, most)) in
            absurd (false≢true (sym (link_begins e.kind link) ∙ ap (λ (m : Message). begins_page m.kind) (sym same) ∙ latest.begins)))
      ]

      -- and is a Replace: a Free there was one of the first history, so the last one that began the page.
      again : is_replace c.kind ≡ true
      again = by (is_replace c.kind) refl where
        by : (t : Bool) → is_replace c.kind ≡ t → is_replace c.kind ≡ true
        by true is = is
        by false is =
            let from = from_page H'.messages (suc e.place) e.page c latest.there in
            let before = grows.freed (is_a_link e.kind link) c from.0 from.1 (gives_back c.kind latest.begins is) under in
            let low = last.last c (in_page H.messages (suc e.place) e.page c before from.1 from.2) latest.begins in
            let high = latest.last b (in_many b last.there) last.begins in
            let same : c ≡ b = one_at_place many c b rising' latest.there (in_many b last.there) (omega (arith, low, high)) in
            absurd (false≢true (sym is ∙ ap (λ (m : Message). is_replace m.kind) same ∙ replaces))

      linked : Contains (entries_from (Some c) many) e
      linked = by (is_replace c.kind) again where
        by : (t : Bool) → t ≡ true → Contains (c ∷ (if t then filter (λ m. is_link m.kind && nat_lt c.place m.place) many else [])) e
        by true is =
            let links : Message → Bool = λ m. is_link m.kind && nat_lt c.place m.place in
            let passes = and_from (is_link e.kind) (nat_lt c.place e.place) link (lt-ltb c.place e.place under) in
            in_rest c e (filter links many) (in_filter links many e here passes)
        by false is = cc

    joined : (b : Message) → IsLast few b → is_replace b.kind ≡ true → is_link e.kind ≡ true → Contains (page_state many) e
    unfolding page_state
    joined b last replaces link = by (last_beginning many) (none_begins many) (λ c. last_found many c rising') where
      by : (o : Option Message) → (o ≡ None → All (λ x. begins_page x.kind ≡ false) many) → ((c : Message) → o ≡ Some c → IsLast many c)
          → Contains (entries_from o many) e
      by None none found = absurd (begins_false b many (none refl) (in_many b last.there) last.begins)
      by (Some c) none found = linked b last replaces link c (found c refl)

    of_entries : (o : Option Message) → last_beginning few ≡ o → Contains (entries_from o few) e → Contains (page_state many) e
    of_entries None is found = absurd (in_nothing e found)
    of_entries (Some b) is found = by (is_replace b.kind) refl found where
      last : IsLast few b
      last = last_found few b rising is

      by : (t : Bool) → is_replace b.kind ≡ t → Contains (b ∷ (if t then filter (λ m. is_link m.kind && nat_lt b.place m.place) few else [])) e
          → Contains (page_state many) e
      by true kind found = elim (in_cases b e (filter (λ m. is_link m.kind && nat_lt b.place m.place) few) found) [
        | inl same ↦ begins_there (ap (λ (m : Message). begins_page m.kind) (sym same) ∙ last.begins)
        | inr rest ↦ joined b last kind
            (and_parts (is_link e.kind) (nat_lt b.place e.place) (from_filter (λ m. is_link m.kind && nat_lt b.place m.place) few e rest).1).0
      ]
      by false kind found = elim (in_cases b e [] found) [
        | inl same ↦ begins_there (ap (λ (m : Message). begins_page m.kind) (sym same) ∙ last.begins)
        | inr rest ↦ absurd (in_nothing e rest)
      ]

    entry_behind : Contains (table H' (suc e.place) e.page) e
    unfolding table page_state
    entry_behind = of_entries (last_beginning few) refl entry

  -- So an entry of a table from the mark on is one still.
  pub entry_goes_on : (cut : ℕ) → mark ≤ℤ pos cut → Contains (table H cut e.page) e → (higher : ℕ) × (mark ≤ℤ pos higher) × Contains (table H' higher e.page) e
  entry_goes_on cut up entry = by mark refl where
    under : e.place < cut
    under = (from_table H cut e.page e entry).2

    above : mark ≤ℤ pos (suc e.place) → (higher : ℕ) × (mark ≤ℤ pos higher) × Contains (table H' higher e.page) e
    above le = (suc e.place, le, entry_behind (entry_earlier H order (suc e.place) cut e.page (let lt = under in omega (arith, lt)) e (omega arith) entry))

    by : (z : ℤ) → mark ≡ z → (higher : ℕ) × (mark ≤ℤ pos higher) × Contains (table H' higher e.page) e
    by (negsuc n) is = above (subst (λ z. z ≤ℤ pos (suc e.place)) (sym is) (omega (arith, ints)))
    by (pos low) is = elim (cases_lt e.place low) [
      | inl lt ↦ (let le : pos low ≤ℤ pos cut = subst (λ z. z ≤ℤ pos cut) is up in (
        low,
        subst (λ z. z ≤ℤ pos low) (sym is) (omega (arith, ints)),
        subst (λ (es : List Message). Contains es e) (same_table low is) (entry_earlier H order low cut e.page (omega (arith, ints, le)) e lt entry),
      ))
      | inr le ↦ above (subst (λ z. z ≤ℤ pos (suc e.place)) (sym is) (omega (arith, ints, le)))
    ]

-- The messages that a log holds ascend.
pub held_ascends : {D C : Type 0} (trace : D → Trace) (sum : List ℕ → ℕ) (log : Log D C) (H : History) → Holds trace sum log H → Ascends H.messages
unfolding Holds
held_ascends trace sum log H holds =
    logged_ascends H (whole_ascends sum log.config.config.segment_size log.segments.first.site (shown_of trace log) log.fault.kept
    log.segments.first.buffer.bytes.items log.segments.first.buffer.written_len log.segments.first.buffer.sealed.items
    log.segments.first.buffer.reserved.items (logged H) holds.shows.holds log.line.lies.in_segment)

-- A log has the record of what was in a table from the mark on, while the mark stays.
pub table_kept : {D C : Type 0} (trace : D → Trace) (sum : List ℕ → ℕ) (old new : Log D C) (H H' : History) (m : Message) (cut : ℕ) → Holds trace sum old H
    → Holds trace sum new H' → (account_of new).mark ≡ (account_of old).mark → GrowsFrom (account_of old).mark m H H' → (account_of old).mark ≤ℤ pos cut
    → Contains (table H cut m.page) m → HasRecordOf new H' m
table_kept trace sum old new H H' m cut before after same grows up entry =
    let found = entry_goes_on H H' (held_ascends trace sum old H before) (held_ascends trace sum new H' after) (account_of old).mark m grows cut up entry in
    inr (found.0, inl (subst (λ z. z ≤ℤ pos found.0) (sym same) found.1), found.2)

-- What a ticket awaits isn't synced, so it lies at the mark or above it.
awaited_unsynced : {D C : Type 0} (log : Log D C) (ticket : Reservation) (m : Message) → Awaits log ticket m → synced_end log ≤ m.place
awaited_unsynced log ticket m awaits =
    let facts = nth_facts log awaits.number awaits.segment awaits.among in
    let far = line_unwritten log.config.config.segment_size awaits.segment (index_of ticket - awaits.segment.gone) awaits.reserved awaits.there facts
    (line_of log) awaits.number log.segments.first.site.place awaits.among (nth_facts log) in
    omega (arith, far, ap (λ (x : Message). x.place) awaits.message)

pub awaited_above : {D C : Type 0} (trace : D → Trace) (sum : List ℕ → ℕ) (log : Log D C) (H : History) (ticket : Reservation) (m : Message)
    → Holds trace sum log H → Awaits log ticket m → (account_of log).mark ≤ℤ pos m.place
awaited_above trace sum log H ticket m holds awaits =
    let low = mark_synced trace sum log H holds in
    let far = awaited_unsynced log ticket m awaits in
    omega (arith, ints, low, far)

-- A history grows so by a message that is completed at the mark or above it, but by a Free in front of a Link of its page,
pub grows_completed : (mark : ℤ) (m : Message) (H H' : History) (c : Message) → Step H (Completed c) H' → mark ≤ℤ pos c.place
    → (m.kind ≡ Link → c.page ≡ m.page → c.kind ≡ Free → m.place ≤ c.place) → GrowsFrom mark m H H'
unfolding Step
grows_completed mark m H H' c adds above last = record {
  has = λ x there its. subst (λ (ms : List Message). Contains ms x) (sym adds.new) (elim (Contains-append_cases adds.before adds.after x
      (subst (λ (ms : List Message). Contains ms x) adds.old there)) [
        | inl before ↦ Contains-append_left adds.before (c ∷ adds.after) x before
        | inr after ↦ Contains-append_right adds.before (c ∷ adds.after) x (in_rest c x adds.after after)
      ]);
  below = λ x there its lt. elim (which x there) [
    | inl same ↦ absurd (omega (arith, ints, above, lt, ap (λ (y : Message). y.place) same))
    | inr was ↦ was
  ];
  freed = λ link x there its free lt. elim (which x there) [
    | inl same ↦ (let le = last link (ap (λ (z : Message). z.page) same ∙ its) (ap (λ (z : Message). z.kind) same ∙ free) in
        absurd (omega (arith, le, lt, ap (λ (z : Message). z.place) same)))
    | inr was ↦ was
  ];
} where
  which : (x : Message) → Contains H'.messages x → (c ≡ x) ⊎ Contains H.messages x
  which x there = elim (Contains-append_cases adds.before (c ∷ adds.after) x (subst (λ (ms : List Message). Contains ms x) adds.new there)) [
    | inl before ↦ inr (subst (λ (ms : List Message). Contains ms x) (sym adds.old) (Contains-append_left adds.before adds.after x before))
    | inr rest ↦ elim (in_cases c x adds.after rest) [
      | inl same ↦ inl same
      | inr after ↦ inr (subst (λ (ms : List Message). Contains ms x) (sym adds.old) (Contains-append_right adds.before adds.after x after))
    ]
  ]

-- and where its messages are the same, and by what both of two do.
pub grows_same : (mark : ℤ) (m : Message) (H H' : History) → H'.messages ≡ H.messages → GrowsFrom mark m H H'
grows_same mark m H H' same =
    let back : (x : Message) → Contains H'.messages x → Contains H.messages x = λ x there. subst (λ (ms : List Message). Contains ms x) same there in
    record {
      has = λ x there its. subst (λ (ms : List Message). Contains ms x) (sym same) there;
      below = λ x there its lt. back x there;
      freed = λ link x there its free lt. back x there;
    }

pub grows_further : (mark : ℤ) (m : Message) (old mid new : History) → GrowsFrom mark m old mid → GrowsFrom mark m mid new → GrowsFrom mark m old new
grows_further mark m old mid new earlier later = record {
  has = λ x there its. later.has x (earlier.has x there its) its;
  below = λ x there its lt. earlier.below x (later.below x there its lt) its lt;
  freed = λ link x there its free lt. earlier.freed link x (later.freed link x there its free lt) its free lt;
}
