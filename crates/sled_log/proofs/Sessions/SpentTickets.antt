-- Tickets once one of them is spent.
use Rattle.std.proofs.Common.{⊎_elim, ◌≡◌, ◌≢◌, ◌∙◌, ◌==◌, ◌<◌, ◌≤◌, ◌+◌, ℕ, zero, suc, Bool, true, false, if◌then◌else◌, List, [], ◌∷◌, ◌++◌, length, map, get_or, set, sym, ap, subst, arith, refl, inl, inr, Option, None, Some, eq-eqb, length-append}
use Rattle.std.specs.List.{All, Contains, slice_get}
use Rattle.std.proofs.lemmas.Bool.{cases_lt, ne_eqb}
use Rattle.std.proofs.lemmas.List.{get_or-set_same, get_or-set_other, length-set, map-append, get_or_past}
use Rattle.std.proofs.lemmas.List.Elements.{All-cons, All-head, All-tail, All-contains, Contains-append_right}
use Rattle.std.proofs.lemmas.Bool.Decides.{nat_tests}
use Rattle.std.proofs.lemmas.Option.{same_Some}
use Rattle.sled_codec.specs.History.{Message, History}
use Rattle.sled_store.proofs.Segments.Elements.{in_first, in_cases}
use Rattle.sled_core.specs.Fits.{Awaits, fault_of, open_places, reserved_end}
use Rattle.sled_core.specs.Manifests.{manifest_page}
use Rattle.sled_core.specs.OpenPlaces.{TakesOut}
use Rattle.sled_core.proofs.Holds.Nth.{set_other, set_get}
use Rattle.sled_store.specs.Device.{Trace}
use Rattle.sled_log.specs.declared.session.opened.Opened.{Opened}
use Rattle.sled_log.specs.declared.session.tickets.Ticket.{Ticket}
use Rattle.sled_log.specs.Endings.{batch_left}
use Rattle.sled_log.specs.Made.{MayJoin}
use Rattle.sled_log.specs.RunPhases.{AreRising, BeginsBatch, HasBatch, HasTickets, IsSafe, IsTicketFor}
use Rattle.sled_log.specs.RunStates.{has_message_for, has_ticket, open_messages, places_without}

-- Places that rise.

all_without : (P : ℕ → Type 0) (place : ℕ) (ps : List ℕ) → All P ps → All P (places_without place ps)
all_without P place [] all = all
all_without P place (p ∷ ps) all = by (p == place) (All-tail P p ps all) (all_without P place ps (All-tail P p ps all)) where
  by : (o : Bool) → All P ps → All P (places_without place ps) → All P (if o then ps else p ∷ places_without place ps)
  by true tail rest = tail
  by false tail rest = All-cons P p (places_without place ps) (All-head P p ps all) rest

-- those that are left do
pub rising_without : (place : ℕ) (ps : List ℕ) → AreRising ps → AreRising (places_without place ps)
rising_without place [] rises = rises
rising_without place (p ∷ ps) rises = by (p == place) rises (rising_without place ps rises.1) where
  by : (o : Bool) → AreRising (p ∷ ps) → AreRising (places_without place ps) → AreRising (if o then ps else p ∷ places_without place ps)
  by true all rest = all.1
  by false all rest = (all_without (λ q. p < q) place ps all.0, rest)

-- they are those before it and behind it
pub without_is : (place : ℕ) (before after : List ℕ) → AreRising (before ++ place ∷ after) → places_without place (before ++ place ∷ after) ≡ before ++ after
without_is place [] after rises = ap (λ (b : Bool). if b then after else place ∷ places_without place after) (eq-eqb place place refl)
without_is place (p ∷ before) after rises =
    let less : p < place = All-contains (λ q. p < q) (before ++ place ∷ after) place rises.0 (Contains-append_right before (place ∷ after) place (in_first place after)) in
    ap (λ (b : Bool). if b then before ++ place ∷ after else p ∷ places_without place (before ++ place ∷ after)) (ne_eqb p place (λ same. omega (arith, less, same)))
    ∙ ap (λ (ps : List ℕ). p ∷ ps) (without_is place before after rises.1)

-- so what is left where one is taken out is known
pub taken_out : (place : ℕ) (old new : List ℕ) → AreRising old → TakesOut place old new → new ≡ places_without place old
taken_out place old new rises takes =
    takes.is ∙ sym (without_is place takes.before takes.after (subst AreRising takes.was rises)) ∙ ap (places_without place) (sym takes.was)

-- Messages of tickets.

abbrev places : List (Option Message) → List ℕ
places ts = map (λ m. m.place) (open_messages ts)

-- Around an open ticket, and once it is spent.
record SplitsAt (ts : List (Option Message)) (n : ℕ) (m : Message) : Type 0 where
  pub before : List Message
  pub after : List Message
  pub was : open_messages ts ≡ before ++ m ∷ after
  pub is : open_messages (set ts n None) ≡ before ++ after

split_at : (ts : List (Option Message)) (n : ℕ) (m : Message) → slice_get ts n ≡ Some (Some m) → SplitsAt ts n m
split_at [] n m there = cc
split_at (None ∷ ts) zero m there = cc
split_at (Some x ∷ ts) zero m there = let same : x ≡ m = cc in record { before = []; after = open_messages ts; was = ap (λ z. z ∷ open_messages ts) same; is = refl }
split_at (None ∷ ts) (suc n) m there = let rest = split_at ts n m there in record { before = rest.before; after = rest.after; was = rest.was; is = rest.is }
split_at (Some x ∷ ts) (suc n) m there =
    let rest = split_at ts n m there in
    record { before = x ∷ rest.before; after = rest.after; was = ap (λ (ms : List Message). x ∷ ms) rest.was; is = ap (λ (ms : List Message). x ∷ ms) rest.is }

in_open : (ts : List (Option Message)) (n : ℕ) (m : Message) → slice_get ts n ≡ Some (Some m) → Contains (open_messages ts) m
in_open ts n m there = let split = split_at ts n m there in subst (λ ms. Contains ms m) (sym split.was) (Contains-append_right split.before (m ∷ split.after) m (in_first m split.after))

-- there is one more of them before
pub spent_count : (ts : List (Option Message)) (n : ℕ) (m : Message) → slice_get ts n ≡ Some (Some m) → length (open_messages ts) ≡ length (open_messages (set ts n None)) + 1
spent_count ts n m there =
    let split = split_at ts n m there in
    ap length split.was ∙ omega (arith, length-append split.before (m ∷ split.after), length-append split.before split.after, ap (λ (ms : List Message). length ms) split.is)

-- their places are those that were but for its own
pub spent_places : (ts : List (Option Message)) (n : ℕ) (m : Message) → slice_get ts n ≡ Some (Some m) → AreRising (places ts) → places (set ts n None) ≡ places_without m.place (places ts)
spent_places ts n m there rises =
    let split = split_at ts n m there in
    let front : List ℕ = map (λ x. x.place) split.before in
    let back : List ℕ = map (λ x. x.place) split.after in
    let was : places ts ≡ front ++ m.place ∷ back = ap (map (λ x. x.place)) split.was ∙ map-append (λ x. x.place) split.before (m ∷ split.after) in
    ap (map (λ x. x.place)) split.is ∙ map-append (λ x. x.place) split.before split.after
    ∙ sym (without_is m.place front back (subst AreRising was rises)) ∙ ap (places_without m.place) (sym was)

all_above : (p : ℕ) (ms : List Message) (m : Message) → All (λ q. p < q) (map (λ x. x.place) ms) → Contains ms m → p < m.place
all_above p [] m above there = absurd (omega (arith, there.1))
all_above p (x ∷ ms) m above there = ⊎_elim
    (λ is. subst (λ z. p < z.place) is (All-head (λ q. p < q) x.place (map (λ y. y.place) ms) above))
    (λ rest. all_above p ms m (All-tail (λ q. p < q) x.place (map (λ y. y.place) ms) above) rest) (in_cases x m ms there)

-- Two tickets have two places.
pub places_differ : (ts : List (Option Message)) (i j : ℕ) (x y : Message) → AreRising (places ts) → slice_get ts i ≡ Some (Some x) → slice_get ts j ≡ Some (Some y) → (i ≡ j → ⊥) → x.place ≡ y.place → ⊥
places_differ [] i j x y rises first second apart same = cc
places_differ (t ∷ ts) zero zero x y rises first second apart same = apart refl
places_differ (None ∷ ts) zero (suc j) x y rises first second apart same = cc
places_differ (None ∷ ts) (suc i) zero x y rises first second apart same = cc
places_differ (None ∷ ts) (suc i) (suc j) x y rises first second apart same = places_differ ts i j x y rises first second (λ is. apart (ap suc is)) same
places_differ (Some a ∷ ts) zero (suc j) x y rises first second apart same =
    let here : a ≡ x = cc in let less = all_above a.place (open_messages ts) y rises.0 (in_open ts j y second) in omega (arith, less, same, ap (λ (z : Message). z.place) here)
places_differ (Some a ∷ ts) (suc i) zero x y rises first second apart same =
    let here : a ≡ y = cc in let less = all_above a.place (open_messages ts) x rises.0 (in_open ts i x first) in omega (arith, less, same, ap (λ (z : Message). z.place) here)
places_differ (Some a ∷ ts) (suc i) (suc j) x y rises first second apart same = places_differ ts i j x y rises.1 first second (λ is. apart (ap suc is)) same

-- Which pages have an open ticket.

none_has : (page : ℕ) (ts : List (Option Message)) → ((j : ℕ) (x : Message) → slice_get ts j ≡ Some (Some x) → x.page ≡ page → ⊥) → has_message_for page (open_messages ts) ≡ false
none_has page [] never = refl
none_has page (None ∷ ts) never = none_has page ts (λ j. never (suc j))
none_has page (Some x ∷ ts) never =
    ap (λ (b : Bool). if b then true else has_message_for page (open_messages ts)) (ne_eqb x.page page (never zero x refl)) ∙ none_has page ts (λ j. never (suc j))

has_without : (page : ℕ) (before : List Message) (m : Message) (after : List Message) → (m.page ≡ page → ⊥) → has_message_for page (before ++ after) ≡ has_message_for page (before ++ m ∷ after)
has_without page [] m after other = sym (ap (λ (b : Bool). if b then true else has_message_for page after) (ne_eqb m.page page other))
has_without page (x ∷ before) m after other = ap (λ (b : Bool). if x.page == page then true else b) (has_without page before m after other)

unset : (busy : List Bool) (page : ℕ) → get_or (set busy page false) page false ≡ false
unset busy page = elim (cases_lt page (length busy)) [
  | inl lt ↦ get_or-set_same busy page false false lt
  | inr far ↦ get_or_past (set busy page false) page false (omega (arith, far, length-set busy page false))
]

-- A ticket that is open, by its number.
pub ticket_there : (n : ℕ) (ts : List (Option Message)) → has_ticket n ts ≡ true → (m : Message) × (slice_get ts n ≡ Some (Some m))
ticket_there n [] has = cc
ticket_there zero (None ∷ ts) has = cc
ticket_there zero (Some m ∷ ts) has = (m, refl)
ticket_there (suc n) (t ∷ ts) has = ticket_there n ts has

-- What holds of the tickets once one of them is spent: those that are left are for their messages still.
module _ {D C : Type 0} (trace : D → Trace) (sum : List ℕ → ℕ) (old new : Opened D C) (H H' : History) (ts : List (Option Message)) (n : ℕ) (m : Message) (there : slice_get ts n ≡ Some (Some m)) (was : HasTickets trace sum old H ts)
    (tickets : new.tickets.items ≡ set old.tickets.items n None) (busy : new.busy.items ≡ set old.busy.items m.page false)
    (batch : new.batch ≡ batch_left m.page old.batch) (reserved : reserved_end new.log ≡ reserved_end old.log)
    (still : (t : Ticket) (x : Message) → Awaits old.log t.reservation x → (x.place ≡ m.place → ⊥) → Awaits new.log t.reservation x)
    (safe : (j : ℕ) (x : Message) → (x.place ≡ m.place → ⊥) → IsTicketFor trace sum old H j x → IsSafe trace sum new.log x)
    (joins : (x : Message) → (m.page ≡ x.page → ⊥) → MayJoin H x → MayJoin H' x)
    (begun : (x : Message) → x.page ≡ manifest_page → (m.page ≡ x.page → ⊥) → BeginsBatch old.log x → BeginsBatch new.log x)
    (are_all : fault_of new.log ≡ None → open_places new.log ≡ places (set ts n None)) where
  abbrev us : List (Option Message)
  us = set ts n None

  -- one that is open then was open, and isn't the one that was spent
  other : (j : ℕ) (x : Message) → slice_get us j ≡ Some (Some x) → j ≡ n → ⊥
  other j x at same = let gone : slice_get us n ≡ Some None = set_get ts n (Some m) None there in let here : slice_get us n ≡ Some (Some x) = ap (slice_get us) (sym same) ∙ at in cc

  before : (j : ℕ) (x : Message) → slice_get us j ≡ Some (Some x) → slice_get ts j ≡ Some (Some x)
  before j x at = sym (set_other ts n j None (other j x at)) ∙ at

  page_apart : (j : ℕ) (x : Message) → slice_get us j ≡ Some (Some x) → m.page ≡ x.page → ⊥
  page_apart j x at same = other j x at (sym (was.apart n j m x there (before j x at) same))

  each : (j : ℕ) (x : Message) → slice_get us j ≡ Some (Some x) → IsTicketFor trace sum new H' j x
  each j x at =
      let ne = other j x at in
      let had = was.each j x (before j x at) in
      let apart : x.place ≡ m.place → ⊥ = places_differ ts j n x m was.rising (before j x at) there ne in
      record {
        ticket = had.ticket;
        there = ap (λ (l : List (Option Ticket)). slice_get l j) tickets ∙ set_other old.tickets.items n j None ne ∙ had.there;
        kind = had.kind;
        page = had.page;
        awaits = still had.ticket x had.awaits apart;
        own = had.own;
        stored = safe j x apart had;
        joins = λ changes. joins x (page_apart j x at) (had.joins changes);
        begins_batch = λ is. begun x is (page_apart j x at) (had.begins_batch is);
        begins = subst (λ e. x.place + 1 < e) (sym reserved) had.begins;
        ends = subst (λ e. x.place + x.size ≤ e) (sym reserved) had.ends;
      }

  gone : (j : ℕ) → slice_get us j ≡ Some None → slice_get new.tickets.items j ≡ Some None
  gone j at = ap (λ (l : List (Option Ticket)). slice_get l j) tickets ∙ by (j == n) refl where
    by : (o : Bool) → (j == n) ≡ o → slice_get (set old.tickets.items n None) j ≡ Some None
    by true is =
        let same : j ≡ n = grind (arith, nat_tests, is) in
        ap (slice_get (set old.tickets.items n None)) same ∙ set_get old.tickets.items n _ None (was.each n m there).there
    by false is = let ne : j ≡ n → ⊥ = λ same. grind (arith, nat_tests, is, same) in set_other old.tickets.items n j None ne ∙ was.gone j (sym (set_other ts n j None ne) ∙ at)

  -- another page has an open ticket where it had
  others_have : (page : ℕ) → (m.page ≡ page → ⊥) → has_message_for page (open_messages us) ≡ has_message_for page (open_messages ts)
  others_have page ne = let split = split_at ts n m there in ap (has_message_for page) split.is ∙ has_without page split.before m split.after ne ∙ ap (has_message_for page) (sym split.was)

  -- and its own has none
  own_has : (page : ℕ) → page ≡ m.page → has_message_for page (open_messages us) ≡ false
  own_has page same = none_has page us (λ j x at is_of. other j x at (was.apart j n x m (before j x at) there (is_of ∙ same)))

  busy_now : (page : ℕ) → page ≢ manifest_page → get_or new.busy.items page false ≡ has_message_for page (open_messages us)
  busy_now page message = ap (λ (l : List Bool). get_or l page false) busy ∙ by (page == m.page) refl where
    by : (o : Bool) → (page == m.page) ≡ o → get_or (set old.busy.items m.page false) page false ≡ has_message_for page (open_messages us)
    by true is = let same : page ≡ m.page = grind (arith, nat_tests, is) in ap (λ p. get_or (set old.busy.items m.page false) p false) same ∙ unset old.busy.items m.page ∙ sym (own_has page same)
    by false is =
        let ne : page ≡ m.page → ⊥ = λ same. grind (arith, nat_tests, is, same) in
        get_or-set_other old.busy.items m.page page false false ne ∙ was.busy page message ∙ sym (others_have page (λ same. ne (sym same)))

  batch_now : HasBatch us new.batch
  batch_now = subst (HasBatch us) (sym batch) (by (m.page == manifest_page) refl) where
    left : (o : Option ℕ) → HasBatch ts o → (m.page ≡ manifest_page → ⊥) → HasBatch us o
    left None is ne = others_have manifest_page ne ∙ is
    left (Some b) is ne = (
      is.0,
      set_other ts n b None (λ same.
          let twice : Some (Some is.0) ≡ Some (Some m) = sym is.1 ∙ ap (slice_get ts) same ∙ there in
          ne (sym (ap (λ (x : Message). x.page) (same_Some is.0 m (same_Some (Some is.0) (Some m) twice))) ∙ is.2)) ∙ is.1,
      is.2,
    )

    by : (o : Bool) → (m.page == manifest_page) ≡ o → HasBatch us (if o then None else old.batch)
    by true is = own_has manifest_page (let same : m.page ≡ manifest_page = grind (arith, nat_tests, is) in sym same)
    by false is = left old.batch was.batch (λ same. grind (arith, nat_tests, is, same))

  pub spent_tickets : HasTickets trace sum new H' us
  spent_tickets = record {
    as_many = ap length tickets ∙ length-set old.tickets.items n None ∙ was.as_many ∙ sym (length-set ts n None);
    each = each;
    gone = gone;
    apart = λ i j x y first second same. was.apart i j x y (before i x first) (before j y second) same;
    rising = subst AreRising (sym (spent_places ts n m there was.rising)) (rising_without m.place (places ts) was.rising);
    are_all = are_all;
    busy = busy_now;
    batch = batch_now;
  }
