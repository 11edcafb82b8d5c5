-- Histories that a session makes: none is one, and a message that may come to one, or a recovery, leaves one.
use Rattle.std.proofs.Common.{⊎_elim, ◌≡◌, ◌∙◌, ◌≢◌, ◌⊎◌, ◌<◌, ◌≤◌, ◌-◌, ◌^◌, ℕ, Bool, true, false, ◌&&◌, ◌==◌, if◌then◌else◌, cond, nat_lt, List, [], ◌∷◌, ◌++◌, length, Option, Some, None, refl, sym, ap, subst, inl, inr, arith, lt-ltb, le-ltb, ltb-true, ne_eqb, eq-eqb, append-nil, length-append}
use Rattle.std.specs.List.{All, Contains, filter}
use Rattle.std.proofs.lemmas.Bool.{and_left, and_right, and_from, cases_lt, cases_eq}
use Rattle.std.proofs.lemmas.List.Elements.{All-nil, All-filter, All-contains, Contains-append_left, Contains-append_right, Contains-append_cases, filter-append}
use Rattle.sled_codec.specs.declared.result.DiskPtr.{DiskPtr}
use Rattle.sled_codec.specs.declared.result.DiskPtr.TheVariants.{Inline, Blob}
use Rattle.sled_codec.specs.declared.serialization.message.LogKind.{LogKind}
use Rattle.sled_codec.specs.declared.serialization.message.LogKind.TheVariants as does
use Rattle.sled_codec.specs.History.{Message, History, no_history, begins_page, is_replace, is_link, later_or, last_beginning, entries_from, page_state, of_page, table, below, ChangesPage, Completed, AddsMessage, Step}
use Rattle.sled_codec.specs.WellFormed.{LieApart, HasReplace, IsWellFormed, MayFollow}
use Rattle.sled_store.proofs.Histories.Ascending.{in_first, in_rest, in_cases, in_nothing, in_filter, from_filter, none_kept, all_from_in, Ascends, apart_ascends, later_above}
use Rattle.sled_store.proofs.Histories.TableParts.{from_page, split_at, earlier_below}
use Rattle.sled_store.proofs.Segments.TableEntries.{beginning_there}
use Rattle.sled_log.specs.Made.{HasBlobIn, HasReplaceBelow, IsMade, JoinsWithBlob, MayJoin}
use Rattle.sled_log.specs.Orderly.{IsOrderly}
use Rattle.sled_log.specs.PageHistories.{MayAdd}
use Rattle.sled_log.specs.RunStates.{page_now, top}
use Rattle.sled_log.proofs.Afterwards.OrderlyBelow.{orderly_below, table_of_page}
use Rattle.sled_log.proofs.PageTable.TableCuts.{below_same}
use Rattle.sled_core.proofs.Line.Accounts.{filter_alike as filter_same}

-- Filters.

-- messages of a page that lie below two cuts are the same below both
pub of_page_same : (ms : List Message) (c d page : ℕ) → ((x : Message) → Contains ms x → x.page ≡ page → (x.place < c) × (x.place < d)) → of_page ms c page ≡ of_page ms d page
unfolding of_page
of_page_same ms c d page low = filter_same (λ m. (m.page == page) && nat_lt m.place c) (λ m. (m.page == page) && nat_lt m.place d) ms (λ x there. ⊎_elim (same x there) (other x) (cases_eq x.page page)) where
  same : (x : Message) → Contains ms x → x.page ≡ page → ((x.page == page) && nat_lt x.place c) ≡ ((x.page == page) && nat_lt x.place d)
  same x there of = ap (λ (b : Bool). (x.page == page) && b) (lt-ltb x.place c (low x there of).0 ∙ sym (lt-ltb x.place d (low x there of).1))

  other : (x : Message) → (x.page ≡ page → ⊥) → ((x.page == page) && nat_lt x.place c) ≡ ((x.page == page) && nat_lt x.place d)
  other x ne =
      let test : (x.page == page) ≡ false = ne_eqb x.page page ne in
      and_left (x.page == page) (nat_lt x.place c) test ∙ sym (and_left (x.page == page) (nat_lt x.place d) test)

-- One more message of a page, behind all others of it.

-- what it makes of the state of its page
abbrev pub joined : LogKind → Message → List Message → List Message
joined does.Replace m es = m ∷ []
joined does.Free m es = m ∷ []
joined does.Link m [] = []
joined does.Link m (b ∷ es) = if is_replace b.kind then b ∷ (es ++ m ∷ []) else b ∷ es
joined does.Skip m es = es
joined does.Corrupted m es = es

or_none : (o : Option Message) → later_or o None ≡ o
or_none None = refl
or_none (Some x) = refl

or_or : (a b c : Option Message) → later_or (later_or a b) c ≡ later_or a (later_or b c)
or_or None b c = refl
or_or (Some x) b c = refl

-- it is the last beginning, or that stays
last_push : (ms : List Message) (m : Message) → last_beginning (ms ++ m ∷ []) ≡ later_or (if begins_page m.kind then Some m else None) (last_beginning ms)
last_push [] m = sym (or_none (if begins_page m.kind then Some m else None))
last_push (y ∷ ys) m =
    ap (λ (o : Option Message). later_or o (if begins_page y.kind then Some y else None)) (last_push ys m)
    ∙ or_or (if begins_page m.kind then Some m else None) (last_beginning ys) (if begins_page y.kind then Some y else None)

module _ (ms : List Message) (m : Message) (low : All (λ x. x.place < m.place) ms) where
  -- nothing lies behind it
  none_behind : (x : Message) → Contains (ms ++ m ∷ []) x → (is_link x.kind && nat_lt m.place x.place) ≡ false
  none_behind x there = and_right (is_link x.kind) (nat_lt m.place x.place) (le-ltb m.place x.place (⊎_elim lower last (Contains-append_cases ms (m ∷ []) x there))) where
    lower : Contains ms x → x.place ≤ m.place
    lower at = let lt = All-contains (λ z. z.place < m.place) ms x low at in omega (arith, lt)

    last : Contains (m ∷ []) x → x.place ≤ m.place
    last at = ⊎_elim (λ is. omega (arith, ap (λ (z : Message). z.place) is)) (λ rest. absurd (in_nothing x rest)) (in_cases m x [] at)

  alone : (t : Bool) → m ∷ (if t then filter (λ x. is_link x.kind && nat_lt m.place x.place) (ms ++ m ∷ []) else []) ≡ m ∷ []
  alone true = ap (λ (l : List Message). m ∷ l)
      (none_kept (λ x. is_link x.kind && nat_lt m.place x.place) (ms ++ m ∷ []) (all_from_in (λ x. (is_link x.kind && nat_lt m.place x.place) ≡ false) (ms ++ m ∷ []) none_behind))
  alone false = refl

  -- a Link is put on the last Replace
  put_behind : (b : Message) (t : Bool) → m.kind ≡ does.Link → b.place < m.place
      → b ∷ (if t then filter (λ x. is_link x.kind && nat_lt b.place x.place) (ms ++ m ∷ []) else [])
      ≡ (if t then b ∷ ((if t then filter (λ x. is_link x.kind && nat_lt b.place x.place) ms else []) ++ m ∷ []) else b ∷ (if t then filter (λ x. is_link x.kind && nat_lt b.place x.place) ms else []))
  put_behind b true link lt =
      let passes : (is_link m.kind && nat_lt b.place m.place) ≡ true = and_from (is_link m.kind) (nat_lt b.place m.place) (ap is_link link) (lt-ltb b.place m.place lt) in
      ap (λ (l : List Message). b ∷ l) (filter-append (λ x. is_link x.kind && nat_lt b.place x.place) ms (m ∷ [])
      ∙ ap (λ (c : Bool). filter (λ x. is_link x.kind && nat_lt b.place x.place) ms ++ cond c (m ∷ []) []) passes)
  put_behind b false link lt = refl

  linked_on : (o : Option Message) → m.kind ≡ does.Link → ((b : Message) → o ≡ Some b → Contains ms b) → entries_from o (ms ++ m ∷ []) ≡ joined does.Link m (entries_from o ms)
  linked_on None link there = refl
  linked_on (Some b) link there = put_behind b (is_replace b.kind) link (All-contains (λ x. x.place < m.place) ms b low (there b refl))

  -- so the state of its page is this
  pub state_push : ChangesPage m.kind → page_state (ms ++ m ∷ []) ≡ joined m.kind m (page_state ms)
  unfolding page_state
  state_push changes = ap (λ (o : Option Message). entries_from o (ms ++ m ∷ [])) (last_push ms m) ∙ by_kind changes where
    by_kind : ChangesPage m.kind → entries_from (later_or (if begins_page m.kind then Some m else None) (last_beginning ms)) (ms ++ m ∷ []) ≡ joined m.kind m (entries_from (last_beginning ms) ms)
    by_kind (inl is) =
        ap (λ (k : LogKind). entries_from (later_or (if begins_page k then Some m else None) (last_beginning ms)) (ms ++ m ∷ [])) is
        ∙ alone (is_replace m.kind) ∙ ap (λ (k : LogKind). joined k m (entries_from (last_beginning ms) ms)) (sym is)
    by_kind (inr (inl is)) =
        ap (λ (k : LogKind). entries_from (later_or (if begins_page k then Some m else None) (last_beginning ms)) (ms ++ m ∷ [])) is
        ∙ linked_on (last_beginning ms) is (beginning_there ms) ∙ ap (λ (k : LogKind). joined k m (entries_from (last_beginning ms) ms)) (sym is)
    by_kind (inr (inr is)) =
        ap (λ (k : LogKind). entries_from (later_or (if begins_page k then Some m else None) (last_beginning ms)) (ms ++ m ∷ [])) is
        ∙ alone (is_replace m.kind) ∙ ap (λ (k : LogKind). joined k m (entries_from (last_beginning ms) ms)) (sym is)

-- it has no more entries than a page may have
joined_few : (k : LogKind) (m : Message) (es : List Message) → length es ≤ 255 → (k ≡ does.Link → length es ≤ 254) → length (joined k m es) ≤ 255
joined_few does.Replace m es few room = omega arith
joined_few does.Free m es few room = omega arith
joined_few does.Link m [] few room = omega arith
joined_few does.Link m (b ∷ es) few room = by (is_replace b.kind) (room refl) where
  by : (t : Bool) → length (b ∷ es) ≤ 254 → length (if t then b ∷ (es ++ m ∷ []) else b ∷ es) ≤ 255
  by true short = omega (arith, short, length-append es (m ∷ []))
  by false short = few
joined_few does.Skip m es few room = few
joined_few does.Corrupted m es few room = few

-- What messages stand on.

-- A message replaces its page, or a Replace of it lies below it, and one of each lower page.
pub record HasGround (H : History) (m : Message) : Type 0 where
  pub own : (m.kind ≡ does.Replace) ⊎ HasReplaceBelow H m.page m.place
  pub lower : (page : ℕ) → page < m.page → HasReplaceBelow H page m.place

-- so does each of a history that is well formed
pub grounds : (H : History) → IsWellFormed H → (x : Message) → Contains H.messages x → HasGround H x
grounds H formed x there = record {
  own = ⊎_elim inl (λ has. inr (from_before x.page has)) follows.own;
  lower = λ page lt. from_before page (follows.lower page lt);
} where
  split : (before : List Message) × (after : List Message) × (H.messages ≡ before ++ x ∷ after)
  split = split_at H.messages x there

  follows : MayFollow split.0 x
  follows = formed.begun split.0 x split.1 split.2

  from_before : (page : ℕ) → HasReplace split.0 page → HasReplaceBelow H page x.place
  from_before page has = record {
    message = has.message;
    there = subst (λ (ms : List Message). Contains ms has.message) (sym split.2) (Contains-append_left split.0 (x ∷ split.1) has.message has.there);
    of = has.of;
    replaces = has.replaces;
    below = earlier_below split.0 x split.1 has.message (subst Ascends split.2 (apart_ascends H.messages formed.apart)) has.there;
  }

-- what lies below a message comes before it
pub lower_before : (before : List Message) (m : Message) (after : List Message) (x : Message) → Ascends (before ++ m ∷ after) → Contains (before ++ m ∷ after) x → x.place < m.place → Contains before x
lower_before [] m after x order there lt =
    ⊎_elim (λ is. absurd (omega (arith, lt, ap (λ (z : Message). z.place) is))) (λ rest. absurd (omega (arith, lt, later_above m after x order rest))) (in_cases m x after there)
lower_before (y ∷ before) m after x order there lt =
    ⊎_elim (λ is. subst (Contains (y ∷ before)) is (in_first y before)) (λ rest. in_rest y x before (lower_before before m after x order.1 rest lt)) (in_cases y x (before ++ m ∷ after) there)

-- where each does, each may come after those before it
begun_from : (H : History) → LieApart H.messages → ((x : Message) → Contains H.messages x → HasGround H x)
    → (before : List Message) (m : Message) (after : List Message) → H.messages ≡ before ++ m ∷ after → MayFollow before m
begun_from H apart ground before m after split = record {
  own = ⊎_elim inl (λ has. inr (replaced has)) on.own;
  lower = λ page lt. replaced (on.lower page lt);
} where
  on : HasGround H m
  on = ground m (subst (λ (ms : List Message). Contains ms m) (sym split) (Contains-append_right before (m ∷ after) m (in_first m after)))

  replaced : {page : ℕ} → HasReplaceBelow H page m.place → HasReplace before page
  replaced has = record {
    message = has.message;
    there = lower_before before m after has.message (subst Ascends split (apart_ascends H.messages apart)) (subst (λ (ms : List Message). Contains ms has.message) split has.there) has.below;
    of = has.of;
    replaces = has.replaces;
  }

-- The blobs of messages.

-- a blob that is at the place of a message is so among more messages
pub blob_among : (H H' : History) (m : Message) (p : DiskPtr) → ((x : Message) → Contains H.messages x → Contains H'.messages x) → HasBlobIn H m p → HasBlobIn H' m p
blob_among H H' m (Inline lid) stay has = tt
blob_among H H' m (Blob lid place) stay has = (has.0, stay has.0 has.1, has.2, has.3, has.4)

-- and one that comes may come still, where its page is what it was
pub joins_among : (H H' : History) (m : Message) (p : DiskPtr) → ((x : Message) → Contains H.messages x → Contains H'.messages x) → page_now H' m.page ≡ page_now H m.page → JoinsWithBlob H m p
    → JoinsWithBlob H' m p
joins_among H H' m (Inline lid) stay same joins = tt
joins_among H H' m (Blob lid place) stay same joins = ⊎_elim inl
    (λ has. inr (has.0, stay has.0 has.1, has.2, has.3, has.4, (has.5.0, subst (λ (l : List Message). Contains l has.5.0) (sym same) has.5.1, has.5.2))) joins

-- and that of a message that comes is, once that is there
blob_joined : (H H' : History) (m : Message) (p : DiskPtr) → ((x : Message) → Contains H.messages x → Contains H'.messages x) → Contains H'.messages m → JoinsWithBlob H m p → HasBlobIn H' m p
blob_joined H H' m (Inline lid) stay there joins = tt
blob_joined H H' m (Blob lid place) stay there joins = ⊎_elim
    (λ own. (m, there, omega arith, own, refl))
    (λ has. (has.0, stay has.0 has.1, (let low = has.2 in omega (arith, low)), has.3, has.4)) joins

-- A run begins with none.

none_state : (cut page : ℕ) → length (table no_history cut page) ≤ 255
unfolding table of_page page_state
none_state cut page = omega arith

pub none_made : IsMade no_history
none_made = record {
  orderly = record {
    formed = record {
      apart = tt;
      kinds = All-nil (λ m. ChangesPage m.kind);
      begun = begun_from no_history tt (λ x there. absurd (in_nothing x there));
      pages = All-nil (λ m. m.page ≢ 2 ^ 64 - 1);
    };
    few = none_state;
  };
  blobs = λ m there. absurd (in_nothing m there);
  low = All-nil (λ m. m.place < top);
}

-- A message that is completed.

module _ (H H' : History) (m : Message) (adds : AddsMessage H m H') where
  -- what was there is there still
  pub stays_in : (x : Message) → Contains H.messages x → Contains H'.messages x
  stays_in x there = subst (λ (ms : List Message). Contains ms x) (sym adds.new) (⊎_elim
      (λ lower. Contains-append_left adds.before (m ∷ adds.after) x lower)
      (λ higher. Contains-append_right adds.before (m ∷ adds.after) x (in_rest m x adds.after higher))
      (Contains-append_cases adds.before adds.after x (subst (λ (ms : List Message). Contains ms x) adds.old there)))

  -- and the message itself
  comes_in : Contains H'.messages m
  comes_in = subst (λ (ms : List Message). Contains ms m) (sym adds.new) (Contains-append_right adds.before (m ∷ adds.after) m (in_first m adds.after))

  -- a message that is there now came, or was there
  pub came_in : (x : Message) → Contains H'.messages x → (m ≡ x) ⊎ Contains H.messages x
  came_in x there = ⊎_elim
      (λ lower. inr (was (Contains-append_left adds.before adds.after x lower)))
      (λ rest. ⊎_elim inl (λ higher. inr (was (Contains-append_right adds.before adds.after x higher))) (in_cases m x adds.after rest))
      (Contains-append_cases adds.before (m ∷ adds.after) x (subst (λ (ms : List Message). Contains ms x) adds.new there)) where
        was : Contains (adds.before ++ adds.after) x → Contains H.messages x
        was at = subst (λ (ms : List Message). Contains ms x) (sym adds.old) at

  -- what holds of it and of those that were there holds of all
  pub each : (P : Message → Type 0) → P m → All P H.messages → All P H'.messages
  each P new old = all_from_in P H'.messages (λ x there. ⊎_elim (λ at. subst P at new) (λ was. All-contains P H.messages x old was) (came_in x there))

  -- what lies below a place lies there still
  still_replaced : {page place : ℕ} → HasReplaceBelow H page place → HasReplaceBelow H' page place
  still_replaced has = record { message = has.message; there = stays_in has.message has.there; of = has.of; replaces = has.replaces; below = has.below }

  still_grounded : (x : Message) → HasGround H x → HasGround H' x
  still_grounded x on = record { own = ⊎_elim inl (λ has. inr (still_replaced has)) on.own; lower = λ page lt. still_replaced (on.lower page lt) }

  -- what a test keeps that the message fails
  pub kept_without : (p : Message → Bool) → p m ≡ false → filter p H'.messages ≡ filter p H.messages
  kept_without p fails =
      ap (filter p) adds.new ∙ filter-append p adds.before (m ∷ adds.after)
      ∙ ap (λ (b : Bool). filter p adds.before ++ cond b (m ∷ filter p adds.after) (filter p adds.after)) fails
      ∙ sym (ap (filter p) adds.old ∙ filter-append p adds.before adds.after)

  -- and what one keeps that it passes, where no later one does
  kept_last : (p : Message → Bool) → p m ≡ true → ((x : Message) → Contains adds.after x → p x ≡ false) → filter p H'.messages ≡ filter p H.messages ++ m ∷ []
  kept_last p passes none =
      let rest : filter p adds.after ≡ [] = none_kept p adds.after (all_from_in (λ x. p x ≡ false) adds.after none) in
      let old : filter p H.messages ≡ filter p adds.before =
      ap (filter p) adds.old ∙ filter-append p adds.before adds.after ∙ ap (λ (l : List Message). filter p adds.before ++ l) rest ∙ append-nil (filter p adds.before) in
      ap (filter p) adds.new ∙ filter-append p adds.before (m ∷ adds.after)
      ∙ ap (λ (b : Bool). filter p adds.before ++ cond b (m ∷ filter p adds.after) (filter p adds.after)) passes
      ∙ ap (λ (l : List Message). filter p adds.before ++ m ∷ l) rest ∙ ap (λ (l : List Message). l ++ m ∷ []) (sym old)

  -- the other pages have the messages that they had
  others_same : (cut page : ℕ) → (m.page ≡ page → ⊥) → table H' cut page ≡ table H cut page
  unfolding table of_page
  others_same cut page ne =
      ap page_state (kept_without (λ x. (x.page == page) && nat_lt x.place cut) (and_left (m.page == page) (nat_lt m.place cut) (ne_eqb m.page page ne)))

  -- and so do all, below a cut that the message doesn't lie below
  lower_same : (cut page : ℕ) → cut ≤ m.place → table H' cut page ≡ table H cut page
  unfolding table of_page
  lower_same cut page le =
      ap page_state (kept_without (λ x. (x.page == page) && nat_lt x.place cut) (and_right (m.page == page) (nat_lt m.place cut) (le-ltb m.place cut le)))

  -- Where it lies behind all of its page.
  module _ (changes : ChangesPage m.kind) (later : (x : Message) → Contains H.messages x → x.page ≡ m.page → x.place < m.place) where
    -- no later one is of its page
    none_later : (cut : ℕ) (x : Message) → Contains adds.after x → ((x.page == m.page) && nat_lt x.place cut) ≡ false
    none_later cut x there = ⊎_elim
        (λ of. absurd (omega (arith, adds.higher x there, later x (subst (λ (ms : List Message). Contains ms x) (sym adds.old) (Contains-append_right adds.before adds.after x there)) of)))
        (λ ne. and_left (x.page == m.page) (nat_lt x.place cut) (ne_eqb x.page m.page ne)) (cases_eq x.page m.page)

    -- its page has it behind those that it had
    own_last : (cut : ℕ) → m.place < cut → of_page H'.messages cut m.page ≡ of_page H.messages cut m.page ++ m ∷ []
    unfolding of_page
    own_last cut lt =
        kept_last (λ x. (x.page == m.page) && nat_lt x.place cut) (and_from (m.page == m.page) (nat_lt m.place cut) (eq-eqb m.page m.page refl) (lt-ltb m.place cut lt)) (none_later cut)

    own_lower : (cut : ℕ) → All (λ x. x.place < m.place) (of_page H.messages cut m.page)
    own_lower cut = all_from_in (λ x. x.place < m.place) (of_page H.messages cut m.page) (λ x there. let found = from_page H.messages cut m.page x there in later x found.0 found.1)

    own_table : (cut : ℕ) → m.place < cut → table H' cut m.page ≡ joined m.kind m (table H cut m.page)
    unfolding table
    own_table cut lt = ap page_state (own_last cut lt) ∙ state_push (of_page H.messages cut m.page) m (own_lower cut) changes

    -- all that its page had lies below it
    own_earlier : (cut : ℕ) → m.place < cut → table H cut m.page ≡ table H m.place m.page
    unfolding table
    own_earlier cut lt = ap page_state (of_page_same H.messages cut m.place m.page (λ x there of. let under = later x there of in (omega (arith, under, lt), under)))

  -- Where it may come to an orderly history.
  module _ (may : MayAdd H m) where
    few_still : IsOrderly H → (cut page : ℕ) → length (table H' cut page) ≤ 255
    few_still orderly cut page = ⊎_elim same (λ ne. omega (arith, ap (λ (l : List Message). length l) (others_same cut page ne), orderly.few cut page)) (cases_eq m.page page) where
      beyond : m.place < cut → length (table H' cut m.page) ≤ 255
      beyond lt =
          let few = joined_few m.kind m (table H cut m.page) (orderly.few cut m.page) (λ link. let short = may.few link in omega (arith, short, ap (λ (l : List Message). length l) (own_earlier may.changes may.later cut lt))) in
          omega (arith, few, ap (λ (l : List Message). length l) (own_table may.changes may.later cut lt))

      same : m.page ≡ page → length (table H' cut page) ≤ 255
      same of = ⊎_elim
          (λ lt. subst (λ (n : ℕ). length (table H' cut n) ≤ 255) of (beyond lt))
          (λ le. omega (arith, ap (λ (l : List Message). length l) (lower_same cut page le), orderly.few cut page)) (cases_lt m.place cut)

    grounded : IsOrderly H → (x : Message) → Contains H'.messages x → HasGround H' x
    grounded orderly x there = still_grounded x (⊎_elim
        (λ is. subst (λ (z : Message). HasGround H z) is (record { own = may.own; lower = may.lower }))
        (grounds H orderly.formed x) (came_in x there))

    -- it leaves an orderly one
    stays_orderly : IsOrderly H → LieApart H'.messages → IsOrderly H'
    stays_orderly orderly apart = record {
      formed = record {
        apart = apart;
        kinds = each (λ x. ChangesPage x.kind) may.changes orderly.formed.kinds;
        begun = begun_from H' apart (grounded orderly);
        pages = each (λ x. x.page ≢ 2 ^ 64 - 1) may.page orderly.formed.pages;
      };
      few = few_still orderly;
    }

  module _ (may : MayJoin H m) where
    can_add : MayAdd H m
    can_add = record {
      changes = may.changes;
      page = λ same. let small = may.small in omega (arith, small, same);
      own = may.own;
      lower = may.lower;
      later = may.later;
      few = λ link. let short = may.few link in omega (arith, short, ap (λ (l : List Message). length l) (own_earlier may.changes may.later top may.low));
    }

    joins : IsMade H → LieApart H'.messages → IsMade H'
    joins made apart = record {
      orderly = stays_orderly can_add made.orderly apart;
      blobs = λ x there. ⊎_elim
          (λ is. subst (λ (z : Message). HasBlobIn H' z z.pointer) is (blob_joined H H' m m.pointer stays_in comes_in may.blob))
          (λ was. blob_among H H' x x.pointer stays_in (made.blobs x was)) (came_in x there);
      low = each (λ x. x.place < top) may.low made.low;
    }

    -- a message of another page may still come
    others_may : (n : Message) → (m.page ≡ n.page → ⊥) → MayJoin H n → MayJoin H' n
    others_may n ne next = record {
      changes = next.changes;
      small = next.small;
      blob = joins_among H H' n n.pointer stays_in (others_same top n.page ne) next.blob;
      low = next.low;
      own = on.own;
      lower = on.lower;
      later = λ x there of. ⊎_elim (λ is. absurd (ne (ap (λ (z : Message). z.page) is ∙ of))) (λ was. next.later x was of) (came_in x there);
      few = λ link. let short = next.few link in omega (arith, short, ap (λ (l : List Message). length l) (others_same top n.page ne));
    } where
      on : HasGround H' n
      on = still_grounded n (record { own = next.own; lower = next.lower })

-- An orderly history stays orderly behind a message that may come, where its record lies apart from the others.
pub orderly_added : (H H' : History) (m : Message) → IsOrderly H → MayAdd H m → Step H (Completed m) H' → LieApart H'.messages → IsOrderly H'
unfolding Step
orderly_added H H' m orderly may step apart = stays_orderly H H' m step may orderly apart

-- A message that may come leaves one, where its record lies apart from the others.
pub made_completed : (H H' : History) (m : Message) → IsMade H → MayJoin H m → Step H (Completed m) H' → LieApart H'.messages → IsMade H'
unfolding Step
made_completed H H' m made may step apart = joins H H' m step may made apart

-- a message of another page may come then, if it could before
pub join_still : (H H' : History) (m n : Message) → MayJoin H m → Step H (Completed m) H' → (m.page ≡ n.page → ⊥) → MayJoin H n → MayJoin H' n
unfolding Step
join_still H H' m n may step ne next = others_may H H' m step may n ne next

-- the other pages are what they were
pub page_others : (H H' : History) (m : Message) → Step H (Completed m) H' → (page : ℕ) → (m.page ≡ page → ⊥) → page_now H' page ≡ page_now H page
unfolding Step
page_others H H' m step page ne = others_same H H' m step top page ne

-- and its own is the one that it makes of it
pub page_joined : (H H' : History) (m : Message) → MayJoin H m → Step H (Completed m) H' → page_now H' m.page ≡ joined m.kind m (page_now H m.page)
unfolding Step
page_joined H H' m may step = own_table H H' m step may.changes may.later top may.low

-- a message of the history is there still, and so is the new one, and no other
pub stays : (H H' : History) (m : Message) → Step H (Completed m) H' → (x : Message) → Contains H.messages x → Contains H'.messages x
unfolding Step
stays H H' m step x there = stays_in H H' m step x there

pub new_there : (H H' : History) (m : Message) → Step H (Completed m) H' → Contains H'.messages m
unfolding Step
new_there H H' m step = comes_in H H' m step

pub came : (H H' : History) (m : Message) → Step H (Completed m) H' → (x : Message) → Contains H'.messages x → (m ≡ x) ⊎ Contains H.messages x
unfolding Step
came H H' m step x there = came_in H H' m step x there

-- What lies below a cut.

-- a message below the cut is there, and no other
pub below_in : (H : History) (cut : ℕ) (m : Message) → Contains H.messages m → m.place < cut → Contains (below H cut).messages m
unfolding below
below_in H cut m there lt = in_filter (λ x. nat_lt x.place cut) H.messages m there (lt-ltb m.place cut lt)

pub from_below : (H : History) (cut : ℕ) (m : Message) → Contains (below H cut).messages m → Contains H.messages m × (m.place < cut)
unfolding below
from_below H cut m there = let found = from_filter (λ x. nat_lt x.place cut) H.messages m there in (found.0, ltb-true m.place cut found.1)

-- all of it lies below a higher cut
pub below_whole : (H : History) (cut c page : ℕ) → cut ≤ c → of_page (below H cut).messages c page ≡ of_page H.messages cut page
below_whole H cut c page le = table_of_page H cut c page le ∙ below_same H cut cut page (omega arith)

-- the blob of a message below the cut is at the place of one below the cut
blob_below : (H : History) (cut : ℕ) (m : Message) (p : DiskPtr) → m.place < cut → HasBlobIn H m p → HasBlobIn (below H cut) m p
blob_below H cut m (Inline lid) lt has = tt
blob_below H cut m (Blob lid place) lt has = (has.0, below_in H cut has.0 has.1 (let le = has.2 in omega (arith, le, lt)), has.2, has.3, has.4)

-- A recovery leaves one, whatever the cut.
pub made_below : (H : History) (cut : ℕ) → IsMade H → IsMade (below H cut)
unfolding below
made_below H cut made = record {
  orderly = orderly_below H cut made.orderly;
  blobs = λ m there. let found = from_below H cut m there in blob_below H cut m m.pointer found.1 (made.blobs m found.0);
  low = All-filter (λ m. nat_lt m.place cut) (λ m. m.place < top) H.messages made.low;
}
