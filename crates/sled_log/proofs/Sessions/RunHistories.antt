-- A history of Replaces is orderly, and a Replace that is completed, or a recovery, leaves one.
use Rattle.std.proofs.Common.{◌≡◌, ◌∙◌, ◌≢◌, ◌⊎◌, ◌<◌, ◌≤◌, ◌-◌, ◌^◌, ℕ, Bool, true, false, ◌&&◌, ◌==◌, if◌then◌else◌, cond, nat_lt, List, [], ◌∷◌, ◌++◌, length, Option, Some, None, refl, sym, ap, subst, inl, inr, arith}
use Rattle.std.specs.List.{All, Contains, filter}
use Rattle.std.proofs.lemmas.List.Elements.{All-nil, All-head, All-tail, All-weaker, All-filter, All-contains, Contains-append_right}
use Rattle.sled_codec.specs.declared.serialization.message.LogKind.{LogKind}
use Rattle.sled_codec.specs.declared.serialization.message.LogKind.TheVariants.{Replace}
use Rattle.sled_codec.specs.History.{Message, History, no_history, is_replace, is_link, last_beginning, entries_from, page_state, of_page, table, below, Completed, AddsMessage, Step}
use Rattle.sled_codec.specs.WellFormed.{LieApart, ChangesPage, HasReplace, MayFollow}
use Rattle.sled_log.specs.Orderly.{IsOrderly}
use Rattle.sled_store.proofs.Histories.Ascending.{in_first, in_nothing, filter_sublist, Ascends, apart_ascends}
use Rattle.sled_log.specs.Replaces.{HasBelow, IsOfReplaces, MayCome}
use Rattle.sled_log.proofs.PageTable.PageRuns.{links_behind}
use Rattle.sled_log.proofs.Afterwards.OrderlyBelow.{sublist_apart}
use Rattle.sled_log.proofs.Sessions.MadeHistories.{lower_before, stays_in, came_in, each, below_in, from_below}

-- A history of Replaces.

-- Replaces have no Link among them
pub no_links : (place : ℕ) (ms : List Message) → All (λ m. m.kind ≡ Replace) ms → links_behind place ms ≡ []
no_links place [] replaces = refl
no_links place (m ∷ ms) replaces =
    ap (λ (k : LogKind). cond (is_link k && nat_lt place m.place) (m ∷ links_behind place ms) (links_behind place ms)) (All-head (λ x. x.kind ≡ Replace) m ms replaces)
    ∙ no_links place ms (All-tail (λ x. x.kind ≡ Replace) m ms replaces)

-- so they leave their page one entry at most
one_entry : (ms : List Message) → All (λ m. m.kind ≡ Replace) ms → length (page_state ms) ≤ 1
unfolding page_state
one_entry ms replaces = by_last (last_beginning ms) where
  by_kind : (b : Message) (t : Bool) → length (b ∷ (if t then links_behind b.place ms else [])) ≤ 1
  by_kind b true = omega (arith, ap (λ (l : List Message). length l) (no_links b.place ms replaces))
  by_kind b false = omega arith

  by_last : (o : Option Message) → length (entries_from o ms) ≤ 1
  by_last None = omega arith
  by_last (Some b) = by_kind b (is_replace b.kind)

module _ (H : History) (is : IsOfReplaces H) where
  replaces_its_page : (m : Message) → Contains H.messages m → m.kind ≡ Replace
  replaces_its_page m there = All-contains (λ x. x.kind ≡ Replace) H.messages m is.replaces there

  -- each message may come after those before it
  follows : (before : List Message) (m : Message) (after : List Message) → H.messages ≡ before ++ m ∷ after → MayFollow before m
  follows before m after split = record {
    own = inl (replaces_its_page m there);
    lower = λ page lt. replaced (is.lower m there page lt);
  } where
    there : Contains H.messages m
    there = subst (λ (ms : List Message). Contains ms m) (sym split) (Contains-append_right before (m ∷ after) m (in_first m after))

    replaced : {page : ℕ} → HasBelow H.messages page m.place → HasReplace before page
    replaced has = record {
      message = has.message;
      there = lower_before before m after has.message (subst Ascends split (apart_ascends H.messages is.apart)) (subst (λ (ms : List Message). Contains ms has.message) split has.there) has.below;
      of = has.of;
      replaces = replaces_its_page has.message has.there;
    }

  -- no page has a Link
  few_entries : (cut page : ℕ) → length (table H cut page) ≤ 255
  unfolding table of_page
  few_entries cut page =
      let one = one_entry (of_page H.messages cut page) (All-filter (λ m. (m.page == page) && nat_lt m.place cut) (λ m. m.kind ≡ Replace) H.messages is.replaces) in
      omega (arith, one)

-- A history of Replaces is one that recovery goes on from.
pub orderly : (H : History) → IsOfReplaces H → IsOrderly H
orderly H is = record {
  formed = record {
    apart = is.apart;
    kinds = All-weaker (λ m. m.kind ≡ Replace) (λ m. ChangesPage m.kind) (λ m replaces. inl replaces) H.messages is.replaces;
    begun = follows H is;
    pages = All-weaker (λ m. m.page < 2 ^ 64 - 1) (λ m. m.page ≢ 2 ^ 64 - 1) (λ m small same. omega (arith, small, same)) H.messages is.pages;
  };
  few = few_entries H is;
}

-- A run begins with one.
pub none_orderly : IsOfReplaces no_history
none_orderly = record {
  apart = tt;
  replaces = All-nil (λ m. m.kind ≡ Replace);
  pages = All-nil (λ m. m.page < 2 ^ 64 - 1);
  lower = λ m there page lt. absurd (in_nothing m there);
}

-- A message that is completed.

module _ (H H' : History) (m : Message) (adds : AddsMessage H m H') where
  -- what lies below a place lies there still
  still_below : (page place : ℕ) → HasBelow H.messages page place → HasBelow H'.messages page place
  still_below page place has = record { message = has.message; there = stays_in H H' m adds has.message has.there; of = has.of; below = has.below }

  added : IsOfReplaces H → MayCome H m → LieApart H'.messages → IsOfReplaces H'
  added is may apart = record {
    apart = apart;
    replaces = each H H' m adds (λ x. x.kind ≡ Replace) may.replaces is.replaces;
    pages = each H H' m adds (λ x. x.page < 2 ^ 64 - 1) may.small is.pages;
    lower = λ x there page lt. still_below page x.place (lower x (came_in H H' m adds x there) page lt);
  } where
    lower : (x : Message) → (m ≡ x) ⊎ Contains H.messages x → (page : ℕ) → page < x.page → HasBelow H.messages page x.place
    lower x (inl at) = subst (λ (z : Message). (page : ℕ) → page < z.page → HasBelow H.messages page z.place) at may.lower
    lower x (inr was) = is.lower x was

-- A Replace that may come leaves one, where its record lies apart from the others.
pub completed : (H H' : History) (m : Message) → IsOfReplaces H → MayCome H m → Step H (Completed m) H' → LieApart H'.messages → IsOfReplaces H'
unfolding Step
completed H H' m is may step apart = added H H' m step is may apart

-- What lies below a cut.

-- A recovery leaves one, whatever the cut.
pub forgotten : (H : History) (cut : ℕ) → IsOfReplaces H → IsOfReplaces (below H cut)
unfolding below
forgotten H cut is = record {
  apart = sublist_apart (filter under H.messages) H.messages (filter_sublist under H.messages) is.apart;
  replaces = All-filter under (λ m. m.kind ≡ Replace) H.messages is.replaces;
  pages = All-filter under (λ m. m.page < 2 ^ 64 - 1) H.messages is.pages;
  lower = λ m there page lt. let found = from_below H cut m there in still found.1 (is.lower m found.0 page lt);
} where
  under : Message → Bool
  under = λ m. nat_lt m.place cut

  still : {page place : ℕ} → place < cut → HasBelow H.messages page place → HasBelow (below H cut).messages page place
  still lt has = record { message = has.message; there = below_in H cut has.message has.there (let low = has.below in omega (arith, low, lt)); of = has.of; below = has.below }
