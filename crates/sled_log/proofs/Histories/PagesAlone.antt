-- A table has of a page what the messages of that page make of it, so a history of some pages alone has their tables, and what is completed for others doesn't change it.
use Rattle.std.proofs.Common.{◌≡◌, ◌∙◌, ℕ, Bool, true, false, ◌&&◌, ◌==◌, cond, nat_lt, List, [], ◌∷◌, ◌++◌, refl, sym, ap, eqb-true}
use Rattle.std.specs.List.{filter}
use Rattle.std.proofs.lemmas.Bool.{and_parts}
use Rattle.std.proofs.lemmas.List.Elements.{filter-append}
use Rattle.sled_codec.specs.History.{Message, History, Batch, Batched, Completed, Step, below, of_page, page_state, table}
use Rattle.sled_codec.specs.WellFormed.{LieApart}
use Rattle.sled_store.proofs.Histories.Ascending.{filter_sublist, from_filter}
use Rattle.sled_log.specs.PageHistories.{of_pages}
use Rattle.sled_log.proofs.Afterwards.OrderlyBelow.{sublist_apart}
use Rattle.sled_log.proofs.PageTable.TableCuts.{filter_twice}
use Rattle.sled_log.proofs.Sessions.MadeHistories.{kept_without}

-- two filters may change places
filters_swapped : {X : Type 0} (p q : X → Bool) (xs : List X) → filter p (filter q xs) ≡ filter q (filter p xs)
filters_swapped p q [] = refl
filters_swapped {X} p q (x ∷ xs) = by (p x) (q x) refl refl (filters_swapped p q xs) where
  by : (s t : Bool) → p x ≡ s → q x ≡ t → filter p (filter q xs) ≡ filter q (filter p xs)
      → filter p (cond t (x ∷ filter q xs) (filter q xs)) ≡ filter q (cond s (x ∷ filter p xs) (filter p xs))
  by true true first second rest =
      ap (λ (b : Bool). cond b (x ∷ filter p (filter q xs)) (filter p (filter q xs))) first ∙ ap (λ (l : List X). x ∷ l) rest
      ∙ sym (ap (λ (b : Bool). cond b (x ∷ filter q (filter p xs)) (filter q (filter p xs))) second)
  by true false first second rest = rest ∙ sym (ap (λ (b : Bool). cond b (x ∷ filter q (filter p xs)) (filter q (filter p xs))) second)
  by false true first second rest = ap (λ (b : Bool). cond b (x ∷ filter p (filter q xs)) (filter p (filter q xs))) first ∙ rest
  by false false first second rest = rest

module _ (mine : ℕ → Bool) where
  abbrev own : Message → Bool
  own = λ m. mine m.page

  -- The table of one of these pages.
  pub own_table : (H : History) (cut page : ℕ) → mine page ≡ true → table (of_pages mine H) cut page ≡ table H cut page
  unfolding table of_page
  own_table H cut page is = ap page_state (filter_twice (λ m. (m.page == page) && nat_lt m.place cut) own
      (λ m passes. ap mine (eqb-true m.page page (and_parts (m.page == page) (nat_lt m.place cut) passes).0) ∙ is) H.messages)

  -- Their messages lie apart as all do,
  pub own_apart : (H : History) → LieApart H.messages → LieApart (of_pages mine H).messages
  own_apart H apart = sublist_apart (filter own H.messages) H.messages (filter_sublist own H.messages) apart

  -- and what lies below a cut is the same of them.
  pub own_below : (H : History) (cut : ℕ) → of_pages mine (below H cut) ≡ below (of_pages mine H) cut
  unfolding below
  own_below H cut = λ i. record { messages = filters_swapped own (λ m. nat_lt m.place cut) H.messages i; batches = filter (λ b. nat_lt b.low cut) H.batches }

  -- A message of another page leaves them,
  pub others_leave : (H H' : History) (m : Message) → Step H (Completed m) H' → mine m.page ≡ false → of_pages mine H' ≡ of_pages mine H
  unfolding Step
  others_leave H H' m step other = λ i. record { messages = kept_without H H' m step own other i; batches = step.batches i }

  -- one of theirs is put in among them,
  pub own_added : (H H' : History) (m : Message) → Step H (Completed m) H' → mine m.page ≡ true → Step (of_pages mine H) (Completed m) (of_pages mine H')
  unfolding Step
  own_added H H' m step is = record {
    changes = step.changes;
    before = filter own step.before;
    after = filter own step.after;
    old = ap (filter own) step.old ∙ filter-append own step.before step.after;
    new = ap (filter own) step.new ∙ filter-append own step.before (m ∷ step.after) ∙ ap (λ (b : Bool). filter own step.before ++ cond b (m ∷ filter own step.after) (filter own step.after)) is;
    lower = λ x there. step.lower x (from_filter own step.before x there).0;
    higher = λ x there. step.higher x (from_filter own step.after x there).0;
    batches = step.batches;
  }

  -- and a batch is noted with them.
  pub batch_added : (H H' : History) (b : Batch) → Step H (Batched b) H' → Step (of_pages mine H) (Batched b) (of_pages mine H')
  unfolding Step
  batch_added H H' b step = record { pegged = step.pegged; messages = ap (filter own) step.messages; batches = step.batches }
