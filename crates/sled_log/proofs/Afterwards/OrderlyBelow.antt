-- What lies below a cut of an orderly history is orderly.
use Rattle.std.proofs.Common.{◌≡◌, ◌≢◌, ◌∙◌, ◌&&◌, ◌==◌, ◌^◌, ◌-◌, ◌+◌, ◌<◌, ◌≤◌, ℕ, Bool, true, false, cond, nat_lt, List, [], ◌∷◌, ◌++◌, length, refl, sym, ap, subst, inl, inr, arith, ltb-true, lt-ltb}
use Rattle.std.specs.List.{All, filter}
use Rattle.std.proofs.lemmas.Bool.{cases_lt, ltb-false}
use Rattle.std.proofs.lemmas.List.{append_assoc}
use Rattle.std.proofs.lemmas.List.Elements.{All-weaker, All-filter, All-contains}
use Rattle.sled_codec.specs.History.{Message, History, page_state, of_page, table, below}
use Rattle.sled_codec.specs.WellFormed.{LieApart, ChangesPage, IsWellFormed}
use Rattle.sled_log.specs.Orderly.{IsOrderly}
use Rattle.sled_store.proofs.Histories.Ascending.{IsSublist, all_from_in, filter_sublist, sublist_in}
use Rattle.sled_log.proofs.PageTable.BelowLemmas.{drops_high}
use Rattle.sled_log.proofs.PageTable.TableCuts.{below_same}

-- some of the messages that lie apart lie apart
pub sublist_apart : (xs ys : List Message) → IsSublist xs ys → LieApart ys → LieApart xs
sublist_apart [] ys sub apart = tt
sublist_apart (x ∷ xs) [] sub apart = absurd sub
sublist_apart (x ∷ xs) (y ∷ ys) (inl both) apart = (
  subst (λ (z : Message). 0 < z.size) (sym both.0) apart.0,
  all_from_in (λ n. x.place + x.size ≤ n.place) xs (λ n there.
      subst (λ (z : Message). z.place + z.size ≤ n.place) (sym both.0) (All-contains (λ z. y.place + y.size ≤ z.place) ys n apart.1 (sublist_in xs ys n both.1 there))),
  sublist_apart xs ys both.1 apart.2,
)
sublist_apart (x ∷ xs) (y ∷ ys) (inr sub) apart = sublist_apart (x ∷ xs) ys sub apart.2

-- messages below a cut are the first ones of all
first_ones : (cut : ℕ) (ms : List Message) → LieApart ms → (rest : List Message) × (ms ≡ filter (λ m. nat_lt m.place cut) ms ++ rest)
first_ones cut [] apart = ([], refl)
first_ones cut (m ∷ ms) apart = by (nat_lt m.place cut) refl (first_ones cut ms apart.2) where
  by : (b : Bool) → nat_lt m.place cut ≡ b → (rest : List Message) × (ms ≡ filter (λ n. nat_lt n.place cut) ms ++ rest)
      → (rest : List Message) × (m ∷ ms ≡ cond b (m ∷ filter (λ n. nat_lt n.place cut) ms) (filter (λ n. nat_lt n.place cut) ms) ++ rest)
  by true low rest = (rest.0, ap (λ (l : List Message). m ∷ l) rest.1)
  by false high rest =
      let above = ltb-false m.place cut high in
      let all : All (λ n. cut ≤ n.place) ms = All-weaker (λ n. m.place + m.size ≤ n.place) (λ n. cut ≤ n.place) (λ n le. omega (arith, le, above)) ms apart.1 in
      (m ∷ ms, ap (λ (l : List Message). l ++ m ∷ ms) (sym (drops_high cut ms all)))

-- two tests that are one on what a filter keeps
same_filters : {X : Type 0} (p q r : X → Bool) → ((x : X) → r x ≡ true → p x ≡ q x) → (xs : List X) → filter p (filter r xs) ≡ filter q (filter r xs)
same_filters {X} p q r same [] = refl
same_filters {X} p q r same (x ∷ xs) = by (r x) refl (same_filters p q r same xs) where
  by : (b : Bool) → r x ≡ b → filter p (filter r xs) ≡ filter q (filter r xs) → filter p (cond b (x ∷ filter r xs) (filter r xs)) ≡ filter q (cond b (x ∷ filter r xs) (filter r xs))
  by true keeps rest = ap (λ (b : Bool). cond b (x ∷ filter p (filter r xs)) (filter p (filter r xs))) (same x keeps) ∙ ap (λ (l : List X). cond (q x) (x ∷ l) l) rest
  by false drops rest = rest

module _ (H : History) (cut : ℕ) where
  -- a table is that of the history, below the cut at most
  pub table_of_page : (bound page : ℕ) → cut ≤ bound → of_page (below H cut).messages bound page ≡ of_page (below H cut).messages cut page
  unfolding of_page below
  table_of_page bound page le =
      same_filters (λ m. (m.page == page) && nat_lt m.place bound) (λ m. (m.page == page) && nat_lt m.place cut) (λ m. nat_lt m.place cut)
      (λ m low. ap (λ b. (m.page == page) && b) (lt-ltb m.place bound (let under = ltb-true m.place cut low in omega (arith, under, le)) ∙ sym low)) H.messages

  few_below : ((bound page : ℕ) → length (table H bound page) ≤ 255) → (bound page : ℕ) → length (table (below H cut) bound page) ≤ 255
  unfolding table
  few_below few bound page = elim (cases_lt cut bound) [
    | inl over ↦ subst (λ (ms : List Message). length (page_state ms) ≤ 255) (sym (table_of_page bound page (omega (arith, over)) ∙ below_same H cut cut page (omega arith))) (few cut page)
    | inr le ↦ subst (λ (ms : List Message). length (page_state ms) ≤ 255) (sym (below_same H cut bound page le)) (few bound page)
  ]

  formed_below : IsWellFormed H → IsWellFormed (below H cut)
  unfolding below
  formed_below is = record {
    apart = sublist_apart (filter under H.messages) H.messages (filter_sublist under H.messages) is.apart;
    kinds = All-filter under (λ m. ChangesPage m.kind) H.messages is.kinds;
    begun = λ before m after split.
        let first = first_ones cut H.messages is.apart in
        is.begun before m (after ++ first.0) (first.1 ∙ ap (λ (l : List Message). l ++ first.0) split ∙ append_assoc before (m ∷ after) first.0);
    pages = All-filter under (λ m. m.page ≢ 2 ^ 64 - 1) H.messages is.pages;
  } where
    under : Message → Bool
    under = λ m. nat_lt m.place cut

  pub orderly_below : IsOrderly H → IsOrderly (below H cut)
  orderly_below is = record { formed = formed_below is.formed; few = few_below is.few }
