-- A message at or above a cut changes nothing below it.
use Rattle.std.proofs.Common.{◌≡◌, ◌≤◌, ◌<◌, ◌∙◌, ℕ, Bool, true, false, ◌&&◌, nat_lt, ◌==◌, List, [], ◌∷◌, ◌++◌, sym, ap, subst, refl, arith, if◌then◌else◌, inl, inr, zero, suc, slice_index_or}
use Rattle.std.specs.List.{filter}
use Rattle.std.specs.List.{Contains}
use Rattle.std.proofs.lemmas.Bool.Decides.{nat_tests}
use Rattle.std.proofs.lemmas.List.Elements.{Contains-append_cases, Contains-append_left, Contains-append_right}
use Rattle.sled_codec.specs.History.{Message, History, Batch, CutFits, AddsMessage, of_page, table, page_state}
use Rattle.sled_codec.specs.Snapshots.{Page}
use Rattle.sled_codec.specs.PageTables.{IsTable, page_with}

-- an element that a test refuses is filtered away, wherever it stands
filter_without : {X : Type 0} (test : X → Bool) (x : X) (xs ys : List X) → test x ≡ false → filter test (xs ++ x ∷ ys) ≡ filter test (xs ++ ys)
filter_without test x [] ys is = ap (λ (b : Bool). if b then x ∷ filter test ys else filter test ys) is
filter_without test x (z ∷ xs) ys is =
    let rest = filter_without test x xs ys is in
    elim (test z) as (λ (b : Bool). (if b then z ∷ filter test (xs ++ x ∷ ys) else filter test (xs ++ x ∷ ys)) ≡ (if b then z ∷ filter test (xs ++ ys) else filter test (xs ++ ys))) [ true ↦ ap (λ (l : List _). z ∷ l) rest | false ↦ rest ]

not_both : (b : Bool) → (b && false) ≡ false
not_both true = refl
not_both false = refl

-- the messages of a page below the cut are the same
of_page-adds : (H H' : History) (m : Message) (cut page : ℕ) → AddsMessage H m H' → cut ≤ m.place → of_page H'.messages cut page ≡ of_page H.messages cut page
unfolding of_page
of_page-adds H H' m cut page adds past =
    let test : Message → Bool = λ x. (x.page == page) && nat_lt x.place cut in
    let not_below : nat_lt m.place cut ≡ false = grind (arith, nat_tests, past) in
    let refused : test m ≡ false = ap (λ (b : Bool). (m.page == page) && b) not_below ∙ not_both (m.page == page) in
    ap (filter test) adds.new ∙ filter_without test m adds.before adds.after refused ∙ ap (filter test) (sym adds.old)

-- The table below the cut is the same.
pub table_stays : (H H' : History) (m : Message) (cut page : ℕ) → AddsMessage H m H' → cut ≤ m.place → table H' cut page ≡ table H cut page
unfolding table
table_stays H H' m cut page adds past = ap page_state (of_page-adds H H' m cut page adds past)

-- The pages that were the table below the cut are it still.
pub table-adds : (pages : List Page) (H H' : History) (m : Message) (cut : ℕ) → AddsMessage H m H' → cut ≤ m.place → IsTable pages H cut → IsTable pages H' cut
unfolding table
table-adds pages H H' m cut adds past is = record {
  states = λ page. is.states page ∙ ap (λ (l : List Message). page_with (page_state l)) (sym (of_page-adds H H' m cut page adds past));
  begun = λ page. (
    λ below. let had = (is.begun page).0 below in record { message = had.message; there = subst (λ (l : List Message). Contains l had.message) (sym (of_page-adds H H' m cut page adds past)) had.there; replaces = had.replaces },
    λ had. (is.begun page).1 (record { message = had.message; there = subst (λ (l : List Message). Contains l had.message) (of_page-adds H H' m cut page adds past) had.there; replaces = had.replaces }),
  );
}

only_at : {X : Type 0} (x y : X) (k : ℕ) → k < 1 → slice_index_or (x ∷ []) k y ≡ y → x ≡ y
only_at x y zero lt is = is
only_at x y (suc k) lt is = absurd (omega (arith, lt))

-- a message of the new history that lies below the cut is one of the old history
pub among : (H H' : History) (m : Message) (cut : ℕ) → AddsMessage H m H' → cut ≤ m.place → (x : Message) → Contains H'.messages x → x.place < cut → Contains H.messages x
among H H' m cut adds past x there low =
    let old : Contains (adds.before ++ adds.after) x → Contains H.messages x = λ is. subst (λ (l : List Message). Contains l x) (sym adds.old) is in
    elim (Contains-append_cases adds.before (m ∷ adds.after) x (subst (λ (l : List Message). Contains l x) adds.new there)) [
      | inl before ↦ old (Contains-append_left adds.before adds.after x before)
      | inr behind ↦ elim (Contains-append_cases (m ∷ []) adds.after x behind) [
        | inl own ↦ (let same : m ≡ x = only_at m x own.0 own.1 own.2 in absurd (omega (arith, past, low, ap (λ (z : Message). z.place) same)))
        | inr after ↦ old (Contains-append_right adds.before adds.after x after)
      ]
    ]

-- A cut that split nothing splits nothing still.
pub fits-adds : (H H' : History) (m : Message) (cut : ℕ) → AddsMessage H m H' → cut ≤ m.place → CutFits H cut → CutFits H' cut
fits-adds H H' m cut adds past fits = record {
  batches = λ b there low. fits.batches b (subst (λ (l : List Batch). Contains l b) adds.batches there) low;
  messages = λ x there low. fits.messages x (among H H' m cut adds past x there low) low;
}
