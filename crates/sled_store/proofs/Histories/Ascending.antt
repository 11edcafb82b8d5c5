-- Messages by place, the lowest first, and what lists of them have.
use Rattle.std.proofs.Common.{⊎_elim, ◌≡◌, ◌∙◌, ◌⊎◌, ◌+◌, ◌<◌, ◌≤◌, ℕ, Bool, true, false, cond, List, [], ◌∷◌, ◌++◌, refl, sym, ap, subst, arith, inl, inr}
use Rattle.std.specs.List.{All, Contains, filter}
use Rattle.std.proofs.lemmas.List.Elements.{All-tail, All-weaker, All-append, All-contains}
use Rattle.sled_codec.specs.History.{Message}
use Rattle.sled_codec.specs.WellFormed.{LieApart}
pub use Rattle.sled_store.proofs.Segments.Elements.{in_first, in_rest, in_cases, in_nothing, in_filter, from_filter, none_kept, all_from_in}

-- Sublists.

-- The elements of the first list are elements of the second, in their order.
abbrev pub IsSublist : {X : Type 0} → List X → List X → Type 0
IsSublist [] ys = Unit {0}
IsSublist (x ∷ xs) [] = ⊥
IsSublist (x ∷ xs) (y ∷ ys) = (x ≡ y) × IsSublist xs ys ⊎ IsSublist (x ∷ xs) ys

pub sublist_in : {X : Type 0} (xs ys : List X) (z : X) → IsSublist xs ys → Contains xs z → Contains ys z
sublist_in [] ys z sub there = absurd (in_nothing z there)
sublist_in (x ∷ xs) [] z sub there = absurd sub
sublist_in (x ∷ xs) (y ∷ ys) z (inl both) there = ⊎_elim (λ is. subst (Contains (y ∷ ys)) (sym both.0 ∙ is) (in_first y ys)) (λ rest. in_rest y z ys (sublist_in xs ys z both.1 rest)) (in_cases x z xs there)
sublist_in (x ∷ xs) (y ∷ ys) z (inr sub) there = in_rest y z ys (sublist_in (x ∷ xs) ys z sub there)

sublist_skip : {X : Type 0} (xs : List X) (y : X) (ys : List X) → IsSublist xs ys → IsSublist xs (y ∷ ys)
sublist_skip [] y ys sub = tt
sublist_skip (x ∷ xs) y ys sub = inr sub

-- a filter keeps a sublist
pub filter_sublist : {X : Type 0} (p : X → Bool) (ys : List X) → IsSublist (filter p ys) ys
filter_sublist p [] = tt
filter_sublist p (y ∷ ys) = by_test (p y) (filter_sublist p ys) where
  by_test : (b : Bool) → IsSublist (filter p ys) ys → IsSublist (cond b (y ∷ filter p ys) (filter p ys)) (y ∷ ys)
  by_test true sub = inl (refl, sub)
  by_test false sub = sublist_skip (filter p ys) y ys sub

-- Order.

-- each message lies below all later ones
abbrev pub Ascends : List Message → Type 0
Ascends [] = Unit {0}
Ascends (m ∷ ms) = All (λ n. m.place < n.place) ms × Ascends ms

pub apart_ascends : (ms : List Message) → LieApart ms → Ascends ms
apart_ascends [] apart = tt
apart_ascends (m ∷ ms) apart = (All-weaker (λ n. m.place + m.size ≤ n.place) (λ n. m.place < n.place) (λ n le. omega (arith, le, apart.0)) ms apart.1, apart_ascends ms apart.2)

-- a message that is later lies higher
pub later_above : (m : Message) (ms : List Message) (n : Message) → Ascends (m ∷ ms) → Contains ms n → m.place < n.place
later_above m ms n order there = All-contains (λ x. m.place < x.place) ms n order.0 there

pub sublist_ascends : (xs ys : List Message) → IsSublist xs ys → Ascends ys → Ascends xs
sublist_ascends [] ys sub order = tt
sublist_ascends (x ∷ xs) [] sub order = absurd sub
sublist_ascends (x ∷ xs) (y ∷ ys) (inl both) order = (
  all_from_in (λ n. x.place < n.place) xs (λ n there. subst (λ (z : Message). z.place < n.place) (sym both.0) (later_above y ys n order (sublist_in xs ys n both.1 there))),
  sublist_ascends xs ys both.1 order.1,
)
sublist_ascends (x ∷ xs) (y ∷ ys) (inr sub) order = sublist_ascends (x ∷ xs) ys sub order.1

pub filter_ascends : (p : Message → Bool) (ms : List Message) → Ascends ms → Ascends (filter p ms)
filter_ascends p ms order = sublist_ascends (filter p ms) ms (filter_sublist p ms) order

-- messages below a place, and behind them messages from there on
pub append_ascends : (xs ys : List Message) (cut : ℕ) → Ascends xs → Ascends ys → All (λ m. m.place < cut) xs → All (λ m. cut ≤ m.place) ys → Ascends (xs ++ ys)
append_ascends [] ys cut first second low high = second
append_ascends (x ∷ xs) ys cut first second low high =
    let below : x.place < cut = All-contains (λ m. m.place < cut) (x ∷ xs) x low (in_first x xs) in (
      All-append (λ n. x.place < n.place) xs ys first.0 (All-weaker (λ n. cut ≤ n.place) (λ n. x.place < n.place) (λ n le. omega (arith, below, le)) ys high),
      append_ascends xs ys cut first.1 second (All-tail (λ m. m.place < cut) x xs low) high,
    )

-- one place is that of one message
pub one_at_place : (ms : List Message) (x y : Message) → Ascends ms → Contains ms x → Contains ms y → x.place ≡ y.place → x ≡ y
one_at_place [] x y order one two is = absurd (in_nothing x one)
one_at_place (m ∷ ms) x y order one two is = by_cases (λ left right. one_at_place ms x y order.1 left right is) (in_cases m x ms one) (in_cases m y ms two) where
  by_cases : (Contains ms x → Contains ms y → x ≡ y) → (m ≡ x) ⊎ Contains ms x → (m ≡ y) ⊎ Contains ms y → x ≡ y
  by_cases rest_case (inl first) (inl second) = sym first ∙ second
  by_cases rest_case (inl first) (inr rest) = absurd (omega (arith, is, ap (λ (z : Message). z.place) first, later_above m ms y order rest))
  by_cases rest_case (inr rest) (inl second) = absurd (omega (arith, is, ap (λ (z : Message). z.place) second, later_above m ms x order rest))
  by_cases rest_case (inr left) (inr right) = rest_case left right

-- two such lists with the same messages begin with the same one
same_first : (x y : Message) (xs ys : List Message) → Ascends (x ∷ xs) → Ascends (y ∷ ys) → (y ≡ x) ⊎ Contains ys x → (x ≡ y) ⊎ Contains xs y → x ≡ y
same_first x y xs ys first second (inl is) there = sym is
same_first x y xs ys first second (inr rest) (inl is) = is
same_first x y xs ys first second (inr left) (inr right) = absurd (omega (arith, later_above x xs y first right, later_above y ys x second left))

-- and have the same ones behind it
rest_in : (x y : Message) (xs ys : List Message) → Ascends (x ∷ xs) → x ≡ y → (m : Message) → Contains xs m → Contains (y ∷ ys) m → Contains ys m
rest_in x y xs ys order is m there found =
    ⊎_elim (λ at. absurd (omega (arith, later_above x xs m order there, ap (λ (z : Message). z.place) (is ∙ at)))) (λ rest. rest) (in_cases y m ys found)

-- two such lists with the same messages are one
pub same_messages : (xs ys : List Message) → Ascends xs → Ascends ys → ((m : Message) → Contains xs m → Contains ys m) → ((m : Message) → Contains ys m → Contains xs m) → xs ≡ ys
same_messages [] [] first second there back = refl
same_messages [] (y ∷ ys) first second there back = absurd (in_nothing y (back y (in_first y ys)))
same_messages (x ∷ xs) [] first second there back = absurd (in_nothing x (there x (in_first x xs)))
same_messages (x ∷ xs) (y ∷ ys) first second there back =
    let is : x ≡ y = same_first x y xs ys first second (in_cases y x ys (there x (in_first x xs))) (in_cases x y xs (back y (in_first y ys))) in
    let rest : xs ≡ ys = same_messages xs ys first.1 second.1 (λ m at. rest_in x y xs ys first is m at (there m (in_rest x m xs at))) (λ m at. rest_in y x ys xs second (sym is) m at (back m (in_rest y m ys at))) in
    λ i. is i ∷ rest i
