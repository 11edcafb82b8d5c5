-- What is an element of a list.
use Rattle.std.proofs.Common.{⊎_elim, ◌≡◌, ◌∙◌, ◌⊎◌, ◌<◌, ℕ, zero, suc, Bool, true, false, cond, List, [], ◌∷◌, length, map, slice_index_or, refl, sym, ap, subst, arith, inl, inr}
use Rattle.std.specs.List.{All, Contains, filter}
use Rattle.std.proofs.lemmas.List.Elements.{All-tail, All-weaker, All-filter, All-contains, All-contains_itself, filter_passes}

pub in_first : {X : Type 0} (x : X) (xs : List X) → Contains (x ∷ xs) x
in_first x xs = (0, omega arith, refl)

pub in_rest : {X : Type 0} (x y : X) (xs : List X) → Contains xs y → Contains (x ∷ xs) y
in_rest x y xs there = (suc there.0, omega (arith, there.1), there.2)

at_cases : {X : Type 0} (x y : X) (xs : List X) (k : ℕ) → k < length (x ∷ xs) → slice_index_or (x ∷ xs) k y ≡ y → (x ≡ y) ⊎ Contains xs y
at_cases x y xs zero lt is = inl is
at_cases x y xs (suc k) lt is = inr (k, omega (arith, lt), is)

-- an element is the first one, or among the rest
pub in_cases : {X : Type 0} (x y : X) (xs : List X) → Contains (x ∷ xs) y → (x ≡ y) ⊎ Contains xs y
in_cases x y xs there = at_cases x y xs there.0 there.1 there.2

pub in_nothing : {X : Type 0} (x : X) → Contains [] x → ⊥
in_nothing x there = omega (arith, there.1)

-- a list with no element is empty
pub no_element : {X : Type 0} (xs : List X) → ((x : X) → Contains xs x → ⊥) → xs ≡ []
no_element [] none = refl
no_element (x ∷ xs) none = absurd (none x (in_first x xs))

-- a list of one has that one alone
pub only_in : {X : Type 0} (x y : X) → Contains (x ∷ []) y → x ≡ y
only_in x y there = ⊎_elim (λ is. is) (λ rest. absurd (in_nothing y rest)) (in_cases x y [] there)

pub in_one : {X : Type 0} (x y : X) → x ≡ y → Contains (x ∷ []) y
in_one x y is = (0, omega arith, is)

-- an element that passes is kept
pub in_filter : {X : Type 0} (p : X → Bool) (xs : List X) (y : X) → Contains xs y → p y ≡ true → Contains (filter p xs) y
in_filter p [] y there passes = absurd (in_nothing y there)
in_filter p (x ∷ xs) y there passes = ⊎_elim first (λ rest. later (p x) (in_filter p xs y rest passes)) (in_cases x y xs there) where
  first : x ≡ y → Contains (filter p (x ∷ xs)) y
  first is = subst (λ (b : Bool). Contains (cond b (x ∷ filter p xs) (filter p xs)) y) (sym (ap p is ∙ passes)) (subst (Contains (x ∷ filter p xs)) is (in_first x (filter p xs)))

  later : (b : Bool) → Contains (filter p xs) y → Contains (cond b (x ∷ filter p xs) (filter p xs)) y
  later true rest = in_rest x y (filter p xs) rest
  later false rest = rest

-- what is kept was there and passes
pub from_filter : {X : Type 0} (p : X → Bool) (xs : List X) (y : X) → Contains (filter p xs) y → Contains xs y × (p y ≡ true)
from_filter p xs y there = (
  All-contains (Contains xs) (filter p xs) y (All-filter p (Contains xs) xs (All-contains_itself xs)) there,
  All-contains (λ z. p z ≡ true) (filter p xs) y (filter_passes p xs) there,
)

-- what is made of an element is an element of what is made of the list
pub in_map : {X Y : Type 0} (f : X → Y) (xs : List X) (x : X) → Contains xs x → Contains (map f xs) (f x)
in_map f [] x there = absurd (in_nothing x there)
in_map f (y ∷ ys) x there = elim (in_cases y x ys there) [
  | inl first ↦ subst (Contains (f y ∷ map f ys)) (ap f first) (in_first (f y) (map f ys))
  | inr rest ↦ in_rest (f y) (f x) (map f ys) (in_map f ys x rest)
]

-- where no element passes, none is kept
pub none_kept : {X : Type 0} (p : X → Bool) (xs : List X) → All (λ x. p x ≡ false) xs → filter p xs ≡ []
none_kept p [] fail = refl
none_kept p (x ∷ xs) fail = ap (λ (b : Bool). cond b (x ∷ filter p xs) (filter p xs)) (fail 0 x (omega arith)) ∙ none_kept p xs (All-tail (λ y. p y ≡ false) x xs fail)

-- what is so of each element
pub all_from_in : {X : Type 0} (P : X → Type 0) (xs : List X) → ((x : X) → Contains xs x → P x) → All P xs
all_from_in P xs each = All-weaker (Contains xs) P each xs (All-contains_itself xs)
