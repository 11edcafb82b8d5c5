-- The places of the open reservations of a chain lie where it does; which of places one behind another lie between two places, and which from a place on.
use Rattle.std.proofs.Common.{◌≡◌, ◌∙◌, ◌≤◌, ◌<◌, ◌+◌, ◌&&◌, nat_le, nat_lt, ap, refl, arith, ℕ, suc, Bool, true, false, if◌then◌else◌, List, [], ◌∷◌, ◌++◌, length, Option, None, Some}
use Rattle.std.specs.List.{All}
use Rattle.std.proofs.lemmas.Bool.Decides.{nat_tests}
use Rattle.std.proofs.lemmas.List.Elements.{All-cons, All-head, All-nil, All-tail}
use Rattle.sled_core.specs.inside.Buffers.{IsChain}
use Rattle.sled_core.specs.Buffers.{first_open_in, open_in, open_state}
use Rattle.sled_core.specs.declared.iobuf.Reserved.{Reserved}
use Rattle.sled_core.specs.OpenPlaces.{first_between, open_places_in, places_from}
use Rattle.sled_core.specs.Waiting.{placed}
use Rattle.sled_core.proofs.Reserve.Ranges.{chain_within}

-- Each lies at a place or behind it; each lies below a place.
abbrev pub AreFrom : ℕ → List ℕ → Type 0
AreFrom low = All (λ p. low ≤ p)

abbrev pub AreBelow : ℕ → List ℕ → Type 0
AreBelow high = All (λ p. p < high)

-- What holds of the place of each reservation holds of those of the open ones.
all_placed : (P : ℕ → Type 0) (base : ℕ) (rs : List Reserved) → All (λ r. P (base + r.from)) rs → All P (open_places_in base rs)
all_placed P base [] all = All-nil P
all_placed P base (r ∷ rs) all = by (open_state r.state) (all_placed P base rs (All-tail (λ x. P (base + x.from)) r rs all)) where
  by : (o : Bool) → All P (open_places_in base rs) → All P (if o then (base + r.from) ∷ open_places_in base rs else open_places_in base rs)
  by true rest = All-cons P (base + r.from) (open_places_in base rs) (All-head (λ x. P (base + x.from)) r rs all) rest
  by false rest = rest

-- Those of a chain lie from where it begins on, and below its end.
pub chain_from : (base from end : ℕ) (rs : List Reserved) → IsChain from rs end → AreFrom (base + from) (open_places_in base rs)
chain_from base from end rs chain = all_placed (λ p. base + from ≤ p) base rs (λ k d lt. let is = (chain_within from end rs chain k d lt).0 in omega (arith, is))

pub chain_below : (base from end : ℕ) (rs : List Reserved) → IsChain from rs end → All (λ r. 0 < r.len) rs → AreBelow (base + end) (open_places_in base rs)
chain_below base from end rs chain some = all_placed (λ p. p < base + end) base rs (λ k d lt. let is = (chain_within from end rs chain k d lt).1 in let long = some k d lt in omega (arith, is, long))

-- The first one between two places is none of those that lie below,
pub between_behind : (low high to : ℕ) (xs ys : List ℕ) → to ≤ low → AreBelow to xs → first_between low high (xs ++ ys) ≡ first_between low high ys
between_behind low high to [] ys le below = refl
between_behind low high to (x ∷ xs) ys le below =
    let here = All-head (λ p. p < to) x xs below in
    let test : nat_le low x ≡ false = grind (arith, nat_tests, le, here) in
    ap (λ (o : Bool). if o && nat_lt x high then Some x else first_between low high (xs ++ ys)) test
    ∙ between_behind low high to xs ys le (All-tail (λ p. p < to) x xs below)

-- and none of those that lie above,
not_both : (o : Bool) → (o && false) ≡ false
not_both true = refl
not_both false = refl

between_none : (low high at : ℕ) (ys : List ℕ) → high ≤ at → AreFrom at ys → first_between low high ys ≡ None
between_none low high at [] le above = refl
between_none low high at (y ∷ ys) le above =
    let here = All-head (λ p. at ≤ p) y ys above in
    let test : nat_lt y high ≡ false = grind (arith, nat_tests, le, here) in
    ap (λ (o : Bool). if o then Some y else first_between low high ys) (ap (λ (o : Bool). nat_le low y && o) test ∙ not_both (nat_le low y))
    ∙ between_none low high at ys le (All-tail (λ p. at ≤ p) y ys above)

pub between_before : (low high at : ℕ) (xs ys : List ℕ) → high ≤ at → AreFrom at ys → first_between low high (xs ++ ys) ≡ first_between low high xs
between_before low high at [] ys le above = between_none low high at ys le above
between_before low high at (x ∷ xs) ys le above = ap (λ (o : Option ℕ). if nat_le low x && nat_lt x high then Some x else o) (between_before low high at xs ys le above)

-- and of those of reservations that lie between them it is that of the first that is open.
pub between_own : (low high base : ℕ) (rs : List Reserved) → AreFrom low (open_places_in base rs) → AreBelow high (open_places_in base rs) → first_between low high (open_places_in base rs) ≡ placed base (first_open_in rs)
between_own low high base [] above below = refl
between_own low high base (r ∷ rs) above below = by (between_own low high base rs) (open_state r.state) above below where
  by : (AreFrom low (open_places_in base rs) → AreBelow high (open_places_in base rs) → first_between low high (open_places_in base rs) ≡ placed base (first_open_in rs))
      → (o : Bool) → AreFrom low (if o then (base + r.from) ∷ open_places_in base rs else open_places_in base rs) → AreBelow high (if o then (base + r.from) ∷ open_places_in base rs else open_places_in base rs)
      → first_between low high (if o then (base + r.from) ∷ open_places_in base rs else open_places_in base rs) ≡ placed base (if o then Some r.from else first_open_in rs)
  by rest true above below =
      let at = All-head (λ p. low ≤ p) (base + r.from) (open_places_in base rs) above in
      let under = All-head (λ p. p < high) (base + r.from) (open_places_in base rs) below in
      let first : nat_le low (base + r.from) ≡ true = grind (arith, nat_tests, at) in
      let second : nat_lt (base + r.from) high ≡ true = grind (arith, nat_tests, under) in
      λ i. if first i && second i then Some (base + r.from) else first_between low high (open_places_in base rs)
  by rest false above below = rest above below

-- From a place on there is none of those that lie below it, and all of those that don't.
pub from_behind : (low to : ℕ) (xs ys : List ℕ) → to ≤ low → AreBelow to xs → places_from low (xs ++ ys) ≡ places_from low ys
from_behind low to [] ys le below = refl
from_behind low to (x ∷ xs) ys le below =
    let here = All-head (λ p. p < to) x xs below in
    let test : nat_le low x ≡ false = grind (arith, nat_tests, le, here) in
    ap (λ (o : Bool). if o then x ∷ places_from low (xs ++ ys) else places_from low (xs ++ ys)) test
    ∙ from_behind low to xs ys le (All-tail (λ p. p < to) x xs below)

pub from_all : (low at : ℕ) (ys : List ℕ) → low ≤ at → AreFrom at ys → places_from low ys ≡ ys
from_all low at [] le above = refl
from_all low at (y ∷ ys) le above =
    let here = All-head (λ p. at ≤ p) y ys above in
    let test : nat_le low y ≡ true = grind (arith, nat_tests, le, here) in
    ap (λ (o : Bool). if o then y ∷ places_from low ys else places_from low ys) test
    ∙ ap (λ (l : List ℕ). y ∷ l) (from_all low at ys le (All-tail (λ p. at ≤ p) y ys above))

-- There are as many as open reservations, and the first is that of the first of these.
pub places_count : (base : ℕ) (rs : List Reserved) → length (open_places_in base rs) ≡ open_in rs
places_count base [] = refl
places_count base (r ∷ rs) = by (open_state r.state) (places_count base rs) where
  by : (o : Bool) → length (open_places_in base rs) ≡ open_in rs → length (if o then (base + r.from) ∷ open_places_in base rs else open_places_in base rs) ≡ (if o then suc (open_in rs) else open_in rs)
  by true rest = ap suc rest
  by false rest = rest

pub places_first : (base from : ℕ) (rs : List Reserved) → first_open_in rs ≡ Some from → (rest : List ℕ) × (open_places_in base rs ≡ (base + from) ∷ rest)
places_first base from [] is = cc
places_first base from (r ∷ rs) is = by (places_first base from rs) (open_state r.state) is where
  by : (first_open_in rs ≡ Some from → (rest : List ℕ) × (open_places_in base rs ≡ (base + from) ∷ rest))
      → (o : Bool) → (if o then Some r.from else first_open_in rs) ≡ Some from → (rest : List ℕ) × ((if o then (base + r.from) ∷ open_places_in base rs else open_places_in base rs) ≡ (base + from) ∷ rest)
  by on true is = let same : r.from ≡ from = cc in (open_places_in base rs, ap (λ n. (base + n) ∷ open_places_in base rs) same)
  by on false is = on is
