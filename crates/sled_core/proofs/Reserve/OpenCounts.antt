-- How many reservations are open: none where all ended, one more behind a new one, and one fewer once one has ended; and which is the first.
use Rattle.std.proofs.Common.{◌≡◌, ◌≤◌, ◌<◌, ◌+◌, ℕ, zero, suc, Bool, true, false, if◌then◌else◌, List, [], ◌∷◌, ◌++◌, drop, set, refl, ap, sym, ◌∙◌, arith, nat_eq, Some}
use Rattle.std.proofs.lemmas.Bool.Decides.{nat_tests}
use Rattle.std.specs.List.{All, slice_get}
use Rattle.std.proofs.lemmas.List.Elements.{All-tail}
use Rattle.std.proofs.lemmas.Option.{slice_get_within}
use Rattle.sled_core.specs.declared.iobuf.ReservationState.{ReservationState}
use Rattle.sled_core.specs.declared.iobuf.ReservationState.TheVariants.{Open}
use Rattle.sled_core.specs.declared.iobuf.Reserved.{Reserved}
use Rattle.sled_core.specs.Buffers.{first_open_in, none_open, open_in, open_state}

ended_step : (b : Bool) (n : ℕ) (ended : Bool) → nat_eq n 0 ≡ ended → nat_eq (if b then suc n else n) 0 ≡ (if b then false else ended)
ended_step true n ended is = grind (arith, nat_tests)
ended_step false n ended is = is

-- all ended where the count is none
pub ended_is : (rs : List Reserved) → nat_eq (open_in rs) 0 ≡ none_open rs
ended_is [] = refl
ended_is (r ∷ rs) = ended_step (open_state r.state) (open_in rs) (none_open rs) (ended_is rs)

more_step : (b : Bool) (n m : ℕ) → m ≡ n + 1 → (if b then suc m else m) ≡ (if b then suc n else n) + 1
more_step true n m is = omega (arith, is)
more_step false n m is = is

-- one more behind them
pub open_more : (rs : List Reserved) (r : Reserved) → r.state ≡ Open → open_in (rs ++ r ∷ []) ≡ open_in rs + 1
open_more [] r is = ap (λ (s : ReservationState). if open_state s then suc zero else zero) is
open_more (x ∷ rs) r is = more_step (open_state x.state) (open_in rs) (open_in (rs ++ r ∷ [])) (open_more rs r is)

-- none more, where that one isn't open
pub open_same : (rs : List Reserved) (r : Reserved) → open_state r.state ≡ false → open_in (rs ++ r ∷ []) ≡ open_in rs
open_same [] r is = ap (λ (o : Bool). if o then suc zero else zero) is
open_same (x ∷ rs) r is = ap (λ n. if open_state x.state then suc n else n) (open_same rs r is)

-- one fewer where an open one has ended
pub open_fewer : (rs : List Reserved) (i : ℕ) (r new : Reserved) → slice_get rs i ≡ Some r → r.state ≡ Open → open_state new.state ≡ false → open_in rs ≡ open_in (set rs i new) + 1
open_fewer [] i r new there is ends = absurd (let never : ⊥ = cc in never)
open_fewer (x ∷ rs) zero r new there is ends =
    let same : x ≡ r = cc in
    ap (λ (s : ReservationState). if open_state s then suc (open_in rs) else open_in rs) (ap (λ (y : Reserved). y.state) same ∙ is)
    ∙ omega arith ∙ sym (ap (λ (b : Bool). (if b then suc (open_in rs) else open_in rs) + 1) ends)
open_fewer (x ∷ rs) (suc i) r new there is ends = more_step (open_state x.state) (open_in (set rs i new)) (open_in rs) (open_fewer rs i r new there is ends)

-- none is open where all have ended
pub none_open_count : (rs : List Reserved) → none_open rs ≡ true → open_in rs ≡ 0
none_open_count rs ended = let is = ended_is rs ∙ ended in grind (arith, nat_tests, is)

-- Where some are open there is a first one, which lies among them.

pub first_there : (rs : List Reserved) → 0 < open_in rs → (from : ℕ) × (first_open_in rs ≡ Some from)
first_there [] some = absurd (omega (arith, some))
first_there (r ∷ rs) some = by_test (first_there rs) (open_state r.state) some where
  by_test : (0 < open_in rs → (from : ℕ) × (first_open_in rs ≡ Some from)) → (o : Bool) → 0 < (if o then suc (open_in rs) else open_in rs) → (from : ℕ) × ((if o then Some r.from else first_open_in rs) ≡ Some from)
  by_test on true some = (r.from, refl)
  by_test on false some = on some

pub first_within : (n : ℕ) (rs : List Reserved) (from : ℕ) → All (λ r. r.from + r.len ≤ n) rs → first_open_in rs ≡ Some from → from ≤ n
first_within n [] from all is = absurd (let never : ⊥ = cc in never)
first_within n (r ∷ rs) from all is = by_test (first_within n rs from (All-tail (λ (x : Reserved). x.from + x.len ≤ n) r rs all)) (open_state r.state) is where
  by_test : (first_open_in rs ≡ Some from → from ≤ n) → (o : Bool) → (if o then Some r.from else first_open_in rs) ≡ Some from → from ≤ n
  by_test on true is = let same : r.from ≡ from = cc in let here : r.from + r.len ≤ n = all 0 r (omega arith) in omega (arith, same, here)
  by_test on false is = on is

-- behind those that were looked at
pub first_drop : (rs : List Reserved) (i : ℕ) (r : Reserved) → slice_get rs i ≡ Some r → first_open_in (drop i rs) ≡ (if open_state r.state then Some r.from else first_open_in (drop (i + 1) rs))
first_drop [] i r there = absurd (let within = slice_get_within [] i r there in omega (arith, within))
first_drop (x ∷ rs) zero r there =
    let same : x ≡ r = cc in
    let one : 0 + 1 ≡ suc zero = omega arith in
    ap (λ (y : Reserved). if open_state y.state then Some y.from else first_open_in rs) same ∙ ap (λ n. if open_state r.state then Some r.from else first_open_in (drop n (x ∷ rs))) (sym one)
first_drop (x ∷ rs) (suc i) r there =
    let next : suc i + 1 ≡ suc (i + 1) = omega arith in
    first_drop rs i r there ∙ ap (λ n. if open_state r.state then Some r.from else first_open_in (drop n (x ∷ rs))) (sym next)
