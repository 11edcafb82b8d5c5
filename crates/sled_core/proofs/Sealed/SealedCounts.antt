-- How many reservations of sealed buffers are open, and how many of the buffers can be written.
use Rattle.std.proofs.Common.{◌≡◌, ◌+◌, ℕ, zero, suc, Bool, true, false, if◌then◌else◌, List, [], ◌∷◌, nat_eq, take, drop, sym, ◌∙◌, ap, arith, refl}
use Rattle.std.specs.List.{All}
use Rattle.std.proofs.lemmas.List.{drop-drop}
use Rattle.std.proofs.lemmas.List.Elements.{All-cons, All-head, All-nil, All-tail}
use Rattle.sled_core.specs.declared.iobuf.Reserved.{Reserved}
use Rattle.sled_core.specs.declared.iobuf.Sealed.{Sealed}
use Rattle.sled_core.specs.Buffers.{none_open, open_in, open_state}
use Rattle.sled_core.specs.inside.SealedBuffers.{AreSealed, is_ready, ready_count}
use Rattle.sled_core.specs.SealedBuffers.{sealed_count}
use Rattle.sled_core.proofs.Reserve.OpenCounts.{ended_is, none_open_count}

part_step : (o : Bool) (n a b : ℕ) → n ≡ a + b → (if o then suc n else n) ≡ (if o then suc a else a) + b
part_step true n a b is = omega (arith, is)
part_step false n a b is = is

-- the open ones of two parts
pub open_parts : (n : ℕ) (rs : List Reserved) → open_in rs ≡ open_in (take n rs) + open_in (drop n rs)
open_parts zero rs = omega arith
open_parts (suc n) [] = refl
open_parts (suc n) (r ∷ rs) = part_step (open_state r.state) (open_in rs) (open_in (take n rs)) (open_in (drop n rs)) (open_parts n rs)

-- Where no buffer waits for one, only those behind them are open.
pub open_behind : (from : ℕ) (rs : List Reserved) (bs : List Sealed) → AreSealed from rs bs → All (λ b. b.open_count ≡ 0) bs → open_in rs ≡ open_in (drop (sealed_count bs) rs)
open_behind from rs [] are none = refl
open_behind from rs (b ∷ bs) are none =
    let here : b.open_count ≡ 0 = All-head (λ c. c.open_count ≡ 0) b bs none in
    let same = are.0.still_open in
    let rest = open_behind b.end (drop b.count rs) bs are.1 (All-tail (λ c. c.open_count ≡ 0) b bs none) in
    let behind = ap open_in (drop-drop (sealed_count bs) b.count rs) in
    omega (arith, here, same, rest, behind, open_parts b.count rs)

-- Where none is open, no buffer waits for one.
pub none_waits : (from : ℕ) (rs : List Reserved) (bs : List Sealed) → AreSealed from rs bs → open_in rs ≡ 0 → All (λ b. b.open_count ≡ 0) bs
none_waits from rs [] are none = All-nil (λ b. b.open_count ≡ 0)
none_waits from rs (b ∷ bs) are none =
    let same = are.0.still_open in
    All-cons (λ c. c.open_count ≡ 0) b bs (omega (arith, same, none, open_parts b.count rs)) (none_waits b.end (drop b.count rs) bs are.1 (omega (arith, none, open_parts b.count rs)))

-- those of two parts that can be written
pub ready_parts : (n : ℕ) (bs : List Sealed) → ready_count bs ≡ ready_count (take n bs) + ready_count (drop n bs)
ready_parts zero bs = omega arith
ready_parts (suc n) [] = refl
ready_parts (suc n) (b ∷ bs) = part_step (is_ready b) (ready_count bs) (ready_count (take n bs)) (ready_count (drop n bs)) (ready_parts n bs)

-- Whether none is open, where all behind the buffers have ended.

none_is : (rs : List Reserved) → open_in rs ≡ 0 → none_open rs ≡ true
none_is rs none = sym (ended_is rs) ∙ ap (λ n. nat_eq n 0) none

pub none_open_is : (from : ℕ) (rs : List Reserved) (bs : List Sealed) (b : Bool) → AreSealed from rs bs → open_in (drop (sealed_count bs) rs) ≡ 0 → (b ≡ true → All (λ x. x.open_count ≡ 0) bs) → (All (λ x. x.open_count ≡ 0) bs → b ≡ true) → b ≡ none_open rs
none_open_is from rs bs true are none told shown = sym (none_is rs (open_behind from rs bs are (told refl) ∙ none))
none_open_is from rs bs false are none told shown = by_test (none_open rs) refl where
  by_test : (o : Bool) → none_open rs ≡ o → false ≡ none_open rs
  by_test false is = sym is
  by_test true is = absurd (let never : false ≡ true = shown (none_waits from rs bs are (none_open_count rs is)) in cc)

-- and where one behind them is open
pub some_open_is : (n : ℕ) (rs : List Reserved) → (open_in (drop n rs) ≡ 0 → ⊥) → false ≡ none_open rs
some_open_is n rs some = by_test (none_open rs) refl where
  by_test : (o : Bool) → none_open rs ≡ o → false ≡ none_open rs
  by_test false is = sym is
  by_test true is = absurd (some (let none = none_open_count rs is in omega (arith, none, open_parts n rs)))
