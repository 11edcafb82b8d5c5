-- Marks of headers that lie below a place, or in front of the next segment.
use Rattle.std.proofs.Common.{⊎_elim, ◌⊎◌, ◌+◌, ◌-◌, ◌<◌, ◌≤◌, ◌<ℤ◌, ◌≤ℤ◌, ℕ, ℤ, pos, negsuc, refl, sym, subst, arith, inl, inr, lt→ltb}
use Rattle.std.specs.List.{Contains}
use Rattle.std.proofs.lemmas.Bool.{cases_lt}
use Rattle.std.proofs.lemmas.Int.{ints}
use Rattle.sled_codec.specs.History.{Batch, History}
use Rattle.sled_core.specs.OpenBatches.{stable_below}
use Rattle.sled_core.specs.inside.Recoverable.{IsMarkBelow}
use Rattle.sled_core.proofs.Reached.StableBelow.{stable_is}
use Rattle.sled_core.proofs.Tail.GreatestMark.{mark_below}
use Rattle.sled_core.proofs.Tail.Multiples.{lower_multiple}

-- less than a natural number is less than a greater one
pub less_than : (mark : ℤ) (low high : ℕ) → low ≤ high → mark <ℤ pos low → mark <ℤ pos high
less_than (pos n) low high le lt = let under : n < low = mark_below (pos n) n low refl lt in omega (arith, lt→ltb, le, under)
less_than (negsuc n) low high le lt = omega arith

-- A mark that lies below a place does so below a higher one.
pub mark_higher : (size : ℕ) → 256 ≤ size → (H : History) (low high : ℕ) → low ≤ high → (mark : ℤ) → IsMarkBelow size H low mark → IsMarkBelow size H high mark
mark_higher size some H low high far mark (inl lower) = inl (less_than mark low high far lower)
mark_higher size some H low high far mark (inr (n, at, under, message, batch, ended)) = elim (cases_lt n high) [
  | inl below ↦ inl (subst (λ (z : ℤ). z <ℤ pos high) (sym at) (omega (arith, lt→ltb, below)))
  | inr above ↦ (
      let multiple = lower_multiple size some (low + (size - 1)) (high + (size - 1)) (omega (arith, far)) in
      inr (
        n,
        at,
        omega (arith, under, multiple),
        λ m there. ⊎_elim (λ early. inl (omega (arith, early, far))) (λ late. inr late) (message m there),
        λ b there. ⊎_elim (λ early. inl (omega (arith, early, far))) (λ late. inr late) (batch b there),
        λ b there. ⊎_elim (λ early. inl (omega (arith, early, far))) (λ late. inr late) (ended b there),
      ))
]

-- A mark that lies below what was reached, and in no batch, lies below the stable place.
pub mark_stable : (size : ℕ) (H : History) (reach : ℕ) (mark : ℤ) → ((b : Batch) → Contains H.batches b → (mark <ℤ pos b.low) ⊎ (pos b.peg ≤ℤ mark)) → IsMarkBelow size H reach mark → IsMarkBelow size H (stable_below reach H.batches) mark
mark_stable size H reach mark apart below = elim (stable_is reach H.batches) [
  | inl all ↦ subst (λ n. IsMarkBelow size H n mark) (sym all) below
  | inr (b, there, at, is_open) ↦ elim (apart b there) [
    | inl lower ↦ inl (subst (λ n. mark <ℤ pos n) (sym at) lower)
    | inr behind ↦ absurd (never b there is_open.1 behind below)
  ]
]
  where
    never : (b : Batch) → Contains H.batches b → reach ≤ b.peg → pos b.peg ≤ℤ mark → IsMarkBelow size H reach mark → ⊥
    never b there high behind (inl under) = omega (arith, ints, high, behind, under)
    never b there high behind (inr (n, is, near, message, batch, ends)) =
        let far : b.peg ≤ n = omega (arith, ints, behind, is) in
        elim (ends b there) [ inl low ↦ omega (arith, low, high) | inr up ↦ omega (arith, up, far) ]
