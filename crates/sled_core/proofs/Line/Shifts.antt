-- A number with one bit is the power of two of that bit's place, so a shift by the place divides by it.
use Rattle.std.proofs.Common.{◌≡◌, ◌+◌, ◌/◌, ◌%◌, ◌^◌, ◌<◌, ℕ, zero, suc, arith, refl}
use Rattle.std.specs.Int.RustNames.{count_ones}
use Rattle.std.proofs.lemmas.Nat.{ones-le, zero_from_ones}
use lib.Count.{count_trailing_zeros, ones_step, under}
use native.Mathlib.Nat.{pow-suc}

-- Where the lowest bit is set there is no other, and else the one bit is that of the half.
lowest_bit : (n t d : ℕ) → n % 2 ≡ d → count_ones n ≡ 1 → (count_ones (n / 2) ≡ 1 → n / 2 ≡ 2 ^ t) → n ≡ 2 ^ under d t
lowest_bit n t zero even one half =
    let split : count_ones n ≡ n % 2 + count_ones (n / 2) = ones_step n in
    let is = half (omega (arith, split)) in
    omega (arith, is, pow-suc 2 t)
lowest_bit n t (suc d) odd one half =
    let split : count_ones n ≡ n % 2 + count_ones (n / 2) = ones_step n in
    let none = zero_from_ones (n / 2) (omega (arith, split)) in
    omega (arith, none)

pub one_bit : (k n : ℕ) → n < 2 ^ k → count_ones n ≡ 1 → n ≡ 2 ^ count_trailing_zeros k n
unfolding count_trailing_zeros
one_bit zero n small one = absurd (omega (arith, ones-le 0 n small))
one_bit (suc k) n small one = lowest_bit n (count_trailing_zeros k (n / 2)) (n % 2) refl one (λ half. one_bit k (n / 2) (omega (arith, pow-suc 2 k)) half)
