-- Multiples of a size, and the one at or below a place.
use Rattle.std.proofs.Common.{◌≡◌, ◌∙◌, ◌+◌, ◌-◌, ◌*◌, ◌/◌, ◌%◌, ◌<◌, ◌≤◌, ℕ, suc, sym, ap, arith, inl, inr}
use Rattle.std.proofs.Math.Nat.{mod-add-div', mul-div_cancel, mul-mod_left, mul-le-mul_right, suc-mul}
use Rattle.std.proofs.lemmas.Bool.{cases_lt, cases_order}
use Rattle.sled_codec.specs.Coords.{raised}

-- two multiples of the size are that far apart
pub apart : (size : ℕ) → 0 < size → (a b : ℕ) → a % size ≡ 0 → b % size ≡ 0 → a < b → a + size ≤ b
apart size some a b at_a at_b less =
    let whole_a : a ≡ a / size * size = omega (arith, mod-add-div' a size, at_a) in
    let whole_b : b ≡ b / size * size = omega (arith, mod-add-div' b size, at_b) in
    let fewer : b / size ≤ a / size → ⊥ = λ (le : b / size ≤ a / size). omega (arith, mul-le-mul_right size le, whole_a, whole_b, less) in
    let one_more : suc (a / size) ≤ b / size = omega (arith, fewer) in
    omega (arith, mul-le-mul_right size one_more, whole_a, whole_b, suc-mul (a / size) size)

-- and are of one number where they are one
pub same_number : (size m n : ℕ) → 0 < size → m * size ≡ n * size → m ≡ n
same_number size m n some same = sym (mul-div_cancel m some) ∙ ap (λ k. k / size) same ∙ mul-div_cancel n some

-- the multiple of a size at or below a place
pub put_down : (size p : ℕ) → (p / size * size + p % size ≡ p) × (p / size * size % size ≡ 0)
put_down size p = (let whole = mod-add-div' p size in omega (arith, whole), mul-mod_left (p / size) size)

-- behind a multiple of a size the next one
pub next_multiple : (size a : ℕ) → a % size ≡ 0 → (a + size) % size ≡ 0
next_multiple size a at =
    let parts = put_down size a in
    let whole : a ≡ a / size * size = omega (arith, parts.0, at) in
    ap (λ n. (n + size) % size) whole ∙ ap (λ n. n % size) (omega (arith, suc-mul (a / size) size)) ∙ mul-mod_left (suc (a / size)) size

module _ (size : ℕ) (some : 256 ≤ size) where
  -- of the multiples of the size one lies at most a size below a place
  pub one_multiple : (z n : ℕ) → z % size ≡ 0 → z ≤ n → n < z + size → n / size * size ≡ z
  one_multiple z n aligned low high =
      let parts = put_down size n in
      let inside : n % size < size = omega (arith, some) in
      elim (cases_order (n / size * size) z) [
        | inl same ↦ same
        | inr (inl under) ↦ (let far = apart size (omega (arith, some)) (n / size * size) z parts.1 aligned under in absurd (omega (arith, far, parts.0, inside, low)))
        | inr (inr over) ↦ (let far = apart size (omega (arith, some)) z (n / size * size) aligned parts.1 over in absurd (omega (arith, far, parts.0, high)))
      ]

  -- a place isn't raised above the end of its segment
  pub raised_within : (cut : ℕ) → raised size cut ≤ cut / size * size + size
  raised_within cut =
      let top = put_down size (cut + (size - 1)) in
      let low = put_down size cut in
      let inside : cut % size < size = omega (arith, some) in
      elim (cases_lt (cut / size * size + size) (raised size cut)) [
        | inl over ↦ (
            let far = apart size (omega (arith, some)) (cut / size * size + size) (raised size cut) (next_multiple size (cut / size * size) low.1) top.1 over in
            absurd (omega (arith, far, top.0, low.0, inside, some)))
        | inr le ↦ le
      ]

  -- of two places the lower one is put down to no higher a multiple
  pub lower_multiple : (a b : ℕ) → a ≤ b → a / size * size ≤ b / size * size
  lower_multiple a b le =
      let low = put_down size a in
      let high = put_down size b in
      let inside : b % size < size = omega (arith, some) in
      elim (cases_lt (b / size * size) (a / size * size)) [
        | inl over ↦ (let far = apart size (omega (arith, some)) (b / size * size) (a / size * size) high.1 low.1 over in absurd (omega (arith, far, low.0, high.0, inside, le)))
        | inr fits ↦ fits
      ]
