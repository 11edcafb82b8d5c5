-- A length in slots, rounded up in one way and in the other.
use Rattle.std.proofs.Common.{◌≡◌, ◌∙◌, ◌+◌, ◌-◌, ◌*◌, ◌/◌, ◌%◌, ◌<◌, ℕ, zero, suc, min, refl, ap, sym, arith, add-mul, div-add-mod', one-mul}
use Rattle.std.proofs.lemmas.Nat.{div-mul-add}
use Rattle.sled_store.proofs.segment.start.slots_of.Goals as goal

ceil_is : (x n : ℕ) → 0 < n → (x + (n - 1)) / n ≡ x / n + min 1 (x % n)
ceil_is x n some = by (x % n) refl where
  whole : x / n * n + x % n ≡ x
  whole = div-add-mod' x n

  by : (r : ℕ) → x % n ≡ r → (x + (n - 1)) / n ≡ x / n + min 1 r
  by zero is =
      let same : x + (n - 1) ≡ x / n * n + (n - 1) = omega (arith, whole, is) in
      let none : x / n ≡ x / n + min 1 0 = omega arith in
      ap (λ k. k / n) same ∙ div-mul-add (x / n) n (n - 1) (omega (arith, some)) ∙ none
  by (suc r) is =
      let below : x % n < n = omega (arith, some) in
      let more : (x / n + 1) * n ≡ x / n * n + 1 * n = add-mul (x / n) 1 n in
      let one : 1 * n ≡ n = one-mul n in
      let same : x + (n - 1) ≡ (x / n + 1) * n + r = omega (arith, whole, is, more, one, some) in
      let up : x / n + 1 ≡ x / n + min 1 (suc r) = omega arith in
      ap (λ k. k / n) same ∙ div-mul-add (x / n + 1) n r (omega (arith, below, is)) ∙ up

pub returns : goal.returns
returns c = c.div_ceil.ensures ∙ sym (ceil_is c.args.len c.args.size c.requires)
