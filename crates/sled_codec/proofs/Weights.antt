-- A sum that wraps in each step is the whole sum that wraps once.
use Rattle.std.proofs.Common.{◌≡◌, ◌∙◌, ap, ℕ, ◌+◌, ◌*◌, ◌%◌, ◌^◌, arith}
use Rattle.std.proofs.lemmas.Nat.{mul-mod_first}

pub wraps_once : (total place i b byte rest : ℕ) → place ≡ (i + 1) % 2 ^ 32 → byte ≡ b → ((total + (place * byte) % 2 ^ 32) % 2 ^ 32 + rest) % 2 ^ 32 ≡ (total + ((i + 1) * b + rest)) % 2 ^ 32
wraps_once total place i b byte rest is same =
    let product : (place * byte) % 2 ^ 32 ≡ ((i + 1) * b) % 2 ^ 32 = ap (λ x. (place * x) % 2 ^ 32) same ∙ ap (λ p. (p * b) % 2 ^ 32) is ∙ mul-mod_first (i + 1) b (2 ^ 32) in
    omega arith
