-- The batches that a log has noted: how they are left, and up to where has to be written.
use Rattle.std.proofs.Common.{◌≡◌, ◌⊎◌, ◌∙◌, ◌<◌, ◌≤◌, ◌+◌, ℕ, Bool, true, false, List, [], ◌∷◌, map, refl, ap, arith, inl, inr}
use Rattle.std.specs.Prelude.{nat_lt, max, if◌then◌else◌}
use Rattle.std.specs.List.{Contains}
use Rattle.std.proofs.lemmas.Bool.Decides.{nat_tests}
use Rattle.sled_codec.specs.History.{Batch}
use Rattle.sled_store.proofs.Segments.Elements.{in_cases, in_first, in_nothing, in_rest}
use Rattle.sled_core.specs.declared.logger.batches.NotedBatch.{NotedBatch}
use Rattle.sled_core.specs.OpenBatches.{batch_of, behind_batch, not_whole}

-- how they are left where all up to a place is written
abbrev pub left_of : ℕ → List NotedBatch → List Batch
left_of end xs = not_whole end (map batch_of xs)

-- Up to where has to be written is no less than the place,
pub behind_least : (behind : ℕ) (bs : List Batch) → behind ≤ behind_batch behind bs
behind_least behind [] = omega arith
behind_least behind (b ∷ bs) = by (behind_least behind bs) (nat_lt b.low behind) where
  by : behind ≤ behind_batch behind bs → (o : Bool) → behind ≤ (if o then max (b.peg + 1) (behind_batch behind bs) else behind_batch behind bs)
  by rest true = omega (arith, rest)
  by rest false = rest

-- and lies behind each batch that begins before it,
pub behind_has : (behind : ℕ) (bs : List Batch) (b : Batch) → Contains bs b → b.low < behind → b.peg < behind_batch behind bs
behind_has behind [] b there low = absurd (in_nothing b there)
behind_has behind (c ∷ cs) b there low = by (λ known. behind_has behind cs b known low) (in_cases c b cs there) (nat_lt c.low behind) refl where
  by : (Contains cs b → b.peg < behind_batch behind cs) → (c ≡ b) ⊎ Contains cs b → (o : Bool) → nat_lt c.low behind ≡ o → b.peg < (if o then max (c.peg + 1) (behind_batch behind cs) else behind_batch behind cs)
  by rest (inl same) true test = let pegs = ap (λ (x : Batch). x.peg) same in omega (arith, pegs)
  by rest (inl same) false test = absurd (let lows = ap (λ (x : Batch). x.low) same in let high : behind ≤ c.low = grind (arith, nat_tests, test) in omega (arith, high, lows, low))
  by rest (inr later) true test = let up = rest later in omega (arith, up)
  by rest (inr later) false test = rest later

-- and no further than those that begin before it.
pub behind_within : (behind n : ℕ) (bs : List Batch) → behind ≤ n → ((b : Batch) → Contains bs b → b.low < behind → b.peg < n) → behind_batch behind bs ≤ n
behind_within behind n [] up all = up
behind_within behind n (b ∷ bs) up all = by (behind_within behind n bs up (λ c there. all c (in_rest b c bs there))) (nat_lt b.low behind) refl where
  by : behind_batch behind bs ≤ n → (o : Bool) → nat_lt b.low behind ≡ o → (if o then max (b.peg + 1) (behind_batch behind bs) else behind_batch behind bs) ≤ n
  by rest true test = let low : b.low < behind = grind (arith, nat_tests, test) in let own = all b (in_first b bs) low in omega (arith, own, rest)
  by rest false test = rest

-- It is the place itself where all batches begin there or behind it, as they do where that is stable.
pub behind_all : (behind : ℕ) (bs : List Batch) → ((b : Batch) → Contains bs b → behind ≤ b.low) → behind_batch behind bs ≡ behind
behind_all behind [] all = refl
behind_all behind (b ∷ bs) all =
    let own = all b (in_first b bs) in
    let test : nat_lt b.low behind ≡ false = grind (arith, nat_tests, own) in
    ap (λ (o : Bool). if o then max (b.peg + 1) (behind_batch behind bs) else behind_batch behind bs) test ∙ behind_all behind bs (λ c there. all c (in_rest b c bs there))
