-- The stable place of what is read: no batch is open there, and it rises with what is read.
use Rattle.std.proofs.Common.{⊎_elim, ◌≡◌, ◌⊎◌, ◌∙◌, ◌<◌, ◌≤◌, ℕ, Bool, true, false, List, [], ◌∷◌, ◌++◌, refl, ap, arith, inl, inr}
use Rattle.std.specs.Prelude.{nat_lt, min, if◌then◌else◌}
use Rattle.std.specs.List.{Contains}
use Rattle.std.proofs.lemmas.Bool.{cases_lt}
use Rattle.std.proofs.lemmas.Bool.Decides.{nat_tests}
use Rattle.sled_codec.specs.History.{Batch, History}
use Rattle.sled_store.proofs.Segments.Elements.{in_cases, in_first, in_nothing, in_rest}
use Rattle.sled_core.specs.inside.OpenBatches.{IsOpenBatch}
use Rattle.sled_core.specs.OpenBatches.{stable_below}
use Rattle.sled_core.specs.inside.Recoverable.{IsPlacedBatch}

-- The stable place lies there, or a batch begins there that is open.
pub stable_is : (reach : ℕ) (bs : List Batch) → (stable_below reach bs ≡ reach) ⊎ ((b : Batch) × Contains bs b × (stable_below reach bs ≡ b.low) × IsOpenBatch reach b)
stable_is reach [] = inl refl
stable_is reach (b ∷ bs) = by (stable_is reach bs) (nat_lt b.low reach) (nat_lt b.peg reach) refl refl where
  further : ((stable_below reach bs ≡ reach) ⊎ ((c : Batch) × Contains bs c × (stable_below reach bs ≡ c.low) × IsOpenBatch reach c)) → (n : ℕ) → n ≡ stable_below reach bs → (n ≡ reach) ⊎ ((c : Batch) × Contains (b ∷ bs) c × (n ≡ c.low) × IsOpenBatch reach c)
  further rest n same = elim rest [ inl all ↦ inl (same ∙ all) | inr (c, there, at, is_open) ↦ inr (c, in_rest b c bs there, same ∙ at, is_open) ]

  by : ((stable_below reach bs ≡ reach) ⊎ ((c : Batch) × Contains bs c × (stable_below reach bs ≡ c.low) × IsOpenBatch reach c)) → (low peg : Bool) → nat_lt b.low reach ≡ low → nat_lt b.peg reach ≡ peg
      → ((if low then (if peg then stable_below reach bs else min b.low (stable_below reach bs)) else stable_below reach bs) ≡ reach)
      ⊎ ((c : Batch) × Contains (b ∷ bs) c × ((if low then (if peg then stable_below reach bs else min b.low (stable_below reach bs)) else stable_below reach bs) ≡ c.low) × IsOpenBatch reach c)
  by rest false peg above ended = further rest (stable_below reach bs) refl
  by rest true true under ended = further rest (stable_below reach bs) refl
  by rest true false under ended = elim (cases_lt b.low (stable_below reach bs)) [
    | inl lower ↦ inr (b, in_first b bs, omega (arith, lower), (grind (arith, nat_tests, under), grind (arith, nat_tests, ended)))
    | inr le ↦ further rest (min b.low (stable_below reach bs)) (omega (arith, le))
  ]

pub stable_low : (reach : ℕ) (bs : List Batch) → stable_below reach bs ≤ reach
stable_low reach bs = elim (stable_is reach bs) [ inl all ↦ omega (arith, all) | inr (b, there, at, is_open) ↦ (let low = is_open.0 in omega (arith, at, low)) ]

-- it lies no higher than an open batch
pub stable_open : (reach : ℕ) (bs : List Batch) (b : Batch) → Contains bs b → IsOpenBatch reach b → stable_below reach bs ≤ b.low
stable_open reach [] b there is_open = absurd (in_nothing b there)
stable_open reach (c ∷ cs) b there is_open = by (λ known. stable_open reach cs b known is_open) (nat_lt c.low reach) (nat_lt c.peg reach) refl refl where
  by : (Contains cs b → stable_below reach cs ≤ b.low) → (low peg : Bool) → nat_lt c.low reach ≡ low → nat_lt c.peg reach ≡ peg
      → (if low then (if peg then stable_below reach cs else min c.low (stable_below reach cs)) else stable_below reach cs) ≤ b.low
  by later false peg above ended = ⊎_elim (λ same. absurd (let low = is_open.0 in let lows = ap (λ (x : Batch). x.low) same in let high : reach ≤ c.low = grind (arith, nat_tests, above) in omega (arith, high, low, lows))) later (in_cases c b cs there)
  by later true true under ended = ⊎_elim (λ same. absurd (let high = is_open.1 in let pegs = ap (λ (x : Batch). x.peg) same in let before : c.peg < reach = grind (arith, nat_tests, ended) in omega (arith, before, high, pegs))) later (in_cases c b cs there)
  by later true false under ended = ⊎_elim (λ same. (let lows = ap (λ (x : Batch). x.low) same in omega (arith, lows))) (λ known. let rest = later known in omega (arith, rest)) (in_cases c b cs there)

-- No batch is open at it, where one that begins within another ends within it.
pub stable_closed : (size : ℕ) (H : History) → ((b : Batch) → Contains H.batches b → IsPlacedBatch size H b) → (reach : ℕ)
    → (b : Batch) → Contains H.batches b → b.low < stable_below reach H.batches → b.peg < stable_below reach H.batches
stable_closed size H placed reach b there lower =
    let low = stable_low reach H.batches in
    elim (cases_lt b.peg reach) [
      | inr high ↦ absurd (let at_most = stable_open reach H.batches b there (omega (arith, lower, low), high) in omega (arith, at_most, lower))
      | inl ended ↦ elim (stable_is reach H.batches) [
        | inl all ↦ omega (arith, all, ended)
        | inr (c, known, at, is_open) ↦ elim (cases_lt b.peg c.low) [
          | inl before ↦ omega (arith, before, at)
          | inr within ↦ absurd (let inside = (placed b there).nested c known (omega (arith, lower, at)) within in let high = is_open.1 in omega (arith, inside, ended, high))
        ]
      ]
    ]

-- Where more is read, it is no lower.
pub stable_rises : (low high : ℕ) → low ≤ high → (bs : List Batch) → stable_below low bs ≤ stable_below high bs
stable_rises low high up bs =
    let under = stable_low low bs in
    elim (stable_is high bs) [
      | inl all ↦ omega (arith, all, under, up)
      | inr (c, known, at, is_open) ↦ elim (cases_lt c.low low) [
        | inl below ↦ (let peg = is_open.1 in let at_most = stable_open low bs c known (below, omega (arith, peg, up)) in omega (arith, at_most, at))
        | inr above ↦ omega (arith, above, under, at)
      ]
    ]

-- where no batch is open, it is that place
pub stable_all : (reach : ℕ) (bs : List Batch) → ((b : Batch) → Contains bs b → b.low < reach → b.peg < reach) → stable_below reach bs ≡ reach
stable_all reach bs closed = elim (stable_is reach bs) [ inl all ↦ all | inr (c, known, at, is_open) ↦ absurd (let ended = closed c known is_open.0 in let high = is_open.1 in omega (arith, ended, high)) ]

-- It is the same with one more batch, which begins at that place or behind it.
pub stable_one_more : (reach : ℕ) (bs : List Batch) (b : Batch) → reach ≤ b.low → stable_below reach (bs ++ b ∷ []) ≡ stable_below reach bs
stable_one_more reach [] b past =
    let above : nat_lt b.low reach ≡ false = grind (arith, nat_tests, past) in
    ap (λ (o : Bool). if o then (if nat_lt b.peg reach then reach else min b.low reach) else reach) above
stable_one_more reach (c ∷ cs) b past = ap (λ n. if nat_lt c.low reach then (if nat_lt c.peg reach then n else min c.low n) else n) (stable_one_more reach cs b past)
