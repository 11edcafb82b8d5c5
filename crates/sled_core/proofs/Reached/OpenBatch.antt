-- The batches that aren't wholly read: the stable place goes by them alone, and where they are apart from all others, no batch is open at it.
use Rattle.std.proofs.Common.{◌≡◌, ◌⊎◌, ◌<◌, ◌≤◌, ◌∙◌, ℕ, Bool, true, false, List, [], ◌∷◌, refl, sym, ap, subst, arith, inl, inr}
use Rattle.std.specs.Prelude.{nat_lt, if◌then◌else◌}
use Rattle.std.specs.List.{Contains}
use Rattle.std.proofs.lemmas.Bool.{cases_lt}
use Rattle.std.proofs.lemmas.Bool.Decides.{nat_tests}
use Rattle.sled_codec.specs.History.{AddsBatch, Batch, History}
use Rattle.sled_store.proofs.Segments.Elements.{in_cases, in_first, in_nothing, in_rest}
use Rattle.sled_core.specs.inside.OpenBatches.{AreApart, IsOpenBatch}
use Rattle.sled_core.specs.OpenBatches.{not_whole, stable_below}
use Rattle.sled_core.proofs.Reached.AddedBatch.{was_or_batch}
use Rattle.sled_core.proofs.Reached.StableBelow.{stable_is, stable_low, stable_open}

-- Which of them aren't wholly read.
pub whole_not : (reach : ℕ) (bs : List Batch) (b : Batch) → Contains (not_whole reach bs) b → Contains bs b × (reach ≤ b.peg)
whole_not reach [] b there = absurd (in_nothing b there)
whole_not reach (c ∷ cs) b there = by (whole_not reach cs b) (nat_lt c.peg reach) refl there where
  by : (Contains (not_whole reach cs) b → Contains cs b × (reach ≤ b.peg)) → (o : Bool) → nat_lt c.peg reach ≡ o → Contains (if o then not_whole reach cs else c ∷ not_whole reach cs) b → Contains (c ∷ cs) b × (reach ≤ b.peg)
  by rest true ended later = let (known, high) = rest later in (in_rest c b cs known, high)
  by rest false ended among = elim (in_cases c b (not_whole reach cs) among) [
    | inl same ↦ (let high : reach ≤ c.peg = grind (arith, nat_tests, ended) in (subst (Contains (c ∷ cs)) same (in_first c cs), subst (λ (x : Batch). reach ≤ x.peg) same high))
    | inr later ↦ (let (known, high) = rest later in (in_rest c b cs known, high))
  ]

pub not_whole_there : (reach : ℕ) (bs : List Batch) (b : Batch) → Contains bs b → reach ≤ b.peg → Contains (not_whole reach bs) b
not_whole_there reach [] b there high = absurd (in_nothing b there)
not_whole_there reach (c ∷ cs) b there high = by (λ known. not_whole_there reach cs b known high) (in_cases c b cs there) (nat_lt c.peg reach) refl where
  by : (Contains cs b → Contains (not_whole reach cs) b) → (c ≡ b) ⊎ Contains cs b → (o : Bool) → nat_lt c.peg reach ≡ o → Contains (if o then not_whole reach cs else c ∷ not_whole reach cs) b
  by rest (inl same) true ended = absurd (let pegs = ap (λ (x : Batch). x.peg) same in let low : c.peg < reach = grind (arith, nat_tests, ended) in omega (arith, low, pegs, high))
  by rest (inr later) true ended = rest later
  by rest (inl same) false ended = subst (Contains (c ∷ not_whole reach cs)) same (in_first c (not_whole reach cs))
  by rest (inr later) false ended = in_rest c b (not_whole reach cs) (rest later)

-- What is left of them further on is what is left of what was left.
pub not_whole_further : (low high : ℕ) → low ≤ high → (bs : List Batch) → not_whole high (not_whole low bs) ≡ not_whole high bs
not_whole_further low high up [] = refl
not_whole_further low high up (b ∷ bs) = by (not_whole_further low high up bs) (nat_lt b.peg low) (nat_lt b.peg high) refl refl where
  by : not_whole high (not_whole low bs) ≡ not_whole high bs → (o p : Bool) → nat_lt b.peg low ≡ o → nat_lt b.peg high ≡ p
      → not_whole high (if o then not_whole low bs else b ∷ not_whole low bs) ≡ (if p then not_whole high bs else b ∷ not_whole high bs)
  by rest true true below under = rest
  by rest true false below under = absurd (let not : ⊥ = grind (arith, nat_tests, up, below, under) in not)
  by rest false true below under = ap (λ (o : Bool). if o then not_whole high (not_whole low bs) else b ∷ not_whole high (not_whole low bs)) under ∙ rest
  by rest false false below under = ap (λ (o : Bool). if o then not_whole high (not_whole low bs) else b ∷ not_whole high (not_whole low bs)) under ∙ ap (λ (l : List Batch). b ∷ l) rest

-- The stable place is no higher where all that are open of others are among these,
stable_at_most : (reach : ℕ) (bs cs : List Batch) → ((b : Batch) → IsOpenBatch reach b → Contains cs b → Contains bs b) → stable_below reach bs ≤ stable_below reach cs
stable_at_most reach bs cs open_ones = elim (stable_is reach cs) [
  | inl all ↦ (let low = stable_low reach bs in omega (arith, low, all))
  | inr (b, there, at, is_open) ↦ (let low = stable_open reach bs b (open_ones b is_open there) is_open in omega (arith, low, at))
]

-- so it is the same where the same ones are open.
pub stable_alike : (reach : ℕ) (bs cs : List Batch) → ((b : Batch) → reach ≤ b.peg → Contains cs b → Contains bs b) → ((b : Batch) → reach ≤ b.peg → Contains bs b → Contains cs b) → stable_below reach bs ≡ stable_below reach cs
stable_alike reach bs cs one other =
    let low = stable_at_most reach bs cs (λ b is_open there. one b is_open.1 there) in
    let high = stable_at_most reach cs bs (λ b is_open there. other b is_open.1 there) in
    omega (arith, low, high)

-- Where all of them end below what is read, each is apart from those that aren't wholly read.
pub ended_apart : (reach : ℕ) (bs : List Batch) → ((b : Batch) → Contains bs b → b.peg < reach) → AreApart reach bs
ended_apart reach bs ended = record { apart = λ b c one other later. absurd (let low = ended c other in omega (arith, low, later)) }

-- Where more is read, fewer of them have to be apart.
pub apart_further : (low high : ℕ) (bs : List Batch) → low ≤ high → AreApart low bs → AreApart high bs
apart_further low high bs up parts = record { apart = λ b c one other later. parts.apart b c one other (omega (arith, up, later)) }

-- A batch is noted that begins where nothing is read yet, and is apart from the others that aren't wholly read: it is so from all.
pub apart_noted : (H H' : History) (b : Batch) → AddsBatch H b H' → (reach : ℕ) → reach ≤ b.low → ((c : Batch) → Contains H.batches c → reach ≤ c.peg → (c.peg < b.low) ⊎ (b.peg < c.low)) → AreApart reach H.batches → AreApart reach H'.batches
apart_noted H H' b adds reach behind others parts = record {
  apart = λ c d one other later. elim (was_or_batch H H' b adds c one) [
    | inl was ↦ elim (was_or_batch H H' b adds d other) [ inl among ↦ parts.apart c d was among later | inr same ↦ subst (λ (x : Batch). (c ≡ x) ⊎ (c.peg < x.low) ⊎ (x.peg < c.low)) same (inr (apart_from c was)) ]
    | inr own ↦ elim (was_or_batch H H' b adds d other) [
      | inl among ↦ subst (λ (x : Batch). (x ≡ d) ⊎ (x.peg < d.low) ⊎ (d.peg < x.low)) own (inr (elim (others d among later) [ inl before ↦ inr before | inr after ↦ inl after ]))
      | inr same ↦ inl (sym own ∙ same)
    ]
  ];
} where
  apart_from : (c : Batch) → Contains H.batches c → (c.peg < b.low) ⊎ (b.peg < c.low)
  apart_from c was = elim (cases_lt c.peg reach) [ inl ended ↦ inl (omega (arith, ended, behind)) | inr later ↦ others c was later ]

-- No batch is open at the stable place.
pub stable_ends : (reach : ℕ) (bs : List Batch) → AreApart reach bs → (b : Batch) → Contains bs b → b.low < stable_below reach bs → b.peg < stable_below reach bs
stable_ends reach bs parts b there lower =
    let under = stable_low reach bs in
    elim (cases_lt b.peg reach) [
      | inr high ↦ absurd (let at_most = stable_open reach bs b there (omega (arith, lower, under), high) in omega (arith, at_most, lower))
      | inl ended ↦ elim (stable_is reach bs) [
        | inl all ↦ omega (arith, all, ended)
        | inr (c, known, at, is_open) ↦ elim (parts.apart b c there known is_open.1) [
          | inl same ↦ absurd (let lows = ap (λ (x : Batch). x.low) same in omega (arith, lows, at, lower))
          | inr (inl before) ↦ omega (arith, before, at)
          | inr (inr behind) ↦ absurd (let (low, high) = is_open in omega (arith, behind, at, lower, low, high))
        ]
      ]
    ]
