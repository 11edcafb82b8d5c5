-- Batches by place: with one more, and of those that are left of them.
use Rattle.std.proofs.Common.{◌≡◌, ◌⊎◌, ◌∙◌, ◌<◌, ◌≤◌, ◌+◌, ℕ, suc, Bool, true, false, List, [], ◌∷◌, length, refl, sym, ap, subst, arith, inl, inr}
use Rattle.std.specs.Prelude.{nat_lt, min, if◌then◌else◌}
use Rattle.std.specs.List.{Contains}
use Rattle.std.proofs.lemmas.Bool.Decides.{nat_tests}
use Rattle.sled_codec.specs.History.{Batch}
use Rattle.sled_store.proofs.Segments.Elements.{in_cases, in_first, in_nothing, in_rest}
use Rattle.sled_core.specs.inside.OpenBatches.{AreByPlace}
use Rattle.sled_core.specs.OpenBatches.{not_whole, stable_below, with_batch}

-- Each of them with one more is that one or one of the others,
pub with_cases : (b : Batch) (cs : List Batch) (x : Batch) → Contains (with_batch b cs) x → (b ≡ x) ⊎ Contains cs x
with_cases b [] x there = in_cases b x [] there
with_cases b (c ∷ cs) x there = by (with_cases b cs x) (nat_lt b.low c.low) there where
  by : (Contains (with_batch b cs) x → (b ≡ x) ⊎ Contains cs x) → (o : Bool) → Contains (if o then b ∷ c ∷ cs else c ∷ with_batch b cs) x → (b ≡ x) ⊎ Contains (c ∷ cs) x
  by rest true among = in_cases b x (c ∷ cs) among
  by rest false among = elim (in_cases c x (with_batch b cs) among) [
    | inl same ↦ inr (subst (Contains (c ∷ cs)) same (in_first c cs))
    | inr later ↦ elim (rest later) [ inl own ↦ inl own | inr known ↦ inr (in_rest c x cs known) ]
  ]

-- it is among them,
pub with_own : (b : Batch) (cs : List Batch) → Contains (with_batch b cs) b
with_own b [] = in_first b []
with_own b (c ∷ cs) = by (with_own b cs) (nat_lt b.low c.low) where
  by : Contains (with_batch b cs) b → (o : Bool) → Contains (if o then b ∷ c ∷ cs else c ∷ with_batch b cs) b
  by rest true = in_first b (c ∷ cs)
  by rest false = in_rest c b (with_batch b cs) rest

-- and so are the others.
pub with_rest : (b : Batch) (cs : List Batch) (x : Batch) → Contains cs x → Contains (with_batch b cs) x
with_rest b [] x there = absurd (in_nothing x there)
with_rest b (c ∷ cs) x there = by (with_rest b cs x) (in_cases c x cs there) (nat_lt b.low c.low) where
  by : (Contains cs x → Contains (with_batch b cs) x) → (c ≡ x) ⊎ Contains cs x → (o : Bool) → Contains (if o then b ∷ c ∷ cs else c ∷ with_batch b cs) x
  by rest (inl same) true = in_rest b x (c ∷ cs) there
  by rest (inr known) true = in_rest b x (c ∷ cs) there
  by rest (inl same) false = subst (Contains (c ∷ with_batch b cs)) same (in_first c (with_batch b cs))
  by rest (inr known) false = in_rest c x (with_batch b cs) (rest known)

-- There is one more of them.
pub one_longer : (b : Batch) (cs : List Batch) → length (with_batch b cs) ≡ length cs + 1
one_longer b [] = refl
one_longer b (c ∷ cs) = by (one_longer b cs) (nat_lt b.low c.low) where
  by : length (with_batch b cs) ≡ length cs + 1 → (o : Bool) → length (if o then b ∷ c ∷ cs else c ∷ with_batch b cs) ≡ suc (length cs) + 1
  by rest true = omega arith
  by rest false = omega (arith, rest)

-- The stable place is the same with one more, which begins at what is read or behind it.
pub stable_with_batch : (reach : ℕ) (bs : List Batch) (b : Batch) → reach ≤ b.low → stable_below reach (with_batch b bs) ≡ stable_below reach bs
stable_with_batch reach [] b past =
    let above : nat_lt b.low reach ≡ false = grind (arith, nat_tests, past) in
    ap (λ (o : Bool). if o then (if nat_lt b.peg reach then reach else min b.low reach) else reach) above
stable_with_batch reach (c ∷ cs) b past = by (stable_with_batch reach cs b past) (nat_lt b.low c.low) where
  by : stable_below reach (with_batch b cs) ≡ stable_below reach cs → (o : Bool) → stable_below reach (if o then b ∷ c ∷ cs else c ∷ with_batch b cs) ≡ stable_below reach (c ∷ cs)
  by rest true =
      let above : nat_lt b.low reach ≡ false = grind (arith, nat_tests, past) in
      let n : ℕ = stable_below reach (c ∷ cs) in
      ap (λ (o : Bool). if o then (if nat_lt b.peg reach then n else min b.low n) else n) above
  by rest false = ap (λ n. if nat_lt c.low reach then (if nat_lt c.peg reach then n else min c.low n) else n) rest

-- They lie by place from further in front on as well,
pub from_lower : (low from : ℕ) → low ≤ from → (bs : List Batch) → AreByPlace from bs → AreByPlace low bs
from_lower low from down [] are = are
from_lower low from down (b ∷ bs) are = let up = are.0 in (omega (arith, down, up), are.1, are.2)

-- and so do those that are left of them,
pub left_by_place : (end from : ℕ) (bs : List Batch) → AreByPlace from bs → AreByPlace from (not_whole end bs)
left_by_place end from [] are = are
left_by_place end from (b ∷ bs) are = by (left_by_place end (b.peg + 1) bs are.2) (nat_lt b.peg end) where
  by : AreByPlace (b.peg + 1) (not_whole end bs) → (o : Bool) → AreByPlace from (if o then not_whole end bs else b ∷ not_whole end bs)
  by rest true = let up = are.0 in let own = are.1 in from_lower from (b.peg + 1) (omega (arith, up, own)) (not_whole end bs) rest
  by rest false = (are.0, are.1, rest)

-- and they do with one more that has no place in common with them.
pub with_by_place : (b : Batch) → b.low ≤ b.peg → (from : ℕ) → from ≤ b.low → (cs : List Batch) → ((c : Batch) → Contains cs c → (c.peg < b.low) ⊎ (b.peg < c.low)) → AreByPlace from cs → AreByPlace from (with_batch b cs)
with_by_place b own from up [] apart are = (up, own, are)
with_by_place b own from up (c ∷ cs) apart are =
    by (apart c (in_first c cs)) (λ below. with_by_place b own (c.peg + 1) below cs (λ x there. apart x (in_rest c x cs there)) are.2) (nat_lt b.low c.low) refl where
      by : (c.peg < b.low) ⊎ (b.peg < c.low) → (c.peg + 1 ≤ b.low → AreByPlace (c.peg + 1) (with_batch b cs)) → (o : Bool) → nat_lt b.low c.low ≡ o → AreByPlace from (if o then b ∷ c ∷ cs else c ∷ with_batch b cs)
      by (inl below) rest true test = absurd (let less : b.low < c.low = grind (arith, nat_tests, test) in let its = are.1 in omega (arith, below, less, its))
      by (inr above) rest true test = (up, own, (omega (arith, above), are.1, are.2))
      by (inl below) rest false test = (are.0, are.1, rest (omega (arith, below)))
      by (inr above) rest false test = absurd (let high : c.low ≤ b.low = grind (arith, nat_tests, test) in omega (arith, above, high, own))

-- Of those with one more, which begins where nothing is read yet, those are left that were, with that one.
pub left_with : (end : ℕ) (b : Batch) → end ≤ b.low → b.low ≤ b.peg → (from : ℕ) (cs : List Batch) → AreByPlace from cs → not_whole end (with_batch b cs) ≡ with_batch b (not_whole end cs)
left_with end b past own from [] are = let test : nat_lt b.peg end ≡ false = grind (arith, nat_tests, past, own) in ap (λ (o : Bool). if o then [] else b ∷ []) test
left_with end b past own from (c ∷ cs) are = by (left_with end b past own (c.peg + 1) cs are.2) (nat_lt b.low c.low) (nat_lt c.peg end) refl refl where
  open_yet : nat_lt b.peg end ≡ false
  open_yet = grind (arith, nat_tests, past, own)

  by : not_whole end (with_batch b cs) ≡ with_batch b (not_whole end cs) → (o p : Bool) → nat_lt b.low c.low ≡ o → nat_lt c.peg end ≡ p
      → not_whole end (if o then b ∷ c ∷ cs else c ∷ with_batch b cs) ≡ with_batch b (if p then not_whole end cs else c ∷ not_whole end cs)
  by rest true true low peg = absurd (
      let less : b.low < c.low = grind (arith, nat_tests, low) in
      let ended : c.peg < end = grind (arith, nat_tests, peg) in
      let its = are.1 in
      omega (arith, less, ended, its, past))
  by rest true false low peg =
      ap (λ (o : Bool). if o then not_whole end (c ∷ cs) else b ∷ not_whole end (c ∷ cs)) open_yet
      ∙ ap (λ (o : Bool). b ∷ (if o then not_whole end cs else c ∷ not_whole end cs)) peg
      ∙ sym (ap (λ (o : Bool). if o then b ∷ c ∷ not_whole end cs else c ∷ with_batch b (not_whole end cs)) low)
  by rest false true low peg = ap (λ (o : Bool). if o then not_whole end (with_batch b cs) else c ∷ not_whole end (with_batch b cs)) peg ∙ rest
  by rest false false low peg =
      ap (λ (o : Bool). if o then not_whole end (with_batch b cs) else c ∷ not_whole end (with_batch b cs)) peg
      ∙ ap (λ (l : List Batch). c ∷ l) rest
      ∙ sym (ap (λ (o : Bool). if o then b ∷ c ∷ not_whole end cs else c ∷ with_batch b (not_whole end cs)) low)
