-- The sealed buffer that has an offset is the first that ends behind it: where its reservations begin, and what is written of it.
use Rattle.std.proofs.Common.{◌≡◌, ◌≤◌, ◌<◌, ◌+◌, ◌-◌, ℕ, zero, suc, max, List, [], ◌∷◌, ◌++◌, length, take, drop, get_or, Some, refl, sym, ap, subst, arith, inl, inr}
use Rattle.std.specs.List.{All, slice_get}
use Rattle.std.specs.List.Sorted.{IsNonDecreasingBy, IsPartitionPoint}
use Rattle.std.proofs.lemmas.Bool.{cases_lt}
use Rattle.std.proofs.lemmas.List.{drop-drop}
use Rattle.std.proofs.lemmas.Option.{slice_get-get_or, slice_get_within}
use Rattle.sled_core.specs.declared.iobuf.Reserved.{Reserved}
use Rattle.sled_core.specs.declared.iobuf.Sealed.{Sealed}
use Rattle.sled_core.specs.inside.Buffers.{IsChain}
use Rattle.sled_core.specs.inside.SealedBuffers.{AreSealed, IsSealed}
use Rattle.sled_core.specs.SealedBuffers.{sealed_count, sealed_end}
use Rattle.sled_core.proofs.Reserve.Ranges.{chain_within}
use Rattle.sled_core.proofs.Sealed.Ended.{chain_rest, get_behind, get_front, lies_in}
use Rattle.sled_core.proofs.Sealed.Runs.{chain_on, end_begun, take_more}

-- All reservations of sealed buffers and of the current one are one chain.
pub whole_chain : (from : ℕ) (rs : List Reserved) (bs : List Sealed) (end : ℕ) → AreSealed from rs bs → IsChain (max 20 (sealed_end from bs)) (drop (sealed_count bs) rs) end → IsChain (max 20 from) rs end
whole_chain from rs [] end are chain = chain
whole_chain from rs (b ∷ bs) end are chain =
    let both : drop (sealed_count bs) (drop b.count rs) ≡ drop (b.count + sealed_count bs) rs = drop-drop (sealed_count bs) b.count rs in
    let rest = whole_chain b.end (drop b.count rs) bs end are.1 (subst (λ (l : List Reserved). IsChain (max 20 (sealed_end b.end bs)) l end) (sym both) chain) in
    subst (λ (l : List Reserved). IsChain (max 20 from) l end) (take_drop b.count rs)
    (chain_on (max 20 from) b.end end (take b.count rs) (drop b.count rs) are.0.chain (subst (λ n. IsChain n (drop b.count rs) end) (end_begun from (take b.count rs) b are.0) rest))
  where
    take_drop : (n : ℕ) (xs : List Reserved) → take n xs ++ drop n xs ≡ xs
    take_drop zero xs = refl
    take_drop (suc n) [] = refl
    take_drop (suc n) (x ∷ xs) = ap (λ (l : List Reserved). x ∷ l) (take_drop n xs)

-- They begin in their order.
pub from_in_order : (from end : ℕ) (rs : List Reserved) → IsChain from rs end → IsNonDecreasingBy (λ (r : Reserved). r.from) rs
from_in_order from end [] chain i j d le lt = absurd (omega (arith, lt))
from_in_order from end (r ∷ rs) chain zero zero d le lt = omega arith
from_in_order from end (r ∷ rs) chain zero (suc j) d le lt =
    let here : r.from ≡ from = chain.0 in
    let up = chain_within (from + r.len) end rs chain.1 j d (omega (arith, lt)) in
    omega (arith, here, up.0)
from_in_order from end (r ∷ rs) chain (suc i) zero d le lt = absurd (omega (arith, le))
from_in_order from end (r ∷ rs) chain (suc i) (suc j) d le lt = from_in_order (from + r.len) end rs chain.1 i j d (omega (arith, le)) (omega (arith, lt))

-- Those of the first k buffers, and the others.
pub parts_at : (from : ℕ) (rs : List Reserved) (bs : List Sealed) (k end : ℕ) → AreSealed from rs bs → IsChain (max 20 from) rs end
    → IsChain (max 20 from) (take (sealed_count (take k bs)) rs) (max 20 (sealed_end from (take k bs))) × IsChain (max 20 (sealed_end from (take k bs))) (drop (sealed_count (take k bs)) rs) end
parts_at from rs bs zero end are chain = (refl, chain)
parts_at from rs [] (suc k) end are chain = (refl, chain)
parts_at from rs (b ∷ bs) (suc k) end are chain =
    let own : List Reserved = take b.count rs in
    let more : List Reserved = drop b.count rs in
    let n : ℕ = sealed_count (take k bs) in
    let begins : max 20 b.end ≡ b.end = end_begun from own b are.0 in
    let behind : IsChain b.end more end = chain_rest (max 20 from) end rs b.count b.end chain are.0.chain in
    let rest = parts_at b.end more bs k end are.1 (subst (λ m. IsChain m more end) (sym begins) behind) in (
      subst (λ (l : List Reserved). IsChain (max 20 from) l (max 20 (sealed_end b.end (take k bs)))) (sym (take_more b.count n rs))
          (chain_on (max 20 from) b.end (max 20 (sealed_end b.end (take k bs))) own (take n more) are.0.chain (subst (λ m. IsChain m (take n more) (max 20 (sealed_end b.end (take k bs)))) begins rest.0)),
      subst (λ (l : List Reserved). IsChain (max 20 (sealed_end b.end (take k bs))) l end) (drop-drop n b.count rs) rest.1,
    )

-- one of some
some_of : (xs : List Reserved) → 0 < length xs → Reserved
some_of [] some = absurd (omega (arith, some))
some_of (x ∷ xs) some = x

-- As many begin before a buffer as the buffers before it have.
module _ (from : ℕ) (rs : List Reserved) (bs : List Sealed) (k p end : ℕ) (are : AreSealed from rs bs) (chain : IsChain (max 20 from) rs end) (long : All (λ r. 0 < r.len) rs) (few : sealed_count (take k bs) ≤ length rs) (within : p ≤ length rs)
    (point : IsPartitionPoint (λ (r : Reserved). r.from < sealed_end from (take k bs)) (λ (r : Reserved). sealed_end from (take k bs) ≤ r.from) rs p) where
  abbrev n : ℕ
  n = sealed_count (take k bs)

  abbrev stop : ℕ
  stop = sealed_end from (take k bs)

  too_few : p < n → ⊥
  too_few less =
      let lt : p < length rs = omega (arith, less, few) in
      let d : Reserved = some_of rs (omega (arith, lt)) in
      let r : Reserved = get_or rs p d in
      let lies = lies_in (max 20 from) (max 20 stop) (take n rs) p r (parts_at from rs bs k end are chain).0 (get_front rs n p r less (slice_get-get_or rs p d lt)) in
      let some : 0 < r.len = long p d lt in
      let above : stop ≤ r.from = point.1 p d (omega arith) lt in
      omega (arith, lies.0, lies.1, some, above)

  too_many : n < p → ⊥
  too_many more =
      let lt : n < length rs = omega (arith, more, within) in
      let d : Reserved = some_of rs (omega (arith, lt)) in
      let r : Reserved = get_or rs n d in
      let lies = lies_in (max 20 stop) end (drop n rs) (n - n) r (parts_at from rs bs k end are chain).1 (get_behind rs n n r (omega arith) (slice_get-get_or rs n d lt)) in
      let below : r.from < stop = point.0 n d (omega arith) more in
      omega (arith, lies.0, below)

  pub first_index : p ≡ sealed_count (take k bs)
  first_index = elim (cases_lt p n) [
    | inl less ↦ absurd (too_few less)
    | inr le ↦ elim (cases_lt n p) [ inl more ↦ absurd (too_many more) | inr same ↦ omega (arith, le, same) ]
  ]

-- The first one that ends behind an offset is there, where the last one does.
pub end_within : (from at : ℕ) (bs : List Sealed) (k : ℕ) → from ≤ at → at < sealed_end from bs → ((j : ℕ) (d : Sealed) → j < k → (get_or bs j d).end ≤ at) → k < length bs
end_within from at [] k behind sealed below = absurd (omega (arith, behind, sealed))
end_within from at (b ∷ bs) zero behind sealed below = omega arith
end_within from at (b ∷ bs) (suc k) behind sealed below =
    let low : b.end ≤ at = below 0 b (omega arith) in
    let rest = end_within b.end at bs k low sealed (λ j d lt. below (suc j) d (omega (arith, lt))) in
    omega (arith, rest)

-- A sealed buffer has an offset.
pub record IsAround (at k : ℕ) (bs : List Sealed) (b : Sealed) : Type 0 where
  pub there : slice_get bs k ≡ Some b
  pub below : (j : ℕ) (d : Sealed) → j < k → (get_or bs j d).end ≤ at
  pub above : at < b.end

-- What a sealed buffer at an index has.
pub sealed_at : (from : ℕ) (rs : List Reserved) (bs : List Sealed) (k : ℕ) (b : Sealed) → AreSealed from rs bs → slice_get bs k ≡ Some b → IsSealed (sealed_end from (take k bs)) (take b.count (drop (sealed_count (take k bs)) rs)) b
sealed_at from rs [] k b are there = absurd (let within = slice_get_within [] k b there in omega (arith, within))
sealed_at from rs (x ∷ bs) zero b are there = let same : x ≡ b = cc in subst (λ (y : Sealed). IsSealed from (take y.count rs) y) same are.0
sealed_at from rs (x ∷ bs) (suc k) b are there =
    subst (λ (l : List Reserved). IsSealed (sealed_end x.end (take k bs)) (take b.count l) b) (drop-drop (sealed_count (take k bs)) x.count rs) (sealed_at x.end (drop x.count rs) bs k b are.1 there)

-- the first ones have no more than all
pub count_within : (bs : List Sealed) (k : ℕ) → sealed_count (take k bs) ≤ sealed_count bs
count_within bs zero = omega arith
count_within [] (suc k) = omega arith
count_within (b ∷ bs) (suc k) = let rest = count_within bs k in omega (arith, rest)
