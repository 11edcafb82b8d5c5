-- A reservation of a segment ends: the buffer that has it waits for one fewer, and isn't written.
use Rattle.std.proofs.Common.{◌≡◌, ◌⊎◌, ◌≤◌, ◌<◌, ◌+◌, ◌-◌, ℕ, zero, suc, max, Bool, true, false, nat_lt, if◌then◌else◌, List, [], ◌∷◌, ◌++◌, length, take, drop, set, get_or, sym, ◌∙◌, ap, arith, refl, subst, inl, inr, length-take, Some}
use Rattle.std.specs.List.{slice_get}
use Rattle.std.proofs.lemmas.Bool.Decides.{nat_tests}
use Rattle.std.proofs.lemmas.List.{drop-append-le, drop-drop, drop-set-add, drop-set-lt, length-set, take-append-le, take-set-le}
use Rattle.std.proofs.lemmas.Option.{slice_get_within}
use Rattle.sled_store.proofs.Accounts.HandLemmas.{take-set-lt}
use Rattle.sled_core.specs.declared.iobuf.Reserved.{Reserved}
use Rattle.sled_core.specs.declared.iobuf.Sealed.{Sealed}
use Rattle.sled_core.specs.inside.Buffers.{IsChain}
use Rattle.sled_core.specs.Buffers.{open_in}
use Rattle.sled_core.specs.inside.SealedBuffers.{IsSealed, AreSealed, one_ended, one_fewer}
use Rattle.sled_core.specs.SealedBuffers.{sealed_end, sealed_count}
use Rattle.sled_core.proofs.Reserve.Ranges.{chain_grows}
use Rattle.sled_core.proofs.Sealed.LaidLemmas.{EndsRise, SameWritten}

-- an element of the first ones, and of the others
pub get_front : {X : Type 0} (xs : List X) (n i : ℕ) (x : X) → i < n → slice_get xs i ≡ Some x → slice_get (take n xs) i ≡ Some x
get_front [] zero i x below there = absurd (omega (arith, below))
get_front [] (suc n) i x below there = there
get_front (y ∷ ys) zero i x below there = absurd (omega (arith, below))
get_front (y ∷ ys) (suc n) zero x below there = there
get_front (y ∷ ys) (suc n) (suc i) x below there = get_front ys n i x (omega (arith, below)) there

pub get_behind : {X : Type 0} (xs : List X) (n i : ℕ) (x : X) → n ≤ i → slice_get xs i ≡ Some x → slice_get (drop n xs) (i - n) ≡ Some x
get_behind xs zero i x above there = let same : i - 0 ≡ i = omega arith in ap (λ k. slice_get xs k) same ∙ there
get_behind [] (suc n) i x above there = absurd (let within = slice_get_within [] i x there in omega (arith, within))
get_behind (y ∷ ys) (suc n) zero x above there = absurd (omega (arith, above))
get_behind (y ∷ ys) (suc n) (suc i) x above there = let same : suc i - suc n ≡ i - n = omega arith in ap (λ k. slice_get (drop n ys) k) same ∙ get_behind ys n i x (omega (arith, above)) there

-- one of a chain lies in it
pub lies_in : (from end : ℕ) (rs : List Reserved) (i : ℕ) (r : Reserved) → IsChain from rs end → slice_get rs i ≡ Some r → (from ≤ r.from) × (r.from + r.len ≤ end)
lies_in from end [] i r chain there = absurd (let within = slice_get_within [] i r there in omega (arith, within))
lies_in from end (x ∷ xs) zero r chain there =
    let same : x ≡ r = cc in
    let grows = chain_grows (from + x.len) end xs chain.1 in
    let place : x.from ≡ from = chain.0 in
    subst (λ (y : Reserved). (from ≤ y.from) × (y.from + y.len ≤ end)) same (omega (arith, place), omega (arith, place, grows))
lies_in from end (x ∷ xs) (suc i) r chain there = let rest = lies_in (from + x.len) end xs i r chain.1 there in let above = rest.0 in (omega (arith, above), rest.1)

-- no buffer ends below where the first one begins
pub ends_up : (from : ℕ) (rs : List Reserved) (bs : List Sealed) → AreSealed from rs bs → from ≤ sealed_end from bs
ends_up from rs [] are = omega arith
ends_up from rs (x ∷ xs) are = let here = are.0.rises in let rest = ends_up x.end (drop x.count rs) xs are.1 in omega (arith, here, rest)

-- the buffers of a chain
pub ends_rise : (from : ℕ) (rs : List Reserved) (bs : List Sealed) (to : ℕ) → AreSealed from rs bs → from ≤ to → sealed_end from bs ≤ to → EndsRise from bs to
ends_rise from rs [] to are low high = low
ends_rise from rs (b ∷ bs) to are low high = (are.0.rises, ends_rise b.end (drop b.count rs) bs to are.1 (let up = ends_up b.end (drop b.count rs) bs are.1 in omega (arith, up, high)) high)

-- the reservations behind those of the first buffer are a chain from its end on
pub chain_rest : (from end : ℕ) (rs : List Reserved) (n mid : ℕ) → IsChain from rs end → IsChain from (take n rs) mid → IsChain mid (drop n rs) end
chain_rest from end rs zero mid chain front = subst (λ k. IsChain k rs end) front chain
chain_rest from end [] (suc n) mid chain front = subst (λ k. IsChain k [] end) front chain
chain_rest from end (x ∷ xs) (suc n) mid chain front = chain_rest (from + x.len) end xs n mid chain.1 front.1

-- One of the reservations, which is open, and another one in its place that isn't.
module _ (r s : Reserved) (same_from : s.from ≡ r.from) (same_len : s.len ≡ r.len)
    (fewer : (xs : List Reserved) (j : ℕ) → slice_get xs j ≡ Some r → open_in xs ≡ open_in (set xs j s) + 1) where
  -- a chain with the other one
  pub chain_set : (from end : ℕ) (rs : List Reserved) (i : ℕ) → slice_get rs i ≡ Some r → IsChain from rs end → IsChain from (set rs i s) end
  chain_set from end [] i there chain = chain
  chain_set from end (x ∷ xs) zero there chain =
      let same : x ≡ r = cc in
      let len : s.len ≡ x.len = same_len ∙ sym (ap (λ (y : Reserved). y.len) same) in
      (same_from ∙ sym (ap (λ (y : Reserved). y.from) same) ∙ chain.0, subst (λ n. IsChain (from + n) xs end) (sym len) chain.1)
  chain_set from end (x ∷ xs) (suc i) there chain = (chain.0, chain_set (from + x.len) end xs i there chain.1)

  -- the buffer that has it
  own_ended : (from : ℕ) (own : List Reserved) (b : Sealed) (i : ℕ) → slice_get own i ≡ Some r → IsSealed from own b → IsSealed from (set own i s) (one_fewer b)
  own_ended from own b i there is =
      let count = fewer own i there in
      let was = is.still_open in
      record {
        rises = is.rises;
        chain = chain_set (max 20 from) b.end own i there is.chain;
        counted = is.counted ∙ sym (length-set own i s);
        still_open = omega (arith, count, was);
        ended = λ w. (let none = is.ended w in omega (arith, none));
      }

  not_written : (from : ℕ) (own : List Reserved) (b : Sealed) (i : ℕ) → slice_get own i ≡ Some r → IsSealed from own b → b.is_written ≡ true → ⊥
  not_written from own b i there is w = let none = is.ended w in let count = fewer own i there in let was = is.still_open in absurd (omega (arith, none, count, was))

  -- All of them with the other one.
  pub sealed_ended : (from : ℕ) (rs : List Reserved) (bs : List Sealed) (i : ℕ) → slice_get rs i ≡ Some r → AreSealed from rs bs → AreSealed from (set rs i s) (one_ended i bs)
  sealed_ended from rs [] i there are = tt
  sealed_ended from rs (b ∷ bs) i there are = by_test (λ above. sealed_ended b.end (drop b.count rs) bs (i - b.count) (get_behind rs b.count i r above there) are.1) (nat_lt i b.count) refl where
    by_test : (b.count ≤ i → AreSealed b.end (set (drop b.count rs) (i - b.count) s) (one_ended (i - b.count) bs)) → (o : Bool) → nat_lt i b.count ≡ o
        → AreSealed from (set rs i s) (if o then record { end = b.end; count = b.count; open_count = b.open_count - 1; is_written = b.is_written } ∷ bs else b ∷ one_ended (i - b.count) bs)
    by_test on true is =
        let below : i < b.count = grind (arith, nat_tests, is) in (
          subst (λ (l : List Reserved). IsSealed from l (one_fewer b)) (sym (take-set-lt b.count rs i s)) (own_ended from (take b.count rs) b i (get_front rs b.count i r below there) are.0),
          subst (λ (l : List Reserved). AreSealed b.end l bs) (sym (drop-set-lt b.count rs i s below)) are.1,
        )
    by_test on false is =
        let above : b.count ≤ i = grind (arith, nat_tests, is) in
        let at : b.count + (i - b.count) ≡ i = omega (arith, above) in (
          subst (λ (l : List Reserved). IsSealed from l b) (sym (take-set-le b.count rs i s above)) are.0,
          subst (λ (l : List Reserved). AreSealed b.end l (one_ended (i - b.count) bs)) (sym (drop-set-add b.count rs (i - b.count) s) ∙ ap (λ k. drop b.count (set rs k s)) at) (on above),
        )

  -- Bytes that are other ones in its record alone are the same in each buffer that is written.
  pub ended_same : (bytes other : List ℕ) → ((i : ℕ) → (i < r.from) ⊎ (r.from + r.len ≤ i) → get_or other i 0 ≡ get_or bytes i 0)
      → (from end : ℕ) (rs : List Reserved) (bs : List Sealed) (i : ℕ) → slice_get rs i ≡ Some r → IsChain (max 20 from) rs end → AreSealed from rs bs → SameWritten bytes other from bs
  ended_same bytes other same from end rs [] i there chain are = tt
  ended_same bytes other same from end rs (b ∷ bs) i there chain are = by_test (λ above. ended_same bytes other same b.end end (drop b.count rs) bs (i - b.count) (get_behind rs b.count i r above there) more are.1) (nat_lt i b.count) refl where
    begun : max 20 b.end ≡ b.end
    begun = let grows = chain_grows (max 20 from) b.end (take b.count rs) are.0.chain in omega (arith, grows)

    more : IsChain (max 20 b.end) (drop b.count rs) end
    more = subst (λ n. IsChain n (drop b.count rs) end) (sym begun) (chain_rest (max 20 from) end rs b.count b.end chain are.0.chain)

    by_test : (b.count ≤ i → SameWritten bytes other b.end bs) → (o : Bool) → nat_lt i b.count ≡ o → SameWritten bytes other from (b ∷ bs)
    by_test on true is =
        let below : i < b.count = grind (arith, nat_tests, is) in
        let own = get_front rs b.count i r below there in
        let lies = lies_in (max 20 from) b.end (take b.count rs) i r are.0.chain own in
        (λ w. absurd (not_written from (take b.count rs) b i own are.0 w), others_same b.end (drop b.count rs) bs are.1 lies.1)
      where
        others_same : (at : ℕ) (xs : List Reserved) (cs : List Sealed) → AreSealed at xs cs → r.from + r.len ≤ at → SameWritten bytes other at cs
        others_same at xs [] are behind = tt
        others_same at xs (c ∷ cs) are behind = (λ w k above below. same k (inr (omega (arith, behind, above))), others_same c.end (drop c.count xs) cs are.1 (let up = are.0.rises in omega (arith, up, behind)))
    by_test on false is =
        let above : b.count ≤ i = grind (arith, nat_tests, is) in
        let lies = lies_in (max 20 b.end) end (drop b.count rs) (i - b.count) r more (get_behind rs b.count i r above there) in
        let low = lies.0 in
        (λ w k over under. same k (inl (omega (arith, under, low, begun))), on above)

-- One more reservation behind them, and a buffer that has all of those behind them.

pub sealed_more : (from : ℕ) (rs : List Reserved) (bs : List Sealed) (more : List Reserved) → AreSealed from rs bs → AreSealed from (rs ++ more) bs
sealed_more from rs [] more are = tt
sealed_more from rs (b ∷ bs) more are =
    let count = are.0.counted in
    let within : b.count ≤ length rs = omega (arith, count, length-take b.count rs) in (
      subst (λ (l : List Reserved). IsSealed from l b) (sym (take-append-le b.count rs more within)) are.0,
      subst (λ (l : List Reserved). AreSealed b.end l bs) (sym (drop-append-le b.count rs more within)) (sealed_more b.end (drop b.count rs) bs more are.1),
    )

pub sealed_one : (from : ℕ) (rs : List Reserved) (bs : List Sealed) (b : Sealed) → AreSealed from rs bs → IsSealed (sealed_end from bs) (take b.count (drop (sealed_count bs) rs)) b → AreSealed from rs (bs ++ b ∷ [])
sealed_one from rs [] b are is = (is, tt)
sealed_one from rs (x ∷ xs) b are is =
    (are.0, sealed_one x.end (drop x.count rs) xs b are.1 (subst (λ (l : List Reserved). IsSealed (sealed_end x.end xs) (take b.count l) b) (sym (drop-both rs)) is))
  where
    drop-both : (rs : List Reserved) → drop (sealed_count xs) (drop x.count rs) ≡ drop (x.count + sealed_count xs) rs
    drop-both rs = drop-drop (sealed_count xs) x.count rs
