-- Segments that were collected and sorted by place are in order, or can't be of one log.
use Rattle.std.proofs.Common.{pos, ◌≡◌, ◌≢◌, ◌∙◌, ◌⊎◌, ◌+◌, ◌-◌, ◌<◌, ℕ, suc, Bool, true, false, ◌&&◌, nat_lt, List, [], ◌∷◌, length, get_or, refl, sym, ap, subst, arith, inl, inr, ⊎_elim, ne_eqb}
use Rattle.std.specs.List.{Contains, AllPairs, AllAdjacentBelow}
use Rattle.std.specs.List.Sorted.{IsPermutation, IsNonDecreasingBy}
use Rattle.std.proofs.Math.Dec.{eqb}
use Rattle.std.proofs.lemmas.Bool.Decides.{eqb_tells, nat_tests}
use Rattle.std.proofs.lemmas.Bool.{cases_lt, eqb-false}
use Rattle.std.proofs.lemmas.List.{get_or_default}
use Rattle.std.proofs.lemmas.List.Elements.{Contains-get_or}
use Rattle.std.proofs.lemmas.List.Sorted.{Contains-permutation, IsPermutation-sym}
use Rattle.std.proofs.lemmas.Map.Keys.{IsDistinct-from_apart, IsDistinct-IsPermutation, apart_from_distinct}
use Rattle.sled_core.specs.declared.iterator.Segment.{Segment}
use Rattle.sled_core.specs.inside.Scan.{IsFoundSegment, IsMisplaced}
use Rattle.sled_core.proofs.Read.FoundLemmas.{found_there}
use Rattle.sled_log.specs.Recovery.{IsOrdering, IsUnordered, is_ascending}
use Rattle.sled_log.specs.Ordering.{AreCollected, ShareAPlace}

abbrev same_slot : Segment → Segment → Bool
same_slot s t = eqb s.slot t.slot

-- a test of two numbers is the same the other way round
flips : (a b : ℕ) → eqb a b ≡ eqb b a
flips a b = ⊎_elim same other (eqb_tells a b) where
  same : (eqb a b ≡ true) × (a ≡ b) → eqb a b ≡ eqb b a
  same both = ap (λ n. eqb n b) both.1 ∙ ap (eqb b) (sym both.1)

  other : (eqb a b ≡ false) × (a ≢ b) → eqb a b ≡ eqb b a
  other both = both.0 ∙ sym (ne_eqb b a (λ is. both.1 (sym is)))

-- segments of different slots stay so when they change places
pub apart_permuted : (ss ts : List Segment) → IsPermutation ss ts → AllPairs (λ s t. s.slot ≢ t.slot) ss → AllPairs (λ s t. s.slot ≢ t.slot) ts
apart_permuted ss ts moves apart = λ i j d lt within.
    let distinct = IsDistinct-from_apart same_slot ss (λ k l x below in_range. ne_eqb (get_or ss k x).slot (get_or ss l x).slot (apart k l x below in_range)) in
    eqb-false (get_or ts i d).slot (get_or ts j d).slot (apart_from_distinct same_slot ts i j d (IsDistinct-IsPermutation same_slot (λ s t. flips s.slot t.slot) ss ts moves distinct) lt within)

-- each begins above the one before it
pub ascends : (ss : List Segment) → AllAdjacentBelow (λ s t. s.place < t.place) ss (length ss) → is_ascending ss ≡ true
ascends [] above = refl
ascends (s ∷ []) above = refl
ascends (s ∷ t ∷ ss) above =
    let lt : s.place < t.place = above 0 s (omega arith) in
    let below : nat_lt s.place t.place ≡ true = grind (arith, nat_tests, lt) in
    ap (λ (b : Bool). b && is_ascending (t ∷ ss)) below ∙ ascends (t ∷ ss) (λ k d within.
    let next : suc k + 1 ≡ suc (k + 1) = omega arith in
    subst (λ (n : ℕ). (get_or (t ∷ ss) k d).place < (get_or (s ∷ t ∷ ss) n d).place) next (above (suc k) d (omega (arith, within))))

-- one that doesn't begin above the one before it begins where that does
pub shared : (ss : List Segment) (i from : ℕ) (e : Segment) → IsNonDecreasingBy (λ s. s.place) ss → i < length ss → (i ≡ 0 → from ≡ 0) → ((d : Segment) → 0 < i → from ≡ (get_or ss (i - 1) d).place + 1) → (get_or ss i e).place < from → ShareAPlace ss
shared ss i from e sorted lt first behind below =
    let some : 0 < i = ⊎_elim (λ is. is) (λ none. let zero = first (omega (arith, none)) in absurd (omega (arith, below, zero))) (cases_lt 0 i) in
    let is : i - 1 + 1 ≡ i = omega (arith, some) in
    record {
      at = i - 1;
      within = omega (arith, is, lt);
      same = λ d.
          let here : (get_or ss i d).place ≡ (get_or ss i e).place = ap (λ (x : Segment). x.place) (get_or_default ss i d e lt) in
          let above = sorted (i - 1) i d (omega arith) lt in
          let beyond = behind d some in
          subst (λ k. (get_or ss (i - 1) d).place ≡ (get_or ss k d).place) (sym is) (omega (arith, here, above, beyond, below));
    }

module _ (sum : List ℕ → ℕ) (size : ℕ) (log : List ℕ) (least : ℕ) (ss ts : List Segment) (are : AreCollected sum size log least ss (length log)) (moves : IsPermutation ss ts) where
  found_in : (s : Segment) → Contains ts s → IsFoundSegment sum size log least s
  found_in s there = ((are.has s).0 (Contains-permutation ts ss s (IsPermutation-sym ss ts moves) there)).0

  -- those that can be of one log, in order
  pub in_order : is_ascending ts ≡ true → ((s : Segment) → Contains ts s → IsMisplaced size s → ⊥) → IsOrdering sum size log least ts
  in_order ascending placed = record {
    ascending = ascending;
    found = λ s. (found_in s, λ found. Contains-permutation ss ts s moves ((are.has s).1 (found, omega (arith, found_there sum size log least s found))));
    placed = placed;
  }

  -- and those that can't
  pub unordered : ((s : Segment) × Contains ts s × IsMisplaced size s) ⊎ ShareAPlace ts → IsUnordered sum size log least
  unordered (inl bad) = inl (bad.0, found_in bad.0 bad.1, bad.2)
  unordered (inr twins) =
      let d : Segment = record { place = 0; slot = 0; mark = pos 0 } in
      let s : Segment = get_or ts twins.at d in
      let t : Segment = get_or ts (twins.at + 1) d in
      let within : twins.at < length ts = omega (arith, twins.within) in
      inr (
        s,
        t,
        found_in s (Contains-get_or ts twins.at d within),
        found_in t (Contains-get_or ts (twins.at + 1) d twins.within),
        apart_permuted ss ts moves are.apart twins.at (twins.at + 1) d (omega arith) twins.within,
        twins.same d,
      )
