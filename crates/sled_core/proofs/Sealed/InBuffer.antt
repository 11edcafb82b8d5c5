-- The sealed buffer that has an open reservation is the first one that ends behind where that begins. Once a reservation has ended, the buffers end where they did, and have as many.
use Rattle.std.proofs.Common.{◌≡◌, ◌≤◌, ◌<◌, ◌+◌, ◌-◌, ℕ, zero, suc, max, Bool, true, false, nat_lt, if◌then◌else◌, List, [], ◌∷◌, length, take, drop, set, get_or, sym, ◌∙◌, ap, arith, refl, inl, inr, Some}
use Rattle.std.specs.List.{All, slice_get}
use Rattle.std.specs.List.Sorted.{IsNonDecreasingBy, IsPartitionPoint}
use Rattle.std.proofs.lemmas.Bool.{cases_lt}
use Rattle.std.proofs.lemmas.Bool.Decides.{nat_tests}
use Rattle.std.proofs.lemmas.List.Elements.{All-cons, All-nil}
use Rattle.sled_core.specs.declared.iobuf.ReservationState.TheVariants.{Open, Completed}
use Rattle.sled_core.specs.declared.iobuf.Reserved.{Reserved}
use Rattle.sled_core.specs.declared.iobuf.Sealed.{Sealed}
use Rattle.sled_core.specs.inside.Buffers.{ended}
use Rattle.sled_core.specs.inside.SealedBuffers.{IsSealed, AreSealed, FirstUnwritten, HasOpenAt, one_ended, one_fewer}
use Rattle.sled_core.specs.SealedBuffers.{sealed_end, sealed_count}
use Rattle.sled_core.proofs.Reserve.OpenCounts.{open_fewer}
use Rattle.sled_core.proofs.Sealed.Ended.{get_front, get_behind, lies_in}

-- each ends behind where the first one begins
ends_above : (from : ℕ) (rs : List Reserved) (bs : List Sealed) → AreSealed from rs bs → All (λ b. from < b.end) bs
ends_above from rs [] are = All-nil (λ b. from < b.end)
ends_above from rs (b ∷ bs) are =
    let here = are.0.rises in
    All-cons (λ c. from < c.end) b bs here (λ i d lt. let up = ends_above b.end (drop b.count rs) bs are.1 i d lt in omega (arith, here, up))

-- they end in their order
pub ends_in_order : (from : ℕ) (rs : List Reserved) (bs : List Sealed) → AreSealed from rs bs → IsNonDecreasingBy (λ (b : Sealed). b.end) bs
ends_in_order from rs [] are i j d le lt = absurd (omega (arith, lt))
ends_in_order from rs (b ∷ bs) are zero zero d le lt = omega arith
ends_in_order from rs (b ∷ bs) are zero (suc j) d le lt = let up : b.end < (get_or bs j d).end = ends_above b.end (drop b.count rs) bs are.1 j d (omega (arith, lt)) in omega (arith, up)
ends_in_order from rs (b ∷ bs) are (suc i) zero d le lt = absurd (omega (arith, le))
ends_in_order from rs (b ∷ bs) are (suc i) (suc j) d le lt = ends_in_order b.end (drop b.count rs) bs are.1 i j d (omega (arith, le)) (omega (arith, lt))

-- a reservation of theirs begins no further in front than they do
lies_above : (from : ℕ) (rs : List Reserved) (bs : List Sealed) (i : ℕ) (r : Reserved) → AreSealed from rs bs → i < sealed_count bs → slice_get rs i ≡ Some r → from ≤ r.from
lies_above from rs [] i r are theirs there = absurd (omega (arith, theirs))
lies_above from rs (b ∷ bs) i r are theirs there = elim (cases_lt i b.count) [
  | inl own ↦ (let lies = lies_in (max 20 from) b.end (take b.count rs) i r are.0.chain (get_front rs b.count i r own there) in let low = lies.0 in omega (arith, low))
  | inr later ↦ (
      let up = lies_above b.end (drop b.count rs) bs (i - b.count) r are.1 (omega (arith, theirs, later)) (get_behind rs b.count i r later there) in
      let here = are.0.rises in
      omega (arith, up, here))
]

-- a buffer that has an open one counts it
pub own_open : (from : ℕ) (own : List Reserved) (b : Sealed) (i : ℕ) (r : Reserved) → IsSealed from own b → slice_get own i ≡ Some r → r.state ≡ Open → 0 < b.open_count
own_open from own b i r is there open_yet = let counts = open_fewer own i r (ended Completed r) there open_yet refl in let same = is.still_open in omega (arith, counts, same)

-- The buffer at an index has the reservation at another, which is open.
pub record Waits (bs : List Sealed) (k index : ℕ) : Type 0 where
  pub buffer : Sealed
  pub there : slice_get bs k ≡ Some buffer
  pub some : 0 < buffer.open_count
  pub fewer : set bs k (one_fewer buffer) ≡ one_ended index bs

waits_own : (from : ℕ) (rs : List Reserved) (b : Sealed) (bs : List Sealed) (i : ℕ) (r : Reserved) → IsSealed from (take b.count rs) b → i < b.count → slice_get rs i ≡ Some r → r.state ≡ Open → Waits (b ∷ bs) zero i
waits_own from rs b bs i r is own there open_yet =
    let mine : nat_lt i b.count ≡ true = grind (arith, nat_tests, own) in
    record {
      buffer = b;
      there = refl;
      some = own_open from (take b.count rs) b i r is (get_front rs b.count i r own there) open_yet;
      fewer = sym (ap (λ (o : Bool). if o then one_fewer b ∷ bs else b ∷ one_ended (i - b.count) bs) mine);
    }

waits_later : (b : Sealed) (bs : List Sealed) (k i : ℕ) → b.count ≤ i → Waits bs k (i - b.count) → Waits (b ∷ bs) (suc k) i
waits_later b bs k i later rest =
    let others : nat_lt i b.count ≡ false = grind (arith, nat_tests, later) in
    record {
      buffer = rest.buffer;
      there = rest.there;
      some = rest.some;
      fewer = ap (λ (l : List Sealed). b ∷ l) rest.fewer ∙ sym (ap (λ (o : Bool). if o then one_fewer b ∷ bs else b ∷ one_ended (i - b.count) bs) others);
    }

waits_at : (from : ℕ) (rs : List Reserved) (bs : List Sealed) (k i : ℕ) (r : Reserved) → AreSealed from rs bs → i < sealed_count bs → slice_get rs i ≡ Some r → 0 < r.len → r.state ≡ Open
    → ((j : ℕ) (d : Sealed) → j < k → (get_or bs j d).end ≤ r.from) → ((j : ℕ) (d : Sealed) → k ≤ j → j < length bs → r.from < (get_or bs j d).end) → Waits bs k i
waits_at from rs [] k i r are theirs there some open_yet below above = absurd (omega (arith, theirs))
waits_at from rs (b ∷ bs) zero i r are theirs there some open_yet below above = elim (cases_lt i b.count) [
  | inl own ↦ waits_own from rs b bs i r are.0 own there open_yet
  | inr later ↦ (
      let up = lies_above b.end (drop b.count rs) bs (i - b.count) r are.1 (omega (arith, theirs, later)) (get_behind rs b.count i r later there) in
      let low : r.from < b.end = above 0 b (omega arith) (omega arith) in
      absurd (omega (arith, up, low)))
]
waits_at from rs (b ∷ bs) (suc k) i r are theirs there some open_yet below above = elim (cases_lt i b.count) [
  | inl own ↦ (
      let lies = lies_in (max 20 from) b.end (take b.count rs) i r are.0.chain (get_front rs b.count i r own there) in
      let high = lies.1 in
      let up : b.end ≤ r.from = below 0 b (omega arith) in
      absurd (omega (arith, high, up, some)))
  | inr later ↦ waits_later b bs k i later (waits_at b.end (drop b.count rs) bs k (i - b.count) r are.1 (omega (arith, theirs, later)) (get_behind rs b.count i r later there) some open_yet
      (λ j d lt. below (suc j) d (omega (arith, lt))) (λ j d le lt. above (suc j) d (omega (arith, le)) (omega (arith, lt))))
]

-- The first one that ends behind where an open reservation begins has it.
pub waits_first : (at : ℕ) (rs : List Reserved) (index from : ℕ) (bs : List Sealed) (k : ℕ) → HasOpenAt at rs index from bs → IsPartitionPoint (λ (b : Sealed). b.end ≤ from) (λ (b : Sealed). from < b.end) bs k → Waits bs k index
waits_first at rs index from bs k has point =
    let begins = has.begins in
    waits_at at rs bs k index has.reserved has.are has.theirs has.there has.some has.open_yet
    (λ j d lt. let low : (get_or bs j d).end ≤ from = point.0 j d (omega arith) lt in omega (arith, low, begins))
    (λ j d le lt. let high : from < (get_or bs j d).end = point.1 j d le lt in omega (arith, high, begins))

-- Once a reservation has ended, they have as many, and end where they did.

pub count_ended : (i : ℕ) (bs : List Sealed) → sealed_count (one_ended i bs) ≡ sealed_count bs
count_ended i [] = refl
count_ended i (b ∷ bs) = by_test (nat_lt i b.count) (count_ended (i - b.count) bs) where
  by_test : (o : Bool) → sealed_count (one_ended (i - b.count) bs) ≡ sealed_count bs → sealed_count (if o then one_fewer b ∷ bs else b ∷ one_ended (i - b.count) bs) ≡ b.count + sealed_count bs
  by_test true rest = refl
  by_test false rest = ap (λ n. b.count + n) rest

pub end_ended : (from i : ℕ) (bs : List Sealed) → sealed_end from (one_ended i bs) ≡ sealed_end from bs
end_ended from i [] = refl
end_ended from i (b ∷ bs) = by_test (nat_lt i b.count) (end_ended b.end (i - b.count) bs) where
  by_test : (o : Bool) → sealed_end b.end (one_ended (i - b.count) bs) ≡ sealed_end b.end bs → sealed_end from (if o then one_fewer b ∷ bs else b ∷ one_ended (i - b.count) bs) ≡ sealed_end b.end bs
  by_test true rest = refl
  by_test false rest = rest

-- the first one isn't written then either
pub first_ended : (i : ℕ) (bs : List Sealed) → FirstUnwritten bs → FirstUnwritten (one_ended i bs)
first_ended i [] first = tt
first_ended i (b ∷ bs) first = by_test (nat_lt i b.count) where
  by_test : (o : Bool) → FirstUnwritten (if o then one_fewer b ∷ bs else b ∷ one_ended (i - b.count) bs)
  by_test true = first
  by_test false = first

-- where it isn't theirs, they are as they were
pub none_ended : (i : ℕ) (bs : List Sealed) → sealed_count bs ≤ i → one_ended i bs ≡ bs
none_ended i [] beyond = refl
none_ended i (b ∷ bs) beyond =
    let others : nat_lt i b.count ≡ false = let le : b.count ≤ i = omega (arith, beyond) in grind (arith, nat_tests, le) in
    ap (λ (o : Bool). if o then one_fewer b ∷ bs else b ∷ one_ended (i - b.count) bs) others ∙ ap (λ (l : List Sealed). b ∷ l) (none_ended (i - b.count) bs (omega (arith, beyond)))
