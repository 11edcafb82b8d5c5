-- Batches in order: which of them are wholly synced, and where a new one belongs.
use Rattle.std.proofs.Common.{◌≡◌, ◌⊎◌, ◌<◌, ◌≤ℤ◌, ◌<ℤ◌, ◌-ℤ◌, zero, suc, ℤ, pos, true, false, int_le, List, [], ◌∷◌, length, drop, slice_index_or, refl, sym, ap, ◌∙◌, subst, inl, inr, arith}
use Rattle.std.specs.List.{All, Contains}
use Rattle.std.specs.List.Sorted.{IsPartitionedBy}
use Rattle.std.proofs.lemmas.Int.{ints}
use Rattle.std.proofs.lemmas.List.Elements.{All-contains, All-cons, All-head, All-tail, All-weaker, All-nil}
use Rattle.sled_core.specs.StableEnds.{IsHalfSynced, IsBeforeHalfSynced, Precedes, AreInOrder, AreWaiting, end_before}
use Rattle.sled_core.proofs.Stable.EndLemmas.{or_beyond, first, first_or_later}

pub first_precedes : (b : ℤ × ℤ) (bs : List (ℤ × ℤ)) → AreInOrder (b ∷ bs) → Precedes b bs
first_precedes b bs ord = ord.0

pub rest_in_order : (b : ℤ × ℤ) (bs : List (ℤ × ℤ)) → AreInOrder (b ∷ bs) → AreInOrder bs
rest_in_order b bs ord = ord.1

-- all behind the first one end behind its peg
pub behind_first : (b : ℤ × ℤ) (bs : List (ℤ × ℤ)) → Precedes b bs → AreInOrder bs → All (λ c. b.1 <ℤ c.1) bs
behind_first b [] p ord = All-nil (λ c. b.1 <ℤ c.1)
behind_first b (c ∷ cs) p ord = All-cons (λ c. b.1 <ℤ c.1) c cs here (behind_first b cs (record { ordered = p.ordered; before = All-tail (λ c. b.1 <ℤ c.0) c cs p.before }) (rest_in_order c cs ord))
  where
    here : b.1 <ℤ c.1
    here = let low : b.1 <ℤ c.0 = All-head (λ c. b.1 <ℤ c.0) c cs p.before in let up = (first_precedes c cs ord).ordered in omega (arith, ints)

-- which batches have ended by a place is known from the front on
pub parted : (place : ℤ) (bs : List (ℤ × ℤ)) → AreInOrder bs → IsPartitionedBy (λ b. int_le b.1 place) bs
parted place [] ord i j d le lt is = absurd (omega arith)
parted place (b ∷ bs) ord zero zero d le lt is = is
parted place (b ∷ bs) ord zero (suc j) d le lt is = let above : b.1 <ℤ (slice_index_or bs j d).1 = behind_first b bs (first_precedes b bs ord) (rest_in_order b bs ord) j d (omega arith) in grind (arith, ints)
parted place (b ∷ bs) ord (suc i) zero d le lt is = absurd (omega arith)
parted place (b ∷ bs) ord (suc i) (suc j) d le lt is = parted place bs (rest_in_order b bs ord) i j d (omega arith) (omega arith) is

pub int_le-true : (a b : ℤ) → int_le a b ≡ true → a ≤ℤ b
int_le-true a b is = grind (arith, ints)

pub int_le-false : (a b : ℤ) → int_le a b ≡ false → b <ℤ a
int_le-false a b is = grind (arith, ints)

-- Dropped from the front.

-- a batch that is wholly synced isn't awaited
pub drop_first : (bs : List (ℤ × ℤ)) (e : ℤ) (b : ℤ × ℤ) (left : List (ℤ × ℤ)) → b.1 ≤ℤ e → AreWaiting bs e (b ∷ left) → AreWaiting bs e left
drop_first bs e b left done a = record {
  in_order = rest_in_order b left a.in_order;
  among = All-tail (Contains bs) b left a.among;
  kept = All-weaker (λ x. (x.1 ≤ℤ e) ⊎ Contains (b ∷ left) x) (λ x. (x.1 ≤ℤ e) ⊎ Contains left x) still bs a.kept;
}
  where
    of : (x : ℤ × ℤ) → (b ≡ x) ⊎ Contains left x → (x.1 ≤ℤ e) ⊎ Contains left x
    of x (inl same) = inl (subst (λ y. y.1 ≤ℤ e) same done)
    of x (inr c) = inr c

    still : (x : ℤ × ℤ) → (x.1 ≤ℤ e) ⊎ Contains (b ∷ left) x → (x.1 ≤ℤ e) ⊎ Contains left x
    still x (inl le) = inl le
    still x (inr c) = of x (first_or_later b x left c)

-- where the first one is not wholly synced, none is
pub all_open : (e : ℤ) (b : ℤ × ℤ) (bs : List (ℤ × ℤ)) → AreInOrder (b ∷ bs) → e <ℤ b.1 → All (λ c. e <ℤ c.1) (b ∷ bs)
all_open e b bs ord open_yet = All-cons (λ c. e <ℤ c.1) b bs open_yet (All-weaker (λ c. b.1 <ℤ c.1) (λ c. e <ℤ c.1) (λ c lt. omega (arith, ints)) bs (behind_first b bs (first_precedes b bs ord) (rest_in_order b bs ord)))

-- the end that the batches allow is no higher than the contiguous one, and not below a place that both are above
pub not_beyond : (e : ℤ) (bs : List (ℤ × ℤ)) → end_before e bs ≤ℤ e
not_beyond e [] = omega (arith, ints)
not_beyond e (b ∷ bs) = grind (arith, ints)

pub not_under : (e low : ℤ) (bs : List (ℤ × ℤ)) → low ≤ℤ e → All (λ c. low <ℤ c.0) bs → low ≤ℤ end_before e bs
not_under e low [] le above = le
not_under e low (b ∷ bs) le above = let here : low <ℤ b.0 = All-head (λ c. low <ℤ c.0) b bs above in grind (arith, ints)

-- without its first batch, wholly synced, the end is no lower
pub rises_on : (e : ℤ) (b : ℤ × ℤ) (bs : List (ℤ × ℤ)) → AreInOrder (b ∷ bs) → b.1 ≤ℤ e → end_before e (b ∷ bs) ≤ℤ end_before e bs
rises_on e b bs ord done =
    let p = first_precedes b bs ord in
    let up = p.ordered in
    let mine : end_before e (b ∷ bs) ≤ℤ b.1 = grind (arith, ints) in
    let rest : b.1 ≤ℤ end_before e bs = not_under e b.1 bs done p.before in omega (arith, ints)

-- with a contiguous end further on, the end is no lower
pub rises_to : (e e' : ℤ) (bs : List (ℤ × ℤ)) → e ≤ℤ e' → end_before e bs ≤ℤ end_before e' bs
rises_to e e' [] le = le
rises_to e e' (b ∷ bs) le = grind (arith, ints)

-- and with both the end that was computed
pub rises_over : (e0 e e' : ℤ) (bs bs' : List (ℤ × ℤ)) (r : ℤ) → e0 ≤ℤ e → e' ≡ e → r ≡ end_before e' bs' → end_before e bs ≤ℤ end_before e bs' → end_before e0 bs ≤ℤ r
rises_over e0 e e' bs bs' r le end at rises =
    let further = rises_to e0 e bs le in subst (λ z. end_before e0 bs ≤ℤ z) (sym (at ∙ ap (λ z. end_before z bs') end)) (omega (arith, ints))

-- The stable end.

-- it is what the batches that aren't wholly synced allow
pub is_stable : (bs : List (ℤ × ℤ)) (e : ℤ) (left : List (ℤ × ℤ)) → AreWaiting bs e left → All (λ b. e <ℤ b.1) left
    → (All (λ b. IsHalfSynced e b → ⊥) bs × (end_before e left ≡ e)) ⊎ IsBeforeHalfSynced e bs (end_before e left)
is_stable bs e [] a open_yet = inl (All-weaker (λ b. (b.1 ≤ℤ e) ⊎ Contains [] b) (λ b. IsHalfSynced e b → ⊥) none bs a.kept, refl)
  where
    none : (b : ℤ × ℤ) → (b.1 ≤ℤ e) ⊎ Contains [] b → IsHalfSynced e b → ⊥
    none b (inl le) half = let up = half.1 in absurd (omega (arith, ints))
    none b (inr (k, lt, at)) half = absurd (omega arith)
is_stable bs e (b ∷ left) a open_yet = by (or_beyond b.0 e)
  where
    low_of : (x : ℤ × ℤ) → Contains (b ∷ left) x → b.0 ≤ℤ x.0
    low_of x c = of (first_or_later b x left c)
      where
        of : (b ≡ x) ⊎ Contains left x → b.0 ≤ℤ x.0
        of (inl same) = subst (λ y. b.0 ≤ℤ y.0) same (omega (arith, ints))
        of (inr c) = let p = first_precedes b left a.in_order in let up = p.ordered in let above : b.1 <ℤ x.0 = All-contains (λ y. b.1 <ℤ y.0) left x p.before c in omega (arith, ints)

    lowest : (x : ℤ × ℤ) → (x.1 ≤ℤ e) ⊎ Contains (b ∷ left) x → IsHalfSynced e x → b.0 ≤ℤ x.0
    lowest x (inl le) half = let up = half.1 in absurd (omega (arith, ints))
    lowest x (inr c) half = low_of x c

    by : (b.0 ≤ℤ e) ⊎ (e <ℤ b.0) → (All (λ x. IsHalfSynced e x → ⊥) bs × (end_before e (b ∷ left) ≡ e)) ⊎ IsBeforeHalfSynced e bs (end_before e (b ∷ left))
    by (inl le) = inr (record {
      batch = b;
      among = All-contains (Contains bs) (b ∷ left) b a.among (first b left);
      half = (le, All-head (λ x. e <ℤ x.1) b left open_yet);
      lowest = All-weaker (λ x. (x.1 ≤ℤ e) ⊎ Contains (b ∷ left) x) (λ x. IsHalfSynced e x → b.0 ≤ℤ x.0) lowest bs a.kept;
      before = grind (arith, ints);
    })
    by (inr lt) = inl (All-weaker (λ x. (x.1 ≤ℤ e) ⊎ Contains (b ∷ left) x) (λ x. IsHalfSynced e x → ⊥) none bs a.kept, grind (arith, ints))
      where
        none : (x : ℤ × ℤ) → (x.1 ≤ℤ e) ⊎ Contains (b ∷ left) x → IsHalfSynced e x → ⊥
        none x at half = let low : b.0 ≤ℤ x.0 = lowest x at half in let under = half.0 in absurd (omega (arith, ints))

-- What stands in front.

-- what is taken out in front is the first one
pub front_popped : {X : Type 0} (xs rest : List X) (b : X) → 0 < length xs → b ≡ slice_index_or xs 0 b → rest ≡ drop 1 xs → xs ≡ b ∷ rest
front_popped [] rest b lt at is = absurd (omega arith)
front_popped (x ∷ xs) rest b lt at is = ap (λ y. y ∷ xs) (sym at) ∙ ap (λ l. b ∷ l) (sym is)

-- where the first one isn't wholly synced, none is
pub open_from : (e : ℤ) (bs : List (ℤ × ℤ)) (b : ℤ × ℤ) → AreInOrder bs → 0 < length bs → b ≡ slice_index_or bs 0 b → e <ℤ b.1 → All (λ c. e <ℤ c.1) bs
open_from e [] b ord lt at open_yet = absurd (omega arith)
open_from e (x ∷ xs) b ord lt at open_yet = all_open e x xs ord (subst (λ y. e <ℤ y.1) at open_yet)

-- what is no higher than the end stays so without the first batch, wholly synced
pub rises_past : (e low : ℤ) (b : ℤ × ℤ) (bs : List (ℤ × ℤ)) → AreInOrder (b ∷ bs) → b.1 ≤ℤ e → low ≤ℤ end_before e (b ∷ bs) → low ≤ℤ end_before e bs
rises_past e low b bs ord done under = let up = rises_on e b bs ord done in omega (arith, ints)

-- with a contiguous end further on, they are still all that may be awaited
pub awaits_on : (bs : List (ℤ × ℤ)) (e e' : ℤ) (left : List (ℤ × ℤ)) → e ≤ℤ e' → AreWaiting bs e left → AreWaiting bs e' left
awaits_on bs e e' left le a = record {
  in_order = a.in_order;
  among = a.among;
  kept = All-weaker (λ x. (x.1 ≤ℤ e) ⊎ Contains left x) (λ x. (x.1 ≤ℤ e') ⊎ Contains left x) still bs a.kept;
}
  where
    still : (x : ℤ × ℤ) → (x.1 ≤ℤ e) ⊎ Contains left x → (x.1 ≤ℤ e') ⊎ Contains left x
    still x (inl below) = inl (omega (arith, ints))
    still x (inr c) = inr c

-- the first one decides the end
pub end_here : (e : ℤ) (bs : List (ℤ × ℤ)) (b : ℤ × ℤ) → 0 < length bs → b ≡ slice_index_or bs 0 b → b.0 ≤ℤ e → (b.0 -ℤ pos 1) ≡ end_before e bs
end_here e [] b lt at le = absurd (omega arith)
end_here e (x ∷ xs) b lt at le = let from : x.0 ≤ℤ e = subst (λ y. y.0 ≤ℤ e) at le in ap (λ y. y.0 -ℤ pos 1) at ∙ before
  where
    before : (x.0 -ℤ pos 1) ≡ end_before e (x ∷ xs)
    before = let from : x.0 ≤ℤ e = subst (λ y. y.0 ≤ℤ e) at le in grind (arith, ints)

pub end_there : (e : ℤ) (bs : List (ℤ × ℤ)) (b : ℤ × ℤ) → 0 < length bs → b ≡ slice_index_or bs 0 b → e <ℤ b.0 → e ≡ end_before e bs
end_there e [] b lt at le = absurd (omega arith)
end_there e (x ∷ xs) b lt at le = let from : e <ℤ x.0 = subst (λ y. e <ℤ y.0) at le in grind (arith, ints)

pub end_alone : (e : ℤ) (bs : List (ℤ × ℤ)) → length bs ≡ 0 → e ≡ end_before e bs
end_alone e [] none = refl
end_alone e (x ∷ xs) none = absurd (omega arith)
