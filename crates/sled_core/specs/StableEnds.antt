-- Which places of a log are durable, and up to which place all are. An interval is a pair of places, both of which are in it; a batch is the pair of
-- its lowest place and its peg, the place at which it is whole.
use Rattle.std.specs.Prelude.{◌≡◌, ◌⊎◌, ◌≤ℤ◌, ◌<ℤ◌, ◌-ℤ◌, ℤ, pos, ⊤, List, [], ◌∷◌, Any, All, Contains, int_lt, FitsSigned, if◌then◌else◌, map}
use Rattle.std.specs.declared.cmp.Reverse.{Reverse}
use Rattle.std.specs.Int.{w64}
use Rattle.sled_codec.specs.History.{Batch}

-- the place is in the interval
abbrev pub LiesIn : ℤ → ℤ × ℤ → Type 0
LiesIn place i = (i.0 ≤ℤ place) × (place ≤ℤ i.1)

-- each place above s and up to e is in some interval of the list
abbrev pub Covers : ℤ → List (ℤ × ℤ) → ℤ → Type 0
Covers s is e = (p : ℤ) → s <ℤ p → p ≤ℤ e → Any (LiesIn p) is

-- the contiguous end: the greatest place up to which all above s is covered
pub record IsContiguousEnd (s : ℤ) (is : List (ℤ × ℤ)) (e : ℤ) : Type 0 where
  pub not_below : s ≤ℤ e
  pub covered : Covers s is e
  pub greatest : (p : ℤ) → Covers s is p → p ≤ℤ e

-- the contiguous end e lies inside the batch: it reaches the batch's lowest place and doesn't reach its peg
abbrev pub IsHalfSynced : ℤ → ℤ × ℤ → Type 0
IsHalfSynced e batch = (batch.0 ≤ℤ e) × (e <ℤ batch.1)

-- r is the place before the lowest of the batches that are half synced at e
pub record IsBeforeHalfSynced (e : ℤ) (bs : List (ℤ × ℤ)) (r : ℤ) : Type 0 where
  pub batch : ℤ × ℤ
  pub among : Contains bs batch
  pub half : IsHalfSynced e batch
  pub lowest : All (λ b. IsHalfSynced e b → batch.0 ≤ℤ b.0) bs
  pub before : r ≡ batch.0 -ℤ pos 1

-- the stable end: the contiguous end, where no batch is half synced at it, and otherwise the place before the lowest batch that is
pub record IsStableEnd (s : ℤ) (is bs : List (ℤ × ℤ)) (r : ℤ) : Type 0 where
  pub end : ℤ
  pub contiguous : IsContiguousEnd s is end
  pub stable : (All (λ b. IsHalfSynced end b → ⊥) bs × (r ≡ end)) ⊎ IsBeforeHalfSynced end bs r

-- the places of a batch that a log noted, as an interval
abbrev pub places_of : Batch → ℤ × ℤ
places_of b = (pos b.low, pos b.peg)

-- the batch isn't wholly synced at e, and the place is in it, below its peg
pub record IsOpenAround (e place : ℤ) (batch : ℤ × ℤ) : Type 0 where
  pub low : batch.0 ≤ℤ place
  pub peg : place <ℤ batch.1
  pub open_yet : e <ℤ batch.1

-- no place is in both, their pegs included
abbrev pub AreApart : ℤ × ℤ → ℤ × ℤ → Type 0
AreApart a b = (a.1 <ℤ b.0) ⊎ (b.1 <ℤ a.0)

-- the batch's peg isn't below its lowest place, and all these batches begin behind its peg
pub record Precedes (b : ℤ × ℤ) (bs : List (ℤ × ℤ)) : Type 0 where
  pub ordered : b.0 ≤ℤ b.1
  pub before : All (λ c. b.1 <ℤ c.0) bs

-- each batch of the list precedes those behind it
abbrev pub AreInOrder : List (ℤ × ℤ) → Type 0
AreInOrder [] = ⊤
AreInOrder (b ∷ bs) = Precedes b bs × AreInOrder bs

-- all above s is covered up to e, and ahead has only intervals of the list, and all of them that end beyond e
pub record Reaches (s : ℤ) (is : List (ℤ × ℤ)) (e : ℤ) (ahead : List (ℤ × ℤ)) : Type 0 where
  pub not_below : s ≤ℤ e
  pub covered : Covers s is e
  pub among : All (Contains is) ahead
  pub kept : All (λ i. (i.1 ≤ℤ e) ⊎ Contains ahead i) is

-- left has only batches of the list, in order, and all of them that aren't wholly synced at e
pub record AreWaiting (bs : List (ℤ × ℤ)) (e : ℤ) (left : List (ℤ × ℤ)) : Type 0 where
  pub in_order : AreInOrder left
  pub among : All (Contains bs) left
  pub kept : All (λ b. (b.1 ≤ℤ e) ⊎ Contains left b) bs

-- the stable end by the contiguous end and the batches that aren't wholly synced, in order
abbrev pub end_before : ℤ → List (ℤ × ℤ) → ℤ
end_before e [] = e
end_before e (b ∷ bs) = if int_lt e b.0 then e else (b.0 -ℤ pos 1)

-- the place before the batch's lowest place is a number of the type
abbrev pub HasPlaceBefore : ℤ × ℤ → Type 0
HasPlaceBefore batch = FitsSigned w64 (batch.0 -ℤ pos 1)

-- the intervals of a list that is in that order
abbrev pub turned : List (Reverse (ℤ × ℤ)) → List (ℤ × ℤ)
turned rs = map (λ r. r.0) rs
