-- What is collected of a log file before its segments are put in order by place.
use Rattle.std.specs.Prelude.{◌≡◌, ◌≢◌, ◌↔◌, ◌+◌, ◌<◌, ℕ, List, length, get_or, Contains}
use Rattle.std.specs.List.{AllPairs}
use Rattle.sled_core.specs.declared.iterator.Segment.{Segment}
use Rattle.sled_core.specs.Scan.{IsFoundSegment}

-- These are the segments that are found in the slots below one, each once: no two have one slot.
pub record AreCollected (sum : List ℕ → ℕ) (size : ℕ) (log : List ℕ) (least : ℕ) (ss : List Segment) (slot : ℕ) : Type 0 where
  pub has : (s : Segment) → Contains ss s ↔ (IsFoundSegment sum size log least s × (s.slot < slot))
  pub apart : AllPairs (λ s t. s.slot ≢ t.slot) ss

-- two of these, one behind the other, begin at one place
pub record ShareAPlace (ss : List Segment) : Type 0 where
  pub at : ℕ
  pub within : at + 1 < length ss
  pub same : (d : Segment) → (get_or ss at d).place ≡ (get_or ss (at + 1) d).place
