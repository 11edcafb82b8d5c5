-- The segments that a log has, as a reader of its file goes over them.
use Rattle.std.specs.Prelude.{◌+◌, ◌*◌, ◌/◌, ◌^◌, ◌&&◌, nat_le, nat_lt, max, not, if◌then◌else◌, ℕ, suc, ℤ, negsuc, List, [], ◌∷◌, ◌++◌}
use Rattle.std.specs.List.Sorted.{IsNonDecreasingBy, IsPermutation}
use Rattle.sled_store.specs.SegmentStates.{Machine, SlotState, is_free}
use Rattle.sled_core.specs.declared.iterator.Segment.{Segment}
use Rattle.sled_core.specs.Tail.{place_of_mark}

-- the segment that holds the place from which an iterator begins; a negative one counts as 0
abbrev pub begins_from : ℕ → ℤ → ℕ
begins_from size lsn = place_of_mark lsn / size * size

-- from where what is held counts: the beginning of the segment of a mark, or the place with which a log began, where that is greater
abbrev pub held_from : ℕ → ℕ → ℤ → ℕ
held_from size began mark = max began (begins_from size mark)

-- the segment of the k-th slot as a reader has it, where it begins from one place up to another (and ends below 2^63, as each does): nothing is said of its
-- mark
abbrev pub segment_within : ℕ → ℕ → ℕ → ℕ → SlotState → List Segment
segment_within size from to k s =
    if not (is_free s.state) && nat_le from s.lsn && nat_lt s.lsn to && nat_lt (s.lsn + size) (2 ^ 63)
    then record { place = s.lsn; slot = k * size; mark = negsuc 0 } ∷ []
    else []

-- those of the slots from the k-th on
abbrev pub segments_among : ℕ → ℕ → ℕ → ℕ → List SlotState → List Segment
segments_among size from to k [] = []
segments_among size from to k (s ∷ ss) = segment_within size from to k s ++ segments_among size from to (suc k) ss

-- The segments that begin from one place up to another, by place.
pub record AreSegments (size : ℕ) (m : Machine) (from to : ℕ) (ss : List Segment) : Type 0 where
  pub are : IsPermutation (segments_among size from to 0 m.slots) ss
  pub by_place : IsNonDecreasingBy (λ s. s.place) ss
