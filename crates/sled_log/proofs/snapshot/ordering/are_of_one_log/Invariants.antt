use Rattle.std.proofs.Common.{◌≡◌, ◌+◌, ◌-◌, ◌<◌, ℕ, get_or}
use Rattle.std.specs.List.{AllAdjacentBelow}
use Rattle.sled_core.specs.declared.iterator.Segment.{Segment}
use Rattle.sled_core.specs.inside.Scan.{IsMisplaced}
use Rattle.sled_log.proofs.snapshot.ordering.are_of_one_log.Given as goal

-- those so far begin where they can, one above the other, and the next one must begin above them
abbrev pub invariant-loop-segment : goal.invariant-loop-segment
invariant-loop-segment l =
    record {
      placed : (k : ℕ) (d : Segment) → k < l.segment-index → IsMisplaced l.fn.size (get_or l.segments k d) → ⊥;
      ascending : AllAdjacentBelow (λ s t. s.place < t.place) l.segments l.segment-index;
      first : l.segment-index ≡ 0 → l.from ≡ 0;
      from : (d : Segment) → 0 < l.segment-index → l.from ≡ (get_or l.segments (l.segment-index - 1) d).place + 1;
    }
