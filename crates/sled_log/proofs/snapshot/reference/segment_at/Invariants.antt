use Rattle.std.proofs.Common.{◌≡◌, drop}
use Rattle.std.specs.List.{Contains}
use Rattle.sled_core.specs.declared.iterator.Segment.{Segment}
use Rattle.sled_log.proofs.snapshot.reference.segment_at.Given as goal

-- one that begins at the place is among those that are left
abbrev pub invariant-loop-segment : goal.invariant-loop-segment
invariant-loop-segment l = (s : Segment) → Contains l.segments s → s.place ≡ l.fn.place → Contains (drop l.segment-index l.segments) s
