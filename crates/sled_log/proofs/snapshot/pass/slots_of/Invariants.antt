use Rattle.std.proofs.Common.{◌≡◌, map, take}
use Rattle.sled_log.proofs.snapshot.pass.slots_of.Given as goal

-- the slots so far
abbrev pub invariant-loop-segment : goal.invariant-loop-segment
invariant-loop-segment l = record { slots : l.slots.items ≡ map (λ s. s.slot) (take l.segment-index l.segments) }
