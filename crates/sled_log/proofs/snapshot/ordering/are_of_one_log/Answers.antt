use Rattle.std.proofs.Common.{ℕ, List, get_or, pos, inl, inr, arith}
use Rattle.std.proofs.lemmas.List.Elements.{Contains-get_or}
use Rattle.sled_core.specs.declared.iterator.Segment.{Segment}
use Rattle.sled_log.proofs.Ordering.SortedSegments.{shared, ascends}
use Rattle.sled_log.proofs.snapshot.ordering.are_of_one_log.Goals.{then-is_misplaced-via-then-is_misplaced, then-is_misplaced-via-else-is_misplaced+then-segment-from}
use Rattle.sled_log.proofs.snapshot.ordering.are_of_one_log.Goals as goal

pub returns-then-is_misplaced-clause-not : goal.returns-then-is_misplaced-clause-not
returns-then-is_misplaced-clause-not c = λ no.
    let ss : List Segment = c.args.segments.now in
    let i : ℕ = c.loop-segment.segment-index in
    let d : Segment = record { place = 0; slot = 0; mark = pos 0 } in
    elim c.then-is_misplaced.branch [
      | then-is_misplaced-via-then-is_misplaced w ↦ inl (get_or ss i d, Contains-get_or ss i d c.loop-segment-test.true, c.is_misplaced.ensures.0 w.if-is_misplaced.true)
      | then-is_misplaced-via-else-is_misplaced+then-segment-from w ↦ inr (shared ss i c.loop-segment.from d c.requires.sorted c.loop-segment-test.true c.loop-segment.invariant.first c.loop-segment.invariant.from w.if-segment-from.true)
    ]

pub returns-clause-ascending : goal.returns-clause-ascending
returns-clause-ascending c = λ yes.
    ascends c.args.segments.now (λ k d lt. c.loop-segment.invariant.ascending k d (omega (arith, lt, c.loop-segment-test.false)))
