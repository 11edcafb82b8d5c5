use Rattle.std.proofs.Common.{◌∙◌, pos, ap, subst}
use Rattle.std.specs.List.{Contains}
use Rattle.std.proofs.lemmas.List.{drop_all}
use Rattle.sled_core.specs.declared.iterator.Segment.{Segment}
use Rattle.sled_store.proofs.Histories.Ascending.{in_nothing}
use Rattle.sled_log.proofs.Passes.Behind.{left_behind}
use Rattle.sled_log.proofs.snapshot.reference.segment_at.Goals as goal

pub loop-segment-preserved : goal.loop-segment-preserved
loop-segment-preserved c = λ s there at.
    left_behind c.args.segments.now c.loop-segment.segment-index (record { place = 0; slot = 0; mark = pos 0 }) s c.loop-segment-test.true
    (λ is. c.if-segment-place.false (ap (λ (x : Segment). x.place) is ∙ at)) (c.loop-segment.invariant s there at)

pub returns-clause-none : goal.returns-clause-none
returns-clause-none c = λ s there at.
    in_nothing s (subst (λ l. Contains l s) (drop_all c.loop-segment.segment-index c.args.segments.now c.loop-segment-test.false) (c.loop-segment.invariant s there at))
