use Rattle.std.proofs.Common.{rules, w64, SFits, to_z, arith, sym, subst}
use Rattle.std.proofs.lemmas.Int.{ints, to_z-of_z}
use Rattle.std.specs.BinaryHeap.{heap_items}
use Rattle.sled_core.specs.StableEnds.{Reaches, turned}
use Rattle.sled_core.proofs.iobuf.intervals.take_in.Goals as goal

pub loop-further-preserved : goal.loop-further-preserved
loop-further-preserved c =
    let step = c.in-Some.ensures.forward in
    let fits : SFits w64 c.in-Some.further = search rules in
    let so_far = c.loop-further.invariant.forward in
    record {
      ordered = search rules;
      reaches = λ s is r. rw (to_z-of_z w64 _ fits) (c.in-Some.ensures.reaches s is (c.loop-further.invariant.reaches s is r));
      forward = rw (to_z-of_z w64 _ fits) (omega (arith, ints));
      fewer = search rules;
      room = search rules;
    }

pub returns-clause-reaches : goal.returns-clause-reaches
returns-clause-reaches c s is r =
    let same = to_z-of_z w64 c.args.from c.ranges.from in
    let at = c.loop-further.invariant.reaches s is (subst (λ z. Reaches s is z (turned (heap_items c.args.ahead.now))) (sym same) r) in
    let end = to_z w64 c.loop-further.end-bits in
    subst (λ items. Reaches s is end (turned items)) (sym c.in_default.ensures.unchanged.0) at

pub returns-clause-beyond : goal.returns-clause-beyond
returns-clause-beyond c = c.in_default.ensures.beyond

pub returns-clause-end : goal.returns-clause-end
returns-clause-end c s is r =
    let same = to_z-of_z w64 c.args.from c.ranges.from in
    c.in_default.ensures.end s is (c.loop-further.invariant.reaches s is (subst (λ z. Reaches s is z (turned (heap_items c.args.ahead.now))) (sym same) r))
