-- A value without a spelling, or too long a one, is one of those that are asked about.
use Rattle.std.proofs.Common.{arith}
use Rattle.sled_codec.proofs.Sequences.{longer, no_longer, holds_here, fit_more, at_end}
use Rattle.sled_codec.proofs.serialization.each.can_serialize_each.Goals as goal

pub returns-then-not-can_serialize : goal.returns-then-not-can_serialize
returns-then-not-can_serialize g c = (
  λ t. cc,
  λ all.
      let fits = holds_here g.T.Serialize.meaning g.T.Serialize.short c.args.values.now c.loop-value.value-index c.value-item.result c.loop-value-test.true c.value-item.is g.T.Serialize.fits all.0 in
      let yes = c.can_serialize.ensures.1 fits in
      cc,
)

pub returns-in-None : goal.returns-in-None
returns-in-None g c = (
  λ t. cc,
  λ all.
      let most = no_longer g.T.Serialize.meaning g.T.Serialize.short c.args.values.now c.loop-value.value-index c.value-item.result c.loop-value-test.true c.value-item.is in
      absurd (c.in-None.ensures (omega (arith, most, all.1, c.serialized_size.ensures, c.loop-value.invariant.size))),
)

pub loop-value-preserved : goal.loop-value-preserved
loop-value-preserved g c =
    let sum = c.in-Some.ensures in record {
      size = omega (arith, longer g.T.Serialize.meaning g.T.Serialize.short c.args.values.now c.loop-value.value-index c.value-item.result c.loop-value-test.true c.value-item.is, c.serialized_size.ensures, c.loop-value.invariant.size, sum.1);
      small = omega (arith, sum.0, sum.1);
      fits = fit_more g.T.Serialize.meaning g.T.Serialize.short c.args.values.now c.loop-value.value-index c.value-item.result c.loop-value-test.true c.value-item.is g.T.Serialize.fits c.loop-value.invariant.fits (c.can_serialize.ensures.0 c.if-not-can_serialize.false);
    }

pub returns : goal.returns
returns g c = (
  λ t.
      let all = at_end g.T.Serialize.meaning c.args.values.now c.loop-value.value-index c.loop-value-test.false in
      let size = rw all at c.loop-value.invariant.size in
      (rw all at c.loop-value.invariant.fits, omega (arith, size, c.loop-value.invariant.small)),
  λ all. cc,
)
