-- A turn adds the length of one value, and that of all is a `u64`.
use Rattle.std.proofs.Common.{arith}
use Rattle.sled_codec.proofs.Sequences.{longer, no_longer, holds_here}
use Rattle.sled_codec.proofs.serialization.each.size_of_each.Goals as goal

pub serialized_size-size-requires : goal.serialized_size-size-requires
serialized_size-size-requires g c =
    holds_here g.T.Serialize.meaning g.T.Serialize.short c.args.values.now c.loop-value.value-index c.value-item.result c.loop-value-test.true c.value-item.is g.T.Serialize.fits c.requires.0

pub overflow_add-size : goal.overflow_add-size
overflow_add-size g c =
    let most = no_longer g.T.Serialize.meaning g.T.Serialize.short c.args.values.now c.loop-value.value-index c.value-item.result c.loop-value-test.true c.value-item.is in
    omega (arith, most, c.requires.1, c.serialized_size-size.ensures, c.loop-value.invariant)

pub loop-value-preserved : goal.loop-value-preserved
loop-value-preserved g c =
    omega (arith, longer g.T.Serialize.meaning g.T.Serialize.short c.args.values.now c.loop-value.value-index c.value-item.result c.loop-value-test.true c.value-item.is, c.serialized_size-size.ensures, c.loop-value.invariant)
