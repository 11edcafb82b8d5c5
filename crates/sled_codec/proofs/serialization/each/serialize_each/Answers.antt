-- A turn writes one value behind those before it.
use Rattle.std.proofs.Common.{◌∙◌, sym, ap, List, ℕ, arith, map, take}
use Rattle.std.specs.List.{flat_map}
use Rattle.sled_codec.specs.Written.{written, written_twice}
use Rattle.sled_codec.proofs.Sequences.{one_more, longer, no_longer, holds_here}
use Rattle.sled_codec.proofs.serialization.each.serialize_each.Goals as goal

pub serialize_into-next-requires-clause-fits : goal.serialize_into-next-requires-clause-fits
serialize_into-next-requires-clause-fits g c =
    holds_here g.T.Serialize.meaning g.T.Serialize.short c.args.values.now c.loop-value.value-index c.value-item.result c.loop-value-test.true c.value-item.is g.T.Serialize.fits c.requires.fits

pub serialize_into-next-requires-clause-room : goal.serialize_into-next-requires-clause-room
serialize_into-next-requires-clause-room g c =
    let most = no_longer g.T.Serialize.meaning g.T.Serialize.short c.args.values.now c.loop-value.value-index c.value-item.result c.loop-value-test.true c.value-item.is in
    omega (arith, most, c.requires.room, c.loop-value.invariant.next, c.loop-value.auto.buf)

pub loop-value-preserved : goal.loop-value-preserved
loop-value-preserved g c =
    let short = g.T.Serialize.short in
    let buf : List ℕ = c.args.buf.now in
    let before : List ℕ = flat_map short (take c.loop-value.value-index (map g.T.Serialize.meaning c.args.values.now)) in
    let one : List ℕ = short (g.T.Serialize.meaning c.value-item.result) in
    let most = no_longer g.T.Serialize.meaning g.T.Serialize.short c.args.values.now c.loop-value.value-index c.value-item.result c.loop-value-test.true c.value-item.is in
    let more = one_more g.T.Serialize.meaning g.T.Serialize.short c.args.values.now c.loop-value.value-index c.value-item.result c.loop-value-test.true c.value-item.is in
    let long = longer g.T.Serialize.meaning g.T.Serialize.short c.args.values.now c.loop-value.value-index c.value-item.result c.loop-value-test.true c.value-item.is in record {
      next = omega (arith, long, c.serialize_into-next.ensures.next, c.loop-value.invariant.next);
      bytes =
          c.serialize_into-next.ensures.bytes
          ∙ ap (λ (l : List ℕ). written l c.loop-value.next one) c.loop-value.invariant.bytes
          ∙ written_twice buf c.args.at before (omega (arith, most, c.requires.room)) one c.loop-value.next c.loop-value.invariant.next
          ∙ ap (written buf c.args.at) (sym more);
    }
