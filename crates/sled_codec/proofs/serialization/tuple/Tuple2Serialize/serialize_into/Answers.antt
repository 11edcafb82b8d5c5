-- The second part is written behind the first one.
use Rattle.std.proofs.Common.{◌∙◌, ap, List, ℕ, arith, length-append}
use Rattle.sled_codec.specs.Written.{written, written_twice}
use Rattle.sled_codec.proofs.serialization.tuple.Tuple2Serialize.serialize_into.Goals as goal

pub returns-clause-bytes : goal.returns-clause-bytes
returns-clause-bytes g c =
    let buf : List ℕ = c.args.buf.now in
    let first : List ℕ = g.A.Serialize.short (g.A.Serialize.meaning c.args.self.now.0) in
    let second : List ℕ = g.B.Serialize.short (g.B.Serialize.meaning c.args.self.now.1) in
    c.serialize_into.ensures.bytes
    ∙ ap (λ (l : List ℕ). written l c.serialize_into-next.result second) c.serialize_into-next.ensures.bytes
    ∙ written_twice buf c.args.at first (omega (arith, c.requires.room, length-append first second)) second _ c.serialize_into-next.ensures.next
