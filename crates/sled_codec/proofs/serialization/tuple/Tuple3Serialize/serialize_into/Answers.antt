-- Each part is written behind the one before it.
use Rattle.std.proofs.Common.{◌≡◌, ◌∙◌, ap, List, ℕ, ◌+◌, ◌++◌, arith, length, length-append}
use Rattle.sled_codec.specs.Written.{written, written_twice}
use Rattle.sled_codec.proofs.serialization.tuple.Tuple3Serialize.serialize_into.Goals as goal

pub returns-clause-bytes : goal.returns-clause-bytes
returns-clause-bytes g c =
    let buf : List ℕ = c.args.buf.now in
    let first : List ℕ = g.A.Serialize.short (g.A.Serialize.meaning c.args.self.now.0) in
    let second : List ℕ = g.B.Serialize.short (g.B.Serialize.meaning c.args.self.now.1) in
    let third : List ℕ = g.C.Serialize.short (g.C.Serialize.meaning c.args.self.now.2) in
    let long : length (first ++ second) ≡ length first + length second = length-append first second in
    let whole : length (first ++ second ++ third) ≡ length first + length second + length third = length-append (first ++ second) third ∙ ap (λ n. n + length third) long in
    let two : c.serialize_into-next-2.new.buf ≡ written buf c.args.at (first ++ second) =
    c.serialize_into-next-2.ensures.bytes
    ∙ ap (λ (l : List ℕ). written l c.serialize_into-next.result second) c.serialize_into-next.ensures.bytes
    ∙ written_twice buf c.args.at first (omega (arith, c.requires.room)) second _ c.serialize_into-next.ensures.next in
    c.serialize_into.ensures.bytes
    ∙ ap (λ (l : List ℕ). written l c.serialize_into-next-2.result third) two
    ∙ written_twice buf c.args.at (first ++ second) (omega (arith, c.requires.room)) third _ (omega (arith, c.serialize_into-next.ensures.next, c.serialize_into-next-2.ensures.next))
