use Rattle.std.proofs.Common.{◌≡◌, ◌∙◌, ap, refl, get_or, List, ℕ, [], ◌∷◌}
use Rattle.sled_codec.specs.Written.{written}
use Rattle.sled_core.specs.inside.Buffers.{ending}
use Rattle.sled_core.proofs.iobuf.bytes.put_ending.Goals as goal

pub returns-clause-bytes : goal.returns-clause-bytes
returns-clause-bytes c =
    let sum : List ℕ = c.to_le_bytes-sum.result in
    let five : (get_or sum 0 0 ∷ get_or sum 1 0 ∷ get_or sum 2 0 ∷ get_or sum 3 0 ∷ c.from.result ∷ []) ≡ ending c.args.sum c.args.kind = rw (c.to_le_bytes-sum.ensures, c.from.ensures) refl in
    c.put.ensures.bytes ∙ ap (written c.args.buf.now.items c.args.at) five
