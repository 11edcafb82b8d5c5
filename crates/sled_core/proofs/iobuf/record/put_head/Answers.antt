use Rattle.std.proofs.Common.{rules, ◌∙◌, ◌+◌, ap, take, replicate, List, ℕ}
use Rattle.sled_codec.specs.Written.{written}
use Rattle.sled_core.proofs.Reserve.Placeholders.{head_placed}
use Rattle.sled_core.proofs.iobuf.record.put_head.Goals as goal

pub returns-clause-front : goal.returns-clause-front
returns-clause-front c =
    let head = c.args.head.now in
    let at : ℕ = c.args.at in
    ap (take (at + head.len)) (c.copy_in-2.ensures.bytes ∙ ap (λ (l : List ℕ). written l at (replicate 5 0)) c.copy_in.ensures.bytes)
    ∙ head_placed c.args.buf.now head.bytes at head.len (search rules) head.long head.within c.requires
