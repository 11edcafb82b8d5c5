use Rattle.std.proofs.Common.{◌∙◌, ap, drop}
use Rattle.std.proofs.lemmas.List.{take_rest, drop-append-le}
use Rattle.sled_core.proofs.iobuf.record.sum_behind.Goals as goal

pub returns-clause-sum : goal.returns-clause-sum
returns-clause-sum g c =
    c.sum-sum.ensures
    ∙ ap g.C.Checksum.sum_of (
    take_rest c.deref.result.now c.args.from
    ∙ ap (drop c.args.from) c.deref.ensures.value
    ∙ ap (drop c.args.from) c.push_bytes.ensures.bytes
    ∙ drop-append-le c.args.from c.args.bytes.now.items c.args.tail.now c.requires.from)
