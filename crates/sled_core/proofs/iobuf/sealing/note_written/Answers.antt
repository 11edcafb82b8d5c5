use Rattle.std.proofs.Common.{◌<◌, rules, length}
use Rattle.sled_core.proofs.Reserve.Parts.{there_is}
use Rattle.sled_core.proofs.Sealed.Marked.{written_set}
use Rattle.sled_core.proofs.iobuf.sealing.note_written.Goals as goal

pub returns : goal.returns
returns c =
    let below : c.args.k < length c.args.sealed.now.items = search rules in
    record { items = written_set c.args.k c.args.sealed.now.items c.index_mut-b.result.now (there_is c.args.sealed.now.items c.args.k c.index_mut-b.result.now below c.index_mut-b.ensures.value) }
