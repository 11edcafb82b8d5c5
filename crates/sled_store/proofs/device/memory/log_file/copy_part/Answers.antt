-- Outside the range a byte stays, and so it is the same still.
use Rattle.std.proofs.Common.{ℕ, List, arith, length, ◌≤◌, ◌<◌}
use Rattle.sled_store.proofs.LogFile.OverwrittenLemmas.{copied-same}
use Rattle.sled_store.proofs.device.memory.log_file.copy_part.Goals as goal

pub returns-then-from-end-clause-outside : goal.returns-then-from-end-clause-outside
returns-then-from-end-clause-outside c = λ i same.
    let old : List ℕ = c.args.settled.now.items in
    let from = c.args.from in
    let end = c.min-end.result in
    let some : from < end = c.if-from-end.true in
    let fits : end ≤ length c.args.bytes.now.items = omega arith in
    rw (c.copy_in.ensures.items, c.deref.ensures.value) (copied-same old c.args.bytes.now.items from end i some fits c.requires same)
