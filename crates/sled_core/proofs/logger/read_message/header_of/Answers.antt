use Rattle.std.proofs.Common.{length, ap, arith, length-append}
use Rattle.sled_core.proofs.Read.ReadingLemmas.{header_some}
use Rattle.sled_core.proofs.logger.read_message.header_of.Goals as goal

pub returns-in-Err-clause-none : goal.returns-in-Err-clause-none
returns-in-Err-clause-none c = λ front rest h is spelled. c.in-Err.ensures.corrupt (rw c.in-Err.ensures.errors tt) front rest h is tt spelled

pub returns-clause-inside : goal.returns-clause-inside
returns-clause-inside c =
    let taken = c.in-Ok.ensures.ok in
    let some = header_some taken.0 c.in-Ok.header taken.1 in
    let parts = ap length taken.2 in
    let whole = length-append taken.0 c.deserialize.new.buf.now in
    (omega (arith, some, parts, whole), omega arith)

pub returns-clause-bytes : goal.returns-clause-bytes
returns-clause-bytes c = λ i. (c.type_inv.bytes i).fits

pub returns-in-Err-clause-bytes : goal.returns-in-Err-clause-bytes
returns-in-Err-clause-bytes c = λ i. (c.type_inv.bytes i).fits
