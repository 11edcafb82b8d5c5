-- A text begins with a number where it has the bytes that its lead byte tells of.
use Rattle.std.proofs.Common.{arith, length, ◌<◌, refl}
use Rattle.sled_codec.proofs.Fronts.{has_number, takes_number, takes_small}
use Rattle.sled_codec.proofs.serialization.number.U64Serialize.deserialize.Goals as goal

pub returns-then-is_empty-clause-corrupt : goal.returns-then-is_empty-clause-corrupt
returns-then-is_empty-clause-corrupt c =
    λ _ front rest v is follows spelled. let has = has_number _ front rest v is spelled in grind (arith, c.is_empty.ensures)

pub returns-then-bytes-end-clause-corrupt : goal.returns-then-bytes-end-clause-corrupt
returns-then-bytes-end-clause-corrupt c =
    λ _ front rest v is follows spelled. omega (arith, has_number _ front rest v is spelled, c.more_bytes-end.ensures)

pub returns-clause-ok : goal.returns-clause-ok
returns-clause-ok c = takes_number _ _ _ c.more_bytes-end.ensures (omega arith) c.number_of-value.ensures.value (omega arith) (omega arith)

pub returns-then-lead-le240-clause-ok : goal.returns-then-lead-le240-clause-ok
returns-then-lead-le240-clause-ok c =
    let some : 0 < length c.args.buf.now.now = grind (arith, c.is_empty.ensures) in
    takes_small c.args.buf.now.now _ some c.if-lead-le240.true refl
