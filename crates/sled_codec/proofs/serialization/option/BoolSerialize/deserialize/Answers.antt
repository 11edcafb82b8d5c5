-- Where no byte is there, no flag is.
use Rattle.std.proofs.lemmas.Result.{err_from_is_err_and}
use Rattle.sled_codec.proofs.serialization.option.BoolSerialize.deserialize.Goals as goal

pub returns-in_err-deserialize-clause-corrupt : goal.returns-in_err-deserialize-clause-corrupt
returns-in_err-deserialize-clause-corrupt c =
    let e = err_from_is_err_and c.from_residual.result c.from_residual.ensures.1 in
    rw (e.1, e.2) (λ corrupt front rest v is follows p. c.in_err-deserialize.ensures.corrupt corrupt front rest p.byte is tt (record { is = p.is; small = p.small }))
