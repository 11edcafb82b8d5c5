-- Where no number is there, nothing is spelled.
use Rattle.std.proofs.lemmas.Result.{err_from_is_err_and}
use Rattle.sled_codec.specs.Spelling.{or_zero_signed}
use Rattle.sled_codec.proofs.serialization.option.OptionI64Serialize.deserialize.Goals as goal

pub returns-in_err-number-clause-corrupt : goal.returns-in_err-number-clause-corrupt
returns-in_err-number-clause-corrupt c =
    let e = err_from_is_err_and c.from_residual.result c.from_residual.ensures.1 in
    rw (e.1, e.2) (λ corrupt front rest v is follows p. c.in_err-number.ensures.corrupt corrupt front rest (or_zero_signed v) is tt p)
