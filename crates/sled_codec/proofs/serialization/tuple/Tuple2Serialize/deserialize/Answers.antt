-- The second part is taken behind the first one.
use Rattle.std.proofs.lemmas.Result.{err_from_is_err_and}
use Rattle.sled_codec.proofs.Pairs.{behind_first, takes_pair}
use Rattle.sled_codec.proofs.serialization.tuple.Tuple2Serialize.deserialize.Goals as goal

pub returns-in_err-second-clause-corrupt : goal.returns-in_err-second-clause-corrupt
returns-in_err-second-clause-corrupt g c =
    let e = err_from_is_err_and c.from_residual-in_err-second.result c.from_residual-in_err-second.ensures.1 in
    rw (e.1, e.2)
    (λ corrupt front rest v is follows p.
    c.in_err-second.ensures.corrupt corrupt p.second rest v.1
    (behind_first g.A.Serialize.Spells g.B.Serialize.Spells g.met.A.Delimited.no_front _ _ front rest v.0 _ v.1 c.in_ok-first.ensures.ok p is) follows p.back)

pub returns-clause-ok : goal.returns-clause-ok
returns-clause-ok g c =
    takes_pair g.A.Serialize.Spells g.B.Serialize.Spells _ _ _ _ _ c.in_ok-first.ensures.ok c.in_ok-second.ensures.ok
