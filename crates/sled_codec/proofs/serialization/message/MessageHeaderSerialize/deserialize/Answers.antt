-- Each part is taken behind the one before it, and where one is missing no header stands at the front.
use Rattle.std.proofs.lemmas.Result.{err_from_is_err_and}
use Rattle.std.proofs.Common.{[], ◌∷◌, refl}
use Rattle.sled_codec.proofs.HeaderFronts.{behind-sum, behind-code, behind-len, behind-number, takes_header}
use Rattle.sled_codec.specs.HeaderLaws.{parted}
use Rattle.sled_codec.proofs.serialization.message.MessageHeaderSerialize.deserialize.Goals as goal

pub returns-in_err-crc32-clause-corrupt : goal.returns-in_err-crc32-clause-corrupt
returns-in_err-crc32-clause-corrupt c =
    let e = err_from_is_err_and c.from_residual.result c.from_residual.ensures.1 in
    rw (e.1, e.2) (λ corrupt front rest v is follows p. c.in_err-crc32.ensures.corrupt corrupt p.sum _ v.crc32 (parted _ front rest v p is) tt p.summed)

pub returns-in_err-code-clause-corrupt : goal.returns-in_err-code-clause-corrupt
returns-in_err-code-clause-corrupt c =
    let e = err_from_is_err_and c.from_residual-in_err-code.result c.from_residual-in_err-code.ensures.1 in
    rw (e.1, e.2)
    (λ corrupt front rest v is follows p.
    c.in_err-code.ensures.corrupt corrupt (p.code ∷ []) _ p.code (behind-sum _ front rest v p is _ _ c.in_ok-crc32.ensures.ok) tt (record { is = refl; small = p.coded }))

pub returns-in_err-len-clause-corrupt : goal.returns-in_err-len-clause-corrupt
returns-in_err-len-clause-corrupt c =
    let e = err_from_is_err_and c.from_residual-in_err-len.result c.from_residual-in_err-len.ensures.1 in
    rw (e.1, e.2)
    (λ corrupt front rest v is follows p.
    c.in_err-len.ensures.corrupt corrupt p.len _ v.len (behind-code _ front rest v p is _ _ _ _ c.in_ok-crc32.ensures.ok c.in_ok-code.ensures.ok) tt p.counted)

pub returns-in_err-number-clause-corrupt : goal.returns-in_err-number-clause-corrupt
returns-in_err-number-clause-corrupt c =
    let e = err_from_is_err_and c.from_residual-in_err-number.result c.from_residual-in_err-number.ensures.1 in
    rw (e.1, e.2)
    (λ corrupt front rest v is follows p.
    c.in_err-number.ensures.corrupt corrupt p.number _ v.segment_number.0
    (behind-len _ front rest v p is _ _ _ _ _ _ c.in_ok-crc32.ensures.ok c.in_ok-code.ensures.ok c.in_ok-len.ensures.ok) tt p.numbered)

pub returns-in_err-pid-clause-corrupt : goal.returns-in_err-pid-clause-corrupt
returns-in_err-pid-clause-corrupt c =
    let e = err_from_is_err_and c.from_residual-in_err-pid.result c.from_residual-in_err-pid.ensures.1 in
    rw (e.1, e.2)
    (λ corrupt front rest v is follows p.
    c.in_err-pid.ensures.corrupt corrupt p.page _ v.pid
    (behind-number _ front rest v p is _ _ _ _ _ _ _ _ c.in_ok-crc32.ensures.ok c.in_ok-code.ensures.ok c.in_ok-len.ensures.ok c.in_ok-number.ensures.ok) tt p.paged)

pub returns-clause-ok : goal.returns-clause-ok
returns-clause-ok c =
    takes_header _ _ _ _ _ _ _ _ _ _ _ _ c.in_ok-crc32.ensures.ok c.in_ok-code.ensures.ok c.in_ok-len.ensures.ok c.in_ok-number.ensures.ok c.in_ok-pid.ensures.ok c.from.ensures
