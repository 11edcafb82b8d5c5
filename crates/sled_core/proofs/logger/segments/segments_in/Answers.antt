use Rattle.std.proofs.Common.{◌/◌, ap, arith, sym}
use Rattle.std.proofs.lemmas.Bool.{eqb-true}
use Rattle.sled_core.proofs.Line.Shifts.{one_bit}
use Rattle.sled_core.proofs.logger.segments.segments_in.Goals as goal

pub returns : goal.returns
returns c =
    let config = c.args.config.now in
    let most = config.most in
    ap (λ n. c.args.len / n) (sym (one_bit 64 config.segment_size (omega (arith, most)) (eqb-true _ 1 config.power)))
