use Rattle.std.proofs.Common.{arith}
use native.Mathlib.Nat.{mul-mod_left, mul-le-mul_right}
use Rattle.sled_core.proofs.logger.iterating.segment_within.Goals as goal

pub returns-clause-ends : goal.returns-clause-ends
returns-clause-ends c =
    let reach = c.requires.account.in_reach in
    let small = c.requires.account.small in
    let short = c.if-place-size.false in
    let more = mul-le-mul_right c.args.size c.requires.slot in (
      mul-mod_left c.args.slot c.args.size,
      omega (arith, reach, more),
      omega (arith, short, small),
    )
