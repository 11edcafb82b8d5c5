use Rattle.std.proofs.Math.Nat.{mul-mod_left}
use Rattle.std.proofs.Common.{◌/◌}
use Rattle.sled_core.proofs.iterator.begins_from.Goals as goal

pub returns-clause-aligned : goal.returns-clause-aligned
returns-clause-aligned c = mul-mod_left (c.unwrap_or.result / c.args.size) c.args.size
