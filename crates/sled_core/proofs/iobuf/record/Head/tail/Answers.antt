use Rattle.std.proofs.Common.{◌≤◌, arith}
use Rattle.sled_core.proofs.Reserve.Parts.{mid_is}
use Rattle.sled_core.proofs.iobuf.record.Head.tail.Goals as goal

pub returns-clause-tail : goal.returns-clause-tail
returns-clause-tail c = let four : 4 ≤ c.args.self.now.len = omega (arith, c.args.self.now.long) in mid_is c.args.self.now.bytes 4 c.args.self.now.len four
