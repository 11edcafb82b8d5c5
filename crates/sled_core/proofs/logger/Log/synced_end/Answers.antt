-- What is on the device without a gap ends within the first segment.
use Rattle.std.proofs.Common.{arith}
use Rattle.sled_core.proofs.Holds.BufferEnds.{written_behind}
use Rattle.sled_core.proofs.logger.Log.synced_end.Goals as goal

pub overflow_add-result : goal.overflow_add-result
overflow_add-result g c =
    let low = written_behind c.args.self.now.segments.first.buffer in
    let short = c.args.self.now.line.lies.in_segment in
    let small = c.args.self.now.line.lies.place_in_reach in
    omega (arith, low, short, small)

pub returns-clause-in_reach : goal.returns-clause-in_reach
returns-clause-in_reach g c =
    let low = written_behind c.args.self.now.segments.first.buffer in
    let short = c.args.self.now.line.lies.in_segment in
    let small = c.args.self.now.line.lies.place_in_reach in
    omega (arith, low, short, small)
