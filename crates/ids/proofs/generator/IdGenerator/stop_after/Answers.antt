use Rattle.std.proofs.Common.{arith}
use Rattle.ids.proofs.Generating.{generates_has, has_generates, has_still}
use Rattle.ids.proofs.generator.IdGenerator.stop_after.Goals as goal

-- the log is kept
pub returns-clause-generates : goal.returns-clause-generates
returns-clause-generates g c = λ generates.
    let trace = g.D.Device.trace in
    let sum = g.C.Checksum.sum_of in
    let same = c.stop_after.ensures.keeps.position.reserved in
    has_generates trace sum _ (has_still trace sum c.args.self.now.log c.stop_after.new.self c.args.self.now.bound c.args.self.now.asked c.stop_after.ensures.keeps.preserves (omega (arith, same))
    (generates_has trace sum c.args.self.now generates))
