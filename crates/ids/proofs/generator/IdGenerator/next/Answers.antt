use Rattle.std.proofs.Common.{arith}
use Rattle.ids.proofs.Generating.{generates_has, has_generates}
use Rattle.ids.proofs.generator.IdGenerator.next.Goals as goal

-- an identifier is below the bound, which is a number of the type
pub overflow_add-self : goal.overflow_add-self
overflow_add-self g c =
    let some = c.in-Ok.ensures.some in
    let ahead = c.take_block.new.self.ahead in
    let small = c.take_block.new.self.small in
    omega (arith, some, ahead, small)

-- the log and its bounds are those of the block
pub returns-clause-goes_on : goal.returns-clause-goes_on
returns-clause-goes_on g c =
    let trace = g.D.Device.trace in
    let sum = g.C.Checksum.sum_of in
    let keeps = c.take_block.ensures.keeps in
    record {
      asked = keeps.asked;
      block = keeps.block;
      generates = λ generates. has_generates trace sum _ (generates_has trace sum c.take_block.new.self (keeps.generates generates));
      keeps = keeps.keeps;
      later = keeps.later;
      config = keeps.config;
    }
