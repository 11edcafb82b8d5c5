use Rattle.ids.proofs.Generating.{generates_has, has_generates}
use Rattle.ids.proofs.generator.IdGenerator.set_block.Goals as goal

-- the log and its bounds are the same
pub returns-clause-generates : goal.returns-clause-generates
returns-clause-generates g c = λ generates. has_generates g.D.Device.trace g.C.Checksum.sum_of _ (generates_has g.D.Device.trace g.C.Checksum.sum_of c.args.self.now generates)
