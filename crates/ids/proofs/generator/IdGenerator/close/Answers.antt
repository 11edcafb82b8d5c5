use Rattle.std.proofs.Common.{sym, subst}
use Rattle.sled_store.specs.Device.{state_of}
use Rattle.ids.specs.Bounds.{GivesFrom}
use Rattle.ids.specs.Generators.{asked_of, bound_of, size_of}
use Rattle.ids.proofs.Generating.{generates_gives}
use Rattle.ids.proofs.generator.IdGenerator.close.Goals as goal

-- its device is that of the log
pub returns-clause-gives : goal.returns-clause-gives
returns-clause-gives g c = λ generates.
    let trace = g.D.Device.trace in
    let sum = g.C.Checksum.sum_of in
    subst (λ x. GivesFrom sum (size_of c.args.self) (bound_of c.args.self) (asked_of c.args.self) (state_of (trace x.device))) (sym c.halt.ensures.config)
    (generates_gives trace sum c.args.self generates)
