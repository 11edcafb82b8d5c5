-- What a crash left is read without anything foreign, if nothing was foreign in it.
use Rattle.sled_core.proofs.Holds.CallMoments.{own_after_crash}
use Rattle.sled_core.proofs.laws.nothing_becomes_foreign_after_a_crash.Goals as goal

pub returns : goal.returns
returns c = own_after_crash
