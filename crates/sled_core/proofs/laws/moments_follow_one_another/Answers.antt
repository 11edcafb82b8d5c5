use Rattle.sled_core.specs.Recoverable.{RecoverableIfOwn}
use Rattle.sled_store.proofs.PublicLaws.{moment_here, moments_both, moment_last, moments_later}
use Rattle.sled_core.proofs.laws.moments_follow_one_another.Goals as goal

pub returns-clause-here : goal.returns-clause-here
returns-clause-here g c = λ size H A f trace here. moment_here (RecoverableIfOwn g.C.Checksum.sum_of size H A f) trace here

pub returns-clause-both : goal.returns-clause-both
returns-clause-both g c = λ size H A f old mid new first then. moments_both (RecoverableIfOwn g.C.Checksum.sum_of size H A f) old mid new first then

pub returns-clause-last : goal.returns-clause-last
returns-clause-last g c = λ size H A f old new run. moment_last (RecoverableIfOwn g.C.Checksum.sum_of size H A f) old new run

pub returns-clause-later : goal.returns-clause-later
returns-clause-later g c = λ size H A f old new run. moments_later (RecoverableIfOwn g.C.Checksum.sum_of size H A f) old new run
