use Rattle.sled_core.proofs.PublicLaws.{stable_never_falls, stable_reached_at, stable_stays, stable_writing}
use Rattle.sled_core.proofs.laws.the_stable_end_never_falls.Goals as goal

pub returns-clause-keeps : goal.returns-clause-keeps
returns-clause-keeps g c = λ old new keeps. stable_never_falls g.D.Device.trace g.C.Checksum.sum_of old new keeps

pub returns-clause-same : goal.returns-clause-same
returns-clause-same g c = λ old new same. stable_stays old new same

pub returns-clause-reached : goal.returns-clause-reached
returns-clause-reached g c = λ log. stable_reached_at log

pub returns-clause-writes : goal.returns-clause-writes
returns-clause-writes g c = λ old new keeps. stable_writing g.D.Device.trace g.C.Checksum.sum_of old new keeps
