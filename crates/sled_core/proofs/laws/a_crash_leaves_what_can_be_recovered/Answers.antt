use Rattle.sled_core.proofs.Blobs.FirmContent.{read_recoverable}
use Rattle.sled_core.proofs.PublicLaws.{crash_recoverable}
use Rattle.sled_core.proofs.laws.a_crash_leaves_what_can_be_recovered.Goals as goal

pub returns-clause-now : goal.returns-clause-now
returns-clause-now g c = λ size H A f trace leaves own. read_recoverable g.C.Checksum.sum_of size trace own H A f leaves

pub returns-clause-crash : goal.returns-clause-crash
returns-clause-crash g c = λ size H A f trace left leaves may own. crash_recoverable g.C.Checksum.sum_of size H A f trace left leaves may own
