use Rattle.sled_core.proofs.PublicLaws.{over_back, over_begun, over_next}
use Rattle.sled_core.proofs.laws.an_iterator_only_reads_its_log.Goals as goal

pub returns-clause-begun : goal.returns-clause-begun
returns-clause-begun g c = over_begun g.D.Device.trace g.C.Checksum.sum_of

pub returns-clause-next : goal.returns-clause-next
returns-clause-next g c = over_next g.D.Device.trace g.C.Checksum.sum_of g.D.Device.faults

pub returns-clause-back : goal.returns-clause-back
returns-clause-back g c = over_back g.D.Device.trace g.C.Checksum.sum_of
