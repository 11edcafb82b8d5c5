use Rattle.sled_core.proofs.PublicLaws.{fresh_ready, fresh_leaves, empty_recoverable, empty_ready}
use Rattle.sled_core.proofs.laws.an_empty_device_is_ready.Goals as goal

pub returns-clause-ready : goal.returns-clause-ready
returns-clause-ready g c = λ size large small. fresh_ready g.C.Checksum.sum_of size large small

pub returns-clause-leaves : goal.returns-clause-leaves
returns-clause-leaves g c = λ size large small. fresh_leaves g.C.Checksum.sum_of size large small

pub returns-clause-recoverable : goal.returns-clause-recoverable
returns-clause-recoverable g c = λ size large small. empty_recoverable g.C.Checksum.sum_of size large small

pub returns-clause-no_log : goal.returns-clause-no_log
returns-clause-no_log g c = λ size device empty none. empty_ready g.C.Checksum.sum_of size device empty none
