use Rattle.sled_core.proofs.PublicLaws.{due_may_link, due_may_mark}
use Rattle.sled_core.proofs.laws.what_is_not_marked_may_be_marked.Goals as goal

pub returns-clause-link : goal.returns-clause-link
returns-clause-link g c = λ log H A f U m fits due. due_may_link g.D.Device.trace g.C.Checksum.sum_of log H A f U m fits due

pub returns-clause-begins : goal.returns-clause-begins
returns-clause-begins g c = λ log H A f U m old fits due former. due_may_mark g.D.Device.trace g.C.Checksum.sum_of log H A f U m fits due old former
