use Rattle.sled_core.proofs.PublicLaws.{can_rewrite, named_now}
use Rattle.sled_core.proofs.laws.what_is_in_the_table_can_be_rewritten.Goals as goal

pub returns-clause-stored : goal.returns-clause-stored
returns-clause-stored g c = λ log H A f U m lid blob fits entry replaces is. can_rewrite g.D.Device.trace g.C.Checksum.sum_of log H A f U m lid blob fits entry replaces is

pub returns-clause-named : goal.returns-clause-named
returns-clause-named g c = λ log H A f U page m blob fits entry names. named_now g.D.Device.trace g.C.Checksum.sum_of log H A f U page m blob fits entry names
