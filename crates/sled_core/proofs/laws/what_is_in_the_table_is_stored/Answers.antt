use Rattle.sled_core.proofs.PublicLaws.{entry_spared, entry_stored}
use Rattle.sled_core.proofs.laws.what_is_in_the_table_is_stored.Goals as goal

pub returns-clause-stored : goal.returns-clause-stored
returns-clause-stored g c = λ log H A f U m fits entry. entry_stored g.D.Device.trace g.C.Checksum.sum_of log H A f U fits m entry

pub returns-clause-spared : goal.returns-clause-spared
returns-clause-spared g c = λ log H A f U m fits entry. entry_spared g.D.Device.trace g.C.Checksum.sum_of log H A f U fits m entry
