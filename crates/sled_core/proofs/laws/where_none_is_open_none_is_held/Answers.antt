use Rattle.sled_core.proofs.PublicLaws.{none_are_held, none_holding}
use Rattle.sled_core.proofs.laws.where_none_is_open_none_is_held.Goals as goal

pub returns-clause-buffers : goal.returns-clause-buffers
returns-clause-buffers g c = λ log ended. none_are_held g.C.Checksum.sum_of log ended

pub returns-clause-flush : goal.returns-clause-flush
returns-clause-flush g c = λ log ended. none_holding log g.C.Checksum.sum_of ended
