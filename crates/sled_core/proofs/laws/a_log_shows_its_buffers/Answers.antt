use Rattle.sled_core.proofs.PublicLaws.{buffers_whole, shows_behind, shows_current, shows_empty, shows_long}
use Rattle.sled_core.proofs.laws.a_log_shows_its_buffers.Goals as goal

pub returns-clause-current : goal.returns-clause-current
returns-clause-current g c = λ log some. shows_current g.C.Checksum.sum_of log some

pub returns-clause-empty : goal.returns-clause-empty
returns-clause-empty g c = λ log none. shows_empty g.C.Checksum.sum_of log none

pub returns-clause-behind : goal.returns-clause-behind
returns-clause-behind g c = λ log page n moves. shows_behind g.C.Checksum.sum_of log page n moves

pub returns-clause-long : goal.returns-clause-long
returns-clause-long g c = λ log. shows_long g.C.Checksum.sum_of log

pub returns-clause-whole : goal.returns-clause-whole
returns-clause-whole g c = λ log H holds none. buffers_whole g.D.Device.trace g.C.Checksum.sum_of log H holds none
