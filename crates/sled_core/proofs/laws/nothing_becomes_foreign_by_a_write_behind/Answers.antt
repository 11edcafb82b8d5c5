-- A write behind the records makes nothing foreign.
use Rattle.sled_core.proofs.Crash.OwnBehind.{read_own, lost_behind}
use Rattle.sled_core.proofs.laws.nothing_becomes_foreign_by_a_write_behind.Goals as goal

pub returns-clause-read : goal.returns-clause-read
returns-clause-read c = read_own

pub returns-clause-lost : goal.returns-clause-lost
returns-clause-lost c = lost_behind
