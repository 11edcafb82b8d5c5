use Rattle.sled_core.specs.Fits.{IsLeastOpen, IsUsedUpBelow, IsUsedUpFor}
use Rattle.sled_core.proofs.PublicLaws.{end_fails, reserve_fails, write_fails}
use Rattle.sled_core.proofs.laws.a_call_fails_for_its_own_reasons.Goals as goal

pub returns-clause-end : goal.returns-clause-end
returns-clause-end g c = λ result fault answers. end_fails result fault answers

pub returns-clause-write : goal.returns-clause-write
returns-clause-write g c = λ log to result held old new before after answers. write_fails result held (IsUsedUpBelow log to) old new before after answers

pub returns-clause-reserve : goal.returns-clause-reserve
returns-clause-reserve g c = λ log page n result at answers. reserve_fails result (IsUsedUpFor log page n) (IsLeastOpen log) at answers
