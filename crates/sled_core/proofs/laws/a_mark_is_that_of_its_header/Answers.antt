use Rattle.sled_core.proofs.PublicLaws.{mark_read}
use Rattle.sled_core.proofs.laws.a_mark_is_that_of_its_header.Goals as goal

pub returns : goal.returns
returns c = λ sum bytes rest lsn mark header. mark_read sum bytes rest lsn mark header
