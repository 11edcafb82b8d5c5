use Rattle.sled_log.proofs.PublicLaws.{below_begins}
use Rattle.sled_log.proofs.laws.what_lies_below_a_cut_is_a_beginning.Goals as goal

pub returns : goal.returns
returns c = below_begins
