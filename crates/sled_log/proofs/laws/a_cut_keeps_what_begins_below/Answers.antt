use Rattle.sled_log.proofs.PublicLaws.{kept_below}
use Rattle.sled_log.proofs.laws.a_cut_keeps_what_begins_below.Goals as goal

pub returns : goal.returns
returns c = kept_below
