use Rattle.sled_core.proofs.Stable.OneEnd.{end_in_none}
use Rattle.sled_core.proofs.laws.no_batch_is_cut_in_two.Goals as goal

pub returns : goal.returns
returns c = end_in_none
