use Rattle.sled_core.proofs.PublicLaws.{ledger_account}
use Rattle.sled_core.proofs.laws.marks_join_with_what_is_written.Goals as goal

pub returns : goal.returns
returns c = λ size bs l. ledger_account size bs l
