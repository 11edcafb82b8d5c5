use Rattle.sled_core.proofs.PublicLaws.{end_off, noted_pegs}
use Rattle.sled_core.proofs.laws.batches_end_in_what_was_reserved.Goals as goal

pub returns-clause-filled : goal.returns-clause-filled
returns-clause-filled g c = λ log. end_off log

pub returns-clause-noted : goal.returns-clause-noted
returns-clause-noted g c = λ log b known. noted_pegs log b known
