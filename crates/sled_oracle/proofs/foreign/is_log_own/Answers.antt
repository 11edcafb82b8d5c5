-- What was noted of the past tells all that counts of it.
use Rattle.sled_oracle.proofs.Walks.AnswerLemmas.{of_noted}
use Rattle.sled_oracle.proofs.foreign.is_log_own.Goals as goal

pub returns-clause-own : goal.returns-clause-own
returns-clause-own g c = of_noted g.C.Checksum.sum_of c.args.size c.args.past.now c.args.left.now c.slots_are_own.result c.slots_are_own.ensures.own
