-- Behind an error nothing is left, and before it something was.
use Rattle.sled_core.specs.inside.Ahead.{most_left}
use Rattle.sled_core.proofs.Iterates.Spent.{left_some, none_so_left, spent_so}
use Rattle.sled_core.proofs.iterator.rest.Rest.next.Goals as goal

pub returns-in-Err-clause-ended : goal.returns-in-Err-clause-ended
returns-in-Err-clause-ended g c = spent_so c.next_message.new.self c.finish.new.self c.finish.ensures

pub returns-in-Err-clause-fewer : goal.returns-in-Err-clause-fewer
returns-in-Err-clause-fewer g c =
    none_so_left c.next_message.new.self c.finish.new.self c.finish.ensures (most_left c.args.self.now)
    (left_some c.args.self.now (λ spent. let no = c.in-Err.ensures.over spent in cc))
