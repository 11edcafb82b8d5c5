-- Each turn gives one ticket up.
use Rattle.std.specs.VecDeque.{deque_len}
use Rattle.sled_log.proofs.session.tickets.Tickets.abandon.Given as goal

abbrev pub invariant-loop-ticket : goal.invariant-loop-ticket
invariant-loop-ticket l = Unit {0}

abbrev pub decreases-loop-ticket : goal.decreases-loop-ticket
decreases-loop-ticket l = deque_len l.entries
