use Rattle.std.proofs.Common.{subst, sym}
use Rattle.sled_log.specs.OpenTickets.{AreNumbered}
use Rattle.sled_log.proofs.Sessions.NumberedTickets.{numbered_none}
use Rattle.sled_log.proofs.session.tickets.Tickets.new.Goals as goal

pub invariant_of-result : goal.invariant_of-result
invariant_of-result c = subst (λ es. AreNumbered es 0) (sym c.new.ensures.items) numbered_none
