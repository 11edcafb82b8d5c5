-- As many numbers are given as are seen.
use Rattle.std.proofs.Common.{arith}
use Rattle.std.proofs.lemmas.Bool.Decides.{nat_tests}
use Rattle.sled_log.proofs.Sessions.NumberedTickets.{as_many}
use Rattle.sled_log.proofs.session.tickets.Tickets.reserve.Goals as goal

pub returns-clause-room : goal.returns-clause-room
returns-clause-room c =
    let numbers = as_many c.reserve.new.self.items c.self.inside.begun in
    grind (arith, nat_tests, numbers, c.reserve.ensures.ok, c.if-self.false)
