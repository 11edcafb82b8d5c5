use Rattle.std.proofs.Common.{◌<◌, ◌-◌, ◌+◌, length}
use Rattle.sled_log.specs.OpenTickets.{HasRoom}
use Rattle.sled_log.specs.Reservations.{MakesRoom}
use Rattle.sled_log.proofs.session.reserving.room_for.Given as goal

-- only room was made, and there is room for the ticket
abbrev pub invariant-loop-opened : goal.invariant-loop-opened
invariant-loop-opened g l =
    record {
      room : MakesRoom l.fn.opened l.opened;
      enough : HasRoom l.opened.tickets;
    }

abbrev pub decreases-loop-opened : goal.decreases-loop-opened
decreases-loop-opened g l = l.fn.page + 1 - length l.opened.busy.items
