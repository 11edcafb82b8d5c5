-- A ticket is open exactly where its message is awaited.
use Rattle.std.proofs.Common.{None, ap, not, sym}
use Rattle.sled_log.specs.declared.session.command.Refusal.TheVariants as why
use Rattle.sled_log.specs.Refusals.{when}
use Rattle.sled_log.proofs.Sessions.TicketsSeen.{none_seen, open_seen}
use Rattle.sled_log.proofs.session.opened.Opened.refuse_ticket.Goals as goal

pub returns-in-Some : goal.returns-in-Some
returns-in-Some g c = record {
  why = λ k at. ap (λ b. when (not b) why.Ticket None) (sym (open_seen c.args.self.now k.history k.tickets at.tickets c.args.number c.in-Some.field-0.now (sym c.in-Some.ensures)));
}

pub returns-in-None : goal.returns-in-None
returns-in-None g c = record {
  why = λ k at. ap (λ b. when (not b) why.Ticket None) (sym (none_seen c.args.self.now k.history k.tickets at.tickets c.args.number (sym c.in-None.ensures)));
}
