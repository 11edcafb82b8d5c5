-- As many are seen as there are numbers.
use Rattle.std.proofs.Common.{◌∙◌, ap, length, sym}
use Rattle.sled_log.proofs.Sessions.NumberedTickets.{as_many}
use Rattle.sled_log.proofs.session.tickets.Tickets.begun.Goals as goal

pub returns : goal.returns
returns c = sym (as_many c.self.inside.entries.items c.self.inside.begun) ∙ ap (λ t. length t.items) c.self.view_is
