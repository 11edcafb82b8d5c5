-- One more is seen, with the next number.
use Rattle.std.proofs.Common.{arith, length, ◌≡◌, ◌+◌, ◌++◌, ◌∷◌, [], ◌∙◌, Some, ap, subst, sym}
use Rattle.sled_log.specs.OpenTickets.{AreNumbered, by_number}
use Rattle.sled_log.proofs.Sessions.NumberedTickets.{as_many, numbered_more, seen_more}
use Rattle.sled_log.proofs.session.tickets.Tickets.push_reserved.Goals as goal

pub invariant_of-self : goal.invariant_of-self
invariant_of-self c =
    subst (λ es. AreNumbered es (c.self.inside.begun + 1)) (sym c.in-Ok.ensures.items) (numbered_more c.self.inside.entries.items c.self.inside.begun c.self.invariant c.args.ticket)

pub returns-clause-items : goal.returns-clause-items
returns-clause-items c =
    ap (λ es. by_number es (c.self.inside.begun + 1)) c.in-Ok.ensures.items ∙ seen_more c.self.inside.entries.items c.self.inside.begun c.self.invariant c.args.ticket
    ∙ ap (λ t. t.items ++ Some c.args.ticket ∷ []) c.self.view_is

pub overflow_add-self : goal.overflow_add-self
overflow_add-self c =
    let numbers : length c.args.self.now.items ≡ c.self.inside.begun = ap (λ t. length t.items) (sym c.self.view_is) ∙ as_many c.self.inside.entries.items c.self.inside.begun in
    omega (arith, numbers, c.requires.1)
