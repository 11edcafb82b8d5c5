-- The ticket of a number is where a search finds it.
use Rattle.std.proofs.Common.{◌≡◌, ◌<◌, ◌∙◌, None, ap, get_or, length, rules}
use Rattle.std.specs.Option.{option_copied}
use Rattle.sled_log.proofs.Sessions.NumberedTickets.{found_at, none_at}
use Rattle.sled_log.proofs.session.tickets.Tickets.get.Goals as goal

pub returns-in_err-at : goal.returns-in_err-at
returns-in_err-at c =
    ap option_copied c.from_residual.ensures ∙ none_at c.self.inside.entries.items c.self.inside.begun c.self.invariant c.args.number c.in_err-at.ensures.missing ∙ ap (λ t. get_or t.items c.args.number None) c.self.view_is

pub returns : goal.returns
returns c =
    let es = c.self.inside.entries.items in
    let found = c.in_ok-at.ensures.found in
    found_at es c.self.inside.begun c.self.invariant c.args.number c.in_ok-at.at c.index.result.now found.0 found.1 (search rules)
    ∙ ap (λ t. get_or t.items c.args.number None) c.self.view_is
