-- Once a ticket is taken, its number has none.
use Rattle.std.proofs.Common.{◌∙◌, ◌≡◌, None, ap, get_or, length, rules, set, subst, sym}
use Rattle.std.specs.List.{remove}
use Rattle.sled_log.specs.OpenTickets.{AreNumbered, by_number}
use Rattle.sled_log.proofs.Sessions.NumberedTickets.{found_at, none_at, numbered_left, same_left, seen_left}
use Rattle.sled_log.proofs.session.tickets.Tickets.take.Goals as goal

pub returns-in_err-at-clause-taken : goal.returns-in_err-at-clause-taken
returns-in_err-at-clause-taken c =
    c.from_residual.ensures ∙ none_at c.self.inside.entries.items c.self.inside.begun c.self.invariant c.args.number c.in_err-at.ensures.missing ∙ ap (λ t. get_or t.items c.args.number None) c.self.view_is

pub returns-in_err-at-clause-left : goal.returns-in_err-at-clause-left
returns-in_err-at-clause-left c =
    ap (λ t. t.items) (sym c.self.view_is) ∙ same_left c.self.inside.entries.items c.self.inside.begun c.self.invariant c.args.number c.in_err-at.ensures.missing
    ∙ ap (λ t. set t.items c.args.number None) c.self.view_is

pub invariant_of-self : goal.invariant_of-self
invariant_of-self c =
    let es = c.self.inside.entries.items in
    let found = c.in_ok-at.ensures.found in
    let left : c.remove.new.self.items ≡ remove es c.in_ok-at.at = search rules in
    subst (λ l. AreNumbered l c.self.inside.begun) (sym left) (numbered_left es c.self.inside.begun c.self.invariant c.args.number c.in_ok-at.at found.0 found.1)

pub returns-clause-taken : goal.returns-clause-taken
returns-clause-taken c =
    let es = c.self.inside.entries.items in
    let found = c.in_ok-at.ensures.found in
    found_at es c.self.inside.begun c.self.invariant c.args.number c.in_ok-at.at c.unwrap.result found.0 found.1 (search rules) ∙ ap (λ t. get_or t.items c.args.number None) c.self.view_is

pub returns-clause-left : goal.returns-clause-left
returns-clause-left c =
    let es = c.self.inside.entries.items in
    let found = c.in_ok-at.ensures.found in
    let left : c.remove.new.self.items ≡ remove es c.in_ok-at.at = search rules in
    ap (λ l. by_number l c.self.inside.begun) left ∙ seen_left es c.self.inside.begun c.self.invariant c.args.number c.in_ok-at.at found.0 found.1
    ∙ ap (λ t. set t.items c.args.number None) c.self.view_is
