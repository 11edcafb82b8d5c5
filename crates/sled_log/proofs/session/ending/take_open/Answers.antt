-- A ticket is taken where its reservation is open.
use Rattle.std.proofs.Common.{rules, ◌≤◌, ◌≡◌, ◌∙◌, length, None, Some, ap, get_or, refl, sym, subst, Bool, List, Option, true, false, ℕ}
use Rattle.sled_core.specs.Fits.{IsOpen}
use Rattle.std.specs.List.{slice_get}
use Rattle.std.proofs.lemmas.List.{set_past}
use Rattle.sled_log.specs.declared.session.tickets.Ticket.{Ticket}
use Rattle.sled_log.proofs.Sessions.Endings.{one_there, takes_none, takes_some}
use Rattle.sled_log.proofs.Sessions.TicketsSeen.{got_open, got_or}
use Rattle.sled_log.proofs.session.ending.take_open.Goals as goal

none_there : (xs : List (Option Ticket)) (n : ℕ) (t : Ticket) → None ≡ get_or xs n None → slice_get xs n ≡ Some (Some t) → ⊥
none_there xs n t none there = let two : None ≡ Some t = none ∙ got_or n xs (Some t) there in cc

two_tests : {b : Bool} → b ≡ true → b ≡ false → ⊥
two_tests yes_it_is it_is_not = cc

pub returns-in_err-ticket : goal.returns-in_err-ticket
returns-in_err-ticket g c =
    let old = c.args.opened.now in
    takes_none old _ c.args.number refl refl refl refl c.take.ensures.left c.from_residual.result c.from_residual.ensures (λ t at is_open. none_there old.tickets.items c.args.number t c.in_err-ticket.ensures.taken at)

pub returns-then-not-is_open : goal.returns-then-not-is_open
returns-then-not-is_open g c =
    let old = c.args.opened.now in
    let there = got_open c.args.number old.tickets.items c.in_ok-ticket.ticket (sym c.in_ok-ticket.ensures.taken) in
    takes_none old _ c.args.number refl refl refl refl c.take.ensures.left None refl
    (λ t at is_open. two_tests (c.is_open.ensures.1 (subst (λ x. IsOpen old.log x.reservation) (one_there old.tickets.items c.args.number t c.in_ok-ticket.ticket at there) is_open)) c.if-not-is_open.true)

pub returns-in-Some : goal.returns-in-Some
returns-in-Some g c =
    let old = c.args.opened.now in
    let there = got_open c.args.number old.tickets.items c.in_ok-ticket.ticket (sym c.in_ok-ticket.ensures.taken) in
    takes_some old _ c.args.number refl refl refl refl c.take.ensures.left c.in_ok-ticket.ticket there (c.is_open.ensures.0 c.if-not-is_open.false) refl c.batch_left-opened.ensures

pub returns-in_default : goal.returns-in_default
returns-in_default g c =
    let old = c.args.opened.now in
    let there = got_open c.args.number old.tickets.items c.in_ok-ticket.ticket (sym c.in_ok-ticket.ensures.taken) in
    let far : length old.busy.items ≤ c.in_ok-ticket.ticket.page = search rules in
    takes_some old _ c.args.number refl refl refl refl c.take.ensures.left c.in_ok-ticket.ticket there (c.is_open.ensures.0 c.if-not-is_open.false) (sym (set_past old.busy.items c.in_ok-ticket.ticket.page _ far)) c.batch_left-opened.ensures
