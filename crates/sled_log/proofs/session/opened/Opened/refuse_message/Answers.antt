-- The ticket of the manifest is refused, and of the others those that aren't open.
use Rattle.std.proofs.Common.{◌≡◌, ◌==◌, ap, arith, eq-eqb, sym, ◌∙◌, ℕ, Bool, true, not, Option, None, Some}
use Rattle.std.specs.Option.{option_eq}
use Rattle.std.proofs.lemmas.Bool.{false≢true}
use Rattle.std.proofs.lemmas.Bool.Decides.{nat_tests}
use Rattle.std.proofs.lemmas.Option.{same_Some}
use Rattle.sled_log.specs.declared.session.command.Refusal.TheVariants as why
use Rattle.sled_log.specs.Refusals.{when}
use Rattle.sled_log.proofs.Sessions.TicketsSeen.{batch_message, other_message}
use Rattle.sled_log.proofs.session.opened.Opened.refuse_message.Goals as goal

-- a test for a number tells it
is_number : (o : Option ℕ) (n : ℕ) → option_eq (λ a b. a == b) o (Some n) ≡ true → o ≡ Some n
is_number None n is = cc
is_number (Some b) n is = let test : (b == n) ≡ true = is in let same : b ≡ n = grind (arith, nat_tests, test) in ap (λ x. Some x) same

number_is : (o : Option ℕ) (n : ℕ) → o ≡ Some n → option_eq (λ a b. a == b) o (Some n) ≡ true
number_is None n is = cc
number_is (Some b) n is = eq-eqb b n (same_Some b n is)

pub returns-then-eq : goal.returns-then-eq
returns-then-eq g c = record {
  why = λ k at. ap (λ (b : Bool). when (not b) why.Ticket None)
      (sym (batch_message c.args.self.now k.history k.tickets at.tickets c.args.number (is_number c.args.self.now.batch c.args.number (sym c.if-eq.ensures))));
}

pub returns : goal.returns
returns g c = record {
  why = λ k at.
      c.refuse_ticket.ensures.why k at
      ∙ ap (λ (b : Bool). when (not b) why.Ticket None)
      (sym (other_message c.args.self.now k.history k.tickets at.tickets c.args.number (λ is. false≢true (c.if-eq.ensures ∙ number_is c.args.self.now.batch c.args.number is))));
}
