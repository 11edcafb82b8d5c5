-- Whether a batch is begun is seen.
use Rattle.std.proofs.Common.{ap, sym, ◌∙◌, Bool, not, None}
use Rattle.sled_log.specs.declared.session.command.Refusal.TheVariants as why
use Rattle.sled_log.specs.Refusals.{when}
use Rattle.sled_log.proofs.Sessions.TicketsSeen.{batch_seen}
use Rattle.sled_log.proofs.session.opened.Opened.refuse_end.Goals as goal

pub returns-then-is_some : goal.returns-then-is_some
returns-then-is_some g c = record {
  why = λ k at. ap (λ (b : Bool). when (not b) why.Batch None) (sym c.if-is_some.true ∙ c.is_some.ensures ∙ batch_seen c.args.self.now k.history k.tickets at.tickets);
}

pub returns-else-is_some : goal.returns-else-is_some
returns-else-is_some g c = record {
  why = λ k at. ap (λ (b : Bool). when (not b) why.Batch None) (sym c.if-is_some.false ∙ c.is_some.ensures ∙ batch_seen c.args.self.now k.history k.tickets at.tickets);
}
