-- The page of manifests has an open ticket exactly in a batch.
use Rattle.std.proofs.Common.{ap, arith, ◌∙◌}
use Rattle.std.proofs.lemmas.Bool.Decides.{nat_tests}
use Rattle.sled_log.specs.Refusals.{is_busy}
use Rattle.sled_log.specs.RunPhases.{seen}
use Rattle.sled_log.proofs.Sessions.TicketsSeen.{batch_seen}
use Rattle.sled_log.proofs.session.opened.Opened.is_busy.Goals as goal

pub returns-then-page-eq-BATCH_MANIFEST_PID : goal.returns-then-page-eq-BATCH_MANIFEST_PID
returns-then-page-eq-BATCH_MANIFEST_PID g c = λ k at. c.is_some.ensures ∙ batch_seen c.args.self.now k.history k.tickets at.tickets ∙ ap (is_busy (seen c.args.self.now k.tickets k.given_up k.heads)) (let test = c.if-page-eq-BATCH_MANIFEST_PID.true in grind (arith, nat_tests, test))
