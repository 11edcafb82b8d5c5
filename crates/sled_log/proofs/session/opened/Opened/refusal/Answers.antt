use Rattle.std.proofs.Common.{◌∙◌, ap, sym}
use Rattle.sled_log.specs.Refusals.{refused_open}
use Rattle.sled_log.specs.RunPhases.{seen}
use Rattle.sled_log.proofs.session.opened.Opened.refusal.Goals as goal

pub returns-in-Read-clause-why : goal.returns-in-Read-clause-why
returns-in-Read-clause-why g c = λ k at. c.refuse_read.ensures.why k at ∙ ap (refused_open k.history (seen c.args.self.now k.tickets k.given_up k.heads)) (sym c.in-Read.is)

pub returns-in-Write-clause-why : goal.returns-in-Write-clause-why
returns-in-Write-clause-why g c = λ k at. c.refuse_index.ensures.why k at ∙ ap (refused_open k.history (seen c.args.self.now k.tickets k.given_up k.heads)) (sym c.in-Write.is)

pub returns-in-Replace-clause-why : goal.returns-in-Replace-clause-why
returns-in-Replace-clause-why g c = λ k at. c.refuse_replace.ensures.why k c.in-Replace.field-1 at ∙ ap (refused_open k.history (seen c.args.self.now k.tickets k.given_up k.heads)) (sym c.in-Replace.is)

pub returns-in-Link-clause-why : goal.returns-in-Link-clause-why
returns-in-Link-clause-why g c = λ k at. c.refuse_link.ensures.why k c.in-Link.field-1 at ∙ ap (refused_open k.history (seen c.args.self.now k.tickets k.given_up k.heads)) (sym c.in-Link.is)
