use Rattle.std.proofs.Common.{◌∙◌, sym}
use Rattle.sled_log.specs.RunPhases.{view_by}
use Rattle.sled_log.proofs.Sessions.MadeMarks.{due_kept, due_made}
use Rattle.sled_log.proofs.session.marking.make_due.Goals as goal

pub returns-then-settle-clause-makes : goal.returns-then-settle-clause-makes
returns-then-settle-clause-makes g c = λ stopped. λ k at.
    let view = view_by g.D.Device.trace g.D.Device.faults stopped in
    due_made view g.C.Checksum.sum_of c.args.opened.now c.settle.new.opened c.in-Some.due (sym c.take.ensures.value ∙ c.in-Some.is) c.take.new.self c.take.ensures.after
    c.settle.ensures.rest c.settle.ensures.beside k at c.if-settle.ensures.settles

pub returns-clause-makes : goal.returns-clause-makes
returns-clause-makes g c = λ stopped. λ k at.
    let view = view_by g.D.Device.trace g.D.Device.faults stopped in
    due_kept view g.C.Checksum.sum_of c.args.opened.now c.settle.new.opened c.in-Some.due (sym c.take.ensures.value ∙ c.in-Some.is) c.take.new.self c.take.ensures.after
    c.settle.ensures.rest c.settle.ensures.beside k at c.if-settle.ensures.settles
