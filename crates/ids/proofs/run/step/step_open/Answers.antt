use Rattle.std.proofs.Common.{refl, subst, sym}
use Rattle.ids.specs.declared.run.step.Phase.TheVariants.{Closed, Open}
use Rattle.ids.specs.declared.run.Command.TheVariants as told
use Rattle.ids.specs.declared.run.Reply.TheVariants as reply
use Rattle.sled_log.specs.RunPhases.{view_by}
use Rattle.ids.specs.IdPhases.{CarriesOut}
use Rattle.ids.proofs.Stepping.{arms_open, closes, sets_block, stays_open}
use Rattle.ids.proofs.run.step.step_open.Goals as goal

pub returns-in-Close : goal.returns-in-Close
returns-in-Close g c =
    let view = view_by g.D.Device.trace g.D.Device.faults g.D.CrashDevice.is_stopped in
    subst (λ told. CarriesOut view g.C.Checksum.sum_of (Open c.args.generator) told (Closed c.close.result, reply.Closed)) (sym c.in-Close.is)
    (closes view g.C.Checksum.sum_of c.args.generator c.close.result c.close.ensures.config)

pub returns-in-Stop : goal.returns-in-Stop
returns-in-Stop g c =
    let view = view_by g.D.Device.trace g.D.Device.faults g.D.CrashDevice.is_stopped in
    let new = c.stop_after.new.self in
    let did = c.stop_after.ensures in
    subst (λ told. CarriesOut view g.C.Checksum.sum_of (Open c.args.generator) told (Open new, reply.Armed)) (sym c.in-Stop.is)
    (arms_open view g.C.Checksum.sum_of c.args.generator new c.in-Stop.n did.generates
    (λ i. record { next = did.same.next i; bound = did.same.bound i; asked = did.asked.0 i; block = did.same.block i; fault = did.asked.1 i; position = did.position i }) did.config
    (λ i. record { trace = did.trace i; failures = did.faults i; is_stopped = did.stopped i }))

pub returns-in-SetBlock : goal.returns-in-SetBlock
returns-in-SetBlock g c =
    let view = view_by g.D.Device.trace g.D.Device.faults g.D.CrashDevice.is_stopped in
    let new = c.set_block.new.self in
    let did = c.set_block.ensures in
    subst (λ told. CarriesOut view g.C.Checksum.sum_of (Open c.args.generator) told (Open new, reply.Set)) (sym c.in-SetBlock.is)
    (sets_block view g.C.Checksum.sum_of c.args.generator new c.in-SetBlock.block did.generates did.rest.next did.rest.bound did.rest.asked did.block did.rest.log)

pub returns-in-Open : goal.returns-in-Open
returns-in-Open g c =
    let view = view_by g.D.Device.trace g.D.Device.faults g.D.CrashDevice.is_stopped in
    subst (λ told. CarriesOut view g.C.Checksum.sum_of (Open c.args.generator) told (Open c.args.generator, reply.Refused)) (sym c.in-Open.is)
    (stays_open view g.C.Checksum.sum_of c.args.generator told.Open reply.Refused (λ d v. (refl, refl)) (λ a v. refl) refl)
