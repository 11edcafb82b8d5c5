use Rattle.std.proofs.Common.{inl, inr, refl, subst, sym}
use Rattle.ids.specs.declared.run.Command.TheVariants as told
use Rattle.ids.specs.declared.run.Reply.TheVariants as reply
use Rattle.ids.specs.declared.run.step.Phase.TheVariants.{Closed}
use Rattle.sled_store.specs.declared.config.RunningConfig.{RunningConfig}
use Rattle.sled_log.specs.RunPhases.{view_by}
use Rattle.ids.specs.IdPhases.{CarriesOut}
use Rattle.ids.proofs.Stepping.{arms_closed, stays_closed}
use Rattle.ids.proofs.run.step.step_closed.Goals as goal

pub returns-in-Stop : goal.returns-in-Stop
returns-in-Stop g c =
    let view = view_by g.D.Device.trace g.D.Device.faults g.D.CrashDevice.is_stopped in
    let old = c.args.config in
    let new : RunningConfig g.row.D.Denot g.row.C.Denot = record { config = old.config; device = c.stop_after.new.self; checksum = old.checksum; alloc = old.alloc } in
    let did = c.stop_after.ensures in
    subst (λ told. CarriesOut view g.C.Checksum.sum_of (Closed old) told (Closed new, reply.Armed)) (sym c.in-Stop.is)
    (arms_closed view g.C.Checksum.sum_of old new c.in-Stop.n (record { config = refl; checksum = refl }) (λ i. record { trace = did.trace i; failures = did.faults i; is_stopped = did.stopped i }))

-- none is open that was to be used
pub returns-in-Next : goal.returns-in-Next
returns-in-Next g c =
    let view = view_by g.D.Device.trace g.D.Device.faults g.D.CrashDevice.is_stopped in
    let old = c.args.config in
    let sum = g.C.Checksum.sum_of in
    elim c.in-Next.is [
      | inl next ↦ subst (λ told. CarriesOut view sum (Closed old) told (Closed old, reply.Refused)) (sym next) (stays_closed view sum old told.Next reply.Refused (λ d. (refl, refl)) (λ a. refl) refl)
      | inr (inl close) ↦ subst (λ told. CarriesOut view sum (Closed old) told (Closed old, reply.Refused)) (sym close) (stays_closed view sum old told.Close reply.Refused (λ d. (refl, refl)) (λ a. refl) refl)
      | inr (inr block) ↦ subst (λ told. CarriesOut view sum (Closed old) told (Closed old, reply.Refused)) (sym block.1) (stays_closed view sum old (told.SetBlock block.0) reply.Refused (λ d. (refl, refl)) (λ a. refl) refl)
    ]
