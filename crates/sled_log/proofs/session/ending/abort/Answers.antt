use Rattle.std.proofs.Common.{◌∙◌, ◌∷◌, ap, sym, subst, Option, Some, Ok, Err, map, ℤ}
use Rattle.std.specs.Int.{w64, cast_signed, cast_unsigned}
use Rattle.sled_codec.specs.Snapshots.{page_of}
use Rattle.sled_core.specs.Fits.{Awaits, device_of, fault_of, given_up_of, machine_at, open_places, segment_size_of}
use Rattle.sled_core.specs.Among.{AreAmong}
use Rattle.sled_core.specs.Logged.{in_log}
use Rattle.sled_core.specs.OpenPlaces.{TakesOut}
use Rattle.sled_core.specs.Tickets.{own_blob}
use Rattle.sled_core.specs.invariants.Running.{Fits}
use Rattle.sled_core.proofs.PublicLaws.{awaited, awaited_small, fits_holds, place_back}
use Rattle.sled_codec.specs.declared.result.DiskPtr.{DiskPtr}
use Rattle.sled_store.specs.declared.config.RunningConfig.{RunningConfig}
use Rattle.sled_core.specs.declared.logger.Log.{Log}
use Rattle.sled_log.specs.declared.session.command.Command.TheVariants as told
use Rattle.sled_log.specs.declared.session.command.Refusal.TheVariants as why
use Rattle.sled_log.specs.declared.session.command.Reply.TheVariants as reply
use Rattle.sled_log.specs.Endings.{TakesTicket}
use Rattle.sled_log.specs.RunPhases.{IsSafe, view_by}
use Rattle.sled_log.proofs.Sessions.EndedTickets.{GivesUp, abort_fails, aborts, awaits_it, back_from, beside_ticket, does_back, open_there, takes_it}
use Rattle.sled_log.proofs.session.ending.abort.Goals as goal
use Rattle.sled_log.proofs.Sessions.LogActs.{abort_failed_acts, aborted_acts, from_taken, refused_acts}

pub returns-in_default-clause-step : goal.returns-in_default-clause-step
returns-in_default-clause-step g c = λ stopped. λ none k at asked.
    let view = view_by g.D.Device.trace g.D.Device.faults stopped in
    let old = c.args.opened.now in
    let its = open_there (view old.log.config.device).is_stopped c.args.number k.tickets asked in
    let taken = takes_it view g.C.Checksum.sum_of old k at c.args.number its.0 its.1 c.take_open.new.opened c.take_open.result c.take_open.ensures in
    absurd (c.in_default.not-Some _ taken)

pub returns-in-Err-clause-step : goal.returns-in-Err-clause-step
returns-in-Err-clause-step g c = λ stopped. λ none k at asked.
    let view = view_by g.D.Device.trace g.D.Device.faults stopped in
    let sum = g.C.Checksum.sum_of in
    let old = c.args.opened.now in
    let mid = c.take_open.new.opened in
    let new = c.abort-aborted.new.self in
    let its = open_there (view old.log.config.device).is_stopped c.args.number k.tickets asked in
    let takes : TakesTicket old c.args.number mid (Some c.in-Some.field-0) = subst (TakesTicket old c.args.number mid) c.in-Some.is c.take_open.ensures in
    let own : Option ℤ = own_blob c.in-Some.field-0.reservation in
    let done = c.in-Err.ensures in
    let did : GivesUp {T = ℤ × DiskPtr} view sum (Err c.in-Err.e) own mid.log new =
    record { answers = done.answers; removes = done.device; keeps = c.abort-aborted.ensures.keeps; seen = c.abort-aborted.ensures.seen; buffers = c.abort-aborted.ensures.ends.buffers; position = c.abort-aborted.ensures.ends.position; heads = record { heads = c.abort-aborted.ensures.ends.heads; fillings = c.abort-aborted.ensures.ends.fillings }; err = done.err } in
    let back = c.unpin.ensures in
    does_back view sum old k at c.args.number its.0 its.1 mid c.in-Some.field-0 takes none new mid.pages c.unpin.new.log back.given _ _
    (abort_fails view sum old k at c.args.number its.0 its.1 mid c.in-Some.field-0 takes none new mid.pages
    (back_from view sum old k at c.args.number its.0 its.1 mid c.in-Some.field-0 takes none new mid.pages c.unpin.new.log back.given back.fits) (ℤ × DiskPtr) c.in-Err.e
    (subst (λ x. GivesUp {T = ℤ × DiskPtr} view sum (Err c.in-Err.e) own x new) takes.log did) (c.abort-aborted.ensures.ends.machine ∙ ap (λ x. machine_at x) takes.log) (ap (λ x. map page_of x.items) takes.pages))

pub returns-in-Ok-clause-step : goal.returns-in-Ok-clause-step
returns-in-Ok-clause-step g c = λ stopped. λ none k at asked.
    let view = view_by g.D.Device.trace g.D.Device.faults stopped in
    let old = c.args.opened.now in
    let mid = c.take_open.new.opened in
    let new = c.abort-aborted.new.self in
    let its = open_there (view old.log.config.device).is_stopped c.args.number k.tickets asked in
    let takes : TakesTicket old c.args.number mid (Some c.in-Some.field-0) = subst (TakesTicket old c.args.number mid) c.in-Some.is c.take_open.ensures in
    let trace = g.D.Device.trace in
    let sum = g.C.Checksum.sum_of in
    let ticket = c.in-Some.field-0.reservation in
    let m = its.0 in
    let fits : Fits trace sum mid.log k.history k.acknowledged k.floor at.unmarked = subst (λ x. Fits trace sum x k.history k.acknowledged k.floor at.unmarked) (sym takes.log) at.fits in
    let awaits : Awaits old.log ticket m = awaits_it view sum old k at c.args.number m its.1 mid c.in-Some.field-0 takes in
    let says = awaited old.log ticket m awaits in
    let done = c.in-Ok.ensures in
    let keeps = c.abort-aborted.ensures.keeps in
    let given : ℤ × DiskPtr = (cast_signed w64 (cast_unsigned w64 c.in-Ok.place), c.in-Ok.pointer) in
    let gave : GivesUp view sum (Ok given) (own_blob ticket) mid.log new =
    record { answers = done.answers; removes = record { calls = done.device.calls; done = done.device.done; none = done.device.none }; keeps = keeps; seen = c.abort-aborted.ensures.seen; buffers = c.abort-aborted.ensures.ends.buffers; position = c.abort-aborted.ensures.ends.position; heads = record { heads = c.abort-aborted.ensures.ends.heads; fillings = c.abort-aborted.ensures.ends.fillings }; err = tt } in
    let did : GivesUp view sum (Ok given) (own_blob ticket) old.log new = subst (λ x. GivesUp view sum (Ok given) (own_blob ticket) x new) takes.log gave in
    let back = c.unpin.ensures in
    does_back view sum old k at c.args.number m its.1 mid c.in-Some.field-0 takes none new mid.pages c.unpin.new.log back.given _ _
    (aborts view sum old k at c.args.number m its.1 mid c.in-Some.field-0 takes none new mid.pages
    did.seen (did.answers.1 ∙ sym did.answers.0) (c.abort-aborted.ensures.ends.machine ∙ ap (λ x. machine_at x) takes.log) did.position did.buffers did.answers.0
    (λ t x holds ne. c.abort-aborted.ensures.ends.others k.history t x (fits_holds trace sum mid.log k.history k.acknowledged k.floor at.unmarked fits) (subst (λ y. Awaits y t x) (sym takes.log) holds) ne)
    (λ j x apart had none_kept. keeps.items none_kept x (beside_ticket view sum old k at c.args.number m its.1 mid c.in-Some.field-0 takes j x apart had)
    (subst (λ y. IsSafe trace sum y x) (sym takes.log) had.stored (keeps.sound none_kept)))
    (subst (λ x. TakesOut m.place (open_places x) (open_places new)) takes.log (done.ends.opens m.place says.0))
    _ c.in-Ok.pointer (sym (place_back c.in-Ok.place m.place (done.place.0 ∙ sym says.0) (awaited_small old.log ticket m awaits)), done.place.1 ∙ sym says.1)
    (ap (λ x. map page_of x.items) takes.pages)
    (back_from view sum old k at c.args.number m its.1 mid c.in-Some.field-0 takes none new mid.pages c.unpin.new.log back.given back.fits k.history) did
    (subst (λ x. AreAmong (given_up_of new) (in_log m ∷ given_up_of x)) takes.log (c.abort-aborted.ensures.given_up m (subst (λ x. Awaits x ticket m) (sym takes.log) awaits))))

-- What each does to the device.
pub returns-in_default-clause-device : goal.returns-in_default-clause-device
returns-in_default-clause-device g c = λ stopped.
    let view = view_by g.D.Device.trace g.D.Device.faults stopped in
    let old = c.args.opened.now.log in
    refused_acts g.C.Checksum.sum_of (segment_size_of old) (view (device_of old)) _ (ap (λ (x : Log _ _). view (device_of x)) c.take_open.ensures.log) (told.Abort c.args.number) why.Ticket

pub returns-in-Err-clause-device : goal.returns-in-Err-clause-device
returns-in-Err-clause-device g c = λ stopped.
    let view = view_by g.D.Device.trace g.D.Device.faults stopped in
    let sum = g.C.Checksum.sum_of in
    let mid = c.take_open.new.opened.log in
    let new = c.abort-aborted.new.self in
    let done = c.in-Err.ensures in
    from_taken view sum c.args.opened.now.log mid new c.unpin.new.log (told.Abort c.args.number) (reply.Failed c.in-Err.e) c.take_open.ensures.log c.unpin.ensures.given
    (abort_failed_acts sum (segment_size_of mid) c.args.number (view (device_of mid)) (view (device_of new)) (own_blob c.in-Some.field-0.reservation)
    (λ none. ap (λ (x : RunningConfig _ _). view x.device) (done.device.none none)) c.abort-aborted.ensures.keeps.later (ℤ × DiskPtr) c.in-Err.e (fault_of mid) (fault_of new) done.device.calls
    (λ some. ap (λ (x : Log _ _). view (device_of x)) (done.err.1 some)) done.answers)

pub returns-in-Ok-clause-device : goal.returns-in-Ok-clause-device
returns-in-Ok-clause-device g c = λ stopped.
    let view = view_by g.D.Device.trace g.D.Device.faults stopped in
    let sum = g.C.Checksum.sum_of in
    let mid = c.take_open.new.opened.log in
    let new = c.abort-aborted.new.self in
    let done = c.in-Ok.ensures in
    from_taken view sum c.args.opened.now.log mid new c.unpin.new.log (told.Abort c.args.number) _ c.take_open.ensures.log c.unpin.ensures.given
    (aborted_acts sum (segment_size_of mid) c.args.number (view (device_of mid)) (view (device_of new)) (own_blob c.in-Some.field-0.reservation)
    (λ none. ap (λ (x : RunningConfig _ _). view x.device) (done.device.none none)) c.abort-aborted.ensures.keeps.later _ _ done.device.done done.answers.2)
