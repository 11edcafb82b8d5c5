-- The batch that is begun ends with the greatest place that was reserved.
use Rattle.std.proofs.Common.{Bool, ◌≡◌, ◌∙◌, ◌-ℤ◌, ◌<ℤ◌, ℤ, pos, to_z, of_z, w64, ap, refl, sym, subst, Some, Err}
use Rattle.std.specs.Prelude.{FitsSigned}
use Rattle.std.specs.List.{slice_get}
use Rattle.std.proofs.lemmas.Bool.{false≢true}
use Rattle.std.proofs.lemmas.Int.{to_z-of_z}
use Rattle.sled_core.specs.declared.logger.Log.{Log}
use Rattle.sled_codec.specs.declared.result.DiskPtr.{DiskPtr}
use Rattle.sled_codec.specs.History.{Message}
use Rattle.sled_core.specs.Causes.{FaultAnswers}
use Rattle.sled_core.specs.Batches.{EndsBatch, MayEndAt, NotesBatchOf}
use Rattle.sled_core.specs.Fits.{Awaits, KeepsBuffers, device_of, fault_of, given_up_of, machine_at, open_places, reserved_end, segment_size_of}
use Rattle.sled_core.specs.Among.{AreAmong}
use Rattle.sled_core.specs.Keeps.{SamePosition}
use Rattle.sled_core.specs.Manifests.{manifest_page}
use Rattle.sled_core.specs.OpenPlaces.{TakesOut}
use Rattle.sled_core.specs.Tickets.{place_of}
use Rattle.sled_core.specs.invariants.Running.{Fits}
use Rattle.sled_core.proofs.PublicLaws.{awaited, awaited_small, fits_holds, place_back}
use Rattle.sled_store.specs.declared.config.RunningConfig.{RunningConfig}
use Rattle.sled_log.specs.declared.session.command.Command.TheVariants as told
use Rattle.sled_log.specs.declared.session.command.Refusal.TheVariants as why
use Rattle.sled_log.specs.Endings.{TakesTicket}
use Rattle.sled_log.specs.RunPhases.{HasBatch, IsOpenAt, IsSafe, Unstored, traces, view_by}
use Rattle.sled_log.specs.RunStates.{DeviceView}
use Rattle.sled_log.proofs.Sessions.EndedBatches.{batch_there, behind, end_fails, ends_batch, is_batch, may_end}
use Rattle.sled_log.proofs.Sessions.EndedTickets.{awaits_it, back_from, does_back, takes_it}
use Rattle.sled_log.proofs.session.ending.end.Given.{Over}
use Rattle.sled_log.proofs.session.ending.end.Goals.{After-reserved_offset-peg, then-is_manifest, else-is_manifest}
use Rattle.sled_log.proofs.Sessions.SafeItems.{safe_on}
use Rattle.sled_log.proofs.session.ending.end.Goals as goal
use Rattle.sled_log.proofs.Sessions.BegunHeads.{HasNoOther}
use Rattle.sled_log.proofs.Sessions.LogActs.{ended_still, failed_still, refused_acts}

-- the peg is read as it was, and is the greatest place that was reserved before
peg_read : {D C : Type 0} (z : ℤ) (mid old : Log D C) → z ≡ pos (reserved_end mid) -ℤ pos 1 → mid ≡ old → FitsSigned w64 z → to_z w64 (of_z w64 z) ≡ pos (reserved_end old) -ℤ pos 1
peg_read z mid old is same fits = to_z-of_z w64 z fits ∙ is ∙ ap (λ l. pos (reserved_end l) -ℤ pos 1) same

-- how a run sees a device
abbrev seen_by : (g : Over) → (g.row.D.Denot → Bool) → g.row.D.Denot → DeviceView
seen_by g stopped = view_by g.D.Device.trace g.D.Device.faults stopped

-- The ticket of a batch's manifest was taken, and the greatest place that was reserved was read.
module _ (g : Over) (c : After-reserved_offset-peg g) where
  -- the session has that ticket no more
  takes : TakesTicket c.args.opened.now c.in-Some.number c.take_open.new.opened (Some c.in-Some-take_open.field-0)
  takes = subst (TakesTicket c.args.opened.now c.in-Some.number c.take_open.new.opened) c.in-Some-take_open.is c.take_open.ensures

  -- the peg is that place, read from its bits
  peg_is : to_z w64 (of_z w64 c.reserved_offset-peg.result) ≡ pos (reserved_end c.args.opened.now.log) -ℤ pos 1
  peg_is = peg_read c.reserved_offset-peg.result c.take_open.new.opened.log c.args.opened.now.log c.reserved_offset-peg.ensures takes.log (record { sfits = c.reserved_offset-peg.type_inv })

  -- in the history, the ticket was for a message of the page of manifests
  its_batch : (stopped : g.row.D.Denot → Bool) (k : Unstored) → IsOpenAt (traces (seen_by g stopped)) g.C.Checksum.sum_of c.args.opened.now k → (m : Message) × (slice_get k.tickets c.in-Some.number ≡ Some (Some m)) × (m.page ≡ manifest_page)
  its_batch stopped k at = subst (HasBatch k.tickets) c.in-Some.is at.tickets.batch

pub returns-in_default-clause-step : goal.returns-in_default-clause-step
returns-in_default-clause-step g c = λ stopped. λ none k at asked.
    let old = c.args.opened.now in
    let batch = batch_there (seen_by g stopped old.log.config.device).is_stopped k.tickets old.batch at.tickets.batch asked in
    absurd (c.in_default.not-Some _ batch.1)

pub returns-in_default-take_open-clause-step : goal.returns-in_default-take_open-clause-step
returns-in_default-take_open-clause-step g c = λ stopped. λ none k at asked.
    let its = subst (HasBatch k.tickets) c.in-Some.is at.tickets.batch in
    absurd (c.in_default-take_open.not-Some _ (takes_it (seen_by g stopped) g.C.Checksum.sum_of c.args.opened.now k at c.in-Some.number its.0 its.1 c.take_open.new.opened c.take_open.result c.take_open.ensures))

pub returns-then-not-may_end_at-clause-step : goal.returns-then-not-may_end_at-clause-step
returns-then-not-may_end_at-clause-step g c = λ stopped. λ none k at asked.
    let sum = g.C.Checksum.sum_of in
    let old = c.args.opened.now in
    let mid = c.take_open.new.opened in
    let ticket = c.in-Some-take_open.field-0 in
    let read = (goal.at.returns-then-not-may_end_at-clause-step g c).After-reserved_offset-peg in
    let its = its_batch g read stopped k at in
    let took = takes g read in
    let manifest = is_batch (seen_by g stopped) sum old k at c.in-Some.number its.0 its.1 its.2 mid ticket took in
    let peg : ℤ = to_z w64 (of_z w64 c.reserved_offset-peg.result) in
    let ends : MayEndAt mid.log ticket.reservation peg =
    subst (λ l. MayEndAt l ticket.reservation peg) (sym took.log) (subst (MayEndAt old.log ticket.reservation) (sym (peg_is g read)) (may_end (seen_by g stopped) sum old k at c.in-Some.number its.0 its.1 its.2 mid ticket took)) in
    elim c.if-is_manifest.branch [
      | then-is_manifest w ↦ absurd (false≢true (sym c.if-not-may_end_at.true ∙ w.value-is ∙ w.may_end_at.ensures.1 ends))
      | else-is_manifest w ↦ absurd (false≢true (sym w.if-is_manifest.false ∙ c.is_manifest.ensures ∙ manifest))
    ]

pub returns-in-Ok-clause-step : goal.returns-in-Ok-clause-step
returns-in-Ok-clause-step g c = λ stopped. λ none k at asked.
    let sum = g.C.Checksum.sum_of in
    let trace = g.D.Device.trace in
    let old = c.args.opened.now in
    let mid = c.take_open.new.opened in
    let new = c.mark_writebatch-ended.new.self in
    let n = c.in-Some.number in
    let ticket = c.in-Some-take_open.field-0 in
    let read = (goal.at.returns-in-Ok-clause-step g c).After-reserved_offset-peg in
    let its = its_batch g read stopped k at in
    let m = its.0 in
    let took = takes g read in
    let fits : Fits trace sum mid.log k.history k.acknowledged k.floor at.unmarked = subst (λ x. Fits trace sum x k.history k.acknowledged k.floor at.unmarked) (sym took.log) at.fits in
    let awaits : Awaits old.log ticket.reservation m = awaits_it (seen_by g stopped) sum old k at n m its.1 mid ticket took in
    let says = awaited old.log ticket.reservation m awaits in
    let done = c.in-Ok.ensures in
    let gives = done.fits k.history k.acknowledged k.floor at.unmarked fits in
    let notes : NotesBatchOf ticket.reservation (pos (reserved_end old.log) -ℤ pos 1) old.log new =
    subst (λ x. NotesBatchOf ticket.reservation (pos (reserved_end old.log) -ℤ pos 1) x new) took.log (subst (λ z. NotesBatchOf ticket.reservation z mid.log new) (peg_is g read) done.same) in
    let back = c.unpin.ensures in
    does_back (seen_by g stopped) sum old k at n m its.1 mid ticket took none new mid.pages c.unpin.new.log back.given _ _
    (ends_batch (seen_by g stopped) sum old k at n m its.1 its.2 mid ticket took none new notes (c.mark_writebatch-ended.ensures.ends.machine ∙ ap (λ x. machine_at x) took.log)
    (subst (λ x. SamePosition x new) took.log c.mark_writebatch-ended.ensures.ends.position) (subst (λ x. KeepsBuffers x new) took.log c.mark_writebatch-ended.ensures.ends.buffers)
    (sym (ap (λ x. fault_of x) took.log) ∙ done.answers)
    (λ t x holds ne. c.mark_writebatch-ended.ensures.ends.others k.history t x (fits_holds trace sum mid.log k.history k.acknowledged k.floor at.unmarked fits) (subst (λ y. Awaits y t x) (sym took.log) holds) ne)
    (λ j x apart had. safe_on trace sum mid.log new x c.mark_writebatch-ended.ensures.goes_on (subst (λ y. IsSafe trace sum y x) (sym took.log) had.stored))
    (subst (λ x. TakesOut m.place (open_places x) (open_places new)) took.log (done.ends.opens m.place says.0))
    (subst (λ x. AreAmong (given_up_of new) (given_up_of x)) took.log (c.mark_writebatch-ended.ensures.ended (subst (λ z. place_of ticket.reservation <ℤ z) (sym (peg_is g read)) (behind (seen_by g stopped) sum old k at n m its.1 its.2 mid ticket took))))
    (subst (λ x. HasNoOther x new) took.log (record { heads = c.mark_writebatch-ended.ensures.ends.heads; fillings = c.mark_writebatch-ended.ensures.ends.fillings }))
    _ c.in-Ok.pointer (sym (place_back c.in-Ok.low m.place (done.place.0 ∙ sym says.0) (awaited_small old.log ticket.reservation m awaits)), done.place.1 ∙ sym says.1)
    gives.0 (subst (λ z. EndsBatch k.history ticket.reservation z gives.0) (peg_is g read) gives.1)
    (back_from (seen_by g stopped) sum old k at n m its.1 mid ticket took none new mid.pages c.unpin.new.log back.given back.fits gives.0 gives.2))

pub returns-in-Err-clause-step : goal.returns-in-Err-clause-step
returns-in-Err-clause-step g c = λ stopped. λ none k at asked.
    let read = (goal.at.returns-in-Err-clause-step g c).After-reserved_offset-peg in
    let its = its_batch g read stopped k at in
    let took = takes g read in
    let sum = g.C.Checksum.sum_of in
    let old = c.args.opened.now in
    let n = c.in-Some.number in
    let mid = c.take_open.new.opened in
    let ticket = c.in-Some-take_open.field-0 in
    let new = c.mark_writebatch-ended.new.self in
    let back = c.unpin.ensures in
    does_back (seen_by g stopped) sum old k at n its.0 its.1 mid ticket took none new mid.pages c.unpin.new.log back.given _ _
    (end_fails (seen_by g stopped) sum old k at n its.0 its.1 its.2 mid ticket took none new (ℤ × DiskPtr) c.in-Err.e
    (back_from (seen_by g stopped) sum old k at n its.0 its.1 mid ticket took none new mid.pages c.unpin.new.log back.given back.fits)
    (subst (λ x. FaultAnswers {T = ℤ × DiskPtr} (Err c.in-Err.e) (fault_of x)) took.log c.in-Err.ensures.answers) (c.in-Err.ensures.err ∙ took.log))

-- None asks anything of the device.
pub returns-in_default-clause-device : goal.returns-in_default-clause-device
returns-in_default-clause-device g c = λ stopped.
    let view = seen_by g stopped in
    let old = c.args.opened.now.log in
    refused_acts g.C.Checksum.sum_of (segment_size_of old) (view (device_of old)) (view (device_of old)) refl told.EndBatch why.Batch

pub returns-in_default-take_open-clause-device : goal.returns-in_default-take_open-clause-device
returns-in_default-take_open-clause-device g c = λ stopped.
    let view = seen_by g stopped in
    let old = c.args.opened.now.log in
    refused_acts g.C.Checksum.sum_of (segment_size_of old) (view (device_of old)) _ (ap (λ (x : Log _ _). view (device_of x)) c.take_open.ensures.log) told.EndBatch why.Batch

pub returns-then-not-may_end_at-clause-device : goal.returns-then-not-may_end_at-clause-device
returns-then-not-may_end_at-clause-device g c = λ stopped.
    let view = seen_by g stopped in
    let old = c.args.opened.now.log in
    refused_acts g.C.Checksum.sum_of (segment_size_of old) (view (device_of old)) _ (ap (λ (x : Log _ _). view (device_of x)) c.take_open.ensures.log) told.EndBatch why.Batch

pub returns-in-Ok-clause-device : goal.returns-in-Ok-clause-device
returns-in-Ok-clause-device g c = λ stopped.
    let view = seen_by g stopped in
    let old = c.args.opened.now.log in
    ended_still g.C.Checksum.sum_of (segment_size_of old) (view (device_of old)) _
    (ap (λ (x : Log _ _). view (device_of x)) c.unpin.ensures.given ∙ ap (λ (x : RunningConfig _ _). view x.device) c.in-Ok.ensures.same.config
    ∙ ap (λ (x : Log _ _). view (device_of x)) c.take_open.ensures.log) _ _

pub returns-in-Err-clause-device : goal.returns-in-Err-clause-device
returns-in-Err-clause-device g c = λ stopped.
    let view = seen_by g stopped in
    let old = c.args.opened.now.log in
    failed_still g.C.Checksum.sum_of (segment_size_of old) (view (device_of old)) _
    (ap (λ (x : Log _ _). view (device_of x)) c.unpin.ensures.given ∙ ap (λ (x : Log _ _). view (device_of x)) c.in-Err.ensures.err
    ∙ ap (λ (x : Log _ _). view (device_of x)) c.take_open.ensures.log) told.EndBatch c.in-Err.e
