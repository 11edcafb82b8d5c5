-- The item of a message of what a page is, which stands in its record or is a blob.
use Rattle.std.proofs.Common.{inl, inr, ◌≡◌, ◌∙◌, ℤ, ap, sym, subst, to_z, of_z}
use Rattle.std.specs.Int.{w64}
use Rattle.std.proofs.lemmas.Int.{to_z-of_z}
use Rattle.std.proofs.lemmas.Result.{err_from_is_err_and}
use Rattle.sled_codec.specs.declared.result.Error.{Error}
use Rattle.sled_store.specs.Device.{state_of}
use Rattle.sled_core.specs.declared.logger.read_message.LogRead.{LogRead}
use Rattle.sled_core.specs.Fits.{device_of, reserved_end, synced_end}
use Rattle.sled_core.specs.ReadBuffer.{IsUsedUpAt, held_at, settling}
use Rattle.sled_core.specs.ReadPointer.{place_read}
use Rattle.sled_core.specs.Reading.{GivesMessage, data_of}
use Rattle.sled_log.specs.RunPhases.{view_by}
use Rattle.sled_log.proofs.Sessions.Writing.{whole_of}
use Rattle.sled_log.proofs.Sessions.Reading.{has_record, is_given, is_whole, read_failed, was_read}
use Rattle.sled_log.proofs.session.reading.read_item.Goals as goal
use Rattle.sled_log.proofs.Sessions.LogActs.{item_failed, item_read, settling_writes, writes_made}

-- src/session/reading.rt:69:11
pub returns-in_err-item-clause-reads : goal.returns-in_err-item-clause-reads
returns-in_err-item-clause-reads g c = λ stopped.
    let trace = g.D.Device.trace in
    let sum = g.C.Checksum.sum_of in
    let view = view_by g.D.Device.trace g.D.Device.faults stopped in
    let old = c.args.log.now in
    let new = c.read.new.self in
    let blobs = (state_of (trace (device_of new))).blobs.file in
    let came = c.in_err-item.ensures in
    let e : Error = c.in_err-item.field-0.0 in
    let place : ℤ = to_z w64 (of_z w64 c.args.place) in
    let gives = err_from_is_err_and c.from_residual.result c.from_residual.ensures.1 in
    rw (gives.1, gives.2) (record {
      only = c.read.ensures.keeps;
      marked = c.read.ensures.buffers.1.marked;
      item = λ k m begun is of here points none a.
          let at = here ∙ sym (to_z-of_z w64 c.args.place c.ranges.place) in
          let whole = is_whole trace sum old k c.args.page m place is of at c.args.pointer e points
          (came.undamaged k.history k.acknowledged k.floor is.unmarked m is.fits of.there (has_record old k.history (reserved_end old) c.args.page m of) at points)
          (came.blob k.history k.acknowledged k.floor is.unmarked m is.fits is.zeros).kept in
          read_failed view sum old new k c.args.page m begun of (whole_of trace sum old k.given_up k.heads k.history k.acknowledged k.floor is.unmarked is.given_up is.heads is.fits) c.read.ensures.keeps blobs e place c.args.pointer at points
          (came.calls, (came.buffers.1, came.answers, came.buffers.2)) whole none a;
    })

-- src/session/reading.rt:60:1
pub returns-in-Inline-clause-reads : goal.returns-in-Inline-clause-reads
returns-in-Inline-clause-reads g c = λ stopped.
    let trace = g.D.Device.trace in
    let sum = g.C.Checksum.sum_of in
    let view = view_by g.D.Device.trace g.D.Device.faults stopped in
    let old = c.args.log.now in
    let new = c.read.new.self in
    let blobs = (state_of (trace (device_of new))).blobs.file in
    let came = c.in_ok-item.ensures in
    let r : LogRead = c.in_ok-item.field-0 in
    let place : ℤ = to_z w64 (of_z w64 c.args.place) in
    record {
      only = c.read.ensures.keeps;
      marked = c.read.ensures.buffers.1.marked;
      item = λ k m begun is of here points.
          let at = here ∙ sym (to_z-of_z w64 c.args.place c.ranges.place) in
          let gives : GivesMessage m r = is_given trace sum old k c.args.page m place is of at c.args.pointer r points
          (came.message k.history m (inl (inr (k.acknowledged, k.floor, is.unmarked, is.fits))) of.there (has_record old k.history (reserved_end old) c.args.page m of) at points)
          (came.blob k.history k.acknowledged k.floor is.unmarked m is.fits is.zeros).kept in
          let bytes : c.in-Inline.item.items ≡ m.bytes = elim c.in-Inline.is [
            | inl x ↦ (subst (GivesMessage m) x.2 gives).2
            | inr x ↦ (subst (GivesMessage m) x.3 gives).2
          ] in
          let read = was_read view sum old new k c.args.page m begun of (whole_of trace sum old k.given_up k.heads k.history k.acknowledged k.floor is.unmarked is.given_up is.heads is.fits) c.read.ensures.keeps blobs r place c.args.pointer at points
          (came.calls, (came.buffers.1, came.answers, came.buffers.2)) in
          (bytes, read.0, read.1, read.2);
    }

-- src/session/reading.rt:60:1
pub returns-in-Canceled : goal.returns-in-Canceled
returns-in-Canceled g c =
    let trace = g.D.Device.trace in
    let sum = g.C.Checksum.sum_of in
    let old = c.args.log.now in
    let new = c.read.new.self in
    let came = c.in_ok-item.ensures in
    let place : ℤ = to_z w64 (of_z w64 c.args.place) in
    record {
      reads = λ stopped. record {
        only = c.read.ensures.keeps;
        marked = c.read.ensures.buffers.1.marked;
        item = λ k m begun is of here points.
            let at = here ∙ sym (to_z-of_z w64 c.args.place c.ranges.place) in
            let gives : GivesMessage m c.in_ok-item.field-0 = is_given trace sum old k c.args.page m place is of at c.args.pointer c.in_ok-item.field-0 points
            (came.message k.history m (inl (inr (k.acknowledged, k.floor, is.unmarked, is.fits))) of.there (has_record old k.history (reserved_end old) c.args.page m of) at points)
            (came.blob k.history k.acknowledged k.floor is.unmarked m is.fits is.zeros).kept in
            absurd (elim c.in-Canceled.is [
              | inl x ↦ subst (GivesMessage m) x.1 gives
              | inr (inl x) ↦ subst (GivesMessage m) x.1 gives
              | inr (inr (inl x)) ↦ subst (GivesMessage m) x gives
              | inr (inr (inr (inl x))) ↦ subst (GivesMessage m) x.3 gives
              | inr (inr (inr (inr x))) ↦ subst (GivesMessage m) x.2 gives
            ]);
      };
      device = λ stopped.
          let view = view_by trace g.D.Device.faults stopped in
          let at : ℤ = place_read place c.args.pointer in
          (came.answers.5, writes_made (settling sum old at) (settling_writes sum old at) (view (device_of old)).trace (view (device_of new)).trace c.read.ensures.calls.at_most);
      on = record { later = c.read.ensures.keeps.preserves.goes_on.later; kept = c.read.ensures.keeps.preserves.goes_on.config };
    }

-- What each does to the device.
pub returns-in_err-item-clause-device : goal.returns-in_err-item-clause-device
returns-in_err-item-clause-device g c = λ stopped.
    let view = view_by g.D.Device.trace g.D.Device.faults stopped in
    let sum = g.C.Checksum.sum_of in
    let old = c.args.log.now in
    let new = c.read.new.self in
    let at : ℤ = place_read (to_z w64 (of_z w64 c.args.place)) c.args.pointer in
    let gives = err_from_is_err_and c.from_residual.result c.from_residual.ensures.1 in
    rw (gives.1, gives.2) (item_failed view sum old c.args.page new (state_of (view (device_of new)).trace).blobs.file c.args.pointer c.in_err-item.field-0.0 at (synced_end old) (reserved_end old) (held_at sum old at) (IsUsedUpAt old at)
    c.in_err-item.ensures.answers (writes_made (settling sum old at) (settling_writes sum old at) (view (device_of old)).trace (view (device_of new)).trace c.read.ensures.calls.at_most))

pub returns-in-Inline-clause-device : goal.returns-in-Inline-clause-device
returns-in-Inline-clause-device g c = λ stopped.
    let view = view_by g.D.Device.trace g.D.Device.faults stopped in
    let sum = g.C.Checksum.sum_of in
    let old = c.args.log.now in
    let new = c.read.new.self in
    let at : ℤ = place_read (to_z w64 (of_z w64 c.args.place)) c.args.pointer in
    let came = c.in_ok-item.ensures in
    item_read view sum old c.args.page new _ c.args.pointer c.in_ok-item.field-0 c.in-Inline.item came.answers.4 came.answers.5
    (writes_made (settling sum old at) (settling_writes sum old at) (view (device_of old)).trace (view (device_of new)).trace c.read.ensures.calls.at_most) came.reading
    (elim c.in-Inline.is [ inl x ↦ ap data_of x.2 | inr x ↦ ap data_of x.3 ])
