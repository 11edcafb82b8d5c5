-- A place is kept for the manifest of a batch, or nothing is done but that room is made.
use Rattle.std.proofs.Common.{◌≡◌, ◌∙◌, ap, Bool, None, if◌then◌else◌, length, refl, subst, sym, Ok, Err}
use Rattle.sled_codec.specs.declared.serialization.message.LogKind.TheVariants as does
use Rattle.sled_core.specs.declared.logger.Log.{Log}
use Rattle.sled_core.specs.Fits.{body_length, device_of, fault_of, in_blob_of, segment_size_of}
use Rattle.sled_core.specs.Manifests.{kind_for, manifest_page}
use Rattle.sled_log.specs.declared.session.command.Reply.TheVariants as reply
use Rattle.sled_log.specs.RunPhases.{view_by}
use Rattle.sled_log.specs.TicketSteps.{blank_manifest}
use Rattle.sled_log.proofs.Sessions.Carried.{begin_does, begin_idle, manifest_inline}
use Rattle.sled_log.proofs.Sessions.Reserving.{came_pinned, failed_tried, given_tried, manifest_tried, pin_taken, room_at, room_tried, roomless_tried, went_back}
use Rattle.sled_log.proofs.session.reserving.begin.Goals as goal
use Rattle.sled_log.proofs.Sessions.LogActs.{begin_acts, place_held, place_refused, place_roomless}

-- a manifest is written, with its item in its record
manifest_written : {D C : Type 0} (log : Log D C) → kind_for does.Skip manifest_page (in_blob_of log (length blank_manifest)) (body_length log (length blank_manifest)) ≡ None → ⊥
manifest_written log = subst (λ (b : Bool). kind_for does.Skip manifest_page b (if b then 8 else length blank_manifest) ≡ None → ⊥) (sym (manifest_inline log)) (λ none. cc)

-- Without room for a ticket nothing is done.
pub returns-in-Err-clause-step : goal.returns-in-Err-clause-step
returns-in-Err-clause-step g c = λ stopped. λ none k at asked.
    let view = view_by g.D.Device.trace g.D.Device.faults stopped in
    let sum = g.C.Checksum.sum_of in
    let old = c.args.opened.now in
    let mid = c.room_for_ticket.new.opened in
    begin_does view sum old k mid _
    (roomless_tried view sum old mid does.Skip manifest_page blank_manifest k c.in-Err.e c.room_for_ticket.ensures.room c.in-Err.ensures.whole at)

-- The place that the log kept has a ticket.
pub returns-in-Ok-clause-step : goal.returns-in-Ok-clause-step
returns-in-Ok-clause-step g c = λ stopped. λ none k at asked.
    let trace = g.D.Device.trace in
    let view = view_by g.D.Device.trace g.D.Device.faults stopped in
    let sum = g.C.Checksum.sum_of in
    let old = c.args.opened.now in
    let mid = c.room_for_ticket.new.opened in
    let log = c.reserve.new.self in
    let room = c.room_for_ticket.ensures.room in
    let taken = c.pin-guard.ensures.taken in
    let came = came_pinned trace g.D.Device.faults sum (Ok c.in-Ok.reservation) does.Skip manifest_page blank_manifest mid.log c.pin-guard.new.self log taken
    (record {
      ticket = c.in-Ok.ensures.ticket;
      stored = c.in-Ok.ensures.stored;
      manifest = c.in-Ok.ensures.manifest;
      own = c.in-Ok.ensures.own;
      behind = c.in-Ok.ensures.behind;
      others = c.reserve.ensures.others;
      answers = c.in-Ok.ensures.answers;
      device = c.in-Ok.ensures.device;
      keeps = c.reserve.ensures.keeps;
      seen = c.reserve.ensures.seen;
      left = tt;
    }) in
    begin_does view sum old k c.hold_manifest.new.opened c.hold_manifest.result
    (room_tried view sum old mid c.hold_manifest.new.opened does.Skip manifest_page blank_manifest c.hold_manifest.result k room
    (manifest_tried view sum mid c.hold_manifest.new.opened log does.Skip manifest_page blank_manifest c.in-Ok.reservation c.pin-guard.result c.hold_manifest.result k
    (pin_taken trace sum mid.log c.pin-guard.new.self taken c.pin-guard.ensures.keeps) came
    c.hold_manifest.ensures (room.due ∙ none) (room_at _ sum old mid k room at) refl refl (manifest_inline mid.log) (begin_idle view sum old k asked)))

-- A log that kept no place is as it was, and the pin went back.
pub returns-in-Err-reserve-clause-step : goal.returns-in-Err-reserve-clause-step
returns-in-Err-reserve-clause-step g c = λ stopped. λ none k at asked.
    let trace = g.D.Device.trace in
    let view = view_by g.D.Device.trace g.D.Device.faults stopped in
    let sum = g.C.Checksum.sum_of in
    let old = c.args.opened.now in
    let mid = c.room_for_ticket.new.opened in
    let log = c.reserve.new.self in
    let room = c.room_for_ticket.ensures.room in
    let e = c.in-Err-reserve.e in
    let gives = c.give_back.ensures in
    let taken = c.pin-guard.ensures.taken in
    let came = came_pinned trace g.D.Device.faults sum (Err e) does.Skip manifest_page blank_manifest mid.log c.pin-guard.new.self log taken
    (record {
      ticket = tt;
      stored = tt;
      manifest = tt;
      own = tt;
      behind = tt;
      others = c.reserve.ensures.others;
      answers = c.in-Err-reserve.ensures.answers;
      device = c.in-Err-reserve.ensures.device;
      keeps = c.reserve.ensures.keeps;
      seen = c.reserve.ensures.seen;
      left = c.in-Err-reserve.ensures.left;
    }) in
    let made = went_back trace sum mid c.give_back.new.opened log e c.give_back.result gives (pin_taken trace sum mid.log c.pin-guard.new.self taken c.pin-guard.ensures.keeps) came.keeps came.seen in
    begin_does view sum old k _ _
    (room_tried view sum old mid c.give_back.new.opened does.Skip manifest_page blank_manifest c.give_back.result k room
    (given_tried view sum mid c.give_back.new.opened log does.Skip manifest_page blank_manifest k e c.give_back.result gives
    (failed_tried view sum mid log does.Skip manifest_page blank_manifest k (room.due ∙ none) (room_at _ sum old mid k room at) made e (manifest_written mid.log) came)))

-- What each does to the device.
pub returns-in-Err-clause-device : goal.returns-in-Err-clause-device
returns-in-Err-clause-device g c = λ stopped.
    let view = view_by g.D.Device.trace g.D.Device.faults stopped in
    let old = c.args.opened.now in
    let mid = c.room_for_ticket.new.opened in
    begin_acts g.C.Checksum.sum_of (segment_size_of old.log) (view (device_of old.log)) (view (device_of mid.log)) (reply.Failed c.in-Err.e) (manifest_inline old.log)
    (place_roomless view g.C.Checksum.sum_of old mid mid mid.log mid.log does.Skip manifest_page blank_manifest c.room_for_ticket.ensures.room c.in-Err.e)

pub returns-in-Ok-clause-device : goal.returns-in-Ok-clause-device
returns-in-Ok-clause-device g c = λ stopped.
    let view = view_by g.D.Device.trace g.D.Device.faults stopped in
    let old = c.args.opened.now in
    let new = c.hold_manifest.new.opened in
    begin_acts g.C.Checksum.sum_of (segment_size_of old.log) (view (device_of old.log)) (view (device_of new.log)) c.hold_manifest.result (manifest_inline old.log)
    (place_held view g.C.Checksum.sum_of old c.room_for_ticket.new.opened new c.pin-guard.new.self c.reserve.new.self does.Skip manifest_page blank_manifest
    c.room_for_ticket.ensures.room c.pin-guard.ensures.taken c.in-Ok.reservation c.pin-guard.result c.hold_manifest.result
    (record {
      ticket = c.in-Ok.ensures.ticket;
      stored = c.in-Ok.ensures.stored;
      manifest = c.in-Ok.ensures.manifest;
      own = c.in-Ok.ensures.own;
      behind = c.in-Ok.ensures.behind;
      others = c.reserve.ensures.others;
      answers = c.in-Ok.ensures.answers;
      device = c.in-Ok.ensures.device;
      keeps = c.reserve.ensures.keeps;
      seen = c.reserve.ensures.seen;
      left = tt;
    }) c.hold_manifest.ensures)

pub returns-in-Err-reserve-clause-device : goal.returns-in-Err-reserve-clause-device
returns-in-Err-reserve-clause-device g c = λ stopped.
    let view = view_by g.D.Device.trace g.D.Device.faults stopped in
    let old = c.args.opened.now in
    let new = c.give_back.new.opened in
    let pinned = c.pin-guard.new.self in
    let sound : fault_of pinned ≡ None = ap (λ (x : Log _ _). fault_of x) c.pin-guard.ensures.taken ∙ ap (λ (x : Log _ _). fault_of x) c.room_for_ticket.ensures.room.log ∙ c.in_default.ensures.whole.1 in
    begin_acts g.C.Checksum.sum_of (segment_size_of old.log) (view (device_of old.log)) (view (device_of new.log)) c.give_back.result (manifest_inline old.log)
    (place_refused view g.C.Checksum.sum_of old c.room_for_ticket.new.opened new pinned c.reserve.new.self does.Skip manifest_page blank_manifest
    c.room_for_ticket.ensures.room c.pin-guard.ensures.taken c.in-Err-reserve.e c.give_back.result sound
    (record {
      ticket = tt;
      stored = tt;
      manifest = tt;
      own = tt;
      behind = tt;
      others = c.reserve.ensures.others;
      answers = c.in-Err-reserve.ensures.answers;
      device = c.in-Err-reserve.ensures.device;
      keeps = c.reserve.ensures.keeps;
      seen = c.reserve.ensures.seen;
      left = c.in-Err-reserve.ensures.left;
    }) c.give_back.ensures)
