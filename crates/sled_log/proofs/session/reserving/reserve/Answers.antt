-- A place is kept for a message, or nothing is done but that room is made.
use Rattle.std.proofs.Common.{◌≡◌, ◌∙◌, length, None, Ok, Err, ap}
use Rattle.sled_core.specs.Fits.{body_length, fault_of, in_blob_of}
use Rattle.sled_log.specs.RunPhases.{view_by}
use Rattle.sled_log.proofs.Sessions.Reserving.{came_pinned, failed_tried, given_tried, held_tried, kind_some, none_inline, noted_page, pin_taken, room_at, room_may, room_tried, roomless_tried, went_back}
use Rattle.sled_log.proofs.session.reserving.reserve.Goals as goal
use Rattle.sled_log.proofs.Sessions.LogActs.{place_held, place_refused, place_roomless}
use Rattle.sled_core.specs.declared.logger.Log.{Log}

-- Without room for a ticket nothing is done.
pub returns-in-Err-clause-step : goal.returns-in-Err-clause-step
returns-in-Err-clause-step g c = λ stopped. λ none k at may.
    roomless_tried (view_by g.D.Device.trace g.D.Device.faults stopped) g.C.Checksum.sum_of c.args.opened.now c.room_for.new.opened c.args.kind c.args.page
    (g.T.Serialize.short (g.T.Serialize.meaning c.args.item.now)) k c.in-Err.e c.room_for.ensures.room c.in-Err.ensures.whole at

pub hold-requires-clause-message : goal.hold-requires-clause-message
hold-requires-clause-message g c = noted_page c.room_for.new.opened.busy c.args.page c.in_default.ensures.enough.2

-- The place that the log kept has a ticket.
pub returns-in-Ok-clause-step : goal.returns-in-Ok-clause-step
returns-in-Ok-clause-step g c = λ stopped. λ none k at may.
    let trace = g.D.Device.trace in
    let view = view_by g.D.Device.trace g.D.Device.faults stopped in
    let sum = g.C.Checksum.sum_of in
    let bytes = g.T.Serialize.short (g.T.Serialize.meaning c.args.item.now) in
    let old = c.args.opened.now in
    let mid = c.room_for.new.opened in
    let log = c.reserve.new.self in
    let room = c.room_for.ensures.room in
    let taken = c.pin-guard.ensures.taken in
    let came = came_pinned trace g.D.Device.faults sum (Ok c.in-Ok.reservation) c.args.kind c.args.page bytes mid.log c.pin-guard.new.self log taken
    (record {
      ticket = c.in-Ok.ensures.ticket;
      stored = c.in-Ok.ensures.stored;
      manifest = c.in-Ok.ensures.manifest;
      own = c.in-Ok.ensures.own;
      behind = c.in-Ok.ensures.behind;
      others = c.reserve.ensures.others;
      answers = c.in-Ok.ensures.answers;
      device = c.in-Ok.ensures.device;
      keeps = c.reserve.ensures.keeps;
      seen = c.reserve.ensures.seen;
      left = tt;
    }) in
    room_tried view sum old mid c.hold.new.opened c.args.kind c.args.page bytes c.hold.result k room
    (held_tried view sum mid c.hold.new.opened log c.args.kind c.args.page bytes c.in-Ok.reservation c.pin-guard.result c.hold.result k
    (pin_taken trace sum mid.log c.pin-guard.new.self taken c.pin-guard.ensures.keeps) came
    c.hold.ensures.held (room.due ∙ none) (room_at _ sum old mid k room at) c.requires.kind
    c.in_default.ensures.enough.2 (hold-requires-clause-message g c.before)
    (room_may old mid k c.args.kind c.args.page room may))

-- A log that kept no place is as it was, or ready for a record that it has none of, and the pin went back.
pub returns-in-Err-reserve-clause-step : goal.returns-in-Err-reserve-clause-step
returns-in-Err-reserve-clause-step g c = λ stopped. λ none k at may.
    let trace = g.D.Device.trace in
    let view = view_by g.D.Device.trace g.D.Device.faults stopped in
    let sum = g.C.Checksum.sum_of in
    let bytes = g.T.Serialize.short (g.T.Serialize.meaning c.args.item.now) in
    let old = c.args.opened.now in
    let mid = c.room_for.new.opened in
    let log = c.reserve.new.self in
    let room = c.room_for.ensures.room in
    let e = c.in-Err-reserve.e in
    let gives = c.give_back.ensures in
    let taken = c.pin-guard.ensures.taken in
    let written = kind_some c.args.kind c.args.page (body_length mid.log (length bytes)) (in_blob_of mid.log (length bytes)) c.requires.kind (λ is. none_inline mid.log bytes (c.requires.plain is)) in
    let came = came_pinned trace g.D.Device.faults sum (Err e) c.args.kind c.args.page bytes mid.log c.pin-guard.new.self log taken
    (record {
      ticket = tt;
      stored = tt;
      manifest = tt;
      own = tt;
      behind = tt;
      others = c.reserve.ensures.others;
      answers = c.in-Err-reserve.ensures.answers;
      device = c.in-Err-reserve.ensures.device;
      keeps = c.reserve.ensures.keeps;
      seen = c.reserve.ensures.seen;
      left = c.in-Err-reserve.ensures.left;
    }) in
    let made = went_back trace sum mid c.give_back.new.opened log e c.give_back.result gives (pin_taken trace sum mid.log c.pin-guard.new.self taken c.pin-guard.ensures.keeps) came.keeps came.seen in
    room_tried view sum old mid c.give_back.new.opened c.args.kind c.args.page bytes c.give_back.result k room
    (given_tried view sum mid c.give_back.new.opened log c.args.kind c.args.page bytes k e c.give_back.result gives
    (failed_tried view sum mid log c.args.kind c.args.page bytes k (room.due ∙ none) (room_at _ sum old mid k room at) made e written came))

-- What each does to the device.
pub returns-in-Err-clause-device : goal.returns-in-Err-clause-device
returns-in-Err-clause-device g c = λ stopped.
    let view = view_by g.D.Device.trace g.D.Device.faults stopped in
    let mid = c.room_for.new.opened in
    place_roomless view g.C.Checksum.sum_of c.args.opened.now mid mid mid.log mid.log c.args.kind c.args.page (g.T.Serialize.short (g.T.Serialize.meaning c.args.item.now)) c.room_for.ensures.room c.in-Err.e

pub returns-in-Ok-clause-device : goal.returns-in-Ok-clause-device
returns-in-Ok-clause-device g c = λ stopped.
    let view = view_by g.D.Device.trace g.D.Device.faults stopped in
    place_held view g.C.Checksum.sum_of c.args.opened.now c.room_for.new.opened c.hold.new.opened c.pin-guard.new.self c.reserve.new.self c.args.kind c.args.page
    (g.T.Serialize.short (g.T.Serialize.meaning c.args.item.now)) c.room_for.ensures.room c.pin-guard.ensures.taken c.in-Ok.reservation c.pin-guard.result c.hold.result
    (record {
      ticket = c.in-Ok.ensures.ticket;
      stored = c.in-Ok.ensures.stored;
      manifest = c.in-Ok.ensures.manifest;
      own = c.in-Ok.ensures.own;
      behind = c.in-Ok.ensures.behind;
      others = c.reserve.ensures.others;
      answers = c.in-Ok.ensures.answers;
      device = c.in-Ok.ensures.device;
      keeps = c.reserve.ensures.keeps;
      seen = c.reserve.ensures.seen;
      left = tt;
    }) c.hold.ensures.held

pub returns-in-Err-reserve-clause-device : goal.returns-in-Err-reserve-clause-device
returns-in-Err-reserve-clause-device g c = λ stopped.
    let view = view_by g.D.Device.trace g.D.Device.faults stopped in
    let mid = c.room_for.new.opened in
    let pinned = c.pin-guard.new.self in
    let sound : fault_of pinned ≡ None = ap (λ (x : Log _ _). fault_of x) c.pin-guard.ensures.taken ∙ ap (λ (x : Log _ _). fault_of x) c.room_for.ensures.room.log ∙ c.in_default.ensures.whole.1 in
    place_refused view g.C.Checksum.sum_of c.args.opened.now mid c.give_back.new.opened pinned c.reserve.new.self c.args.kind c.args.page
    (g.T.Serialize.short (g.T.Serialize.meaning c.args.item.now)) c.room_for.ensures.room c.pin-guard.ensures.taken c.in-Err-reserve.e c.give_back.result sound
    (record {
      ticket = tt;
      stored = tt;
      manifest = tt;
      own = tt;
      behind = tt;
      others = c.reserve.ensures.others;
      answers = c.in-Err-reserve.ensures.answers;
      device = c.in-Err-reserve.ensures.device;
      keeps = c.reserve.ensures.keeps;
      seen = c.reserve.ensures.seen;
      left = c.in-Err-reserve.ensures.left;
    }) c.give_back.ensures
