-- A place is kept for the message of a page again whose item stays in its blob, or nothing is done but that room is made.
use Rattle.std.proofs.Common.{◌≡◌, ◌∙◌, ap, refl, List, SFits, rules, subst, sym, ℕ}
use Rattle.std.specs.Int.{w64}
use Rattle.std.proofs.lemmas.Int.{to_z-of_z}
use Rattle.sled_core.specs.Fits.{Awaits, device_of, message_rewriting, segment_size_of}
use Rattle.sled_core.specs.declared.logger.Log.{Log}
use Rattle.sled_store.specs.declared.config.RunningConfig.{RunningConfig}
use Rattle.sled_log.specs.declared.session.opened.Opened.{Opened}
use Rattle.sled_log.specs.declared.session.command.Command.TheVariants as told
use Rattle.sled_log.specs.declared.session.command.Refusal.TheVariants as why
use Rattle.sled_log.specs.declared.session.command.Reply.{Reply}
use Rattle.sled_log.specs.LogActs.{LogActs}
use Rattle.sled_log.specs.RunPhases.{view_by}
use Rattle.sled_log.proofs.Sessions.Reserving.{noted_page}
use Rattle.sled_log.proofs.Sessions.Rewriting.{failed_again, held_again, pinned_again, rewrite_does, rewrite_may, roomless_again}
use Rattle.sled_log.proofs.session.reserving.rewrite.Goals as goal
use Rattle.sled_log.proofs.Sessions.LogActs.{failed_still, refused_acts, rewritten_still}

-- Without room for a ticket nothing is done.
pub returns-in-Err-clause-step : goal.returns-in-Err-clause-step
returns-in-Err-clause-step g c = λ stopped. λ none k at asked.
    let view = view_by g.D.Device.trace g.D.Device.faults stopped in
    let old = c.args.opened.now in
    let mid = c.room_for.new.opened in
    rewrite_does view g.C.Checksum.sum_of old c.args.page mid _ k at (roomless_again view g.C.Checksum.sum_of old mid k c.args.page c.room_for.ensures.room at c.in-Err.e c.in-Err.ensures.whole)

pub hold-requires-clause-message : goal.hold-requires-clause-message
hold-requires-clause-message g c = noted_page c.room_for.new.opened.busy c.args.page c.in_default-room_for.ensures.enough.2

-- The place that the log kept has a ticket.
pub returns-in-Ok-clause-step : goal.returns-in-Ok-clause-step
returns-in-Ok-clause-step g c = λ stopped. λ none k at asked.
    let view = view_by g.D.Device.trace g.D.Device.faults stopped in
    let sum = g.C.Checksum.sum_of in
    let old = c.args.opened.now in
    let mid = c.room_for.new.opened in
    let log = c.rewrite_blob_pointer.new.self in
    let came = pinned_again g.D.Device.trace sum mid.log c.pin-guard.new.self log c.pin-guard.ensures.taken c.pin-guard.ensures.keeps c.rewrite_blob_pointer.ensures.same c.rewrite_blob_pointer.ensures.keeps in
    let fits : SFits w64 c.in-Some.blob = search rules in
    let ticket = subst (λ z. (item : List ℕ) → Awaits log c.in-Ok.reservation (message_rewriting c.pin-guard.new.self c.args.page z item)) (to_z-of_z w64 c.in-Some.blob fits) c.in-Ok.ensures.ticket in
    rewrite_does view sum old c.args.page c.hold.new.opened c.hold.result k at
    (held_again view sum old mid k c.args.page c.room_for.ensures.room at none log came c.pin-guard.new.self c.pin-guard.ensures.taken
    c.in-Some.blob (sym (c.blob_of.ensures k at) ∙ c.in-Some.is) c.in-Ok.reservation ticket c.in-Ok.ensures.own c.in-Ok.ensures.answers c.in-Ok.ensures.behind c.rewrite_blob_pointer.ensures.others
    c.hold.new.opened c.pin-guard.result c.hold.result c.hold.ensures.held
    c.in_default-room_for.ensures.enough.2 (hold-requires-clause-message g c.before) (rewrite_may view old k c.args.page asked).1)

-- A log that kept no place is as it was, and the pin went back.
pub returns-in-Err-rewrite_blob_pointer-clause-step : goal.returns-in-Err-rewrite_blob_pointer-clause-step
returns-in-Err-rewrite_blob_pointer-clause-step g c = λ stopped. λ none k at asked.
    let view = view_by g.D.Device.trace g.D.Device.faults stopped in
    let sum = g.C.Checksum.sum_of in
    let old = c.args.opened.now in
    let mid = c.room_for.new.opened in
    let log = c.rewrite_blob_pointer.new.self in
    let came = pinned_again g.D.Device.trace sum mid.log c.pin-guard.new.self log c.pin-guard.ensures.taken c.pin-guard.ensures.keeps c.rewrite_blob_pointer.ensures.same c.rewrite_blob_pointer.ensures.keeps in
    rewrite_does view sum old c.args.page c.give_back.new.opened c.give_back.result k at
    (failed_again view sum old mid k c.args.page c.room_for.ensures.room at none log came c.pin-guard.new.self c.pin-guard.ensures.taken
    c.in-Err-rewrite_blob_pointer.e c.in-Err-rewrite_blob_pointer.ensures.answers c.in-Err-rewrite_blob_pointer.ensures.err c.give_back.new.opened c.give_back.result c.give_back.ensures)

-- None asks anything of the device.
pub returns-in_default-clause-device : goal.returns-in_default-clause-device
returns-in_default-clause-device g c = λ stopped.
    let view = view_by g.D.Device.trace g.D.Device.faults stopped in
    let device = view (device_of c.args.opened.now.log) in
    refused_acts g.C.Checksum.sum_of (segment_size_of c.args.opened.now.log) device device refl (told.Rewrite c.args.page) why.Page

pub returns-in-Err-clause-device : goal.returns-in-Err-clause-device
returns-in-Err-clause-device g c = λ stopped.
    let view = view_by g.D.Device.trace g.D.Device.faults stopped in
    let old = c.args.opened.now in
    failed_still g.C.Checksum.sum_of (segment_size_of old.log) (view (device_of old.log)) (view (device_of c.room_for.new.opened.log)) (ap (λ (x : Log _ _). view (device_of x)) c.room_for.ensures.room.log)
    (told.Rewrite c.args.page) c.in-Err.e

pub returns-in-Ok-clause-device : goal.returns-in-Ok-clause-device
returns-in-Ok-clause-device g c = λ stopped.
    let view = view_by g.D.Device.trace g.D.Device.faults stopped in
    let old = c.args.opened.now in
    let new = c.hold.new.opened in
    let held = c.hold.ensures.held in
    let same : view (device_of new.log) ≡ view (device_of old.log) =
    ap (λ (x : Log _ _). view (device_of x)) held.log ∙ ap (λ (x : RunningConfig _ _). view x.device) c.rewrite_blob_pointer.ensures.same.config
    ∙ ap (λ (x : Log _ _). view (device_of x)) c.pin-guard.ensures.taken ∙ ap (λ (x : Log _ _). view (device_of x)) c.room_for.ensures.room.log in
    subst (λ (r : Reply). LogActs g.C.Checksum.sum_of (segment_size_of old.log) (told.Rewrite c.args.page) r (view (device_of old.log)) (view (device_of new.log))) (sym held.told)
    (rewritten_still g.C.Checksum.sum_of (segment_size_of old.log) (view (device_of old.log)) (view (device_of new.log)) same c.args.page _ _ _)

pub returns-in-Err-rewrite_blob_pointer-clause-device : goal.returns-in-Err-rewrite_blob_pointer-clause-device
returns-in-Err-rewrite_blob_pointer-clause-device g c = λ stopped.
    let view = view_by g.D.Device.trace g.D.Device.faults stopped in
    let old = c.args.opened.now in
    let new = c.give_back.new.opened in
    let gives = c.give_back.ensures in
    let same : view (device_of new.log) ≡ view (device_of old.log) =
    ap (λ (x : Opened _ _). view (device_of x.log)) gives.given ∙ ap (λ (x : RunningConfig _ _). view x.device) c.rewrite_blob_pointer.ensures.same.config
    ∙ ap (λ (x : Log _ _). view (device_of x)) c.pin-guard.ensures.taken ∙ ap (λ (x : Log _ _). view (device_of x)) c.room_for.ensures.room.log in
    subst (λ (r : Reply). LogActs g.C.Checksum.sum_of (segment_size_of old.log) (told.Rewrite c.args.page) r (view (device_of old.log)) (view (device_of new.log))) (sym gives.told)
    (failed_still g.C.Checksum.sum_of (segment_size_of old.log) (view (device_of old.log)) (view (device_of new.log)) same (told.Rewrite c.args.page) c.in-Err-rewrite_blob_pointer.e)
