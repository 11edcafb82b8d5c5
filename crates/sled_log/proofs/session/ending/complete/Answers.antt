-- The message of a ticket is completed and marked.
use Rattle.std.proofs.Common.{Bool, ◌≡◌, ◌≢◌, ◌∙◌, ap, sym, subst, refl, ◌<◌, ℕ, List, is_err, None, Some, Err, map, ℤ}
use Rattle.sled_codec.specs.History.{Message}
use Rattle.sled_codec.specs.Snapshots.{Entry, page_of}
use Rattle.std.specs.List.{slice_get}
use Rattle.std.specs.Int.{w64, cast_signed, cast_unsigned}
use Rattle.std.proofs.lemmas.Bool.{false≢true}
use Rattle.sled_store.specs.Marks.{told_of}
use Rattle.sled_core.specs.Fits.{Awaits, KeepsAll, KeepsBuffers, device_of, fault_of, given_up_of, machine_at, open_places, pins_of, segment_size_of}
use Rattle.sled_core.specs.Among.{AreAmong}
use Rattle.sled_core.specs.Keeps.{SamePosition}
use Rattle.sled_core.specs.Manifests.{manifest_page}
use Rattle.sled_core.specs.OpenPlaces.{TakesOut}
use Rattle.sled_core.specs.invariants.Running.{Fits}
use Rattle.sled_core.specs.Causes.{FaultAnswers}
use Rattle.sled_core.proofs.PublicLaws.{awaited, awaited_small, fits_holds, place_back}
use Rattle.sled_codec.specs.declared.result.DiskPtr.{DiskPtr}
use Rattle.sled_codec.specs.declared.result.Error.TheVariants as error
use Rattle.sled_store.specs.declared.config.RunningConfig.{RunningConfig}
use Rattle.sled_core.specs.declared.logger.Log.{Log}
use Rattle.sled_log.specs.declared.session.command.Refusal.TheVariants as why
use Rattle.sled_log.specs.declared.session.command.Command.TheVariants.{Complete}
use Rattle.sled_log.specs.declared.session.marking.Due.{Due}
use Rattle.sled_log.specs.declared.session.opened.Opened.{Opened}
use Rattle.sled_log.specs.declared.session.tickets.Ticket.{Ticket}
use Rattle.sled_log.specs.declared.session.Phase.TheVariants.{Open}
use Rattle.sled_log.specs.Endings.{HasRoomFor, HasRoomToApply, TakesTicket, applied_to}
use Rattle.sled_log.specs.Refusals.{refusal_for}
use Rattle.sled_log.specs.RunPhases.{IsOpenAt, IsSafe, Unstored, stands, traces, view_by}
use Rattle.sled_log.specs.RunStates.{DeviceView}
use Rattle.sled_log.specs.SessionMarks.{replacing, told_state}
use Rattle.sled_log.proofs.Sessions.BegunHeads.{HasNoOther}
use Rattle.sled_log.proofs.Sessions.EndedTickets.{awaits_it, back_from, complete_fails, completes, does_back, is_message, is_pinned, message_open, room_does, room_fails, room_open, takes_it}
use Rattle.sled_log.proofs.Sessions.OpenApart.{joins_named, none_there}
use Rattle.sled_log.proofs.Sessions.RunLemmas.{on_failure, on_success}
use Rattle.sled_log.proofs.Sessions.SafeItems.{safe_on}
use Rattle.sled_log.proofs.session.ending.complete.Given.{Over}
use Rattle.sled_log.proofs.session.ending.complete.Goals.{In-Some}
use Rattle.sled_log.proofs.session.ending.complete.Goals as goal
use Rattle.sled_log.proofs.Sessions.LogActs.{completed_still, failed_still, refused_acts}

-- how a run sees a device
abbrev seen_by : (g : Over) → (g.row.D.Denot → Bool) → g.row.D.Denot → DeviceView
seen_by g stopped = view_by g.D.Device.trace g.D.Device.faults stopped

pub returns-then-is_err-clause-step : goal.returns-then-is_err-clause-step
returns-then-is_err-clause-step g c = λ stopped. λ none k at asked.
    room_fails (seen_by g stopped) g.C.Checksum.sum_of c.args.opened.now c.room_for.new.opened c.room_for.ensures.kept k c.args.number (on_failure c.room_for.result _ (sym c.is_err.ensures.value ∙ c.if-is_err.true) c.room_for.ensures.whole) at

-- The list of what it takes the place of found no memory.
pub returns-in_default-clause-step : goal.returns-in_default-clause-step
returns-in_default-clause-step g c = λ stopped. λ none k at asked.
    room_fails (seen_by g stopped) g.C.Checksum.sum_of c.args.opened.now c.room_for.new.opened c.room_for.ensures.kept k c.args.number
    (sym (ap (λ x. fault_of x) c.room_for.ensures.kept.log) ∙ on_failure c.former_for.result _ (ap is_err c.in_default.is) c.former_for.ensures.whole) at

pub returns-in_default-take_open-clause-step : goal.returns-in_default-take_open-clause-step
returns-in_default-take_open-clause-step g c = λ stopped. λ none k at asked.
    let sum = g.C.Checksum.sum_of in
    let given = c.args.opened.now in
    let old = c.room_for.new.opened in
    let its = message_open (seen_by g stopped given.log.config.device).is_stopped c.args.number k.tickets asked in
    let roomy = room_open (seen_by g stopped) sum given old c.room_for.ensures.kept k at in
    absurd (c.in_default-take_open.not-Some _ (takes_it (seen_by g stopped) sum old k roomy c.args.number its.0 its.1 c.take_open.new.opened c.take_open.result c.take_open.ensures))

-- The ticket was taken.
module _ (g : Over) (c : In-Some g) where
  abbrev sum : List ℕ → ℕ
  sum = g.C.Checksum.sum_of

  abbrev old : Opened g.row.D.Denot g.row.C.Denot
  old = c.room_for.new.opened

  abbrev mid : Opened g.row.D.Denot g.row.C.Denot
  mid = c.take_open.new.opened

  abbrev ticket : Ticket
  ticket = c.in-Some.field-0

  takes : TakesTicket old c.args.number mid (Some ticket)
  takes = subst (TakesTicket old c.args.number mid) c.in-Some.is c.take_open.ensures

  module _ (stopped : g.row.D.Denot → Bool) (k : Unstored) (at : IsOpenAt (traces (seen_by g stopped)) sum c.args.opened.now k) (asked : refusal_for (stands (seen_by g stopped) (Open c.args.opened.now) k) (Complete c.args.number) ≡ None) where
    -- it was open, for a message that is no manifest
    its : (m : Message) × (slice_get k.tickets c.args.number ≡ Some (Some m)) × (m.page ≢ manifest_page)
    its = message_open (seen_by g stopped c.args.opened.now.log.config.device).is_stopped c.args.number k.tickets asked

    -- only room was made before
    roomy : IsOpenAt (traces (seen_by g stopped)) sum old k
    roomy = room_open (seen_by g stopped) sum c.args.opened.now old c.room_for.ensures.kept k at

-- A manifest's ticket was refused before.
pub returns-then-is_manifest-clause-step : goal.returns-then-is_manifest-clause-step
returns-then-is_manifest-clause-step g c = λ stopped. λ none k at asked.
    let taken = (goal.at.returns-then-is_manifest-clause-step g c).In-Some in
    let one = its g taken stopped k at asked in
    absurd (false≢true (sym (is_message (seen_by g stopped) (sum g taken) (old g taken) k (roomy g taken stopped k at asked) c.args.number one.0 one.1 (mid g taken) (ticket g taken) (takes g taken) one.2) ∙ sym c.is_manifest.ensures ∙ c.if-is_manifest.true))

pub apply-requires : goal.apply-requires
apply-requires g c =
    let took = takes g (goal.at.apply-requires g c).In-Some in
    let old = c.room_for.new.opened in
    let whole : fault_of c.args.opened.now.log ≡ None = sym (ap (λ x. fault_of x) c.room_for.ensures.kept.log) ∙ sym (ap (λ x. fault_of x) took.log) ∙ c.in-Ok-complete.ensures.answers in
    let room : HasRoomFor old c.args.number = on_success c.room_for.result _ (sym c.is_err.ensures.value ∙ c.if-is_err.false) c.room_for.ensures.room whole in
    subst (λ x. HasRoomToApply x c.in-Some.field-0.kind c.in-Some.field-0.page) (sym took.pages) (room c.in-Some.field-0 took.there)

pub returns-in-Err-clause-step : goal.returns-in-Err-clause-step
returns-in-Err-clause-step g c = λ stopped. λ none k at asked.
    let taken = (goal.at.returns-in-Err-clause-step g c).In-Some in
    let view = seen_by g stopped in
    let sum = g.C.Checksum.sum_of in
    let given = c.args.opened.now in
    let old = c.room_for.new.opened in
    let mid = c.take_open.new.opened in
    let new = c.complete.new.self in
    let one = its g taken stopped k at asked in
    let open_there = roomy g taken stopped k at asked in
    let none_due = c.room_for.ensures.kept.due ∙ none in
    let took = takes g taken in
    let back = c.unpin.ensures in
    room_does view sum given old c.room_for.ensures.kept k c.args.number _
    (does_back view sum old k open_there c.args.number one.0 one.1 mid c.in-Some.field-0 took none_due new mid.pages c.unpin.new.log back.given _ _
    (complete_fails view sum old k open_there c.args.number one.0 one.1 mid c.in-Some.field-0 took none_due new mid.pages
    (back_from view sum old k open_there c.args.number one.0 one.1 mid c.in-Some.field-0 took none_due new mid.pages c.unpin.new.log back.given back.fits) (ℤ × DiskPtr) c.in-Err.e
    (subst (λ x. FaultAnswers {T = ℤ × DiskPtr} (Err c.in-Err.e) (fault_of x)) took.log c.in-Err.ensures.answers) (c.in-Err.ensures.err ∙ took.log) (ap (λ x. map page_of x.items) took.pages)))

pub returns-in-Ok-complete-clause-step : goal.returns-in-Ok-complete-clause-step
returns-in-Ok-complete-clause-step g c = λ stopped. λ none k at asked.
    let taken = (goal.at.returns-in-Ok-complete-clause-step g c).In-Some in
    let view = seen_by g stopped in
    let sum = g.C.Checksum.sum_of in
    let trace = g.D.Device.trace in
    let given = c.args.opened.now in
    let old = c.room_for.new.opened in
    let mid = c.take_open.new.opened in
    let new = c.complete.new.self in
    let one = its g taken stopped k at asked in
    let open_there = roomy g taken stopped k at asked in
    let none_due = c.room_for.ensures.kept.due ∙ none in
    let took = takes g taken in
    let ticket = c.in-Some.field-0.reservation in
    let m = one.0 in
    let fits : Fits trace sum mid.log k.history k.acknowledged k.floor open_there.unmarked = subst (λ x. Fits trace sum x k.history k.acknowledged k.floor open_there.unmarked) (sym took.log) open_there.fits in
    let awaits : Awaits old.log ticket m = awaits_it view sum old k open_there c.args.number m one.1 mid c.in-Some.field-0 took in
    let awaits_mid : Awaits mid.log ticket m = subst (λ x. Awaits x ticket m) (sym took.log) awaits in
    let says = awaited old.log ticket m awaits in
    let done = c.in-Ok-complete.ensures in
    let small = awaited_small old.log ticket m awaits in
    let pinned : 0 < pins_of mid.log = subst (λ x. 0 < pins_of x) (sym took.log) (is_pinned view sum old k open_there c.args.number m one.1) in
    let safe : IsSafe trace sum mid.log m = subst (λ x. IsSafe trace sum x m) (sym took.log) (open_there.tickets.each c.args.number m one.1).stored in
    let stored = safe done.answers in
    let joins = (open_there.tickets.each c.args.number m one.1).joins one.2 in
    let message = is_message view sum old k open_there c.args.number m one.1 mid c.in-Some.field-0 took one.2 in
    let may = joins_named k.history m m.pointer (none_there trace sum mid.log k.history (fits_holds trace sum mid.log k.history k.acknowledged k.floor open_there.unmarked fits) ticket m awaits_mid message) open_there.made joins.blob in
    let gives = done.fits k.history k.acknowledged k.floor open_there.unmarked m fits awaits_mid stored may pinned in
    let place = place_back c.in-Ok-complete.place m.place (done.place.0 ∙ sym says.0) small in
    let pointer : c.in-Ok-complete.pointer ≡ m.pointer = done.place.1 ∙ sym says.1 in
    let size : c.reservation_len-size.result ≡ m.size = c.reservation_len-size.ensures ∙ sym says.2 in
    let entry : Entry = (cast_signed w64 (cast_unsigned w64 c.in-Ok-complete.place), c.in-Ok-complete.pointer, c.reservation_len-size.result) in
    let same : KeepsAll old.log new = subst (λ x. KeepsAll x new) took.log c.complete.ensures.same in
    let whole : fault_of old.log ≡ None = sym (ap (λ x. fault_of x) took.log) ∙ done.answers in
    let due : Due = c.for_entry-due.result in
    let made = c.for_entry-due.ensures in
    let told : due.old.items ≡ replacing c.in-Some.field-0.kind (told_state old.origin.size old.origin.floor c.in-Some.field-0.page (slice_get old.pages.items c.in-Some.field-0.page)) = ap (λ (d : Due). d.old.items) made ∙ c.in-Ok.ensures.former whole c.in-Some.field-0 took.there in
    room_does view sum given old c.room_for.ensures.kept k c.args.number _
    (completes view sum old k open_there c.args.number m one.1 mid c.in-Some.field-0 took none_due new c.apply.new.pages
    (record { synced = same.synced; noted = same.noted; pins = same.pins; account = same.account }) same.fault (c.complete.ensures.ends.machine ∙ ap (λ x. machine_at x) took.log)
    (subst (λ x. SamePosition x new) took.log c.complete.ensures.ends.position) (subst (λ x. KeepsBuffers x new) took.log c.complete.ensures.ends.buffers) whole
    (λ t x holds ne. c.complete.ensures.ends.others k.history t x (fits_holds trace sum mid.log k.history k.acknowledged k.floor open_there.unmarked fits) (subst (λ y. Awaits y t x) (sym took.log) holds) ne)
    (λ j x apart had. safe_on trace sum mid.log new x c.complete.ensures.goes_on (subst (λ y. IsSafe trace sum y x) (sym took.log) had.stored))
    (subst (λ x. TakesOut m.place (open_places x) (open_places new)) took.log (done.ends.opens m.place says.0))
    same.config (subst (λ x. AreAmong (given_up_of new) (given_up_of x)) took.log c.complete.ensures.given_up) (subst (λ x. HasNoOther x new) took.log (record { heads = c.complete.ensures.ends.heads; fillings = c.complete.ensures.ends.fillings })) one.2 _ c.in-Ok-complete.pointer (sym place, pointer) gives.0 gives.1 gives.2 entry (λ i. (sym place i, pointer i, size i))
    (c.apply.ensures ∙ ap (λ x. applied_to (map page_of x.items) c.in-Some.field-0.kind c.in-Some.field-0.page entry) took.pages)
    due (ap (λ (d : Due). d.kind) made) (ap (λ (d : Due). d.page) made) (ap (λ (d : Due). d.new) made) told
    c.settle.new.opened c.settle.result c.settle.ensures.rest c.settle.ensures.beside c.settle.ensures.settles)

-- None asks anything of the device.
pub returns-then-is_err-clause-device : goal.returns-then-is_err-clause-device
returns-then-is_err-clause-device g c = λ stopped.
    let view = seen_by g stopped in
    let old = c.args.opened.now.log in
    failed_still g.C.Checksum.sum_of (segment_size_of old) (view (device_of old)) _ (ap (λ (x : Log _ _). view (device_of x)) c.room_for.ensures.kept.log) (Complete c.args.number) error.OutOfMemory

pub returns-in_default-clause-device : goal.returns-in_default-clause-device
returns-in_default-clause-device g c = λ stopped.
    let view = seen_by g stopped in
    let old = c.args.opened.now.log in
    failed_still g.C.Checksum.sum_of (segment_size_of old) (view (device_of old)) _ (ap (λ (x : Log _ _). view (device_of x)) c.room_for.ensures.kept.log) (Complete c.args.number) error.OutOfMemory

pub returns-in_default-take_open-clause-device : goal.returns-in_default-take_open-clause-device
returns-in_default-take_open-clause-device g c = λ stopped.
    let view = seen_by g stopped in
    let old = c.args.opened.now.log in
    refused_acts g.C.Checksum.sum_of (segment_size_of old) (view (device_of old)) _
    (ap (λ (x : Log _ _). view (device_of x)) c.take_open.ensures.log ∙ ap (λ (x : Log _ _). view (device_of x)) c.room_for.ensures.kept.log) (Complete c.args.number) why.Ticket

pub returns-then-is_manifest-clause-device : goal.returns-then-is_manifest-clause-device
returns-then-is_manifest-clause-device g c = λ stopped.
    let view = seen_by g stopped in
    let old = c.args.opened.now.log in
    refused_acts g.C.Checksum.sum_of (segment_size_of old) (view (device_of old)) _
    (ap (λ (x : Log _ _). view (device_of x)) c.take_open.ensures.log ∙ ap (λ (x : Log _ _). view (device_of x)) c.room_for.ensures.kept.log) (Complete c.args.number) why.Ticket

pub returns-in-Err-clause-device : goal.returns-in-Err-clause-device
returns-in-Err-clause-device g c = λ stopped.
    let view = seen_by g stopped in
    let old = c.args.opened.now.log in
    failed_still g.C.Checksum.sum_of (segment_size_of old) (view (device_of old)) _
    (ap (λ (x : Log _ _). view (device_of x)) c.unpin.ensures.given ∙ ap (λ (x : Log _ _). view (device_of x)) c.in-Err.ensures.err
    ∙ ap (λ (x : Log _ _). view (device_of x)) c.take_open.ensures.log ∙ ap (λ (x : Log _ _). view (device_of x)) c.room_for.ensures.kept.log) (Complete c.args.number) c.in-Err.e

pub returns-in-Ok-complete-clause-device : goal.returns-in-Ok-complete-clause-device
returns-in-Ok-complete-clause-device g c = λ stopped.
    let view = seen_by g stopped in
    let old = c.args.opened.now.log in
    completed_still g.C.Checksum.sum_of (segment_size_of old) (view (device_of old)) _
    (ap (λ (x : RunningConfig _ _). view x.device) c.settle.ensures.beside.config ∙ ap (λ (x : RunningConfig _ _). view x.device) c.complete.ensures.same.config
    ∙ ap (λ (x : Log _ _). view (device_of x)) c.take_open.ensures.log ∙ ap (λ (x : Log _ _). view (device_of x)) c.room_for.ensures.kept.log) c.args.number _ _
