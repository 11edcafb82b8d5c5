-- The messages of a page that is present are read, and of one that was given back nothing is. A page that isn't refused is one of these.
use Rattle.std.proofs.Common.{◌<◌, ◌∷◌, List, length, map, arith, subst, ap, refl, Err, Ok}
use Rattle.std.proofs.lemmas.List.{length-map}
use Rattle.sled_codec.specs.declared.serialization.snapshot.PageState.{PageState}
use Rattle.sled_codec.specs.Snapshots.{Entry, Free, Page, Present, Uninitialized, page_of}
use Rattle.sled_core.specs.Fits.{device_of, segment_size_of}
use Rattle.sled_log.specs.declared.session.command.Command.TheVariants as told
use Rattle.sled_log.specs.declared.session.command.Refusal.TheVariants as why
use Rattle.sled_log.specs.Readings.{ReadsEntries}
use Rattle.sled_log.specs.RunPhases.{view_by}
use Rattle.sled_log.proofs.Sessions.MadePages.{page_free, page_not_nothing}
use Rattle.sled_log.proofs.Sessions.Reading.{open_still, page_found, page_read, read_with}
use Rattle.sled_log.proofs.Sessions.Within.{untouched}
use Rattle.sled_log.proofs.session.reading.read.Goals as goal
use Rattle.sled_log.proofs.Sessions.LogActs.{free_still, page_acts, read_failed_acts, refused_acts}

-- src/session/reading.rt:20:1
pub returns-in-Ok-clause-step : goal.returns-in-Ok-clause-step
returns-in-Ok-clause-step g c = λ stopped. λ none k at free.
    let view = view_by g.D.Device.trace g.D.Device.faults stopped in
    let sum = g.C.Checksum.sum_of in
    let opened = c.args.opened.now in
    let new = c.read_entries.new.log in
    let base : Entry = c.in-Present.base in
    let frags : List Entry = c.in-Present.frags.items in
    let look = c.in-Some.ensures.lookup in
    let has = page_found opened.pages.items c.deref.result.now c.args.page c.in-Some.state.now (Present base frags) c.deref.ensures.value look.3.0 look.1 (ap page_of c.in-Present.is) in
    let reads = subst (λ l. ReadsEntries view sum opened.log c.args.page (base ∷ l) new (Ok c.in-Ok.items)) c.deref-in-Present.ensures.value (c.in-Ok.ensures.reads stopped) in
    let read = page_read view sum opened c.args.page k at none new base frags (Ok c.in-Ok.items) has reads in
    record {
      not_refused = refl;
      next = read_with view sum opened c.args.page k at none new base frags (Ok c.in-Ok.items) has reads read.0;
      step = read.2;
      at = λ own. open_still view sum opened c.args.page k at none new base frags (Ok c.in-Ok.items) has reads;
      crash = λ own. reads.only.preserves.goes_on.crash k.history k.acknowledged k.floor at.unmarked at.fits;
    }

-- src/session/reading.rt:20:1
pub returns-in-Err-clause-step : goal.returns-in-Err-clause-step
returns-in-Err-clause-step g c = λ stopped. λ none k at free.
    let view = view_by g.D.Device.trace g.D.Device.faults stopped in
    let sum = g.C.Checksum.sum_of in
    let opened = c.args.opened.now in
    let new = c.read_entries.new.log in
    let base : Entry = c.in-Present.base in
    let frags : List Entry = c.in-Present.frags.items in
    let look = c.in-Some.ensures.lookup in
    let has = page_found opened.pages.items c.deref.result.now c.args.page c.in-Some.state.now (Present base frags) c.deref.ensures.value look.3.0 look.1 (ap page_of c.in-Present.is) in
    let reads = subst (λ l. ReadsEntries view sum opened.log c.args.page (base ∷ l) new (Err c.in-Err.e)) c.deref-in-Present.ensures.value (c.in-Err.ensures.reads stopped) in
    let read = page_read view sum opened c.args.page k at none new base frags (Err c.in-Err.e) has reads in
    record {
      not_refused = refl;
      next = read_with view sum opened c.args.page k at none new base frags (Err c.in-Err.e) has reads read.0;
      step = read.2;
      at = λ own. open_still view sum opened c.args.page k at none new base frags (Err c.in-Err.e) has reads;
      crash = λ own. reads.only.preserves.goes_on.crash k.history k.acknowledged k.floor at.unmarked at.fits;
    }

-- src/session/reading.rt:20:1
pub returns-in-Free-clause-step : goal.returns-in-Free-clause-step
returns-in-Free-clause-step g c = λ stopped. λ none k at free.
    let opened = c.args.opened.now in
    let look = c.in-Some.ensures.lookup in
    let page : Page = Free c.in-Free.field-0 c.in-Free.field-1 in
    let has = page_found opened.pages.items c.deref.result.now c.args.page c.in-Some.state.now page c.deref.ensures.value look.3.0 look.1 (ap page_of c.in-Free.is) in
    let freed = page_free k.history (map page_of opened.pages.items) c.args.page c.in-Free.field-0 c.in-Free.field-1 at.made at.table has in
    record {
      not_refused = refl;
      next = k;
      step = ((freed.message, freed.are, freed.frees), refl, refl);
      at = λ own. at;
      crash = λ own. untouched g.D.Device.trace g.C.Checksum.sum_of opened k at _ refl;
    }

-- src/session/reading.rt:20:1
pub returns-in-Uninitialized-clause-step : goal.returns-in-Uninitialized-clause-step
returns-in-Uninitialized-clause-step g c = λ stopped. λ none k at free.
    let opened = c.args.opened.now in
    let look = c.in-Some.ensures.lookup in
    let has = page_found opened.pages.items c.deref.result.now c.args.page c.in-Some.state.now Uninitialized c.deref.ensures.value look.3.0 look.1 (ap page_of c.in-Uninitialized.is) in
    let within : c.args.page < length (map page_of opened.pages.items) =
    let count = length-map opened.pages.items page_of in let same = ap (λ (l : List PageState). length l) c.deref.ensures.value in let lt = look.3.0 in omega (arith, lt, count, same) in
    absurd (page_not_nothing k.history (map page_of opened.pages.items) c.args.page at.made at.table within has)

-- What each does to the device.
pub returns-in_default-clause-device : goal.returns-in_default-clause-device
returns-in_default-clause-device g c = λ stopped.
    let view = view_by g.D.Device.trace g.D.Device.faults stopped in
    let log = c.args.opened.now.log in
    refused_acts g.C.Checksum.sum_of (segment_size_of log) (view (device_of log)) (view (device_of log)) refl (told.Read c.args.page) why.Page

pub returns-in-Ok-clause-device : goal.returns-in-Ok-clause-device
returns-in-Ok-clause-device g c = λ stopped.
    let view = view_by g.D.Device.trace g.D.Device.faults stopped in
    page_acts view g.C.Checksum.sum_of c.args.opened.now.log c.args.page c.read_entries.new.log c.in-Ok.items (c.in-Ok.ensures.device stopped)

pub returns-in-Err-clause-device : goal.returns-in-Err-clause-device
returns-in-Err-clause-device g c = λ stopped.
    let view = view_by g.D.Device.trace g.D.Device.faults stopped in
    let old = c.args.opened.now.log in
    let came = c.in-Err.ensures.device stopped in
    read_failed_acts g.C.Checksum.sum_of (segment_size_of old) (view (device_of old)) (view (device_of c.read_entries.new.log)) came.1 c.args.page c.in-Err.e came.0

pub returns-in-Free-clause-device : goal.returns-in-Free-clause-device
returns-in-Free-clause-device g c = λ stopped.
    let view = view_by g.D.Device.trace g.D.Device.faults stopped in
    let log = c.args.opened.now.log in
    free_still g.C.Checksum.sum_of (segment_size_of log) (view (device_of log)) (view (device_of log)) refl c.args.page

pub returns-in-Uninitialized-clause-device : goal.returns-in-Uninitialized-clause-device
returns-in-Uninitialized-clause-device g c = λ stopped.
    let view = view_by g.D.Device.trace g.D.Device.faults stopped in
    let log = c.args.opened.now.log in
    refused_acts g.C.Checksum.sum_of (segment_size_of log) (view (device_of log)) (view (device_of log)) refl (told.Read c.args.page) why.Page
