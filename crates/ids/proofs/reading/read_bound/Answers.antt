use Rattle.std.proofs.Common.{◌≡◌, Some, ◌∙◌, ap, List}
use Rattle.std.specs.List.{slice_get}
use Rattle.sled_codec.specs.declared.serialization.snapshot.PageState.{PageState}
use Rattle.sled_core.specs.Fits.{segment_size_of, synced_end}
use Rattle.sled_core.proofs.PublicLaws.{log_still, writing_still}
use Rattle.ids.specs.Readings.{file_of}
use Rattle.ids.proofs.FirstPlaces.{first_lies}
use Rattle.ids.proofs.FoundBounds.{answers_first, answers_zero}
use Rattle.ids.proofs.ReadLemmas.{bound_read, found_read, holds_read, known_more, last_read, none_found, page_read}
use Rattle.ids.proofs.reading.read_bound.Goals as goal

pub returns-in-None-clause-found : goal.returns-in-None-clause-found
returns-in-None-clause-found g c = λ H cut has. none_found g.D.Device.trace g.C.Checksum.sum_of c.args.log.now c.args.snapshot.now.pt.items H cut has
    (c.in-None.ensures.value ∙ ap (λ (ps : List PageState). slice_get ps 0) c.deref.ensures.value)

pub returns-in-None-clause-only : goal.returns-in-None-clause-only
returns-in-None-clause-only g c = writing_still g.D.Device.trace g.C.Checksum.sum_of c.args.log.now

pub returns-in-None-clause-kept : goal.returns-in-None-clause-kept
returns-in-None-clause-kept g c = λ idle. log_still g.D.Device.trace g.C.Checksum.sum_of c.args.log.now

pub returns-in-None-clause-bound : goal.returns-in-None-clause-bound
returns-in-None-clause-bound g c = answers_zero g.C.Checksum.sum_of (segment_size_of c.args.log.now) (file_of g.D.Device.trace c.args.log.now) c.args.snapshot.now.pt.items
    (c.in-None.ensures.value ∙ ap (λ (ps : List PageState). slice_get ps 0) c.deref.ensures.value)

-- The page has the bound of its last message.

pub returns-in-Some-clause-bound : goal.returns-in-Some-clause-bound
returns-in-Some-clause-bound g c =
    let first : Some c.in-Some.page.now ≡ slice_get c.args.snapshot.now.pt.items 0 = c.in-Some.ensures.value ∙ ap (λ (ps : List PageState). slice_get ps 0) c.deref.ensures.value in
    answers_first g.C.Checksum.sum_of (segment_size_of c.args.log.now) (file_of g.D.Device.trace c.read_page.new.log) c.args.snapshot.now.pt.items c.in-Some.page.now first c.read_page.result c.read_page.ensures.bound

pub returns-in-Some-clause-found : goal.returns-in-Some-clause-found
returns-in-Some-clause-found g c = λ H cut has.
    let trace = g.D.Device.trace in
    let sum = g.C.Checksum.sum_of in
    let log = c.args.log.now in
    let pages = c.args.snapshot.now.pt.items in
    let page = c.in-Some.page.now in
    let first : Some page ≡ slice_get pages 0 = c.in-Some.ensures.value ∙ ap (λ (ps : List PageState). slice_get ps 0) c.deref.ensures.value in
    found_read trace sum log pages H cut has page first c.read_page.result
    (c.read_page.ensures.number H (last_read trace sum log pages H cut has page first) cut (bound_read trace sum log pages H cut has page first) (holds_read trace sum log pages H cut has page first) (page_read trace sum log pages H cut has page first))

pub returns-in-Some-clause-errors : goal.returns-in-Some-clause-errors
returns-in-Some-clause-errors g c = λ H cut has.
    let trace = g.D.Device.trace in
    let sum = g.C.Checksum.sum_of in
    let log = c.args.log.now in
    let pages = c.args.snapshot.now.pt.items in
    let page = c.in-Some.page.now in
    let first : Some page ≡ slice_get pages 0 = c.in-Some.ensures.value ∙ ap (λ (ps : List PageState). slice_get ps 0) c.deref.ensures.value in
    c.read_page.ensures.errors H (last_read trace sum log pages H cut has page first) cut (bound_read trace sum log pages H cut has page first) (holds_read trace sum log pages H cut has page first) (page_read trace sum log pages H cut has page first)

pub returns-in-Some-clause-known : goal.returns-in-Some-clause-known
returns-in-Some-clause-known g c = λ idle.
    let first : Some c.in-Some.page.now ≡ slice_get c.args.snapshot.now.pt.items 0 = c.in-Some.ensures.value ∙ ap (λ (ps : List PageState). slice_get ps 0) c.deref.ensures.value in
    known_more _ _ c.read_page.result (first_lies (synced_end c.args.log.now) c.args.snapshot.now.pt.items c.in-Some.page.now first) (c.read_page.ensures.known idle)
