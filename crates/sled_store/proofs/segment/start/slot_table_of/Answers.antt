-- Where all is booked, a log can begin from the snapshot, and the book has the slots that are used.
use Rattle.std.proofs.Common.{◌≡◌, ◌∙◌, ◌++◌, ℕ, List, map, ap, sym, subst}
use Rattle.sled_codec.specs.Snapshots.{Page, SnapshotModel, model_of, page_of}
use Rattle.sled_store.specs.Begin.{entries_of}
use Rattle.sled_store.specs.SlotTables.{IsSlotTable, active_entry}
use Rattle.sled_store.proofs.Segments.StartLemmas.{startable_at, seen_there, placed_there, fit_there, used_there}
use Rattle.sled_store.proofs.segment.start.slot_table_of.Goals as goal

pub put_active-requires : goal.put_active-requires
put_active-requires c = c.new-table.ensures c.args.size

pub returns-in-Ok-put_pages-clause-startable : goal.returns-in-Ok-put_pages-clause-startable
returns-in-Ok-put_pages-clause-startable c =
    let s : SnapshotModel = model_of c.args.snapshot.now in
    let pages : List Page = map page_of c.deref.result.now in
    let pages_is : pages ≡ s.pages = ap (map page_of) c.deref.ensures.value in
    let booked = c.in-Ok-put_pages.ensures.ok _ c.in-Ok.ensures.ok in
    startable_at c.args.size c.args.len s c.slots_of.result c.stable_place.result pages c.slots_of.ensures c.stable_place.ensures.place pages_is
    (sym c.is_sound.ensures ∙ c.if-not-is_sound.false) c.in-Ok-put_pages.ensures.seen c.in-Ok.ensures.active c.in-Ok-put_pages.ensures.placed booked.fit

pub returns-in-Ok-put_pages-clause-used : goal.returns-in-Ok-put_pages-clause-used
returns-in-Ok-put_pages-clause-used c =
    let s : SnapshotModel = model_of c.args.snapshot.now in
    let pages : List Page = map page_of c.deref.result.now in
    let pages_is : pages ≡ s.pages = ap (map page_of) c.deref.ensures.value in
    let booked = c.in-Ok-put_pages.ensures.ok _ c.in-Ok.ensures.ok in
    used_there c.args.size c.args.len s c.slots_of.result c.stable_place.result pages c.slots_of.ensures c.stable_place.ensures.place pages_is c.put_pages.new.self booked

pub returns-in-Err-put_pages-clause-corrupt : goal.returns-in-Err-put_pages-clause-corrupt
returns-in-Err-put_pages-clause-corrupt c = λ corrupt may.
    let s : SnapshotModel = model_of c.args.snapshot.now in
    let pages : List Page = map page_of c.deref.result.now in
    let pages_is : pages ≡ s.pages = ap (map page_of) c.deref.ensures.value in
    let slots : ℕ = c.slots_of.result in
    let stable : ℕ = c.stable_place.result in
    c.in-Err-put_pages.ensures.corrupt _ c.in-Ok.ensures.ok corrupt
    (seen_there c.args.size c.args.len s slots stable pages c.slots_of.ensures c.stable_place.ensures.place pages_is may)
    (placed_there c.args.size c.args.len s slots stable pages c.slots_of.ensures c.stable_place.ensures.place pages_is may)
    (fit_there c.args.size c.args.len s slots stable pages c.slots_of.ensures c.stable_place.ensures.place pages_is may)

pub returns-in-Ok-put_pages-clause-table : goal.returns-in-Ok-put_pages-clause-table
returns-in-Ok-put_pages-clause-table c =
    let s : SnapshotModel = model_of c.args.snapshot.now in
    let pages_is : map page_of c.deref.result.now ≡ s.pages = ap (map page_of) c.deref.ensures.value in
    subst (λ (n : ℕ). IsSlotTable c.args.size c.put_pages.new.self (active_entry n s.active ++ entries_of s.pages)) c.stable_place.ensures.place
    (subst (λ (ps : List Page). IsSlotTable c.args.size c.put_pages.new.self (active_entry c.stable_place.result s.active ++ entries_of ps)) pages_is (c.in-Ok-put_pages.ensures.ok _ c.in-Ok.ensures.ok))
