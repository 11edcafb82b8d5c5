-- The entries of all pages are booked, or one of them can't be.
use Rattle.std.proofs.Common.{◌≡◌, ◌≢◌, ◌∙◌, ◌+◌, ◌<◌, ◌++◌, ℕ, List, length, map, take, get_or, ap, sym, subst, arith, append_assoc, take_all}
use Rattle.std.proofs.lemmas.List.{length-map}
use Rattle.std.proofs.lemmas.List.Elements.{All-append}
use Rattle.std.specs.List.{All}
use Rattle.sled_codec.specs.Snapshots.{Entry, Page, Uninitialized, page_of}
use Rattle.sled_store.specs.Begin.{IsPlacedIn, entries_in, entries_of}
use Rattle.sled_store.specs.SlotTables.{IsSlotTable}
use Rattle.sled_store.proofs.Segments.FitLemmas.{all_at, all_one, mapped, placed_page, entries_one, fit_page}
use Rattle.sled_store.proofs.segment.slot_table.SlotTable.put_pages.Goals as goal

pub returns-in-Err-clause-corrupt : goal.returns-in-Err-clause-corrupt
returns-in-Err-clause-corrupt c = λ es booked corrupt seen placed fit.
    let ps : List Page = map page_of c.args.pages.now in
    let i : ℕ = c.loop-page.page-index in
    let p : Page = page_of c.page-item.result in
    let lt : i < length ps = omega (arith, c.loop-page-test.true, length-map c.args.pages.now page_of) in
    let is : p ≡ get_or ps i p = mapped page_of c.args.pages.now i c.page-item.result c.loop-page-test.true c.page-item.is in
    let size : ℕ = c.args.limits.size in
    c.in-Err.ensures.corrupt (es ++ entries_of (take i ps)) (c.loop-page.invariant.booked es booked) corrupt (all_at (λ q. q ≢ Uninitialized) ps i p lt is seen)
    (placed_page (IsPlacedIn size c.args.limits.slots c.args.limits.stable) ps i p lt is placed) (fit_page size es ps i p lt is fit)

pub loop-page-preserved : goal.loop-page-preserved
loop-page-preserved c =
    let ps : List Page = map page_of c.args.pages.now in
    let i : ℕ = c.loop-page.page-index in
    let p : Page = page_of c.page-item.result in
    let lt : i < length ps = omega (arith, c.loop-page-test.true, length-map c.args.pages.now page_of) in
    let is : p ≡ get_or ps i p = mapped page_of c.args.pages.now i c.page-item.result c.loop-page-test.true c.page-item.is in
    let size : ℕ = c.args.limits.size in
    let P : Entry → Type 0 = IsPlacedIn size c.args.limits.slots c.args.limits.stable in
    let one : entries_of (take (i + 1) ps) ≡ entries_of (take i ps) ++ entries_in p = entries_one ps i p lt is in
    record {
      booked = λ es booked.
          let more : es ++ entries_of (take i ps) ++ entries_in p ≡ es ++ entries_of (take (i + 1) ps) = append_assoc es (entries_of (take i ps)) (entries_in p) ∙ ap (λ (l : List Entry). es ++ l) (sym one) in
          subst (IsSlotTable size c.put_page.new.self) more (c.in-Ok.ensures.ok (es ++ entries_of (take i ps)) (c.loop-page.invariant.booked es booked));
      placed = subst (All P) (sym one) (All-append P (entries_of (take i ps)) (entries_in p) c.loop-page.invariant.placed c.in-Ok.ensures.placed);
      seen = all_one (λ q. q ≢ Uninitialized) ps i p lt is c.loop-page.invariant.seen c.in-Ok.ensures.seen;
    }

pub returns-clause-ok : goal.returns-clause-ok
returns-clause-ok c = λ es booked.
    let ps : List Page = map page_of c.args.pages.now in
    let end : take c.loop-page.page-index ps ≡ ps = take_all c.loop-page.page-index ps (omega (arith, c.loop-page-test.false, length-map c.args.pages.now page_of)) in
    subst (λ (l : List Page). IsSlotTable c.args.limits.size c.loop-page.self (es ++ entries_of l)) end (c.loop-page.invariant.booked es booked)

pub returns-clause-placed : goal.returns-clause-placed
returns-clause-placed c =
    let ps : List Page = map page_of c.args.pages.now in
    let end : take c.loop-page.page-index ps ≡ ps = take_all c.loop-page.page-index ps (omega (arith, c.loop-page-test.false, length-map c.args.pages.now page_of)) in
    subst (λ (l : List Page). All (IsPlacedIn c.args.limits.size c.args.limits.slots c.args.limits.stable) (entries_of l)) end c.loop-page.invariant.placed

pub returns-clause-seen : goal.returns-clause-seen
returns-clause-seen c =
    let ps : List Page = map page_of c.args.pages.now in
    let end : take c.loop-page.page-index ps ≡ ps = take_all c.loop-page.page-index ps (omega (arith, c.loop-page-test.false, length-map c.args.pages.now page_of)) in
    subst (All (λ q. q ≢ Uninitialized)) end c.loop-page.invariant.seen
