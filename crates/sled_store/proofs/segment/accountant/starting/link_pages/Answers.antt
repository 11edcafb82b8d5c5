-- One more page is linked.
use Rattle.std.proofs.Common.{◌≡◌, ◌∙◌, ◌+◌, ◌<◌, ℕ, suc, List, ◌∷◌, length, map, drop, get_or, ap, sym, subst, arith, drop-cons}
use Rattle.std.proofs.lemmas.List.{length-map}
use Rattle.std.specs.List.{All}
use Rattle.sled_codec.specs.Snapshots.{Page, page_of}
use Rattle.sled_store.specs.Begin.{slot_of, entries_in}
use Rattle.sled_store.specs.SegmentStates.{SlotState}
use Rattle.sled_store.specs.Accounts.{slot_state}
use Rattle.sled_store.specs.inside.Starting.{entries_linked, pages_linked}
use Rattle.sled_store.proofs.Segments.FitLemmas.{mapped, placed_page}
use Rattle.sled_store.proofs.Accounts.StartPages.{count_kept, length_entries_linked}
use Rattle.sled_store.proofs.segment.accountant.starting.link_pages.Goals as goal

pub link_page-requires-clause-placed : goal.link_page-requires-clause-placed
link_page-requires-clause-placed c =
    let ps : List Page = map page_of c.args.pages.now in
    let p : Page = page_of c.index-pages-pid.result in
    let lt : c.loop-pid.pid < length ps = omega (arith, c.loop-pid-test.true, length-map c.args.pages.now page_of) in
    let is : p ≡ get_or ps c.loop-pid.pid p = mapped page_of c.args.pages.now c.loop-pid.pid c.index-pages-pid.result c.loop-pid-test.true c.index-pages-pid.is in
    subst (λ n. All (λ e. slot_of c.args.size e < n) (entries_in p)) (sym c.loop-pid.invariant.count) (placed_page (λ e. slot_of c.args.size e < length c.args.slots.now.items) ps c.loop-pid.pid p lt is c.requires.placed)

pub loop-pid-preserved : goal.loop-pid-preserved
loop-pid-preserved c =
    let ps : List Page = map page_of c.args.pages.now in
    let i : ℕ = c.loop-pid.pid in
    let p : Page = page_of c.index-pages-pid.result in
    let lt : i < length ps = omega (arith, c.loop-pid-test.true, length-map c.args.pages.now page_of) in
    let is : p ≡ get_or ps i p = mapped page_of c.args.pages.now i c.index-pages-pid.result c.loop-pid-test.true c.index-pages-pid.is in
    let size : ℕ = c.args.size in
    let states : List SlotState = map slot_state c.loop-pid.slots.items in
    let came : map slot_state c.link_page.new.slots.items ≡ entries_linked size i (entries_in p) states = c.in_ok-link_page.ensures.slots in
    let next : i + 1 ≡ suc i = omega arith in
    let split : drop i ps ≡ p ∷ drop (i + 1) ps = drop-cons ps i p lt ∙ ap (λ n. get_or ps i p ∷ drop n ps) (sym next) ∙ ap (λ (q : Page). q ∷ drop (i + 1) ps) (sym is) in
    record {
      slots = ap (pages_linked size (i + 1) (drop (i + 1) ps)) came ∙ ap (λ n. pages_linked size n (drop (i + 1) ps) (entries_linked size i (entries_in p) states)) next
          ∙ ap (λ l. pages_linked size i l states) (sym split) ∙ c.loop-pid.invariant.slots;
      count = count_kept c.link_page.new.slots.items c.loop-pid.slots.items (entries_linked size i (entries_in p) states) came (length_entries_linked size i (entries_in p) states) ∙ c.loop-pid.invariant.count;
      room = c.in_ok-link_page.ensures.room;
    }
