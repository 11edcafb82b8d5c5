-- The entries of a page lie in slots.
use Rattle.std.proofs.Common.{◌≡◌, ◌<◌, [], ℕ, length, map, sym, subst, length-set}
use Rattle.std.specs.List.{All}
use Rattle.std.proofs.lemmas.List.Elements.{All-head, All-tail}
use Rattle.sled_codec.specs.declared.serialization.snapshot.PageState.{PageState}
use Rattle.sled_codec.specs.Snapshots.{Entry, page_of}
use Rattle.sled_store.specs.Begin.{slot_of, entries_in}
use Rattle.sled_store.specs.Accounts.{slot_state}
use Rattle.sled_store.proofs.Accounts.StartPages.{count_kept}
use Rattle.sled_store.proofs.segment.accountant.starting.link_page.Goals as goal

pub link-requires-clause-placed : goal.link-requires-clause-placed
link-requires-clause-placed c =
    let P : Entry → Type 0 = λ e. slot_of c.args.size e < length c.args.slots.now.items in
    All-head P c.in-Present.base c.in-Present.frags.items (subst (λ (s : PageState). All P (entries_in (page_of s))) c.in-Present.is c.requires.placed)

pub link_all-requires-clause-placed : goal.link_all-requires-clause-placed
link_all-requires-clause-placed c =
    let size : ℕ = c.args.size in
    let P : Entry → Type 0 = λ e. slot_of size e < length c.args.slots.now.items in
    let frags : All P c.in-Present.frags.items = All-tail P c.in-Present.base c.in-Present.frags.items (subst (λ (s : PageState). All P (entries_in (page_of s))) c.in-Present.is c.requires.placed) in
    let count : length c.link.new.slots.items ≡ length c.args.slots.now.items =
    count_kept c.link.new.slots.items c.args.slots.now.items _ c.in_ok-link-in-Present.ensures.slots (length-set (map slot_state c.args.slots.now.items) (slot_of size c.in-Present.base) _) in
    subst (λ n. All (λ e. slot_of size e < n) c.deref.result.now) (sym count) (subst (All P) (sym c.deref.ensures.value) frags)

pub link-requires-in-Free-clause-placed : goal.link-requires-in-Free-clause-placed
link-requires-in-Free-clause-placed c =
    let P : Entry → Type 0 = λ e. slot_of c.args.size e < length c.args.slots.now.items in
    All-head P (c.in-Free.place, c.in-Free.pointer, 32) [] (subst (λ (s : PageState). All P (entries_in (page_of s))) c.in-Free.is c.requires.placed)
