-- One slot changes: it is linked.
use Rattle.std.proofs.Common.{◌≡◌, ◌∙◌, ◌/◌, ◌<◌, ℕ, List, length, map, set, get_or, ap, sym, subst}
use Rattle.sled_store.specs.Begin.{slot_of}
use Rattle.sled_store.specs.SegmentStates.{linked_slot, free_slot}
use Rattle.sled_store.specs.declared.segment.slot.Slot.{Slot}
use Rattle.sled_store.specs.Accounts.{slot_state}
use Rattle.sled_store.proofs.Accounts.AccountLemmas.{state_at, states_set}
use Rattle.sled_store.proofs.segment.accountant.starting.link.Goals as goal

one_linked : (xs : List Slot) (k j pid len : ℕ) (d s : Slot) → j ≡ k → k < length xs → d ≡ get_or xs k d → slot_state s ≡ linked_slot pid len (slot_state d) → map slot_state (set xs j s) ≡ set (map slot_state xs) k (linked_slot pid len (get_or (map slot_state xs) k free_slot))
one_linked xs k j pid len d s same lt at is =
    ap (λ n. map slot_state (set xs n s)) same ∙ states_set xs k s _ (is ∙ ap (λ (x : Slot). linked_slot pid len (slot_state x)) at ∙ ap (linked_slot pid len) (sym (state_at xs k d free_slot lt)))

pub returns-clause-slots : goal.returns-clause-slots
returns-clause-slots c =
    let slot : c.lid.result / c.args.size ≡ slot_of c.args.size c.args.entry.now = ap (λ n. n / c.args.size) c.lid.ensures in
    one_linked c.args.slots.now.items (slot_of c.args.size c.args.entry.now) (c.lid.result / c.args.size) c.args.pid c.args.entry.now.2 c.index_mut-s.result.now c.link.new.self slot c.requires.placed
    (subst (λ n. c.index_mut-s.result.now ≡ get_or c.args.slots.now.items n c.index_mut-s.result.now) slot c.index_mut-s.ensures.value) (c.link.ensures.state ∙ ap (linked_slot c.args.pid c.args.entry.now.2) c.reserve.ensures.state)
