-- The tests of the slot are those of what the machine has.
use Rattle.std.proofs.Common.{◌≡◌, ◌∙◌, false, ◌&&◌, not, sym, ap}
use Rattle.sled_store.specs.SegmentStates.{SlotState, is_done, is_active_place, slot_at}
use Rattle.sled_store.specs.Accounts.{machine_of}
use Rattle.sled_store.proofs.Accounts.StabilSlots.{slot_is}
use Rattle.sled_store.proofs.segment.accountant.SegmentAccountant.may_be_freed.Goals as goal

pub returns-then-is_done : goal.returns-then-is_done
returns-then-is_done c =
    let a = c.args.self.now in
    let at = slot_is a c.args.slot c.index-s.result.now c.requires.slot c.index-s.ensures in
    ap not c.is_active_place.ensures ∙ ap (λ b. b && not (is_active_place (machine_of a) c.index-s.result.now.latest)) (sym (sym c.is_done.ensures ∙ c.if-is_done.true))
    ∙ ap (λ (s : SlotState). is_done s && not (is_active_place (machine_of a) s.latest)) at

pub returns-else-is_done : goal.returns-else-is_done
returns-else-is_done c =
    let a = c.args.self.now in
    let at = slot_is a c.args.slot c.index-s.result.now c.requires.slot c.index-s.ensures in
    let fails : c.is_done.result ≡ false = c.if-is_done.false in
    fails ∙ sym (ap (λ b. b && not (is_active_place (machine_of a) (slot_at (machine_of a) c.args.slot).latest)) (sym (ap is_done at) ∙ sym c.is_done.ensures ∙ fails))
