-- The slot is drained exactly where it is sparse, and only an inactive one is.
use Rattle.std.proofs.Common.{◌≡◌, ◌∙◌, ◌*◌, ◌/◌, true, false, sym, ap, nat_le, if◌then◌else◌}
use Rattle.sled_store.specs.SegmentStates.{SlotState, is_sparse, is_inactive, slot_at, drained}
use Rattle.sled_store.specs.Accounts.{machine_of}
use Rattle.sled_store.proofs.Accounts.StabilSlots.{slot_is, first_so}
use Rattle.sled_store.proofs.segment.accountant.SegmentAccountant.drain_if_sparse.Goals as goal

pub returns-then-not-is_sparse-clause-machine : goal.returns-then-not-is_sparse-clause-machine
returns-then-not-is_sparse-clause-machine c =
    let a = c.args.self.now in
    let is : is_sparse a.size (slot_at (machine_of a) c.args.slot) ≡ false =
    ap (is_sparse a.size) (sym (slot_is a c.args.slot c.index-s.result.now c.requires.slot c.index-s.ensures)) ∙ sym c.is_sparse.ensures ∙ c.if-not-is_sparse.true in
    sym (ap (λ b. if b then drained c.args.slot (machine_of a) else machine_of a) is)

pub drain-requires-clause-inactive : goal.drain-requires-clause-inactive
drain-requires-clause-inactive c =
    let a = c.args.self.now in
    let s : SlotState = slot_at (machine_of a) c.args.slot in
    let is : is_sparse a.size s ≡ true =
    ap (is_sparse a.size) (sym (slot_is a c.args.slot c.index-s.result.now c.requires.slot c.index-s.ensures)) ∙ sym c.is_sparse.ensures ∙ c.if-not-is_sparse.false in
    first_so (is_inactive s.state) (nat_le (s.held * 100 / a.size) 50) is

pub returns-clause-machine : goal.returns-clause-machine
returns-clause-machine c =
    let a = c.args.self.now in
    let is : is_sparse a.size (slot_at (machine_of a) c.args.slot) ≡ true =
    ap (is_sparse a.size) (sym (slot_is a c.args.slot c.index-s.result.now c.requires.slot c.index-s.ensures)) ∙ sym c.is_sparse.ensures ∙ c.if-not-is_sparse.false in
    c.drain.ensures.done ∙ sym (ap (λ b. if b then drained c.args.slot (machine_of a) else machine_of a) is)
