-- A page more is linked to the segment, which stays active.
use Rattle.std.proofs.Common.{◌≡◌, ◌∙◌, ◌/◌, ◌<◌, ℕ, length, refl, sym, ap, subst, get_or, set, true}
use Rattle.std.specs.Vec.{with_item}
use Rattle.sled_codec.specs.Pointers.{lid_of}
use Rattle.sled_store.specs.SegmentStates.{SlotState, free_slot, linked_slot, with_slot, is_active, slot_at}
use Rattle.sled_store.specs.declared.segment.accountant.SegmentAccountant.{SegmentAccountant}
use Rattle.sled_store.specs.Accounts.{slot_state, machine_of}
use Rattle.sled_store.specs.inside.Accounts.{HasRoomForBlobs}
use Rattle.sled_store.proofs.Accounts.ChangeLemmas.{active_used, active_not_draining, not_waited}
use Rattle.sled_store.proofs.Accounts.WithLemmas.{read_state, with_machine, with_account, gone_kept, blobs_kept}
use Rattle.sled_store.proofs.segment.accountant.SegmentAccountant.link.Goals as goal

pub returns-clause-done : goal.returns-clause-done
returns-clause-done c =
    let a : SegmentAccountant = c.args.self.now in
    let k : ℕ = c.lid.result / a.size in
    let at : k ≡ lid_of c.args.info.pointer / a.size = ap (λ n. n / a.size) c.lid.ensures in
    let lt : k < length (machine_of a).slots = subst (λ n. n < length (machine_of a).slots) (sym at) c.requires.slot in
    let s : SlotState = get_or (machine_of a).slots k free_slot in
    let is : slot_state c.link.new.self ≡ linked_slot c.args.pid c.args.info.log_size s = c.link.ensures.state ∙ ap (linked_slot c.args.pid c.args.info.log_size) (read_state a k c.index_mut-s.result.now lt c.index_mut-s.ensures.value) in
    with_machine a.size a (with_item a.slots k c.link.new.self) k c.link.new.self refl lt (linked_slot c.args.pid c.args.info.log_size s) is
    ∙ ap (λ n. with_slot n (linked_slot c.args.pid c.args.info.log_size (slot_at (machine_of a) n)) (machine_of a)) at

pub returns-clause-account : goal.returns-clause-account
returns-clause-account c =
    let a : SegmentAccountant = c.args.self.now in
    let k : ℕ = c.lid.result / a.size in
    let at : k ≡ lid_of c.args.info.pointer / a.size = ap (λ n. n / a.size) c.lid.ensures in
    let lt : k < length (machine_of a).slots = subst (λ n. n < length (machine_of a).slots) (sym at) c.requires.slot in
    let s : SlotState = get_or (machine_of a).slots k free_slot in
    let t : SlotState = linked_slot c.args.pid c.args.info.log_size s in
    let is : slot_state c.link.new.self ≡ t = c.link.ensures.state ∙ ap (linked_slot c.args.pid c.args.info.log_size) (read_state a k c.index_mut-s.result.now lt c.index_mut-s.ensures.value) in
    let active = subst (λ n. is_active (slot_at (machine_of a) n).state ≡ true) (sym at) c.requires.active in
    let used = active_used s.state active in
    let stays = active_not_draining s.state active in
    with_account a.size a (with_item a.slots k c.link.new.self) k c.link.new.self refl lt t is c.link.ensures.room (c.requires.account.slots.places k) used used refl refl (not_waited t stays ∙ sym (not_waited s stays)) c.requires.account

pub returns-clause-gone : goal.returns-clause-gone
returns-clause-gone c =
    let a : SegmentAccountant = c.args.self.now in
    let k : ℕ = c.lid.result / a.size in
    let lt : k < length (machine_of a).slots = subst (λ n. n < length (machine_of a).slots) (sym (ap (λ n. n / a.size) c.lid.ensures)) c.requires.slot in
    gone_kept a k c.index_mut-s.result.now c.link.new.self lt c.index_mut-s.ensures.value c.link.ensures.gone

pub returns-clause-blobs : goal.returns-clause-blobs
returns-clause-blobs c n d has =
    let a : SegmentAccountant = c.args.self.now in
    let k : ℕ = c.lid.result / a.size in
    let at : k ≡ lid_of c.args.info.pointer / a.size = ap (λ n. n / a.size) c.lid.ensures in
    let lt : k < length (machine_of a).slots = subst (λ n. n < length (machine_of a).slots) (sym at) c.requires.slot in
    subst (λ m. HasRoomForBlobs n (get_or (set a.slots.items k c.link.new.self) m d)) at
    (blobs_kept a k c.index_mut-s.result.now c.link.new.self lt c.index_mut-s.ensures.value c.link.ensures.blobs n d (subst (λ m. HasRoomForBlobs n (get_or a.slots.items m d)) (sym at) has))
