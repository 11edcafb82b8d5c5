-- Blobs are noted with the segment, which stays active.
use Rattle.std.proofs.Common.{◌≡◌, ◌∙◌, ◌/◌, ◌<◌, ℕ, List, length, refl, sym, ap, subst, get_or, true}
use Rattle.std.specs.Vec.{with_item}
use Rattle.sled_codec.specs.Pointers.{lid_of}
use Rattle.sled_store.specs.SegmentStates.{SlotState, free_slot, with_slot, slot_at, is_active, all_outdated}
use Rattle.sled_store.specs.declared.segment.slot.Slot.{Slot}
use Rattle.sled_store.specs.declared.segment.slot.CacheInfo.{CacheInfo}
use Rattle.sled_store.specs.declared.segment.accountant.SegmentAccountant.{SegmentAccountant}
use Rattle.sled_store.specs.Accounts.{slot_state, machine_of, HasRoomToDrain}
use Rattle.sled_store.proofs.Accounts.ChangeLemmas.{active_used, active_not_draining, not_waited}
use Rattle.sled_store.proofs.Accounts.WithLemmas.{read_state, read_drain, with_machine, with_account, gone_kept}
use Rattle.sled_store.proofs.Accounts.OldLemmas.{outdated_state}
use Rattle.sled_store.proofs.segment.accountant.SegmentAccountant.outdate.Goals as goal

pub returns-clause-done : goal.returns-clause-done
returns-clause-done c =
    let a : SegmentAccountant = c.args.self.now in
    let k : ℕ = c.lid.result / a.size in
    let os : List CacheInfo = c.args.old.now in
    let at : k ≡ lid_of c.args.info.pointer / a.size = ap (λ n. n / a.size) c.lid.ensures in
    let lt : k < length (machine_of a).slots = subst (λ n. n < length (machine_of a).slots) (sym at) c.requires.slot in
    let to : SlotState → SlotState = λ (s : SlotState). record s { blobs = all_outdated c.args.info.pointer os s.blobs } in
    let is : slot_state c.outdate_all.new.slot ≡ to (get_or (machine_of a).slots k free_slot) =
    outdated_state c.outdate_all.new.slot c.index_mut-s.result.now c.args.info.pointer os c.outdate_all.ensures.rest c.outdate_all.ensures.blobs ∙ ap to (read_state a k c.index_mut-s.result.now lt c.index_mut-s.ensures.value) in
    with_machine a.size a (with_item a.slots k c.outdate_all.new.slot) k c.outdate_all.new.slot refl lt (to (get_or (machine_of a).slots k free_slot)) is
    ∙ ap (λ n. with_slot n (to (slot_at (machine_of a) n)) (machine_of a)) at

pub returns-clause-account : goal.returns-clause-account
returns-clause-account c =
    let a : SegmentAccountant = c.args.self.now in
    let k : ℕ = c.lid.result / a.size in
    let os : List CacheInfo = c.args.old.now in
    let at : k ≡ lid_of c.args.info.pointer / a.size = ap (λ n. n / a.size) c.lid.ensures in
    let lt : k < length (machine_of a).slots = subst (λ n. n < length (machine_of a).slots) (sym at) c.requires.slot in
    let s : SlotState = get_or (machine_of a).slots k free_slot in
    let to : SlotState → SlotState = λ (s : SlotState). record s { blobs = all_outdated c.args.info.pointer os s.blobs } in
    let is : slot_state c.outdate_all.new.slot ≡ to s =
    outdated_state c.outdate_all.new.slot c.index_mut-s.result.now c.args.info.pointer os c.outdate_all.ensures.rest c.outdate_all.ensures.blobs ∙ ap to (read_state a k c.index_mut-s.result.now lt c.index_mut-s.ensures.value) in
    let active : is_active s.state ≡ true = subst (λ n. is_active (slot_at (machine_of a) n).state ≡ true) (sym at) c.requires.active in
    let used = active_used s.state active in
    let stays = active_not_draining s.state active in
    let drain : HasRoomToDrain c.outdate_all.new.slot = subst HasRoomToDrain (sym c.outdate_all.ensures.rest) (read_drain a k c.index_mut-s.result.now lt c.requires.account.room_to_drain c.index_mut-s.ensures.value) in
    with_account a.size a (with_item a.slots k c.outdate_all.new.slot) k c.outdate_all.new.slot refl lt (to s) is drain (c.requires.account.slots.places k) used used refl refl (not_waited (to s) stays ∙ sym (not_waited s stays)) c.requires.account

pub returns-clause-gone : goal.returns-clause-gone
returns-clause-gone c =
    let a : SegmentAccountant = c.args.self.now in
    let k : ℕ = c.lid.result / a.size in
    let lt : k < length (machine_of a).slots = subst (λ n. n < length (machine_of a).slots) (sym (ap (λ n. n / a.size) c.lid.ensures)) c.requires.slot in
    gone_kept a k c.index_mut-s.result.now c.outdate_all.new.slot lt c.index_mut-s.ensures.value (ap (λ (s : Slot). s.gone) c.outdate_all.ensures.rest)
