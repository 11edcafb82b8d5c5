-- A segment lies in the slots of the older messages, as before, and what is to be noted there has room.
use Rattle.std.proofs.Common.{◌∙◌, ◌/◌, ℕ, length, get_or, sym, subst}
use Rattle.sled_codec.specs.Pointers.{lid_of}
use Rattle.sled_store.specs.declared.segment.slot.CacheInfo.{CacheInfo}
use Rattle.sled_store.specs.Accounts.{machine_of, size_of}
use Rattle.sled_store.specs.inside.Accounts.{IsUsed, GoneFits, HasRoomForBlobs}
use Rattle.sled_store.proofs.Accounts.OldLemmas.{used_after, lies_used}
use Rattle.sled_store.proofs.segment.accountant.SegmentAccountant.replace.Goals as goal

pub outdate-requires-clause-room : goal.outdate-requires-clause-room
outdate-requires-clause-room c d =
    subst (λ n. HasRoomForBlobs (length c.args.old.now) (get_or c.link.new.self.slots.items (lid_of c.args.new.pointer / n) d)) (sym c.link.ensures.account.size_is) (c.link.ensures.blobs (length c.args.old.now) d (c.requires.blobs d))

pub replace_all-requires-clause-used : goal.replace_all-requires-clause-used
replace_all-requires-clause-used c k d lt =
    let size : ℕ = c.args.self.now.size in
    let o : CacheInfo = get_or c.args.old.now k d in
    let m = machine_of c.args.self.now in
    subst (λ n. IsUsed (machine_of c.outdate.new.self) (lid_of o.pointer / n)) (sym (c.outdate.ensures.account.size_is ∙ c.link.ensures.account.size_is))
    (used_after size (size_of c.link.new.self) c.args.pid c.args.new c.args.old.now m (machine_of c.link.new.self) (machine_of c.outdate.new.self) (lid_of o.pointer / size) c.link.ensures.account.size_is
    c.link.ensures.done c.outdate.ensures.done (lies_used size m c.args.new c.requires.may.lies) (lies_used size m o (c.requires.may.old_lie k d lt)))

pub replace_all-requires-clause-gone : goal.replace_all-requires-clause-gone
replace_all-requires-clause-gone c k d lt =
    let o : CacheInfo = get_or c.args.old.now k d in
    subst (λ n. GoneFits c.args.pid c.outdate.new.self (lid_of o.pointer / n)) (sym (c.outdate.ensures.account.size_is ∙ c.link.ensures.account.size_is))
    (c.outdate.ensures.gone c.args.pid _ (c.link.ensures.gone c.args.pid _ (c.requires.gone k d lt)))
