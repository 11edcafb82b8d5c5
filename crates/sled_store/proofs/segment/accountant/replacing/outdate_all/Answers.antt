-- The blob of one message more.
use Rattle.std.proofs.Common.{◌∙◌, ◌≤◌, ◌+◌, arith, ap, length}
use Rattle.sled_store.specs.declared.segment.slot.Slot.{Slot}
use Rattle.sled_store.proofs.Accounts.OldLemmas.{item_same, outdated_more, room_step}
use Rattle.sled_store.proofs.segment.accountant.replacing.outdate_all.Goals as goal

pub loop-o-preserved : goal.loop-o-preserved
loop-o-preserved c =
    let inv = c.loop-o.invariant in
    let less : length c.outdate.new.self.blobs.0 ≤ length c.loop-o.slot.blobs.0 + 1 = room_step c.args.pointer _ c.loop-o.slot.blobs.0 c.outdate.new.self.blobs.0 c.outdate.ensures.blobs in
    record {
      blobs = outdated_more c.args.pointer c.args.old.now c.loop-o.o-index _ c.args.slot.now.blobs.0 c.loop-o.slot.blobs.0 c.outdate.new.self.blobs.0 c.loop-o-test.true (item_same c.args.old.now c.loop-o.o-index _ _ c.loop-o-test.true) inv.blobs c.outdate.ensures.blobs;
      rest = c.outdate.ensures.rest ∙ ap (λ (s : Slot). record s { blobs = c.outdate.new.self.blobs }) inv.rest;
      room = omega (arith, inv.room, c.outdate.ensures.room, less);
    }
