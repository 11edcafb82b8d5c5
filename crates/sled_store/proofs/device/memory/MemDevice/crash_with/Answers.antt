-- Each offered name is one under which a file was made.
use Rattle.std.proofs.Common.{refl}
use Rattle.sled_store.specs.Device.{state_of}
use Rattle.sled_store.specs.Noted.{offered}
use Rattle.sled_store.proofs.Names.OfferLemmas.{offered_made}
use Rattle.sled_store.proofs.device.memory.MemDevice.crash_with.Goals as goal

pub take-requires-2 : goal.take-requires-2
take-requires-2 c =
    let device = c.args.self.now in
    let left = c.may_leave.ensures.0 c.if-not-may_leave.false in
    offered_made device.blobs (state_of device.story.trace.events).blobs c.args.offer.blobs.items device.keeps_blobs left.1.blobs

pub take-requires-3 : goal.take-requires-3
take-requires-3 c =
    let device = c.args.self.now in
    let left = c.may_leave.ensures.0 c.if-not-may_leave.false in
    offered_made device.snapshots (state_of device.story.trace.events).snapshots c.args.offer.snapshots.items device.keeps_snapshots left.1.snapshots

-- it is a crash
pub crash-requires : goal.crash-requires
crash-requires c = (offered c.args.offer, refl)
