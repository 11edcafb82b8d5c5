-- It is taken exactly where a crash may leave it.
use Rattle.std.proofs.Common.{[], refl}
use Rattle.sled_store.specs.Device.{Settled, state_of}
use Rattle.sled_store.proofs.Crashes.CrashLemmas.{same_iff, settled_may_be}
use Rattle.sled_store.proofs.device.memory.MemDevice.crash_back.Goals as goal

pub returns-then-taken-clause-taken : goal.returns-then-taken-clause-taken
returns-then-taken-clause-taken c =
    let h = c.args.self.now.story.trace.events in
    same_iff (c.if-taken.ensures.taken (state_of h).log c.args.self.now.stands) (settled_may_be h c.args.patch.now)

pub returns-clause-taken : goal.returns-clause-taken
returns-clause-taken c =
    let h = c.args.self.now.story.trace.events in
    same_iff (c.if-taken.ensures.taken (state_of h).log c.args.self.now.stands) (settled_may_be h c.args.patch.now)

-- both are crashes
pub crash-requires : goal.crash-requires
crash-requires c = (Settled c.args.patch.now, refl)

pub crash-requires-2 : goal.crash-requires-2
crash-requires-2 c = (Settled [], refl)
