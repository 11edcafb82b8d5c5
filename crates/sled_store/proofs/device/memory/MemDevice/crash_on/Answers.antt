-- It is taken exactly where a crash may leave it.
use Rattle.std.proofs.Common.{[], refl}
use Rattle.sled_store.specs.Device.{Latest, Settled, state_of}
use Rattle.sled_store.proofs.Crashes.CrashLemmas.{same_iff, latest_may_be}
use Rattle.sled_store.proofs.device.memory.MemDevice.crash_on.Goals as goal

pub returns-then-crash-clause-taken : goal.returns-then-crash-clause-taken
returns-then-crash-clause-taken c =
    let h = c.args.self.now.story.trace.events in
    same_iff (c.if-crash.ensures.taken (state_of h).log c.args.self.now.stands) (latest_may_be h c.args.patch.now)

pub returns-clause-taken : goal.returns-clause-taken
returns-clause-taken c =
    let h = c.args.self.now.story.trace.events in
    same_iff (c.if-crash.ensures.taken (state_of h).log c.args.self.now.stands) (latest_may_be h c.args.patch.now)

-- both are crashes
pub crash-requires-then-crash : goal.crash-requires-then-crash
crash-requires-then-crash c = (Latest c.args.patch.now, refl)

pub crash-requires-2 : goal.crash-requires-2
crash-requires-2 c = (Settled [], refl)
