-- The offered bytes may be left exactly where each that is not loose is the one that is read.
use Rattle.std.proofs.Common.{arith}
use Rattle.sled_store.proofs.Crashes.CrashLogLemmas.{offered-iff}
use Rattle.sled_store.proofs.device.memory.log_file.MemLog.may_leave.Goals as goal

pub returns : goal.returns
returns c = λ s stands.
    offered-iff c.args.self.now s c.args.offered.now c.are_firm.result stands (omega (arith, stands.least)) (omega (arith, stands.most)) c.are_firm.ensures
