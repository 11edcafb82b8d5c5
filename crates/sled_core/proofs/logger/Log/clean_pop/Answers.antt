use Rattle.std.proofs.Common.{refl}
use Rattle.sled_core.proofs.Line.MarkedSlots.{popped_keeps}
use Rattle.sled_core.proofs.logger.Log.clean_pop.Goals as goal

pub returns-clause-keeps : goal.returns-clause-keeps
returns-clause-keeps g c =
    popped_keeps g.D.Device.trace g.C.Checksum.sum_of c.args.self.now _ (record { config = refl; segments = refl; reserved = refl; fault = refl; pins = refl; marks = refl; batches = refl; pool = refl })
    c.clean_pop.ensures.slots c.clean_pop.ensures.tip
