use Rattle.std.proofs.Common.{ℕ, List}
use Rattle.sled_store.specs.Device.{state_of}
use Rattle.sled_log.proofs.Ordering.CollectedLemmas.{none_short}
use Rattle.sled_log.proofs.snapshot.ordering.find_in_slot.Goals as goal

pub returns-then-count-lt-SEG_HEADER_LEN-clause-none :
    goal.returns-then-count-lt-SEG_HEADER_LEN-clause-none
returns-then-count-lt-SEG_HEADER_LEN-clause-none g c =
    let log : List ℕ = (state_of (g.D.Device.trace c.args.config.now.device)).log.bytes in
    none_short g.C.Checksum.sum_of c.args.config.now.config.segment_size log c.args.least c.args.slot c.in_ok-count.count c.in_ok-count.ensures.count c.if-count-lt-SEG_HEADER_LEN.true
