-- A damaged record is met before a batch that is open.
use Rattle.sled_core.proofs.iterator.records.scan_slot.Goals as goal

pub returns-in-Err-clause-damaged : goal.returns-in-Err-clause-damaged
returns-in-Err-clause-damaged g c = λ corrupt. (c.in-Err.ensures.damaged corrupt).0
