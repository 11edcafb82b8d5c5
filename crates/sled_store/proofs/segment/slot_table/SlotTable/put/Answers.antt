-- An entry that is within the limits can't be booked only where it can't lie beside the others.
use Rattle.sled_store.proofs.segment.slot_table.SlotTable.put.Goals as goal

pub returns-clause-corrupt : goal.returns-clause-corrupt
returns-clause-corrupt c = λ es booked corrupt _ fit. c.note.ensures.corrupt es booked corrupt fit
