-- What a table from the stable end on has is in its slot, and the slot that is handed out next is free.
use Rattle.sled_core.proofs.Line.NextSlot.{mark_stable_end, next_not_needed}
use Rattle.sled_core.proofs.laws.the_next_slot_is_not_needed.Goals as goal

pub returns : goal.returns
returns g c = record {
  mark = λ log H A f U fits none. mark_stable_end g.D.Device.trace g.C.Checksum.sum_of log H A f U fits none;
  needed = λ log H A f U cut place fits so up needed. next_not_needed g.D.Device.trace g.C.Checksum.sum_of log H A f U fits cut place so up needed;
}
