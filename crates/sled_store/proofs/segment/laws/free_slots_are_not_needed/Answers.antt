-- A free slot holds no entry of a table above the mark, and the next slot is free.
use Rattle.sled_store.proofs.Marks.MarkLaws.{none_in_free, next_is_free, needed_elsewhere}
use Rattle.sled_store.proofs.Marks.MarkedLemmas.{truthful}
use Rattle.sled_store.proofs.segment.laws.free_slots_are_not_needed.Goals as goal

pub returns : goal.returns
returns c = record {
  free = λ size mark H m cut page k e marked. none_in_free size mark H m (truthful size mark H m marked) cut page k e;
  next = λ size mark H m marked. next_is_free size mark H m (truthful size mark H m marked);
  needed = λ size mark H m cut place marked. needed_elsewhere size mark H m (truthful size mark H m marked) cut place;
}
