-- Segments lie apart, and those that aren't active below the mark's.
use Rattle.sled_store.proofs.Marks.MarkLaws.{one_slot, place_aligned, idle_stable}
use Rattle.sled_store.proofs.Marks.MarkedLemmas.{truthful}
use Rattle.sled_store.proofs.segment.laws.segments_lie_apart.Goals as goal

pub returns : goal.returns
returns c = record {
  one_slot = λ size mark H m j k place marked. one_slot size mark H m (truthful size mark H m marked) j k place;
  aligned = λ size mark H m k place marked. place_aligned size mark H m (truthful size mark H m marked) k place;
  stable = λ size mark H m k place marked. idle_stable size mark H m (truthful size mark H m marked) k place;
}
