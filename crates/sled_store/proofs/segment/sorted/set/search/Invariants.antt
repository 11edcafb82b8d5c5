-- So far: the keys in front are less, those behind greater, and what is left may be searched.
use Rattle.std.proofs.Common.{◌-◌}
use Rattle.sled_store.proofs.Sorted.SearchLemmas.{IsSearching}
use Rattle.sled_store.proofs.segment.sorted.set.search.Given as goal

abbrev pub invariant-loop-low : goal.invariant-loop-low
invariant-loop-low g l = IsSearching g.K.Ord.cmp l.key l.keys l.fn.count l.count l.low l.high

abbrev pub decreases-loop-low : goal.decreases-loop-low
decreases-loop-low g l = l.high - l.low
