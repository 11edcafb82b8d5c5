-- The key is there and all below it are less, or it belongs there.
use Rattle.sled_store.proofs.Sorted.SortedLemmas.{splits_found, splits_missing}
use Rattle.sled_store.proofs.segment.sorted.set.SortedSet.place.Goals as goal

pub returns-in-Ok-clause-place : goal.returns-in-Ok-clause-place
returns-in-Ok-clause-place g c =
    splits_found g.met.K.Ord.total c.args.key c.args.self.now.0 c.in-Ok.at c.find.ensures.ascending c.in-Ok.ensures.within c.in-Ok.ensures.found

pub returns-in-Err-clause-place : goal.returns-in-Err-clause-place
returns-in-Err-clause-place g c =
    splits_missing g.met.K.Ord.total c.args.key c.args.self.now.0 c.in-Err.at c.in-Err.ensures.missing
