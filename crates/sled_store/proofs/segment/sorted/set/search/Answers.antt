-- The key in the middle is less or greater, and so are those in front of it or behind it.
use Rattle.sled_store.proofs.Sorted.SearchLemmas.{goes_right, goes_left}
use Rattle.sled_store.proofs.segment.sorted.set.search.Goals as goal

pub loop-low-preserved-in-Less : goal.loop-low-preserved-in-Less
loop-low-preserved-in-Less g c =
    goes_right g.met.K.Ord.total c.args.key.now c.args.keys.now c.requires c.args.count.now c.loop-low.count c.loop-low.low c.loop-low.high _ c.index-keys-middle.result
    c.loop-low.invariant c.loop-low-test.true c.index-keys-middle.is c.in-Less.ensures.order c.in-Less.ensures.counted

pub loop-low-preserved : goal.loop-low-preserved
loop-low-preserved g c =
    goes_left g.met.K.Ord.total c.args.key.now c.args.keys.now c.requires c.args.count.now c.loop-low.count c.loop-low.low c.loop-low.high _ c.index-keys-middle.result
    c.loop-low.invariant c.loop-low-test.true c.index-keys-middle.is c.in-Greater.ensures.order c.in-Greater.ensures.counted
