-- The key in the middle is less or greater, and so are those in front of it or behind it.
use Rattle.std.proofs.Common.{◌+◌, ◌-◌, ◌/◌, ◌∙◌, sym, ap}
use Rattle.std.specs.declared.cmp.Ordering.TheVariants.{Equal}
use Rattle.std.specs.Map.{keys_of}
use Rattle.sled_store.proofs.Sorted.EntryLemmas.{key_at, within_keys}
use Rattle.sled_store.proofs.Sorted.SearchLemmas.{goes_right, goes_left, middle_within, read}
use Rattle.sled_store.proofs.segment.sorted.map.search.Goals as goal

pub loop-low-preserved-in-Less : goal.loop-low-preserved-in-Less
loop-low-preserved-in-Less g c =
    let entries = c.args.entries.now in
    let lt = middle_within entries c.loop-low.low c.loop-low.high c.loop-low-test.true c.loop-low.invariant.within in
    goes_right g.met.K.Ord.total c.args.key.now (keys_of entries) c.requires c.args.count.now c.loop-low.count c.loop-low.low c.loop-low.high _ c.index-entries-middle.result.0
    c.loop-low.invariant c.loop-low-test.true (key_at entries (c.loop-low.low + (c.loop-low.high - c.loop-low.low) / 2) c.index-entries-middle.result lt c.index-entries-middle.is)
    (c.in-Less.ensures.order ∙ ap (λ e. g.K.Ord.cmp e.0 c.args.key.now) (sym c.index-entries-middle.is)) c.in-Less.ensures.counted

pub returns-in-Equal-clause-found : goal.returns-in-Equal-clause-found
returns-in-Equal-clause-found g c =
    let entries = c.args.entries.now in
    let middle = c.loop-low.low + (c.loop-low.high - c.loop-low.low) / 2 in
    let lt = middle_within entries c.loop-low.low c.loop-low.high c.loop-low-test.true c.loop-low.invariant.within in
    read g.met.K.Ord.total c.args.key.now (keys_of entries) c.requires Equal middle c.index-entries-middle.result.0 (within_keys entries middle lt)
    (key_at entries middle c.index-entries-middle.result lt c.index-entries-middle.is) (c.in-Equal.ensures.order ∙ ap (λ e. g.K.Ord.cmp e.0 c.args.key.now) (sym c.index-entries-middle.is))

pub loop-low-preserved : goal.loop-low-preserved
loop-low-preserved g c =
    let entries = c.args.entries.now in
    let lt = middle_within entries c.loop-low.low c.loop-low.high c.loop-low-test.true c.loop-low.invariant.within in
    goes_left g.met.K.Ord.total c.args.key.now (keys_of entries) c.requires c.args.count.now c.loop-low.count c.loop-low.low c.loop-low.high _ c.index-entries-middle.result.0
    c.loop-low.invariant c.loop-low-test.true (key_at entries (c.loop-low.low + (c.loop-low.high - c.loop-low.low) / 2) c.index-entries-middle.result lt c.index-entries-middle.is)
    (c.in-Greater.ensures.order ∙ ap (λ e. g.K.Ord.cmp e.0 c.args.key.now) (sym c.index-entries-middle.is)) c.in-Greater.ensures.counted
