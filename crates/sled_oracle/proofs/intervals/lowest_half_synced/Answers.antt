use Rattle.std.proofs.Common.{rules, ◌≤◌, pos, w64, to_z, of_z, length, take, sym, subst}
use Rattle.std.proofs.lemmas.Int.{to_z-of_z}
use Rattle.std.proofs.lemmas.List.{take_all, take_more}
use Rattle.sled_oracle.specs.LowestHalf.{IsLowestHalf}
use Rattle.sled_oracle.proofs.intervals.lowest_half_synced.Goals as goal

pub loop-batch-preserved : goal.loop-batch-preserved
loop-batch-preserved c =
    let end = to_z w64 (of_z w64 c.args.end) in
    let more = take_more c.args.batches.now c.loop-batch.batch-index (pos 0, pos 0) c.loop-batch-test.true in
    subst (λ l. IsLowestHalf end l c.lower-lowest.result) (sym more) (c.lower-lowest.ensures (take c.loop-batch.batch-index c.args.batches.now) c.loop-batch.invariant)

pub returns : goal.returns
returns c =
    let same = to_z-of_z w64 c.args.end c.ranges.end in
    let end = to_z w64 (of_z w64 c.args.end) in
    let batches = c.args.batches.now in
    let done : length batches ≤ c.loop-batch.batch-index = search rules in
    let lowest = subst (λ l. IsLowestHalf end l c.loop-batch.lowest) (take_all c.loop-batch.batch-index batches done) c.loop-batch.invariant in
    subst (λ e. IsLowestHalf e batches c.loop-batch.lowest) same lowest
