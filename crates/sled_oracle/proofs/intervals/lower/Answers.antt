use Rattle.std.proofs.Common.{rules, ◌≤ℤ◌, ◌<ℤ◌, w64, SFits, arith, subst}
use Rattle.std.proofs.lemmas.Int.{ints, to_z-of_z}
use Rattle.sled_core.specs.StableEnds.{IsHalfSynced}
use Rattle.sled_oracle.specs.LowestHalf.{IsLowestHalf}
use Rattle.sled_oracle.proofs.SlowEnd.{none_more, still_lowest, first_lowest, now_lowest}
use Rattle.sled_oracle.proofs.intervals.lower.Goals as goal

pub returns-then-not-is_half_synced : goal.returns-then-not-is_half_synced
returns-then-not-is_half_synced c bs l =
    let same = to_z-of_z w64 c.args.end c.ranges.end in
    none_more c.args.end bs c.args.batch c.args.lowest (subst (λ e. IsHalfSynced e c.args.batch → ⊥) same c.if-not-is_half_synced.ensures) l

pub returns-in-None : goal.returns-in-None
returns-in-None c bs l =
    let same = to_z-of_z w64 c.args.end c.ranges.end in
    let half = subst (λ e. IsHalfSynced e c.args.batch) same c.if-not-is_half_synced.ensures in
    first_lowest c.args.end bs c.args.batch half (subst (IsLowestHalf c.args.end bs) c.in-None.is l)

pub returns-then-other-batch : goal.returns-then-other-batch
returns-then-other-batch c bs l =
    let other_fits : SFits w64 c.in-Some.other.0 = search rules in
    let low_fits : SFits w64 c.args.batch.0 = search rules in
    let test = c.if-other-batch.true in
    let le : c.in-Some.other.0 ≤ℤ c.args.batch.0 = grind (arith, ints) in
    still_lowest c.args.end bs c.args.batch c.in-Some.other le (subst (IsLowestHalf c.args.end bs) c.in-Some.is l)

pub returns-else-other-batch : goal.returns-else-other-batch
returns-else-other-batch c bs l =
    let same = to_z-of_z w64 c.args.end c.ranges.end in
    let half = subst (λ e. IsHalfSynced e c.args.batch) same c.if-not-is_half_synced.ensures in
    let other_fits : SFits w64 c.in-Some.other.0 = search rules in
    let low_fits : SFits w64 c.args.batch.0 = search rules in
    let test = c.if-other-batch.false in
    let lt : c.args.batch.0 <ℤ c.in-Some.other.0 = grind (arith, ints) in
    now_lowest c.args.end bs c.args.batch c.in-Some.other half lt (subst (IsLowestHalf c.args.end bs) c.in-Some.is l)
