use Rattle.std.proofs.Common.{rules, ◌≤ℤ◌, w64, SFits, to_z, arith, subst}
use Rattle.std.proofs.lemmas.Int.{ints, to_z-of_z}
use Rattle.sled_core.specs.StableEnds.{Covers}
use Rattle.sled_oracle.proofs.SlowEnd.{covers_further}
use Rattle.sled_core.proofs.Stable.EndLemmas.{greatest_at}
use Rattle.sled_oracle.proofs.intervals.contiguous_end_of.Goals as goal

pub loop-further-preserved : goal.loop-further-preserved
loop-further-preserved c =
    let same = to_z-of_z w64 c.args.start c.ranges.start in
    let further = c.in-Some.further in
    let fits : SFits w64 further = search rules in
    let inv = c.loop-further.invariant in
    let on = c.in-Some.ensures.0 in
    record {
      not_below = let from = inv.not_below in rw (to_z-of_z w64 further fits) (omega (arith, ints));
      covered = rw (to_z-of_z w64 further fits) (covers_further _ _ _ further inv.covered c.in-Some.ensures.1);
    }

pub returns : goal.returns
returns c =
    let same = to_z-of_z w64 c.args.start c.ranges.start in
    let inv = c.loop-further.invariant in
    let e = to_z w64 c.loop-further.end-bits in
    let from = subst (λ s. s ≤ℤ e) same inv.not_below in
    record { not_below = from; covered = subst (λ s. Covers s c.args.intervals.now e) same inv.covered; greatest = greatest_at c.args.start c.args.intervals.now e from c.in_default.ensures }
