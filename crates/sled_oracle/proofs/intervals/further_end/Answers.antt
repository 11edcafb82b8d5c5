use Rattle.std.proofs.Common.{rules, ◌≤◌, ◌+ℤ◌, pos, w64, to_z, of_z, length, subst}
use Rattle.std.specs.List.{All}
use Rattle.std.proofs.lemmas.Int.{to_z-of_z}
use Rattle.std.proofs.lemmas.List.{take_all}
use Rattle.std.proofs.lemmas.List.Elements.{All-more}
use Rattle.sled_core.specs.StableEnds.{LiesIn}
use Rattle.sled_oracle.proofs.intervals.further_end.Goals as goal

pub loop-interval-preserved : goal.loop-interval-preserved
loop-interval-preserved c =
    let end = to_z w64 (of_z w64 c.args.end) in
    All-more (λ i. LiesIn (end +ℤ pos 1) i → ⊥) c.args.intervals.now c.loop-interval.interval-index (pos 0, pos 0) c.loop-interval-test.true c.loop-interval.invariant c.if-leads_on.ensures

pub returns : goal.returns
returns c =
    let same = to_z-of_z w64 c.args.end c.ranges.end in
    let end = to_z w64 (of_z w64 c.args.end) in
    let intervals = c.args.intervals.now in
    let done : length intervals ≤ c.loop-interval.interval-index = search rules in
    let none = subst (λ l. All (λ i. LiesIn (end +ℤ pos 1) i → ⊥) l) (take_all c.loop-interval.interval-index intervals done) c.loop-interval.invariant in
    subst (λ e. All (λ i. LiesIn (e +ℤ pos 1) i → ⊥) intervals) same none
