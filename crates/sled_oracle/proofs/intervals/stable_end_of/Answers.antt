use Rattle.std.proofs.Common.{rules, ◌∙◌, ◌-ℤ◌, pos, w64, SFits, Some, ap, subst}
use Rattle.std.specs.Int.{saturate_signed}
use Rattle.std.proofs.lemmas.Int.{to_z-of_z}
use Rattle.std.proofs.lemmas.List.Elements.{All-contains}
use Rattle.sled_core.specs.StableEnds.{HasPlaceBefore, IsContiguousEnd}
use Rattle.sled_oracle.specs.LowestHalf.{IsLowestHalf}
use Rattle.sled_oracle.proofs.SlowEnd.{low_end, nearest}
use Rattle.sled_oracle.proofs.intervals.stable_end_of.Goals as goal

pub returns-in-Some : goal.returns-in-Some
returns-in-Some c all =
    let intervals = c.args.intervals.now in
    let batches = c.args.batches.now in
    let b = c.in-Some.batch in
    let e = c.contiguous_end_of-end.result in
    let end_fits : SFits w64 e = search rules in
    let low_fits : SFits w64 b.0 = search rules in
    let fits : SFits w64 c.saturating_sub.result = search rules in
    let lowest = subst (λ z. IsLowestHalf z batches (Some b)) (to_z-of_z w64 e end_fits) c.in-Some.ensures in
    let contiguous = subst (λ s. IsContiguousEnd s intervals e) (to_z-of_z w64 c.args.start c.ranges.start) c.contiguous_end_of-end.ensures in
    let before = All-contains HasPlaceBefore batches b all lowest.0 in
    let at = c.saturating_sub.ensures ∙ ap (λ z. saturate_signed w64 (z -ℤ pos 1)) (to_z-of_z w64 b.0 low_fits) ∙ nearest (b.0 -ℤ pos 1) before in
    rw (to_z-of_z w64 c.saturating_sub.result fits) (low_end c.args.start intervals batches e b c.saturating_sub.result contiguous lowest at)
