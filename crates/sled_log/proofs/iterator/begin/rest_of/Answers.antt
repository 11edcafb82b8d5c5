use Rattle.std.proofs.Common.{◌∙◌, ◌≤◌, ◌<◌, ℕ, List, take, drop, sym, ap, subst}
use Rattle.std.specs.List.{All}
use Rattle.sled_core.specs.declared.iterator.Segment.{Segment}
use Rattle.sled_log.specs.Recovery.{begun_below}
use Rattle.sled_log.proofs.Passes.Ascending.{begun_first}
use Rattle.sled_log.proofs.iterator.begin.rest_of.Goals as goal

pub returns-clause-segments : goal.returns-clause-segments
returns-clause-segments g c =
    let n : ℕ = c.count_below-count.result in
    let end : ℕ = c.unwrap_or-end.result in
    let ss : List Segment = c.args.segments.items in
    let below = subst (λ (l : List Segment). All (λ (s : Segment). s.place < end) (take n l)) c.deref.ensures.value c.count_below-count.ensures.below in
    let above = subst (λ (l : List Segment). All (λ (s : Segment). end ≤ s.place) (drop n l)) c.deref.ensures.value c.count_below-count.ensures.above in
    ap (λ v. v.items) c.new.ensures.segments ∙ c.truncate.ensures.items ∙ sym (begun_first end n ss below above) ∙ ap (λ k. begun_below k ss) c.unwrap_or-end.ensures
