use Rattle.std.proofs.Common.{rules, ◌<◌, ◌≤ℤ◌, ◌<ℤ◌, ◌+ℤ◌, pos, w64, arith, ◌∷◌, length, IsSome, SFits}
use Rattle.std.specs.BinaryHeap.{heap_items}
use Rattle.std.proofs.lemmas.Int.{ints, to_z-of_z}
use Rattle.std.proofs.lemmas.List.Elements.{All-weaker}
use Rattle.std.proofs.lemmas.List.Sorted.{IsPermutation-map}
use Rattle.sled_core.specs.StableEnds.{turned}
use Rattle.sled_core.proofs.Stable.TakenIn.{reach_taken, reach_ends, lowest_of, popped, greater_of}
use Rattle.sled_core.proofs.iobuf.intervals.take_next.Goals as goal

pub returns-then-is_beyond-clause-end : goal.returns-then-is_beyond-clause-end
returns-then-is_beyond-clause-end c s is r =
    let first = c.in_ok-low.field-0.now in
    let end = c.args.end in
    let fits : SFits w64 first.0.0 = search rules in
    let test = c.if-is_beyond.ensures in
    let gap : (end +ℤ pos 1) <ℤ first.0.0 = omega (arith, ints) in
    let ahead = turned (heap_items c.args.ahead.now) in
    reach_ends s is end ahead r (All-weaker (λ i. first.0.0 ≤ℤ i.0) (λ i. (end +ℤ pos 1) <ℤ i.0) (λ i le. omega (arith, ints)) ahead (lowest_of first _ (c.in_ok-low.ensures.greatest c.requires)))

pub returns-then-is_beyond-clause-beyond : goal.returns-then-is_beyond-clause-beyond
returns-then-is_beyond-clause-beyond c =
    let first = c.in_ok-low.field-0.now in
    let end = c.args.end in
    let fits : SFits w64 first.0.0 = search rules in
    let test = c.if-is_beyond.ensures in
    let gap : (end +ℤ pos 1) <ℤ first.0.0 = omega (arith, ints) in
    All-weaker (λ i. first.0.0 ≤ℤ i.0) (λ i. (end +ℤ pos 1) <ℤ i.0) (λ i le. omega (arith, ints)) (turned (heap_items c.args.ahead.now)) (lowest_of first _ (c.in_ok-low.ensures.greatest c.requires))

pub returns-clause-reaches : goal.returns-clause-reaches
returns-clause-reaches c s is r =
    let first = c.in_ok-low.field-0.now in
    let end = c.args.end in
    let low_fits : SFits w64 first.0.0 = search rules in
    let high_fits : SFits w64 first.0.1 = search rules in
    let fits : SFits w64 c.max.result = search rules in
    let old = heap_items c.args.ahead.now in
    let new = heap_items c.pop.new.self in
    let test = c.if-is_beyond.ensures in
    let near : first.0.0 ≤ℤ (end +ℤ pos 1) = omega (arith, ints) in
    let some : 0 < length old = search rules in
    let given : IsSome c.pop.result = search rules in
    let moved = popped c.pop.result old new first given some c.pop.ensures.permutation c.pop.ensures.top c.in_ok-low.ensures.lookup in
    let greater = greater_of end first.0.1 c.max.result (grind (arith, to_z-of_z)) in
    rw (to_z-of_z w64 _ fits) (reach_taken s is end c.max.result (turned old) (turned new) first.0 r (IsPermutation-map (λ r. r.0) old (first ∷ new) moved) near greater.0 greater.1 greater.2)
