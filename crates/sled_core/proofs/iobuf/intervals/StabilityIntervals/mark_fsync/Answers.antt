use Rattle.std.proofs.Common.{rules, ◌≤ℤ◌, ◌<ℤ◌, ◌+ℤ◌, ℤ, pos, List, ◌∷◌, w64, SFits, to_z, of_z, ap, ◌∙◌, arith, refl, subst}
use Rattle.std.specs.BinaryHeap.{heap_items}
use Rattle.std.proofs.lemmas.Int.{ints, to_z-of_z}
use Rattle.std.proofs.lemmas.List.Sorted.{IsPermutation-map}
use Rattle.std.specs.List.{All}
use Rattle.sled_core.specs.StableEnds.{Reaches, IsContiguousEnd, AreWaiting, AreInOrder, end_before, turned}
use Rattle.sled_core.proofs.Stable.KnownEnds.{ahead_known, taken_known}
use Rattle.sled_core.proofs.Stable.Waiting.{rises_over}
use Rattle.sled_core.proofs.iobuf.intervals.StabilityIntervals.mark_fsync.Goals as goal

pub returns-then-is_beyond-clause-knows : goal.returns-then-is_beyond-clause-knows
returns-then-is_beyond-clause-knows c s is bs k =
    let old = c.args.self.now in
    let i = c.args.interval in
    let end_is_number : SFits w64 old.contiguous = search rules in
    let low_is_number : SFits w64 i.0 = search rules in
    let test = c.if-is_beyond.ensures in
    let gap : (old.contiguous +ℤ pos 1) <ℤ i.0 = omega (arith, ints) in
    let moved = IsPermutation-map (λ r. r.0) (record { 0 = i } ∷ heap_items old.ahead) (heap_items c.push.new.self) c.in_ok-push.ensures.permutation in
    ahead_known old _ i refl moved refl gap s is bs k

pub returns-then-is_beyond-clause-stable : goal.returns-then-is_beyond-clause-stable
returns-then-is_beyond-clause-stable c s is bs k =
    let fits : SFits w64 c.stable_end.result = search rules in
    rw (to_z-of_z w64 _ fits) (c.stable_end.ensures.stable s (c.args.interval ∷ is) bs (returns-then-is_beyond-clause-knows c s is bs k))

pub returns-clause-knows : goal.returns-clause-knows
returns-clause-knows c s is bs k =
    let old = c.args.self.now in
    let i = c.args.interval in
    let e = c.take_in-self.result in
    let ahead = turned (heap_items old.ahead) in
    let ahead' = turned (heap_items c.take_in-self.new.ahead) in
    let left = old.batches.items in
    let left' = c.drop_synced.new.batches.items in
    let end_is_number : SFits w64 old.contiguous = search rules in
    let low_is_number : SFits w64 i.0 = search rules in
    let high_is_number : SFits w64 i.1 = search rules in
    let is_number : SFits w64 e = search rules in
    let once = to_z-of_z w64 e is_number in
    let twice = ap (λ z. to_z w64 (of_z w64 z)) once ∙ once in
    let high = to_z-of_z w64 i.1 high_is_number in
    let test = c.if-is_beyond.ensures in
    let near : i.0 ≤ℤ (old.contiguous +ℤ pos 1) = omega (arith, ints) in
    let ordered = c.requires.ordered in
    let beyond = c.requires.beyond in
    let on : old.contiguous ≤ℤ i.1 = omega (arith, ints) in
    let further : i.1 ≤ℤ e = subst (λ z. z ≤ℤ e) high c.take_in-self.ensures.forward in
    taken_known old _ e once i on further near
    (subst (λ z. (s : ℤ) (is : List (ℤ × ℤ)) → Reaches s is z ahead → Reaches s is e ahead') high c.take_in-self.ensures.reaches)
    (subst (λ z. (s : ℤ) (is : List (ℤ × ℤ)) → Reaches s is z ahead → IsContiguousEnd s is e) high c.take_in-self.ensures.end)
    c.take_in-self.ensures.beyond
    (subst (λ z. (bs : List (ℤ × ℤ)) → AreWaiting bs z left → AreWaiting bs z left') twice c.drop_synced.ensures.awaits)
    (subst (λ z. AreInOrder left → All (λ b. z <ℤ b.1) left') twice c.drop_synced.ensures.open_yet)
    s is bs k

pub returns-clause-stable : goal.returns-clause-stable
returns-clause-stable c s is bs k =
    let fits : SFits w64 c.stable_end-2.result = search rules in
    rw (to_z-of_z w64 _ fits) (c.stable_end-2.ensures.stable s (c.args.interval ∷ is) bs (returns-clause-knows c s is bs k))

pub returns-clause-rises : goal.returns-clause-rises
returns-clause-rises c s is bs k =
    let old = c.args.self.now in
    let i = c.args.interval in
    let e = c.take_in-self.result in
    let left = old.batches.items in
    let left' = c.drop_synced.new.batches.items in
    let high_is_number : SFits w64 i.1 = search rules in
    let is_number : SFits w64 e = search rules in
    let fits : SFits w64 c.stable_end-2.result = search rules in
    let once = to_z-of_z w64 e is_number in
    let twice = ap (λ z. to_z w64 (of_z w64 z)) once ∙ once in
    let high = to_z-of_z w64 i.1 high_is_number in
    let ordered = c.requires.ordered in
    let beyond = c.requires.beyond in
    let on : old.contiguous ≤ℤ i.1 = omega (arith, ints) in
    let further : i.1 ≤ℤ e = subst (λ z. z ≤ℤ e) high c.take_in-self.ensures.forward in
    let up : old.contiguous ≤ℤ e = omega (arith, ints) in
    let over = subst (λ z. AreInOrder left → end_before z left ≤ℤ end_before z left') twice c.drop_synced.ensures.rises k.awaited.in_order in
    rw (to_z-of_z w64 _ fits) (rises_over old.contiguous e (to_z w64 (of_z w64 e)) left left' _ up once c.stable_end-2.ensures.is over)
