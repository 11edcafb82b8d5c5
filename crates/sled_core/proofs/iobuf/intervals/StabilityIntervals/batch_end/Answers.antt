use Rattle.std.proofs.Common.{rules, ◌<◌, ◌≤ℤ◌, ◌<ℤ◌, Some, w64, SFits, to_z, of_z, arith, sym, ap, subst, length}
use Rattle.std.proofs.lemmas.Int.{ints, to_z-of_z}
use Rattle.std.specs.List.{AllWithin, Contains}
use Rattle.sled_core.specs.StableEnds.{AreInOrder, IsOpenAround}
use Rattle.sled_core.proofs.Stable.Noted.{held_is}
use Rattle.sled_core.proofs.Stable.Waiting.{int_le-true}
use Rattle.sled_core.proofs.iobuf.intervals.StabilityIntervals.batch_end.Goals as goal

pub returns-then-batch-place-clause-found : goal.returns-then-batch-place-clause-found
returns-then-batch-place-clause-found c s is bs k b among h =
    let v = c.args.self.now in
    let x = c.in_ok-batch.field-0.now in
    let at = c.ended_by.result in
    let left = v.batches.items in
    let place = c.args.place in
    let same = to_z-of_z w64 place c.ranges.place in
    let peg_fits : SFits w64 x.1 = search rules in
    let below = subst (λ z. AreInOrder left → AllWithin (λ b. b.1 ≤ℤ z) left 0 at) same c.ended_by.ensures.below k.awaited.in_order in
    let above = subst (λ z. AreInOrder left → AllWithin (λ b. z <ℤ b.1) left at (length left)) same c.ended_by.ensures.above k.awaited.in_order in
    let some : at < length left = search rules in
    let up : place <ℤ x.1 = subst (λ y. place <ℤ y.1) (sym c.in_ok-batch.ensures.lookup) (above at x (omega arith) some) in
    let held = held_is bs v.contiguous place left at x k.awaited below some c.in_ok-batch.ensures.lookup up b among h in
    rw (to_z-of_z w64 x.1 peg_fits) (ap (λ y. Some y.1) (sym held))

pub returns-then-batch-place-clause-only : goal.returns-then-batch-place-clause-only
returns-then-batch-place-clause-only c s is bs k =
    let v = c.args.self.now in
    let x = c.in_ok-batch.field-0.now in
    let at = c.ended_by.result in
    let left = v.batches.items in
    let place = c.args.place in
    let same = to_z-of_z w64 place c.ranges.place in
    let peg_fits : SFits w64 x.1 = search rules in
    let low_fits : SFits w64 x.0 = search rules in
    let above = subst (λ z. AreInOrder left → AllWithin (λ b. z <ℤ b.1) left at (length left)) same c.ended_by.ensures.above k.awaited.in_order in
    let some : at < length left = search rules in
    let up : place <ℤ x.1 = subst (λ y. place <ℤ y.1) (sym c.in_ok-batch.ensures.lookup) (above at x (omega arith) some) in
    let among : Contains bs x = subst (Contains bs) (sym c.in_ok-batch.ensures.lookup) (k.awaited.among at x some) in
    let open_yet : v.contiguous <ℤ x.1 = subst (λ y. v.contiguous <ℤ y.1) (sym c.in_ok-batch.ensures.lookup) (k.open_yet at x some) in
    let test = int_le-true (to_z w64 (of_z w64 x.0)) (to_z w64 (of_z w64 place)) c.if-batch-place.true in
    let low : x.0 ≤ℤ place = omega (arith, ints) in
    let holds : IsOpenAround v.contiguous place x = record { low = low; peg = up; open_yet = open_yet } in
    rw (to_z-of_z w64 x.1 peg_fits) (x.0, among, holds)

pub returns-else-batch-place-clause-found : goal.returns-else-batch-place-clause-found
returns-else-batch-place-clause-found c s is bs k b among h =
    let v = c.args.self.now in
    let x = c.in_ok-batch.field-0.now in
    let at = c.ended_by.result in
    let left = v.batches.items in
    let place = c.args.place in
    let same = to_z-of_z w64 place c.ranges.place in
    let low_fits : SFits w64 x.0 = search rules in
    let below = subst (λ z. AreInOrder left → AllWithin (λ b. b.1 ≤ℤ z) left 0 at) same c.ended_by.ensures.below k.awaited.in_order in
    let above = subst (λ z. AreInOrder left → AllWithin (λ b. z <ℤ b.1) left at (length left)) same c.ended_by.ensures.above k.awaited.in_order in
    let some : at < length left = search rules in
    let up : place <ℤ x.1 = subst (λ y. place <ℤ y.1) (sym c.in_ok-batch.ensures.lookup) (above at x (omega arith) some) in
    let held = held_is bs v.contiguous place left at x k.awaited below some c.in_ok-batch.ensures.lookup up b among h in
    let low : x.0 ≤ℤ place = subst (λ y. y.0 ≤ℤ place) held h.low in
    let test = c.if-batch-place.false in
    let beyond : place <ℤ x.0 = grind (arith, ints) in
    absurd (omega (arith, ints))
