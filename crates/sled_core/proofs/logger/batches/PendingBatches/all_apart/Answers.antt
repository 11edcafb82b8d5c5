-- Those that don't lie above the two places end no further than the last of them.
use Rattle.std.proofs.Common.{◌≡◌, ◌⊎◌, ◌+◌, ◌-◌, ◌<◌, ◌≤◌, suc, ℤ, pos, w64, to_z, of_z, arith, get_or, length, refl, subst, sym}
use Rattle.std.specs.Prelude.{unsigned_abs, ◌<ℤ◌}
use Rattle.std.specs.List.Sorted.{IsPartitionPoint}
use Rattle.std.proofs.lemmas.Int.{to_z-of_z}
use Rattle.sled_core.specs.declared.logger.batches.NotedBatch.{NotedBatch}
use Rattle.sled_core.proofs.Reached.Searched.{none_apart, open_apart}
use Rattle.sled_core.proofs.logger.batches.PendingBatches.all_apart.Goals as goal

pub returns-then-i-eq0 : goal.returns-then-i-eq0
returns-then-i-eq0 c =
    let xs = c.args.self.now.noted.items in
    let peg : ℤ = to_z w64 (of_z w64 c.args.peg) in
    let at : peg ≡ c.args.peg = to_z-of_z w64 c.args.peg c.ranges.peg in
    let point = subst (λ n. IsPartitionPoint (λ (b : NotedBatch). b.low < unsigned_abs peg + 1) (λ (b : NotedBatch). unsigned_abs peg + 1 ≤ b.low) xs n) c.if-i-eq0.true c.begun_before-i.ensures.point in
    (λ yes b there. subst (λ z. (pos b.peg <ℤ c.args.low) ⊎ (z <ℤ pos b.low)) at (none_apart c.args.end xs c.args.low peg c.if-peg-lt0.false point b there), λ all. refl)

pub returns : goal.returns
returns c =
    let xs = c.args.self.now.noted.items in
    let i = c.begun_before-i.result in
    let some : i ≡ suc (i - 1) = (let not = c.if-i-eq0.false in omega (arith, not)) in
    let within : i - 1 < length xs = (let bound = c.begun_before-i.ensures.bound in omega (arith, bound, some)) in
    let peg : ℤ = to_z w64 (of_z w64 c.args.peg) in
    let at : peg ≡ c.args.peg = to_z-of_z w64 c.args.peg c.ranges.peg in
    let point = subst (λ n. IsPartitionPoint (λ (b : NotedBatch). b.low < unsigned_abs peg + 1) (λ (b : NotedBatch). unsigned_abs peg + 1 ≤ b.low) xs n) some c.begun_before-i.ensures.point in
    let low : ℤ = to_z w64 (of_z w64 c.args.low) in
    let low_is : low ≡ c.args.low = to_z-of_z w64 c.args.low c.ranges.low in
    let is = open_apart xs c.args.self.now.by_place (i - 1) c.index.result.now within c.args.end low peg c.if-peg-lt0.false point in
    let same : c.index.result.now ≡ get_or xs (i - 1) c.index.result.now = c.index.ensures in (
      λ yes b there. subst (λ z. (pos b.peg <ℤ z) ⊎ (c.args.peg <ℤ pos b.low)) low_is (subst (λ z. (pos b.peg <ℤ low) ⊎ (z <ℤ pos b.low)) at
          (is.0 (subst (λ (x : NotedBatch). (x.peg < c.args.end) ⊎ (pos x.peg <ℤ low)) same (c.is_below.ensures.0 yes)) b there)),
      λ all. c.is_below.ensures.1 (subst (λ (x : NotedBatch). (x.peg < c.args.end) ⊎ (pos x.peg <ℤ low)) (sym same)
          (is.1 (λ b there. subst (λ z. (pos b.peg <ℤ z) ⊎ (peg <ℤ pos b.low)) (sym low_is) (subst (λ z. (pos b.peg <ℤ c.args.low) ⊎ (z <ℤ pos b.low)) (sym at) (all b there))))),
    )
