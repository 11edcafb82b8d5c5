-- Up to where has to be written is the place behind the peg of the batch that the search found, or the place itself.
use Rattle.std.proofs.Common.{◌≡◌, ◌-◌, ◌<◌, ◌≤◌, suc, arith, length, rules, subst, sym}
use Rattle.std.specs.List.Sorted.{IsPartitionPoint}
use Rattle.sled_core.specs.declared.logger.batches.NotedBatch.{NotedBatch}
use Rattle.sled_core.proofs.Reached.NotedSteps.{behind_all, left_of}
use Rattle.sled_core.proofs.Reached.Searched.{behind_found, behind_whole, none_before}
use Rattle.sled_core.proofs.logger.batches.PendingBatches.behind_last.Goals as goal

pub returns-then-i-eq0 : goal.returns-then-i-eq0
returns-then-i-eq0 c =
    let xs = c.args.self.now.noted.items in
    let none = subst (λ i. IsPartitionPoint (λ (b : NotedBatch). b.low < c.args.behind) (λ (b : NotedBatch). c.args.behind ≤ b.low) xs i) c.if-i-eq0.true c.begun_before-i.ensures.point in
    sym (behind_all c.args.behind (left_of c.args.end xs) (none_before c.args.end c.args.behind xs none))

pub returns-then-b-end : goal.returns-then-b-end
returns-then-b-end c =
    let xs = c.args.self.now.noted.items in
    let i = c.begun_before-i.result in
    let some : i ≡ suc (i - 1) = (let not = c.if-i-eq0.false in omega (arith, not)) in
    let within : i - 1 < length xs = (let bound = c.begun_before-i.ensures.bound in omega (arith, bound, some)) in
    let point = subst (λ n. IsPartitionPoint (λ (b : NotedBatch). b.low < c.args.behind) (λ (b : NotedBatch). c.args.behind ≤ b.low) xs n) some c.begun_before-i.ensures.point in
    let is = behind_whole xs c.args.self.now.by_place (i - 1) c.index-b.result.now within c.args.end c.args.behind point in
    search (rules, is)

pub returns : goal.returns
returns c =
    let xs = c.args.self.now.noted.items in
    let i = c.begun_before-i.result in
    let some : i ≡ suc (i - 1) = (let not = c.if-i-eq0.false in omega (arith, not)) in
    let within : i - 1 < length xs = (let bound = c.begun_before-i.ensures.bound in omega (arith, bound, some)) in
    let point = subst (λ n. IsPartitionPoint (λ (b : NotedBatch). b.low < c.args.behind) (λ (b : NotedBatch). c.args.behind ≤ b.low) xs n) some c.begun_before-i.ensures.point in
    let is = behind_found xs c.args.self.now.by_place (i - 1) c.index-b.result.now within c.args.end c.args.behind point in
    search (rules, is)
