-- Once all ranges were copied, no byte differs.
use Rattle.std.proofs.Common.{ℕ, List, ap, arith, ◌≤◌, length}
use Rattle.std.proofs.lemmas.List.{drop_all}
use Rattle.std.proofs.lemmas.Grind.{same_number_lists}
use Rattle.sled_store.specs.inside.Memory.{is_within}
use Rattle.sled_store.proofs.device.memory.log_file.follow.Goals as goal

pub returns-clause-items : goal.returns-clause-items
returns-clause-items c =
    let ranges : List (ℕ × ℕ) = c.args.ranges.now.items in
    let all : length ranges ≤ c.loop-range.range-index = omega arith in
    same_number_lists c.loop-range.settled.items c.args.bytes.now.items c.loop-range.invariant.long
    (λ k _. c.loop-range.invariant.same k (ap (λ (rs : List (ℕ × ℕ)). is_within rs k) (drop_all c.loop-range.range-index ranges all)))
