-- What is left out is wholly on the device, so that those that aren't are the same; and it is left out where it is half of them or more.
use Rattle.std.proofs.Common.{◌≡◌, ◌∙◌, ap, arith, rules, sym, ℕ, List, length, map, vec_len}
use Rattle.std.proofs.lemmas.List.{length-map}
use Rattle.sled_core.specs.declared.logger.batches.NotedBatch.{NotedBatch}
use Rattle.sled_core.specs.OpenBatches.{batch_of, not_whole}
use Rattle.sled_core.proofs.Reached.OpenBatch.{not_whole_further}
use Rattle.sled_core.proofs.Reached.Searched.{left_from}
use Rattle.sled_core.proofs.logger.batches.PendingBatches.drop_whole.Goals as goal

-- Those that are kept are the ones that aren't wholly on the device, and so are those that aren't of these.
kept : (end : ℕ) (old new : List NotedBatch) → map batch_of new ≡ not_whole end (map batch_of old) → not_whole end (map batch_of new) ≡ not_whole end (map batch_of old)
kept end old new items = ap (not_whole end) items ∙ not_whole_further end end (omega arith) (map batch_of old)

count : (end : ℕ) (old new : List NotedBatch) → map batch_of new ≡ not_whole end (map batch_of old) → length new ≡ length (not_whole end (map batch_of new))
count end old new items = sym (length-map new batch_of) ∙ ap length items ∙ sym (ap length (kept end old new items))

pub returns-then-whole-len-clause-noted : goal.returns-then-whole-len-clause-noted
returns-then-whole-len-clause-noted c = kept c.args.end c.args.self.now.noted.items c.keep_open.new.self.noted.items c.keep_open.ensures.items

pub returns-then-whole-len-clause-few : goal.returns-then-whole-len-clause-few
returns-then-whole-len-clause-few c =
    let same = count c.args.end c.args.self.now.noted.items c.keep_open.new.self.noted.items c.keep_open.ensures.items in
    omega (arith, same)

pub returns-else-whole-len-clause-few : goal.returns-else-whole-len-clause-few
returns-else-whole-len-clause-few c =
    let old = c.args.self.now.noted in
    let left = left_from c.args.end c.ended_before-whole.result old.items c.ended_before-whole.ensures.point.1 in
    let all : vec_len old ≡ length old.items = search rules in
    omega (arith, left, all)
