-- The stable place lies where the batch begins that the search found, if that is read.
use Rattle.std.proofs.Common.{◌≡◌, ◌<◌, arith, length, rules, sym}
use Rattle.sled_core.proofs.Reached.Searched.{stable_found, stable_none}
use Rattle.sled_core.proofs.logger.batches.PendingBatches.lowest_open.Goals as goal

pub returns-then-i-len : goal.returns-then-i-len
returns-then-i-len c =
    let all : c.ended_before-i.result ≡ length c.args.self.now.noted.items = search rules in
    sym (stable_none c.args.end c.args.self.now.noted.items c.ended_before-i.result all c.ended_before-i.ensures.point)

pub returns : goal.returns
returns c =
    let within : c.ended_before-i.result < length c.args.self.now.noted.items = (
    let bound = c.ended_before-i.ensures.bound in
    let not = c.if-i-len.false in
    let len : c.len.result ≡ length c.args.self.now.noted.items = search rules in
    omega (arith, bound, not, len)) in
    let is = stable_found c.args.self.now.noted.items c.args.self.now.by_place c.ended_before-i.result c.index.result.now within c.args.end c.ended_before-i.ensures.point in
    search (rules, is)
