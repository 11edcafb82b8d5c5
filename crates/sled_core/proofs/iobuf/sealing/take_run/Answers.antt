-- No more reservations are counted than all of them have.
use Rattle.std.proofs.Common.{◌<◌, arith, length, refl, rules}
use Rattle.sled_core.proofs.Reserve.Parts.{there_is}
use Rattle.sled_core.proofs.Sealed.Marked.{count_run, first_in_run}
use Rattle.sled_core.proofs.iobuf.sealing.take_run.Goals as goal

pub overflow_add-count : goal.overflow_add-count
overflow_add-count c =
    let some = c.in-Some.ensures.variant.0 refl in
    let within : 0 < length c.loop-b.sealed.items = search (rules, some) in
    let first = first_in_run c.loop-b.sealed.items c.in-Some.b.now (there_is c.loop-b.sealed.items 0 c.in-Some.b.now within c.in-Some.ensures.lookup) c.if-not-b.false in
    let so_far = c.loop-b.invariant.count in
    let small = c.requires in
    omega (arith, first, so_far, small, count_run c.args.sealed.now.items)
