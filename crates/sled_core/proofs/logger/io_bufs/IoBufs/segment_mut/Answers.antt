-- The first one is lent, or one behind it, by the number before.
use Rattle.std.proofs.Common.{◌≡◌, ◌-◌, ◌<◌, ap, refl, arith, ℕ, zero, suc}
use Rattle.std.specs.VecDeque.{deque_with_item}
use Rattle.sled_core.specs.inside.Begun.{with_nth}
use Rattle.sled_core.specs.declared.logger.io_bufs.IoBufs.{IoBufs}
use Rattle.sled_core.specs.declared.logger.io_bufs.SegmentBuffer.{SegmentBuffer}
use Rattle.sled_core.proofs.Holds.Nth.{get_behind}
use Rattle.sled_core.proofs.Reserve.Parts.{there_is}
use Rattle.sled_core.proofs.logger.io_bufs.IoBufs.segment_mut.Goals as goal

with_behind : (segments : IoBufs) (n : ℕ) → 0 < n → (s : SegmentBuffer) → record segments { behind = deque_with_item segments.behind (n - 1) s } ≡ with_nth segments n s
with_behind segments zero some s = absurd (omega (arith, some))
with_behind segments (suc n) some s = let at : suc n - 1 ≡ n = omega arith in ap (λ k. record segments { behind = deque_with_item segments.behind k s }) at

pub returns-else-n-eq0 : goal.returns-else-n-eq0
returns-else-n-eq0 c =
    let some : 0 < c.args.n = (let not = c.if-n-eq0.false in omega (arith, not)) in
    let now = c.args.self.now in
    let there = there_is now.behind.items (c.args.n - 1) c.index_mut.result.now (let within = c.requires in omega (arith, within, some)) c.index_mut.ensures.value in
    ((refl, λ s. with_behind now c.args.n some s), record { lends = tt; value = get_behind now.first now.behind.items c.args.n c.index_mut.result.now c.if-n-eq0.false there })
