-- None of them is open where none is in the first one, and none in those behind it.
use Rattle.std.proofs.Common.{◌≡◌, ◌∙◌, All, true, rules, sym}
use Rattle.std.proofs.lemmas.List.Elements.{All-cons, All-tail}
use Rattle.sled_core.specs.Buffers.{none_open}
use Rattle.sled_core.specs.declared.logger.io_bufs.SegmentBuffer.{SegmentBuffer}
use Rattle.sled_core.proofs.logger.io_bufs.IoBufs.none_open.Goals as goal

pub returns-then-none_open : goal.returns-then-none_open
returns-then-none_open c =
    let now = c.args.self.now in
    let first : none_open now.first.buffer.reserved.items ≡ true = sym c.none_open.ensures ∙ c.if-none_open.true in
    let behind : (c.all.result ≡ true → All (λ (s : SegmentBuffer). none_open s.buffer.reserved.items ≡ true) now.behind.items) × (All (λ (s : SegmentBuffer). none_open s.buffer.reserved.items ≡ true) now.behind.items → c.all.result ≡ true) = search rules in (
      λ yes. All-cons (λ (s : SegmentBuffer). none_open s.buffer.reserved.items ≡ true) now.first now.behind.items first (behind.0 yes),
      λ all. behind.1 (All-tail (λ (s : SegmentBuffer). none_open s.buffer.reserved.items ≡ true) now.first now.behind.items all),
    )
