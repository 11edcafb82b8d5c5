-- The buffer that had the reservation is the one around where that begins: its place comes, where it has no other open one.
use Rattle.std.proofs.Common.{arith, ◌∙◌, ◌+◌, ◌<◌, ap, sym, subst, List}
use Rattle.sled_core.specs.declared.iobuf.Sealed.{Sealed}
use Rattle.sled_core.specs.inside.ReadyBuffers.{HasOwn}
use Rattle.sled_core.specs.SealedBuffers.{sealed_count}
use Rattle.sled_core.proofs.Pending.Ends.{around_it, entered, left_held, none_of_them, now_ready, read_at, read_below, stays}
use Rattle.sled_core.proofs.logger.ready.ReadyBuffers.note_ended.Goals as goal

-- It isn't of a sealed one.
pub returns-then-index-buffer : goal.returns-then-index-buffer
returns-then-index-buffer c bs rs before behind others ends has =
    let b = c.args.buffer.now in
    let at = b.before in
    subst (λ (l : List Sealed). HasOwn c.args.self.now c.args.site.now.place b.written_len l before behind others)
    (sym (none_of_them b c.args.index bs rs ends (omega (arith, at, c.if-index-buffer.true)))) has

-- It is of one.

few : (c : goal.After-index) → c.args.index < sealed_count c.args.buffer.now.sealed.items
few c = let at = c.args.buffer.now.before in omega (arith, at, c.if-index-buffer.false)

pub around-k-requires-clause-sealed : goal.around-k-requires-clause-sealed
around-k-requires-clause-sealed c = let own = c.requires.own in read_below c.args.buffer.now c.args.index own.0 own.1 own.5 (few c) c.index.result.now c.index.ensures

pub around-k-requires-clause-behind : goal.around-k-requires-clause-behind
around-k-requires-clause-behind c = let own = c.requires.own in read_at c.args.buffer.now c.args.index own.0 own.1 own.5 (few c) c.index.result.now c.index.ensures

pub enter-requires : goal.enter-requires
enter-requires c =
    let b = c.args.buffer.now in
    let own = c.requires.own in
    let at = b.before in
    let its = around_it b c.args.index own.0 own.1 own.5 (omega (arith, at, c.if-index-buffer.false)) c.index.result.now c.index.ensures c.around-k.result.0 c.around-k.ensures.point in
    left_held c.args.self.now c.args.site.now.place b own.0 own.2 own.3 own.4 c.around-k.result.0 its own.6

pub returns-then-is_ready : goal.returns-then-is_ready
returns-then-is_ready c bs rs before behind others ends has =
    let b = c.args.buffer.now in
    let at = b.before in
    let its = around_it b c.args.index bs rs ends (omega (arith, at, c.if-index-buffer.false)) c.index.result.now c.index.ensures c.around-k.result.0 c.around-k.ensures.point in
    let now = now_ready b bs c.around-k.result.0 its c.around-k.result.1 c.is_ready.result c.around-k.ensures.there c.is_ready.ensures in
    entered c.args.self.now c.args.site.now.place b bs before behind others c.around-k.result.0 its has c.enter.new.self (now ∙ c.if-is_ready.true)
    (c.args.site.now.place + c.span-from.result.0) (ap (λ n. c.args.site.now.place + n) c.span-from.ensures.from) c.enter.ensures.places c.enter.ensures.held

pub returns-else-is_ready : goal.returns-else-is_ready
returns-else-is_ready c bs rs before behind others ends has =
    let b = c.args.buffer.now in
    let at = b.before in
    let its = around_it b c.args.index bs rs ends (omega (arith, at, c.if-index-buffer.false)) c.index.result.now c.index.ensures c.around-k.result.0 c.around-k.ensures.point in
    let now = now_ready b bs c.around-k.result.0 its c.around-k.result.1 c.is_ready.result c.around-k.ensures.there c.is_ready.ensures in
    stays c.args.self.now c.args.site.now.place b bs before behind others c.around-k.result.0 its has (now ∙ c.if-is_ready.false)
