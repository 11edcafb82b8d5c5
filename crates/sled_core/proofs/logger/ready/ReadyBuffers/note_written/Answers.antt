-- The buffer's place goes.
use Rattle.std.proofs.Common.{arith, ◌≡◌, ◌∙◌, ◌+◌, ◌<◌, ◌≤◌, ap, sym, subst, ℕ, suc, true, List, [], ◌∷◌, ◌++◌, append_assoc, take, drop}
use Rattle.std.specs.List.{All}
use Rattle.sled_core.specs.declared.iobuf.Sealed.{Sealed}
use Rattle.sled_core.specs.inside.ReadyBuffers.{HasOwn}
use Rattle.sled_core.proofs.Pending.Owns.{changed, ready_uncounted}
use Rattle.sled_core.proofs.Pending.Places.{Rise, around, begins, higher, higher_above, lower, lower_below, parted_ready, rise_of, written_around}
use Rattle.sled_core.proofs.logger.ready.ReadyBuffers.note_written.Goals as goal

pub returns : goal.returns
returns c b before behind others there ready has =
    let buffer = c.args.buffer.now in
    let place : ℕ = c.args.site.now.place in
    let from : ℕ = buffer.written_len in
    let bs : List Sealed = buffer.sealed.items in
    let xs : List Sealed = take c.args.k bs in
    let ys : List Sealed = drop (suc c.args.k) bs in
    let whole = around bs c.args.k b there in
    let was : HasOwn c.args.self.now place from (xs ++ b ∷ ys) before behind others = subst (λ (l : List Sealed). HasOwn c.args.self.now place from l before behind others) whole has in
    let rise : Rise from (xs ++ b ∷ ys) = subst (Rise from) whole (rise_of from buffer.reserved.items bs buffer.are) in
    let at : place + c.span-from.result.0 ≡ begins place from xs b ys before behind = ap (λ n. place + n) c.span-from.ensures.from in
    let gone = subst (λ (p : ℕ). (us vs : List ℕ) → c.args.self.now.places.items ≡ us ++ p ∷ vs → All (λ q. q < p) us → All (λ q. p ≤ q) vs → c.leave.new.self.places.items ≡ us ++ vs) at c.leave.ensures.places
    (lower place from xs b ys before behind) (higher place from xs b ys before behind) (was.places ∙ parted_ready place from xs b ys before behind ready)
    (lower_below place from xs b ys before behind rise was.low) (higher_above place from xs b ys before behind rise was.high) in
    let uncounted = ready_uncounted b ready in
    subst (λ (l : List Sealed). HasOwn c.leave.new.self place from l before behind others) (sym (written_around bs c.args.k b there))
    (changed place from xs b ys before behind others b.open_count true c.args.self.now c.leave.new.self was (gone ∙ sym (append_assoc (lower place from xs b ys before behind) [] (higher place from xs b ys before behind))) (omega (arith, uncounted, c.leave.ensures.held)))
