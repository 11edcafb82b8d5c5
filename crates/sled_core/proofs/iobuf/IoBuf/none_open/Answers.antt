-- None is open where none of the current buffer is counted, and no sealed one waits.
use Rattle.std.proofs.Common.{◌≡◌, ◌∙◌, sym, ap, arith, drop, false, nat_eq}
use Rattle.std.proofs.lemmas.Bool.Decides.{nat_tests}
use Rattle.sled_core.specs.Buffers.{open_in}
use Rattle.sled_core.specs.SealedBuffers.{sealed_count}
use Rattle.sled_core.proofs.Sealed.SealedCounts.{none_open_is, some_open_is}
use Rattle.sled_core.proofs.iobuf.IoBuf.none_open.Goals as goal

pub returns-then-n_writers-eq0 : goal.returns-then-n_writers-eq0
returns-then-n_writers-eq0 c =
    let rs = c.args.self.now.reserved.items in
    let bs = c.args.self.now.sealed.items in
    let behind : open_in (drop (sealed_count bs) rs) ≡ 0 = ap (λ n. open_in (drop n rs)) (sym c.args.self.now.before) ∙ sym c.args.self.now.counted ∙ sym c.n_writers.ensures ∙ c.if-n_writers-eq0.true in
    none_open_is c.args.self.now.written_len rs bs c.all_ended.result c.args.self.now.are behind c.all_ended.ensures.0 c.all_ended.ensures.1

pub returns-else-n_writers-eq0 : goal.returns-else-n_writers-eq0
returns-else-n_writers-eq0 c =
    let some = c.if-n_writers-eq0.false in
    let counted : nat_eq c.n_writers.result 0 ≡ false = grind (arith, nat_tests, some) in
    counted ∙ some_open_is c.args.self.now.first c.args.self.now.reserved.items (λ none. some (c.n_writers.ensures ∙ c.args.self.now.counted ∙ none))
