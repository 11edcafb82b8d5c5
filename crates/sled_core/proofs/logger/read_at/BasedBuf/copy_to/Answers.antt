use Rattle.std.proofs.Common.{◌≡◌, ◌-◌, ◌∙◌, ◌++◌, ℕ, List, length, take, drop, min, ap, sym, rules}
use Rattle.std.proofs.lemmas.List.{drop_min}
use Rattle.sled_core.specs.Reading.{file_of}
use Rattle.sled_core.proofs.Read.InSlot.{file_behind}
use Rattle.sled_core.proofs.logger.read_at.BasedBuf.copy_to.Goals as goal

pub returns-clause-bytes : goal.returns-clause-bytes
returns-clause-bytes c =
    let bytes : List ℕ = c.args.self.now.buf.items in
    let n : ℕ = c.min-count.result in
    let start : c.min-start.result ≡ min (c.args.at - c.args.self.now.offset) (length bytes) = search rules in
    let behind : drop c.args.at (file_of c.args.self.now) ≡ drop c.min-start.result bytes =
    file_behind c.args.self.now.offset c.args.at bytes c.requires ∙ sym (drop_min (c.args.at - c.args.self.now.offset) bytes) ∙ ap (λ k. drop k bytes) (sym start) in
    let copied : c.copy_from_slice.new.self ≡ take n (drop c.min-start.result bytes) = search rules in
    ap (λ (l : List ℕ). l ++ drop n c.args.dst.now) (copied ∙ ap (take n) (sym behind))
