use Rattle.std.proofs.Common.{◌≡◌, ◌≤◌, ◌+◌, ◌-◌, ◌∙◌, ◌++◌, ℕ, List, length, drop, min, ap, sym, arith, length-take, length-drop, rules}
use Rattle.std.proofs.lemmas.List.{take_at, drop_all, append-nil}
use Rattle.sled_codec.specs.Places.{part}
use Rattle.sled_core.proofs.logger.read_message.read_body.Goals as goal

pub returns-clause-body : goal.returns-clause-body
returns-clause-body g c =
    let file : List ℕ = g.R.ReadAt.file c.args.reader.now in
    let dst : List ℕ = c.deref_mut.result.now in
    let long : length dst ≡ c.args.len = search rules in
    let count : c.in_ok-count.count ≡ min (length dst) (length file - c.args.at) = search rules in
    let le = c.if-count-len.false in
    let there = c.requires.there in
    let len : c.in_ok-count.count ≡ c.args.len = omega (arith, long, count, le) in
    let read : c.pread_exact_or_eof.new.dst ≡ part file c.args.at c.in_ok-count.count ++ drop c.in_ok-count.count dst = search rules in
    let text : c.pread_exact_or_eof.new.dst ≡ part file c.args.at c.args.len =
    read ∙ ap (λ n. part file c.args.at n ++ drop n dst) len ∙ ap (λ (l : List ℕ). part file c.args.at c.args.len ++ l) (drop_all c.args.len dst (omega (arith, long))) ∙ append-nil (part file c.args.at c.args.len) in
    let end : c.args.at + c.args.len ≤ length file = omega (arith, long, count, le, there) in
    let kept : c.resize.new.self.len ≡ c.args.len = search rules in
    let whole : length c.pread_exact_or_eof.new.dst ≡ c.resize.new.self.len =
    ap length text ∙ (let l : length (part file c.args.at c.args.len) ≡ c.args.len = omega (arith, end, length-take c.args.len (drop c.args.at file), length-drop c.args.at file) in l) ∙ sym kept in
    (take_at c.pread_exact_or_eof.new.dst (drop (length c.pread_exact_or_eof.new.dst) c.resize.new.self.items) c.resize.new.self.len whole ∙ text, end)
