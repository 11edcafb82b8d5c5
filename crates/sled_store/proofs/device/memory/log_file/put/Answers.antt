-- Growing with zeros and writing over them overwrites.
use Rattle.std.proofs.Common.{◌∙◌, ap, List, ℕ, length, replicate, ◌++◌, ◌-◌, ◌+◌, arith, ◌≡◌, ◌<◌, take, drop}
use Rattle.std.proofs.lemmas.Bool.Decides.{nat_tests}
use Rattle.sled_store.proofs.LogFile.OverwrittenLemmas.{overwritten-grown}
use Rattle.sled_store.proofs.device.memory.log_file.put.Goals as goal

pub returns-clause-ok : goal.returns-clause-ok
returns-clause-ok c =
    let bytes : List ℕ = c.args.bytes.now.items in
    let at = c.args.at in
    let new : List ℕ = c.args.new.now in
    let grown : c.grow.new.bytes.items ≡ bytes ++ replicate (at + length new - length bytes) 0 = c.in_ok-grow.ensures.ok in
    let some : 0 < length new = grind (arith, nat_tests) in
    c.copy_in.ensures.items ∙ ap (λ (b : List ℕ). take at b ++ new ++ drop (at + length new) b) grown ∙ overwritten-grown bytes at new some
