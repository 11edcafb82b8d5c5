-- Growing with zeros and writing over them is a write of the log.
use Rattle.std.proofs.Common.{◌≡◌, ◌∙◌, ◌<◌, ◌+◌, ◌-◌, ◌++◌, ap, ℕ, List, length, take, drop, replicate, arith}
use Rattle.std.proofs.lemmas.Bool.Decides.{nat_tests}
use Rattle.sled_store.specs.Device.{overwritten}
use Rattle.sled_store.proofs.LogFile.OverwrittenLemmas.{overwritten-grown}
use Rattle.sled_file.proofs.mirror.Mirror.write.Goals as goal

pub returns-clause-ok : goal.returns-clause-ok
returns-clause-ok c = λ s mirrors.
    let log : List ℕ = c.args.self.now.log.items in
    let at = c.args.at in
    let new : List ℕ = c.args.bytes.now in
    let grown : c.grow.new.bytes.items ≡ log ++ replicate (at + length new - length log) 0 = c.in_ok-grow.ensures.ok in
    let some : 0 < length new = grind (arith, nat_tests) in
    record {
      log = c.copy_in.ensures ∙ ap (λ (b : List ℕ). take at b ++ new ++ drop (at + length new) b) grown ∙ overwritten-grown log at new some
          ∙ ap (λ (b : List ℕ). overwritten b at new) mirrors.log;
      blobs = mirrors.blobs;
      snapshots = mirrors.snapshots;
      temporary = mirrors.temporary;
    }
