-- Without memory all is as it was.
use Rattle.std.proofs.Common.{◌∙◌, ap}
use Rattle.sled_file.specs.Failures.{doing_in}
use Rattle.sled_file.proofs.TraceLemmas.{some_kept, some_same}
use Rattle.sled_file.proofs.device.FileDeviceDevice.write_at.Goals as goal

pub invariant_of-self-in-Break-branch-2 : goal.invariant_of-self-in-Break-branch-2
invariant_of-self-in-Break-branch-2 g c = record {
  mirrors = c.in_err-write.ensures.err _ c.args.self.now.mirrors;
  failed = some_kept _ _ c.begin.ensures.first ∙ c.args.self.now.failed;
  told = ap doing_in c.begin.ensures.first ∙ c.args.self.now.told;
  filled = λ none. some_same _ _ c.write.ensures.temporary ∙ c.args.self.now.filled none;
}
