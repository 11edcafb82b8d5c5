-- The temporary snapshot is kept in memory too; without memory all is as it was.
use Rattle.std.proofs.Common.{◌∙◌, ap, refl}
use Rattle.sled_file.specs.Failures.{doing_in}
use Rattle.sled_file.proofs.TraceLemmas.{carried, failed_now, filled_now, some_kept, some_same, told_now}
use Rattle.sled_file.proofs.device.FileDeviceDevice.snapshot_write.Goals as goal

pub invariant_of-self-in-Break-branch-2 : goal.invariant_of-self-in-Break-branch-2
invariant_of-self-in-Break-branch-2 g c = record {
  mirrors = c.in_err-write_snapshot.ensures.err _ c.args.self.now.mirrors;
  failed = some_kept _ _ c.begin.ensures.first ∙ c.args.self.now.failed;
  told = ap doing_in c.begin.ensures.first ∙ c.args.self.now.told;
  filled = λ none. some_same _ _ c.in_err-write_snapshot.ensures.same ∙ c.args.self.now.filled none;
}

pub invariant_of-self-2 : goal.invariant_of-self-2
invariant_of-self-2 g c = record {
  mirrors = carried _ _ _ _ _ _ c.write_snapshot-answer.ensures (λ t. refl) (c.in_ok-write_snapshot.ensures.ok _ c.args.self.now.mirrors);
  failed = failed_now _ _ _ _ _ _ _ c.write_snapshot-answer.ensures c.args.self.now.failed c.begin.ensures.first c.end.ensures.failed;
  told = told_now _ _ _ _ _ _ _ _ _ c.write_snapshot-answer.ensures refl c.args.self.now.told c.begin.ensures.first c.end.ensures.same c.end.ensures.kept;
  filled = filled_now _ _ _ _ _ _ c.write_snapshot-answer.ensures c.args.self.now.filled (c.in_ok-write_snapshot.ensures.kept);
}
