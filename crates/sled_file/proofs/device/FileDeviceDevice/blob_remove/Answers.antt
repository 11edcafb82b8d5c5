-- The blob is removed in memory too.
use Rattle.std.proofs.Common.{refl}
use Rattle.sled_file.proofs.TraceLemmas.{carried, failed_now, filled_now, some_same, told_now}
use Rattle.sled_file.proofs.device.FileDeviceDevice.blob_remove.Goals as goal

pub invariant_of-self-2 : goal.invariant_of-self-2
invariant_of-self-2 g c = record {
  mirrors = carried _ _ _ _ _ _ c.remove_blob-answer.ensures (λ t. refl) (c.remove_blob.ensures.removed _ c.args.self.now.mirrors);
  failed = failed_now _ _ _ _ _ _ _ c.remove_blob-answer.ensures c.args.self.now.failed c.begin.ensures.first c.end.ensures.failed;
  told = told_now _ _ _ _ _ _ _ _ _ c.remove_blob-answer.ensures refl c.args.self.now.told c.begin.ensures.first c.end.ensures.same c.end.ensures.kept;
  filled = filled_now _ _ _ _ _ _ c.remove_blob-answer.ensures c.args.self.now.filled (some_same _ _ c.remove_blob.ensures.temporary);
}
