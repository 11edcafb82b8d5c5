-- What was found is what is read, and no call failed yet.
use Rattle.std.proofs.Common.{◌∙◌, ap, sym}
use Rattle.sled_file.specs.Calls.{has_failure}
use Rattle.sled_file.specs.Failures.{doing_in, first_failed}
use Rattle.sled_file.proofs.TraceLemmas.{begun, nothing_filled, some_kept}
use Rattle.sled_file.proofs.device.FileDevice.new.Goals as goal

pub invariant_of-result : goal.invariant_of-result
invariant_of-result g c = record {
  mirrors = begun c.args.mirror (g.F.Folder.made c.args.folder) g.S.Start.past c.requires;
  failed = some_kept _ _ c.new.ensures.first ∙ sym (ap has_failure c.requires);
  told = ap doing_in c.new.ensures.first ∙ sym (ap first_failed c.requires);
  filled = nothing_filled c.args.mirror (g.F.Folder.made c.args.folder) c.requires;
}
