-- Eight bytes more are gone over.
use Rattle.std.proofs.Common.{◌∙◌}
use Rattle.std.proofs.Math.Nat.{le_refl}
use Rattle.sled_file.proofs.CrcLemmas.{eight_first}
use Rattle.sled_file.proofs.crc32.over_eights.Goals as goal

pub loop-rest-preserved : goal.loop-rest-preserved
loop-rest-preserved c =
    eight_first c.over_eight-sum.result c.loop-rest.sum c.loop-rest.rest.now _ c.in-len8-up.len_at_least (le_refl _) c.over_eight-sum.ensures ∙ c.loop-rest.invariant
