use Rattle.std.proofs.Common.{◌≡◌, ◌∙◌, arith, map}
use Rattle.sled_core.specs.Fits.{noted_in, stable_end, synced_end}
use Rattle.sled_core.specs.OpenBatches.{batch_of, not_whole, stable_below}
use Rattle.sled_core.proofs.Reached.StableBelow.{stable_low}
use Rattle.sled_core.proofs.logger.Log.stable_end.Goals as goal

pub returns-clause-in_reach : goal.returns-clause-in_reach
returns-clause-in_reach g c =
    let log = c.args.self.now in
    let end = c.synced_end.ensures.is in
    let small = c.synced_end.ensures.in_reach in
    let is : c.lowest_open.result ≡ stable_end log = c.lowest_open.ensures ∙ (λ j. stable_below (end j) (not_whole (end j) (map batch_of log.batches.noted.items))) in
    let low = stable_low (synced_end log) (noted_in log) in
    omega (arith, is, end, small, low)
