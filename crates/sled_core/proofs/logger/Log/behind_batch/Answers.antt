-- Each of the batches ends in front of where what was reserved ends.
use Rattle.std.proofs.Common.{◌≡◌, ◌∙◌, ◌<◌, ◌^◌, arith, map}
use Rattle.std.proofs.lemmas.List.Elements.{All-weaker}
use Rattle.sled_core.specs.declared.logger.batches.NotedBatch.{NotedBatch}
use Rattle.sled_core.specs.Fits.{noted_in, reserved_end}
use Rattle.sled_core.specs.OpenBatches.{batch_of, behind_batch, not_whole}
use Rattle.sled_core.proofs.Line.NoneLeft.{noted_pegs}
use Rattle.sled_core.proofs.Reached.NotedSteps.{behind_within}
use Rattle.sled_core.proofs.Line.Places.{reserved_in_reach}
use Rattle.sled_core.proofs.logger.Log.behind_batch.Goals as goal

pub behind_last-requires : goal.behind_last-requires
behind_last-requires g c =
    let log = c.args.self.now in
    let reach = reserved_in_reach log in
    record { pegs = All-weaker (λ (b : NotedBatch). b.peg < reserved_end log) (λ (b : NotedBatch). b.peg < 2 ^ 63) (λ b less. omega (arith, less, reach)) log.batches.noted.items log.noted.pegs }

pub returns-clause-reserved : goal.returns-clause-reserved
returns-clause-reserved g c =
    let log = c.args.self.now in
    let is : c.behind_last.result ≡ behind_batch c.args.behind (noted_in log) = c.behind_last.ensures ∙ (λ j. behind_batch c.args.behind (not_whole (c.synced_end.ensures.is j) (map batch_of log.batches.noted.items))) in
    let most = behind_within c.args.behind (reserved_end log) (noted_in log) c.requires.reserved (λ b known low. noted_pegs log b known) in
    omega (arith, is, most)
