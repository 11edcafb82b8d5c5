use Rattle.sled_core.specs.invariants.Running.{Fits}
use Rattle.sled_core.proofs.Line.Shown.{fits_acknowledges}
use Rattle.sled_core.proofs.Line.Buffers.{first_waits}
use Rattle.sled_core.proofs.logger.Log.stable_offset.Goals as goal

pub returns-clause-acknowledges : goal.returns-clause-acknowledges
unfolding Fits
returns-clause-acknowledges g c = λ H A f U fits. (fits_acknowledges _ _ _ _ _ _ _ _ _ _ H A f U fits)

pub returns-clause-first : goal.returns-clause-first
returns-clause-first g c = first_waits c.args.self.now
