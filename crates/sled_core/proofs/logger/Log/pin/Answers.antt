use Rattle.std.proofs.Common.{arith, refl}
use Rattle.sled_core.specs.invariants.Fits.{Holds}
use Rattle.sled_core.specs.invariants.Running.{Fits}
use Rattle.sled_core.proofs.Line.KeptCalls.{goes_on_quietly}
use Rattle.sled_core.proofs.Line.Shown.{fits_pins}
use Rattle.sled_core.proofs.Line.LineEnds.{noted_still}
use Rattle.sled_core.proofs.logger.Log.pin.Goals as goal

pub returns-clause-keeps : goal.returns-clause-keeps
unfolding Fits Holds
returns-clause-keeps g c = record {
  goes_on = goes_on_quietly g.D.Device.trace g.C.Checksum.sum_of c.args.self.now _ (record { config = refl; checksum = refl }) refl (omega arith) (λ none. none);
  history = λ H holds. holds;
  fits = λ H A f U fits. fits_pins _ _ _ _ _ _ _ _ _ _ H A f U fits _ (λ some. omega arith);
  noted = noted_still c.args.self.now;
  kept = omega arith;
}
