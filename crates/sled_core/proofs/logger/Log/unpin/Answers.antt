use Rattle.std.proofs.Common.{arith, refl}
use Rattle.sled_core.specs.invariants.Running.{Fits}
use Rattle.sled_core.proofs.Line.KeptCalls.{goes_on_quietly}
use Rattle.sled_core.proofs.Line.Shown.{fits_pins}
use Rattle.sled_core.proofs.logger.Log.unpin.Goals as goal

pub returns-clause-fits : goal.returns-clause-fits
unfolding Fits
returns-clause-fits g c = λ H A f U fits others. fits_pins _ _ _ _ _ _ _ _ _ _ H A f U fits _ (λ some. let more = others some in omega (arith, more))

pub returns-clause-goes_on : goal.returns-clause-goes_on
returns-clause-goes_on g c = goes_on_quietly g.D.Device.trace g.C.Checksum.sum_of c.args.self.now _ (record { config = refl; checksum = refl }) refl (omega arith) (λ none. none)
