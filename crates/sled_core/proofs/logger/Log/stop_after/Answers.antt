-- What a log holds and fits depends on what the calls made of its device alone, and a stop that is asked for leaves that.
use Rattle.std.proofs.Common.{◌≡◌, Bool, arith, refl, rules}
use Rattle.sled_store.specs.Device.{state_of}
use Rattle.sled_store.proofs.Traces.StopLemmas.{asked_state}
use Rattle.sled_core.specs.invariants.Fits.{Holds}
use Rattle.sled_core.specs.Logged.{logged}
use Rattle.sled_core.specs.invariants.Running.{Fits}
use Rattle.sled_core.proofs.Line.KeptCalls.{goes_on_asked}
use Rattle.sled_core.proofs.Line.Faulty.{fits_with_device, holds_with_device}
use Rattle.sled_core.proofs.Line.LineEnds.{noted_still}
use Rattle.sled_core.proofs.logger.Log.stop_after.Goals as goal

pub returns-clause-keeps : goal.returns-clause-keeps
unfolding Holds Fits
returns-clause-keeps g c = record {
  preserves = (
      let old = c.args.self.now in
      let asked = c.stop_after.ensures.trace in
      let trace = g.D.Device.trace in
      let stopped : Bool = g.D.CrashDevice.is_stopped old.config.device in
      let same : state_of (trace c.stop_after.new.self) ≡ state_of (trace old.config.device) = asked_state stopped c.args.n (trace old.config.device) (trace c.stop_after.new.self) asked in
      record {
        goes_on = goes_on_asked trace g.C.Checksum.sum_of old _ stopped c.args.n (record { config = refl; checksum = refl }) asked (omega arith) (λ none. none);
        history = λ H holds. holds_with_device g.C.Checksum.sum_of _ _ _ _ _ _ _ _ _ (logged H) same refl holds;
        fits = λ H A f U fits. fits_with_device g.C.Checksum.sum_of _ _ _ _ _ _ _ _ _ _ H A f U same refl fits;
        noted = noted_still old;
        kept = omega arith;
      }
      );
  tickets = search rules;
  position = search rules;
}
