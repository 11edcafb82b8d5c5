use Rattle.std.proofs.Common.{ap, arith, refl, rules}
use Rattle.sled_store.specs.Device.{state_of}
use Rattle.sled_store.specs.declared.config.Config.{Config}
use Rattle.sled_core.specs.invariants.Fits.{Holds}
use Rattle.sled_core.specs.Logged.{logged}
use Rattle.sled_core.specs.invariants.Running.{Fits}
use Rattle.sled_core.proofs.Line.KeptCalls.{goes_on_quietly}
use Rattle.sled_core.proofs.Line.LeftShown.{log_leaves}
use Rattle.sled_core.proofs.Line.Faulty.{fits_with_kept, holds_with_kept, none_or_kept}
use Rattle.sled_core.proofs.Line.LineEnds.{noted_still}
use Rattle.sled_core.proofs.logger.Log.read_settled.Goals as goal

pub returns-clause-keeps : goal.returns-clause-keeps
unfolding Holds Fits
returns-clause-keeps g c = record {
  preserves = (
      let old = c.args.self.now in
      let answer = c.read_pointer-answer.ensures in
      let size = ap (λ (x : Config). x.segment_size) answer.reads.config in
      record {
        goes_on = goes_on_quietly g.D.Device.trace g.C.Checksum.sum_of old _ (record { config = answer.reads.config; checksum = answer.reads.checksum }) answer.reads.unwritten (omega arith) (λ none. c.requires.fault);
        history = λ H holds. holds_with_kept g.C.Checksum.sum_of _ _ _ _ _ _ _ _ _ _ _ _ _ (logged H) refl size refl refl (ap state_of answer.reads.unwritten) (none_or_kept _ _ c.requires.fault) holds;
        fits = λ H A f U fits. fits_with_kept g.C.Checksum.sum_of _ _ _ _ _ _ _ _ _ _ _ _ _ _ _ H A f U refl size refl refl refl (ap state_of answer.reads.unwritten) (none_or_kept _ _ c.requires.fault) fits
            (log_leaves g.C.Checksum.sum_of old H A f U _ fits);
        noted = noted_still old;
        kept = omega arith;
      }
      );
  tickets = search rules;
  position = search rules;
}
