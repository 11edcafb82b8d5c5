use Rattle.std.proofs.Common.{ap, arith, refl}
use Rattle.sled_store.specs.Device.{state_of}
use Rattle.sled_store.specs.declared.config.Config.{Config}
use Rattle.sled_store.specs.Accounts.{machine_of}
use Rattle.sled_core.specs.invariants.Fits.{Holds}
use Rattle.sled_core.specs.Fits.{current_of}
use Rattle.sled_core.specs.Logged.{logged}
use Rattle.sled_core.specs.Positions.{position_in}
use Rattle.sled_core.specs.invariants.Running.{Fits}
use Rattle.sled_core.proofs.Line.KeptCalls.{goes_on_quietly}
use Rattle.sled_core.proofs.Iterates.Failures.{first_kept, first_none}
use Rattle.sled_core.proofs.Line.LeftShown.{log_leaves}
use Rattle.sled_core.proofs.Line.Faulty.{fits_with_kept, holds_with_kept}
use Rattle.sled_core.proofs.Line.LineEnds.{noted_still}
use Rattle.sled_core.proofs.logger.Log.next_of.Goals as goal

pub returns-clause-log : goal.returns-clause-log
unfolding Holds Fits
returns-clause-log g c =
    let old = c.args.self.now in
    let reads = c.next-item.ensures.reads in
    let size = ap (λ (x : Config). x.segment_size) reads.config in
    let kept = first_kept old.fault.kept c.next-item.result _ c.note_item.ensures in
    record {
      read = record {
        keeps = record {
          goes_on = goes_on_quietly g.D.Device.trace g.C.Checksum.sum_of old _ (record { config = reads.config; checksum = reads.checksum }) reads.unwritten (omega arith) (first_none old.fault.kept c.next-item.result _ c.note_item.ensures);
          history = λ H holds. holds_with_kept g.C.Checksum.sum_of _ _ _ _ _ _ _ _ _ _ _ _ _ (logged H) refl size refl refl (ap state_of reads.unwritten) kept holds;
          fits = λ H A f U fits. fits_with_kept g.C.Checksum.sum_of _ _ _ _ _ _ _ _ _ _ _ _ _ _ _ H A f U refl size refl refl refl (ap state_of reads.unwritten) kept fits
              (log_leaves g.C.Checksum.sum_of old H A f U _ fits);
          noted = noted_still old;
          kept = omega arith;
        };
        tickets = record { awaits = λ ticket m awaits. awaits; opens = refl; given_up = λ m there. there };
        position = record { position = ap (λ n. position_in n (current_of old) (machine_of old.accountant)) size; reserved = refl; pins = refl; joined = refl; size = size };
        buffers = record { waiting = refl; start = refl };
        heads = λ h there. there;
        fillings = λ f there. there;
        machine = refl;
        pooled = refl;
        account = refl;
      };
      fault = c.note_item.ensures;
    }
