use Rattle.std.proofs.Common.{◌≡◌, ◌⊎◌, ◌∙◌, ℕ, [], ◌∷◌, length, refl, rules, inl, inr, sym, ap, subst, arith}
use Rattle.sled_codec.specs.declared.serialization.snapshot.Snapshot.{Snapshot}
use Rattle.sled_codec.specs.Errors.{IsCorruption}
use Rattle.sled_codec.specs.Snapshots.{model_of}
use Rattle.sled_store.specs.Begin.{IsStartable}
use Rattle.sled_store.specs.Device.{Trace, Synced, NamesSynced, content_of, state_of}
use Rattle.sled_store.specs.declared.config.Config.{Config}
use Rattle.sled_store.specs.SnapshotFiles.{BeginsFrom}
use Rattle.sled_store.proofs.Traces.ScriptLemmas.{performs_whole}
use Rattle.sled_log.specs.Recovery.{RecoveryResult, Recovered, Recovers}
use Rattle.sled_log.specs.declared.snapshot.recovery.Recovery.{Recovery}
use Rattle.sled_log.specs.Restores.{BeginsAgain, TakesForDamage}
use Rattle.sled_log.specs.WritesBack.{HasWrittenBack, IsWrittenBack, WritesBack, result_of}
use Rattle.sled_log.proofs.Again.RecoversAgain.{recovers_again}
use Rattle.sled_log.proofs.Passes.DamageNames.{damage_as, damage_never, damage_none}
use Rattle.sled_log.proofs.SnapshotFile.NewestLemmas.{begins_again}
use Rattle.sled_log.proofs.WriteBack.WriteLemmas.{damage_settled, recovers_settled, writes_settled}
use Rattle.sled_log.proofs.snapshot.read_and_write_back.Goals as goal

-- What recovery concludes was written back.
pub returns-in-Ok-write_back-clause-comes : goal.returns-in-Ok-write_back-clause-comes
returns-in-Ok-write_back-clause-comes g c =
    let sum = g.C.Checksum.sum_of in
    let old : Trace = g.D.Device.trace c.args.config.now.device in
    let settled : Trace = g.D.Device.trace c.settle.new.device in
    let mid : Trace = g.D.Device.trace c.conclude.new.config.device in
    let new : Trace = g.D.Device.trace c.write_back.new.config.device in
    let size : ℕ = c.args.config.now.config.segment_size in
    let x : RecoveryResult = result_of c.in-Ok.recovery in
    let is_mid : mid ≡ NamesSynced ∷ Synced ∷ old = c.in-Ok.ensures.reads.unwritten ∙ c.in_ok-settle.ensures.done in
    let recovers = recovers_settled sum old settled c.in_ok-settle.ensures.done size (Recovered x) c.in-Ok.ensures.ok in
    let sizes : c.conclude.new.config.config.segment_size ≡ size = ap (λ (k : Config). k.segment_size) c.conclude.ensures.reads.config in
    let writes = writes_settled sum old mid is_mid size x new (subst (λ (n : ℕ). WritesBack sum n x mid new) sizes c.write_back.ensures.calls) in
    let back = c.in-Ok-write_back.ensures in
    let written = subst (λ (n : ℕ). IsWrittenBack sum n x (state_of mid) (state_of new)) sizes back.written in
    let met = subst (λ (h : Trace). Recovers sum size (content_of (state_of h)) (Recovered x)) (sym c.in-Ok.ensures.reads.unwritten) c.in-Ok.ensures.ok in
    let again = begins_again sum size (omega (arith, c.args.config.now.config.least)) x (state_of mid) (state_of new) written met back.fits in
    let as_before = subst (λ (h : Trace). (again.0 ≡ x.model) ⊎ BeginsFrom sum (state_of h).snapshots.file again.0) is_mid again.4 in
    let written_old = subst (λ (h : Trace). IsWrittenBack sum size x (state_of h) (state_of new)) is_mid written in
    let newest : BeginsAgain sum (state_of old).snapshots.file (state_of new) x.model = (again.0, again.1, again.2, again.3, as_before) in
    record {
      calls = inr (x, recovers, writes);
      ok = record {
        conclusion = x;
        recovers = recovers;
        model = refl;
        written = written_old;
        done = subst (λ (h : Trace). HasWrittenBack sum size x h new) is_mid (subst (λ (n : ℕ). HasWrittenBack sum n x mid new) sizes back.done);
        fits = back.fits;
        newest = newest;
        again = recovers_again sum size (omega (arith, c.args.config.now.config.least)) x (state_of old) (state_of new) recovers written_old newest;
      };
      corrupt = tt;
    }

-- That failed.
pub returns-in-Err-write_back-clause-comes : goal.returns-in-Err-write_back-clause-comes
returns-in-Err-write_back-clause-comes g c =
    let sum = g.C.Checksum.sum_of in
    let old : Trace = g.D.Device.trace c.args.config.now.device in
    let mid : Trace = g.D.Device.trace c.conclude.new.config.device in
    let new : Trace = g.D.Device.trace c.write_back.new.config.device in
    let size : ℕ = c.args.config.now.config.segment_size in
    let x : RecoveryResult = result_of c.in-Ok.recovery in
    let recovers = recovers_settled sum old (g.D.Device.trace c.settle.new.device) c.in_ok-settle.ensures.done size (Recovered x) c.in-Ok.ensures.ok in
    let sizes : c.conclude.new.config.config.segment_size ≡ size = ap (λ (k : Config). k.segment_size) c.conclude.ensures.reads.config in
    let writes = writes_settled sum old mid (c.in-Ok.ensures.reads.unwritten ∙ c.in_ok-settle.ensures.done) size x new (subst (λ (n : ℕ). WritesBack sum n x mid new) sizes c.write_back.ensures.calls) in
    record { calls = inr (x, recovers, writes); ok = tt; corrupt = damage_never (Unit {0}) Snapshot c.in-Err-write_back.e _ c.in-Err-write_back.ensures.readable }

-- Nothing was concluded.
pub returns-in-Err-clause-comes : goal.returns-in-Err-clause-comes
returns-in-Err-clause-comes g c =
    let sum = g.C.Checksum.sum_of in
    let size : ℕ = c.args.config.now.config.segment_size in
    let settled : Trace = g.D.Device.trace c.settle.new.device in
    let old : Trace = g.D.Device.trace c.args.config.now.device in
    let is : g.D.Device.trace c.conclude.new.config.device ≡ NamesSynced ∷ Synced ∷ old = c.conclude.ensures.reads.unwritten ∙ c.in_ok-settle.ensures.done in
    record {
      calls = inl (performs_whole (Synced ∷ NamesSynced ∷ []) old _ is);
      ok = tt;
      corrupt = damage_as Recovery Snapshot c.in-Err.e (TakesForDamage c.args.is_to_start sum size (content_of (state_of settled))) _
          (λ at damaged. (damage_settled sum old settled c.in_ok-settle.ensures.done size c.args.is_to_start at damaged, is)) c.in-Err.ensures.corrupt;
    }

pub returns-in_err-settle-clause-comes : goal.returns-in_err-settle-clause-comes
returns-in_err-settle-clause-comes g c =
    let never : IsCorruption c.from_residual.result → ⊥ = λ damaged. search rules in
    record { calls = inl c.settle.ensures.calls; ok = search rules; corrupt = damage_none c.from_residual.result _ never }

-- A log can begin on it, where one is to: syncs change no byte.
pub returns-in-Ok-write_back-clause-starts : goal.returns-in-Ok-write_back-clause-starts
returns-in-Ok-write_back-clause-starts g c = λ is.
    subst (λ (h : Trace). IsStartable c.args.config.now.config.segment_size (length (state_of h).log.bytes) (model_of c.in-Ok.recovery.snapshot)) c.in_ok-settle.ensures.done (c.in-Ok.ensures.starts is)
