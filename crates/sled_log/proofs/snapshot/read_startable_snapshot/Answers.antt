use Rattle.std.proofs.Common.{◌<◌, ℕ, length, refl, sym, subst, arith}
use Rattle.std.specs.Prelude.{IfOk, Result, Ok, Err}
use Rattle.sled_codec.specs.declared.result.Error.{Error}
use Rattle.sled_codec.specs.declared.serialization.snapshot.Snapshot.{Snapshot}
use Rattle.sled_codec.specs.History.{below}
use Rattle.sled_codec.specs.Snapshots.{SnapshotModel, model_of, stable_place}
use Rattle.sled_store.specs.Begin.{IsStartable}
use Rattle.sled_store.specs.Device.{Trace, state_of, content_of}
use Rattle.sled_core.specs.Good.{IsGood}
use Rattle.sled_core.specs.Recoverable.{LeavesRecoverable}
use Rattle.sled_core.specs.invariants.Running.{Ready}
use Rattle.sled_core.proofs.Read.ReadingLemmas.{if_ok}
use Rattle.sled_log.specs.Restores.{Restores}
use Rattle.sled_log.proofs.Passes.DamageNames.{damage_met}
use Rattle.sled_log.proofs.Ready.ComesBack.{holds_throughout}
use Rattle.sled_log.proofs.Ready.Restored.{not_damaged, restored_good, restored_kept, restored_ready}
use Rattle.sled_log.proofs.WriteBack.LongerFile.{startable_left}
use Rattle.sled_log.proofs.snapshot.read_startable_snapshot.Goals as goal

pub returns-clause-ok : goal.returns-clause-ok
returns-clause-ok g c = c.read_and_write_back.ensures.comes.ok

pub returns-clause-calls : goal.returns-clause-calls
returns-clause-calls g c = c.read_and_write_back.ensures.comes.calls

pub returns-clause-damage : goal.returns-clause-damage
returns-clause-damage g c = c.read_and_write_back.ensures.comes.corrupt

-- two things that hold of what is answered
both : (P Q : Snapshot → Type 0) (result : Result Snapshot Error) → IfOk result P → IfOk result Q → IfOk result (λ s. P s × Q s)
both P Q (Ok s) p q = (p, q)
both P Q (Err e) p q = tt

-- A log can begin on what is left.
pub returns-clause-starts : goal.returns-clause-starts
returns-clause-starts g c =
    let config = c.args.config.now.config in
    let sum = g.C.Checksum.sum_of in
    let size : ℕ = config.segment_size in
    let old : Trace = g.D.Device.trace c.args.config.now.device in
    let new : Trace = g.D.Device.trace c.read_and_write_back.new.config.device in
    let some : 0 < size = let least = config.least in omega (arith, least) in
    if_ok c.read_and_write_back.result (λ s. Restores sum size old new (model_of s) × IsStartable size (length (state_of old).log.bytes) (model_of s)) (λ s. IsStartable size (length (state_of new).log.bytes) (model_of s)) (λ s has.
    subst (λ (m : SnapshotModel). IsStartable size (length (state_of new).log.bytes) m) (sym has.0.model)
    (startable_left sum size has.0.conclusion _ (state_of new) some has.0.written (subst (λ (m : SnapshotModel). IsStartable size (length (state_of old).log.bytes) m) has.0.model has.1)))
    (both (λ s. Restores sum size old new (model_of s)) (λ s. IsStartable size (length (state_of old).log.bytes) (model_of s)) c.read_and_write_back.result c.read_and_write_back.ensures.comes.ok (c.read_and_write_back.ensures.starts refl))

pub returns-clause-recovers : goal.returns-clause-recovers
returns-clause-recovers g c = λ H A f can.
    let config = c.args.config.now.config in
    let sum = g.C.Checksum.sum_of in
    let size : ℕ = config.segment_size in
    let old : Trace = g.D.Device.trace c.args.config.now.device in
    let new : Trace = g.D.Device.trace c.read_and_write_back.new.config.device in
    let comes = c.read_and_write_back.ensures.comes in
    record {
      throughout = holds_throughout sum size config.least old H A f can new comes.calls;
      undamaged = damage_met c.read_and_write_back.result _ ⊥ (λ at damaged. not_damaged sum size config.least old H A f can config.most at damaged.0) comes.corrupt;
      good = if_ok c.read_and_write_back.result _ (λ s. IsGood sum size (content_of (state_of new)) H A f (model_of s)) (λ s ok. restored_good sum size config.least old H A f can new (model_of s) ok) comes.ok;
      kept = if_ok c.read_and_write_back.result _ (λ s. LeavesRecoverable sum size (below H (stable_place s.stable_lsn)) A (stable_place s.stable_lsn) (state_of new)) (λ s ok.
          restored_kept sum size config.least old H A f can new (model_of s) ok) comes.ok;
      ready = if_ok c.read_and_write_back.result _ (λ s. Ready sum size (state_of new) (model_of s) (below H (stable_place s.stable_lsn)) A (stable_place s.stable_lsn)) (λ s ok.
          restored_ready sum size config.least old H A f can new (model_of s) ok) comes.ok;
    }
