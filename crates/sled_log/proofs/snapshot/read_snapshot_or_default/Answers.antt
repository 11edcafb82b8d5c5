use Rattle.std.proofs.Common.{ℕ, sym, subst}
use Rattle.sled_codec.specs.History.{below}
use Rattle.sled_codec.specs.Snapshots.{SnapshotModel, model_of, stable_place}
use Rattle.sled_store.specs.Device.{Content, Trace, state_of, content_of}
use Rattle.sled_core.specs.Good.{IsGood}
use Rattle.sled_core.specs.Recoverable.{LeavesRecoverable}
use Rattle.sled_core.specs.invariants.Running.{Ready}
use Rattle.sled_core.proofs.Read.ReadingLemmas.{if_ok}
use Rattle.sled_log.proofs.Passes.DamageNames.{damage_met}
use Rattle.sled_log.proofs.Ready.ComesBack.{holds_throughout}
use Rattle.sled_log.proofs.Ready.Convertible.{read_of}
use Rattle.sled_log.proofs.Ready.Restored.{restored_good, restored_kept, restored_ready}
use Rattle.sled_log.proofs.Recovers.RecoversGood.{read_undamaged, read_good}
use Rattle.sled_log.proofs.WriteBack.RecoveryLater.{recovery_later}
use Rattle.sled_log.proofs.snapshot.read_snapshot_or_default.Goals as goal

pub returns-clause-recoverable : goal.returns-clause-recoverable
returns-clause-recoverable g c = λ H A f can.
    let config = c.args.config.now.config in
    holds_throughout g.C.Checksum.sum_of config.segment_size config.least (g.D.Device.trace c.args.config.now.device) H A f can _ c.read_and_write_back.ensures.comes.calls

pub returns-clause-read : goal.returns-clause-read
returns-clause-read g c = λ H A f orderly is.
    let config = c.args.config.now.config in
    let sum = g.C.Checksum.sum_of in
    let old : Content = content_of (state_of (g.D.Device.trace c.args.config.now.device)) in
    let can = read_of sum config.segment_size old H A f orderly is in (
      damage_met c.read_and_write_back.result _ ⊥ (λ at damaged. read_undamaged sum config.segment_size old H A f config.least can at damaged.0) c.read_and_write_back.ensures.comes.corrupt,
      if_ok c.read_and_write_back.result _ (λ s. IsGood sum config.segment_size old H A f (model_of s)) (λ s ok.
          subst (λ (x : SnapshotModel). IsGood sum config.segment_size old H A f x) (sym ok.model) (read_good sum config.segment_size old H A f config.least can ok.conclusion ok.recovers))
          c.read_and_write_back.ensures.comes.ok,
    )

pub returns-clause-good : goal.returns-clause-good
returns-clause-good g c = λ H A f can.
    let config = c.args.config.now.config in
    let sum = g.C.Checksum.sum_of in
    let old : Trace = g.D.Device.trace c.args.config.now.device in
    let new : Trace = g.D.Device.trace c.read_and_write_back.new.config.device in
    if_ok c.read_and_write_back.result _ (λ s. IsGood sum config.segment_size (content_of (state_of new)) H A f (model_of s)) (λ s ok. restored_good sum config.segment_size config.least old H A f can new (model_of s) ok)
    c.read_and_write_back.ensures.comes.ok

pub returns-clause-ready : goal.returns-clause-ready
returns-clause-ready g c = λ H A f can.
    let config = c.args.config.now.config in
    let sum = g.C.Checksum.sum_of in
    let size : ℕ = config.segment_size in
    let old : Trace = g.D.Device.trace c.args.config.now.device in
    let new : Trace = g.D.Device.trace c.read_and_write_back.new.config.device in
    if_ok c.read_and_write_back.result _ (λ s. Ready sum size (state_of new) (model_of s) (below H (stable_place s.stable_lsn)) A (stable_place s.stable_lsn)) (λ s ok.
    restored_ready sum size config.least old H A f can new (model_of s) ok)
    c.read_and_write_back.ensures.comes.ok

pub returns-clause-kept : goal.returns-clause-kept
returns-clause-kept g c = λ H A f can.
    let config = c.args.config.now.config in
    let sum = g.C.Checksum.sum_of in
    let size : ℕ = config.segment_size in
    let old : Trace = g.D.Device.trace c.args.config.now.device in
    let new : Trace = g.D.Device.trace c.read_and_write_back.new.config.device in
    if_ok c.read_and_write_back.result _ (λ s. LeavesRecoverable sum size (below H (stable_place s.stable_lsn)) A (stable_place s.stable_lsn) (state_of new)) (λ s ok.
    restored_kept sum size config.least old H A f can new (model_of s) ok)
    c.read_and_write_back.ensures.comes.ok

pub returns-clause-later : goal.returns-clause-later
returns-clause-later g c = recovery_later g.C.Checksum.sum_of c.args.config.now.config.segment_size _ _ c.read_and_write_back.ensures.comes.calls

pub returns-clause-ok : goal.returns-clause-ok
returns-clause-ok g c = c.read_and_write_back.ensures.comes.ok

pub returns-clause-calls : goal.returns-clause-calls
returns-clause-calls g c = c.read_and_write_back.ensures.comes.calls

pub returns-clause-corrupt : goal.returns-clause-corrupt
returns-clause-corrupt g c = c.read_and_write_back.ensures.comes.corrupt
