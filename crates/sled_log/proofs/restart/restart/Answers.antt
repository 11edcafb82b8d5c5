use Rattle.std.proofs.Common.{◌≡◌, ◌∙◌, ◌≤◌, ◌+◌, max, ℕ, List, sym, ap, subst, refl, inl, inr, arith}
use Rattle.std.specs.Prelude.{Err}
use Rattle.std.specs.List.{All}
use Rattle.sled_codec.specs.declared.serialization.snapshot.Snapshot.{Snapshot}
use Rattle.sled_codec.specs.History.{History, Message}
use Rattle.sled_codec.specs.PageTables.{IsTable}
use Rattle.sled_codec.specs.Snapshots.{model_of, stable_place}
use Rattle.sled_store.specs.declared.config.RunningConfig.{RunningConfig}
use Rattle.sled_store.specs.Device.{Trace, state_of, content_of}
use Rattle.sled_store.specs.Moments.{LeavesOnly}
use Rattle.sled_store.specs.Script.{Performs, after_all}
use Rattle.sled_store.proofs.Traces.MomentLemmas.{at_last, started}
use Rattle.sled_store.proofs.Traces.ScriptLemmas.{performs_whole}
use Rattle.sled_core.specs.Account.{account_of}
use Rattle.sled_core.specs.Fits.{IsKept, IsUsedUpBelow, device_of, fault_of, flushing, holding_below, reserved_end, segment_size_of, synced_end}
use Rattle.sled_core.proofs.Logged.Alike.{table_alike}
use Rattle.sled_core.proofs.Logged.Messages.{logged_below, logged_twice}
use Rattle.sled_core.proofs.PublicLaws.{ready_with_less, none_holding}
use Rattle.sled_core.specs.Logged.{logged}
use Rattle.sled_core.specs.Recoverable.{LeavesRecoverable, RecoverableIfOwn}
use Rattle.sled_core.specs.invariants.Recoverable.{Recoverable}
use Rattle.sled_core.proofs.PublicLaws.{read_recoverable}
use Rattle.sled_core.specs.invariants.Running.{Fits, Ready}
use Rattle.sled_core.specs.Running.{end_below}
use Rattle.sled_core.proofs.Read.ReadingLemmas.{if_ok}
use Rattle.sled_log.specs.Orderly.{CanRecover}
use Rattle.sled_log.specs.Restarts.{FlushFails, HasRestarted}
use Rattle.sled_log.specs.Restores.{Restores}
use Rattle.sled_log.proofs.Ready.ComesBack.{ready_kept}
use Rattle.sled_log.proofs.Sessions.RunLogs.{end_rises}
use Rattle.sled_log.proofs.WriteBack.RestartCauses.{can_recover, flush_fails, flush_undamaged, some_of}
use Rattle.sled_log.proofs.restart.restart.Goals as goal

pub returns-in-Ok-clause-ready : goal.returns-in-Ok-clause-ready
returns-in-Ok-clause-ready g c = λ H A f U can.
    let trace = g.D.Device.trace in
    let sum = g.C.Checksum.sum_of in
    let log = c.flush-flushed.new.self in
    let config = c.halt-config.result in
    let new : Trace = trace c.read_snapshot_or_default-snapshot.new.config.device in
    let old : Trace = trace config.device in
    let is = c.halt-config.ensures.config in
    let size : ℕ = segment_size_of c.args.log in
    let end : ℕ = max A (end_below (synced_end log) H) in
    let now_size : segment_size_of log ≡ size = c.flush-flushed.ensures.keeps.position.size in
    let sizes : config.config.segment_size ≡ size = ap (λ (x : RunningConfig _ _). x.config.segment_size) is ∙ now_size in
    let same : old ≡ trace (device_of log) = ap (λ (x : RunningConfig _ _). trace x.device) is in
    let there : CanRecover sum size (state_of old) H end f = can_recover trace sum c.args.log log config.device H A end f U now_size same (same ∙ c.in-Ok.ensures.calls) c.in-Ok.ensures.answers.2 c.in-Ok.ensures.answers.3 c.in-Ok.ensures.status.1 can (c.in-Ok.ensures.acknowledges H A f U can.fits) in
    let kept : IsKept sum (account_of log).mark (account_of log).durable size log.segments.first.site log.segments.first.buffer.written_len (state_of old) (logged H) =
    subst (λ (t : Trace). IsKept sum (account_of log).mark (account_of log).durable size log.segments.first.site log.segments.first.buffer.written_len (state_of t) (logged H)) (sym same)
    (subst (λ n. IsKept sum (account_of log).mark (account_of log).durable n log.segments.first.site log.segments.first.buffer.written_len (state_of (trace (device_of log))) (logged H)) now_size (c.in-Ok.ensures.records H (inr (A, f, U, can.fits)))) in
    let long : 256 ≤ size = (let least = config.config.least in omega (arith, least, sizes)) in
    let less : max A (end_below (reserved_end c.args.log) H) ≤ end = (let low = end_rises (reserved_end c.args.log) (synced_end log) H c.in-Ok.ensures.synced.whole in omega (arith, low)) in
    if_ok c.read_snapshot_or_default-snapshot.result _ (λ s. Ready sum size (state_of new) (model_of s) H (max A (end_below (reserved_end c.args.log) H)) (stable_place s.stable_lsn))
    (λ s ok. ready_with_less sum size (state_of new) (model_of s) H end (max A (end_below (reserved_end c.args.log) H)) (stable_place s.stable_lsn) less
    (ready_kept sum size log.segments.first.site log.segments.first.buffer.written_len old new H end f long kept (omega arith) there (model_of s) (subst (λ n. Restores sum n old new (model_of s)) sizes ok)))
    c.read_snapshot_or_default-snapshot.ensures.ok

pub returns-in-Ok-clause-table : goal.returns-in-Ok-clause-table
unfolding Ready
returns-in-Ok-clause-table g c = λ H A f U can.
    if_ok c.read_snapshot_or_default-snapshot.result _ (λ s. IsTable (model_of s).pages H (stable_place s.stable_lsn)) (λ s ready. table_alike (logged H) H (logged_twice H) (model_of s).pages (stable_place s.stable_lsn) ready.ready.table) (returns-in-Ok-clause-ready g c H A f U can)

pub returns-in-Ok-clause-past : goal.returns-in-Ok-clause-past
unfolding Ready
returns-in-Ok-clause-past g c = λ H A f U can.
    if_ok c.read_snapshot_or_default-snapshot.result _ (λ s. All (λ (m : Message). m.place + m.size ≤ stable_place s.stable_lsn) H.messages)
    (λ s ready k d lt. (logged_below (stable_place s.stable_lsn) H ready.ready.below k d lt).1) (returns-in-Ok-clause-ready g c H A f U can)

-- A recovery of what was flushed meets no damage.
pub returns-in-Ok-clause-undamaged : goal.returns-in-Ok-clause-undamaged
returns-in-Ok-clause-undamaged g c = λ H A f U can.
    let trace = g.D.Device.trace in
    let sum = g.C.Checksum.sum_of in
    let log = c.flush-flushed.new.self in
    let config = c.halt-config.result in
    let old : Trace = trace config.device in
    let is = c.halt-config.ensures.config in
    let size : ℕ = segment_size_of c.args.log in
    let end : ℕ = max A (end_below (synced_end log) H) in
    let now_size : segment_size_of log ≡ size = c.flush-flushed.ensures.keeps.position.size in
    let sizes : config.config.segment_size ≡ size = ap (λ (x : RunningConfig _ _). x.config.segment_size) is ∙ now_size in
    let same : old ≡ trace (device_of log) = ap (λ (x : RunningConfig _ _). trace x.device) is in
    let there : CanRecover sum size (state_of old) H end f = can_recover trace sum c.args.log log config.device H A end f U now_size same (same ∙ c.in-Ok.ensures.calls) c.in-Ok.ensures.answers.2 c.in-Ok.ensures.answers.3 c.in-Ok.ensures.status.1 can (c.in-Ok.ensures.acknowledges H A f U can.fits) in
    let reads = read_recoverable sum size old there.own H end f there.left in
    (c.read_snapshot_or_default-snapshot.ensures.read H end f can.orderly (subst (λ n. Recoverable sum n (content_of (state_of old)) H end f) (sym sizes) reads)).0

-- the size is the same behind flush and halt
pub returns-in-Ok-clause-did : goal.returns-in-Ok-clause-did
returns-in-Ok-clause-did g c =
    let trace = g.D.Device.trace in
    let sum = g.C.Checksum.sum_of in
    let config = c.halt-config.result in
    let new = c.read_snapshot_or_default-snapshot.new.config in
    let is = c.halt-config.ensures.config in
    let sizes : config.config.segment_size ≡ segment_size_of c.args.log = ap (λ (x : RunningConfig _ _). x.config.segment_size) is ∙ c.flush-flushed.ensures.keeps.position.size in
    let came : trace config.device ≡ after_all (flushing sum c.args.log) (trace (device_of c.args.log)) = ap (λ (x : RunningConfig _ _). trace x.device) is ∙ c.in-Ok.ensures.calls in
    let answers = c.in-Ok.ensures.answers in
    let counted : g.D.Device.faults config.device ≡ g.D.Device.faults (device_of c.args.log) = ap (λ (x : RunningConfig _ _). g.D.Device.faults x.device) is ∙ answers.4 in
    let recovery = c.read_snapshot_or_default-snapshot in
    let restarted : HasRestarted sum config.config.segment_size (trace config.device) (trace new.device) recovery.result (g.D.Device.faults config.device) (g.D.Device.faults new.device) = record {
      comes = record { calls = recovery.ensures.calls; ok = recovery.ensures.ok; corrupt = recovery.ensures.corrupt };
      answers = recovery.ensures.answers;
    } in
    inr (
      answers.2,
      answers.1,
      subst (λ n. HasRestarted sum (segment_size_of c.args.log) (after_all (flushing sum c.args.log) (trace (device_of c.args.log))) (trace new.device) recovery.result n (g.D.Device.faults new.device)) counted
          (subst (λ (t : Trace). HasRestarted sum (segment_size_of c.args.log) t (trace new.device) recovery.result (g.D.Device.faults config.device) (g.D.Device.faults new.device)) came
          (subst (λ n. HasRestarted sum n (trace config.device) (trace new.device) recovery.result (g.D.Device.faults config.device) (g.D.Device.faults new.device)) sizes restarted)),
    )

-- What the flush leaves asks for nothing but that the log fits, and what the recovery leaves for what it reads too.
pub returns-in-Ok-clause-crash : goal.returns-in-Ok-clause-crash
returns-in-Ok-clause-crash g c =
    let trace = g.D.Device.trace in
    let sum = g.C.Checksum.sum_of in
    let log = c.flush-flushed.new.self in
    let config = c.halt-config.result in
    let new = c.read_snapshot_or_default-snapshot.new.config in
    let is = c.halt-config.ensures.config in
    let size : ℕ = segment_size_of c.args.log in
    let sizes : config.config.segment_size ≡ size = ap (λ (x : RunningConfig _ _). x.config.segment_size) is ∙ c.flush-flushed.ensures.keeps.position.size in
    let same : trace config.device ≡ trace (device_of log) = ap (λ (x : RunningConfig _ _). trace x.device) is in
    let keeps = c.flush-flushed.ensures.keeps.preserves in
    let came : trace config.device ≡ after_all (flushing sum c.args.log) (trace (device_of c.args.log)) = same ∙ c.in-Ok.ensures.calls in record {
      mid = trace config.device;
      performed = performs_whole (flushing sum c.args.log) (trace (device_of c.args.log)) (trace config.device) came;
      is = inr came;
      first = λ H A f U fits.
          subst (λ (t : Trace). LeavesOnly (RecoverableIfOwn sum size H A f) (trace (device_of c.args.log)) t) (sym same) (keeps.goes_on.crash H A f U fits);
      then = λ H A f U restarts.
          let can : CanRecover sum size (state_of (trace config.device)) H A f =
          can_recover trace sum c.args.log log config.device H A A f U c.flush-flushed.ensures.keeps.position.size same came
          c.in-Ok.ensures.answers.2 c.in-Ok.ensures.answers.3 c.in-Ok.ensures.status.1 restarts (keeps.fits H A f U restarts.fits) in
          subst (λ n. LeavesOnly (RecoverableIfOwn sum n H A f) (trace config.device) (trace new.device)) sizes
          (c.read_snapshot_or_default-snapshot.ensures.recoverable H A f
          (subst (λ n. CanRecover sum n (state_of (trace config.device)) H A f) (sym sizes) can));
    }

pub returns-in-Ok-clause-kept : goal.returns-in-Ok-clause-kept
returns-in-Ok-clause-kept g c =
    let is = c.halt-config.ensures.config in
    let kept = c.flush-flushed.ensures.keeps.preserves.goes_on.config in
    let recovery = c.read_snapshot_or_default-snapshot.ensures.config in
    record { config = recovery.config ∙ ap (λ (x : RunningConfig _ _). x.config) is ∙ kept.config; checksum = recovery.checksum ∙ ap (λ (x : RunningConfig _ _). x.checksum) is ∙ kept.checksum }

-- A flush that failed was the last call.

pub returns-in-Err-clause-did : goal.returns-in-Err-clause-did
returns-in-Err-clause-did g c =
    let trace = g.D.Device.trace in
    let sum = g.C.Checksum.sum_of in
    let log = c.args.log in
    let config = c.halt-config.result in
    let is = c.halt-config.ensures.config in
    let same : trace config.device ≡ trace (device_of c.flush-flushed.new.self) = ap (λ (x : RunningConfig _ _). trace x.device) is in
    let counted : g.D.Device.faults config.device ≡ g.D.Device.faults (device_of c.flush-flushed.new.self) = ap (λ (x : RunningConfig _ _). g.D.Device.faults x.device) is in
    inl (
      subst (λ (t : Trace). Performs (flushing sum log) (trace (device_of log)) t) (sym same) c.flush-flushed.ensures.at_most,
      λ some. let kept = some_of (fault_of log) some in same ∙ ap (λ l. trace l.config.device) (c.flush-flushed.ensures.spares.faulty kept.0 kept.1),
      subst (λ n. FlushFails {T = Snapshot} (Err c.in-Err.e) (IsUsedUpBelow log (reserved_end log)) (fault_of log) (g.D.Device.faults (device_of log)) n) (sym counted)
          (flush_fails ℕ Snapshot c.in-Err.e (holding_below sum log (reserved_end log)) (IsUsedUpBelow log (reserved_end log)) (fault_of log) (fault_of c.flush-flushed.new.self) _ _ (none_holding log sum c.requires.ended) c.in-Err.ensures.answers),
    )

pub returns-in-Err-clause-undamaged : goal.returns-in-Err-clause-undamaged
returns-in-Err-clause-undamaged g c =
    let log = c.args.log in
    λ H A f U can.
    flush_undamaged ℕ c.in-Err.e (holding_below g.C.Checksum.sum_of log (reserved_end log)) (IsUsedUpBelow log (reserved_end log)) (fault_of log)
    (fault_of c.flush-flushed.new.self) _ _ c.in-Err.ensures.answers

pub returns-in-Err-clause-crash : goal.returns-in-Err-clause-crash
returns-in-Err-clause-crash g c =
    let trace = g.D.Device.trace in
    let sum = g.C.Checksum.sum_of in
    let log = c.args.log in
    let size : ℕ = segment_size_of log in
    let old : Trace = trace (device_of log) in
    let new : Trace = trace c.halt-config.result.device in
    let same : new ≡ trace (device_of c.flush-flushed.new.self) = ap (λ (x : RunningConfig _ _). trace x.device) c.halt-config.ensures.config in
    let crash = c.flush-flushed.ensures.keeps.preserves.goes_on.crash in
    let leaves : (H : History) (A f : ℕ) (U : List Message) → Fits trace sum log H A f U → LeavesOnly (RecoverableIfOwn sum size H A f) old new =
    λ H A f U fits. subst (λ (t : Trace). LeavesOnly (RecoverableIfOwn sum size H A f) old t) (sym same) (crash H A f U fits) in record {
      mid = new;
      performed = subst (λ (t : Trace). Performs (flushing sum log) old t) (sym same) c.flush-flushed.ensures.at_most;
      is = inl refl;
      first = leaves;
      then = λ H A f U restarts.
          started (LeavesRecoverable sum size H A f) new (at_last (LeavesRecoverable sum size H A f) old new (leaves H A f U restarts.fits));
    }

pub returns-in-Err-clause-kept : goal.returns-in-Err-clause-kept
returns-in-Err-clause-kept g c =
    let is = c.halt-config.ensures.config in
    let kept = c.flush-flushed.ensures.keeps.preserves.goes_on.config in
    record { config = ap (λ (x : RunningConfig _ _). x.config) is ∙ kept.config; checksum = ap (λ (x : RunningConfig _ _). x.checksum) is ∙ kept.checksum }
