-- An opening goes on from what the recovery gave.
use Rattle.std.proofs.Common.{SFits, rules, arith, false, ℤ, pos, negsuc, ◌≡◌, ◌≤◌, ◌<◌, ◌+◌, ℕ, List, [], refl, sym, ap, subst, inl, inr, Option, None, Some, ◌∷◌}
use Rattle.std.specs.Prelude.{Err}
use Rattle.std.specs.Int.{w64}
use Rattle.sled_codec.specs.declared.result.Error.{Error}
use Rattle.sled_codec.specs.declared.result.Error.TheVariants as error
use Rattle.sled_codec.specs.declared.serialization.snapshot.Snapshot.{Snapshot}
use Rattle.sled_codec.specs.Errors.{IsCorruption}
use Rattle.sled_codec.specs.History.{History, below}
use Rattle.sled_codec.specs.Snapshots.{SnapshotModel, model_of, stable_place}
use Rattle.sled_store.specs.declared.config.Config.{Config}
use Rattle.sled_store.specs.Begin.{IsStartable}
use Rattle.sled_store.specs.Blobs.{ItemAnswers, OnDamage}
use Rattle.sled_store.specs.Device.{NamesSynced, Synced, Trace, state_of, content_of}
use Rattle.sled_store.specs.Moments.{LeavesOnly}
use Rattle.sled_store.specs.Script.{Performs}
use Rattle.sled_store.proofs.Traces.MomentLemmas.{at_last}
use Rattle.sled_store.proofs.Histories.Ascending.{all_from_in}
use Rattle.sled_store.proofs.Traces.ScriptLemmas.{performs_whole}
use Rattle.sled_core.specs.Good.{IsGood}
use Rattle.sled_core.specs.Recoverable.{LeavesRecoverable, ReadsOnlyOwn, RecoverableIfOwn}
use Rattle.sled_core.proofs.PublicLaws.{read_recoverable}
use Rattle.sled_core.specs.invariants.Running.{Ready}
use Rattle.sled_log.specs.declared.session.command.Command.TheVariants as command
use Rattle.sled_log.specs.declared.session.command.Reply.{Reply}
use Rattle.sled_log.specs.declared.session.command.Reply.TheVariants as reply
use Rattle.sled_log.specs.Openings.{unreserved}
use Rattle.sled_log.specs.OpenSteps.{GoesOnFrom, HasOpened, HasRecovered, HasStarted, RecoveryFails, SaysWhy, log_opened, starting}
use Rattle.sled_log.specs.Orderly.{CanRecover}
use Rattle.sled_log.specs.Refusals.{reason_of}
use Rattle.sled_log.specs.Restores.{MeetsDamage, RecoveryCalls}
use Rattle.sled_log.specs.RunPhases.{IsAt, IsClosedAt, IsRecoveredAt, Unstored, device_in, log_in, stands, view_by}
use Rattle.sled_log.specs.RunStates.{DeviceView, RunState, ShowsActive, length_of, top, heads_on}
use Rattle.sled_log.specs.Runs.{IsStep, StaysRecoverable, StaysWithin}
use Rattle.sled_log.proofs.Ready.Convertible.{read_of}
use Rattle.sled_log.proofs.Recovers.ShownActive.{shows_active}
use Rattle.sled_log.proofs.Sessions.MadeHistories.{from_below, made_below}
use Rattle.sled_log.proofs.Sessions.MadeTables.{table_below}
use Rattle.sled_log.proofs.Sessions.RunLemmas.{cause_of, own_read, runs_on_both}
use Rattle.sled_log.proofs.Sessions.RunLogs.{start_good}
use Rattle.sled_log.proofs.Sessions.Within.{still_there}
use Rattle.sled_log.proofs.WriteBack.RecoveryLater.{recovery_later}
use Rattle.sled_log.specs.Devices.{Touches}
use Rattle.sled_log.proofs.session.opening.open.Goals as goal

-- a place that code keeps lies below all
low_place : (o : Option ℤ) → ((z : ℤ) → o ≡ Some z → SFits w64 z) → stable_place o ≤ top
low_place None fits = omega arith
low_place (Some (pos n)) fits = let small = fits (pos n) refl in search rules
low_place (Some (negsuc n)) fits = omega arith

-- What is told of a start refuses nothing.
not_refusing : (size : ℕ) (old : DeviceView) (s : SnapshotModel) (r : Reply) (new : DeviceView) → HasStarted size r old s new → reason_of r ≡ None
not_refusing size old s (reply.Opened stable active pages) new starts = refl
not_refusing size old s (reply.Failed e) new starts = refl
not_refusing size old s _ new starts = absurd starts

-- What was recovered and started is an opening.
opens : (sum : List ℕ → ℕ) (size : ℕ) (device new : DeviceView) (H : History) (A f : ℕ) (r : Reply) (b : RunState) → reason_of r ≡ None
    → let a : RunState = record { device = device; history = H; acknowledged = A; floor = f; log = None; due = None } in HasOpened sum size a r new b → IsStep sum size a command.Open r new b
opens sum size device new H A f (reply.Failed e) b none opened = inr opened
opens sum size device new H A f (reply.Refused w) b none opened = cc
opens sum size device new H A f r b none opened = opened

-- Whatever a start did, the table that it began on is as good as before.
still_good : (sum : List ℕ → ℕ) (size : ℕ) → 0 < size → (old new : DeviceView) (s : SnapshotModel) (r : Reply) → HasStarted size r old s new → (H : History) (A f : ℕ)
    → IsGood sum size (content_of (state_of old.trace)) H A f s → IsGood sum size (content_of (state_of new.trace)) H A f s
still_good sum size some old new s (reply.Opened stable active pages) starts H A f good = start_good sum size some old.trace new.trace s (subst (Performs (starting size old.trace s) old.trace) (sym starts.3) (performs_whole (starting size old.trace s) old.trace _ refl)) H A f good
still_good sum size some old new s (reply.Failed e) starts H A f good = start_good sum size some old.trace new.trace s starts.1 H A f good
still_good sum size some old new s _ starts H A f good = absurd starts

pub returns-in-Ok-clause-step : goal.returns-in-Ok-clause-step
returns-in-Ok-clause-step g c = λ stopped. λ k at free.
    let trace = g.D.Device.trace in
    let sum = g.C.Checksum.sum_of in
    let view = view_by g.D.Device.trace g.D.Device.faults stopped in
    let given = c.args.config.config in
    let size : ℕ = given.segment_size in
    let config = c.read_startable_snapshot.new.config in
    let old : DeviceView = view c.args.config.device in
    let mid : DeviceView = view config.device in
    let new : DeviceView = device_in view c.start.result.0 in
    let s : SnapshotModel = model_of c.in-Ok.snapshot in
    let ok = c.in-Ok.ensures.ok in
    let a : RunState = record { device = old; history = k.history; acknowledged = k.acknowledged; floor = k.floor; log = None; due = None } in
    let sizes : config.config.segment_size ≡ size = ap (λ (x : Config). x.segment_size) c.read_startable_snapshot.ensures.config.config in
    let has : HasRecovered sum size old mid s = record { conclusion = ok.conclusion; recovers = ok.recovers; shown = ok.model; written = ok.done; failures = c.in-Ok.ensures.answers } in
    let starts = subst (λ n. HasStarted n c.start.result.1 mid s new) sizes (c.start.ensures.acts stopped) in
    let not_refused = not_refusing size mid s c.start.result.1 new starts in
    let cut : ℕ = stable_place s.stable in
    let H' : History = below k.history cut in
    let l : Unstored = unreserved H' k.acknowledged cut (heads_on config.config.segment_size (length_of mid) s) in
    let b : RunState = stands view c.start.result.0 l in
    let comes : ReadsOnlyOwn sum size (state_of old.trace) → GoesOnFrom sum size a mid s c.start.result.1 new b × IsAt trace sum c.start.result.0 l × StaysWithin sum size a command.Open new b = λ own.
    let can : CanRecover sum size (state_of old.trace) k.history k.acknowledged k.floor = record { orderly = at.made.orderly; left = at.left; own = own } in
    let recovers = c.in-Ok.ensures.recovers k.history k.acknowledged k.floor can in
    let good = recovers.good in
    let kept = recovers.kept in
    let active : ShowsActive size cut s.active = subst (λ (x : SnapshotModel). ShowsActive size (stable_place x.stable) x.active) (sym ok.model)
    (shows_active sum size (content_of (state_of old.trace)) k.history k.acknowledged k.floor given.least (read_of sum size (content_of (state_of old.trace)) k.history k.acknowledged k.floor can.orderly (read_recoverable sum size old.trace own k.history k.acknowledged k.floor can.left)) ok.conclusion ok.recovers) in
    let recovered : IsRecoveredAt trace sum config s l = record {
      closed = subst (λ n. IsClosedAt sum n mid.trace l) (sym sizes) (record { made = made_below k.history cut at.made; left = kept });
      zeros = own.zeros;
      active = subst (λ n. ShowsActive n cut s.active) (sym sizes) active;
      ready = subst (λ n. Ready sum n (state_of mid.trace) s H' k.acknowledged cut) (sym sizes) recovers.ready;
      floor = refl;
      table = table_below k.history cut s.pages (low_place c.in-Ok.snapshot.stable_lsn (λ z is. search rules)) good.table;
      ends = all_from_in (λ m. m.place + m.size ≤ cut) H'.messages (λ m there. let found = from_below k.history cut m there in good.fits.messages m found.0 found.1);
    } in
    let started = (c.start.ensures.starts stopped) H' k.acknowledged cut recovered in
    let log = subst (λ n. log_in c.start.result.0 [] [] l.heads ≡ log_opened n (length_of mid) s c.start.result.1) sizes started.log in
    let why = subst (λ n. SaysWhy c.start.result.1 n new.failures) c.in-Ok.ensures.answers started.why in (
      record {
        good = still_good sum size (let least = given.least in omega (arith, least)) mid new s c.start.result.1 starts k.history k.acknowledged k.floor good;
        active = active;
        why = why;
        leads = λ i. record { device = new; history = H'; acknowledged = k.acknowledged; floor = cut; log = log i; due = started.due i };
      },
      started.at,
      (
        mid.trace,
        recovers.throughout,
        subst (λ n. StaysRecoverable sum n b mid.trace new.trace) sizes started.crash,
      ),
    ) in
    record {
      not_refused = not_refused;
      next = l;
      step = opens sum size old new k.history k.acknowledged k.floor c.start.result.1 b not_refused
          (record { opens = record { snapshot = s; mid = mid; recovers = has; begins = c.in-Ok.ensures.starts; starts = starts }; good = λ own. (comes own).0 });
      at = λ own. (comes (own_read sum size (state_of old.trace) c.start.result.1 not_refused own)).1;
      crash = λ own. (comes (own_read sum size (state_of old.trace) c.start.result.1 not_refused own)).2;
    }

pub returns-in-Ok-clause-on : goal.returns-in-Ok-clause-on
returns-in-Ok-clause-on g c =
    runs_on_both g.D.Device.trace c.args.config c.read_startable_snapshot.new.config _
    (record {
      later = recovery_later g.C.Checksum.sum_of c.args.config.config.segment_size _ _ c.read_startable_snapshot.ensures.calls;
      kept = c.read_startable_snapshot.ensures.config;
    })
    c.start.ensures.on

pub returns-in-Err-clause-on : goal.returns-in-Err-clause-on
returns-in-Err-clause-on g c = record {
  later = recovery_later g.C.Checksum.sum_of c.args.config.config.segment_size _ _ c.read_startable_snapshot.ensures.calls;
  kept = c.read_startable_snapshot.ensures.config;
}

-- A recovery that fails met damage, was refused memory, or its device failed.
recovery_fails : (sum : List ℕ → ℕ) (size : ℕ) (e : Error) (old new : DeviceView) → ItemAnswers {T = Snapshot} sum (state_of old.trace).blobs.file (Err e) old.failures new.failures → RecoveryCalls sum size old.trace new.trace
    → OnDamage {T = Snapshot} (Err e) (λ at. MeetsDamage sum size (content_of (state_of old.trace)) at × (new.trace ≡ NamesSynced ∷ Synced ∷ old.trace)) → RecoveryFails sum size e old new
recovery_fails sum size (error.Corruption at) old new answers calls damage = (damage.0, answers.1, damage.1, answers.0)
recovery_fails sum size (error.Io e) old new answers calls damage = (answers, calls)
recovery_fails sum size error.OutOfMemory old new answers calls damage = (answers, calls)
recovery_fails sum size _ old new answers calls damage = absurd answers

-- The last two can be of what was recoverable.
pub returns-in-Err-clause-step : goal.returns-in-Err-clause-step
returns-in-Err-clause-step g c = λ stopped. λ k at free.
    let view = view_by g.D.Device.trace g.D.Device.faults stopped in
    let trace = g.D.Device.trace in
    let sum = g.C.Checksum.sum_of in
    let size : ℕ = c.args.config.config.segment_size in
    let old : Trace = trace c.args.config.device in
    let new : Trace = trace c.read_startable_snapshot.new.config.device in
    let can : ReadsOnlyOwn sum size (state_of old) → CanRecover sum size (state_of old) k.history k.acknowledged k.floor = λ own. record { orderly = at.made.orderly; left = at.left; own = own } in
    let sizes : c.read_startable_snapshot.new.config.config.segment_size ≡ size = ap (λ (x : Config). x.segment_size) c.read_startable_snapshot.ensures.config.config in
    let recoverable : ReadsOnlyOwn sum size (state_of old) → LeavesOnly (RecoverableIfOwn sum size k.history k.acknowledged k.floor) old new = λ own.
    (c.read_startable_snapshot.ensures.recovers k.history k.acknowledged k.floor (can own)).throughout in
    record {
      not_refused = refl;
      next = k;
      step = inl (record {
        fails = recovery_fails sum size c.in-Err.e (view c.args.config.device) (view c.read_startable_snapshot.new.config.device) c.in-Err.ensures.answers c.read_startable_snapshot.ensures.calls c.in-Err.ensures.damage;
        cause = λ own. cause_of Snapshot sum (state_of old).blobs.file c.in-Err.e _ _ c.in-Err.ensures.answers
            (c.in-Err.ensures.recovers k.history k.acknowledged k.floor (can own)).undamaged;
        leads = refl;
      });
      at = λ own. record {
        made = at.made;
        left = subst (λ n. LeavesRecoverable sum n k.history k.acknowledged k.floor (state_of new)) (sym sizes)
            (at_last (LeavesRecoverable sum size k.history k.acknowledged k.floor) old new (recoverable own));
      };
      crash = λ own. (new, recoverable own, still_there sum size k.history k.acknowledged k.floor new new (at_last (LeavesRecoverable sum size k.history k.acknowledged k.floor) old new (recoverable own)) refl);
    }

-- What an opening does to the device, whatever that has.
device_acts : (sum : List ℕ → ℕ) (size : ℕ) (old mid new : DeviceView) (s : SnapshotModel) (r : Reply) → HasRecovered sum size old mid s → IsStartable size (length_of mid) s → HasStarted size r mid s new
    → Touches sum size false command.Open r old new
device_acts sum size old mid new s (reply.Opened stable active pages) has begins starts = record { snapshot = s; mid = mid; recovers = has; begins = begins; starts = starts }
device_acts sum size old mid new s (reply.Failed e) has begins starts = inr (record { snapshot = s; mid = mid; recovers = has; begins = begins; starts = starts })
device_acts sum size old mid new s _ has begins starts = absurd starts

pub returns-in-Ok-clause-device : goal.returns-in-Ok-clause-device
returns-in-Ok-clause-device g c = λ stopped.
    let sum = g.C.Checksum.sum_of in
    let view = view_by g.D.Device.trace g.D.Device.faults stopped in
    let size : ℕ = c.args.config.config.segment_size in
    let config = c.read_startable_snapshot.new.config in
    let old : DeviceView = view c.args.config.device in
    let mid : DeviceView = view config.device in
    let new : DeviceView = device_in view c.start.result.0 in
    let s : SnapshotModel = model_of c.in-Ok.snapshot in
    let ok = c.in-Ok.ensures.ok in
    let sizes : config.config.segment_size ≡ size = ap (λ (x : Config). x.segment_size) c.read_startable_snapshot.ensures.config.config in
    let has : HasRecovered sum size old mid s = record { conclusion = ok.conclusion; recovers = ok.recovers; shown = ok.model; written = ok.done; failures = c.in-Ok.ensures.answers } in
    let starts = subst (λ n. HasStarted n c.start.result.1 mid s new) sizes (c.start.ensures.acts stopped) in
    record { touches = device_acts sum size old mid new s c.start.result.1 has c.in-Ok.ensures.starts starts; opens = c.start.ensures.opens }

pub returns-in-Err-clause-device : goal.returns-in-Err-clause-device
returns-in-Err-clause-device g c = λ stopped.
    let view = view_by g.D.Device.trace g.D.Device.faults stopped in
    let new : DeviceView = view c.read_startable_snapshot.new.config.device in
    record {
      touches = inl (recovery_fails g.C.Checksum.sum_of c.args.config.config.segment_size c.in-Err.e (view c.args.config.device) new c.in-Err.ensures.answers c.read_startable_snapshot.ensures.calls c.in-Err.ensures.damage);
      opens = refl;
    }
