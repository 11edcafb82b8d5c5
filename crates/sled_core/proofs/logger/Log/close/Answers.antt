use Rattle.std.proofs.Common.{◌≡◌, ◌≢◌, ◌∙◌, ◌<◌, ◌≤◌, ◌+◌, ◌-◌, IfOk, OnErr, OnOk, List, [], take, ℕ, max, ap, subst, sym, arith, inl, inr, Option, None, Some, Result, Ok, Err}
use Rattle.std.specs.declared.io.Error.{Error as IoError}
use Rattle.sled_codec.specs.declared.result.Error.{Error}
use Rattle.sled_codec.specs.declared.result.Error.TheVariants.{Held, Io, OutOfMemory, PlacesUsedUp}
use Rattle.sled_store.specs.declared.config.RunningConfig.{RunningConfig}
use Rattle.sled_store.specs.Device.{Trace, state_of}
use Rattle.sled_store.specs.Moments.{LeavesOnly}
use Rattle.sled_store.specs.SegmentStates.{Machine, stabilized}
use Rattle.sled_core.specs.Account.{Account, account_of}
use Rattle.sled_core.specs.Causes.{HeldAnswers}
use Rattle.sled_core.specs.Fits.{IsUsedUpBelow, device_of, fault_of, holding_below, ledger_for, reserved_end, segment_size_of, stable_end, start_of, synced_end}
use Rattle.sled_core.specs.Fronts.{CameTo, ClosedAt, FailedFront, IsIo, IsStepDue, UnlessIo, WroteFront}
use Rattle.sled_core.specs.Keeps.{sealed_for, start_for}
use Rattle.sled_core.specs.Ledger.{ledger_behind}
use Rattle.sled_core.specs.LogStatus.{LogStatus, HasStatus, left_above, status_below}
use Rattle.sled_core.specs.Stable.{first_begin}
use Rattle.sled_core.proofs.Line.Buffers.{first_left}
use Rattle.sled_core.proofs.Line.StatusSeen.{start_seen}
use Rattle.sled_core.specs.Recoverable.{LeavesRecoverable, RecoverableIfOwn}
use Rattle.sled_core.specs.Running.{end_below}
use Rattle.sled_core.specs.Stable.{CloseAnswers, SyncsAll, first_begin, stable_behind}
use Rattle.sled_core.specs.declared.logger.Log.{Log}
use Rattle.sled_core.proofs.Holds.LessClaimed.{leaves_claimed}
use Rattle.sled_core.proofs.Holds.LastEnds.{acknowledged_up}
use Rattle.sled_core.proofs.Line.Outcomes.{on_both, on_err}
use Rattle.sled_core.proofs.logger.Log.close.Goals as goal

-- What the flush answers.
close_answers : {T : Type 0} (r : Result T Error) (held : Option ℕ) (used : Type 0) (fault now : Option IoError) (before after : ℕ) → HeldAnswers r held used fault now before after → CloseAnswers r held used fault before after
close_answers (Ok x) held used fault now before after (none, unused, old, new, same) = (none, unused, old, same)
close_answers (Err (Io e)) held used fault now before after (inl kept) = inl (kept.0, kept.2)
close_answers (Err (Io e)) held used fault now before after (inr failed) = inr (failed.0, failed.2, failed.3)
close_answers (Err OutOfMemory) held used fault now before after (unused, old, new, same) = (unused, old, same)
close_answers (Err PlacesUsedUp) held used fault now before after (is, old, new, same) = (is, old, same)
close_answers (Err (Held at)) held used fault now before after (place, unused, old, new, same) = (place, unused, old, same)
close_answers (Err _) held used fault now before after answers = absurd answers

-- By how much the stable end grew: what is left begins there.

stable_left : {D C : Type 0} (sum : List ℕ → ℕ) (to : ℕ) (old new : Log D C) → HasStatus (left_above sum to old) (status_below sum to old) new → stable_behind sum to old ≡ synced_end new
stable_left sum to old new (left, is) =
    let start : start_of new ≡ start_for to old = ap (λ (s : LogStatus). s.start) is ∙ sym (start_seen old to) in
    sym (first_left new ∙ (λ i. first_begin (left i) (start i)))

grown : {D C : Type 0} (r : Result ℕ Error) (P : Type 0) (old new : Log D C) (behind before : ℕ) → (P → behind ≡ synced_end new) → IfOk r (λ n. stable_end new ≡ before + n) → OnOk r P → OnOk r (SyncsAll old new) → IfOk r (λ n. behind ≡ before + n)
grown (Ok n) P old new behind before left grows is all = left is ∙ sym all.stable ∙ grows
grown (Err e) P old new behind before left grows is all = tt

pub returns-clause-answer : goal.returns-clause-answer
returns-clause-answer g c =
    let old = c.args.self in
    let new = c.flush-flushed.new.self in
    grown c.flush-flushed.result _ old new _ (stable_end old) (stable_left g.C.Checksum.sum_of (reserved_end old) old new) c.flush-flushed.ensures.answer c.flush-flushed.ensures.status c.flush-flushed.ensures.synced

reached : {D C : Type 0} (r : Result ℕ Error) (old new : Log D C) (before : ℕ) → IfOk r (λ n. stable_end new ≡ before + n) → OnOk r (SyncsAll old new) → IfOk r (λ n. reserved_end old ≤ before + n)
reached (Ok n) old new before grows all = let low = all.whole in let same = all.stable in omega (arith, low, grows, same)
reached (Err e) old new before grows all = tt

pub returns-clause-whole : goal.returns-clause-whole
returns-clause-whole g c =
    let old = c.args.self in
    let new = c.flush-flushed.new.self in
    reached c.flush-flushed.result old new (stable_end old) c.flush-flushed.ensures.answer c.flush-flushed.ensures.synced

pub returns-clause-answers : goal.returns-clause-answers
returns-clause-answers g c =
    let old = c.args.self in
    let new = c.flush-flushed.new.self in
    subst (λ (x : RunningConfig _ _). CloseAnswers c.flush-flushed.result (holding_below g.C.Checksum.sum_of old (reserved_end old)) (IsUsedUpBelow old (reserved_end old)) (fault_of old) (g.D.Device.faults (device_of old)) (g.D.Device.faults x.device)) (sym c.halt.ensures.config)
    (close_answers c.flush-flushed.result _ _ (fault_of old) (fault_of new) _ _ c.flush-flushed.ensures.answers)

-- How far it came, where it failed.

no_fault : {T : Type 0} (r : Result T Error) (held : Option ℕ) (used : Type 0) (fault now : Option IoError) (before after : ℕ) → HeldAnswers r held used fault now before after → (P : Type 0) → (now ≡ None → P) → UnlessIo r P
no_fault (Ok x) held used fault now before after says P did = did says.3
no_fault (Err (Io e)) held used fault now before after says P did = tt
no_fault (Err OutOfMemory) held used fault now before after says P did = did says.2
no_fault (Err PlacesUsedUp) held used fault now before after says P did = did says.2
no_fault (Err (Held at)) held used fault now before after says P did = did says.3
no_fault (Err _) held used fault now before after says P did = absurd says

-- the device failed in it, so the log keeps that
io_kept : {T : Type 0} (r : Result T Error) (held : Option ℕ) (used : Type 0) (fault now : Option IoError) (before after : ℕ) → HeldAnswers r held used fault now before after → fault ≡ None → now ≡ fault → IsIo r → ⊥
io_kept (Err (Io e)) held used fault now before after (inl kept) none same io = let bad : None ≡ Some e = sym none ∙ kept.0 in cc
io_kept (Err (Io e)) held used fault now before after (inr failed) none same io = let bad : None ≡ Some e = sym none ∙ sym same ∙ failed.1 in cc
io_kept _ held used fault now before after says none same io = absurd io

-- It answers that, too.
io_answers : {T : Type 0} (r : Result T Error) (held : Option ℕ) (used : Type 0) (fault now : Option IoError) (before after : ℕ) (e : IoError)
    → HeldAnswers r held used fault now before after → now ≡ Some e → IsIo r
io_answers (Ok x) held used fault now before after e says kept = absurd (let bad : None ≡ Some e = sym says.3 ∙ kept in cc)
io_answers (Err (Io x)) held used fault now before after e says kept = tt
io_answers (Err OutOfMemory) held used fault now before after e says kept = absurd (let bad : None ≡ Some e = sym says.2 ∙ kept in cc)
io_answers (Err PlacesUsedUp) held used fault now before after e says kept = absurd (let bad : None ≡ Some e = sym says.2 ∙ kept in cc)
io_answers (Err (Held at)) held used fault now before after e says kept = absurd (let bad : None ≡ Some e = sym says.3 ∙ kept in cc)
io_answers (Err _) held used fault now before after e says kept = absurd says

-- The step that failed had a call to make.
step_due : {D C : Type 0} (trace : D → Trace) (sum : List ℕ → ℕ) (to : ℕ) (old new : Log D C) → segment_size_of new ≡ segment_size_of old
    → (front : WroteFront trace sum to old new) → FailedFront trace sum to front.count old new → IsStepDue sum to front.count old
step_due trace sum to old new size front failed =
    let slots : Machine = (ledger_behind (segment_size_of old) (take (front.count - 1) (sealed_for sum to old)) (ledger_for to old)).machine in
    subst (λ (a : Account). (stabilized (segment_size_of old) a.mark slots).calls ≢ []) front.ledger.0
    (subst (λ (n : ℕ). (stabilized n (account_of new).mark slots).calls ≢ []) size failed.2.due)

closes_part : {T D C : Type 0} (trace : D → Trace) (sum : List ℕ → ℕ) (r : Result T Error) (old new : Log D C) → ((P : Type 0) → (fault_of new ≡ None → P) → UnlessIo r P) → (fault_of old ≡ None → fault_of new ≡ fault_of old → IsIo r → ⊥)
    → ((e : IoError) → fault_of new ≡ Some e → IsIo r) → segment_size_of new ≡ segment_size_of old
    → CameTo trace sum (reserved_end old) old new → ClosedAt trace sum r old (trace (device_of new))
closes_part trace sum r old new sound never io size (inl none) = inl (none.still, λ kept. (none.due kept, never kept (ap (λ (s : LogStatus). s.fault) none.stands.1)))
closes_part trace sum r old new sound never io size (inr front) = inr (record {
  count = front.count;
  written = front.written;
  whole = sound _ front.whole;
  short = elim front.ledger.1 [
    | inl whole ↦ inr (subst (λ n. n < reserved_end old) (first_left new ∙ (λ i. first_begin (front.stands.0 i) (starts front i))) whole.1)
    | inr failed ↦ inl (io failed.0.fault failed.0.kept, failed.0.sound, failed.0.unpinned, failed.1, step_due trace sum _ old new size front failed)
  ];
}) where
  starts : (front : WroteFront trace sum (reserved_end old) old new) → start_of new ≡ start_for (reserved_end old) old
  starts front = ap (λ (s : LogStatus). s.start) front.stands.1 ∙ sym (start_seen old (reserved_end old))

pub returns-clause-came : goal.returns-clause-came
returns-clause-came g c =
    let sum = g.C.Checksum.sum_of in
    let old = c.args.self in
    let new = c.flush-flushed.new.self in
    let r = c.flush-flushed.result in
    subst (λ (x : RunningConfig _ _). OnErr r (ClosedAt g.D.Device.trace sum r old (g.D.Device.trace x.device))) (sym c.halt.ensures.config)
    (on_err r _ _ (closes_part g.D.Device.trace sum r old new (no_fault r _ _ _ _ _ _ c.flush-flushed.ensures.answers) (io_kept r _ _ _ _ _ _ c.flush-flushed.ensures.answers)
    (λ e. io_answers r _ _ _ _ _ _ e c.flush-flushed.ensures.answers) c.flush-flushed.ensures.keeps.position.size) c.flush-flushed.ensures.buffers.1)

-- Where the log keeps a failure the flush did nothing.
pub returns-clause-faulty : goal.returns-clause-faulty
returns-clause-faulty g c = λ e kept.
    let trace = g.D.Device.trace in
    ap (λ (x : RunningConfig g.row.D.Denot g.row.C.Denot). trace x.device) c.halt.ensures.config
    ∙ ap (λ (l : Log g.row.D.Denot g.row.C.Denot). trace (device_of l)) (c.flush-flushed.ensures.spares.faulty e kept)

pub returns-clause-idle : goal.returns-clause-idle
returns-clause-idle g c = λ none. ap (λ (x : RunningConfig g.row.D.Denot g.row.C.Denot). g.D.Device.faults x.device) c.halt.ensures.config ∙ c.flush-flushed.ensures.spares.idle none

pub returns-clause-crash : goal.returns-clause-crash
returns-clause-crash g c = λ H A f U fits.
    let old = c.args.self in
    subst (λ (x : RunningConfig _ _). LeavesOnly (RecoverableIfOwn g.C.Checksum.sum_of (segment_size_of old) H A f) (g.D.Device.trace (device_of old)) (g.D.Device.trace x.device)) (sym c.halt.ensures.config)
    (c.flush-flushed.ensures.keeps.preserves.goes_on.crash H A f U fits)

-- What was flushed can be recovered once the log is given up.
pub returns-clause-acknowledges : goal.returns-clause-acknowledges
returns-clause-acknowledges g c = λ H A f U fits.
    let sum = g.C.Checksum.sum_of in
    let old = c.args.self in
    let new = c.flush-flushed.new.self in
    let left = state_of (g.D.Device.trace c.halt.result.device) in
    on_both c.flush-flushed.result _ _ (LeavesRecoverable sum (segment_size_of old) H (max A (end_below (reserved_end old) H)) f left)
    (λ flushed synced.
    let up = acknowledged_up (reserved_end old) (synced_end new) H synced.whole in
    leaves_claimed sum (segment_size_of old) f f (omega arith) H (max A (end_below (synced_end new) H)) (max A (end_below (reserved_end old) H)) (omega (arith, up)) left
    (subst (λ n. LeavesRecoverable sum n H (max A (end_below (synced_end new) H)) f left) c.flush-flushed.ensures.keeps.position.size
    (c.halt.ensures.recoverable H (max A (end_below (synced_end new) H)) f U flushed)))
    (c.flush-flushed.ensures.acknowledges H A f U fits) c.flush-flushed.ensures.synced
