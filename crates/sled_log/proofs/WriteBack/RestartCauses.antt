-- Why a flush failed, as its caller tells it; and what one that succeeded has left.
use Rattle.std.proofs.Common.{◌≡◌, ◌∙◌, ◌≤ℤ◌, ap, sym, subst, ℕ, pos, List, Option, None, Some, refl, inl, inr}
use Rattle.std.specs.Prelude.{Err, IsSome}
use Rattle.std.specs.declared.io.Error.{Error as IoError}
use Rattle.sled_codec.specs.declared.result.Error.{Error}
use Rattle.sled_codec.specs.Errors.{IsCorrupt}
use Rattle.sled_codec.specs.declared.result.Error.TheVariants as error
use Rattle.sled_codec.specs.History.{History, Message}
use Rattle.sled_store.specs.Device.{Trace, state_of}
use Rattle.sled_store.specs.Script.{after_all}
use Rattle.sled_core.specs.declared.logger.Log.{Log}
use Rattle.sled_core.specs.Causes.{HeldAnswers}
use Rattle.sled_core.specs.Fits.{device_of, fault_of, flushing, reserved_end, segment_size_of}
use Rattle.sled_core.specs.Freeing.{Ledger}
use Rattle.sled_core.specs.Keeps.{sealed_for}
use Rattle.sled_core.specs.Ledger.{ledger_behind}
use Rattle.sled_core.specs.LogStatus.{LogStatus, status_below, status_of}
use Rattle.sled_core.specs.Waiting.{front_below}
use Rattle.sled_core.proofs.Line.StatusSeen.{ledger_below_seen}
use Rattle.sled_core.specs.Stale.{NothingStaleAt}
use Rattle.sled_core.specs.Recoverable.{LeavesRecoverable, ReadsOnlyOwn}
use Rattle.sled_core.specs.invariants.Running.{Fits}
use Rattle.sled_core.proofs.PublicLaws.{fits_leaves, fits_reads_own, fits_reads_own_unless_stale}
use Rattle.sled_log.specs.Orderly.{CanRecover}
use Rattle.sled_log.specs.Restarts.{CanRestart, FlushFails}

-- a failure that is there
pub some_of : {X : Type 0} (o : Option X) → IsSome o → (x : X) × (o ≡ Some x)
some_of None is = cc
some_of (Some x) is = (x, refl)

pub flush_fails : (T S : Type 0) (e : Error) (held : Option ℕ) (used : Type 0) (old new : Option IoError) (before after : ℕ) → held ≡ None → HeldAnswers {T = T} (Err e) held used old new before after
    → FlushFails {T = S} (Err e) used old before after
flush_fails T S (error.Io x) held used old new before after free (inl kept) = inl (kept.0, kept.2)
flush_fails T S (error.Io x) held used old new before after free (inr failed) = inr (failed.0, failed.2, failed.3)
flush_fails T S error.OutOfMemory held used old new before after free answers = (answers.0, answers.1, answers.3)
flush_fails T S error.PlacesUsedUp held used old new before after free answers = (answers.0, answers.1, answers.3)
flush_fails T S (error.Held at) held used old new before after free answers = let some : Some answers.0.0 ≡ None = sym answers.0.1 ∙ free in cc
flush_fails T S _ held used old new before after free answers = absurd answers

-- None fails for damage.
pub flush_undamaged : (T : Type 0) (e : Error) (held : Option ℕ) (used : Type 0) (old new : Option IoError) (before after : ℕ)
    → HeldAnswers {T = T} (Err e) held used old new before after → IsCorrupt e → ⊥
flush_undamaged T (error.Corruption at) held used old new before after answers is = absurd answers
flush_undamaged T _ held used old new before after answers is = absurd is

-- What a flush that succeeded has left can be recovered, where the log could be restarted.
pub can_recover : {D C : Type 0} (trace : D → Trace) (sum : List ℕ → ℕ) (old new : Log D C) (device : D) (H : History) (A end f : ℕ) (U : List Message)
    → segment_size_of new ≡ segment_size_of old → trace device ≡ trace (device_of new)
    → trace device ≡ after_all (flushing sum old) (trace (device_of old))
    → fault_of old ≡ None → fault_of new ≡ None → status_of new ≡ status_below sum (reserved_end old) old → CanRestart trace sum old H A f U → Fits trace sum new H end f U
    → CanRecover sum (segment_size_of old) (state_of (trace device)) H end f
can_recover trace sum old new device H A end f U size same came none still is can fits = let to : ℕ = reserved_end old in record {
  orderly = can.orderly;
  left = subst (λ (t : Trace). LeavesRecoverable sum (segment_size_of old) H end f (state_of t)) (sym same)
      (subst (λ n. LeavesRecoverable sum n H end f (state_of (trace (device_of new)))) size (fits_leaves trace sum new H end f U fits));
  own = elim (can.own none) [
    | inl (zeros, inl low) ↦ subst (λ (t : Trace). ReadsOnlyOwn sum (segment_size_of old) (state_of t)) (sym same)
        (subst (λ n. ReadsOnlyOwn sum n (state_of (trace (device_of new)))) size
        (fits_reads_own trace sum new H end f U fits still zeros
        (subst (λ z. z ≤ℤ pos f) (sym (ap (λ (s : LogStatus). s.account.mark) is ∙ ap (λ (l : Ledger). (ledger_behind (segment_size_of old) (front_below to (sealed_for sum to old)) l).account.mark) (sym (ledger_below_seen old to)))) low)))
    | inl (zeros, inr stale) ↦ subst (λ (t : Trace). ReadsOnlyOwn sum (segment_size_of old) (state_of t)) (sym same)
        (subst (λ n. ReadsOnlyOwn sum n (state_of (trace (device_of new)))) size
        (fits_reads_own_unless_stale trace sum new H end f U fits still zeros
        (subst (λ n. NothingStaleAt n (status_of new) (state_of (trace (device_of new))).log.bytes) (sym size)
        (subst (λ (s : LogStatus). NothingStaleAt (segment_size_of old) s (state_of (trace (device_of new))).log.bytes) (sym is)
        (subst (λ (t : Trace). NothingStaleAt (segment_size_of old) (status_below sum to old) (state_of t).log.bytes) (sym came ∙ same) stale)))))
    | inr own ↦ subst (λ (t : Trace). ReadsOnlyOwn sum (segment_size_of old) (state_of t)) (sym came) own
  ];
}
