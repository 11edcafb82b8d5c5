-- What a recovery restored is good, can be recovered again, and a log can go on from it; and of what can be recovered nothing is taken for damage.
use Rattle.std.proofs.Common.{◌≤◌, ℕ, List, Option, sym, subst, inl, inr}
use Rattle.sled_codec.specs.declared.result.DiskPtr.{DiskPtr}
use Rattle.sled_codec.specs.History.{History, below}
use Rattle.sled_codec.specs.Snapshots.{SnapshotModel, stable_place}
use Rattle.sled_store.specs.Device.{Content, Trace, content_of, state_of}
use Rattle.sled_core.specs.Good.{IsGood}
use Rattle.sled_core.specs.Recoverable.{LeavesRecoverable}
use Rattle.sled_core.specs.invariants.Running.{Ready}
use Rattle.sled_core.proofs.PublicLaws.{read_recoverable}
use Rattle.sled_core.proofs.Numbers.Lasting.{lasting_leaves}
use Rattle.sled_core.proofs.Start.StartedMoments.{ready_lasts}
use Rattle.sled_log.specs.Orderly.{CanRecover}
use Rattle.sled_log.specs.Restores.{MeetsDamage, Restores}
use Rattle.sled_log.proofs.Afterwards.LeftGood.{good_left}
use Rattle.sled_log.proofs.Moments.RecoveryAlong.{can_read}
use Rattle.sled_log.proofs.Ready.ComesBack.{is_ready, reads_back}
use Rattle.sled_log.proofs.Ready.Convertible.{read_of}
use Rattle.sled_log.proofs.Recovers.Readable.{CanRead}
use Rattle.sled_log.proofs.Recovers.RecoversGood.{read_undamaged}
use Rattle.sled_log.proofs.Ready.Startable.{startable}

module _ (sum : List ℕ → ℕ) (size : ℕ) (long : 256 ≤ size) (old : Trace) (H : History) (A f : ℕ) (can : CanRecover sum size (state_of old) H A f) where
  abbrev content : Content
  content = content_of (state_of old)

  -- what is read can be read back
  reads : CanRead sum size content H A f
  reads = read_of sum size content H A f can.orderly (read_recoverable sum size old can.own H A f can.left)

  pub not_damaged : size ≤ 8388608 → (at : Option DiskPtr) → MeetsDamage sum size content at → ⊥
  not_damaged most at (inl damaged) = read_undamaged sum size content H A f long reads at damaged
  not_damaged most at (inr (unnamed, x, recovers, none)) = none (startable sum size content H A f long most reads x recovers)

  module _ (new : Trace) (s : SnapshotModel) (ok : Restores sum size old new s) where
    pub restored_good : IsGood sum size (content_of (state_of new)) H A f s
    restored_good =
        subst (λ (x : SnapshotModel). IsGood sum size (content_of (state_of new)) H A f x) (sym ok.model)
        (good_left sum size H A f long old (can_read sum size H A f long old (reads_back sum size long old H A f can new) can.own) can.own.zeros ok.conclusion ok.recovers (state_of new) ok.written)

    pub restored_ready : Ready sum size (state_of new) s (below H (stable_place s.stable)) A (stable_place s.stable)
    restored_ready = is_ready sum size long old H A f can new s ok

    pub restored_kept : LeavesRecoverable sum size (below H (stable_place s.stable)) A (stable_place s.stable) (state_of new)
    unfolding Ready
    restored_kept =
        let cut : ℕ = stable_place s.stable in
        lasting_leaves sum size (below H cut) A cut (state_of new) (ready_lasts sum size new s (below H cut) A cut long restored_ready)
