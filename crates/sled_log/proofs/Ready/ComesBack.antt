-- What a recovery leaves for a log, said of its answer: over any content that can be read back, and of a log that was flushed, whose whole history it holds again.
use Rattle.std.proofs.Common.{ℤ, ◌≤◌, ◌+◌, ℕ, List, sym, subst, arith}
use Rattle.sled_codec.specs.History.{History, below}
use Rattle.sled_codec.specs.Snapshots.{SnapshotModel, stable_place}
use Rattle.sled_store.specs.Device.{Trace, state_of}
use Rattle.sled_store.specs.Moments.{LeavesOnly}
use Rattle.sled_core.specs.declared.iobuf.SegmentPosition.{SegmentPosition}
use Rattle.sled_core.specs.Fits.{EndBelow, CloseBelow, IsKept}
use Rattle.sled_core.specs.Logged.{logged}
use Rattle.sled_core.specs.Recoverable.{LeavesRecoverable, RecoverableIfOwn}
use Rattle.sled_core.specs.inside.Lasting.{IsLasting}
use Rattle.sled_core.specs.invariants.Lasting.{Lasts}
use Rattle.sled_core.specs.invariants.Running.{Ready}
use Rattle.sled_core.specs.Running.{end_below}
use Rattle.sled_core.proofs.Blobs.FirmContent.{content_leaves, content_own, firm_content}
use Rattle.sled_core.proofs.Holds.LastEnds.{batches_last, messages_last}
use Rattle.sled_core.proofs.Logged.Messages.{logged_apart, logged_below}
use Rattle.sled_core.proofs.Numbers.Lasting.{lasts_leaves, leaves_recovering}
use Rattle.sled_core.proofs.Numbers.OwnLess.{OwnLess}
use Rattle.sled_core.proofs.Numbers.Stay.{stay_less}
use Rattle.sled_log.proofs.Recovers.Readable.{LeavesReadable}
use Rattle.sled_log.specs.Orderly.{CanRecover}
use Rattle.sled_log.specs.Restores.{BeginsAgain, RecoveryCalls, Restores}
use Rattle.sled_log.proofs.Moments.LessOwn.{recovery_less, throughout_both}
use Rattle.sled_log.proofs.Moments.RecoveryAlong.{recovery_throughout}
use Rattle.sled_log.proofs.Ready.Convertible.{leaves_readable, leaves_recoverable}
use Rattle.sled_log.proofs.Ready.RecoveredReady.{recovered_ready}
use Rattle.sled_log.proofs.Ready.WholeBelow.{whole_below}

module _ (sum : List ℕ → ℕ) (size : ℕ) (some : 256 ≤ size) (old : Trace) (H : History) (A f : ℕ) (can : CanRecover sum size (state_of old) H A f) (new : Trace) where
  -- each content that a crash leaves can be read back
  pub reads_back : LeavesReadable sum size H A f (state_of old)
  reads_back = leaves_readable sum size H A f (state_of old) can.orderly (leaves_recovering sum size H A f (state_of old) can.left)

  -- and lasts.
  lasting : IsLasting sum size (state_of old) H A f
  unfolding Lasts
  lasting = (can.left (firm_content sum size old can.own) (content_leaves sum size old can.own) (content_own sum size old can.own)).1

  -- At each moment of a recovery what a crash leaves can be recovered.
  pub holds_throughout : RecoveryCalls sum size old new → LeavesOnly (RecoverableIfOwn sum size H A f) old new
  holds_throughout calls =
      let is = lasting in
      throughout_both (LeavesReadable sum size H is.stable f) (λ s. OwnLess sum size s (state_of old)) (LeavesRecoverable sum size H A f)
      (λ s kept less. lasts_leaves sum size H A f s is.stable is.passes (record {
        can = leaves_recoverable sum size H is.stable f s kept;
        numbers = λ zeros. stay_less sum size s (state_of old) less H is.stable (is.lasts.numbers zeros);
      })) old new
      (recovery_throughout sum size H is.stable f some old (leaves_readable sum size H is.stable f (state_of old) can.orderly is.lasts.can) can.own new calls)
      (recovery_less sum size can.own.zeros old new calls)

  module _ (s : SnapshotModel) (ok : Restores sum size old new s) where
    -- Behind it all is ready for a log that holds what lies below the cut.
    pub is_ready : Ready sum size (state_of new) s (below H (stable_place s.stable)) A (stable_place s.stable)
    is_ready =
        subst (λ (t : SnapshotModel). Ready sum size (state_of new) t (below H (stable_place t.stable)) A (stable_place t.stable)) (sym ok.model)
        (recovered_ready sum size H A f some old reads_back can.own can.orderly lasting ok.conclusion ok.recovers ok.fits new ok.done (subst (λ (t : SnapshotModel). BeginsAgain sum (state_of old).snapshots.file (state_of new) t) ok.model ok.newest))

    passes : A ≤ stable_place s.stable
    unfolding Ready
    passes = is_ready.passes

    -- Where all was acknowledged, that is the whole history.
    pub ready_whole : EndBelow A H.messages → CloseBelow A H.batches → Ready sum size (state_of new) s H A (stable_place s.stable)
    ready_whole messages batches = subst (λ (K : History). Ready sum size (state_of new) s K A (stable_place s.stable)) (whole_below H A (stable_place s.stable) messages batches passes) is_ready

-- Behind a flush all of a history is on the device: a recovery of that leaves what a log goes on from that holds the whole history.
pub ready_kept : (sum : List ℕ → ℕ) {mark durable : ℤ} (size : ℕ) (site : SegmentPosition) (from : ℕ) (old new : Trace) (H : History) (A f : ℕ) → 256 ≤ size → IsKept sum mark durable size site from (state_of old) (logged H) → end_below (site.place + from) H ≤ A → CanRecover sum size (state_of old) H A f
    → (s : SnapshotModel) → Restores sum size old new s → Ready sum size (state_of new) s H A (stable_place s.stable)
ready_kept sum size site from old new H A f some kept up can s ok =
    ready_whole sum size some old H A f can new s ok (messages_last (site.place + from) A H.messages (omega (arith, up)) (logged_below (site.place + from) H kept.below) (logged_apart H kept.apart)) (batches_last (site.place + from) A H.batches (omega (arith, up)) kept.batches)
