-- What can be recovered is what can be read back, for an orderly history, over any number of segments.
use Rattle.std.proofs.Common.{ℕ, List}
use Rattle.sled_codec.specs.History.{History}
use Rattle.sled_store.specs.Device.{Content, State}
use Rattle.sled_core.specs.invariants.Recoverable.{Recoverable}
use Rattle.sled_core.specs.inside.Lasting.{LeavesRecovering}
use Rattle.sled_log.proofs.Recovers.Readable.{CanRead, LeavesReadable}
use Rattle.sled_log.specs.Orderly.{IsOrderly}

module _ (sum : List ℕ → ℕ) (size : ℕ) where
  -- A content that can be recovered can be read back.
  pub read_of : (content : Content) (H : History) (A f : ℕ) → IsOrderly H → Recoverable sum size content H A f → CanRead sum size content H A f
  unfolding Recoverable
  read_of content H A f orderly is = record { orderly = orderly; first = is.first; cut = is.cut; snapshots = is.snapshots; log = is.log; blobs = is.blobs }

  -- One that can be read back can be recovered.
  pub recoverable_of : (content : Content) (H : History) (A f : ℕ) → CanRead sum size content H A f → Recoverable sum size content H A f
  unfolding Recoverable
  recoverable_of content H A f can = record { first = can.first; cut = can.cut; snapshots = can.snapshots; log = can.log; blobs = can.blobs }

  -- So it is with all that a crash leaves of a device.
  pub leaves_readable : (H : History) (A f : ℕ) (device : State) → IsOrderly H → LeavesRecovering sum size H A f device → LeavesReadable sum size H A f device
  leaves_readable H A f device orderly kept left leaves own = read_of left H A f orderly (kept left leaves own)

  pub leaves_recoverable : (H : History) (A f : ℕ) (device : State) → LeavesReadable sum size H A f device → LeavesRecovering sum size H A f device
  leaves_recoverable H A f device kept left leaves own = recoverable_of left H A f (kept left leaves own)
