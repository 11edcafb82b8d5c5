-- What lasts from a place on can be recovered with less acknowledged.
use Rattle.std.proofs.Common.{◌≤◌, ℕ, List}
use Rattle.sled_codec.specs.History.{History}
use Rattle.sled_store.specs.Device.{State}
use Rattle.sled_core.specs.Recoverable.{LeavesRecoverable}
use Rattle.sled_core.specs.inside.Lasting.{IsLasting, LastsFrom, LeavesRecovering}
use Rattle.sled_core.specs.invariants.Lasting.{Lasts}
use Rattle.sled_core.proofs.Flush.Settled.{recoverable_less}

module _ (sum : List ℕ → ℕ) (size : ℕ) (H : History) (A f : ℕ) (s : State) where
  pub lasting_leaves : IsLasting sum size s H A f → LeavesRecoverable sum size H A f s
  unfolding Lasts
  lasting_leaves is left may own = (recoverable_less sum size left H A is.stable f is.passes (is.lasts.can left may own), is)

  -- from that place on
  pub lasts_leaves : (stable : ℕ) → A ≤ stable → LastsFrom sum size H stable f s → LeavesRecoverable sum size H A f s
  lasts_leaves stable passes lasts = lasting_leaves (record { stable = stable; passes = passes; lasts = lasts })

  -- What is left can be recovered, whatever comes behind that.
  pub leaves_recovering : LeavesRecoverable sum size H A f s → LeavesRecovering sum size H A f s
  leaves_recovering leaves left may own = (leaves left may own).0
