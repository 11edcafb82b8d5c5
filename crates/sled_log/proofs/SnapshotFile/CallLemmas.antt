-- The calls that remove snapshots of two lists of numbers.
use Rattle.std.proofs.Common.{◌≡◌, ℤ, true, List, [], ◌∷◌, ◌++◌, refl, ap}
use Rattle.sled_store.specs.Device.{Event, SnapshotRemoved}
use Rattle.sled_log.specs.WritesBack.{removing_snapshots}

pub removing_both : (ms ns : List ℤ) → removing_snapshots (ms ++ ns) ≡ removing_snapshots ms ++ removing_snapshots ns
removing_both [] ns = refl
removing_both (m ∷ ms) ns = ap (λ (es : List Event). SnapshotRemoved m true ∷ es) (removing_both ms ns)
