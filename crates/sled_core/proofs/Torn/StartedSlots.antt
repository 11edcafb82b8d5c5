-- The slots of a log file that a snapshot uses: a start leaves them as they are.
use Rattle.std.proofs.Common.{◌≡◌, ◌<◌, ℕ, true}
use Rattle.sled_codec.specs.Snapshots.{SnapshotModel}
use Rattle.sled_store.specs.Begin.{slots_of, is_used}

-- a slot of a file of this length that a snapshot uses
abbrev pub UsedIn : ℕ → ℕ → SnapshotModel → ℕ → Type 0
UsedIn size len s j = (is_used size s j ≡ true) × (j < slots_of size len)
