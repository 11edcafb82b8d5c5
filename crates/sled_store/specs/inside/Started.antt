-- What proofs, and functions that no user calls, need beside `specs/Started.antt`. No public contract names it.
use Rattle.std.specs.Prelude.{ℕ}
use Rattle.sled_codec.specs.Snapshots.{SnapshotModel}
use Rattle.sled_store.specs.Begin.{slots_of}
use Rattle.sled_store.specs.SegmentStates.{left_after}
use Rattle.sled_store.specs.Started.{found}

-- how many slots are left of a file of this length once an accountant has started on it
abbrev pub left_slots : ℕ → ℕ → SnapshotModel → ℕ
left_slots size len s = left_after (slots_of size len) (found size (slots_of size len) s).slots
