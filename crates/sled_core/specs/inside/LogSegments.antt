-- What proofs, and functions that no user calls, need beside `specs/LogSegments.antt`. No public contract names it.
use Rattle.std.specs.Prelude.{ℕ, List, [], ◌∷◌, Option, None, Some}
use Rattle.sled_codec.specs.Snapshots.{SnapshotModel, stable_place}
use Rattle.sled_core.specs.LogSegments.{held_from}
use Rattle.sled_core.specs.declared.logger.joined_marks.JoinedMarks.{JoinedMarks}

-- what there is, as a list
abbrev pub list_of : {A : Type 0} → Option A → List A
list_of None = []
list_of (Some a) = a ∷ []

-- from where what is held counts of a log with these marks that began from this snapshot
abbrev pub held_since : ℕ → JoinedMarks → SnapshotModel → ℕ
held_since size marks first = held_from size (stable_place first.stable) marks.joined
