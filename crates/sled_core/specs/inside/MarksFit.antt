-- What the marks of a log have to do with its file.
use Rattle.std.specs.Prelude.{◌≡◌, ◌⊎◌, ◌<ℤ◌, ◌≤ℤ◌, ℕ, ℤ, pos, List, Option, Contains}
use Rattle.sled_codec.specs.History.{Batch}
use Rattle.sled_codec.specs.Snapshots.{SnapshotModel, stable_place}
use Rattle.sled_store.specs.SnapshotFiles.{BeginsFrom}
use Rattle.sled_core.specs.declared.iterator.Segment.{Segment}
use Rattle.sled_core.specs.declared.logger.joined_marks.JoinedMarks.{JoinedMarks}
use Rattle.sled_core.specs.inside.Scan.{IsFoundSegment}
use Rattle.sled_core.specs.Tail.{least_place}

-- A mark stands: it is no higher than the place with which the log began, or than the mark of a header that is found on the device.
abbrev pub MarkStands : (List ℕ → ℕ) → ℕ → List ℕ → SnapshotModel → ℤ → Type 0
MarkStands sum size log first mark =
    (mark ≤ℤ pos (stable_place first.stable)) ⊎ ((s : Segment) × IsFoundSegment sum size log (least_place size first) s × (mark ≤ℤ s.mark))

-- The marks of a log, that which joined and the greatest that is on the device: the one isn't above the other, and that one stands.
pub record MarksFit (sum : List ℕ → ℕ) (size : ℕ) (log : List ℕ) (first : SnapshotModel) (mark durable : ℤ) : Type 0 where
  pub joined : mark ≤ℤ durable
  pub stands : MarkStands sum size log first durable

-- So it is from the snapshot on with which the log began.
abbrev pub MarksFitFrom : (List ℕ → ℕ) → ℕ → (ℤ → Option (List ℕ)) → List ℕ → JoinedMarks → Type 0
MarksFitFrom sum size snapshots log marks = (first : SnapshotModel) → BeginsFrom sum snapshots first → MarksFit sum size log first marks.joined marks.durable

-- A mark is passed: it is the place with which the log began, or lies below what is written, and in no batch.
abbrev pub IsPassed : SnapshotModel → ℕ → List Batch → ℤ → Type 0
IsPassed first written batches mark =
    (mark ≡ pos (stable_place first.stable))
    ⊎ ((mark <ℤ pos written) × ((b : Batch) → Contains batches b → (mark <ℤ pos b.low) ⊎ (pos b.peg ≤ℤ mark)))

-- So are both marks of a log, since the greatest one that is on the device joins later.
pub record ArePassed (first : SnapshotModel) (written : ℕ) (batches : List Batch) (marks : JoinedMarks) : Type 0 where
  pub joined : IsPassed first written batches marks.joined
  pub durable : IsPassed first written batches marks.durable

-- and so it is from the snapshot on with which the log began
abbrev pub ArePassedFrom : (List ℕ → ℕ) → (ℤ → Option (List ℕ)) → ℕ → List Batch → JoinedMarks → Type 0
ArePassedFrom sum snapshots written batches marks = (first : SnapshotModel) → BeginsFrom sum snapshots first → ArePassed first written batches marks
