-- What stands in the slots of a log that aren't free: the segments that are wholly on the device, and what was marked.
use Rattle.std.specs.Prelude.{◌≡◌, ◌+◌, ◌*◌, ◌/◌, ◌≤◌, ℕ, ℤ, false, List, Option, Contains}
use Rattle.sled_codec.specs.History.{Message, History}
use Rattle.sled_codec.specs.Snapshots.{SnapshotModel}
use Rattle.sled_store.specs.Outdated.{AreOutdated}
use Rattle.sled_store.specs.SegmentStates.{Machine, is_free, slot_at}
use Rattle.sled_store.specs.SnapshotFiles.{BeginsFrom}
use Rattle.sled_store.specs.Tracked.{IsAccountOf}
use Rattle.sled_store.specs.inside.Outdated.{AreInActive}
use Rattle.sled_core.specs.declared.iterator.Segment.{Segment}
use Rattle.sled_core.specs.declared.logger.joined_marks.JoinedMarks.{JoinedMarks}
use Rattle.sled_core.specs.Unmarked.{without}
use Rattle.sled_core.specs.inside.LogSegments.{held_since}
use Rattle.sled_core.specs.inside.Recoverable.{IsReachedIn, IsReadOn}
use Rattle.sled_core.specs.inside.Scan.{IsFoundSegment}

-- the segment with this mark
abbrev pub marked_at : ℕ → ℕ → ℤ → Segment
marked_at slot place mark = record { place = place; slot = slot; mark = mark }

-- A segment that begins at a place lies in a slot: its header is found there, it is read to its end and leads on, all that is met in it is of the history,
-- and each message of the history in it is reached.
pub record IsWholeSegment (sum : List ℕ → ℕ) (size : ℕ) (log : List ℕ) (H : History) (slot place : ℕ) : Type 0 where
  pub mark : ℤ
  pub found : IsFoundSegment sum size log 0 (marked_at slot place mark)
  pub read_on : IsReadOn sum size log H (marked_at slot place mark)
  pub reached : (n : Message) → Contains H.messages n → n.place / size * size ≡ place → IsReachedIn sum size log (marked_at slot place mark) n

-- So it is with each segment that a slot has and that ends at a place or below it.
abbrev pub AreWhole : (List ℕ → ℕ) → ℕ → List ℕ → History → ℕ → Machine → Type 0
AreWhole sum size log H below m =
    (k : ℕ) → is_free (slot_at m k).state ≡ false → (slot_at m k).lsn + size ≤ below → IsWholeSegment sum size log H (k * size) (slot_at m k).lsn

-- The slots are the account of what is marked: of all messages of the history but these. Tables count from the segment of the mark on that joined, or from the
-- snapshot with which the log began.
pub record HasAccount (sum : List ℕ → ℕ) (marks : JoinedMarks) (size : ℕ) (snapshots : ℤ → Option (List ℕ)) (H : History) (U : List Message)
    (m : Machine) : Type 0 where
  pub first : SnapshotModel
  pub begins : BeginsFrom sum snapshots first
  pub account : IsAccountOf size (held_since size marks first) (without U H) m
  -- the blobs that go with segments are outdated, of all messages, marked or not
  pub outdated : AreOutdated size H m
  -- those that aren't marked lie in active segments
  pub unmarked : AreInActive size m U
