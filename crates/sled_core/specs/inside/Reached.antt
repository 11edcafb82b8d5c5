-- What a reader finds of a settled log file, up to a place that the log has reached.
use Rattle.std.specs.Prelude.{◌≡◌, ◌≢◌, ◌⊎◌, ◌+◌, ◌*◌, ◌/◌, ◌%◌, ◌≤◌, ◌<◌, ◌<ℤ◌, ℕ, pos, List, [], ◌∷◌, Option, Some, Contains}
use Rattle.sled_codec.specs.Coords.{raised}
use Rattle.sled_codec.specs.History.{Message, Batch, History, table}
use Rattle.sled_codec.specs.Snapshots.{SnapshotModel, stable_place}
use Rattle.sled_core.specs.declared.iobuf.SegmentPosition.{SegmentPosition}
use Rattle.sled_core.specs.declared.iterator.Segment.{Segment}
use Rattle.sled_core.specs.declared.iterator.scan.ScannedRecord.{ScannedRecord}
use Rattle.sled_core.specs.declared.iterator.scan.ScanEnd.{ScanEnd}
use Rattle.sled_core.specs.declared.iterator.scan.ScanEnd.TheVariants.{Broken}
use Rattle.sled_core.specs.Begun.{records_to}
use Rattle.sled_core.specs.OpenBatches.{stable_below}
use Rattle.sled_core.specs.inside.Scan.{IsFoundSegment}
use Rattle.sled_core.specs.Tail.{IsOrdering, AreScanned, least_place, tail_begins, IsScanned, Scanned}
use Rattle.sled_core.specs.inside.Recoverable.{NothingBehind, NoMessageBegins, NoBatchBegins, NoBatchEnds, StandsInline, IsOfHistory, IsSegmentOf, IsMarkOf}
use Rattle.sled_core.specs.inside.Recoverable.{IsMarkBelow, LiesInSegment, IsPlacedBatch}

-- The segments that are found from that of the snapshot on are of the history, and from a place that is held up to one that the log has reached they are read
-- without a gap. What is found beyond is of the history too, however much of it there is.
-- A is the stable place: the log has reached it, and no batch is open there. Behind it one may be.
-- What is held counts from `from`, which may lie above the snapshot's place: in front of its segment there may be gaps. A recovery begins its tail at the
-- segment of the greatest mark of a header that it finds, or at the snapshot's, and that isn't below the segment of `from`: so all that it reads is held. The
-- entries of tables are held at each cut from `from` on, in whatever segment they lie.
pub record StandsTo (sum : List ℕ → ℕ) (size : ℕ) (log : List ℕ) (H : History) (A : ℕ) (first : SnapshotModel) (reach : ℕ) : Type 0 where
  pub ordering : List Segment
  pub numbers : IsOrdering sum size log (least_place size first) ordering
  pub scanned : List Scanned
  pub reads : AreScanned sum size log ordering scanned
  pub marks : (s : Segment) → Contains ordering s → IsMarkOf H s
  pub truth : (s : Scanned) (x : ScannedRecord) → Contains scanned s → Contains s.met x → IsOfHistory sum size log H x
  pub caps : (s : Scanned) → Contains scanned s → NothingBehind size H s.segment.place s.stop s.why
  pub not_below : stable_place first.stable ≤ A
  pub passes : A ≤ reach
  pub marks_below : (s : Segment) → Contains ordering s → IsMarkBelow size H A s.mark
  pub placed : (m : Message) → Contains H.messages m → LiesInSegment size m
  pub batched : (b : Batch) → Contains H.batches b → IsPlacedBatch size H b
  pub closed : (b : Batch) → Contains H.batches b → b.low < A → b.peg < A
  -- what is held counts from here
  pub from : ℕ
  pub from_low : stable_place first.stable ≤ from
  pub from_high : from ≤ A
  -- the tail begins there or above: so that is all a recovery needs
  pub tail_from : from / size * size ≤ tail_begins size (least_place size first) ordering
  -- each segment from there on that begins below the place that was reached is there, and is read up to it or leads to the next one
  pub gapless : (z : ℕ) → z % size ≡ 0 → from / size * size ≤ z → z < reach
      → (t : Scanned) × Contains scanned t × (t.segment.place ≡ z)
      × ((reach ≤ z + t.stop) ⊎ ((t.why ≢ Broken) × (u : Segment) × Contains ordering u × (u.place ≡ z + size)))
  -- the entries of the table are there, at each cut from there up to the place that was reached
  pub needed : (cut : ℕ) → from ≤ cut → cut ≤ reach → (page : ℕ) (m : Message) → Contains (table H cut page) m
      → IsSegmentOf sum size log H cut m × StandsInline sum size log m m.pointer

-- A segment that was read to an offset, in this slot and with this place, and why reading ended there.
pub record IsReadTo (scanned : List Scanned) (slot place stop : ℕ) (why : ScanEnd) : Type 0 where
  pub scan : Scanned
  pub there : Contains scanned scan
  pub in_slot : scan.segment.slot ≡ slot
  pub at_place : scan.segment.place ≡ place
  pub ended : scan.stop ≡ stop
  pub ends : scan.why ≡ why

-- A segment that was read to an offset, in this slot and with this place, where reading ended for want of a record: a write goes on there.
pub record GoesOnIn (scanned : List Scanned) (slot from place : ℕ) : Type 0 where
  pub scan : Scanned
  pub there : Contains scanned scan
  pub in_slot : scan.segment.slot ≡ slot
  pub at_place : scan.segment.place ≡ place
  pub ended : scan.stop ≡ from
  pub broken : scan.why ≡ Broken

-- So much of a segment is written where its reading ends there, for want of a record or of room; or it is full, and leads on.
abbrev pub IsSoFar : ℕ → ℕ → ℕ → ScanEnd → Type 0
IsSoFar size from stop why = ((stop ≡ from) × (from + 32 ≤ size → why ≡ Broken)) ⊎ ((from ≡ size) × (why ≢ Broken))

-- A segment among those that are found, of which so much is written from its beginning on without a gap: no other slot has one of its place, its slot has
-- no other one, and it is read up to there. A full one is read up to its records' end at least.
pub record StandsIn (sum : List ℕ → ℕ) (size : ℕ) (log : List ℕ) (least : ℕ) (scanned : List Scanned) (site : SegmentPosition) (from records : ℕ) : Type 0 where
  pub only : (s : Segment) → IsFoundSegment sum size log least s → s.place ≡ site.place → s.slot ≡ site.slot
  pub own : (s : Segment) → IsFoundSegment sum size log least s → s.slot ≡ site.slot → s.place ≡ site.place
  pub read : 0 < from
      → (stop : ℕ) × (why : ScanEnd) × IsReadTo scanned site.slot site.place stop why × IsSoFar size from stop why × (from ≡ size → records ≤ stop)

-- The segment before one at this place is found, begins below what was reached, and leads on.
pub record LeadsTo (sum : List ℕ → ℕ) (size : ℕ) (log : List ℕ) (least reach place : ℕ) : Type 0 where
  pub scan : Scanned
  pub found : IsFoundSegment sum size log least scan.segment
  pub read : IsScanned sum size log scan
  pub next : scan.segment.place + size ≡ place
  pub goes : scan.why ≢ Broken
  pub below : scan.segment.place < reach

-- A reader is led to a segment at this place: it begins below what was reached, or where the segments begin, or behind one that leads on.
abbrev pub IsLed : (List ℕ → ℕ) → ℕ → List ℕ → ℕ → ℕ → ℕ → Type 0
IsLed sum size log least reach place = (place < reach) ⊎ (place ≤ least) ⊎ LeadsTo sum size log least reach place

-- A segment begins behind what was reached, and no further than the next one can. Nothing of the history begins between the two, and no batch ends.
pub record BeginsNext (size : ℕ) (H : History) (reach place : ℕ) : Type 0 where
  pub above : reach ≤ place
  pub next : place ≤ raised size reach
  pub no_message : NoMessageBegins H reach place
  pub no_batch : NoBatchBegins H reach place
  pub no_end : NoBatchEnds H reach place

-- What was reached ends where so much of a segment is written; where nothing of it is, there where it begins, or before that, with nothing of the history
-- between.
abbrev pub ReachesIn : ℕ → History → ℕ → ℕ → ℕ → Type 0
ReachesIn size H place from reach = (reach ≡ place + from) ⊎ ((from ≡ 0) × BeginsNext size H reach place)

-- A segment that was begun, how much of it is written from its beginning on without a gap, and where what fills it begins, if anything does.
pub record BegunSegment : Type 0 where
  pub site : SegmentPosition
  pub from : ℕ
  pub filled : Option ℕ

-- Segments follow one behind another, in slots that are apart.
abbrev pub FollowApart : SegmentPosition → List BegunSegment → Type 0
FollowApart site [] = Unit {0}
FollowApart site (x ∷ xs) = ((y : BegunSegment) → Contains (x ∷ xs) y → (site.place < y.site.place) × (y.site.slot ≢ site.slot)) × FollowApart x.site xs

-- Of these segments one begins at a place.
abbrev pub BeginsOne : List BegunSegment → ℕ → Type 0
BeginsOne others place = (x : BegunSegment) × Contains others x × (x.site.place ≡ place)

-- A reader reads the log file without a gap up to a place, where a write of a segment goes on, and doesn't stop before the stable place of that. That
-- segment and the others that were begun behind it stand there, each as far as it is written, no other one lies behind it, and no mark behind what is
-- written. What is held counts from a place or below it.
pub record StandsAmong (sum : List ℕ → ℕ) (held size : ℕ) (log : List ℕ) (site : SegmentPosition) (from : ℕ) (others : List BegunSegment) (reach : ℕ)
    (H : History) (first : SnapshotModel) : Type 0 where
  pub stands : StandsTo sum size log H (stable_below reach H.batches) first reach
  pub low : stands.from ≤ held
  pub reached : ReachesIn size H site.place from reach
  pub led : IsLed sum size log (least_place size first) reach site.place
  pub here : StandsIn sum size log (least_place size first) stands.scanned site from 0
  pub behind : (x : BegunSegment) → Contains others x → StandsIn sum size log (least_place size first) stands.scanned x.site x.from (records_to x.filled size)
  pub apart : FollowApart site others
  pub last : (s : Segment) → IsFoundSegment sum size log (least_place size first) s → (s.place ≤ site.place) ⊎ BeginsOne others s.place
  pub below : (s : Segment) → IsFoundSegment sum size log (least_place size first) s → s.mark <ℤ pos (site.place + from)

-- It is the only one that isn't wholly written.
abbrev pub StandsAlone : (List ℕ → ℕ) → ℕ → ℕ → List ℕ → SegmentPosition → ℕ → ℕ → History → SnapshotModel → Type 0
StandsAlone sum held size log site from reach H first = StandsAmong sum held size log site from [] reach H first

-- The same where a log goes on from a snapshot: the active segment is all that is found, up to the stable place; where none is active nothing is found.
pub record StandsActive (sum : List ℕ → ℕ) (size : ℕ) (log : List ℕ) (s : SnapshotModel) (H : History) : Type 0 where
  pub stands : StandsTo sum size log H (stable_place s.stable) s (stable_place s.stable)
  pub only : (x : Segment) → IsFoundSegment sum size log (least_place size s) x → s.active ≡ Some x.slot
  pub going : (slot : ℕ) → s.active ≡ Some slot → GoesOnIn stands.scanned slot (stable_place s.stable % size) (stable_place s.stable / size * size)
