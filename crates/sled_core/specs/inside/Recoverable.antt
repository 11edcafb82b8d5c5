-- What proofs, and functions that no user calls, need beside `specs/Recoverable.antt`. No public contract names it.
use Rattle.std.specs.Prelude.{◌≡◌, ◌≢◌, ◌⊎◌, ◌+◌, ◌*◌, ◌/◌, ◌%◌, ◌≤◌, ◌<◌, ◌≤ℤ◌, ◌<ℤ◌, ◌-ℤ◌, ℕ, ℤ, pos, nat_lt, true, List, [], ◌∷◌, if◌then◌else◌, Option}
use Rattle.std.specs.Prelude.{Some, None, Contains}
use Rattle.sled_codec.specs.declared.result.DiskPtr.{DiskPtr}
use Rattle.sled_codec.specs.declared.result.DiskPtr.TheVariants.{Inline, Blob}
use Rattle.sled_codec.specs.declared.serialization.message.MessageKind.{MessageKind}
use Rattle.sled_codec.specs.Coords.{raised}
use Rattle.sled_codec.specs.Kinds.{kind_written}
use Rattle.sled_codec.specs.Pointers.{lid_of}
use Rattle.sled_codec.specs.History.{Message, Batch, History, table, CutFits}
use Rattle.sled_codec.specs.PageTables.{IsTable}
use Rattle.sled_codec.specs.Snapshots.{SnapshotModel, is_sound, stable_place}
use Rattle.sled_store.specs.Blobs.{IsDamagedFor}
use Rattle.sled_store.specs.Device.{Content}
use Rattle.sled_store.specs.SnapshotFiles.{IsSnapshotFile, BeginsFrom}
use Rattle.sled_core.specs.declared.iterator.scan.ScannedRecord.{ScannedRecord}
use Rattle.sled_core.specs.declared.iterator.scan.RecordContent.{RecordContent}
use Rattle.sled_core.specs.declared.iterator.scan.RecordContent.TheVariants.{Gives, NamesBlob, Skipped, BatchStart}
use Rattle.sled_core.specs.declared.iterator.scan.ScanEnd.{ScanEnd}
use Rattle.sled_core.specs.declared.iterator.scan.ScanEnd.TheVariants.{Capped, Broken}
use Rattle.sled_core.specs.declared.iterator.Segment.{Segment}
use Rattle.sled_core.specs.inside.Scan.{IsFoundSegment}
use Rattle.sled_core.specs.Scan.{IsMet, IsPath}
use Rattle.sled_core.specs.Tail.{IsOrdering, AreScanned, IsTail, tail_begins, tail_end, stops_in, cut_of, least_place, Scanned, IsScanned, open_at}
use Rattle.sled_core.specs.LogFile.{MessageStands}
use Rattle.sled_core.specs.Good.{HasOwnBlob}
use Rattle.sled_core.specs.Reading.{BlobIsBelow}

-- The snapshots.

-- The file of a snapshot passes, its number is its stable place, and it is the table of a history below that.
pub record IsTableFile (sum : List ℕ → ℕ) (H : History) (number : ℤ) (bytes : List ℕ) : Type 0 where
  pub model : SnapshotModel
  pub file : IsSnapshotFile sum bytes model
  pub sound : is_sound model ≡ true
  pub named : model.stable ≡ Some number
  pub table : IsTable model.pages H (stable_place model.stable)
  pub fits : CutFits H (stable_place model.stable)

-- a stable place is where a record can begin in its active segment, or where a segment begins if there is none
abbrev pub ActiveFits : ℕ → ℕ → Option ℕ → Type 0
ActiveFits size place None = place % size ≡ 0
ActiveFits size place (Some slot) = (20 ≤ place % size) × (place % size + 32 ≤ size)

-- each snapshot that is listed is a table of the history, and the one that recovery begins from isn't below the floor
pub record AreRecoverableSnapshots (sum : List ℕ → ℕ) (size : ℕ) (snapshots : ℤ → Option (List ℕ)) (H : History) (f : ℕ) (first : SnapshotModel) : Type 0 where
  pub begins : BeginsFrom sum snapshots first
  pub listed : (n : ℤ) (bytes : List ℕ) → snapshots n ≡ Some bytes → IsTableFile sum H n bytes
  pub not_below : f ≤ stable_place first.stable
  pub active : ActiveFits size (stable_place first.stable) first.active

-- The log file.

-- no message, and no batch, of a history begins from one place up to another
abbrev pub NoMessageBegins : History → ℕ → ℕ → Type 0
NoMessageBegins H from to = (m : Message) → Contains H.messages m → (m.place < from) ⊎ (to ≤ m.place)

abbrev pub NoBatchBegins : History → ℕ → ℕ → Type 0
NoBatchBegins H from to = (b : Batch) → Contains H.batches b → (b.low < from) ⊎ (to ≤ b.low)

-- a record names the blob of a message, under the kind of a message that has one
abbrev pub NamesBlobOf : RecordContent → Message → Type 0
NamesBlobOf what m =
    (k : MessageKind) × (lid : ℕ) × (place : ℤ) × (m.pointer ≡ Blob lid place) × (kind_written m.kind m.page true ≡ Some k)
    × (what ≡ NamesBlob k m.page lid place)

-- what a reader meets of the log file is a message: with its item, or with the place of the blob that has it
pub record MeetsMessage (x : ScannedRecord) (m : Message) : Type 0 where
  pub place : x.place ≡ m.place
  pub len : x.len ≡ m.size
  pub what : (x.what ≡ Gives m.kind m.page m.pointer) ⊎ NamesBlobOf x.what m

-- no batch of a history ends from one place up to another
abbrev pub NoBatchEnds : History → ℕ → ℕ → Type 0
NoBatchEnds H from to = (b : Batch) → Contains H.batches b → (b.peg < from) ⊎ (to ≤ b.peg)

-- Behind where the reading of a segment ends for a Cap nothing of a history begins in the segment; and where it ends for that, or for want of room, no
-- batch ends there.
abbrev pub NothingBehind : ℕ → History → ℕ → ℕ → ScanEnd → Type 0
NothingBehind size H place stop why =
    (why ≡ Capped → NoMessageBegins H (place + stop) (place + size) × NoBatchBegins H (place + stop) (place + size))
    × (why ≢ Broken → NoBatchEnds H (place + stop) (place + size))

-- the record of a message stands at its pointer, where it has the item
abbrev pub StandsInline : (List ℕ → ℕ) → ℕ → List ℕ → Message → DiskPtr → Type 0
StandsInline sum size log m (Inline lid) = MessageStands sum size log lid (m.place / size) m
StandsInline sum size log m (Blob lid place) = Unit {0}

-- What a reader meets is of the history: a message, the beginning of a batch, or a record that was given up. Nothing else of the history begins within its
-- bytes.
abbrev pub IsOfHistory : (List ℕ → ℕ) → ℕ → List ℕ → History → ScannedRecord → Type 0
IsOfHistory sum size log H x =
    ((m : Message) × Contains H.messages m × MeetsMessage x m × StandsInline sum size log m m.pointer × NoMessageBegins H (x.place + 1) (x.place + x.len)
    × NoBatchBegins H x.place (x.place + x.len))
    ⊎ ((b : Batch) × Contains H.batches b × (x.place ≡ b.low) × (x.what ≡ BatchStart (pos b.peg)) × NoMessageBegins H x.place (x.place + x.len)
    × NoBatchBegins H (x.place + 1) (x.place + x.len))
    ⊎ ((x.what ≡ Skipped) × NoMessageBegins H x.place (x.place + x.len) × NoBatchBegins H x.place (x.place + x.len))

-- a reader that begins behind the header of a segment comes to a message
pub record IsReachedIn (sum : List ℕ → ℕ) (size : ℕ) (log : List ℕ) (s : Segment) (m : Message) : Type 0 where
  pub before : List ScannedRecord
  pub at : ℕ
  pub path : IsPath sum size log s.slot s.place 20 before at
  pub room : at + 32 ≤ size
  pub place : m.place ≡ s.place + at
  pub lid : lid_of m.pointer ≡ s.slot + at
  pub met : ScannedRecord
  pub is_met : IsMet sum size log (s.slot + at) (s.place / size) met
  pub meets : MeetsMessage met m

-- A segment is read to its end, and leads on to the next one. All that is met in it is of the history.
pub record IsReadOn (sum : List ℕ → ℕ) (size : ℕ) (log : List ℕ) (H : History) (s : Segment) : Type 0 where
  pub scan : Scanned
  pub of : scan.segment ≡ s
  pub read : IsScanned sum size log scan
  pub goes : scan.why ≢ Broken
  pub truth : (x : ScannedRecord) → Contains scan.met x → IsOfHistory sum size log H x

-- the segment of a message is there, and in it each message below the cut is reached
pub record IsSegmentOf (sum : List ℕ → ℕ) (size : ℕ) (log : List ℕ) (H : History) (cut : ℕ) (m : Message) : Type 0 where
  pub segment : Segment
  pub found : IsFoundSegment sum size log 0 segment
  pub place : segment.place ≡ m.place / size * size
  pub reached : IsReachedIn sum size log segment m
  pub whole : (n : Message) → Contains H.messages n → n.place / size ≡ m.place / size → n.place < cut → IsReachedIn sum size log segment n
  -- where it ends below the cut, it is read to its end
  pub full : segment.place + size ≤ cut → IsReadOn sum size log H segment

-- a mark lies below its segment, and in no batch
pub record IsMarkOf (H : History) (s : Segment) : Type 0 where
  pub least : (pos 0 -ℤ pos 1) ≤ℤ s.mark
  pub below : s.mark <ℤ pos s.place
  pub apart : (b : Batch) → Contains H.batches b → (s.mark <ℤ pos b.low) ⊎ (pos b.peg ≤ℤ s.mark)

-- A mark lies below the cut; or below the end of the segment of the cut, where nothing of the history begins between the two, and no batch ends. (A stable
-- end behind a Cap is the end of its segment, and the cut is where the Cap begins.)
abbrev pub IsMarkBelow : ℕ → History → ℕ → ℤ → Type 0
IsMarkBelow size H cut mark =
    (mark <ℤ pos cut)
    ⊎ ((n : ℕ) × (mark ≡ pos n) × (n < raised size cut) × NoMessageBegins H cut (n + 1) × NoBatchBegins H cut (n + 1) × NoBatchEnds H cut (n + 1))

-- A record can begin at a place: behind the header of its segment, where the longest header of a record has room.
pub record BeginsInSegment (size place : ℕ) : Type 0 where
  pub behind : 20 ≤ place % size
  pub room : place % size + 32 ≤ size

-- so it is with each message of a history
abbrev pub BlobsAreBelow : History → Type 0
BlobsAreBelow H = (m : Message) → Contains H.messages m → BlobIsBelow m m.pointer

-- A message lies in one segment, and its blob was made no later.
pub record LiesInSegment (size : ℕ) (m : Message) : Type 0 where
  pub begins : BeginsInSegment size m.place
  pub ends : m.place % size + m.size ≤ size
  pub blob : BlobIsBelow m m.pointer

-- A batch begins where a record can. No other one begins there, and one that begins within it ends within it.
pub record IsPlacedBatch (size : ℕ) (H : History) (b : Batch) : Type 0 where
  pub begins : BeginsInSegment size b.low
  pub alone : (c : Batch) → Contains H.batches c → c.low ≡ b.low → c ≡ b
  pub nested : (c : Batch) → Contains H.batches c → b.low < c.low → c.low ≤ b.peg → c.peg ≤ b.peg

-- those that begin below a place
abbrev pub scanned_below : ℕ → List Scanned → List Scanned
scanned_below end [] = []
scanned_below end (s ∷ ss) = if nat_lt s.segment.place end then s ∷ scanned_below end ss else scanned_below end ss

-- the cut of a pass over these; over none, that of the snapshot
abbrev pub cut_over : ℕ → SnapshotModel → ℕ → List Scanned → ℕ × Option ℕ
cut_over size first end [] = (stable_place first.stable, first.active)
cut_over size first end (s ∷ ss) = cut_of size (stops_in end s (open_at end s.met) ss)

-- the cut, where the tail ends there
abbrev pub cut_from : ℕ → SnapshotModel → List Scanned → Option ℕ → ℕ × Option ℕ
cut_from size first scanned None = (stable_place first.stable, first.active)
cut_from size first scanned (Some end) = cut_over size first end (scanned_below end scanned)

-- The segments that are found are of the history, and those that a table below the cut needs are there. The cut passes what was acknowledged. What begins
-- below the cut lies as a log places it.
pub record IsRecoverableLog (sum : List ℕ → ℕ) (size : ℕ) (log : List ℕ) (H : History) (A : ℕ) (first : SnapshotModel) (cut : ℕ × Option ℕ) : Type 0 where
  pub ordering : List Segment
  pub numbers : IsOrdering sum size log (least_place size first) ordering
  pub scanned : List Scanned
  pub reads : AreScanned sum size log ordering scanned
  pub tail : List Scanned
  pub is_tail : IsTail sum size log ordering (tail_begins size (least_place size first) ordering) tail
  pub marks : (s : Segment) → Contains ordering s → IsMarkOf H s
  pub truth : (s : Scanned) (x : ScannedRecord) → Contains scanned s → Contains s.met x → IsOfHistory sum size log H x
  pub caps : (s : Scanned) → Contains scanned s → NothingBehind size H s.segment.place s.stop s.why
  pub tail_there : ((s : Segment) × Contains ordering s × (s.place ≡ tail_begins size (least_place size first) ordering))
      ⊎ (tail_begins size (least_place size first) ordering ≡ stable_place first.stable)
  pub is_cut : cut ≡ cut_from size first scanned (tail_end tail)
  pub not_below : stable_place first.stable ≤ cut.0
  pub passes : A ≤ cut.0
  pub marks_below : (s : Segment) → Contains ordering s → IsMarkBelow size H cut.0 s.mark
  pub placed : (m : Message) → Contains H.messages m → m.place < cut.0 → LiesInSegment size m
  pub batched : (b : Batch) → Contains H.batches b → b.low < cut.0 → IsPlacedBatch size H b
  pub needed : (page : ℕ) (m : Message) → Contains (table H cut.0 page) m → IsSegmentOf sum size log H cut.0 m × StandsInline sum size log m m.pointer

-- The blobs.

-- the item of a message stands in its record, or is a blob
abbrev pub HasItem : (List ℕ → ℕ) → (ℤ → Option (List ℕ)) → Message → DiskPtr → Type 0
HasItem sum blobs m (Inline lid) = Unit {0}
HasItem sum blobs m (Blob lid place) = HasOwnBlob sum (blobs place) m

-- the blob that a message names, if any, is missing or passes for a message of its kind
abbrev pub PassesIfThere : (List ℕ → ℕ) → (ℤ → Option (List ℕ)) → Message → DiskPtr → Type 0
PassesIfThere sum blobs m (Inline lid) = Unit {0}
PassesIfThere sum blobs m (Blob lid place) = (k : MessageKind) → kind_written m.kind m.page true ≡ Some k → IsDamagedFor sum k (blobs place) → ⊥

-- The blob of each message that a table below the cut needs is there, whole. A blob that any message names is missing or passes for it.
pub record AreRecoverableBlobs (sum : List ℕ → ℕ) (blobs : ℤ → Option (List ℕ)) (H : History) (cut : ℕ) : Type 0 where
  pub needed : (page : ℕ) (m : Message) → Contains (table H cut page) m → HasItem sum blobs m m.pointer
  pub named : (m : Message) → Contains H.messages m → PassesIfThere sum blobs m m.pointer

-- The whole.

-- A recovery can go on from this content, for this history, the end of what was acknowledged, and the floor.
pub record IsRecoverable (sum : List ℕ → ℕ) (size : ℕ) (content : Content) (H : History) (A f : ℕ) : Type 0 where
  pub first : SnapshotModel
  pub cut : ℕ × Option ℕ
  pub snapshots : AreRecoverableSnapshots sum size content.snapshots H f first
  pub log : IsRecoverableLog sum size content.log H A first cut
  pub blobs : AreRecoverableBlobs sum content.blobs H cut.0
