-- What proofs, and functions that no user calls, need beside `specs/Running.antt`. No public contract names it.
use Rattle.std.specs.declared.io.Error.{Error as IoError}
use Rattle.std.specs.Prelude.{◌≡◌, ◌≢◌, ◌≤◌, ◌<◌, ◌+◌, ℕ, ℤ, List, [], ◌∷◌, map, Option, None, Contains}
use Rattle.sled_codec.specs.declared.serialization.message.MessageKind.{MessageKind}
use Rattle.sled_codec.specs.History.{Message, Batch, History, table}
use Rattle.sled_codec.specs.Snapshots.{SnapshotModel, stable_place}
use Rattle.sled_store.specs.Blobs.{IsBlob}
use Rattle.sled_store.specs.Device.{NamesState, State, LeavesName}
use Rattle.sled_store.specs.Foreign.{NoForeignNames}
use Rattle.sled_store.specs.SegmentStates.{Machine}
use Rattle.sled_store.specs.SnapshotFiles.{IsSnapshotFile}
use Rattle.sled_core.specs.Begun.{SegmentParts, SegmentView}
use Rattle.sled_core.specs.declared.logger.joined_marks.JoinedMarks.{JoinedMarks}
use Rattle.sled_core.specs.Fits.{held_of}
use Rattle.sled_core.specs.inside.Begun.{first_place, line_end}
use Rattle.sled_core.specs.inside.Cleared.{cleared}
use Rattle.sled_core.specs.inside.Fits.{FitsBatches, LogParts, begun_segment, log_parts, parts_in, HoldsIn, written_to}
use Rattle.sled_core.specs.inside.FreeSlots.{HasSlots}
use Rattle.sled_core.specs.inside.Hides.{HidesFrom}
use Rattle.sled_core.specs.LogSegments.{begins_from}
use Rattle.sled_core.specs.Logged.{logged}
use Rattle.sled_core.specs.inside.MarksFit.{ArePassedFrom, MarksFitFrom}
use Rattle.sled_core.specs.inside.Numbers.{HasNumbers, HaveSlotsFrom, NumbersStay}
use Rattle.sled_core.specs.OpenBatches.{stable_below}
use Rattle.sled_core.specs.inside.OwnLog.{HasPlacedFile, ReadsPlaced}
use Rattle.sled_core.specs.OwnNames.{ReadsStayOwn}
use Rattle.sled_core.specs.inside.Recoverable.{ActiveFits, AreRecoverableSnapshots, AreRecoverableBlobs, NoBatchBegins, NoBatchEnds, BlobsAreBelow}
use Rattle.sled_core.specs.Recoverable.{NoHeaderOfZeros}
use Rattle.sled_core.specs.inside.Lasting.{LeavesRecovering}
use Rattle.sled_core.specs.inside.Reached.{StandsAmong, StandsActive}
use Rattle.sled_core.specs.inside.LogFile.{padded}
use Rattle.sled_core.specs.Ready.{IsReady}
use Rattle.sled_core.specs.inside.Shown.{FreesNothing, RestsWhole, shown}
use Rattle.sled_core.specs.inside.Slots.{AreWhole, HasAccount}
use Rattle.sled_core.specs.Running.{KeepsItem}

-- whatever snapshots a crash leaves of which only those pass that the log wrote, recovery begins from this one
abbrev pub NamesFit : (List ℕ → ℕ) → ℕ → NamesState → History → ℕ → SnapshotModel → Type 0
NamesFit sum size names H f first =
    (left : ℤ → Option (List ℕ)) → ((n : ℤ) → LeavesName names n (left n))
    → NoForeignNames (λ bytes. (s : SnapshotModel) × IsSnapshotFile sum bytes s) names left → AreRecoverableSnapshots sum size left H f first

-- whatever blobs a crash leaves of which only those pass that the log wrote, each is there that the table below a place needs
abbrev pub BlobsFit : (List ℕ → ℕ) → NamesState → History → ℕ → Type 0
BlobsFit sum blobs H reach =
    (left : ℤ → Option (List ℕ)) → ((n : ℤ) → LeavesName blobs n (left n))
    → NoForeignNames (λ bytes. (k : MessageKind) × (item : List ℕ) × IsBlob sum bytes k item) blobs left → AreRecoverableBlobs sum left H reach

-- so it is with each message of a history from a place on
abbrev pub KeepsItems : (List ℕ → ℕ) → NamesState → History → ℕ → Type 0
KeepsItems sum blobs H place = (m : Message) → Contains H.messages m → place ≤ m.place → KeepsItem sum blobs m m.pointer

-- and so with each entry of the table below a place, also where what a crash leaves of the others is foreign
abbrev pub KeepsEntries : (List ℕ → ℕ) → NamesState → History → ℕ → Type 0
KeepsEntries sum blobs H place = (page : ℕ) (m : Message) → Contains (table H place page) m → KeepsItem sum blobs m m.pointer

-- A reader comes up to a place, behind all messages that begin below where what is written ends, and no batch begins or ends between the two.
pub record ReachesTo (H : History) (reach end : ℕ) : Type 0 where
  pub near : reach ≤ end
  pub ends : (m : Message) → Contains H.messages m → m.place < end → (m.place < reach) × (m.place + m.size ≤ reach)
  pub no_batch : NoBatchBegins H reach end
  pub no_end : NoBatchEnds H reach end

-- The blobs have the items of a history that is stable up to a place.
pub record HaveItems (sum : List ℕ → ℕ) (names : NamesState) (H : History) (stable : ℕ) : Type 0 where
  pub blobs : BlobsFit sum names H stable
  -- No crash takes the item of a message that isn't stable yet, nor that of an entry of the table of what is stable: so a page's pointer can be written again.
  pub stored : KeepsItems sum names H stable
  pub entries : KeepsEntries sum names H stable
  -- the blob of each message lies no higher than it
  pub below : BlobsAreBelow H

-- The files under names are those of the history.
pub record HaveNames (sum : List ℕ → ℕ) (size : ℕ) (device : State) (fault : Option IoError) (H : History) (f : ℕ) (first : SnapshotModel) : Type 0 where
  pub names : NamesFit sum size device.snapshots H f first
  -- what is read under names is the log's own, so that a sync of names makes nothing own that was foreign
  pub own_names : fault ≡ None → ReadsStayOwn sum device

-- What a log of these bytes and reservations over a device, with these segments behind, has to do with a history, the end of what was acknowledged, the
-- floor and the messages that were not marked yet.
-- The log has records: what it holds, what a reader finds of it, and the tables of its snapshots are of the history as the log has it, without the items
-- that blobs have. The blobs have those, so what is said of them, and of what a crash leaves, is of the history itself.
pub record FitsIn (sum : List ℕ → ℕ) (marks : JoinedMarks) (parts : LogParts) (behind : List SegmentParts) (reach pins : ℕ) (H : History) (A f : ℕ)
    (U : List Message) : Type 0 where
  pub holds : HoldsIn sum marks parts behind (logged H)
  pub reached : ReachesTo (logged H) reach (parts.site.place + parts.written_len)
  pub among : parts.fault ≡ None → NoHeaderOfZeros sum
      → StandsAmong sum (held_of holds.begun) parts.size parts.device.log.bytes parts.site parts.written_len (map begun_segment behind) reach (logged H)
      holds.begun.first
  -- and so does the file with zeros behind its end, as a write there makes it
  pub beyond : (to : ℕ) → parts.site.slot ≤ to → parts.fault ≡ None → NoHeaderOfZeros sum
      → StandsAmong sum (held_of holds.begun) parts.size (padded to parts.device.log.bytes) parts.site parts.written_len (map begun_segment behind) reach
      (logged H) holds.begun.first
  pub items : HaveItems sum parts.device.blobs H (stable_below reach H.batches)
  pub named : HaveNames sum parts.size parts.device parts.fault (logged H) f holds.begun.first
  -- all that was acknowledged is stable
  pub passes : A ≤ stable_below reach H.batches
  -- a pin is out while a completed message is not marked
  pub pinned : U ≢ [] → 0 < pins
  -- what a crash leaves now can be recovered, with all that is stable counted as acknowledged
  pub left : LeavesRecovering sum parts.size H (stable_below reach H.batches) f parts.device

-- Segments one behind another fit them, as far as a reader comes.
abbrev pub FitsLine : (List ℕ → ℕ) → JoinedMarks → ℕ → State → Option IoError → List SegmentView → ℕ → ℕ → History → ℕ → ℕ → List Message → Type 0
FitsLine sum marks size device fault [] reach pins H A f U = ⊥
FitsLine sum marks size device fault (v ∷ vs) reach pins H A f U =
    FitsIn sum marks (log_parts size v.parts.site device fault v.parts.bytes v.parts.written_len v.parts.sealed v.parts.reserved) (map parts_in vs)
    reach pins H A f U

-- So do those of a log that has noted these batches and whose slots are these. Batches and entries are of the history as the log has it.
pub record FitsWith (sum : List ℕ → ℕ) (marks : JoinedMarks) (noted : List Batch) (size : ℕ) (device : State) (fault : Option IoError)
    (line : List SegmentView) (m : Machine) (pins : ℕ) (H : History) (A f : ℕ) (U : List Message) : Type 0 where
  pub reach : ℕ
  pub parts : FitsLine sum marks size device fault line reach pins H A f U
  pub batches : FitsBatches (written_to line) (line_end size line) noted (logged H)
  pub slots : HasSlots size line device.log.bytes fault m
  -- the segments before the first of these are read to their end, and their messages are reached
  pub whole : fault ≡ None → NoHeaderOfZeros sum → AreWhole sum size device.log.bytes (logged H) (first_place line) m
  -- all that a reader reads in them was placed by the log
  pub own : fault ≡ None → NoHeaderOfZeros sum → HasPlacedFile sum size device line
  pub account : HasAccount sum marks size device.snapshots.file H U m
  -- nothing that is the log's own is of a number that is still to come, nor, in the slot of a segment, of a greater one
  pub numbers : NoHeaderOfZeros sum → HasNumbers sum size (begins_from size marks.joined) device m (line_end size line)
  -- what a table may need from where what is held counts is in the slots
  pub in_slots : HaveSlotsFrom sum marks size device.snapshots.file H (stable_below reach H.batches) m

-- So do those over a device of which so much is shown. What was placed, blobs and snapshots are those of the device itself.
pub record FitsShown (sum : List ℕ → ℕ) (marks : JoinedMarks) (noted : List Batch) (size : ℕ) (device : State) (fault : Option IoError)
    (line : List SegmentView) (m : Machine) (pins : ℕ) (H : History) (A f : ℕ) (U : List Message) : Type 0 where
  pub shows : FitsWith sum marks noted size (shown size fault m line device) fault line m pins H A f U
  pub rests : RestsWhole fault device.log
  -- and this is what the file has besides: no segment that is gone ends behind where the mark's begins
  pub hides : fault ≡ None → NoHeaderOfZeros sum → HidesFrom sum size (begins_from size marks.joined) device m line (logged H)
  -- the marks stand in the headers that are shown
  pub marked : fault ≡ None → NoHeaderOfZeros sum → MarksFitFrom sum size device.snapshots.file (cleared size m line device.log.bytes) marks
  -- each of them is the place with which the log began, or lies below what is written, and in no batch
  pub passed : fault ≡ None → ArePassedFrom sum device.snapshots.file (written_to line) H.batches marks
  -- as long as no mark joined that is above the floor nothing was freed, and nothing is due
  pub clean : fault ≡ None → FreesNothing size marks f m (cleared size m line device.log.bytes) device.log.bytes

-- Snapshot and device are ready for a log that fits this history, the end of what was acknowledged and the floor. Log file and snapshots have records and
-- tables, so they are ready for the history as the log has it; the blobs have the items of the history itself.
pub record IsReadyFor (sum : List ℕ → ℕ) (size : ℕ) (device : State) (s : SnapshotModel) (H : History) (A f : ℕ) : Type 0 where
  pub ready : IsReady sum size device s (logged H)
  pub alone : StandsActive sum size device.log.bytes s (logged H)
  pub active : ActiveFits size (stable_place s.stable) s.active
  pub blobs : BlobsFit sum device.blobs H (stable_place s.stable)
  -- no crash takes the item of an entry of its table
  pub entries : KeepsEntries sum device.blobs H (stable_place s.stable)
  -- the blob of each message lies no higher than it
  pub below : BlobsAreBelow H
  pub names : NamesFit sum size device.snapshots (logged H) f ready.first
  -- what is read of the log file and under names is the log's own
  pub own : NoHeaderOfZeros sum → ReadsPlaced sum size device
  pub own_names : ReadsStayOwn sum device
  pub passes : A ≤ stable_place s.stable
  pub left : LeavesRecovering sum size H A f device
  -- in the slots that it needs nothing that is the log's own has a greater number
  pub numbers : NoHeaderOfZeros sum → NumbersStay sum size device H (stable_place s.stable)
