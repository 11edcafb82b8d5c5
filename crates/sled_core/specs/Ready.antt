-- What a recovery leaves, for a log to go on from: a snapshot and a device that hold a history.
use Rattle.std.specs.Prelude.{◌≡◌, ◌*◌, ◌+◌, ◌/◌, ◌%◌, ◌≤◌, ◌<◌, ℕ, true, List, Option, Some, None, Contains, get_or}
use Rattle.sled_codec.specs.declared.result.DiskPtr.TheVariants.{Inline}
use Rattle.sled_codec.specs.History.{Message, History, table}
use Rattle.sled_codec.specs.PageTables.{IsTable}
use Rattle.sled_codec.specs.Places.{MayBegin}
use Rattle.sled_codec.specs.Snapshots.{SnapshotModel, stable_place}
use Rattle.sled_codec.specs.WellFormed.{LieApart}
use Rattle.sled_store.specs.Begin.{is_used}
use Rattle.sled_store.specs.Device.{State, at_rest}
use Rattle.sled_store.specs.SnapshotFiles.{BeginsFrom}
use Rattle.sled_core.specs.declared.iobuf.SegmentPosition.{SegmentPosition}
use Rattle.sled_core.specs.Fits.{EndBelow, CloseBelow}
use Rattle.sled_core.specs.LogFile.{MessageStands, HasHeader, StandsHere}

-- the record of a message stands where its pointer says, in a slot that the snapshot uses
pub record StandsUsed (sum : List ℕ → ℕ) (size : ℕ) (log : List ℕ) (s : SnapshotModel) (lid : ℕ) (m : Message) : Type 0 where
  pub begins : MayBegin size lid
  pub stands : MessageStands sum size log lid (m.place / size) m
  pub used : is_used size s (lid / size) ≡ true

-- the entries that a snapshot is the table of have their records, where they have no blob
abbrev pub HaveRecords : (List ℕ → ℕ) → ℕ → List ℕ → SnapshotModel → History → ℕ → Type 0
HaveRecords sum size log s H below =
    (page : ℕ) (m : Message) → Contains (table H (stable_place s.stable) page) m → m.place < below → (lid : ℕ) → m.pointer ≡ Inline lid
    → StandsUsed sum size log s lid m

-- where the active segment of a snapshot lies
abbrev pub active_site : ℕ → ℕ → ℕ → SegmentPosition
active_site size stable active = record { place = stable / size * size; slot = active }

-- What stands in the log file where the active segment goes on behind the stable place: its messages up to that place, behind its header, with zeros behind
-- them, and the entries of earlier segments.
pub record HasActive (sum : List ℕ → ℕ) (size : ℕ) (log : List ℕ) (s : SnapshotModel) (active : ℕ) (H : History) : Type 0 where
  pub inside : 20 ≤ stable_place s.stable % size
  pub header : HasHeader sum log (active_site size (stable_place s.stable) active)
  pub own : (m : Message) → Contains H.messages m → stable_place s.stable / size * size ≤ m.place → (lid : ℕ) → m.pointer ≡ Inline lid
      → StandsHere sum size log (active_site size (stable_place s.stable) active) (stable_place s.stable % size) lid m
  pub older : HaveRecords sum size log s H (stable_place s.stable / size * size)
  pub clean : (i : ℕ) → active + stable_place s.stable % size ≤ i → i < active + size → get_or log i 0 ≡ 0

-- What stands in the log file where a new segment is begun at the stable place: the entries, in slots that the snapshot uses.
pub record HasNoActive (sum : List ℕ → ℕ) (size : ℕ) (log : List ℕ) (s : SnapshotModel) (H : History) : Type 0 where
  pub begins : stable_place s.stable % size ≡ 0
  pub older : HaveRecords sum size log s H (stable_place s.stable)

abbrev pub HasFile : (List ℕ → ℕ) → ℕ → List ℕ → SnapshotModel → Option ℕ → History → Type 0
HasFile sum size log s None H = HasNoActive sum size log s H
HasFile sum size log s (Some active) H = HasActive sum size log s active H

-- Snapshot and device are ready for a log that holds this history: the snapshot is the table of the whole history, as the newest one of the device is, and
-- the log file is settled and has what the table needs. (Which slot is active, the newest one may say otherwise.)
pub record IsReady (sum : List ℕ → ℕ) (size : ℕ) (device : State) (s : SnapshotModel) (H : History) : Type 0 where
  pub log : List ℕ
  pub settled : device.log ≡ at_rest log
  pub first : SnapshotModel
  pub begins : BeginsFrom sum device.snapshots.file first
  pub same_place : first.stable ≡ s.stable
  pub same_pages : first.pages ≡ s.pages
  pub table : IsTable s.pages H (stable_place s.stable)
  pub below : EndBelow (stable_place s.stable) H.messages
  pub apart : LieApart H.messages
  pub batches : CloseBelow (stable_place s.stable) H.batches
  pub file : HasFile sum size log s s.active H
