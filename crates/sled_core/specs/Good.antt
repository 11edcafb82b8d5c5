-- What a recovery has to give: a table of the completed messages below one cut, each entry of which reads its own bytes.
use Rattle.std.specs.Prelude.{◌≡◌, ◌≤◌, ◌/◌, ℕ, true, List, Option, Some, Contains}
use Rattle.sled_codec.specs.declared.result.DiskPtr.{DiskPtr}
use Rattle.sled_codec.specs.declared.result.DiskPtr.TheVariants.{Inline, Blob}
use Rattle.sled_codec.specs.declared.serialization.message.MessageKind.{MessageKind}
use Rattle.sled_codec.specs.Kinds.{kind_written}
use Rattle.sled_codec.specs.History.{Message, History, table, CutFits}
use Rattle.sled_codec.specs.PageTables.{IsTable}
use Rattle.sled_codec.specs.Snapshots.{SnapshotModel, stable_place}
use Rattle.sled_store.specs.Blobs.{IsBlob}
use Rattle.sled_store.specs.Device.{Content}
use Rattle.sled_core.specs.LogFile.{MessageStands}

-- a blob of the content has the item of a message
pub record HasOwnBlob (sum : List ℕ → ℕ) (bytes : Option (List ℕ)) (m : Message) : Type 0 where
  pub kind : MessageKind
  pub known : kind_written m.kind m.page true ≡ Some kind
  pub file : List ℕ
  pub there : bytes ≡ Some file
  pub is : IsBlob sum file kind m.bytes

abbrev pub ReadsAt : (List ℕ → ℕ) → ℕ → Content → Message → DiskPtr → Type 0
ReadsAt sum size content m (Inline lid) = MessageStands sum size content.log lid (m.place / size) m
ReadsAt sum size content m (Blob lid place) = HasOwnBlob sum (content.blobs place) m

-- The pointer of a message reads its own bytes: the message's record begins there, in a segment of its number, or the blob there is its item.
abbrev pub Reads : (List ℕ → ℕ) → ℕ → Content → Message → Type 0
Reads sum size content m = ReadsAt sum size content m m.pointer

-- A snapshot is good for a history, the end of what was acknowledged, and a floor: with its stable place for the cut, which splits no batch, passes what
-- was acknowledged and isn't below the floor, it is the table below the cut, and each entry reads its own bytes.
pub record IsGood (sum : List ℕ → ℕ) (size : ℕ) (content : Content) (H : History) (A f : ℕ) (s : SnapshotModel) : Type 0 where
  pub fits : CutFits H (stable_place s.stable)
  pub passes : A ≤ stable_place s.stable
  pub not_below : f ≤ stable_place s.stable
  pub reads : (page : ℕ) (m : Message) → Contains (table H (stable_place s.stable) page) m → Reads sum size content m
  pub table : IsTable s.pages H (stable_place s.stable)
