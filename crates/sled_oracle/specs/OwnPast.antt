-- What a slow test of a whole device is made of, by which a test tells whether only what the log itself wrote passes as its own.
use Rattle.std.specs.Prelude.{ℕ, List}
use Rattle.sled_codec.specs.declared.serialization.message.MessageKind.{MessageKind}
use Rattle.sled_codec.specs.Snapshots.{SnapshotModel}
use Rattle.sled_store.specs.Device.{State, Content, file_named}
use Rattle.sled_oracle.specs.OwnNames.{AreNoted}
use Rattle.sled_oracle.specs.OwnParts.{IsNoted}
use Rattle.sled_store.specs.SnapshotFiles.{IsSnapshotFile}
use Rattle.sled_store.specs.Blobs.{IsBlob}
use Rattle.sled_oracle.specs.declared.own.LeftFiles.{LeftFiles}
use Rattle.sled_oracle.specs.declared.own.Past.{Past}

-- these bytes pass as a blob
abbrev pub IsSomeBlob : (List ℕ → ℕ) → List ℕ → Type 0
IsSomeBlob sum bytes = (k : MessageKind) × (item : List ℕ) × IsBlob sum bytes k item

-- these bytes pass as a snapshot
abbrev pub IsSomeSnapshot : (List ℕ → ℕ) → List ℕ → Type 0
IsSomeSnapshot sum bytes = (s : SnapshotModel) × IsSnapshotFile sum bytes s

-- what a test noted is the past of a device
pub record IsPast (noted : Past) (past : State) : Type 0 where
  pub log : IsNoted noted.log past.log past.placed
  pub blobs : AreNoted noted.blobs past.blobs
  pub snapshots : AreNoted noted.snapshots past.snapshots

-- what a crash left, as a content of a device
abbrev pub content_of_files : LeftFiles → Content
content_of_files left = record { log = left.log.items; blobs = file_named left.blobs.items; snapshots = file_named left.snapshots.items }
