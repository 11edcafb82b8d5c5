-- What is read under the names of a device, its blobs and its snapshots, is the log's own: a sync of names settles what is read, so bytes that are foreign
-- before it would be own behind it.
use Rattle.std.specs.Prelude.{◌≡◌, ◌⊎◌, ℕ, ℤ, false, List, Some, Contains}
use Rattle.sled_codec.specs.declared.serialization.message.MessageKind.{MessageKind}
use Rattle.sled_codec.specs.Snapshots.{SnapshotModel}
use Rattle.sled_store.specs.Blobs.{IsBlob}
use Rattle.sled_store.specs.Device.{NamesState, State, settled_files}
use Rattle.sled_store.specs.SnapshotFiles.{IsSnapshotFile}

-- bytes were settled under a name, or asked for since
abbrev pub IsOwn : NamesState → ℤ → List ℕ → Type 0
IsOwn s n bytes = (settled_files s n ≡ Some bytes) ⊎ Contains (s.asked n) bytes

-- the bytes of some blob
abbrev pub IsAnyBlob : (List ℕ → ℕ) → List ℕ → Type 0
IsAnyBlob sum bytes = (k : MessageKind) × (item : List ℕ) × IsBlob sum bytes k item

-- the bytes of some snapshot
abbrev pub IsAnySnapshot : (List ℕ → ℕ) → List ℕ → Type 0
IsAnySnapshot sum bytes = (s : SnapshotModel) × IsSnapshotFile sum bytes s

-- What passes of the files whose bytes are synced is the log's own. Nothing is asked of a file whose bytes may still be lost: a sync of names doesn't
-- settle those, and a crash may leave any bytes of it before that and behind it.
pub record StayOwn (passes : List ℕ → Type 0) (s : NamesState) : Type 0 where
  pub own : (n : ℤ) (bytes : List ℕ) → passes bytes → s.file n ≡ Some bytes → s.is_unsynced n ≡ false → IsOwn s n bytes

-- So it is with the blobs and the snapshots of a device.
pub record ReadsStayOwn (sum : List ℕ → ℕ) (s : State) : Type 0 where
  pub of_blobs : StayOwn (IsAnyBlob sum) s.blobs
  pub of_snapshots : StayOwn (IsAnySnapshot sum) s.snapshots
