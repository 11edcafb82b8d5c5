-- The premise on a checksum: only what the log itself wrote passes as its own in what a crash leaves, and zeros pass as no header.
use Rattle.std.specs.Prelude.{ℕ, ℤ, List, replicate}
use Rattle.sled_codec.specs.declared.serialization.message.MessageKind.{MessageKind}
use Rattle.sled_codec.specs.Record.{IsHeader}
use Rattle.sled_codec.specs.Snapshots.{SnapshotModel}
use Rattle.sled_store.specs.Blobs.{IsBlob}
use Rattle.sled_store.specs.Device.{Content, State}
use Rattle.sled_store.specs.Foreign.{NoForeignLog, NoForeignNames}
use Rattle.sled_store.specs.SnapshotFiles.{IsSnapshotFile}

-- twenty zeros pass as no header
abbrev pub NoHeaderOfZeros : (List ℕ → ℕ) → Type 0
NoHeaderOfZeros sum = (lsn mark : ℤ) → IsHeader sum (replicate 20 0) lsn mark → ⊥

-- Only what the log itself wrote passes as its own, in all parts of a content, and zeros pass as no header.
pub record NoForeign (sum : List ℕ → ℕ) (size : ℕ) (past : State) (left : Content) : Type 0 where
  pub log : NoForeignLog sum size past.log past.placed left.log
  pub blobs : NoForeignNames (λ bytes. (k : MessageKind) × (item : List ℕ) × IsBlob sum bytes k item) past.blobs left.blobs
  pub snapshots : NoForeignNames (λ bytes. (s : SnapshotModel) × IsSnapshotFile sum bytes s) past.snapshots left.snapshots
  pub zeros : NoHeaderOfZeros sum
