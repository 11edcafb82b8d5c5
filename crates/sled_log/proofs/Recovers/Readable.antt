-- What a recovery reads, in its parts: recoverable, with one cut, for an orderly history.
use Rattle.std.specs.Prelude.{ℕ, List, Option}
use Rattle.sled_codec.specs.History.{History}
use Rattle.sled_codec.specs.Snapshots.{SnapshotModel}
use Rattle.sled_store.specs.Device.{Content, State}
use Rattle.sled_store.specs.Moments.{AllLeft}
use Rattle.sled_core.specs.inside.Recoverable.{AreRecoverableSnapshots, IsRecoverableLog, AreRecoverableBlobs}
use Rattle.sled_core.specs.Recoverable.{NoForeign}
use Rattle.sled_log.specs.Orderly.{IsOrderly}

-- A content can be read back for an orderly history: its snapshots, its log file and its blobs are recoverable, with one cut.
pub record CanRead (sum : List ℕ → ℕ) (size : ℕ) (content : Content) (H : History) (A f : ℕ) : Type 0 where
  pub orderly : IsOrderly H
  pub first : SnapshotModel
  pub cut : ℕ × Option ℕ
  pub snapshots : AreRecoverableSnapshots sum size content.snapshots H f first
  pub log : IsRecoverableLog sum size content.log H A first cut
  pub blobs : AreRecoverableBlobs sum content.blobs H cut.0

-- a content in which only what the log itself wrote passes as its own can be read back
abbrev pub ReadableIfOwn : (List ℕ → ℕ) → ℕ → History → ℕ → ℕ → State → Content → Type 0
ReadableIfOwn sum size H A f past left = NoForeign sum size past left → CanRead sum size left H A f

-- What a crash now may leave can be read back.
abbrev pub LeavesReadable : (List ℕ → ℕ) → ℕ → History → ℕ → ℕ → State → Type 0
LeavesReadable sum size H A f = AllLeft (ReadableIfOwn sum size H A f)
