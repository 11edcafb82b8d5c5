-- Bytes of the log, and files under names, that every crash leaves as they are.
use Rattle.std.specs.Prelude.{◌≡◌, ℤ}
use Rattle.sled_store.specs.Device.{Content}

-- one content is the other: the same log, and the same file under each name
pub record SameContent (a b : Content) : Type 0 where
  pub log : a.log ≡ b.log
  pub blobs : (n : ℤ) → a.blobs n ≡ b.blobs n
  pub snapshots : (n : ℤ) → a.snapshots n ≡ b.snapshots n
