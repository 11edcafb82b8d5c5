-- Snapshots as files of the device, and the one that a log begins from.
use Rattle.std.specs.Prelude.{◌≡◌, ◌⊎◌, ◌^◌, ◌<◌, ◌≤ℤ◌, ◌++◌, ℕ, ℤ, true, false, List, length, Option, Some, None, IsSome}
use Rattle.sled_codec.specs.Spelling.{low_bytes}
use Rattle.sled_codec.specs.Snapshots.{SnapshotModel, SpellsSnapshot, empty_model, is_sound}

-- the bytes of a snapshot on the device: its spelling, how long that is, and its sum
pub record IsSnapshotFile (sum : List ℕ → ℕ) (bytes : List ℕ) (s : SnapshotModel) : Type 0 where
  pub text : List ℕ
  pub spelled : SpellsSnapshot text s
  pub is : bytes ≡ text ++ low_bytes 8 (length text) ++ low_bytes 4 (sum text)
  pub small : length text < 2 ^ 64

-- the snapshot with the greatest number has these bytes
pub record IsNewest (snapshots : ℤ → Option (List ℕ)) (number : ℤ) (bytes : List ℕ) : Type 0 where
  pub there : snapshots number ≡ Some bytes
  pub greatest : (n : ℤ) → IsSome (snapshots n) → n ≤ℤ number

-- Recovery begins from the newest snapshot, or from the one of a log that was never begun.
abbrev pub BeginsFrom : (List ℕ → ℕ) → (ℤ → Option (List ℕ)) → SnapshotModel → Type 0
BeginsFrom sum snapshots s =
    (((n : ℤ) → snapshots n ≡ None) × (s ≡ empty_model))
    ⊎ ((number : ℤ) × (bytes : List ℕ) × IsNewest snapshots number bytes × IsSnapshotFile sum bytes s × (is_sound s ≡ true))

-- The newest snapshot is damaged.
pub record IsDamagedSnapshot (sum : List ℕ → ℕ) (snapshots : ℤ → Option (List ℕ)) : Type 0 where
  pub number : ℤ
  pub bytes : List ℕ
  pub newest : IsNewest snapshots number bytes
  pub damaged : (s : SnapshotModel) → IsSnapshotFile sum bytes s → is_sound s ≡ false
