-- What recovery makes of a device, and what it gives.
use Rattle.std.specs.Prelude.{◌≡◌, ◌⊎◌, ℕ, ℤ, Bool, true, false, List, [], ◌∷◌, length, Option, None, Result, IfOk}
use Rattle.sled_codec.specs.declared.result.DiskPtr.{DiskPtr}
use Rattle.sled_codec.specs.declared.result.Error.{Error}
use Rattle.sled_codec.specs.declared.serialization.snapshot.Snapshot.{Snapshot}
use Rattle.sled_codec.specs.Snapshots.{SnapshotModel, model_of}
use Rattle.sled_store.specs.Begin.{IsStartable}
use Rattle.sled_store.specs.Blobs.{OnDamage}
use Rattle.sled_store.specs.Device.{Content, Trace, State, Synced, NamesSynced, state_of, content_of}
use Rattle.sled_store.specs.Script.{Performs}
use Rattle.sled_store.specs.SnapshotFiles.{BeginsFrom}
use Rattle.sled_log.specs.Recovery.{RecoveryResult, Damaged, Recovered, Recovers}
use Rattle.sled_log.specs.WritesBack.{HasWrittenBack, IsWrittenBack, WritesBehind, FitsIfNew}

-- The newest snapshot now has the table of this one, and is this one or was there before.
abbrev pub BeginsAgain : (List ℕ → ℕ) → (ℤ → Option (List ℕ)) → State → SnapshotModel → Type 0
BeginsAgain sum snapshots new s =
    (first : SnapshotModel) × BeginsFrom sum new.snapshots.file first × (first.stable ≡ s.stable) × (first.pages ≡ s.pages)
    × ((first ≡ s) ⊎ BeginsFrom sum snapshots first)

-- The calls of a recovery: it settles the device, and where it comes to a conclusion writes that back; all of them or up to one that failed.
abbrev pub RecoveryCalls : (List ℕ → ℕ) → ℕ → Trace → Trace → Type 0
RecoveryCalls sum size old new =
    Performs (Synced ∷ NamesSynced ∷ []) old new
    ⊎ ((x : RecoveryResult) × Recovers sum size (content_of (state_of old)) (Recovered x) × WritesBehind (Synced ∷ NamesSynced ∷ []) sum size x old new)

-- A recovery came to a conclusion, wrote it back, and gives its snapshot.
pub record Restores (sum : List ℕ → ℕ) (size : ℕ) (old new : Trace) (s : SnapshotModel) : Type 0 where
  pub conclusion : RecoveryResult
  pub recovers : Recovers sum size (content_of (state_of old)) (Recovered conclusion)
  pub model : s ≡ conclusion.model
  pub written : IsWrittenBack sum size conclusion (state_of (NamesSynced ∷ Synced ∷ old)) (state_of new)
  pub done : HasWrittenBack sum size conclusion (NamesSynced ∷ Synced ∷ old) new
  pub fits : FitsIfNew conclusion
  pub newest : BeginsAgain sum (state_of old).snapshots.file (state_of new) s
  -- a recovery of what is left, where it comes to a conclusion, comes to the same table with the same place
  pub again : (y : RecoveryResult) → Recovers sum size (content_of (state_of new)) (Recovered y) → (y.model.stable ≡ s.stable) × (y.model.pages ≡ s.pages)

-- A recovery meets damage that is named so: it concludes that, or it comes to a table on which no log can begin, which is damage of no blob.
abbrev pub MeetsDamage : (List ℕ → ℕ) → ℕ → Content → Option DiskPtr → Type 0
MeetsDamage sum size content at =
    Recovers sum size content (Damaged at)
    ⊎ ((at ≡ None) × (x : RecoveryResult) × Recovers sum size content (Recovered x) × (IsStartable size (length content.log) x.model → ⊥))

-- what it takes for damage that is named so, by whether a log is to begin on what it gives
abbrev pub TakesForDamage : Bool → (List ℕ → ℕ) → ℕ → Content → Option DiskPtr → Type 0
TakesForDamage false sum size content at = Recovers sum size content (Damaged at)
TakesForDamage true sum size content at = MeetsDamage sum size content at

-- What came of a recovery, whatever it answers: the calls that it made, what it gives, and that it wrote nothing where it met what it takes for damage, and
-- how that is named.
pub record ComesTo (IsDamage : Content → Option DiskPtr → Type 0) (sum : List ℕ → ℕ) (size : ℕ) (old new : Trace) (result : Result Snapshot Error)
    : Type 0 where
  pub calls : RecoveryCalls sum size old new
  pub ok : IfOk result (λ s. Restores sum size old new (model_of s))
  pub corrupt : OnDamage result (λ at. IsDamage (content_of (state_of old)) at × (new ≡ NamesSynced ∷ Synced ∷ old))

abbrev pub ComesOf : (List ℕ → ℕ) → ℕ → (old new : Trace) → Result Snapshot Error → Type 0
ComesOf sum size old new result = ComesTo (λ content at. Recovers sum size content (Damaged at)) sum size old new result
