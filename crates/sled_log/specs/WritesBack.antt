-- What recovery writes back: the calls that it makes of the device, and what is read afterwards.
use Rattle.std.specs.Prelude.{◌≡◌, ◌≢◌, ◌⊎◌, ◌↔◌, ◌-ℤ◌, ◌^◌, ◌≤ℤ◌, ◌<ℤ◌, ℕ, ℤ, pos, true, Bool, not, if◌then◌else◌, List, [], ◌∷◌, ◌++◌, length, map, replicate}
use Rattle.std.specs.Prelude.{Option, Some, None, IsSome, Contains}
use Rattle.std.specs.Bool.{MatchBool}
use Rattle.std.specs.List.{filter}
use Rattle.std.specs.Ordering.{int_cmp, int_eq}
use Rattle.std.specs.Option.{unwrap_or}
use Rattle.std.specs.List.Sorted.{IsStrictlySortedBy}
use Rattle.sled_codec.specs.Snapshots.{SnapshotModel, model_of, short_snapshot, FitsSnapshot}
use Rattle.sled_codec.specs.Spelling.{low_bytes}
use Rattle.sled_store.specs.Blobs.{removing_blobs, AreFrom, MayGo}
use Rattle.sled_store.specs.Device.{Event, Wrote, Synced, SnapshotFilled, SnapshotPublished, SnapshotRemoved, NamesSynced, Trace, State, LogState, state_of}
use Rattle.sled_store.specs.Device.{at_rest, overwritten}
use Rattle.sled_store.specs.Script.{Performs, after_all}
use Rattle.sled_log.specs.Recovery.{RecoveryResult}
use Rattle.sled_log.specs.declared.snapshot.recovery.Recovery.{Recovery}
use Rattle.sled_log.specs.declared.snapshot.recovery.ShredRange.{ShredRange}

-- What code concludes.

-- a range of the log file as code holds it
abbrev pub range_of : Option ShredRange → Option (ℕ × ℕ)
range_of None = None
range_of (Some shred_range) = Some (shred_range.at, shred_range.len)

-- what recovery concludes, as code holds it
abbrev pub result_of : Recovery → RecoveryResult
result_of x = record { model = model_of x.snapshot; shred_range = range_of x.shred_range; is_new = x.is_new; unread = x.unread.items }

-- The calls.

-- the calls that fill a range with zeros and settle it
abbrev pub shredding : Option (ℕ × ℕ) → List Event
shredding None = []
shredding (Some shred_range) = Wrote shred_range.0 (replicate shred_range.1 0) (replicate shred_range.1 0) ∷ Synced ∷ []

-- the bytes of the file of a snapshot as it is written
abbrev pub short_file : (List ℕ → ℕ) → SnapshotModel → List ℕ
short_file sum s = short_snapshot s ++ low_bytes 8 (length (short_snapshot s)) ++ low_bytes 4 (sum (short_snapshot s))

-- the number that a snapshot is published under: its stable place, and 0 where it has none
abbrev pub snapshot_number_of : SnapshotModel → ℤ
snapshot_number_of s = unwrap_or s.stable (pos 0)

-- the calls that remove the snapshots of these numbers
abbrev pub removing_snapshots : List ℤ → List Event
removing_snapshots numbers = map (λ n. SnapshotRemoved n true) numbers

-- the calls that publish these bytes under a number and settle that
abbrev pub publishing_file : List ℕ → ℤ → List Event
publishing_file bytes number = SnapshotFilled bytes bytes ∷ SnapshotPublished number true ∷ NamesSynced ∷ []

-- the calls that publish a table and remove the snapshots of these numbers
abbrev pub publishing : (List ℕ → ℕ) → SnapshotModel → List ℤ → List Event
publishing sum s numbers = publishing_file (short_file sum s) (snapshot_number_of s) ++ removing_snapshots numbers

-- a number is another one than the one that is kept
abbrev pub is_other : ℤ → ℤ → Bool
is_other kept n = not (int_eq n kept)

-- the numbers of a list but the one that is kept
abbrev pub others : ℤ → List ℤ → List ℤ
others kept numbers = filter (is_other kept) numbers

-- these are all numbers of snapshots but the one that is kept, in ascending order
pub record AreOthers (file : ℤ → Option (List ℕ)) (kept : ℤ) (numbers : List ℤ) : Type 0 where
  pub each : (n : ℤ) → Contains numbers n ↔ (IsSome (file n) × (n ≢ kept))
  pub ascending : IsStrictlySortedBy int_cmp numbers

-- Snapshots that may have been removed where a call failed: all but the one that is kept, or none where they could not be listed.
abbrev pub MayBeRemoved : (ℤ → Option (List ℕ)) → ℤ → List ℤ → Type 0
MayBeRemoved file kept numbers = (numbers ≡ []) ⊎ AreOthers file kept numbers

-- The rest of the active segment is filled, and a table that is new is published.
abbrev pub committing : (List ℕ → ℕ) → RecoveryResult → List ℤ → List Event
committing sum x numbers = shredding x.shred_range ++ (if x.is_new then publishing sum x.model numbers else [])

-- the calls that overwrite these slots with zeros, each settled before the next one is begun
abbrev pub zeroing : ℕ → List ℕ → List Event
zeroing size [] = []
zeroing size (slot ∷ slots) = Wrote slot (replicate size 0) (replicate size 0) ∷ Synced ∷ zeroing size slots

-- the place from which on no blob is kept: that of the table, and the least that there is where it has none
abbrev pub forgotten_from : SnapshotModel → ℤ
forgotten_from s = unwrap_or s.stable (pos 0 -ℤ pos (2 ^ 63))

-- Segments that were found and not read are overwritten, and then the blobs of these places are removed.
abbrev pub forgetting : ℕ → List ℕ → List ℤ → List Event
forgetting size unread places = zeroing size unread ++ removing_blobs places

-- the calls that write back what recovery concludes
abbrev pub writing_back : (List ℕ → ℕ) → ℕ → RecoveryResult → List ℤ → List ℤ → List Event
writing_back sum size x numbers places = committing sum x numbers ++ forgetting size x.unread places

-- a table was published, and then all other snapshots were removed
abbrev pub HasPublished : (List ℕ → ℕ) → SnapshotModel → Trace → Trace → Type 0
HasPublished sum s old new =
    (numbers : List ℤ) × AreOthers (state_of old).snapshots.file (snapshot_number_of s) numbers × (new ≡ after_all (publishing sum s numbers) old)

-- the same calls, all of them or up to one that failed; none of them where the table has no spelling
abbrev pub Publishes : (List ℕ → ℕ) → SnapshotModel → Trace → Trace → Type 0
Publishes sum s old new =
    (new ≡ old) ⊎ (FitsSnapshot s × (numbers : List ℤ) × MayBeRemoved (state_of old).snapshots.file (snapshot_number_of s) numbers
    × Performs (publishing sum s numbers) old new)

-- a table that is new has a spelling
abbrev pub FitsIfNew : RecoveryResult → Type 0
FitsIfNew x = x.is_new ≡ true → FitsSnapshot x.model

-- where a table is new, these are all other snapshots
abbrev pub AreOthersIfNew : RecoveryResult → State → List ℤ → Type 0
AreOthersIfNew x s numbers = x.is_new ≡ true → AreOthers s.snapshots.file (snapshot_number_of x.model) numbers

-- all calls were made that commit what recovery concludes
abbrev pub HasCommitted : (List ℕ → ℕ) → RecoveryResult → Trace → Trace → Type 0
HasCommitted sum x old new = (numbers : List ℤ) × AreOthersIfNew x (state_of old) numbers × (new ≡ after_all (committing sum x numbers) old)

-- The same calls behind these ones, all of them or up to one that failed. Nothing is published where a table that is new has no spelling.
abbrev pub CommitsBehind : List Event → (List ℕ → ℕ) → RecoveryResult → Trace → Trace → Type 0
CommitsBehind first sum x old new =
    Performs (first ++ shredding x.shred_range) old new
    ⊎ (FitsIfNew x × (numbers : List ℤ) × MayBeRemoved (state_of old).snapshots.file (snapshot_number_of x.model) numbers
    × Performs (first ++ committing sum x numbers) old new)

-- all calls were made that take away what the table doesn't have
abbrev pub HasForgotten : ℕ → List ℕ → ℤ → Trace → Trace → Type 0
HasForgotten size unread least old new =
    (places : List ℤ) × AreFrom (state_of old).blobs.file least places × (new ≡ after_all (forgetting size unread places) old)

-- the same calls, all of them or up to one that failed
abbrev pub Forgets : ℕ → List ℕ → ℤ → Trace → Trace → Type 0
Forgets size unread least old new = (places : List ℤ) × MayGo (state_of old).blobs.file least places × Performs (forgetting size unread places) old new

-- all calls were made that write back what recovery concludes
abbrev pub HasWrittenBack : (List ℕ → ℕ) → ℕ → RecoveryResult → Trace → Trace → Type 0
HasWrittenBack sum size x old new =
    (numbers : List ℤ) × AreOthersIfNew x (state_of old) numbers × (places : List ℤ) × AreFrom (state_of old).blobs.file (forgotten_from x.model) places
    × (new ≡ after_all (writing_back sum size x numbers places) old)

-- The same calls behind these ones, all of them or up to one that failed. Nothing is taken away before the table is committed, all other snapshots removed.
abbrev pub WritesBehind : List Event → (List ℕ → ℕ) → ℕ → RecoveryResult → Trace → Trace → Type 0
WritesBehind first sum size x old new =
    CommitsBehind first sum x old new
    ⊎ (FitsIfNew x × (numbers : List ℤ) × AreOthersIfNew x (state_of old) numbers × (places : List ℤ)
    × MayGo (state_of old).blobs.file (forgotten_from x.model) places
    × Performs (first ++ writing_back sum size x numbers places) old new)

-- so it is with no calls before them
abbrev pub WritesBack : (List ℕ → ℕ) → ℕ → RecoveryResult → Trace → Trace → Type 0
WritesBack sum size x old new = WritesBehind [] sum size x old new

-- What is read afterwards.

-- the snapshot under its own number is the table, and there is no other one
pub record IsOnlySnapshot (file : ℤ → Option (List ℕ)) (number : ℤ) (bytes : List ℕ) : Type 0 where
  pub own : file number ≡ Some bytes
  pub others : (n : ℤ) → n ≢ number → file n ≡ None

-- a log file in which a range was filled with zeros, and settled
abbrev pub after_shredding : Option (ℕ × ℕ) → LogState → LogState
after_shredding None log = log
after_shredding (Some shred_range) log = at_rest (overwritten log.bytes shred_range.0 (replicate shred_range.1 0))

-- a log file in which these slots were overwritten with zeros, and settled
abbrev pub after_zeroing : ℕ → List ℕ → LogState → LogState
after_zeroing size [] log = log
after_zeroing size (slot ∷ slots) log = after_zeroing size slots (at_rest (overwritten log.bytes slot (replicate size 0)))

-- What recovery concludes was written back, and nothing else was changed.
pub record IsWrittenBack (sum : List ℕ → ℕ) (size : ℕ) (x : RecoveryResult) (old new : State) : Type 0 where
  -- the rest of the active segment and the segments that were not read are zeros
  pub log : new.log ≡ after_zeroing size x.unread (after_shredding x.shred_range old.log)
  -- a table that is new is the one snapshot there is
  pub snapshots : MatchBool x.is_new (IsOnlySnapshot new.snapshots.file (snapshot_number_of x.model) (short_file sum x.model)) (new.snapshots ≡ old.snapshots)
  -- no blob lies at or above the place of the table, and the others are as they were
  pub gone : (n : ℤ) → forgotten_from x.model ≤ℤ n → new.blobs.file n ≡ None
  pub blobs : (n : ℤ) → n <ℤ forgotten_from x.model → new.blobs.file n ≡ old.blobs.file n
