-- Where a device has other names, of which a crash leaves what it could leave before but for a blob that no message names, what can be recovered can be still.
use Rattle.std.proofs.Common.{◌≡◌, ◌<◌, ◌++◌, ◌∷◌, ℕ, ℤ, Bool, false, List, [], length, Option, ap, arith, length-append, refl, sym}
use Rattle.std.specs.Ordering.{int_eq}
use Rattle.sled_codec.specs.declared.result.DiskPtr.{DiskPtr}
use Rattle.sled_codec.specs.declared.result.DiskPtr.TheVariants.{Inline, Blob}
use Rattle.sled_codec.specs.Kinds.{code_of}
use Rattle.std.specs.List.{Contains}
use Rattle.sled_codec.specs.History.{Message, History}
use Rattle.sled_codec.specs.Snapshots.{SnapshotModel}
use Rattle.sled_codec.specs.Spelling.{low_bytes}
use Rattle.sled_store.specs.Device.{Content, NamesState, State}
use Rattle.sled_store.proofs.Segments.TableEntries.{from_table}
use Rattle.sled_core.specs.OwnNames.{IsAnyBlob, IsAnySnapshot, ReadsStayOwn}
use Rattle.sled_core.specs.invariants.Recoverable.{Recoverable}
use Rattle.sled_core.specs.inside.Lasting.{LeavesRecovering}
use Rattle.sled_core.specs.inside.Running.{BlobsFit, KeepsEntries, KeepsItems, NamesFit}
use Rattle.sled_core.specs.Running.{KeepsItem}
use Rattle.sled_core.proofs.Blobs.ChangesBack.{GoesBack, before, before_same, before_left, before_own}
use Rattle.sled_core.proofs.Blobs.Unnamed.{IsUnnamed, beside_recoverable, told_apart}

-- no name is skipped
abbrev pub no_name : ℤ → Bool
no_name n = false

-- no bytes are no blob
pub blob_not_empty : (sum : List ℕ → ℕ) → IsAnyBlob sum [] → ⊥
blob_not_empty sum (k, item, is) = omega (arith, ap length is, length-append (low_bytes 4 (sum (code_of k ∷ item))) (code_of k ∷ item))

no_end : (text end : List ℕ) → 0 < length end → [] ≡ text ++ end → ⊥
no_end text end some is = omega (arith, some, ap length is, length-append text end)

-- and no snapshot
pub snapshot_not_empty : (sum : List ℕ → ℕ) → IsAnySnapshot sum [] → ⊥
snapshot_not_empty sum (s, file) = no_end (file.text ++ low_bytes 8 (length file.text)) (low_bytes 4 (sum file.text)) (omega arith) file.is

-- a device with other names
abbrev pub with_names : State → NamesState → NamesState → State
with_names s blobs snapshots = record { log = s.log; blobs = blobs; snapshots = snapshots; temporary = s.temporary; placed = s.placed }

-- A device gets other names: what a crash leaves of them it could leave before, but for the blob of a place. The snapshots that are read are the same. What is read stays the log's own.
pub record ChangesAt (sum : List ℕ → ℕ) (p : ℤ) (s : State) (blobs snapshots : NamesState) : Type 0 where
  pub of_blobs : GoesBack (IsAnyBlob sum) (int_eq p) s.blobs blobs
  pub of_snapshots : GoesBack (IsAnySnapshot sum) no_name s.snapshots snapshots
  pub same_files : snapshots.file ≡ s.snapshots.file
  pub stay_own : ReadsStayOwn sum s → ReadsStayOwn sum (with_names s blobs snapshots)

module _ (sum : List ℕ → ℕ) (p : ℤ) (s : State) (blobs snapshots : NamesState) (changes : ChangesAt sum p s blobs snapshots) (H : History) where
  -- the blobs that a log needs
  pub blobs_fit_beside : IsUnnamed H p → (reach : ℕ) → BlobsFit sum s.blobs H reach → BlobsFit sum blobs H reach
  blobs_fit_beside unnamed reach fit left leaves own =
      let back = changes.of_blobs in
      let was : ℤ → Option (List ℕ) = before (IsAnyBlob sum) (int_eq p) s.blobs blobs back left in
      beside_recoverable sum p was left H unnamed (λ n other. sym (before_same (IsAnyBlob sum) (int_eq p) s.blobs blobs back left n other)) reach
      (fit was (before_left (IsAnyBlob sum) (int_eq p) s.blobs blobs back left leaves) (before_own (IsAnyBlob sum) (int_eq p) s.blobs blobs back left own))

  -- the one that holds the item of a message
  kept_beside : IsUnnamed H p → (m : Message) → Contains H.messages m → KeepsItem sum s.blobs m m.pointer → KeepsItem sum blobs m m.pointer
  kept_beside unnamed m there keeps = by m.pointer refl keeps where
    by : (pointer : DiskPtr) → m.pointer ≡ pointer → KeepsItem sum s.blobs m pointer → KeepsItem sum blobs m pointer
    by (Inline lid) is its = tt
    by (Blob lid q) is its = λ left may. its left (changes.of_blobs.leaves q left (told_apart p q (unnamed m there lid q is)) may)

  -- so those of the messages from a place on
  pub stored_beside : IsUnnamed H p → (place : ℕ) → KeepsItems sum s.blobs H place → KeepsItems sum blobs H place
  stored_beside unnamed place keeps m there above = kept_beside unnamed m there (keeps m there above)

  -- and those of the entries of the table below it
  pub entries_beside : IsUnnamed H p → (place : ℕ) → KeepsEntries sum s.blobs H place → KeepsEntries sum blobs H place
  entries_beside unnamed place keeps page m entry = kept_beside unnamed m (from_table H place page m entry).0 (keeps page m entry)

  -- the snapshots that it begins from
  pub names_fit_beside : (size f : ℕ) (first : SnapshotModel) → NamesFit sum size s.snapshots H f first → NamesFit sum size snapshots H f first
  names_fit_beside size f first fit left leaves own =
      let back = changes.of_snapshots in
      fit left (before_left (IsAnySnapshot sum) no_name s.snapshots snapshots back left leaves) (before_own (IsAnySnapshot sum) no_name s.snapshots snapshots back left own)

  -- what a crash leaves
  pub leaves_beside : IsUnnamed H p → (size A f : ℕ) → LeavesRecovering sum size H A f s → LeavesRecovering sum size H A f (with_names s blobs snapshots)
  unfolding Recoverable
  leaves_beside unnamed size A f recoverable left leaves own =
      let back = changes.of_blobs in
      let of_names = changes.of_snapshots in
      let was : ℤ → Option (List ℕ) = before (IsAnyBlob sum) (int_eq p) s.blobs blobs back left.blobs in
      let content : Content = record { log = left.log; blobs = was; snapshots = left.snapshots } in
      let is = recoverable content
      (record {
        log = leaves.log;
        blobs = before_left (IsAnyBlob sum) (int_eq p) s.blobs blobs back left.blobs leaves.blobs;
        snapshots = before_left (IsAnySnapshot sum) no_name s.snapshots snapshots of_names left.snapshots leaves.snapshots;
      })
      (record {
        log = own.log;
        blobs = before_own (IsAnyBlob sum) (int_eq p) s.blobs blobs back left.blobs own.blobs;
        snapshots = before_own (IsAnySnapshot sum) no_name s.snapshots snapshots of_names left.snapshots own.snapshots;
        zeros = own.zeros;
      }) in
      record {
        first = is.first;
        cut = is.cut;
        snapshots = is.snapshots;
        log = is.log;
        blobs = beside_recoverable sum p was left.blobs H unnamed (λ n other. sym (before_same (IsAnyBlob sum) (int_eq p) s.blobs blobs back left.blobs n other)) is.cut.0 is.blobs;
      }
