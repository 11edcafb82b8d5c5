-- The calls that make a blob and remove it, torn or not: what holds of a device as far as its log file goes, the snapshots that are read, and what a crash may leave of the other names, holds behind each of them.
use Rattle.std.proofs.Common.{ℕ, ℤ, Bool, true, List, [], ◌∷◌, Some, refl, sym, subst}
use Rattle.std.specs.Ordering.{int_eq}
use Rattle.sled_store.specs.Answers.{Tears}
use Rattle.sled_store.specs.Blobs.{making, removing_blobs}
use Rattle.sled_store.specs.Device.{BlobMade, BlobSynced, BlobRemoved, NamesSynced, Event, NamesState, State, file_synced, names_synced, renamed, step, unnamed}
use Rattle.sled_store.specs.inside.Script.{Along}
use Rattle.sled_core.specs.OwnNames.{IsAnyBlob, IsAnySnapshot, ReadsStayOwn, StayOwn}
use Rattle.sled_core.proofs.Blobs.ChangesBack.{ReadsOwn, GoesBack, renamed_back, removed_back, file_synced_back, names_synced_back, renamed_own, file_synced_own}
use Rattle.sled_core.proofs.Blobs.Leaves.{no_name, blob_not_empty, snapshot_not_empty, ChangesAt, with_names}
use Rattle.sled_core.proofs.Blobs.StaysOwn.{IsAskedAt, asked_made, own_bytes_synced, own_made, own_removed, own_settled}

-- What is read under the names of a device is the log's own, but for the blob of one place.
pub record ReadsNames (sum : List ℕ → ℕ) (p : ℤ) (s : State) : Type 0 where
  pub of_blobs : ReadsOwn (IsAnyBlob sum) (int_eq p) s.blobs
  pub of_snapshots : ReadsOwn (IsAnySnapshot sum) no_name s.snapshots

-- where it is so with all of them
pub own_reads : (sum : List ℕ → ℕ) (p : ℤ) (s : State) → ReadsStayOwn sum s → ReadsNames sum p s
own_reads sum p s are = record {
  of_blobs = record { own = λ n bytes other is there firm. are.of_blobs.own n bytes is there firm };
  of_snapshots = record { own = λ n bytes other is there firm. are.of_snapshots.own n bytes is there firm };
}

-- A property of a device holds with other names, of which a crash leaves what it could leave before, but for the blob of a place.
abbrev pub KeepsBeside : (List ℕ → ℕ) → ℤ → (State → Type 0) → Type 0
KeepsBeside sum p P = (s : State) (blobs snapshots : NamesState) → ChangesAt sum p s blobs snapshots → P s → P (with_names s blobs snapshots)

-- the snapshots are as they were
same_snapshots : (sum : List ℕ → ℕ) (s : NamesState) → GoesBack (IsAnySnapshot sum) no_name s s
same_snapshots sum s = record { leaves = λ n left other is. is; own = λ n bytes other is own. own }

module _ (sum : List ℕ → ℕ) (p : ℤ) (s : State) where
  -- other blobs alone
  blobs_changed : (blobs : NamesState) → GoesBack (IsAnyBlob sum) (int_eq p) s.blobs blobs → (StayOwn (IsAnyBlob sum) s.blobs → StayOwn (IsAnyBlob sum) blobs) → ChangesAt sum p s blobs s.snapshots
  blobs_changed blobs back stay = record { of_blobs = back; of_snapshots = same_snapshots sum s.snapshots; same_files = refl; stay_own = λ are. record { of_blobs = stay are.of_blobs; of_snapshots = are.of_snapshots } }

  -- What each of the calls changes.

  pub made_changes : (asked now : List ℕ) (done : Bool) → ChangesAt sum p s (renamed s.blobs p done (record { file = Some now; is_unsynced = true }) (asked ∷ [])) s.snapshots
  made_changes asked now done = blobs_changed _ (renamed_back (IsAnyBlob sum) s.blobs p done (record { file = Some now; is_unsynced = true }) (asked ∷ [])) (own_made (IsAnyBlob sum) s.blobs p asked now done)

  pub blob_synced_changes : IsAskedAt (IsAnyBlob sum) s.blobs p → ChangesAt sum p s (file_synced s.blobs p) s.snapshots
  blob_synced_changes asked = blobs_changed _ (file_synced_back (IsAnyBlob sum) s.blobs p) (own_bytes_synced (IsAnyBlob sum) s.blobs p asked)

  pub removed_changes : (done : Bool) → ChangesAt sum p s (unnamed s.blobs p done) s.snapshots
  removed_changes done = blobs_changed _ (removed_back (IsAnyBlob sum) s.blobs p done) (own_removed (IsAnyBlob sum) s.blobs p done)

  pub names_synced_changes : ReadsNames sum p s → ChangesAt sum p s (names_synced s.blobs) (names_synced s.snapshots)
  names_synced_changes reads = record {
    of_blobs = names_synced_back (IsAnyBlob sum) (blob_not_empty sum) (int_eq p) s.blobs reads.of_blobs;
    of_snapshots = names_synced_back (IsAnySnapshot sum) (snapshot_not_empty sum) no_name s.snapshots reads.of_snapshots;
    same_files = refl;
    stay_own = λ are. own_settled sum s;
  }

  -- What is read under the other names is the log's own behind them.

  pub made_reads : (asked now : List ℕ) (done : Bool) → ReadsNames sum p s → ReadsNames sum p (step (BlobMade p asked now done) s)
  made_reads asked now done reads = record { of_blobs = renamed_own (IsAnyBlob sum) s.blobs p done (record { file = Some now; is_unsynced = true }) (asked ∷ []) reads.of_blobs; of_snapshots = reads.of_snapshots }

  pub blob_synced_reads : ReadsNames sum p s → ReadsNames sum p (step (BlobSynced p) s)
  blob_synced_reads reads = record { of_blobs = file_synced_own (IsAnyBlob sum) s.blobs p reads.of_blobs; of_snapshots = reads.of_snapshots }

  module _ (P : State → Type 0) (keeps : KeepsBeside sum p P) (here : P s) where
    -- Such a property holds behind each of the calls,

    pub made_keeps : (asked now : List ℕ) (done : Bool) → P (step (BlobMade p asked now done) s)
    made_keeps asked now done = keeps s _ _ (made_changes asked now done) here

    pub blob_synced_keeps : IsAskedAt (IsAnyBlob sum) s.blobs p → P (step (BlobSynced p) s)
    blob_synced_keeps asked = keeps s _ _ (blob_synced_changes asked) here

    pub removed_keeps : (done : Bool) → P (step (BlobRemoved p done) s)
    removed_keeps done = keeps s _ _ (removed_changes done) here

    pub names_synced_keeps : ReadsNames sum p s → P (step NamesSynced s)
    names_synced_keeps reads = keeps s _ _ (names_synced_changes reads) here

    -- and behind any of those that may be torn.

    pub made_torn : (asked now : List ℕ) (done : Bool) (torn : Event) → Tears (BlobMade p asked now done) torn → P (step torn s)
    made_torn asked now done torn tears = subst (λ (e : Event). P (step e s)) (sym tears.2) (made_keeps asked tears.0 tears.1)

    pub removed_torn : (done : Bool) (torn : Event) → Tears (BlobRemoved p done) torn → P (step torn s)
    removed_torn done torn tears = subst (λ (e : Event). P (step e s)) (sym tears.1) (removed_keeps tears.0)

-- It holds along the calls that make a blob,
pub making_keeps : (sum : List ℕ → ℕ) (p : ℤ) (bytes : List ℕ) (s : State) (P : State → Type 0) → KeepsBeside sum p P → ReadsNames sum p s → P s → Along P (making p bytes) s
making_keeps sum p bytes s P keeps reads here =
    let made : State = step (BlobMade p bytes bytes true) s in
    let synced : State = step (BlobSynced p) made in
    let one : P made = made_keeps sum p s P keeps here bytes bytes true in
    let two : P synced = blob_synced_keeps sum p made P keeps one (asked_made (IsAnyBlob sum) s.blobs p bytes) in
    let reads_one : ReadsNames sum p made = made_reads sum p s bytes bytes true reads in
    let reads_two : ReadsNames sum p synced = blob_synced_reads sum p made reads_one in
    (here, made_torn sum p s P keeps here bytes bytes true, (one, λ torn tears. absurd tears, (two, λ torn tears. absurd tears, names_synced_keeps sum p synced P keeps two reads_two)))

-- and along the one that removes it.
pub removing_keeps : (sum : List ℕ → ℕ) (p : ℤ) (s : State) (P : State → Type 0) → KeepsBeside sum p P → P s → Along P (removing_blobs (p ∷ [])) s
removing_keeps sum p s P keeps here = (here, removed_torn sum p s P keeps here true, removed_keeps sum p s P keeps here true)
