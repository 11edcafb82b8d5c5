-- A crash during a change leaves what a crash after the whole change may leave: one claim on the state after a call covers all its moments.
use Rattle.std.proofs.Common.{ℤ, ℕ, true, false, List, [], ◌∷◌, Some, subst}
use Rattle.sled_store.specs.Device.{Event, NameState, State, Content, step, Leaves, Wrote, Cut, BlobMade, BlobRemoved, SnapshotFilled, SnapshotPublished, SnapshotRemoved}
use Rattle.sled_store.specs.Answers.{Tears}
use Rattle.sled_store.proofs.LogFile.LogLemmas.{before_write, before_cut, torn_write, torn_cut}
use Rattle.sled_store.proofs.Names.NamesLemmas.{before_renamed, before_unnamed, torn_renamed, torn_unnamed}

-- these are the events that calls ask for
pub data Asked : Event → Type 0 where
  write : (at : ℕ) (bytes : List ℕ) → Asked (Wrote at bytes bytes)
  cut : (len : ℕ) → Asked (Cut len len)
  make_blob : (place : ℤ) (bytes : List ℕ) → Asked (BlobMade place bytes bytes true)
  remove_blob : (place : ℤ) → Asked (BlobRemoved place true)
  fill : (bytes : List ℕ) → Asked (SnapshotFilled bytes bytes)
  publish : (number : ℤ) → Asked (SnapshotPublished number true)
  remove_snapshot : (number : ℤ) → Asked (SnapshotRemoved number true)

-- before the change
pub before_leaves : (e : Event) (s : State) (left : Content) → Asked e → Leaves s left → Leaves (step e s) left
before_leaves e s left (write at bytes) was = record { log = before_write s.log at bytes bytes left.log was.log; blobs = was.blobs; snapshots = was.snapshots }
before_leaves e s left (cut len) was = record { log = before_cut s.log len len left.log was.log; blobs = was.blobs; snapshots = was.snapshots }
before_leaves e s left (make_blob place bytes) was = record { log = was.log; blobs = λ n. before_renamed s.blobs place true (record { file = Some bytes; is_unsynced = true }) (bytes ∷ []) n (left.blobs n) (was.blobs n); snapshots = was.snapshots }
before_leaves e s left (remove_blob place) was = record { log = was.log; blobs = λ n. before_unnamed s.blobs place true n (left.blobs n) (was.blobs n); snapshots = was.snapshots }
before_leaves e s left (fill bytes) was = record { log = was.log; blobs = was.blobs; snapshots = was.snapshots }
before_leaves e s left (publish number) was = record { log = was.log; blobs = was.blobs; snapshots = λ n. before_renamed s.snapshots number true (record { file = Some s.temporary.bytes; is_unsynced = false }) (s.temporary.asked ∷ []) n (left.snapshots n) (was.snapshots n) }
before_leaves e s left (remove_snapshot number) was = record { log = was.log; blobs = was.blobs; snapshots = λ n. before_unnamed s.snapshots number true n (left.snapshots n) (was.snapshots n) }

-- The change was torn.

torn_wrote : (at : ℕ) (asked : List ℕ) (s : State) (left : Content) (torn : Event) → Tears (Wrote at asked asked) torn → Leaves (step torn s) left → Leaves (step (Wrote at asked asked) s) left
torn_wrote at asked s left torn tears was =
    let t = tears.0 in
    let here = subst (λ (e : Event). Leaves (step e s) left) tears.2 was in
    record { log = torn_write s.log at asked t left.log tears.1 here.log; blobs = here.blobs; snapshots = here.snapshots }

torn_cut_off : (asked : ℕ) (s : State) (left : Content) (torn : Event) → Tears (Cut asked asked) torn → Leaves (step torn s) left → Leaves (step (Cut asked asked) s) left
torn_cut_off asked s left torn tears was =
    let t = tears.0 in
    let here = subst (λ (e : Event). Leaves (step e s) left) tears.2 was in
    record { log = torn_cut s.log asked t left.log tears.1 here.log; blobs = here.blobs; snapshots = here.snapshots }

torn_blob : (place : ℤ) (asked now : List ℕ) (s : State) (left : Content) (torn : Event) → Tears (BlobMade place asked now true) torn → Leaves (step torn s) left → Leaves (step (BlobMade place asked now true) s) left
torn_blob place asked now s left torn tears was =
    let t = tears.0 in
    let here = subst (λ (e : Event). Leaves (step e s) left) tears.2 was in
    record {
      log = here.log;
      blobs = λ n. torn_renamed s.blobs place tears.1 (record { file = Some t; is_unsynced = true }) (record { file = Some now; is_unsynced = true }) (asked ∷ []) n (left.blobs n) (λ is. is) (here.blobs n);
      snapshots = here.snapshots;
    }

torn_blob_removed : (place : ℤ) (s : State) (left : Content) (torn : Event) → Tears (BlobRemoved place true) torn → Leaves (step torn s) left → Leaves (step (BlobRemoved place true) s) left
torn_blob_removed place s left torn tears was =
    let here = subst (λ (e : Event). Leaves (step e s) left) tears.1 was in
    record { log = here.log; blobs = λ n. torn_unnamed s.blobs place tears.0 n (left.blobs n) (here.blobs n); snapshots = here.snapshots }

torn_filled : (asked : List ℕ) (s : State) (left : Content) (torn : Event) → Tears (SnapshotFilled asked asked) torn → Leaves (step torn s) left → Leaves (step (SnapshotFilled asked asked) s) left
torn_filled asked s left torn tears was =
    let here = subst (λ (e : Event). Leaves (step e s) left) tears.1 was in
    record { log = here.log; blobs = here.blobs; snapshots = here.snapshots }

torn_published : (number : ℤ) (s : State) (left : Content) (torn : Event) → Tears (SnapshotPublished number true) torn → Leaves (step torn s) left → Leaves (step (SnapshotPublished number true) s) left
torn_published number s left torn tears was =
    let here = subst (λ (e : Event). Leaves (step e s) left) tears.1 was in
    let top : NameState = record { file = Some s.temporary.bytes; is_unsynced = false } in
    record { log = here.log; blobs = here.blobs; snapshots = λ n. torn_renamed s.snapshots number tears.0 top top (s.temporary.asked ∷ []) n (left.snapshots n) (λ is. is) (here.snapshots n) }

torn_snapshot_removed : (number : ℤ) (s : State) (left : Content) (torn : Event) → Tears (SnapshotRemoved number true) torn → Leaves (step torn s) left → Leaves (step (SnapshotRemoved number true) s) left
torn_snapshot_removed number s left torn tears was =
    let here = subst (λ (e : Event). Leaves (step e s) left) tears.1 was in
    record { log = here.log; blobs = here.blobs; snapshots = λ n. torn_unnamed s.snapshots number tears.0 n (left.snapshots n) (here.snapshots n) }

pub torn_leaves : (e torn : Event) (s : State) (left : Content) → Asked e → Tears e torn → Leaves (step torn s) left → Leaves (step e s) left
torn_leaves e torn s left (write at bytes) tears was = torn_wrote at bytes s left torn tears was
torn_leaves e torn s left (cut len) tears was = torn_cut_off len s left torn tears was
torn_leaves e torn s left (make_blob place bytes) tears was = torn_blob place bytes bytes s left torn tears was
torn_leaves e torn s left (remove_blob place) tears was = torn_blob_removed place s left torn tears was
torn_leaves e torn s left (fill bytes) tears was = torn_filled bytes s left torn tears was
torn_leaves e torn s left (publish number) tears was = torn_published number s left torn tears was
torn_leaves e torn s left (remove_snapshot number) tears was = torn_snapshot_removed number s left torn tears was
