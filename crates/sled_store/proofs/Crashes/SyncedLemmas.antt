-- Where all is synced a crash leaves exactly what is read.
use Rattle.std.proofs.Common.{◌≡◌, ◌&&◌, ℤ, ℕ, Bool, true, false, if◌then◌else◌, is_some, List, [], ◌∷◌, Some, None, refl}
use Rattle.std.specs.Ordering.{int_eq}
use Rattle.sled_store.specs.Device.{Trace, Event, Content, NameState, NamesState, Temporary, state_of, content_of, Leaves, renamed, snapshot_step, Wrote, Cut, Synced, BlobMade, BlobSynced, BlobRemoved, SnapshotFilled, SnapshotPublished, SnapshotRemoved, NamesSynced, StopAsked, Crashed}
use Rattle.sled_store.specs.Durable.{SameContent}
use Rattle.sled_store.proofs.LogFile.LogLemmas.{at_rest_left}
use Rattle.sled_store.proofs.Names.NamesLemmas.{settled_name_left, settled_name_synced}

-- a change to a file whose bytes are synced leaves the bytes of all files synced
pub firm_renamed : (s : NamesState) (name : ℤ) (done : Bool) (top : NameState) (asked : List (List ℕ)) (n : ℤ) → top.is_unsynced ≡ false → s.is_unsynced n ≡ false → (renamed s name done top asked).is_unsynced n ≡ false
firm_renamed s name done top asked n firm was = elim (done && int_eq name n) as (λ b. (if b then top.is_unsynced else s.is_unsynced n) ≡ false) [ true ↦ firm | false ↦ was ]

firm_unnamed : (s : NamesState) (name : ℤ) (done there : Bool) (n : ℤ) → s.is_unsynced n ≡ false → (if there then renamed s name done (record { file = None; is_unsynced = false }) [] else s).is_unsynced n ≡ false
firm_unnamed s name done true n was = firm_renamed s name done (record { file = None; is_unsynced = false }) [] n refl was
firm_unnamed s name done false n was = was

firm_step : (e : Event) (t : Temporary) (s : NamesState) (n : ℤ) → s.is_unsynced n ≡ false → (snapshot_step e t s).is_unsynced n ≡ false
firm_step (Wrote at asked now) t s n was = was
firm_step (Cut asked now) t s n was = was
firm_step Synced t s n was = was
firm_step (BlobMade place asked now done) t s n was = was
firm_step (BlobSynced place) t s n was = was
firm_step (BlobRemoved place done) t s n was = was
firm_step (SnapshotFilled asked now) t s n was = was
firm_step (SnapshotPublished number done) t s n was = firm_renamed s number done (record { file = Some t.bytes; is_unsynced = false }) (t.asked ∷ []) n refl was
firm_step (SnapshotRemoved number done) t s n was = firm_unnamed s number done (is_some (s.file number)) n was
firm_step NamesSynced t s n was = was
firm_step (StopAsked k) t s n was = was
firm_step (Crashed left) t s n was = refl

-- The bytes of a snapshot are never lost: they are synced before it has a name.
pub snapshots_firm : (trace : Trace) (n : ℤ) → (state_of trace).snapshots.is_unsynced n ≡ false
snapshots_firm [] n = refl
snapshots_firm (e ∷ trace) n = firm_step e (state_of trace).temporary (state_of trace).snapshots n (snapshots_firm trace n)

pub synced_left : (trace : Trace) (left : Content) → ((n : ℤ) → (state_of trace).blobs.is_unsynced n ≡ false) → Leaves (state_of (NamesSynced ∷ Synced ∷ trace)) left → SameContent left (content_of (state_of trace))
synced_left trace left firm leaves =
    let s = state_of trace in
    record {
      log = at_rest_left s.log.bytes left.log leaves.log;
      blobs = λ n. settled_name_left (state_of (NamesSynced ∷ Synced ∷ trace)).blobs n (left.blobs n) (settled_name_synced s.blobs n (firm n)) (leaves.blobs n);
      snapshots = λ n. settled_name_left (state_of (NamesSynced ∷ Synced ∷ trace)).snapshots n (left.snapshots n) (settled_name_synced s.snapshots n (snapshots_firm trace n)) (leaves.snapshots n);
    }
