use Rattle.std.proofs.Common.{ℤ, List, ℕ, [], ◌∷◌, true, subst}
use Rattle.std.specs.Int.{w64, cast_signed, cast_unsigned}
use Rattle.std.proofs.lemmas.Int.{to_z-of_z}
use Rattle.sled_store.specs.Blobs.{making}
use Rattle.sled_store.specs.Device.{BlobMade, BlobSynced, NamesSynced}
use Rattle.sled_store.specs.Script.{Performs}
use Rattle.sled_store.proofs.Traces.ScriptLemmas.{performs_all, stop_call, performs_none}
use Rattle.sled_store.proofs.blob_io.make_blob.Goals as goal

pub returns-in_err-blob_create-clause-calls : goal.returns-in_err-blob_create-clause-calls
returns-in_err-blob_create-clause-calls g c =
    let bytes : List ℕ = c.args.bytes.now in
    let place : ℤ = cast_signed w64 (cast_unsigned w64 c.args.place) in
    subst (λ (p : ℤ). Performs (making p bytes) (g.D.Device.trace c.args.device.now) (g.D.Device.trace c.blob_create.new.self)) (to_z-of_z w64 c.args.place c.ranges.place)
    (stop_call (BlobMade place bytes bytes true) (BlobSynced place ∷ NamesSynced ∷ []) _ _ c.in_err-blob_create.ensures.trace)

pub returns-in_err-blob_sync-clause-calls : goal.returns-in_err-blob_sync-clause-calls
returns-in_err-blob_sync-clause-calls g c =
    let bytes : List ℕ = c.args.bytes.now in
    let place : ℤ = cast_signed w64 (cast_unsigned w64 c.args.place) in
    subst (λ (p : ℤ). Performs (making p bytes) (g.D.Device.trace c.args.device.now) (g.D.Device.trace c.blob_sync.new.self)) (to_z-of_z w64 c.args.place c.ranges.place)
    (performs_all (BlobMade place bytes bytes true) (BlobSynced place ∷ NamesSynced ∷ []) _ _ _ c.in_ok-blob_create.ensures.trace
    (stop_call (BlobSynced place) (NamesSynced ∷ []) _ _ c.in_err-blob_sync.ensures.trace))

pub returns-in_err-sync_names-clause-calls : goal.returns-in_err-sync_names-clause-calls
returns-in_err-sync_names-clause-calls g c =
    let bytes : List ℕ = c.args.bytes.now in
    let place : ℤ = cast_signed w64 (cast_unsigned w64 c.args.place) in
    subst (λ (p : ℤ). Performs (making p bytes) (g.D.Device.trace c.args.device.now) (g.D.Device.trace c.sync_names.new.self)) (to_z-of_z w64 c.args.place c.ranges.place)
    (performs_all (BlobMade place bytes bytes true) (BlobSynced place ∷ NamesSynced ∷ []) _ _ _ c.in_ok-blob_create.ensures.trace
    (performs_all (BlobSynced place) (NamesSynced ∷ []) _ _ _ c.in_ok-blob_sync.ensures.trace (stop_call NamesSynced [] _ _ c.in_err-sync_names.ensures.trace)))

pub returns-clause-calls : goal.returns-clause-calls
returns-clause-calls g c =
    let bytes : List ℕ = c.args.bytes.now in
    let place : ℤ = cast_signed w64 (cast_unsigned w64 c.args.place) in
    subst (λ (p : ℤ). Performs (making p bytes) (g.D.Device.trace c.args.device.now) (g.D.Device.trace c.sync_names.new.self)) (to_z-of_z w64 c.args.place c.ranges.place)
    (performs_all (BlobMade place bytes bytes true) (BlobSynced place ∷ NamesSynced ∷ []) _ _ _ c.in_ok-blob_create.ensures.trace
    (performs_all (BlobSynced place) (NamesSynced ∷ []) _ _ _ c.in_ok-blob_sync.ensures.trace (performs_all NamesSynced [] _ _ _ c.in_ok-sync_names.ensures.trace (performs_none _))))
