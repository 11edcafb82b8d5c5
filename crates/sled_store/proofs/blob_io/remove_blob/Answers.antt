use Rattle.std.proofs.Common.{ℤ, [], ◌∷◌, true, subst}
use Rattle.std.specs.Int.{w64, cast_signed, cast_unsigned}
use Rattle.std.proofs.lemmas.Int.{to_z-of_z}
use Rattle.sled_store.specs.Blobs.{removing_blobs}
use Rattle.sled_store.specs.Device.{BlobRemoved}
use Rattle.sled_store.specs.Script.{Performs}
use Rattle.sled_store.proofs.Traces.ScriptLemmas.{performs_all, stop_call, performs_none}
use Rattle.sled_store.proofs.blob_io.remove_blob.Goals as goal

pub returns-in_err-blob_remove-clause-calls : goal.returns-in_err-blob_remove-clause-calls
returns-in_err-blob_remove-clause-calls g c =
    let place : ℤ = cast_signed w64 (cast_unsigned w64 c.args.place) in
    subst (λ (p : ℤ). Performs (removing_blobs (p ∷ [])) (g.D.Device.trace c.args.config.now.device) (g.D.Device.trace c.blob_remove.new.self)) (to_z-of_z w64 c.args.place c.ranges.place)
    (stop_call (BlobRemoved place true) [] _ _ c.in_err-blob_remove.ensures.trace)

pub returns-clause-calls : goal.returns-clause-calls
returns-clause-calls g c =
    let place : ℤ = cast_signed w64 (cast_unsigned w64 c.args.place) in
    subst (λ (p : ℤ). Performs (removing_blobs (p ∷ [])) (g.D.Device.trace c.args.config.now.device) (g.D.Device.trace c.blob_remove.new.self)) (to_z-of_z w64 c.args.place c.ranges.place)
    (performs_all (BlobRemoved place true) [] _ _ _ c.in_ok-blob_remove.ensures.trace (performs_none _))
