use Rattle.std.proofs.Common.{◌≡◌, ℤ, List, [], ◌∷◌, true, false, FitsSigned, rules, sym, subst}
use Rattle.std.specs.Int.{w64, cast_signed, cast_unsigned}
use Rattle.std.proofs.lemmas.Int.{to_z-of_z}
use Rattle.sled_store.specs.Blobs.{removing_blobs}
use Rattle.sled_store.specs.Device.{BlobRemoved}
use Rattle.sled_store.specs.Script.{Performs, after_all}
use Rattle.sled_store.proofs.Names.BlobLemmas.{one_from, none_from, same_test}
use Rattle.sled_store.proofs.Traces.ScriptLemmas.{performs_all, stop_call, performs_none}
use Rattle.sled_store.proofs.blob_io.remove_from.Goals as goal

pub returns-then-place-least-clause-calls : goal.returns-then-place-least-clause-calls
returns-then-place-least-clause-calls g c =
    let fits : FitsSigned w64 c.args.place.now = search rules in
    let old = g.D.Device.trace c.args.device.now in
    subst (λ (ps : List ℤ). Performs (removing_blobs ps) old old) (sym (none_from c.args.least c.args.place.now (same_test c.args.place.now c.args.least true fits c.ranges.least c.if-place-least.true))) (performs_none old)

pub returns-in_err-blob_remove-clause-calls : goal.returns-in_err-blob_remove-clause-calls
returns-in_err-blob_remove-clause-calls g c =
    let fits : FitsSigned w64 c.args.place.now = search rules in
    let same : cast_signed w64 (cast_unsigned w64 c.args.place.now) ≡ c.args.place.now = to_z-of_z w64 c.args.place.now fits in
    let old = g.D.Device.trace c.args.device.now in
    let new = g.D.Device.trace c.blob_remove.new.self in
    subst (λ (ps : List ℤ). Performs (removing_blobs ps) old new) (sym (one_from c.args.least c.args.place.now (same_test c.args.place.now c.args.least false fits c.ranges.least c.if-place-least.false)))
    (subst (λ (n : ℤ). Performs (BlobRemoved n true ∷ []) old new) same (stop_call (BlobRemoved (cast_signed w64 (cast_unsigned w64 c.args.place.now)) true) [] old new c.in_err-blob_remove.ensures.trace))

pub returns-clause-done : goal.returns-clause-done
returns-clause-done g c =
    let fits : FitsSigned w64 c.args.place.now = search rules in
    let same : cast_signed w64 (cast_unsigned w64 c.args.place.now) ≡ c.args.place.now = to_z-of_z w64 c.args.place.now fits in
    let old = g.D.Device.trace c.args.device.now in
    let new = g.D.Device.trace c.blob_remove.new.self in
    subst (λ (ps : List ℤ). new ≡ after_all (removing_blobs ps) old) (sym (one_from c.args.least c.args.place.now (same_test c.args.place.now c.args.least false fits c.ranges.least c.if-place-least.false)))
    (subst (λ (n : ℤ). new ≡ BlobRemoved n true ∷ old) same c.in_ok-blob_remove.ensures.trace)

pub returns-clause-calls : goal.returns-clause-calls
returns-clause-calls g c =
    let fits : FitsSigned w64 c.args.place.now = search rules in
    let same : cast_signed w64 (cast_unsigned w64 c.args.place.now) ≡ c.args.place.now = to_z-of_z w64 c.args.place.now fits in
    let old = g.D.Device.trace c.args.device.now in
    let new = g.D.Device.trace c.blob_remove.new.self in
    subst (λ (ps : List ℤ). Performs (removing_blobs ps) old new) (sym (one_from c.args.least c.args.place.now (same_test c.args.place.now c.args.least false fits c.ranges.least c.if-place-least.false)))
    (subst (λ (n : ℤ). Performs (BlobRemoved n true ∷ []) old new) same
    (performs_all (BlobRemoved (cast_signed w64 (cast_unsigned w64 c.args.place.now)) true) [] old new new c.in_ok-blob_remove.ensures.trace (performs_none new)))
