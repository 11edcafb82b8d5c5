-- The list of removals goes on, or was begun where one failed.
use Rattle.std.proofs.Common.{◌≡◌, ◌∙◌, ℤ, List, subst, pos, take, get_or, to_z, of_z, w64, FitsSigned, rules}
use Rattle.std.proofs.lemmas.Int.{to_z-of_z}
use Rattle.std.proofs.lemmas.List.{take_all}
use Rattle.sled_store.specs.Blobs.{removing_blobs}
use Rattle.sled_store.specs.Device.{Trace}
use Rattle.sled_store.specs.Script.{after_all}
use Rattle.sled_store.proofs.Accounts.StabilSteps.{IsBegun, removed_more, removals_begun}
use Rattle.sled_store.proofs.Traces.ScriptLemmas.{performs_whole}
use Rattle.sled_store.proofs.segment.accountant.freeing.remove_blobs.Given.{Over}
use Rattle.sled_store.proofs.segment.accountant.freeing.remove_blobs.Goals as goal

-- Where one removal failed, the list was begun.
begun : (g : Over) (c : goal.After-from_residual g) → IsBegun (removing_blobs c.args.places.now) (g.D.Device.trace c.args.device.now) (g.D.Device.trace c.blob_remove.new.self)
begun g c =
    let p : ℤ = get_or c.args.places.now c.loop-place.place-index (pos 0) in
    let fits : FitsSigned w64 p = search rules in
    removals_begun c.args.places.now c.loop-place.place-index (pos 0) (to_z w64 (of_z w64 p)) c.loop-place-test.true (to_z-of_z w64 p fits) (g.D.Device.trace c.args.device.now) (g.D.Device.trace c.loop-place.device) (g.D.Device.trace c.blob_remove.new.self)
    c.loop-place.invariant.removed c.in_err-blob_remove.ensures.trace

pub returns-in_err-blob_remove-clause-calls : goal.returns-in_err-blob_remove-clause-calls
returns-in_err-blob_remove-clause-calls g c = (begun g c).calls

pub returns-in_err-blob_remove-clause-due : goal.returns-in_err-blob_remove-clause-due
returns-in_err-blob_remove-clause-due g c =
    let due = (begun g c).due in
    search rules

pub loop-place-preserved : goal.loop-place-preserved
loop-place-preserved g c =
    let p : ℤ = get_or c.args.places.now c.loop-place.place-index (pos 0) in
    let fits : FitsSigned w64 p = search rules in record {
      removed = removed_more c.args.places.now c.loop-place.place-index (pos 0) (to_z w64 (of_z w64 p)) c.loop-place-test.true (to_z-of_z w64 p fits) (g.D.Device.trace c.args.device.now) (g.D.Device.trace c.loop-place.device) (g.D.Device.trace c.blob_remove.new.self)
          c.loop-place.invariant.removed c.in_ok-blob_remove.ensures.trace;
      faults = c.in_ok-blob_remove.ensures.faults ∙ c.loop-place.invariant.faults;
    }

pub returns-clause-calls : goal.returns-clause-calls
returns-clause-calls g c =
    let ps : List ℤ = c.args.places.now in
    let old : Trace = g.D.Device.trace c.args.device.now in
    let new : Trace = g.D.Device.trace c.loop-place.device in
    let whole : take c.loop-place.place-index ps ≡ ps = take_all c.loop-place.place-index ps c.loop-place-test.false in
    performs_whole (removing_blobs ps) old new (subst (λ (l : List ℤ). new ≡ after_all (removing_blobs l) old) whole c.loop-place.invariant.removed)
