use Rattle.std.proofs.Common.{◌≡◌, ◌∙◌, ℤ, List, subst, pos, take}
use Rattle.std.proofs.lemmas.List.{take_all}
use Rattle.std.specs.Int.{w64, cast_signed, cast_unsigned}
use Rattle.std.proofs.lemmas.Int.{to_z-of_z}
use Rattle.sled_store.specs.Blobs.{removing_blobs}
use Rattle.sled_store.specs.inside.Blobs.{from_place}
use Rattle.sled_store.specs.Device.{Trace}
use Rattle.sled_store.specs.Script.{Performs, after_all}
use Rattle.sled_store.proofs.Names.BlobLemmas.{removed_more, removals_begun}
use Rattle.sled_store.proofs.Traces.ScriptLemmas.{performs_whole}
use Rattle.sled_store.proofs.blob_io.remove_listed.Goals as goal

pub returns-in_err-remove_from-clause-calls : goal.returns-in_err-remove_from-clause-calls
returns-in_err-remove_from-clause-calls g c =
    let least : ℤ = cast_signed w64 (cast_unsigned w64 c.args.least) in
    let old : Trace = g.D.Device.trace c.args.device.now in
    let new : Trace = g.D.Device.trace c.remove_from.new.device in
    subst (λ (k : ℤ). Performs (removing_blobs (from_place k c.args.places.now)) old new) (to_z-of_z w64 c.args.least c.ranges.least)
    (removals_begun least c.args.places.now c.loop-place.place-index (pos 0) c.loop-place-test.true old (g.D.Device.trace c.loop-place.device) new c.loop-place.invariant.removed c.remove_from.ensures.calls)

pub loop-place-preserved : goal.loop-place-preserved
loop-place-preserved g c =
    let least : ℤ = cast_signed w64 (cast_unsigned w64 c.args.least) in
    record {
      removed = removed_more least c.args.places.now c.loop-place.place-index (pos 0) c.loop-place-test.true (g.D.Device.trace c.args.device.now) (g.D.Device.trace c.loop-place.device) (g.D.Device.trace c.remove_from.new.device) c.loop-place.invariant.removed c.in_ok-remove_from.ensures.done;
      faults = c.in_ok-remove_from.ensures.answers ∙ c.loop-place.invariant.faults;
    }

pub returns-clause-calls : goal.returns-clause-calls
returns-clause-calls g c =
    let ps : List ℤ = c.args.places.now in
    let old : Trace = g.D.Device.trace c.args.device.now in
    let new : Trace = g.D.Device.trace c.loop-place.device in
    let whole : take c.loop-place.place-index ps ≡ ps = take_all c.loop-place.place-index ps c.loop-place-test.false in
    subst (λ (k : ℤ). Performs (removing_blobs (from_place k ps)) old new) (to_z-of_z w64 c.args.least c.ranges.least)
    (performs_whole (removing_blobs (from_place (cast_signed w64 (cast_unsigned w64 c.args.least)) ps)) old new
    (subst (λ (l : List ℤ). new ≡ after_all (removing_blobs (from_place (cast_signed w64 (cast_unsigned w64 c.args.least)) l)) old) whole c.loop-place.invariant.removed))
