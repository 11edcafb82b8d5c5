use Rattle.std.proofs.Common.{◌≡◌, ℤ, List, [], refl, inl, inr, subst, Result, OnOk, Ok, Err}
use Rattle.std.specs.Int.{w64, cast_signed, cast_unsigned}
use Rattle.std.proofs.lemmas.Int.{to_z-of_z}
use Rattle.sled_store.specs.Blobs.{removing_blobs}
use Rattle.sled_store.specs.inside.Blobs.{from_place}
use Rattle.sled_store.specs.Device.{Trace, state_of}
use Rattle.sled_store.specs.Script.{Performs, after_all}
use Rattle.sled_store.proofs.Names.BlobLemmas.{are_from}
use Rattle.sled_store.proofs.Traces.ScriptLemmas.{performs_nothing}
use Rattle.sled_store.proofs.blob_io.gc_blobs.Goals as goal

-- what is so of a place, a list and a trace is so of those that they are
of_same : (P : ℤ → List ℤ → Trace → Type 0) (k k_as : ℤ) (ps ps_as : List ℤ) (h h_as : Trace) → k ≡ k_as → ps ≡ ps_as → h ≡ h_as → P k ps h → P k_as ps_as h_as
of_same P k k_as ps ps_as h h_as same same_places same_trace is =
    subst (λ (t : Trace). P k_as ps_as t) same_trace (subst (λ (l : List ℤ). P k_as l h) same_places (subst (λ (m : ℤ). P m ps h) same is))

on_ok : {T E : Type 0} (r : Result T E) (P Q : Type 0) → (P → Q) → OnOk r P → OnOk r Q
on_ok (Ok v) P Q so is = so is
on_ok (Err e) P Q so is = is

pub returns-in_err-places-clause-calls : goal.returns-in_err-places-clause-calls
returns-in_err-places-clause-calls g c = ([], inl refl, performs_nothing [] _ _ c.blobs.ensures.trace)

pub returns-clause-done : goal.returns-clause-done
returns-clause-done g c =
    let old : Trace = g.D.Device.trace c.args.config.now.device in
    let new : Trace = g.D.Device.trace c.remove_listed.new.device in
    let ps : List ℤ = c.in_ok-places.places.items in
    let are = are_from (state_of old).blobs.file c.args.least ps c.in_ok-places.ensures.places c.in_ok-places.ensures.ascending in
    on_ok c.remove_listed.result (new ≡ after_all (removing_blobs (from_place c.args.least ps)) old) _ (λ is. (from_place c.args.least ps, are, is))
    (of_same (λ k l h. OnOk c.remove_listed.result (new ≡ after_all (removing_blobs (from_place k l)) h)) (cast_signed w64 (cast_unsigned w64 c.args.least)) c.args.least c.deref.result.now ps (g.D.Device.trace c.blobs.new.self) old
    (to_z-of_z w64 c.args.least c.ranges.least) c.deref.ensures.value c.in_ok-places.ensures.trace c.remove_listed.ensures.done)

pub returns-clause-calls : goal.returns-clause-calls
returns-clause-calls g c =
    let old : Trace = g.D.Device.trace c.args.config.now.device in
    let new : Trace = g.D.Device.trace c.remove_listed.new.device in
    let ps : List ℤ = c.in_ok-places.places.items in
    let are = are_from (state_of old).blobs.file c.args.least ps c.in_ok-places.ensures.places c.in_ok-places.ensures.ascending in (
      from_place c.args.least ps,
      inr are,
      of_same (λ k l h. Performs (removing_blobs (from_place k l)) h new) (cast_signed w64 (cast_unsigned w64 c.args.least)) c.args.least c.deref.result.now ps (g.D.Device.trace c.blobs.new.self) old
          (to_z-of_z w64 c.args.least c.ranges.least) c.deref.ensures.value c.in_ok-places.ensures.trace c.remove_listed.ensures.calls,
    )
