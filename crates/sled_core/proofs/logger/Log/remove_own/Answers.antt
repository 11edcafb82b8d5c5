-- A blob is removed, if there is one.
use Rattle.std.proofs.Common.{◌≡◌, ◌∙◌, rules, sym, subst, refl, ℕ, ℤ, List, ◌∷◌, [], Option, None, Some, true, Result, Ok, Err}
use Rattle.std.specs.Int.{w64, cast_signed, cast_unsigned}
use Rattle.sled_codec.specs.declared.result.Error.{Error}
use Rattle.sled_store.specs.Blobs.{removing_blobs}
use Rattle.sled_store.specs.Device.{BlobRemoved, Trace}
use Rattle.sled_store.specs.Script.{Performs}
use Rattle.sled_core.specs.OwnBlobs.{RemovesBlob}
use Rattle.sled_core.specs.declared.logger.Log.{Log}
use Rattle.sled_core.proofs.Line.WithoutBlob.{without_still}
use Rattle.sled_core.proofs.Line.BlobRemoved.{removed_blob_keeps, removed_whole}
use Rattle.sled_core.proofs.Line.Faulty.{none_or_kept}
use Rattle.sled_core.proofs.logger.Log.remove_own.Goals as goal

-- Nothing is asked where there is none.
nothing_asked : {D C : Type 0} (trace : D → Trace) (own : Option ℤ) (log : Log D C) → own ≡ None → (result : Result (Unit {0}) Error) → RemovesBlob trace result own log log
unfolding Performs
nothing_asked trace None log is (Ok u) = record { calls = refl; done = refl; none = λ _. refl }
nothing_asked trace None log is (Err e) = record { calls = refl; done = tt; none = λ _. refl }
nothing_asked trace (Some p) log is result = cc

pub returns-in_default-clause-device : goal.returns-in_default-clause-device
returns-in_default-clause-device g c = nothing_asked g.D.Device.trace c.args.own c.args.self.now c.in_default.is _

pub returns-in_default-clause-keeps : goal.returns-in_default-clause-keeps
returns-in_default-clause-keeps g c = without_still g.D.Device.trace g.C.Checksum.sum_of c.args.own c.args.self.now

pub returns-clause-keeps : goal.returns-clause-keeps
returns-clause-keeps g c =
    let trace = g.D.Device.trace in
    let sum : List ℕ → ℕ = g.C.Checksum.sum_of in
    let old = c.args.self.now in
    let did = c.remove_blob-answer.ensures in
    let before : Trace = trace old.config.device in
    let after : Trace = trace c.remove_blob-answer.new.config.device in
    let q : ℤ = cast_signed w64 (cast_unsigned w64 c.in-Some.place) in
    let is : c.in-Some.place ≡ q = search rules in
    removed_blob_keeps trace sum old _ (record { config = did.config; checksum = did.checksum; segments = refl; reserved = refl; pins = refl; marks = refl; accountant = refl; batches = refl; pool = refl }) c.in-Some.place
    (subst (λ (p : ℤ). Performs (removing_blobs (p ∷ [])) before after) (sym is) did.calls) c.requires (none_or_kept _ c.note.new.self.kept c.requires)
    (λ none. subst (λ (p : ℤ). after ≡ BlobRemoved p true ∷ before) (sym is) (removed_whole c.remove_blob-answer.result _ _ _ did.answers did.memory did.done (sym c.note.ensures ∙ none)))
    c.args.own c.in-Some.is
