-- A blob is made, or refused, and the log keeps a failure of the device.
use Rattle.std.proofs.Common.{◌≡◌, ◌∙◌, refl, subst, ℕ, ℤ, pos, List}
use Rattle.std.specs.Int.{w64, cast_signed, cast_unsigned}
use Rattle.std.proofs.lemmas.Int.{to_z-of_z}
use Rattle.sled_core.specs.Fits.{next_place}
use Rattle.sled_codec.specs.Kinds.{code_of}
use Rattle.sled_store.specs.Blobs.{blob_bytes, making}
use Rattle.sled_store.specs.Device.{Trace, state_of}
use Rattle.sled_store.specs.Script.{Performs}
use Rattle.sled_core.proofs.Line.BlobMade.{IsMadeOrSame, made_blob_keeps}
use Rattle.sled_core.proofs.Line.Faulty.{none_or_kept}
use Rattle.sled_core.proofs.Line.MadeAnswers.{made_answers, made_or_same}
use Rattle.sled_core.proofs.logger.Log.make_blob.Goals as goal

pub returns-clause-keeps : goal.returns-clause-keeps
returns-clause-keeps g c =
    let trace = g.D.Device.trace in
    let old = c.args.self.now in
    let did = c.write_blob-answer.ensures in
    let bytes : List ℕ = blob_bytes g.C.Checksum.sum_of (code_of c.args.kind) (g.T.Serialize.short (g.T.Serialize.meaning c.args.item.now)) in
    let before : Trace = trace old.config.device in
    let after : Trace = trace c.write_blob-answer.new.config.device in
    let q : ℤ = cast_signed w64 (cast_unsigned w64 c.args.place) in
    let is : q ≡ pos (next_place old) = to_z-of_z w64 c.args.place c.ranges.place ∙ c.requires.place in
    let kept = made_answers c.write_blob-answer.result ((state_of before).blobs.file q) c.note.new.self.kept (g.D.Device.faults old.config.device) (g.D.Device.faults c.write_blob-answer.new.config.device) c.note.ensures did.answers in
    made_blob_keeps trace g.C.Checksum.sum_of old _ (record { config = did.config; checksum = did.checksum; segments = refl; reserved = refl; pins = refl; marks = refl; accountant = refl; batches = refl; pool = refl }) bytes
    (subst (λ (p : ℤ). Performs (making p bytes) before after) is did.calls) c.requires.fault (none_or_kept _ c.note.new.self.kept c.requires.fault)
    (subst (λ (p : ℤ). IsMadeOrSame c.note.new.self.kept before after p bytes) is
    (made_or_same c.write_blob-answer.result q bytes ((state_of before).blobs.file q) c.note.new.self.kept (g.D.Device.faults old.config.device) (g.D.Device.faults c.write_blob-answer.new.config.device) before after kept did.refused did.done))
