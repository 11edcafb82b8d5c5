use Rattle.std.proofs.Common.{◌≡◌, ◌∙◌, ℕ, List, rules, ap, sym, subst, Option, Some, ℤ}
use Rattle.std.specs.Int.{w64}
use Rattle.std.proofs.lemmas.Int.{to_z-of_z}
use Rattle.sled_codec.specs.Errors.{IsCorrupt}
use Rattle.sled_codec.specs.Snapshots.{model_of, is_sound}
use Rattle.sled_store.specs.Device.{state_of}
use Rattle.sled_store.specs.SnapshotFiles.{IsSnapshotFile}
use Rattle.sled_store.proofs.Names.Trailers.{one_snapshot}
use Rattle.sled_log.proofs.snapshot.file.read_sound.Goals as goal

pub returns-in_err-snapshot-clause-corrupt : goal.returns-in_err-snapshot-clause-corrupt
returns-in_err-snapshot-clause-corrupt g c = λ corrupt.
    let damaged : IsCorrupt c.in_err-snapshot.field-0.0 = search rules in
    let file : ℤ → Option (List ℕ) = (state_of (g.D.Device.trace c.args.config.now.device)).snapshots.file in
    let found : file c.args.number ≡ Some c.in_ok-bytes.bytes.items = ap file (sym (to_z-of_z w64 c.args.number c.ranges.number)) ∙ c.in_ok-bytes.ensures.found in (
      c.in_ok-bytes.bytes.items,
      found,
      λ s h. absurd (c.in_err-snapshot.ensures.corrupt damaged s (subst (λ (bytes : List ℕ). IsSnapshotFile g.C.Checksum.sum_of bytes s) (sym c.deref.ensures.value) h)),
    )

pub returns-then-not-is_sound-clause-corrupt : goal.returns-then-not-is_sound-clause-corrupt
returns-then-not-is_sound-clause-corrupt g c = λ _.
    let file : ℤ → Option (List ℕ) = (state_of (g.D.Device.trace c.args.config.now.device)).snapshots.file in
    let found : file c.args.number ≡ Some c.in_ok-bytes.bytes.items = ap file (sym (to_z-of_z w64 c.args.number c.ranges.number)) ∙ c.in_ok-bytes.ensures.found in
    let own : IsSnapshotFile g.C.Checksum.sum_of c.in_ok-bytes.bytes.items (model_of c.in_ok-snapshot.snapshot) = subst (λ (bytes : List ℕ). IsSnapshotFile g.C.Checksum.sum_of bytes (model_of c.in_ok-snapshot.snapshot)) c.deref.ensures.value c.in_ok-snapshot.ensures.ok in (
      c.in_ok-bytes.bytes.items,
      found,
      λ s h. ap is_sound (one_snapshot g.C.Checksum.sum_of c.in_ok-bytes.bytes.items s (model_of c.in_ok-snapshot.snapshot) h own) ∙ sym c.is_sound.ensures ∙ c.if-not-is_sound.true,
    )
