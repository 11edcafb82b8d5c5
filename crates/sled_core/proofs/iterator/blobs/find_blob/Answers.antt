use Rattle.std.proofs.Common.{◌≡◌, rules, sym, subst, w64, ℤ, Err}
use Rattle.std.specs.Int.{cast_signed, cast_unsigned}
use Rattle.sled_core.specs.declared.iterator.scan.RecordContent.{RecordContent}
use Rattle.sled_store.specs.Blobs.{IsDamagedFor, NamesBlobAt, OnDamage}
use Rattle.sled_store.specs.Device.{state_of}
use Rattle.sled_core.specs.Replayed.{HasBadBlob, NamesBlobOf}
use Rattle.sled_core.proofs.iterator.blobs.find_blob.Goals as goal

pub returns-in-Err-clause-bad : goal.returns-in-Err-clause-bad
returns-in-Err-clause-bad g c = λ corrupt.
    let same : cast_signed w64 (cast_unsigned w64 c.in-NamesBlob.place) ≡ c.in-NamesBlob.place = search rules in
    let bad = subst (λ (p : ℤ). IsDamagedFor g.C.Checksum.sum_of c.in-NamesBlob.kind ((state_of (g.D.Device.trace c.args.config.now.device)).blobs.file p)) same (c.in-Err.ensures.damaged corrupt) in
    subst (λ (w : RecordContent). HasBadBlob g.C.Checksum.sum_of (state_of (g.D.Device.trace c.args.config.now.device)).blobs.file w) (sym c.in-NamesBlob.is) bad

pub returns-in-Err-clause-named : goal.returns-in-Err-clause-named
returns-in-Err-clause-named g c =
    let same : cast_signed w64 (cast_unsigned w64 c.in-NamesBlob.place) ≡ c.in-NamesBlob.place = search rules in
    let blobs = (state_of (g.D.Device.trace c.args.config.now.device)).blobs.file in
    let named = subst (λ (p : ℤ). OnDamage {T = Unit {0}} (Err c.in-Err.e) (NamesBlobAt g.C.Checksum.sum_of blobs p)) same c.in-Err.ensures.named in
    subst (λ (w : RecordContent). OnDamage {T = Unit {0}} (Err c.in-Err.e) (NamesBlobOf g.C.Checksum.sum_of blobs w)) (sym c.in-NamesBlob.is) named
