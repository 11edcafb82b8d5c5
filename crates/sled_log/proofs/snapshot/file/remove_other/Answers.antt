use Rattle.std.proofs.Common.{rules, ◌≡◌, ◌≢◌, ◌∙◌, ℤ, List, [], ◌∷◌, true, FitsSigned, refl, sym, ap, subst}
use Rattle.std.specs.Int.{w64, cast_signed, cast_unsigned}
use Rattle.std.proofs.lemmas.Int.{to_z-of_z}
use Rattle.sled_store.specs.Device.{SnapshotRemoved}
use Rattle.sled_store.specs.Script.{Performs, after_all}
use Rattle.sled_store.proofs.Traces.ScriptLemmas.{performs_all, stop_call, performs_none}
use Rattle.sled_log.specs.WritesBack.{removing_snapshots}
use Rattle.sled_log.proofs.SnapshotFile.OtherLemmas.{one_other, one_kept}
use Rattle.sled_log.proofs.snapshot.file.remove_other.Goals as goal

-- two numbers whose bits are the same, or not
one_number : (a b : ℤ) → FitsSigned w64 a → FitsSigned w64 b → cast_unsigned w64 a ≡ cast_unsigned w64 b → a ≡ b
one_number a b fits_a fits_b same = sym (to_z-of_z w64 a fits_a) ∙ ap (cast_signed w64) same ∙ to_z-of_z w64 b fits_b

pub returns-then-number-kept-clause-done : goal.returns-then-number-kept-clause-done
returns-then-number-kept-clause-done g c =
    let fits : FitsSigned w64 c.args.number.now = search rules in
    let same : c.args.number.now ≡ c.args.kept = one_number c.args.number.now c.args.kept fits c.ranges.kept c.if-number-kept.true in
    let old = g.D.Device.trace c.args.device.now in
    subst (λ (ns : List ℤ). old ≡ after_all (removing_snapshots ns) old) (sym (one_kept c.args.kept c.args.number.now same)) refl

pub returns-then-number-kept-clause-calls : goal.returns-then-number-kept-clause-calls
returns-then-number-kept-clause-calls g c =
    let fits : FitsSigned w64 c.args.number.now = search rules in
    let same : c.args.number.now ≡ c.args.kept = one_number c.args.number.now c.args.kept fits c.ranges.kept c.if-number-kept.true in
    let old = g.D.Device.trace c.args.device.now in
    subst (λ (ns : List ℤ). Performs (removing_snapshots ns) old old) (sym (one_kept c.args.kept c.args.number.now same)) (performs_none old)

pub returns-in_err-snapshot_remove-clause-calls : goal.returns-in_err-snapshot_remove-clause-calls
returns-in_err-snapshot_remove-clause-calls g c =
    let fits : FitsSigned w64 c.args.number.now = search rules in
    let same : cast_signed w64 (cast_unsigned w64 c.args.number.now) ≡ c.args.number.now = to_z-of_z w64 c.args.number.now fits in
    let other : c.args.number.now ≢ c.args.kept = λ e. c.if-number-kept.false (ap (cast_unsigned w64) e) in
    let old = g.D.Device.trace c.args.device.now in
    let new = g.D.Device.trace c.snapshot_remove.new.self in
    subst (λ (ns : List ℤ). Performs (removing_snapshots ns) old new) (sym (one_other c.args.kept c.args.number.now other))
    (subst (λ (n : ℤ). Performs (SnapshotRemoved n true ∷ []) old new) same (stop_call (SnapshotRemoved (cast_signed w64 (cast_unsigned w64 c.args.number.now)) true) [] old new c.in_err-snapshot_remove.ensures.trace))

pub returns-clause-done : goal.returns-clause-done
returns-clause-done g c =
    let fits : FitsSigned w64 c.args.number.now = search rules in
    let same : cast_signed w64 (cast_unsigned w64 c.args.number.now) ≡ c.args.number.now = to_z-of_z w64 c.args.number.now fits in
    let other : c.args.number.now ≢ c.args.kept = λ e. c.if-number-kept.false (ap (cast_unsigned w64) e) in
    let old = g.D.Device.trace c.args.device.now in
    let new = g.D.Device.trace c.snapshot_remove.new.self in
    subst (λ (ns : List ℤ). new ≡ after_all (removing_snapshots ns) old) (sym (one_other c.args.kept c.args.number.now other))
    (subst (λ (n : ℤ). new ≡ SnapshotRemoved n true ∷ old) same c.in_ok-snapshot_remove.ensures.trace)

pub returns-clause-calls : goal.returns-clause-calls
returns-clause-calls g c =
    let fits : FitsSigned w64 c.args.number.now = search rules in
    let same : cast_signed w64 (cast_unsigned w64 c.args.number.now) ≡ c.args.number.now = to_z-of_z w64 c.args.number.now fits in
    let other : c.args.number.now ≢ c.args.kept = λ e. c.if-number-kept.false (ap (cast_unsigned w64) e) in
    let old = g.D.Device.trace c.args.device.now in
    let new = g.D.Device.trace c.snapshot_remove.new.self in
    subst (λ (ns : List ℤ). Performs (removing_snapshots ns) old new) (sym (one_other c.args.kept c.args.number.now other))
    (subst (λ (n : ℤ). Performs (SnapshotRemoved n true ∷ []) old new) same
    (performs_all (SnapshotRemoved (cast_signed w64 (cast_unsigned w64 c.args.number.now)) true) [] old new new c.in_ok-snapshot_remove.ensures.trace (performs_none new)))
