use Rattle.std.proofs.Common.{◌≡◌, ◌∙◌, ℤ, List, subst, pos, take}
use Rattle.std.proofs.lemmas.List.{take_all}
use Rattle.std.specs.Int.{w64, cast_signed, cast_unsigned}
use Rattle.std.proofs.lemmas.Int.{to_z-of_z}
use Rattle.sled_store.specs.Device.{Trace}
use Rattle.sled_store.specs.Script.{Performs, after_all}
use Rattle.sled_log.specs.WritesBack.{removing_snapshots, others}
use Rattle.sled_store.proofs.Traces.ScriptLemmas.{performs_whole}
use Rattle.sled_log.proofs.SnapshotFile.RemovalLemmas.{removed_more, removals_begun}
use Rattle.sled_log.proofs.snapshot.file.remove_listed.Goals as goal

pub returns-in_err-remove_other-clause-calls : goal.returns-in_err-remove_other-clause-calls
returns-in_err-remove_other-clause-calls g c =
    let kept : ℤ = cast_signed w64 (cast_unsigned w64 c.args.kept) in
    let old : Trace = g.D.Device.trace c.args.device.now in
    let new : Trace = g.D.Device.trace c.remove_other.new.device in
    subst (λ (k : ℤ). Performs (removing_snapshots (others k c.args.numbers.now)) old new) (to_z-of_z w64 c.args.kept c.ranges.kept)
    (removals_begun kept c.args.numbers.now c.loop-number.number-index (pos 0) c.loop-number-test.true old (g.D.Device.trace c.loop-number.device) new c.loop-number.invariant.removed c.remove_other.ensures.calls)

pub loop-number-preserved : goal.loop-number-preserved
loop-number-preserved g c =
    let kept : ℤ = cast_signed w64 (cast_unsigned w64 c.args.kept) in
    record {
      removed = removed_more kept c.args.numbers.now c.loop-number.number-index (pos 0) c.loop-number-test.true (g.D.Device.trace c.args.device.now) (g.D.Device.trace c.loop-number.device) (g.D.Device.trace c.remove_other.new.device) c.loop-number.invariant.removed c.in_ok-remove_other.ensures.done;
      faults = c.in_ok-remove_other.ensures.answers ∙ c.loop-number.invariant.faults;
    }

pub returns-clause-calls : goal.returns-clause-calls
returns-clause-calls g c =
    let ns : List ℤ = c.args.numbers.now in
    let old : Trace = g.D.Device.trace c.args.device.now in
    let new : Trace = g.D.Device.trace c.loop-number.device in
    let whole : take c.loop-number.number-index ns ≡ ns = take_all c.loop-number.number-index ns c.loop-number-test.false in
    subst (λ (k : ℤ). Performs (removing_snapshots (others k ns)) old new) (to_z-of_z w64 c.args.kept c.ranges.kept)
    (performs_whole (removing_snapshots (others (cast_signed w64 (cast_unsigned w64 c.args.kept)) ns)) old new
    (subst (λ (l : List ℤ). new ≡ after_all (removing_snapshots (others (cast_signed w64 (cast_unsigned w64 c.args.kept)) l)) old) whole c.loop-number.invariant.removed))
