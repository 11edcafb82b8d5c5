use Rattle.std.proofs.Common.{◌≡◌, ℤ, List, [], refl, inl, inr, OnOk}
use Rattle.std.specs.Int.{w64, cast_signed, cast_unsigned}
use Rattle.std.proofs.lemmas.Int.{to_z-of_z}
use Rattle.sled_store.specs.Device.{Trace, state_of}
use Rattle.sled_store.specs.Script.{Performs, after_all}
use Rattle.sled_log.specs.WritesBack.{removing_snapshots, others}
use Rattle.sled_store.proofs.Traces.ScriptLemmas.{performs_nothing}
use Rattle.sled_log.proofs.SnapshotFile.OtherLemmas.{are_others}
use Rattle.sled_log.proofs.SnapshotFile.RemovalLemmas.{of_same}
use Rattle.sled_log.proofs.PageTable.TableLemmas.{on_ok}
use Rattle.sled_log.proofs.snapshot.file.remove_others.Goals as goal

pub returns-in_err-numbers-clause-calls : goal.returns-in_err-numbers-clause-calls
returns-in_err-numbers-clause-calls g c = ([], inl refl, performs_nothing [] _ _ c.snapshots.ensures.trace)

pub returns-clause-done : goal.returns-clause-done
returns-clause-done g c =
    let old : Trace = g.D.Device.trace c.args.device.now in
    let new : Trace = g.D.Device.trace c.remove_listed.new.device in
    let ns : List ℤ = c.in_ok-numbers.numbers.items in
    let are = are_others (state_of old).snapshots.file c.args.kept ns c.in_ok-numbers.ensures.numbers c.in_ok-numbers.ensures.ascending in
    on_ok c.remove_listed.result (new ≡ after_all (removing_snapshots (others c.args.kept ns)) old) _ (λ is. (others c.args.kept ns, are, is))
    (of_same (λ k l h. OnOk c.remove_listed.result (new ≡ after_all (removing_snapshots (others k l)) h)) (cast_signed w64 (cast_unsigned w64 c.args.kept)) c.args.kept c.deref.result.now ns (g.D.Device.trace c.snapshots.new.self) old
    (to_z-of_z w64 c.args.kept c.ranges.kept) c.deref.ensures.value c.in_ok-numbers.ensures.trace c.remove_listed.ensures.done)

pub returns-clause-calls : goal.returns-clause-calls
returns-clause-calls g c =
    let old : Trace = g.D.Device.trace c.args.device.now in
    let new : Trace = g.D.Device.trace c.remove_listed.new.device in
    let ns : List ℤ = c.in_ok-numbers.numbers.items in
    let are = are_others (state_of old).snapshots.file c.args.kept ns c.in_ok-numbers.ensures.numbers c.in_ok-numbers.ensures.ascending in
    let calls : Performs (removing_snapshots (others c.args.kept ns)) old new =
    of_same (λ k l h. Performs (removing_snapshots (others k l)) h new) (cast_signed w64 (cast_unsigned w64 c.args.kept)) c.args.kept c.deref.result.now ns (g.D.Device.trace c.snapshots.new.self) old
    (to_z-of_z w64 c.args.kept c.ranges.kept) c.deref.ensures.value c.in_ok-numbers.ensures.trace c.remove_listed.ensures.calls in
    (others c.args.kept ns, inr are, calls)
