use Rattle.std.proofs.Common.{ℤ, [], ◌∷◌, true, subst}
use Rattle.std.specs.Int.{w64, cast_signed, cast_unsigned}
use Rattle.std.proofs.lemmas.Int.{to_z-of_z}
use Rattle.sled_store.specs.Device.{SnapshotFilled, SnapshotPublished, NamesSynced}
use Rattle.sled_store.specs.Script.{Performs}
use Rattle.sled_store.proofs.Traces.ScriptLemmas.{performs_all, stop_call, performs_none}
use Rattle.sled_log.specs.WritesBack.{publishing_file}
use Rattle.sled_log.proofs.snapshot.file.publish.Goals as goal

pub returns-in_err-snapshot_write-clause-calls : goal.returns-in_err-snapshot_write-clause-calls
returns-in_err-snapshot_write-clause-calls g c =
    stop_call (SnapshotFilled c.args.bytes.now c.args.bytes.now) (SnapshotPublished c.args.number true ∷ NamesSynced ∷ []) _ _ c.in_err-snapshot_write.ensures.trace

pub returns-in_err-snapshot_publish-clause-calls : goal.returns-in_err-snapshot_publish-clause-calls
returns-in_err-snapshot_publish-clause-calls g c =
    let number : ℤ = cast_signed w64 (cast_unsigned w64 c.args.number) in
    subst (λ (n : ℤ). Performs (publishing_file c.args.bytes.now n) (g.D.Device.trace c.args.device.now) (g.D.Device.trace c.snapshot_publish.new.self)) (to_z-of_z w64 c.args.number c.ranges.number)
    (performs_all (SnapshotFilled c.args.bytes.now c.args.bytes.now) (SnapshotPublished number true ∷ NamesSynced ∷ []) _ _ _ c.in_ok-snapshot_write.ensures.trace
    (stop_call (SnapshotPublished number true) (NamesSynced ∷ []) _ _ c.in_err-snapshot_publish.ensures.trace))

pub returns-in_err-sync_names-clause-calls : goal.returns-in_err-sync_names-clause-calls
returns-in_err-sync_names-clause-calls g c =
    let number : ℤ = cast_signed w64 (cast_unsigned w64 c.args.number) in
    subst (λ (n : ℤ). Performs (publishing_file c.args.bytes.now n) (g.D.Device.trace c.args.device.now) (g.D.Device.trace c.sync_names.new.self)) (to_z-of_z w64 c.args.number c.ranges.number)
    (performs_all (SnapshotFilled c.args.bytes.now c.args.bytes.now) (SnapshotPublished number true ∷ NamesSynced ∷ []) _ _ _ c.in_ok-snapshot_write.ensures.trace
    (performs_all (SnapshotPublished number true) (NamesSynced ∷ []) _ _ _ c.in_ok-snapshot_publish.ensures.trace (stop_call NamesSynced [] _ _ c.in_err-sync_names.ensures.trace)))

pub returns-clause-calls : goal.returns-clause-calls
returns-clause-calls g c =
    let number : ℤ = cast_signed w64 (cast_unsigned w64 c.args.number) in
    subst (λ (n : ℤ). Performs (publishing_file c.args.bytes.now n) (g.D.Device.trace c.args.device.now) (g.D.Device.trace c.sync_names.new.self)) (to_z-of_z w64 c.args.number c.ranges.number)
    (performs_all (SnapshotFilled c.args.bytes.now c.args.bytes.now) (SnapshotPublished number true ∷ NamesSynced ∷ []) _ _ _ c.in_ok-snapshot_write.ensures.trace
    (performs_all (SnapshotPublished number true) (NamesSynced ∷ []) _ _ _ c.in_ok-snapshot_publish.ensures.trace (performs_all NamesSynced [] _ _ _ c.in_ok-sync_names.ensures.trace (performs_none _))))
